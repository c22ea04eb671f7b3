use Rattle.std.proofs.Common.{◌≡◌, map, length}
use lib.ListN.{get_or}
use Rattle.heco_nums.specs.Listed.{listed}
use Rattle.heco_keys.specs.declared.switch_key.SwitchKey.{SwitchKey}
use Rattle.heco_keys.specs.Made.{purpose, source_of, switch_rows, no_rows}
use Rattle.heco_keys.proofs.making.make_switches.Given as goal

abbrev pub invariant-loop-j : goal.invariant-loop-j
invariant-loop-j l = record {
  rows : map (λ (key : SwitchKey). key.rows) l.keys ≡ listed l.j (λ j. switch_rows l.k.preset.n l.k.s (source_of l.k.preset.n l.k.s (purpose l.k.needs.relin l.k.needs.turns j)) (get_or l.k.switch j no_rows).rows);
  long : length l.keys ≡ l.j;
}
