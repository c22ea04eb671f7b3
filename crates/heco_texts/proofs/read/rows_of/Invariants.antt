use Rattle.std.proofs.Common.{◌≡◌, take, drop}
use Rattle.std.specs.List.{position_from}
use Rattle.std.specs.Prelude.{is_none}
use Rattle.heco_texts.specs.Rules.{row_named, rows_of}
use Rattle.heco_texts.proofs.read.rows_of.Given as goal

abbrev pub invariant-loop-i : goal.invariant-loop-i
invariant-loop-i l = record {
  rows : l.rows ≡ rows_of l.given (take l.i l.shapes);
  missing : position_from (λ s. is_none (row_named s.name l.given)) 0 l.shapes ≡ position_from (λ s. is_none (row_named s.name l.given)) l.i (drop l.i l.shapes);
}
