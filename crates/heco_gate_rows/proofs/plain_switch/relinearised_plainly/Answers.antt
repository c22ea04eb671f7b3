use Rattle.std.proofs.Common.{ℕ, List, [], length, arith, sym, ap, ◌∙◌}
use Rattle.std.proofs.lemmas.Option.{get_or_from_slice_get}
use Rattle.heco_gate_rows.proofs.plain_switch.relinearised_plainly.Goals as goal

pub add_row-requires-in-loop-i-clause-row : goal.add_row-requires-in-loop-i-clause-row
add_row-requires-in-loop-i-clause-row c =
    let r = get_or_from_slice_get c.args.k.now.rows c.loop-i.i (c.row.result.0.now, c.row.result.1.now) ([], []) c.row.ensures in
    ap (λ (x : List ℕ × List ℕ). length x.1) (sym r) ∙ c.requires.key.seconds c.loop-i.i (omega arith)
