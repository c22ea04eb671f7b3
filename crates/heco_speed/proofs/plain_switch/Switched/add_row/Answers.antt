use Rattle.std.proofs.Common.{ℕ, List, [], length, sym, ap, ◌∙◌}
use Rattle.std.proofs.lemmas.Option.{get_or_from_slice_get}
use Rattle.heco_speed.proofs.plain_switch.Switched.add_row.Goals as goal

pub add_product-requires-clause-row : goal.add_product-requires-clause-row
add_product-requires-clause-row c =
    let r = get_or_from_slice_get c.args.key.now.rows c.args.i (c.row.result.0.now, c.row.result.1.now) ([], []) c.row.ensures in
    ap (λ (x : List ℕ × List ℕ). length x.0) (sym r) ∙ c.requires.key.firsts c.args.i c.requires.i ∙ sym c.take.ensures
