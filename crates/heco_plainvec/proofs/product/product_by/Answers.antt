use Rattle.std.proofs.Common.{◌≡◌, List, ℕ, Bool, true, false, cond, ap, sym, ◌∙◌}
use Rattle.std.specs.Prelude.{Some, None}
use Rattle.heco_nums.specs.Presets.{modulus_of}
use Rattle.heco_circuit.specs.Plans.{is_vector}
use Rattle.heco_plainvec.specs.Gathering.{agree, vector_of}
use Rattle.heco_plainvec.proofs.AskedAll.{vector_fits}
use Rattle.heco_plainvec.proofs.product.product_by.Goals as goal

some_where : (b : Bool) (v w : List ℕ) → Some v ≡ cond b (Some w) None → v ≡ w
some_where true v w e = cc
some_where false v w e = absurd cc

pub product_passes-requires-clause-vector : goal.product_passes-requires-clause-vector
product_passes-requires-clause-vector c =
    let p = c.args.table.now.preset in
    let asks = c.args.asks.now in
    let e = some_where (agree asks) c.in-Some.vector (vector_of p.id asks) (sym c.in-Some.is ∙ c.in_ok-vector.ensures) in
    ap (λ v. is_vector p.t p.slots v) (c.as_slice.ensures ∙ e) ∙ ap (λ t. is_vector t p.slots (vector_of p.id asks)) p.row.4 ∙ ap (λ n. is_vector (modulus_of p.id) n (vector_of p.id asks)) p.row.3
    ∙ vector_fits p.id asks c.requires.asks
