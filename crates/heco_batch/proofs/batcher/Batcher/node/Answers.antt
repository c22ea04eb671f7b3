use Rattle.std.proofs.Common.{◌≡◌, length, true}
use Rattle.std.proofs.Common.{[], ◌∷◌}
use Rattle.heco_ir.specs.Terms.{scalar_term_over}
use Rattle.heco_ir.specs.Values.{all_below}
use Rattle.heco_ir.proofs.Unique.{below_one, below_two}
use Rattle.heco_batch.proofs.TableRead.{table_at}
use Rattle.std.proofs.Common.{arith, refl}
use Rattle.heco_batch.proofs.HomeMeans.{factor, left_false, right_false}
use Rattle.heco_written.specs.Proper.{IsProper}
use Rattle.heco_ir.specs.declared.scalar.SNode.TheVariants.{Prod, Num, Elem}
use Rattle.heco_ir.proofs.Extended.{extends_gates}
use Rattle.heco_batch.proofs.batcher.Batcher.node.Goals as goal

pub summed-requires-clause-left : goal.summed-requires-clause-left
summed-requires-clause-left c =
    let b : all_below (length c.args.table.now) (c.in-Sum.x.0 ∷ c.in-Sum.y.0 ∷ []) ≡ true = rw c.in-Sum.is at c.requires.operands in
    let (ts, t, p) = c.requires.table in
    (_, table_at c.args.c.now c.args.self.slots c.args.self.modulus c.args.table.now ts c.in-Sum.x.0 _ t (below_one _ c.in-Sum.x.0 (c.in-Sum.y.0 ∷ []) b))

pub summed-requires-clause-right : goal.summed-requires-clause-right
summed-requires-clause-right c =
    let b : all_below (length c.args.table.now) (c.in-Sum.x.0 ∷ c.in-Sum.y.0 ∷ []) ≡ true = rw c.in-Sum.is at c.requires.operands in
    let (ts, t, p) = c.requires.table in
    (_, table_at c.args.c.now c.args.self.slots c.args.self.modulus c.args.table.now ts c.in-Sum.y.0 _ t (below_two _ c.in-Sum.x.0 c.in-Sum.y.0 b))

pub product-requires-clause-left : goal.product-requires-clause-left
product-requires-clause-left c =
    let b : all_below (length c.args.table.now) (c.in-Prod.x.0 ∷ c.in-Prod.y.0 ∷ []) ≡ true = rw c.in-Prod.is at c.requires.operands in
    let (ts, t, p) = c.requires.table in
    (_, table_at c.args.c.now c.args.self.slots c.args.self.modulus c.args.table.now ts c.in-Prod.x.0 _ t (below_one _ c.in-Prod.x.0 (c.in-Prod.y.0 ∷ []) b))

pub product-requires-clause-right : goal.product-requires-clause-right
product-requires-clause-right c =
    let b : all_below (length c.args.table.now) (c.in-Prod.x.0 ∷ c.in-Prod.y.0 ∷ []) ≡ true = rw c.in-Prod.is at c.requires.operands in
    let (ts, t, p) = c.requires.table in
    (_, table_at c.args.c.now c.args.self.slots c.args.self.modulus c.args.table.now ts c.in-Prod.y.0 _ t (below_two _ c.in-Prod.x.0 c.in-Prod.y.0 b))

pub negation-requires-clause-of : goal.negation-requires-clause-of
negation-requires-clause-of c =
    let b : all_below (length c.args.table.now) (c.in-Neg.x.0 ∷ []) ≡ true = rw c.in-Neg.is at c.requires.operands in
    let (ts, t, p) = c.requires.table in
    (_, table_at c.args.c.now c.args.self.slots c.args.self.modulus c.args.table.now ts c.in-Neg.x.0 _ t (below_one _ c.in-Neg.x.0 [] b))

pub returns-in-Sum-clause-written : goal.returns-in-Sum-clause-written
returns-in-Sum-clause-written c = λ ts t.
    let b : all_below (length c.args.table.now) (c.in-Sum.x.0 ∷ c.in-Sum.y.0 ∷ []) ≡ true = rw c.in-Sum.is at c.requires.operands in
    rw c.in-Sum.is (c.summed.ensures.written _ _
    (table_at c.args.c.now c.args.self.slots c.args.self.modulus c.args.table.now ts c.in-Sum.x.0 _ t (below_one _ c.in-Sum.x.0 (c.in-Sum.y.0 ∷ []) b))
    (table_at c.args.c.now c.args.self.slots c.args.self.modulus c.args.table.now ts c.in-Sum.y.0 _ t (below_two _ c.in-Sum.x.0 c.in-Sum.y.0 b)))

pub returns-in-Prod-clause-written : goal.returns-in-Prod-clause-written
returns-in-Prod-clause-written c = λ ts t.
    let b : all_below (length c.args.table.now) (c.in-Prod.x.0 ∷ c.in-Prod.y.0 ∷ []) ≡ true = rw c.in-Prod.is at c.requires.operands in
    rw c.in-Prod.is (c.product.ensures.written _ _
    (table_at c.args.c.now c.args.self.slots c.args.self.modulus c.args.table.now ts c.in-Prod.x.0 _ t (below_one _ c.in-Prod.x.0 (c.in-Prod.y.0 ∷ []) b))
    (table_at c.args.c.now c.args.self.slots c.args.self.modulus c.args.table.now ts c.in-Prod.y.0 _ t (below_two _ c.in-Prod.x.0 c.in-Prod.y.0 b)))

pub returns-in-Neg-clause-written : goal.returns-in-Neg-clause-written
returns-in-Neg-clause-written c = λ ts t.
    let b : all_below (length c.args.table.now) (c.in-Neg.x.0 ∷ []) ≡ true = rw c.in-Neg.is at c.requires.operands in
    rw c.in-Neg.is (c.negation.ensures.written _
    (table_at c.args.c.now c.args.self.slots c.args.self.modulus c.args.table.now ts c.in-Neg.x.0 _ t (below_one _ c.in-Neg.x.0 [] b)))

pub product-requires-clause-left_factor : goal.product-requires-clause-left_factor
product-requires-clause-left_factor c =
    let b : all_below (length c.args.table.now) (c.in-Prod.x.0 ∷ c.in-Prod.y.0 ∷ []) ≡ true = rw c.in-Prod.is at c.requires.operands in
    let (ts, t, p) = c.requires.table in
    let q : IsProper c.args.self.modulus c.args.self.slots (scalar_term_over ts (Prod c.in-Prod.x c.in-Prod.y)) = rw c.in-Prod.is at p in
    factor _ _ _ _ _ c.args.self.some q.0 (left_false _ _ q.3)
    (table_at c.args.c.now c.args.self.slots c.args.self.modulus c.args.table.now ts c.in-Prod.x.0 _ t (below_one _ c.in-Prod.x.0 (c.in-Prod.y.0 ∷ []) b))

pub product-requires-clause-right_factor : goal.product-requires-clause-right_factor
product-requires-clause-right_factor c =
    let b : all_below (length c.args.table.now) (c.in-Prod.x.0 ∷ c.in-Prod.y.0 ∷ []) ≡ true = rw c.in-Prod.is at c.requires.operands in
    let (ts, t, p) = c.requires.table in
    let q : IsProper c.args.self.modulus c.args.self.slots (scalar_term_over ts (Prod c.in-Prod.x c.in-Prod.y)) = rw c.in-Prod.is at p in
    factor _ _ _ _ _ c.args.self.some q.1 (right_false _ _ q.3)
    (table_at c.args.c.now c.args.self.slots c.args.self.modulus c.args.table.now ts c.in-Prod.y.0 _ t (below_two _ c.in-Prod.x.0 c.in-Prod.y.0 b))

pub element-requires-clause-slot : goal.element-requires-clause-slot
element-requires-clause-slot c =
    let (ts, t, p) = c.requires.table in
    let q : IsProper c.args.self.modulus c.args.self.slots (scalar_term_over ts (Elem c.in-Elem.a c.in-Elem.i)) = rw c.in-Elem.is at p in q

pub returns-in-Num-clause-written : goal.returns-in-Num-clause-written
returns-in-Num-clause-written c = λ us u.
    let (ts, t, p) = c.requires.table in
    let q : IsProper c.args.self.modulus c.args.self.slots (scalar_term_over ts (Num c.in-Num.k)) = rw c.in-Num.is at p in
    rw c.in-Num.is (record { home_is = (refl, q); members_are = refl })

pub returns-in-Elem-clause-gates : goal.returns-in-Elem-clause-gates
returns-in-Elem-clause-gates c = omega (arith, c.element.ensures.free)

pub returns-in-Elem-clause-fits : goal.returns-in-Elem-clause-fits
returns-in-Elem-clause-fits c = λ es k h. c.element.ensures.fits es (rw c.in-Elem.is at k) h

pub returns-in-Sum-clause-gates : goal.returns-in-Sum-clause-gates
returns-in-Sum-clause-gates c = rw c.in-Sum.is (omega (arith, extends_gates c.summed.ensures.stands))

pub returns-in-Sum-clause-fits : goal.returns-in-Sum-clause-fits
returns-in-Sum-clause-fits c = λ es k h. c.summed.ensures.fits es h

pub returns-in-Prod-clause-gates : goal.returns-in-Prod-clause-gates
returns-in-Prod-clause-gates c = rw c.in-Prod.is (omega (arith, extends_gates c.product.ensures.stands))

pub returns-in-Prod-clause-fits : goal.returns-in-Prod-clause-fits
returns-in-Prod-clause-fits c = λ es k h. c.product.ensures.fits es h

pub returns-in-Neg-clause-gates : goal.returns-in-Neg-clause-gates
returns-in-Neg-clause-gates c = rw c.in-Neg.is (omega (arith, extends_gates c.negation.ensures.stands))

pub returns-in-Neg-clause-fits : goal.returns-in-Neg-clause-fits
returns-in-Neg-clause-fits c = λ es k h. c.negation.ensures.fits es h
