use Rattle.std.proofs.Common.{◌≡◌, ℕ, zero, suc, Bool, true, false, ◌||◌, ◌<◌, List, refl, ap, sym, ◌∙◌, arith}
use Rattle.std.proofs.Math.Nat.{mod-eq_of_lt}
use Rattle.heco_written.specs.World.{World}
use Rattle.heco_written.specs.ScalarTerm.{ScalarTerm, Number, scalar_value}
use Rattle.heco_written.specs.Proper.{IsProper, is_zero}
use Rattle.heco_written.specs.VectorTerm.{slot_value}
use Rattle.heco_written.specs.WrittenForm.{WrittenHome, Known, At, written, home_value, is_known, ElementsWithin}
use Rattle.heco_written.proofs.WrittenLaw.{home_value-written}
use Rattle.heco_written.proofs.MadeTerms.{is_known-written}
use Rattle.heco_ir.specs.declared.vector.VNode.{VNode}
use Rattle.heco_ir.specs.Terms.{vector_at, vector_terms}
use Rattle.heco_batch.specs.declared.home.NodeHome.{NodeHome}
use Rattle.heco_batch.specs.declared.home.NodeHome.TheVariants.{Number as NumberNode, At as AtNode}
use Rattle.heco_batch.specs.declared.written.NodeWritten.{NodeWritten}
use Rattle.heco_batch.specs.inside.Written.{WrittenIs}
use Rattle.heco_batch.specs.inside.Homes.{HomeIs, IsNoZero}

-- what a home among the nodes holds under given inputs
abbrev pub node_home_value : World → List VNode → NodeHome → ℕ
node_home_value w nodes (NumberNode c) = c
node_home_value w nodes (AtNode d) = slot_value w (vector_at (vector_terms nodes) d.node) d.slot

home_holds : (w : World) (nodes : List VNode) (d : NodeHome) (h : WrittenHome) → HomeIs nodes w.slots w.modulus d h → node_home_value w nodes d ≡ home_value w h
home_holds w nodes (NumberNode c) (Known e) i = i.0 ∙ sym (mod-eq_of_lt (rw i.0 at i.1))
home_holds w nodes (AtNode d) (At p) i = ap (λ q. slot_value w q.vector q.slot) i.0.is
home_holds w nodes (NumberNode c) (At p) i = absurd i
home_holds w nodes (AtNode d) (Known e) i = absurd i

-- a home as the written form gives holds the term's value
pub home_means : (w : World) (nodes : List VNode) (d : NodeHome) (x : ScalarTerm) → 0 < w.modulus → 0 < w.slots → ElementsWithin w.slots x
    → HomeIs nodes w.slots w.modulus d (written w.modulus w.slots x).home → node_home_value w nodes d ≡ scalar_value w x
home_means w nodes d x some room within i = home_holds w nodes d (written w.modulus w.slots x).home i ∙ home_value-written w some room x within

known : (nodes : List VNode) (slots modulus c : ℕ) (h : WrittenHome) → is_known h ≡ false → HomeIs nodes slots modulus (NumberNode c) h → ⊥
known nodes slots modulus c (Known d) e i = cc
known nodes slots modulus c (At p) e i = i

-- the home of a term that is not 0 is not the number 0
pub no_zero : (nodes : List VNode) (slots modulus : ℕ) (d : NodeHome) (x : ScalarTerm) → 0 < modulus → IsProper modulus slots x → is_zero x ≡ false
    → HomeIs nodes slots modulus d (written modulus slots x).home → IsNoZero d
no_zero nodes slots modulus (AtNode p) x some h z i = tt
no_zero nodes slots modulus (NumberNode c) (Number zero) some h z i = cc
no_zero nodes slots modulus (NumberNode c) (Number (suc e)) some h z i = omega (arith, i.0)
no_zero nodes slots modulus (NumberNode c) x some h z i = absurd (known nodes slots modulus c (written modulus slots x).home (is_known-written modulus slots some x h) i)

-- a factor of a product that is made is not the number 0
pub factor : (nodes : List VNode) (slots modulus : ℕ) (d : NodeWritten) (x : ScalarTerm) → 0 < modulus → IsProper modulus slots x → is_zero x ≡ false
    → WrittenIs nodes slots modulus d x → IsNoZero d.home
factor nodes slots modulus d x some h z w = no_zero nodes slots modulus d.home x some h z w.home_is

pub left_false : (a b : Bool) → (a || b) ≡ false → a ≡ false
left_false true b h = cc
left_false false b h = refl

pub right_false : (a b : Bool) → (a || b) ≡ false → b ≡ false
right_false true b h = cc
right_false false b h = h
