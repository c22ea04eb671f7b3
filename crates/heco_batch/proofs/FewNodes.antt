-- Nodes that stand once are as many as their gates and their inputs.
use Rattle.std.proofs.Common.{◌≡◌, ℕ, zero, suc, ◌+◌, ◌<◌, ◌≤◌, List, [], ◌∷◌, length, refl, ap, sym, ◌∙◌, arith, get_or, ◌⊎◌, inl, inr}
use Rattle.std.specs.Prelude.{Some}
use Rattle.std.proofs.lemmas.Option.{slice_get-get_or}
use Rattle.heco_written.proofs.Members.{Member, Distinct, distinct_places, total, total_within}
use Rattle.heco_ir.specs.declared.scalar.SNode.{SNode}
use Rattle.heco_ir.specs.declared.vector.VNode.{VNode}
use Rattle.heco_ir.specs.declared.vector.VNode.TheVariants.{Input, Mul}
use Rattle.heco_ir.specs.Ranges.{Fits, AllFit, node_gates, gates_of_nodes}
use Rattle.heco_ir.specs.Used.{EachOnce}
use Rattle.heco_ir.specs.Unrolled.{AllElementsBelow}
use native.Mathlib.Decide.{dec_lt}

abbrev inputs_in : VNode → ℕ
inputs_in (Input a) = 1
inputs_in n = 0

abbrev inputs_below : ℕ → List VNode
inputs_below zero = []
inputs_below (suc a) = Input a ∷ inputs_below a

total-inputs_below : (k : ℕ) → total inputs_in (inputs_below k) ≡ k
total-inputs_below zero = refl
total-inputs_below (suc k) = omega (arith, total-inputs_below k)

is_below : (a k : ℕ) → a < k → Member (Input a) (inputs_below k)
is_below a zero h = absurd (omega arith)
is_below a (suc k) h =
    elim (dec_lt a k) [
      | Prim.yes l ↦ inr (is_below a k l)
      | Prim.no l ↦ let e : a ≡ k = omega arith in inl (ap Input e)
    ]

counts : (n : VNode) → 1 ≤ node_gates n + inputs_in n
counts (Input a) = omega arith
counts (Mul v u) = omega arith
counts n = omega arith

length-counts : (ns : List VNode) → length ns ≤ gates_of_nodes ns + total inputs_in ns
length-counts [] = omega arith
length-counts (n ∷ ns) = omega (arith, length-counts ns, counts n)

fits-at : (slots modulus : ℕ) (es : List SNode) (ns : List VNode) (n : VNode) → AllFit slots modulus es ns → Member n ns → Fits slots modulus es n
fits-at slots modulus es [] n h m = absurd m
fits-at slots modulus es (x ∷ ns) n h (inl e) = rw e h.0
fits-at slots modulus es (x ∷ ns) n h (inr m) = fits-at slots modulus es ns n h.1 m

distinct : (ns : List VNode) → EachOnce ns → Distinct ns
distinct ns once =
    distinct_places ns (Input 0) (λ i j hi hj e. once i j (get_or ns i (Input 0)) (slice_get-get_or ns i (Input 0) hi) (slice_get-get_or ns j (Input 0) hj ∙ ap Some (sym e)))

among : (slots modulus : ℕ) (es : List SNode) (k : ℕ) → AllElementsBelow k es → (n : VNode) → Fits slots modulus es n → (inputs_in n ≡ 0) ⊎ Member n (inputs_below k)
among slots modulus es k below (Input a) (i, c) = inr (is_below a k (below a i c))
among slots modulus es k below n f = inl refl

pub few_nodes : (slots modulus : ℕ) (es : List SNode) (ns : List VNode) (k : ℕ) → EachOnce ns → AllFit slots modulus es ns → AllElementsBelow k es
    → length ns ≤ gates_of_nodes ns + k
few_nodes slots modulus es ns k once fits below =
    let within : total inputs_in ns ≤ total inputs_in (inputs_below k) =
    total_within inputs_in ns (inputs_below k) (distinct ns once) (λ n m. among slots modulus es k below n (fits-at slots modulus es ns n fits m)) in
    omega (arith, within, total-inputs_below k, length-counts ns)
