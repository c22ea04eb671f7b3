-- An image by the one table of roots, and the values at the leaves of any tree that is that table.
use Prim.Native.Nat.{ℕ, zero, suc, ◌+◌, ◌-◌, ◌*◌, ◌%◌, ◌^◌, ◌<◌, ◌≤◌}
use lib.IntN.{ℤ, pos}
use lib.ListN.{get_or}
use mathlib.Core.List.{List}
use mathlib.Core.Logic.{inl, inr}
use mathlib.Core.Path.{◌≡◌, refl, sym, ap, ◌∙◌}
use native.Mathlib.Nat.{pow-suc, pow-zero}
use native.Mathlib.Omega.{arith}
use Rattle.std.proofs.lemmas.Bool.{cases_lt}
use Rattle.std.proofs.lemmas.List.{ext_get_or}
use Rattle.heco_ring.proofs.Remainders.{rem_cong, cong_rem}
use Rattle.heco_transform.specs.Images.{IsImage}
use Rattle.heco_transform.specs.Modulus.{modulus, psi}
use Rattle.heco_transform.specs.Tables.{Layers}
use Rattle.heco_transform.specs.Values.{node, value_at, Values}

-- two tables of powers of one number agree
entries_agree : (x d l k : ℕ) (t u : List ℕ) → Layers x d t → Layers x d u → l ≤ d → k < 2 ^ l → get_or t k 0 ≡ get_or u k 0
entries_agree x d zero k t u s r h b = let z : k ≡ 0 = omega (arith, pow-zero 2) in rw (z, s.first, r.first) refl
entries_agree x d (suc l) k t u s r h b = elim (cases_lt k (2 ^ l)) [
  | inl lt ↦ entries_agree x d l k t u s r (omega arith) lt
  | inr ge ↦ (let i : 2 ^ l + (k - 2 ^ l) ≡ k = omega arith in
      let il : k - 2 ^ l < 2 ^ l = omega (arith, pow-suc 2 l) in
      rw i at (s.layer l (k - 2 ^ l) (omega arith) il ∙ ap (λ (y : ℕ). y * (x ^ 2 ^ (9 - l) % modulus) % modulus) (entries_agree x d l (k - 2 ^ l) t u s r (omega arith) il) ∙ sym (r.layer l (k - 2 ^ l) (omega arith) il)))
]

tables_agree : (x d : ℕ) (t u : List ℕ) → Layers x d t → Layers x d u → t ≡ u
tables_agree x d t u s r = ext_get_or 0 t u (s.long ∙ sym (r.long)) (λ k l. entries_agree x d d k t u s r (omega arith) (omega (arith, s.long)))

pub image_of_values : (d : ℕ) (t : List ℕ) (a : List ℤ) (v : List ℕ) → Layers psi d t → Values modulus (2 ^ d) 1 t a v → IsImage d a v
image_of_values d t a v s w = record {
  each = λ u r k l.
      let e : 2 ^ d * 1 + k ≡ 2 ^ d + k = omega arith in
      rw (tables_agree psi d u t r s) (rem_cong modulus (pos (get_or v k 0)) (value_at (2 ^ d) a (node t (2 ^ d + k))) (omega arith) (rw e at (w.each k l)));
}

pub values_of_image : (d : ℕ) (t : List ℕ) (a : List ℤ) (v : List ℕ) → Layers psi d t → IsImage d a v → Values modulus (2 ^ d) 1 t a v
values_of_image d t a v s i = record {
  each = λ k l.
      let e : 2 ^ d * 1 + k ≡ 2 ^ d + k = omega arith in
      rw e (cong_rem modulus (pos (get_or v k 0)) (value_at (2 ^ d) a (node t (2 ^ d + k))) (omega arith) (i.each t s k l));
}
