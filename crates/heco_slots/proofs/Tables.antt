-- Tables of powers, and masks of powers of two.
use Prim.Native.Nat.{ℕ, ◌+◌, ◌*◌, ◌-◌, ◌%◌, ◌^◌, ◌<◌}
use native.Mathlib.Omega.{arith}
use native.Mathlib.Nat.{pow-suc, pow-zero}
use mathlib.Core.Path.{◌≡◌, sym, ap, ◌∙◌}
use mathlib.Core.Logic.{inl, inr}
use mathlib.Core.List.{List, [], ◌∷◌, ◌++◌}
use lib.Bits.{bit_and}
use lib.ListN.{length, get_or}
use Rattle.std.proofs.lemmas.Bool.{cases_eq}
use Rattle.std.proofs.lemmas.Nat.{mul-mod_first, pow-add, and_mask, mod_below}
use Rattle.std.proofs.lemmas.List.{get_or_append_left, length-append, get_or_default}
use Rattle.std.proofs.Math.Seq.{get_or-append_seam}
use Rattle.heco_ring.proofs.Powers.{power_up}
use Rattle.heco_slots.specs.Tables.{Powers}

pub powers_more : (x m i v : ℕ) (xs ys : List ℕ) → Powers x m i xs → v ≡ x ^ i % m → ys ≡ xs ++ v ∷ [] → Powers x m (i + 1) ys
powers_more x m i v xs ys P e f = rw f (record {
  long = length-append xs (v ∷ []) ∙ omega (arith, P.long);
  each = λ k h. elim (cases_eq k i) [
    | inl d ↦ rw d ((rw (P.long) at (get_or-append_seam xs v [] 0)) ∙ e)
    | inr ne ↦ (let l : k < length xs = omega (arith, P.long) in get_or_append_left xs (v ∷ []) 0 k l ∙ P.each k (omega arith))
  ];
})

pub next_power : (x m i p a b w : ℕ) → p ≡ x ^ i % m → a ≡ p → b ≡ x → w ≡ m → a * b % w ≡ x ^ (i + 1) % m
next_power x m i p a b w e f g h = rw (f, g, h, e) (mul-mod_first (x ^ i) x m ∙ ap (λ (y : ℕ). y % m) (sym (pow-add x i 1 ∙ one (x ^ i) x)))
  where
    one : (y x : ℕ) → y * x ^ 1 ≡ y * x
    one y x = ap (λ (u : ℕ). y * u) (pow-suc x 0 ∙ rw (pow-zero x) (omega arith))

-- the last bits of x are its remainder by 2n
pub and_last : (n d x : ℕ) → n ≡ 2 ^ (d + 2) → bit_and x (2 * n - 1) ≡ x % (2 * n)
and_last n d x e = let f : 2 * n ≡ 2 ^ (d + 2 + 1) = ap (λ (y : ℕ). 2 * y) e ∙ sym (power_up (d + 2)) in rw f (and_mask x (d + 2 + 1))

-- ---- entries
pub entry : (x m n i y : ℕ) (xs : List ℕ) → Powers x m n xs → i < n → y ≡ get_or xs i y → y ≡ x ^ i % m
entry x m n i y xs P h e = e ∙ get_or_default xs i y 0 (omega (arith, P.long)) ∙ P.each i h

pub entry_masked : (z t n d x y : ℕ) (xs : List ℕ) → n ≡ 2 ^ (d + 2) → 0 < n → Powers z t (2 * n) xs → y ≡ get_or xs (bit_and x (2 * n - 1)) y → y ≡ z ^ (x % (2 * n)) % t
entry_masked z t n d x y xs e h P f = entry z t (2 * n) (x % (2 * n)) y xs P (mod_below x (2 * n) (omega arith)) (rw (and_last n d x e) at f)

pub entry_below : (z t e y : ℕ) → 0 < t → y ≡ z ^ e % t → y < t
entry_below z t e y h f = rw f (mod_below (z ^ e) t h)
