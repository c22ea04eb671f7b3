-- A turn keeps sizes: each place is reached once.
use Prim.Native.Nat.{ℕ, ◌<◌, ◌+◌, ◌*◌, ◌/◌, ◌%◌, ◌≤◌}
use lib.IntN.{ℤ, ◌*ℤ◌, nat_abs}
use mathlib.Core.List.{List}
use mathlib.Core.Logic.{inl, inr, ◌⊎◌}
use mathlib.Core.Path.{◌≡◌, sym, ap, ◌∙◌}
use native.Mathlib.Nat.{mul-add-mod_self_left, mod-eq_of_lt, add-mod_right, le_trans}
use native.Mathlib.Omega.{arith}
use Rattle.std.proofs.lemmas.Bool.{cases_eq}
use Rattle.std.proofs.lemmas.Nat.{mul-mod_second, mod_below, mul-mod_first}
use Rattle.heco_ring.proofs.Integers.{z_mul_one, z_mul_zero, z_mul_minus}
use Rattle.heco_ring.proofs.Pairing.{sign_here, sign_past, sign_else, sum_one}
use Rattle.heco_ring.proofs.Sizes.{abs_neg}
use Rattle.heco_ring.specs.Ring.{at, sign, turn_at}

-- the sign is 0, 1 or -1
sign_size : (n m k : ℕ) (x : ℤ) → 0 < n → nat_abs (x *ℤ sign n m k) ≤ nat_abs x
sign_size n m k x h = elim (cases_eq m k) [
  | inl e ↦ rw (e, sign_here n k, z_mul_one x) (omega arith)
  | inr ne ↦ elim (cases_eq m (k + n)) [
    | inl e ↦ rw (e, sign_past n k h, z_mul_minus x, abs_neg x) (omega arith)
    | inr nk ↦ rw (sign_else n m k ne nk, z_mul_zero x) (omega arith)
  ]
]

low : (n x : ℕ) → (x % (2 * n)) % n ≡ x % n
low n x = let e : n * (2 * (x / (2 * n))) + x % (2 * n) ≡ x = omega arith in sym (mul-add-mod_self_left n (2 * (x / (2 * n))) (x % (2 * n))) ∙ ap (λ (v : ℕ). v % n) e

-- only place k g' mod n goes to place k, where g g' is 1 modulo 2n
pub turn_size : (n g g' A k : ℕ) (a : List ℤ) → k < n → (g * g') % (2 * n) ≡ 1 → ((i : ℕ) → i < n → nat_abs (at a i) ≤ A) → nat_abs (turn_at n a g k) ≤ A
unfolding turn_at
turn_size n g g' A k a h e s =
    let c : ℕ = (k * g') % n in
    let cl : c < n = mod_below (k * g') n (omega arith) in
    rw (sum_one n c (λ i. at a i *ℤ sign n (i * g % (2 * n)) k) cl (λ i il ne. rw (sign_else n (i * g % (2 * n)) k (λ q. ne (back n g g' k i il h e (inl q))) (λ q. ne (back n g g' k i il h e (inr q)))) (z_mul_zero (at a i))))
    (le_trans (sign_size n (c * g % (2 * n)) k (at a c) (omega arith)) (s c cl))
  where
    back : (n g g' k i : ℕ) → i < n → k < n → (g * g') % (2 * n) ≡ 1 → ((i * g % (2 * n) ≡ k) ⊎ (i * g % (2 * n) ≡ k + n)) → i ≡ (k * g') % n
    back n g g' k i il kl e q =
        let r : (i * g) % n ≡ k = sym (low n (i * g)) ∙ elim q [ inl u ↦ (ap (λ (v : ℕ). v % n) u ∙ mod-eq_of_lt kl) | inr u ↦ (ap (λ (v : ℕ). v % n) u ∙ add-mod_right k n ∙ mod-eq_of_lt kl) ] in
        let f : (g * g') % n ≡ 1 % n = sym (low n (g * g')) ∙ ap (λ (v : ℕ). v % n) e in
        let a : i * (g * g') ≡ i * g * g' = omega arith in
        let b : i * 1 ≡ i = omega arith in
        sym (mod-eq_of_lt il) ∙ ap (λ (v : ℕ). v % n) (sym b) ∙ sym (mul-mod_second i 1 n) ∙ ap (λ (v : ℕ). (i * v) % n) (sym f) ∙ mul-mod_second i (g * g') n ∙ ap (λ (v : ℕ). v % n) a ∙ sym (mul-mod_first (i * g) g' n) ∙ ap (λ (v : ℕ). (v * g') % n) r
