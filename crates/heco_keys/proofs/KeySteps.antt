-- The steps by which keys are made, as congruences.
use Prim.Native.Nat.{ℕ, ◌+◌, ◌*◌, ◌%◌, ◌^◌}
use native.Mathlib.Omega.{arith}
use mathlib.Core.Path.{◌≡◌, sym, ap, ◌∙◌}
use mathlib.Core.List.{List}
use lib.IntN.{ℤ, pos, ◌*ℤ◌}
use Rattle.std.proofs.Common.{subst, add-one}
use Rattle.std.proofs.Math.Nat.{pow-suc}
use Rattle.heco_ring.specs.Ring.{at, wholes, plus, negate, scale, times, turn}
use Rattle.heco_ring.specs.Remainders.{reduced, Same}
use Rattle.heco_ring.proofs.Integers.{z_mul_assoc, z_one_mul}
use Rattle.heco_ring.proofs.Linear.{at-scale}
use Rattle.heco_ring.proofs.Remainders.{cong_refl}
use Rattle.heco_ring.proofs.RingLaws.{times_comm}
use Rattle.heco_ring.proofs.Reduced.{same_wholes, reduced_same}
use Rattle.heco_ring.proofs.Congruence.{same_refl, same_trans, same_plus, same_times, same_negate, same_scale, same_turn_list}
use Rattle.heco_scheme.specs.Keys.{key_part, switch_part, square, turned_secret}

abbrev q : ℕ
q = 2 ^ 58

same_of : (n : ℕ) (X : List ℕ) (a : List ℤ) → X ≡ reduced q n a → Same q n (wholes X) a
same_of n X a e = subst (λ (Y : List ℕ). Same q n (wholes Y) a) (sym e) (same_wholes q n a (omega arith))

-- -(a s + e)
pub masked_is : (n : ℕ) (s e : List ℤ) (a X E Y Z : List ℕ) → X ≡ reduced q n (times n s (wholes a)) → E ≡ reduced q n e → Y ≡ reduced q n (plus n (wholes X) (wholes E)) → Z ≡ reduced q n (negate n (wholes Y)) → Z ≡ key_part n s a e
unfolding key_part
masked_is n s e a X E Y Z x_is e_is y_is z_is =
    let P : List ℤ = times n (wholes a) s in
    let product = same_of n X P (x_is ∙ ap (reduced q n) (times_comm n s (wholes a))) in
    let sum = same_trans q n (wholes Y) (plus n (wholes X) (wholes E)) (plus n P e) (same_of n Y (plus n (wholes X) (wholes E)) y_is) (same_plus q n (wholes X) P (wholes E) e product (same_of n E e e_is)) in
    z_is ∙ reduced_same q n (negate n (wholes Y)) (negate n (plus n P e)) (omega arith) (same_negate q n (wholes Y) (plus n P e) sum)

-- -(a s + e) + 4^i s'
pub switched_is : (n i : ℕ) (s t e : List ℤ) (a F S Z : List ℕ) → F ≡ key_part n s a e → S ≡ reduced q n (scale n (pos (4 ^ i)) t) → Z ≡ reduced q n (plus n (wholes F) (wholes S)) → Z ≡ switch_part n s t i a e
unfolding key_part switch_part
switched_is n i s t e a F S Z f_is s_is z_is =
    let M : List ℤ = negate n (plus n (times n (wholes a) s) e) in
    let T : List ℤ = scale n (pos (4 ^ i)) t in
    z_is ∙ reduced_same q n (plus n (wholes F) (wholes S)) (plus n M T) (omega arith) (same_plus q n (wholes F) M (wholes S) T (same_of n F M f_is) (same_of n S T s_is))

-- s' is 4^0 s'
pub source_begins : (n : ℕ) (t : List ℤ) (S : List ℕ) → S ≡ reduced q n t → S ≡ reduced q n (scale n (pos (4 ^ 0)) t)
source_begins n t S e = e ∙ reduced_same q n t (scale n (pos 1) t) (omega arith) (record { each = λ k h. rw (at-scale n (pos 1) t k h, z_one_mul (at t k)) (cong_refl q (at t k)) })

power_next : (i : ℕ) → 4 * 4 ^ i ≡ 4 ^ (i + 1)
power_next i = let e = pow-suc 4 i in rw add-one (omega arith)

-- 4 times 4^i s' is 4^(i+1) s'
pub source_next : (n i : ℕ) (t : List ℤ) (S T : List ℕ) → S ≡ reduced q n (scale n (pos (4 ^ i)) t) → T ≡ reduced q n (scale n (pos 4) (wholes S)) → T ≡ reduced q n (scale n (pos (4 ^ (i + 1))) t)
source_next n i t S T s_is t_is =
    let A : List ℤ = scale n (pos (4 ^ i)) t in
    let one = same_scale q n (pos 4) (wholes S) A (same_of n S A s_is) in
    let power : 4 * 4 ^ i ≡ 4 ^ (i + 1) = power_next i in
    let two : Same q n (scale n (pos 4) A) (scale n (pos (4 ^ (i + 1))) t) = record { each = λ k h. rw (at-scale n (pos 4) A k h, at-scale n (pos (4 ^ i)) t k h, at-scale n (pos (4 ^ (i + 1))) t k h, ← z_mul_assoc (pos 4) (pos (4 ^ i)) (at t k), ← power) (cong_refl q (pos (4 * 4 ^ i) *ℤ at t k)) } in
    t_is ∙ reduced_same q n (scale n (pos 4) (wholes S)) (scale n (pos (4 ^ (i + 1))) t) (omega arith) (same_trans q n (scale n (pos 4) (wholes S)) (scale n (pos 4) A) (scale n (pos (4 ^ (i + 1))) t) one two)

-- s s
pub squared_is : (n : ℕ) (s : List ℤ) (S X : List ℕ) → S ≡ reduced q n s → X ≡ reduced q n (times n s (wholes S)) → X ≡ reduced q n (square n s)
unfolding square
squared_is n s S X s_is x_is = x_is ∙ reduced_same q n (times n s (wholes S)) (times n s s) (omega arith) (same_times q n s s (wholes S) s (same_refl q n s) (same_of n S s s_is))

-- s turned
pub turned_is : (n r g : ℕ) (s : List ℤ) (S X : List ℕ) → S ≡ reduced q n s → g ≡ 3 ^ r % (2 * n) → X ≡ reduced q n (turn n (wholes S) g) → X ≡ reduced q n (turned_secret n s r)
unfolding turned_secret
turned_is n r g s S X s_is g_is x_is = x_is ∙ reduced_same q n (turn n (wholes S) g) (turn n s g) (omega arith) (same_turn_list q n g (wholes S) s (same_of n S s s_is)) ∙ ap (λ m. reduced q n (turn n s m)) g_is
