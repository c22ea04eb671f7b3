-- Lists whose places agree modulo q.
use Prim.Native.Nat.{ℕ, zero, suc, ◌<◌, ◌*◌, ◌%◌}
use lib.IntN.{ℤ, pos, ◌*ℤ◌}
use mathlib.Core.List.{List}
use native.Mathlib.Omega.{arith}
use Rattle.heco_ring.proofs.Linear.{at-times, at-plus, at-scale, at-negate}
use Rattle.heco_ring.proofs.Remainders.{cong_add, cong_mul, cong_refl, cong_sum, cong_times, cong_neg, cong_trans, cong_sym}
use Rattle.heco_ring.proofs.Turns.{at-turn}
use Rattle.heco_ring.specs.Remainders.{Same}
use Rattle.heco_ring.specs.Ring.{at, table, sign, times, plus, negate, scale, turn_at, turn, sum_lists}

-- Lists whose places agree modulo q.

pub same_refl : (q n : ℕ) (a : List ℤ) → Same q n a a
same_refl q n a = record { each = λ k h. cong_refl q (at a k) }

pub same_sym : (q n : ℕ) (a b : List ℤ) → Same q n a b → Same q n b a
same_sym q n a b s = record { each = λ k h. cong_sym q (at a k) (at b k) (s.each k h) }

pub same_trans : (q n : ℕ) (a b c : List ℤ) → Same q n a b → Same q n b c → Same q n a c
same_trans q n a b c s t = record { each = λ k h. cong_trans q (at a k) (at b k) (at c k) (s.each k h) (t.each k h) }

pub same_plus : (q n : ℕ) (a b c d : List ℤ) → Same q n a b → Same q n c d → Same q n (plus n a c) (plus n b d)
same_plus q n a b c d s t = record { each = λ k h. rw (at-plus n a c k h, at-plus n b d k h) (cong_add q (at a k) (at b k) (at c k) (at d k) (s.each k h) (t.each k h)) }

pub same_times : (q n : ℕ) (a b c d : List ℤ) → Same q n a b → Same q n c d → Same q n (times n a c) (times n b d)
same_times q n a b c d s t = record { each = λ k h. rw (at-times n a c k h, at-times n b d k h) (cong_times q n a b c d k s.each t.each) }

pub same_negate : (q n : ℕ) (a b : List ℤ) → Same q n a b → Same q n (negate n a) (negate n b)
same_negate q n a b s = record { each = λ k h. rw (at-negate n a k h, at-negate n b k h) (cong_neg q (at a k) (at b k) (s.each k h)) }

pub same_scale : (q n : ℕ) (c : ℤ) (a b : List ℤ) → Same q n a b → Same q n (scale n c a) (scale n c b)
same_scale q n c a b s = record { each = λ k h. rw (at-scale n c a k h, at-scale n c b k h) (cong_mul q c c (at a k) (at b k) (cong_refl q c) (s.each k h)) }

pub same_turn_list : (q n g : ℕ) (a b : List ℤ) → Same q n a b → Same q n (turn n a g) (turn n b g)
unfolding turn_at
same_turn_list q n g a b s = record {
  each = λ k h. rw (at-turn n g k a h, at-turn n g k b h)
      (cong_sum q n (λ i. at a i *ℤ sign n (i * g % (2 * n)) k) (λ i. at b i *ℤ sign n (i * g % (2 * n)) k) (λ i l. cong_mul q (at a i) (at b i) (sign n (i * g % (2 * n)) k) (sign n (i * g % (2 * n)) k) (s.each i l) (cong_refl q (sign n (i * g % (2 * n)) k))));
}

pub same_sum_lists : (q n l : ℕ) (f g : ℕ → List ℤ) → ((i : ℕ) → i < l → Same q n (f i) (g i)) → Same q n (sum_lists n l f) (sum_lists n l g)
unfolding sum_lists
same_sum_lists q n zero f g h = same_refl q n (table n (λ k. pos 0))
same_sum_lists q n (suc l) f g h = same_plus q n (sum_lists n l f) (sum_lists n l g) (f l) (g l) (same_sum_lists q n l f g (λ i il. h i (omega arith))) (h l (omega arith))
