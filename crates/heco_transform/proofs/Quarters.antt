-- A loop that takes two levels at once: four quarters of a list, folded twice, place by place, in their places.
use Prim.Native.Nat.{ℕ, ◌+◌, ◌-◌, ◌*◌, ◌<◌, ◌≤◌}
use lib.IntN.{ℤ, pos, ◌+ℤ◌, ◌*ℤ◌, neg_ℤ}
use lib.ListN.{length, get_or, set}
use mathlib.Core.List.{List, ◌++◌}
use mathlib.Core.Logic.{◌≢◌}
use mathlib.Core.Path.{◌≡◌, refl, ◌∙◌}
use native.Mathlib.Omega.{arith}
use Rattle.std.proofs.Common.{below_more, length-append}
use Rattle.std.proofs.lemmas.List.{get_or-set_same, get_or-set_other, get_or_append_left, get_or-append_right}
use Rattle.heco_ring.proofs.Remainders.{cong_add, cong_mul, cong_refl, cong_trans}
use Rattle.heco_ring.proofs.Wrapping.{at-wholes}
use Rattle.heco_ring.specs.Remainders.{Cong, Same}
use Rattle.heco_ring.specs.Ring.{wholes}
use Rattle.heco_transform.specs.Modulus.{modulus}
use Rattle.heco_transform.specs.Values.{fold, quarters, FoldedTwice}
use Rattle.heco_transform.proofs.Folds.{at-fold}

-- place k of the fold by r of the fold by s
abbrev pub folded : ℤ → ℤ → List ℕ → List ℕ → List ℕ → List ℕ → ℕ → ℤ
folded s r a b c d k = (pos (get_or a k 0) +ℤ s *ℤ pos (get_or c k 0)) +ℤ r *ℤ (pos (get_or b k 0) +ℤ s *ℤ pos (get_or d k 0))

-- the first i places of a quarter are z and below top; the rest are as before
pub record Quarter (h i : ℕ) (z : ℕ → ℤ) (top : ℕ → ℕ) (old new : List ℕ) : Type 0 where
  pub done : (k : ℕ) → k < i → Cong modulus (pos (get_or new k 0)) (z k)
  pub room : (k : ℕ) → k < i → get_or new k 0 < top k
  pub rest : (k : ℕ) → i ≤ k → k < h → get_or new k 0 ≡ get_or old k 0

pub quarter_none : (h : ℕ) (z : ℕ → ℤ) (top : ℕ → ℕ) (old : List ℕ) → Quarter h 0 z top old old
quarter_none h z top old = record {
  done = λ k l. absurd (omega arith);
  room = λ k l. absurd (omega arith);
  rest = λ k g l. refl;
}

pub quarter_more : (h i r : ℕ) (z : ℕ → ℤ) (top : ℕ → ℕ) (old new : List ℕ) → i < h → length new ≡ h → Quarter h i z top old new → Cong modulus (pos r) (z i) → r < top i → Quarter h (i + 1) z top old (set new i r)
quarter_more h i r z top old new b n q c l =
    let inside : i < length new = omega arith in
    record {
      done = below_more _ _ (λ k g. let ne : k ≢ i = omega arith in rw get_or-set_other (q.done k g)) (rw get_or-set_same c);
      room = below_more _ _ (λ k g. let ne : k ≢ i = omega arith in rw get_or-set_other (q.room k g)) (rw get_or-set_same l);
      rest = λ k g e. let ne : k ≢ i = omega arith in rw get_or-set_other (q.rest k (omega arith) e);
    }

-- four moduli above place k
abbrev pub near : List ℕ → ℕ → ℕ
near a k = get_or a k 0 + 4 * modulus + 1

pub record Quarters (h i s u v : ℕ) (a b c d w x y z : List ℕ) : Type 0 where
  pub first : Quarter h i (folded (pos s) (pos u) a b c d) (near a) a w
  pub second : Quarter h i (folded (pos s) (neg_ℤ (pos u)) a b c d) (near a) b x
  pub third : Quarter h i (folded (neg_ℤ (pos s)) (pos v) a b c d) (near a) c y
  pub fourth : Quarter h i (folded (neg_ℤ (pos s)) (neg_ℤ (pos v)) a b c d) (near a) d z

pub quarters_none : (h s u v : ℕ) (a b c d : List ℕ) → Quarters h 0 s u v a b c d a b c d
quarters_none h s u v a b c d = record {
  first = quarter_none h (folded (pos s) (pos u) a b c d) (near a) a;
  second = quarter_none h (folded (pos s) (neg_ℤ (pos u)) a b c d) (near a) b;
  third = quarter_none h (folded (neg_ℤ (pos s)) (pos v) a b c d) (near a) c;
  fourth = quarter_none h (folded (neg_ℤ (pos s)) (neg_ℤ (pos v)) a b c d) (near a) d;
}

-- two butterflies after each other
twice_folded : (b b' c : ℕ) (r y z : ℤ) → Cong modulus (pos b) y → Cong modulus (pos b') z → Cong modulus (pos c) (pos b +ℤ r *ℤ pos b') → Cong modulus (pos c) (y +ℤ r *ℤ z)
twice_folded b b' c r y z h h' g = cong_trans modulus (pos c) (pos b +ℤ r *ℤ pos b') (y +ℤ r *ℤ z) g
    (cong_add modulus (pos b) y (r *ℤ pos b') (r *ℤ z) h (cong_mul modulus r r (pos b') z (cong_refl modulus r) h'))

pub quarters_more : (h i s u v b0 b1 b2 b3 c0 c1 c2 c3 : ℕ) (a b c d w x y z : List ℕ) → i < h → length w ≡ h → length x ≡ h → length y ≡ h → length z ≡ h → Quarters h i s u v a b c d w x y z →
    Cong modulus (pos b0) (pos (get_or w i 0) +ℤ pos s *ℤ pos (get_or y i 0)) → Cong modulus (pos b2) (pos (get_or w i 0) +ℤ neg_ℤ (pos s) *ℤ pos (get_or y i 0)) →
    Cong modulus (pos b1) (pos (get_or x i 0) +ℤ pos s *ℤ pos (get_or z i 0)) → Cong modulus (pos b3) (pos (get_or x i 0) +ℤ neg_ℤ (pos s) *ℤ pos (get_or z i 0)) →
    Cong modulus (pos c0) (pos b0 +ℤ pos u *ℤ pos b1) → Cong modulus (pos c1) (pos b0 +ℤ neg_ℤ (pos u) *ℤ pos b1) →
    Cong modulus (pos c2) (pos b2 +ℤ pos v *ℤ pos b3) → Cong modulus (pos c3) (pos b2 +ℤ neg_ℤ (pos v) *ℤ pos b3) →
    c0 ≤ get_or w i 0 + 4 * modulus → c1 ≤ get_or w i 0 + 4 * modulus → c2 ≤ get_or w i 0 + 4 * modulus → c3 ≤ get_or w i 0 + 4 * modulus →
    Quarters h (i + 1) s u v a b c d (set w i c0) (set x i c1) (set y i c2) (set z i c3)
quarters_more h i s u v b0 b1 b2 b3 c0 c1 c2 c3 a b c d w x y z l nw nx ny nz q e0 e2 e1 e3 f0 f1 f2 f3 r0 r1 r2 r3 =
    let ew : get_or w i 0 ≡ get_or a i 0 = q.first.rest i (omega arith) l in
    let ex : get_or x i 0 ≡ get_or b i 0 = q.second.rest i (omega arith) l in
    let ey : get_or y i 0 ≡ get_or c i 0 = q.third.rest i (omega arith) l in
    let ez : get_or z i 0 ≡ get_or d i 0 = q.fourth.rest i (omega arith) l in
    let A : ℤ = pos (get_or a i 0) in let B : ℤ = pos (get_or b i 0) in let C : ℤ = pos (get_or c i 0) in let D : ℤ = pos (get_or d i 0) in
    let g0 : Cong modulus (pos b0) (A +ℤ pos s *ℤ C) = rw (ew, ey) at e0 in
    let g2 : Cong modulus (pos b2) (A +ℤ neg_ℤ (pos s) *ℤ C) = rw (ew, ey) at e2 in
    let g1 : Cong modulus (pos b1) (B +ℤ pos s *ℤ D) = rw (ex, ez) at e1 in
    let g3 : Cong modulus (pos b3) (B +ℤ neg_ℤ (pos s) *ℤ D) = rw (ex, ez) at e3 in
    record {
      first = quarter_more h i c0 (folded (pos s) (pos u) a b c d) (near a) a w l nw q.first (twice_folded b0 b1 c0 (pos u) (A +ℤ pos s *ℤ C) (B +ℤ pos s *ℤ D) g0 g1 f0) (omega arith);
      second = quarter_more h i c1 (folded (pos s) (neg_ℤ (pos u)) a b c d) (near a) b x l nx q.second (twice_folded b0 b1 c1 (neg_ℤ (pos u)) (A +ℤ pos s *ℤ C) (B +ℤ pos s *ℤ D) g0 g1 f1) (omega arith);
      third = quarter_more h i c2 (folded (neg_ℤ (pos s)) (pos v) a b c d) (near a) c y l ny q.third (twice_folded b2 b3 c2 (pos v) (A +ℤ neg_ℤ (pos s) *ℤ C) (B +ℤ neg_ℤ (pos s) *ℤ D) g2 g3 f2) (omega arith);
      fourth = quarter_more h i c3 (folded (neg_ℤ (pos s)) (neg_ℤ (pos v)) a b c d) (near a) d z l nz q.fourth (twice_folded b2 b3 c3 (neg_ℤ (pos v)) (A +ℤ neg_ℤ (pos s) *ℤ C) (B +ℤ neg_ℤ (pos s) *ℤ D) g2 g3 f3) (omega arith);
    }

-- ---- the places of a list by its quarters
pub at_first : (h k : ℕ) (a b c d : List ℕ) → length a ≡ h → k < h → get_or ((a ++ b) ++ (c ++ d)) k 0 ≡ get_or a k 0
at_first h k a b c d n l =
    let inside : k < length a = omega arith in
    let within : k < length (a ++ b) = omega (arith, length-append a b) in
    get_or_append_left (a ++ b) (c ++ d) 0 k within ∙ get_or_append_left a b 0 k inside

pub at_second : (h k : ℕ) (a b c d : List ℕ) → length a ≡ h → length b ≡ h → k < h → get_or ((a ++ b) ++ (c ++ d)) (h + k) 0 ≡ get_or b k 0
at_second h k a b c d n m l =
    let within : h + k < length (a ++ b) = omega (arith, length-append a b) in
    let past : h ≤ h + k = omega arith in
    let e : h + k - h ≡ k = omega arith in
    get_or_append_left (a ++ b) (c ++ d) 0 (h + k) within ∙ rw e at (get_or-append_right a b h (h + k) 0 n past)

pub at_third : (h k : ℕ) (a b c d : List ℕ) → length a ≡ h → length b ≡ h → length c ≡ h → k < h → get_or ((a ++ b) ++ (c ++ d)) (h + h + k) 0 ≡ get_or c k 0
at_third h k a b c d n m o l =
    let long : length (a ++ b) ≡ h + h = omega (arith, length-append a b) in
    let past : h + h ≤ h + h + k = omega arith in
    let e : h + h + k - (h + h) ≡ k = omega arith in
    let inside : k < length c = omega arith in
    rw e at (get_or-append_right (a ++ b) (c ++ d) (h + h) (h + h + k) 0 long past) ∙ get_or_append_left c d 0 k inside

pub at_fourth : (h k : ℕ) (a b c d : List ℕ) → length a ≡ h → length b ≡ h → length c ≡ h → k < h → get_or ((a ++ b) ++ (c ++ d)) (h + h + (h + k)) 0 ≡ get_or d k 0
at_fourth h k a b c d n m o l =
    let long : length (a ++ b) ≡ h + h = omega (arith, length-append a b) in
    let past : h + h ≤ h + h + (h + k) = omega arith in
    let e : h + h + (h + k) - (h + h) ≡ h + k = omega arith in
    let next : h ≤ h + k = omega arith in
    let f : h + k - h ≡ k = omega arith in
    rw e at (get_or-append_right (a ++ b) (c ++ d) (h + h) (h + h + (h + k)) 0 long past) ∙ rw f at (get_or-append_right c d h (h + k) 0 o next)

-- a quarter that is folded at each place
is_folded : (p h : ℕ) (s r : ℤ) (a b c d v : List ℕ) → length a ≡ h → length b ≡ h → length c ≡ h → ((k : ℕ) → k < h → Cong p (pos (get_or v k 0)) (folded s r a b c d k)) → Same p h (wholes v) (fold h r (fold (h + h) s (quarters a b c d)))
is_folded p h s r a b c d v n m o f = record {
  each = λ k l.
      let l0 : k < h + h = omega arith in
      let l1 : h + k < h + h = omega arith in
      rw (at-wholes v k, at-fold h r (fold (h + h) s (wholes ((a ++ b) ++ (c ++ d)))) k l, at-fold (h + h) s (wholes ((a ++ b) ++ (c ++ d))) k l0, at-fold (h + h) s (wholes ((a ++ b) ++ (c ++ d))) (h + k) l1)
      (rw (at-wholes ((a ++ b) ++ (c ++ d)) k, at-wholes ((a ++ b) ++ (c ++ d)) (h + k), at-wholes ((a ++ b) ++ (c ++ d)) (h + h + k), at-wholes ((a ++ b) ++ (c ++ d)) (h + h + (h + k)))
      (rw (at_first h k a b c d n l, at_second h k a b c d n m l, at_third h k a b c d n m o l, at_fourth h k a b c d n m o l) (f k l)));
}

pub folded_twice : (h s u v : ℕ) (a b c d w x y z : List ℕ) → length a ≡ h → length b ≡ h → length c ≡ h → Quarters h h s u v a b c d w x y z → FoldedTwice modulus h s u v (quarters a b c d) w x y z
folded_twice h s u v a b c d w x y z n m o q = record {
  first = is_folded modulus h (pos s) (pos u) a b c d w n m o q.first.done;
  second = is_folded modulus h (pos s) (neg_ℤ (pos u)) a b c d x n m o q.second.done;
  third = is_folded modulus h (neg_ℤ (pos s)) (pos v) a b c d y n m o q.third.done;
  fourth = is_folded modulus h (neg_ℤ (pos s)) (neg_ℤ (pos v)) a b c d z n m o q.fourth.done;
}
