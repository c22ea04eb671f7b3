-- A loop that takes two levels back at once: four quarters of a list that was folded twice, place by place, in their places.
use Prim.Native.Nat.{ℕ, ◌+◌, ◌-◌, ◌*◌, ◌<◌}
use lib.IntN.{ℤ, pos, ◌+ℤ◌, ◌*ℤ◌, neg_ℤ}
use lib.ListN.{length, get_or, set}
use mathlib.Core.List.{List, ◌++◌}
use mathlib.Core.Logic.{inl, inr}
use mathlib.Core.Path.{◌≡◌, subst}
use native.Mathlib.Omega.{arith}
use Rattle.std.proofs.lemmas.Bool.{cases_lt}
use Rattle.heco_ring.proofs.Integers.{lines, monomials, z_one_mul}
use Rattle.heco_ring.proofs.Linear.{at-scale}
use Rattle.heco_ring.proofs.Remainders.{cong_add, cong_mul, cong_neg, cong_refl, cong_trans}
use Rattle.heco_ring.proofs.Wrapping.{at-wholes}
use Rattle.heco_ring.specs.Remainders.{Cong, Same}
use Rattle.heco_ring.specs.Ring.{at, wholes, scale}
use Rattle.heco_transform.specs.Modulus.{modulus}
use Rattle.heco_transform.specs.Values.{fold, quarters, all_four, FoldedTwice, UnfoldsTwice}
use Rattle.heco_transform.proofs.Folds.{at-fold, four_times}
use Rattle.heco_transform.proofs.Quarters.{Quarter, quarter_none, quarter_more, at_first, at_second, at_third, at_fourth}

-- ---- one place
sums : (e r f : ℤ) → (e +ℤ r *ℤ f) +ℤ (e +ℤ neg_ℤ r *ℤ f) ≡ e +ℤ e
sums e r f = simp monomials (omega (arith, lines))

differences : (v e r f : ℤ) → v *ℤ ((e +ℤ r *ℤ f) +ℤ neg_ℤ (e +ℤ neg_ℤ r *ℤ f)) ≡ v *ℤ r *ℤ (f +ℤ f)
differences v e r f = simp monomials (omega (arith, lines))

doubled : (a s c : ℤ) → (a +ℤ s *ℤ c) +ℤ (a +ℤ s *ℤ c) ≡ (a +ℤ a) +ℤ s *ℤ (c +ℤ c)
doubled a s c = simp monomials (omega (arith, lines))

sum_back : (p : ℕ) (x y e r f : ℤ) → Cong p x (e +ℤ r *ℤ f) → Cong p y (e +ℤ neg_ℤ r *ℤ f) → Cong p (x +ℤ y) (e +ℤ e)
sum_back p x y e r f h g = subst (λ (w : ℤ). Cong p (x +ℤ y) w) (sums e r f) (cong_add p x (e +ℤ r *ℤ f) y (e +ℤ neg_ℤ r *ℤ f) h g)

-- v is the inverse of r
difference_back : (p : ℕ) (x y e r f v : ℤ) → Cong p (v *ℤ r) (pos 1) → Cong p x (e +ℤ r *ℤ f) → Cong p y (e +ℤ neg_ℤ r *ℤ f) → Cong p (v *ℤ (x +ℤ neg_ℤ y)) (f +ℤ f)
difference_back p x y e r f v i h g = cong_trans p (v *ℤ (x +ℤ neg_ℤ y)) (v *ℤ r *ℤ (f +ℤ f)) (f +ℤ f)
    (subst (λ (w : ℤ). Cong p (v *ℤ (x +ℤ neg_ℤ y)) w) (differences v e r f)
    (cong_mul p v v (x +ℤ neg_ℤ y) ((e +ℤ r *ℤ f) +ℤ neg_ℤ (e +ℤ neg_ℤ r *ℤ f)) (cong_refl p v) (cong_add p x (e +ℤ r *ℤ f) (neg_ℤ y) (neg_ℤ (e +ℤ neg_ℤ r *ℤ f)) h (cong_neg p y (e +ℤ neg_ℤ r *ℤ f) g))))
    (subst (λ (w : ℤ). Cong p (v *ℤ r *ℤ (f +ℤ f)) w) (z_one_mul (f +ℤ f)) (cong_mul p (v *ℤ r) (pos 1) (f +ℤ f) (f +ℤ f) i (cong_refl p (f +ℤ f))))

-- two numbers that were folded by r and -r, each of them twice
pair_back : (p : ℕ) (x y a r c v : ℤ) → Cong p (v *ℤ r) (pos 1) → Cong p x ((a +ℤ r *ℤ c) +ℤ (a +ℤ r *ℤ c)) → Cong p y ((a +ℤ neg_ℤ r *ℤ c) +ℤ (a +ℤ neg_ℤ r *ℤ c)) →
    Cong p (x +ℤ y) (pos 4 *ℤ a) × Cong p (v *ℤ (x +ℤ neg_ℤ y)) (pos 4 *ℤ c)
pair_back p x y a r c v i h g =
    let h' : Cong p x ((a +ℤ a) +ℤ r *ℤ (c +ℤ c)) = subst (λ (w : ℤ). Cong p x w) (doubled a r c) h in
    let g' : Cong p y ((a +ℤ a) +ℤ neg_ℤ r *ℤ (c +ℤ c)) = subst (λ (w : ℤ). Cong p y w) (doubled a (neg_ℤ r) c) g in (
      subst (λ (w : ℤ). Cong p (x +ℤ y) w) (four_times a) (sum_back p x y (a +ℤ a) r (c +ℤ c) h' g'),
      subst (λ (w : ℤ). Cong p (v *ℤ (x +ℤ neg_ℤ y)) w) (four_times c) (difference_back p x y (a +ℤ a) r (c +ℤ c) v i h' g'),
    )

-- the inverses of three roots
pub record Backs (p s u v s' u' v' : ℕ) : Type 0 where
  pub of_s : Cong p (pos s *ℤ pos s') (pos 1)
  pub of_u : Cong p (pos u *ℤ pos u') (pos 1)
  pub of_v : Cong p (pos v *ℤ pos v') (pos 1)

-- ---- the loop
abbrev pub sum_of : ℕ → ℕ → ℤ
sum_of x y = pos x +ℤ pos y

abbrev pub difference_of : ℕ → ℕ → ℕ → ℤ
difference_of u x y = pos u *ℤ (pos x +ℤ neg_ℤ (pos y))

abbrev pub first_of : (a b c d : List ℕ) → ℕ → ℤ
first_of a b c d k = sum_of (get_or a k 0) (get_or b k 0) +ℤ sum_of (get_or c k 0) (get_or d k 0)

abbrev pub second_of : (u v : ℕ) (a b c d : List ℕ) → ℕ → ℤ
second_of u v a b c d k = difference_of u (get_or a k 0) (get_or b k 0) +ℤ difference_of v (get_or c k 0) (get_or d k 0)

abbrev pub third_of : (s : ℕ) (a b c d : List ℕ) → ℕ → ℤ
third_of s a b c d k = pos s *ℤ (sum_of (get_or a k 0) (get_or b k 0) +ℤ neg_ℤ (sum_of (get_or c k 0) (get_or d k 0)))

abbrev pub fourth_of : (s u v : ℕ) (a b c d : List ℕ) → ℕ → ℤ
fourth_of s u v a b c d k = pos s *ℤ (difference_of u (get_or a k 0) (get_or b k 0) +ℤ neg_ℤ (difference_of v (get_or c k 0) (get_or d k 0)))

pub record Back (h i s u v : ℕ) (a b c d w x y z : List ℕ) : Type 0 where
  pub first : Quarter h i (first_of a b c d) (λ k. all_four a b c d k + 1) a w
  pub second : Quarter h i (second_of u v a b c d) (λ k. 4 * modulus) b x
  pub third : Quarter h i (third_of s a b c d) (λ k. 4 * modulus) c y
  pub fourth : Quarter h i (fourth_of s u v a b c d) (λ k. 4 * modulus) d z

pub back_none : (h s u v : ℕ) (a b c d : List ℕ) → Back h 0 s u v a b c d a b c d
back_none h s u v a b c d = record {
  first = quarter_none h (first_of a b c d) (λ k. all_four a b c d k + 1) a;
  second = quarter_none h (second_of u v a b c d) (λ k. 4 * modulus) b;
  third = quarter_none h (third_of s a b c d) (λ k. 4 * modulus) c;
  fourth = quarter_none h (fourth_of s u v a b c d) (λ k. 4 * modulus) d;
}

pub back_more : (h i s u v c0 c1 c2 c3 b0 b1 b2 b3 : ℕ) (a b c d w x y z : List ℕ) → i < h → length w ≡ h → length x ≡ h → length y ≡ h → length z ≡ h → Back h i s u v a b c d w x y z →
    c0 ≡ get_or w i 0 + get_or x i 0 → Cong modulus (pos c1) (difference_of u (get_or w i 0) (get_or x i 0)) →
    c2 ≡ get_or y i 0 + get_or z i 0 → Cong modulus (pos c3) (difference_of v (get_or y i 0) (get_or z i 0)) →
    b0 ≡ c0 + c2 → Cong modulus (pos b2) (difference_of s c0 c2) → b1 ≡ c1 + c3 → Cong modulus (pos b3) (difference_of s c1 c3) →
    b1 < 4 * modulus → b2 < 4 * modulus → b3 < 4 * modulus →
    Back h (i + 1) s u v a b c d (set w i b0) (set x i b1) (set y i b2) (set z i b3)
back_more h i s u v c0 c1 c2 c3 b0 b1 b2 b3 a b c d w x y z l nw nx ny nz q e0 e1 e2 e3 f0 f2 f1 f3 r1 r2 r3 =
    let ew : get_or w i 0 ≡ get_or a i 0 = q.first.rest i (omega arith) l in
    let ex : get_or x i 0 ≡ get_or b i 0 = q.second.rest i (omega arith) l in
    let ey : get_or y i 0 ≡ get_or c i 0 = q.third.rest i (omega arith) l in
    let ez : get_or z i 0 ≡ get_or d i 0 = q.fourth.rest i (omega arith) l in
    let g0 : Cong modulus (pos c0) (sum_of (get_or a i 0) (get_or b i 0)) = rw (e0, ew, ex) (cong_refl modulus (pos (get_or a i 0 + get_or b i 0))) in
    let g2 : Cong modulus (pos c2) (sum_of (get_or c i 0) (get_or d i 0)) = rw (e2, ey, ez) (cong_refl modulus (pos (get_or c i 0 + get_or d i 0))) in
    let g1 : Cong modulus (pos c1) (difference_of u (get_or a i 0) (get_or b i 0)) = rw (ew, ex) at e1 in
    let g3 : Cong modulus (pos c3) (difference_of v (get_or c i 0) (get_or d i 0)) = rw (ey, ez) at e3 in
    record {
      first = quarter_more h i b0 (first_of a b c d) (λ k. all_four a b c d k + 1) a w l nw q.first (rw f0 (cong_add modulus (pos c0) (sum_of (get_or a i 0) (get_or b i 0)) (pos c2) (sum_of (get_or c i 0) (get_or d i 0)) g0 g2)) (omega arith);
      second = quarter_more h i b1 (second_of u v a b c d) (λ k. 4 * modulus) b x l nx q.second (rw f1 (cong_add modulus (pos c1) (difference_of u (get_or a i 0) (get_or b i 0)) (pos c3) (difference_of v (get_or c i 0) (get_or d i 0)) g1 g3)) r1;
      third = quarter_more h i b2 (third_of s a b c d) (λ k. 4 * modulus) c y l ny q.third (differs b2 s c0 c2 (sum_of (get_or a i 0) (get_or b i 0)) (sum_of (get_or c i 0) (get_or d i 0)) f2 g0 g2) r2;
      fourth = quarter_more h i b3 (fourth_of s u v a b c d) (λ k. 4 * modulus) d z l nz q.fourth (differs b3 s c1 c3 (difference_of u (get_or a i 0) (get_or b i 0)) (difference_of v (get_or c i 0) (get_or d i 0)) f3 g1 g3) r3;
    }
  where
    differs : (r s c e : ℕ) (y z : ℤ) → Cong modulus (pos r) (difference_of s c e) → Cong modulus (pos c) y → Cong modulus (pos e) z → Cong modulus (pos r) (pos s *ℤ (y +ℤ neg_ℤ z))
    differs r s c e y z h f g = cong_trans modulus (pos r) (difference_of s c e) (pos s *ℤ (y +ℤ neg_ℤ z)) h
        (cong_mul modulus (pos s) (pos s) (pos c +ℤ neg_ℤ (pos e)) (y +ℤ neg_ℤ z) (cong_refl modulus (pos s)) (cong_add modulus (pos c) y (neg_ℤ (pos e)) (neg_ℤ z) f (cong_neg modulus (pos e) z g)))

-- ---- four quarters
four_parts : (P : ℕ → Type 0) (h : ℕ) → ((k : ℕ) → k < h → P k) → ((k : ℕ) → k < h → P (h + k)) → ((k : ℕ) → k < h → P (h + h + k)) → ((k : ℕ) → k < h → P (h + h + (h + k))) → (k : ℕ) → k < h + h + (h + h) → P k
four_parts P h f0 f1 f2 f3 k l = elim (cases_lt k h) [
  | inl lt ↦ f0 k lt
  | inr ge ↦ (elim (cases_lt k (h + h)) [
    | inl lt ↦ (let e : h + (k - h) ≡ k = omega arith in subst P e (f1 (k - h) (omega arith)))
    | inr ge2 ↦ (elim (cases_lt k (h + h + h)) [
      | inl lt ↦ (let e : h + h + (k - (h + h)) ≡ k = omega arith in subst P e (f2 (k - (h + h)) (omega arith)))
      | inr ge3 ↦ (let e : h + h + (h + (k - (h + h + h))) ≡ k = omega arith in subst P e (f3 (k - (h + h + h)) (omega arith)))
    ])
  ])
]

-- what a place of each quarter was folded from
place_folded : (p h k : ℕ) (s r : ℤ) (a : List ℤ) (w : List ℕ) → Same p h (wholes w) (fold h r (fold (h + h) s a)) → k < h → Cong p (pos (get_or w k 0)) ((at a k +ℤ s *ℤ at a (h + h + k)) +ℤ r *ℤ (at a (h + k) +ℤ s *ℤ at a (h + h + (h + k))))
place_folded p h k s r a w f l =
    let l0 : k < h + h = omega arith in
    let l1 : h + k < h + h = omega arith in
    rw (at-wholes w k, at-fold h r (fold (h + h) s a) k l, at-fold (h + h) s a k l0, at-fold (h + h) s a (h + k) l1) at (f.each k l)

record Place (A B C D : ℤ) (s u v w x y z : ℕ) : Type 0 where
  first : Cong modulus (sum_of w x +ℤ sum_of y z) (pos 4 *ℤ A)
  second : Cong modulus (difference_of u w x +ℤ difference_of v y z) (pos 4 *ℤ B)
  third : Cong modulus (pos s *ℤ (sum_of w x +ℤ neg_ℤ (sum_of y z))) (pos 4 *ℤ C)
  fourth : Cong modulus (pos s *ℤ (difference_of u w x +ℤ neg_ℤ (difference_of v y z))) (pos 4 *ℤ D)

place_back : (h k s u v s' u' v' : ℕ) (a : List ℤ) (w x y z : List ℕ) → Backs modulus s u v s' u' v' → FoldedTwice modulus h s' u' v' a w x y z → k < h →
    Place (at a k) (at a (h + k)) (at a (h + h + k)) (at a (h + h + (h + k))) s u v (get_or w k 0) (get_or x k 0) (get_or y k 0) (get_or z k 0)
place_back h k s u v s' u' v' a w x y z i f l =
    let A : ℤ = at a k in let B : ℤ = at a (h + k) in let C : ℤ = at a (h + h + k) in let D : ℤ = at a (h + h + (h + k)) in
    let W : ℤ = pos (get_or w k 0) in let X : ℤ = pos (get_or x k 0) in let Y : ℤ = pos (get_or y k 0) in let Z : ℤ = pos (get_or z k 0) in
    let fw : Cong modulus W ((A +ℤ pos s' *ℤ C) +ℤ pos u' *ℤ (B +ℤ pos s' *ℤ D)) = place_folded modulus h k (pos s') (pos u') a w f.first l in
    let fx : Cong modulus X ((A +ℤ pos s' *ℤ C) +ℤ neg_ℤ (pos u') *ℤ (B +ℤ pos s' *ℤ D)) = place_folded modulus h k (pos s') (neg_ℤ (pos u')) a x f.second l in
    let fy : Cong modulus Y ((A +ℤ neg_ℤ (pos s') *ℤ C) +ℤ pos v' *ℤ (B +ℤ neg_ℤ (pos s') *ℤ D)) = place_folded modulus h k (neg_ℤ (pos s')) (pos v') a y f.third l in
    let fz : Cong modulus Z ((A +ℤ neg_ℤ (pos s') *ℤ C) +ℤ neg_ℤ (pos v') *ℤ (B +ℤ neg_ℤ (pos s') *ℤ D)) = place_folded modulus h k (neg_ℤ (pos s')) (neg_ℤ (pos v')) a z f.fourth l in
    let sw = sum_back modulus W X (A +ℤ pos s' *ℤ C) (pos u') (B +ℤ pos s' *ℤ D) fw fx in
    let sy = sum_back modulus Y Z (A +ℤ neg_ℤ (pos s') *ℤ C) (pos v') (B +ℤ neg_ℤ (pos s') *ℤ D) fy fz in
    let dw = difference_back modulus W X (A +ℤ pos s' *ℤ C) (pos u') (B +ℤ pos s' *ℤ D) (pos u) i.of_u fw fx in
    let dy = difference_back modulus Y Z (A +ℤ neg_ℤ (pos s') *ℤ C) (pos v') (B +ℤ neg_ℤ (pos s') *ℤ D) (pos v) i.of_v fy fz in
    let one = pair_back modulus (W +ℤ X) (Y +ℤ Z) A (pos s') C (pos s) i.of_s sw sy in
    let two = pair_back modulus (pos u *ℤ (W +ℤ neg_ℤ X)) (pos v *ℤ (Y +ℤ neg_ℤ Z)) B (pos s') D (pos s) i.of_s dw dy in
    record { first = one.0; second = two.0; third = one.1; fourth = two.1 }

-- a place of the four quarters that came back
at_back : (h j : ℕ) (a : List ℤ) (l : List ℕ) (r : ℕ) (z : ℤ) → j < h + h + (h + h) → get_or l j 0 ≡ r → Cong modulus (pos r) z → Cong modulus z (pos 4 *ℤ at a j) → Cong modulus (at (wholes l) j) (at (scale (h + h + (h + h)) (pos 4) a) j)
at_back h j a l r z b e c d = rw (at-wholes l j, e, at-scale (h + h + (h + h)) (pos 4) a j b) (cong_trans modulus (pos r) z (pos 4 *ℤ at a j) c d)

pub unfolds_twice : (h s u v : ℕ) (a b c d w x y z : List ℕ) → length w ≡ h → length x ≡ h → length y ≡ h → Back h h s u v a b c d w x y z → UnfoldsTwice modulus h s u v a b c d (quarters w x y z)
unfolds_twice h s u v a b c d w x y z nw nx ny q = record {
  four_times = λ f s' u' v' is iu iv g. record {
    each = let i : Backs modulus s u v s' u' v' = record { of_s = is; of_u = iu; of_v = iv } in
        four_parts (λ j. Cong modulus (at (wholes ((w ++ x) ++ (y ++ z))) j) (at (scale (h + h + (h + h)) (pos 4) f) j)) h
        (λ k l. at_back h k f ((w ++ x) ++ (y ++ z)) (get_or w k 0) (first_of a b c d k) (omega arith) (at_first h k w x y z nw l) (q.first.done k l) ((place_back h k s u v s' u' v' f a b c d i g l).first))
        (λ k l. at_back h (h + k) f ((w ++ x) ++ (y ++ z)) (get_or x k 0) (second_of u v a b c d k) (omega arith) (at_second h k w x y z nw nx l) (q.second.done k l) ((place_back h k s u v s' u' v' f a b c d i g l).second))
        (λ k l. at_back h (h + h + k) f ((w ++ x) ++ (y ++ z)) (get_or y k 0) (third_of s a b c d k) (omega arith) (at_third h k w x y z nw nx ny l) (q.third.done k l) ((place_back h k s u v s' u' v' f a b c d i g l).third))
        (λ k l. at_back h (h + h + (h + k)) f ((w ++ x) ++ (y ++ z)) (get_or z k 0) (fourth_of s u v a b c d k) (omega arith) (at_fourth h k w x y z nw nx ny l) (q.fourth.done k l) ((place_back h k s u v s' u' v' f a b c d i g l).fourth));
  };
}
