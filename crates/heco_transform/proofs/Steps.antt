-- One step down the tree and one step up.
use Prim.Native.Nat.{ℕ, suc, ◌+◌, ◌-◌, ◌*◌, ◌^◌, ◌<◌, ◌≤◌}
use lib.IntN.{ℤ, pos, negsuc, ◌+ℤ◌, ◌*ℤ◌, neg_ℤ}
use lib.ListN.{length, get_or}
use mathlib.Core.List.{List, ◌++◌}
use mathlib.Core.Logic.{inl, inr}
use mathlib.Core.Path.{◌≡◌, sym, ap, ◌∙◌, subst}
use native.Mathlib.Nat.{one-le-pow, pow-suc}
use native.Mathlib.Omega.{arith}
use Rattle.std.proofs.Common.{length-append}
use Rattle.std.proofs.lemmas.Bool.{cases_lt}
use Rattle.std.proofs.lemmas.List.{get_or_append_left, get_or-append_right}
use Rattle.heco_ring.proofs.Congruence.{same_refl}
use Rattle.heco_ring.proofs.Integers.{lines, z_one_mul, z_add_mul, monomials}
use Rattle.heco_ring.proofs.Linear.{at-scale}
use Rattle.heco_ring.proofs.Remainders.{cong_add, cong_mul, cong_refl, cong_neg, cong_trans, cong_sym}
use Rattle.heco_ring.proofs.Wrapping.{at-wholes}
use Rattle.heco_ring.specs.Remainders.{Cong, Same}
use Rattle.heco_ring.specs.Ring.{at, wholes, scale, times}
use Rattle.heco_transform.specs.Values.{power, value_at, node, RootTree, Inverses, Values, fold, FoldedTwice, UnfoldsTwice}
use Rattle.heco_transform.proofs.Folds.{at-fold, four_times, value_same, value_fold, value_times}
use Rattle.heco_transform.proofs.Tree.{leaf_power, root_1, node_left, node_right}

-- at a leaf under node c, the value of a is that of its fold by the root of c
child : (p d c k : ℕ) (t : List ℕ) (a : List ℤ) → RootTree p t → 0 < c → 2 ^ d * c + 2 ^ d ≤ 2 * length t → k < 2 ^ d → Cong p (value_at (2 ^ d + 2 ^ d) a (node t (2 ^ d * c + k))) (value_at (2 ^ d) (fold (2 ^ d) (node t c) a) (node t (2 ^ d * c + k)))
child p d c k t a r h b l = value_fold p (2 ^ d) (node t c) a (node t (2 ^ d * c + k)) (leaf_power p d c k t r h l (omega arith))

-- ---- down
values_child : (p d c k : ℕ) (t : List ℕ) (a low : List ℤ) (v : List ℕ) → RootTree p t → 0 < c → 2 ^ d * c + 2 ^ d ≤ 2 * length t → Same p (2 ^ d) low (fold (2 ^ d) (node t c) a) → Values p (2 ^ d) c t low v → k < 2 ^ d → Cong p (pos (get_or v k 0)) (value_at (2 ^ d + 2 ^ d) a (node t (2 ^ d * c + k)))
values_child p d c k t a low v r h b s w l =
    let x : ℤ = node t (2 ^ d * c + k) in
    cong_trans p (pos (get_or v k 0)) (value_at (2 ^ d) low x) (value_at (2 ^ d + 2 ^ d) a x) (w.each k l)
    (cong_trans p (value_at (2 ^ d) low x) (value_at (2 ^ d) (fold (2 ^ d) (node t c) a) x) (value_at (2 ^ d + 2 ^ d) a x)
    (value_same p (2 ^ d) low (fold (2 ^ d) (node t c) a) x s)
    (cong_sym p (value_at (2 ^ d + 2 ^ d) a x) (value_at (2 ^ d) (fold (2 ^ d) (node t c) a) x) (child p d c k t a r h b l)))

-- two lists of h values are those of a node
joined : (p h i : ℕ) (t : List ℕ) (a : List ℤ) (v w : List ℕ) → length v ≡ h →
    ((k : ℕ) → k < h → Cong p (pos (get_or v k 0)) (value_at (h + h) a (node t (h * (2 * i) + k)))) →
    ((k : ℕ) → k < h → Cong p (pos (get_or w k 0)) (value_at (h + h) a (node t (h * (2 * i + 1) + k)))) → Values p (h + h) i t a (v ++ w)
joined p h i t a v w n f g = record {
  each = λ k l. elim (cases_lt k h) [
    | inl lt ↦ (let kv : k < length v = omega arith in let e : (h + h) * i + k ≡ h * (2 * i) + k = omega arith in rw (get_or_append_left, e) (f k lt))
    | inr ge ↦ (let kv : h ≤ k = omega arith in let e : (h + h) * i + k ≡ h * (2 * i + 1) + (k - h) = omega arith in rw (get_or-append_right v w h k 0 n kv, e) (g (k - h) (omega arith)))
  ];
}

pub forward_step : (p d i : ℕ) (t : List ℕ) (a low high : List ℤ) (v w : List ℕ) → RootTree p t → 0 < i → 2 ^ d * (2 * i) + 2 ^ d + 2 ^ d ≤ 2 * length t → length v ≡ 2 ^ d →
    Same p (2 ^ d) low (fold (2 ^ d) (node t (2 * i)) a) → Same p (2 ^ d) high (fold (2 ^ d) (node t (2 * i + 1)) a) →
    Values p (2 ^ d) (2 * i) t low v → Values p (2 ^ d) (2 * i + 1) t high w → Values p (2 ^ d + 2 ^ d) i t a (v ++ w)
forward_step p d i t a low high v w r h b n sl sh vl vh = joined p (2 ^ d) i t a v w n
    (λ k l. values_child p d (2 * i) k t a low v r (omega arith) (omega arith) sl vl l)
    (λ k l. values_child p d (2 * i + 1) k t a high w r (omega arith) (omega arith) sh vh l)

-- two levels at once, by the exact polynomials between them
pub forward_two_steps : (p d i : ℕ) (t : List ℕ) (a : List ℤ) (w x y z w' x' y' z' : List ℕ) → RootTree p t → 0 < i → 2 ^ d * (4 * i) + 4 * 2 ^ d ≤ 2 * length t → length w' ≡ 2 ^ d → length x' ≡ 2 ^ d → length y' ≡ 2 ^ d →
    FoldedTwice p (2 ^ d) (get_or t i 0) (get_or t (2 * i) 0) (get_or t (2 * i + 1) 0) a w x y z →
    Values p (2 ^ d) (4 * i) t (wholes w) w' → Values p (2 ^ d) (4 * i + 1) t (wholes x) x' → Values p (2 ^ d) (4 * i + 2) t (wholes y) y' → Values p (2 ^ d) (4 * i + 3) t (wholes z) z' →
    Values p (2 ^ d + 2 ^ d + (2 ^ d + 2 ^ d)) i t a ((w' ++ x') ++ (y' ++ z'))
forward_two_steps p d i t a w x y z w' x' y' z' r h b nw nx ny f vw vx vy vz =
    let e : 2 ^ suc d ≡ 2 ^ d + 2 ^ d = omega (arith, pow-suc 2 d) in
    let i0 : 2 * (2 * i) ≡ 4 * i = omega arith in
    let i1 : 2 * (2 * i) + 1 ≡ 4 * i + 1 = omega arith in
    let i2 : 2 * (2 * i + 1) ≡ 4 * i + 2 = omega arith in
    let i3 : 2 * (2 * i + 1) + 1 ≡ 4 * i + 3 = omega arith in
    let low : Values p (2 ^ d + 2 ^ d) (2 * i) t (fold (2 ^ d + 2 ^ d) (node t (2 * i)) a) (w' ++ x') =
    forward_step p d (2 * i) t (fold (2 ^ d + 2 ^ d) (node t (2 * i)) a) (wholes w) (wholes x) w' x' r (omega arith) (omega arith) nw
    (rw (node_left t (2 * i), node_left t i) (f.first)) (rw (node_right t (2 * i), node_left t i) (f.second)) (rw i0 vw) (rw i1 vx) in
    let high : Values p (2 ^ d + 2 ^ d) (2 * i + 1) t (fold (2 ^ d + 2 ^ d) (node t (2 * i + 1)) a) (y' ++ z') =
    forward_step p d (2 * i + 1) t (fold (2 ^ d + 2 ^ d) (node t (2 * i + 1)) a) (wholes y) (wholes z) y' z' r (omega arith) (omega arith) ny
    (rw (node_left t (2 * i + 1), node_right t i) (f.third)) (rw (node_right t (2 * i + 1), node_right t i) (f.fourth)) (rw i2 vy) (rw i3 vz) in
    let long : length (w' ++ x') ≡ 2 ^ suc d = omega (arith, e, length-append w' x') in
    let inside : 2 ^ suc d * (2 * i) + 2 ^ suc d + 2 ^ suc d ≤ 2 * length t = rw e (omega arith) in
    rw e at (forward_step p (suc d) i t a (fold (2 ^ suc d) (node t (2 * i)) a) (fold (2 ^ suc d) (node t (2 * i + 1)) a) (w' ++ x') (y' ++ z') r h inside long
    (same_refl p (2 ^ suc d) (fold (2 ^ suc d) (node t (2 * i)) a)) (same_refl p (2 ^ suc d) (fold (2 ^ suc d) (node t (2 * i + 1)) a)) (rw e low) (rw e high))

-- ---- up
-- the values of a are the values of its folds
pub folded_left : (p d i : ℕ) (t : List ℕ) (a : List ℤ) (v w : List ℕ) → RootTree p t → 0 < i → 2 ^ d * (2 * i) + 2 ^ d + 2 ^ d ≤ 2 * length t → length v ≡ 2 ^ d → Values p (2 ^ d + 2 ^ d) i t a (v ++ w) → Values p (2 ^ d) (2 * i) t (fold (2 ^ d) (node t (2 * i)) a) v
folded_left p d i t a v w r h b n s = record {
  each = λ k l.
      let kv : k < length v = omega arith in
      let e : (2 ^ d + 2 ^ d) * i + k ≡ 2 ^ d * (2 * i) + k = omega arith in
      let c : Cong p (pos (get_or v k 0)) (value_at (2 ^ d + 2 ^ d) a (node t (2 ^ d * (2 * i) + k))) = rw (get_or_append_left, e) at (s.each k (omega arith)) in
      cong_trans p (pos (get_or v k 0)) (value_at (2 ^ d + 2 ^ d) a (node t (2 ^ d * (2 * i) + k))) (value_at (2 ^ d) (fold (2 ^ d) (node t (2 * i)) a) (node t (2 ^ d * (2 * i) + k))) c (child p d (2 * i) k t a r (omega arith) (omega arith) l);
}

pub folded_right : (p d i : ℕ) (t : List ℕ) (a : List ℤ) (v w : List ℕ) → RootTree p t → 0 < i → 2 ^ d * (2 * i) + 2 ^ d + 2 ^ d ≤ 2 * length t → length v ≡ 2 ^ d → Values p (2 ^ d + 2 ^ d) i t a (v ++ w) → Values p (2 ^ d) (2 * i + 1) t (fold (2 ^ d) (node t (2 * i + 1)) a) w
folded_right p d i t a v w r h b n s = record {
  each = λ k l.
      let kv : 2 ^ d ≤ 2 ^ d + k = omega arith in
      let m : 2 ^ d + k - 2 ^ d ≡ k = omega arith in
      let e : (2 ^ d + 2 ^ d) * i + (2 ^ d + k) ≡ 2 ^ d * (2 * i + 1) + k = omega arith in
      let c : Cong p (pos (get_or w k 0)) (value_at (2 ^ d + 2 ^ d) a (node t (2 ^ d * (2 * i + 1) + k))) = rw (get_or-append_right v w (2 ^ d) (2 ^ d + k) 0 n kv, m, e) at (s.each (2 ^ d + k) (omega arith)) in
      cong_trans p (pos (get_or w k 0)) (value_at (2 ^ d + 2 ^ d) a (node t (2 ^ d * (2 * i + 1) + k))) (value_at (2 ^ d) (fold (2 ^ d) (node t (2 * i + 1)) a) (node t (2 ^ d * (2 * i + 1) + k))) c (child p d (2 * i + 1) k t a r (omega arith) (omega arith) l);
}

sum_both : (g b s c : ℤ) → g *ℤ (b +ℤ s *ℤ c) +ℤ g *ℤ (b +ℤ neg_ℤ s *ℤ c) ≡ (g +ℤ g) *ℤ b
sum_both g b s c = simp monomials (omega (arith, lines))

difference_both : (v g b s c : ℤ) → v *ℤ (g *ℤ (b +ℤ s *ℤ c) +ℤ neg_ℤ (g *ℤ (b +ℤ neg_ℤ s *ℤ c))) ≡ v *ℤ s *ℤ ((g +ℤ g) *ℤ c)
difference_both v g b s c = simp monomials (omega (arith, lines))

-- place k of the sum and of the difference of two bit_fields that are g times folds by s and by -s; v is the inverse of s
sum_place : (p h k : ℕ) (g s : ℤ) (a : List ℤ) (low high : List ℕ) → Same p h (wholes low) (scale h g (fold h s a)) → Same p h (wholes high) (scale h g (fold h (neg_ℤ s) a)) → k < h → Cong p (pos (get_or low k 0) +ℤ pos (get_or high k 0)) ((g +ℤ g) *ℤ at a k)
sum_place p h k g s a low high l r b =
    let cl : Cong p (pos (get_or low k 0)) (g *ℤ (at a k +ℤ s *ℤ at a (h + k))) = rw (at-wholes low k, at-scale h g (fold h s a) k b, at-fold h s a k b) at (l.each k b) in
    let cr : Cong p (pos (get_or high k 0)) (g *ℤ (at a k +ℤ neg_ℤ s *ℤ at a (h + k))) = rw (at-wholes high k, at-scale h g (fold h (neg_ℤ s) a) k b, at-fold h (neg_ℤ s) a k b) at (r.each k b) in
    rw (← (sum_both g (at a k) s (at a (h + k)))) (cong_add p (pos (get_or low k 0)) (g *ℤ (at a k +ℤ s *ℤ at a (h + k))) (pos (get_or high k 0)) (g *ℤ (at a k +ℤ neg_ℤ s *ℤ at a (h + k))) cl cr)

difference_place : (p h k : ℕ) (g s v : ℤ) (a : List ℤ) (low high : List ℕ) → Cong p (v *ℤ s) (pos 1) → Same p h (wholes low) (scale h g (fold h s a)) → Same p h (wholes high) (scale h g (fold h (neg_ℤ s) a)) → k < h →
    Cong p (v *ℤ (pos (get_or low k 0) +ℤ neg_ℤ (pos (get_or high k 0)))) ((g +ℤ g) *ℤ at a (h + k))
difference_place p h k g s v a low high i l r b =
    let cl : Cong p (pos (get_or low k 0)) (g *ℤ (at a k +ℤ s *ℤ at a (h + k))) = rw (at-wholes low k, at-scale h g (fold h s a) k b, at-fold h s a k b) at (l.each k b) in
    let cr : Cong p (pos (get_or high k 0)) (g *ℤ (at a k +ℤ neg_ℤ s *ℤ at a (h + k))) = rw (at-wholes high k, at-scale h g (fold h (neg_ℤ s) a) k b, at-fold h (neg_ℤ s) a k b) at (r.each k b) in
    let x : ℤ = g *ℤ (at a k +ℤ s *ℤ at a (h + k)) in
    let y : ℤ = g *ℤ (at a k +ℤ neg_ℤ s *ℤ at a (h + k)) in
    let z : ℤ = (g +ℤ g) *ℤ at a (h + k) in
    cong_trans p (v *ℤ (pos (get_or low k 0) +ℤ neg_ℤ (pos (get_or high k 0)))) (v *ℤ (x +ℤ neg_ℤ y)) z
    (cong_mul p v v (pos (get_or low k 0) +ℤ neg_ℤ (pos (get_or high k 0))) (x +ℤ neg_ℤ y) (cong_refl p v) (cong_add p (pos (get_or low k 0)) x (neg_ℤ (pos (get_or high k 0))) (neg_ℤ y) cl (cong_neg p (pos (get_or high k 0)) y cr)))
    (rw (difference_both v g (at a k) s (at a (h + k))) (subst (λ (u : ℤ). Cong p (v *ℤ s *ℤ z) u) (z_one_mul z) (cong_mul p (v *ℤ s) (pos 1) z z i (cong_refl p z))))

pub inverse_step : (p h m : ℕ) (s v : ℤ) (a : List ℤ) (low high x y : List ℕ) → m ≡ h + h → Cong p (v *ℤ s) (pos 1) → length x ≡ h →
    Same p h (wholes low) (scale h (pos h) (fold h s a)) → Same p h (wholes high) (scale h (pos h) (fold h (neg_ℤ s) a)) →
    ((k : ℕ) → k < h → Cong p (pos (get_or x k 0)) (pos (get_or low k 0) +ℤ pos (get_or high k 0))) →
    ((k : ℕ) → k < h → Cong p (pos (get_or y k 0)) (v *ℤ (pos (get_or low k 0) +ℤ neg_ℤ (pos (get_or high k 0))))) →
    Same p m (wholes (x ++ y)) (scale m (pos m) a)
inverse_step p h m s v a low high x y e i n l r cx cy = record {
  each = λ k b.
      let d : pos m ≡ pos h +ℤ pos h = ap pos e in
      rw (at-wholes (x ++ y) k, at-scale m (pos m) a k b, d) (elim (cases_lt k h) [
        | inl lt ↦ (let kv : k < length x = omega arith in rw get_or_append_left
            (cong_trans p (pos (get_or x k 0)) (pos (get_or low k 0) +ℤ pos (get_or high k 0)) ((pos h +ℤ pos h) *ℤ at a k) (cx k lt) (sum_place p h k (pos h) s a low high l r lt)))
        | inr ge ↦ (let lt : k - h < h = omega arith in let w : h + (k - h) ≡ k = omega arith in rw (get_or-append_right x y h k 0 n ge)
            (cong_trans p (pos (get_or y (k - h) 0)) (v *ℤ (pos (get_or low (k - h) 0) +ℤ neg_ℤ (pos (get_or high (k - h) 0)))) ((pos h +ℤ pos h) *ℤ at a k) (cy (k - h) lt)
            (subst (λ (j : ℕ). Cong p (v *ℤ (pos (get_or low (k - h) 0) +ℤ neg_ℤ (pos (get_or high (k - h) 0)))) ((pos h +ℤ pos h) *ℤ at a j)) w (difference_place p h (k - h) (pos h) s v a low high i l r lt))))
      ]);
}

-- ---- two levels up at once
pub record FourValues (p d i : ℕ) (t : List ℕ) (a : List ℤ) (w x y z : List ℕ) : Type 0 where
  pub first : Values p (2 ^ d) (4 * i) t (fold (2 ^ d) (node t (4 * i)) (fold (2 ^ d + 2 ^ d) (node t (2 * i)) a)) w
  pub second : Values p (2 ^ d) (4 * i + 1) t (fold (2 ^ d) (node t (4 * i + 1)) (fold (2 ^ d + 2 ^ d) (node t (2 * i)) a)) x
  pub third : Values p (2 ^ d) (4 * i + 2) t (fold (2 ^ d) (node t (4 * i + 2)) (fold (2 ^ d + 2 ^ d) (node t (2 * i + 1)) a)) y
  pub fourth : Values p (2 ^ d) (4 * i + 3) t (fold (2 ^ d) (node t (4 * i + 3)) (fold (2 ^ d + 2 ^ d) (node t (2 * i + 1)) a)) z

-- the values of a are the values of its folds, two levels at once
pub folded_fours : (p d i : ℕ) (t : List ℕ) (a : List ℤ) (w x y z : List ℕ) → RootTree p t → 0 < i → 2 ^ d * (4 * i) + 4 * 2 ^ d ≤ 2 * length t → length w ≡ 2 ^ d → length x ≡ 2 ^ d → length y ≡ 2 ^ d →
    Values p (2 ^ d + 2 ^ d + (2 ^ d + 2 ^ d)) i t a ((w ++ x) ++ (y ++ z)) → FourValues p d i t a w x y z
folded_fours p d i t a w x y z r h b nw nx ny v =
    let e : 2 ^ suc d ≡ 2 ^ d + 2 ^ d = omega (arith, pow-suc 2 d) in
    let i0 : 2 * (2 * i) ≡ 4 * i = omega arith in
    let i1 : 2 * (2 * i) + 1 ≡ 4 * i + 1 = omega arith in
    let i2 : 2 * (2 * i + 1) ≡ 4 * i + 2 = omega arith in
    let i3 : 2 * (2 * i + 1) + 1 ≡ 4 * i + 3 = omega arith in
    let long : length (w ++ x) ≡ 2 ^ suc d = omega (arith, e, length-append w x) in
    let inside : 2 ^ suc d * (2 * i) + 2 ^ suc d + 2 ^ suc d ≤ 2 * length t = rw e (omega arith) in
    let v' : Values p (2 ^ suc d + 2 ^ suc d) i t a ((w ++ x) ++ (y ++ z)) = rw e v in
    let low = rw e at (folded_left p (suc d) i t a (w ++ x) (y ++ z) r h inside long v') in
    let high = rw e at (folded_right p (suc d) i t a (w ++ x) (y ++ z) r h inside long v') in
    record {
      first = rw i0 at (folded_left p d (2 * i) t (fold (2 ^ d + 2 ^ d) (node t (2 * i)) a) w x r (omega arith) (omega arith) nw low);
      second = rw i1 at (folded_right p d (2 * i) t (fold (2 ^ d + 2 ^ d) (node t (2 * i)) a) w x r (omega arith) (omega arith) nw low);
      third = rw i2 at (folded_left p d (2 * i + 1) t (fold (2 ^ d + 2 ^ d) (node t (2 * i + 1)) a) y z r (omega arith) (omega arith) ny high);
      fourth = rw i3 at (folded_right p d (2 * i + 1) t (fold (2 ^ d + 2 ^ d) (node t (2 * i + 1)) a) y z r (omega arith) (omega arith) ny high);
    }

-- a multiple of a polynomial that was folded twice is the folds of the multiple
multiple_folded : (g a s b c r d : ℤ) → g *ℤ ((a +ℤ s *ℤ b) +ℤ r *ℤ (c +ℤ s *ℤ d)) ≡ (g *ℤ a +ℤ s *ℤ (g *ℤ b)) +ℤ r *ℤ (g *ℤ c +ℤ s *ℤ (g *ℤ d))
multiple_folded g a s b c r d = simp monomials

folds_scaled : (p h : ℕ) (g s r : ℤ) (a : List ℤ) (v : List ℕ) → Same p h (wholes v) (scale h g (fold h r (fold (h + h) s a))) → Same p h (wholes v) (fold h r (fold (h + h) s (scale (h + h + (h + h)) g a)))
folds_scaled p h g s r a v f = record {
  each = λ k l.
      let l0 : k < h + h = omega arith in
      let l1 : h + k < h + h = omega arith in
      let b0 : k < h + h + (h + h) = omega arith in
      let b1 : h + k < h + h + (h + h) = omega arith in
      let b2 : h + h + k < h + h + (h + h) = omega arith in
      let b3 : h + h + (h + k) < h + h + (h + h) = omega arith in
      let q : Cong p (at (wholes v) k) (g *ℤ ((at a k +ℤ s *ℤ at a (h + h + k)) +ℤ r *ℤ (at a (h + k) +ℤ s *ℤ at a (h + h + (h + k))))) =
      rw (at-scale h g (fold h r (fold (h + h) s a)) k l, at-fold h r (fold (h + h) s a) k l, at-fold (h + h) s a k l0, at-fold (h + h) s a (h + k) l1) at (f.each k l) in
      rw (at-fold h r (fold (h + h) s (scale (h + h + (h + h)) g a)) k l, at-fold (h + h) s (scale (h + h + (h + h)) g a) k l0, at-fold (h + h) s (scale (h + h + (h + h)) g a) (h + k) l1)
      (rw (at-scale (h + h + (h + h)) g a k b0, at-scale (h + h + (h + h)) g a (h + k) b1, at-scale (h + h + (h + h)) g a (h + h + k) b2, at-scale (h + h + (h + h)) g a (h + h + (h + k)) b3)
      (rw (← (multiple_folded g (at a k) s (at a (h + h + k)) (at a (h + k)) r (at a (h + h + (h + k))))) q));
}

four_times_as : (p h : ℕ) (a b : List ℤ) → Same p (h + h + (h + h)) b (scale (h + h + (h + h)) (pos 4) (scale (h + h + (h + h)) (pos h) a)) → Same p (h + h + (h + h)) b (scale (h + h + (h + h)) (pos (h + h + (h + h))) a)
four_times_as p h a b f = record {
  each = λ k l. rw (at-scale (h + h + (h + h)) (pos (h + h + (h + h))) a k l, ← (many h (at a k)))
      (rw (at-scale (h + h + (h + h)) (pos 4) (scale (h + h + (h + h)) (pos h) a) k l, at-scale (h + h + (h + h)) (pos h) a k l) at (f.each k l));
}
  where
    many : (h : ℕ) (x : ℤ) → pos 4 *ℤ (pos h *ℤ x) ≡ pos (h + h + (h + h)) *ℤ x
    many h x = sym (z_add_mul (pos h +ℤ pos h) (pos h +ℤ pos h) x ∙ rw (z_add_mul (pos h) (pos h) x) (four_times (pos h *ℤ x)))

pub inverse_two_steps : (p d i s u v : ℕ) (t inverses : List ℕ) (a b : List ℤ) (w x y z : List ℕ) → Inverses p t inverses → 2 * i + 1 < length t → get_or inverses i 0 ≡ s → get_or inverses (2 * i) 0 ≡ u → get_or inverses (2 * i + 1) 0 ≡ v →
    Same p (2 ^ d) (wholes w) (scale (2 ^ d) (pos (2 ^ d)) (fold (2 ^ d) (node t (4 * i)) (fold (2 ^ d + 2 ^ d) (node t (2 * i)) a))) →
    Same p (2 ^ d) (wholes x) (scale (2 ^ d) (pos (2 ^ d)) (fold (2 ^ d) (node t (4 * i + 1)) (fold (2 ^ d + 2 ^ d) (node t (2 * i)) a))) →
    Same p (2 ^ d) (wholes y) (scale (2 ^ d) (pos (2 ^ d)) (fold (2 ^ d) (node t (4 * i + 2)) (fold (2 ^ d + 2 ^ d) (node t (2 * i + 1)) a))) →
    Same p (2 ^ d) (wholes z) (scale (2 ^ d) (pos (2 ^ d)) (fold (2 ^ d) (node t (4 * i + 3)) (fold (2 ^ d + 2 ^ d) (node t (2 * i + 1)) a))) →
    UnfoldsTwice p (2 ^ d) s u v w x y z b → Same p (2 ^ d + 2 ^ d + (2 ^ d + 2 ^ d)) b (scale (2 ^ d + 2 ^ d + (2 ^ d + 2 ^ d)) (pos (2 ^ d + 2 ^ d + (2 ^ d + 2 ^ d))) a)
inverse_two_steps p d i s u v t inverses a b w x y z inv inside es eu ev fw fx fy fz n =
    let i0 : 2 * (2 * i) ≡ 4 * i = omega arith in
    let i1 : 2 * (2 * i) + 1 ≡ 4 * i + 1 = omega arith in
    let i2 : 2 * (2 * i + 1) ≡ 4 * i + 2 = omega arith in
    let i3 : 2 * (2 * i + 1) + 1 ≡ 4 * i + 3 = omega arith in
    let n0 : node t (4 * i) ≡ pos (get_or t (2 * i) 0) = rw i0 at (node_left t (2 * i)) in
    let n1 : node t (4 * i + 1) ≡ neg_ℤ (pos (get_or t (2 * i) 0)) = rw i1 at (node_right t (2 * i)) in
    let n2 : node t (4 * i + 2) ≡ pos (get_or t (2 * i + 1) 0) = rw i2 at (node_left t (2 * i + 1)) in
    let n3 : node t (4 * i + 3) ≡ neg_ℤ (pos (get_or t (2 * i + 1) 0)) = rw i3 at (node_right t (2 * i + 1)) in
    four_times_as p (2 ^ d) a b (n.four_times (scale (2 ^ d + 2 ^ d + (2 ^ d + 2 ^ d)) (pos (2 ^ d)) a) (get_or t i 0) (get_or t (2 * i) 0) (get_or t (2 * i + 1) 0)
    (rw es at (inv.each i (omega arith))) (rw eu at (inv.each (2 * i) (omega arith))) (rw ev at (inv.each (2 * i + 1) inside))
    (record {
      first = folds_scaled p (2 ^ d) (pos (2 ^ d)) (pos (get_or t i 0)) (pos (get_or t (2 * i) 0)) a w (rw (n0, node_left t i) at fw);
      second = folds_scaled p (2 ^ d) (pos (2 ^ d)) (pos (get_or t i 0)) (neg_ℤ (pos (get_or t (2 * i) 0))) a x (rw (n1, node_left t i) at fx);
      third = folds_scaled p (2 ^ d) (pos (2 ^ d)) (neg_ℤ (pos (get_or t i 0))) (pos (get_or t (2 * i + 1) 0)) a y (rw (n2, node_right t i) at fy);
      fourth = folds_scaled p (2 ^ d) (pos (2 ^ d)) (neg_ℤ (pos (get_or t i 0))) (neg_ℤ (pos (get_or t (2 * i + 1) 0))) a z (rw (n3, node_right t i) at fz);
    }))

-- ---- the values of a product are the products of the values
pub product_value : (p d k : ℕ) (t : List ℕ) (a b : List ℤ) (v w : List ℕ) → RootTree p t → length t ≡ 2 ^ d → Values p (2 ^ d) 1 t a v → Values p (2 ^ d) 1 t b w → k < 2 ^ d →
    Cong p (pos (get_or v k 0) *ℤ pos (get_or w k 0)) (value_at (2 ^ d) (times (2 ^ d) a b) (node t (2 ^ d * 1 + k)))
product_value p d k t a b v w r n f g l =
    let z : ℤ = node t (2 ^ d * 1 + k) in
    let h : 0 < 2 ^ d = one-le-pow d 2 (omega arith) in
    let q : Cong p (power z (2 ^ d)) (negsuc 0) = rw (root_1 p t r) at (leaf_power p d 1 k t r (omega arith) l (omega arith)) in
    cong_trans p (pos (get_or v k 0) *ℤ pos (get_or w k 0)) (value_at (2 ^ d) a z *ℤ value_at (2 ^ d) b z) (value_at (2 ^ d) (times (2 ^ d) a b) z)
    (cong_mul p (pos (get_or v k 0)) (value_at (2 ^ d) a z) (pos (get_or w k 0)) (value_at (2 ^ d) b z) (f.each k l) (g.each k l))
    (cong_sym p (value_at (2 ^ d) (times (2 ^ d) a b) z) (value_at (2 ^ d) a z *ℤ value_at (2 ^ d) b z) (value_times p (2 ^ d) a b z h q))
