-- The noise of sums, negatives, multiples, turns and fresh encryptions.
use Prim.Native.Nat.{ℕ, ◌<◌, ◌+◌, ◌*◌, ◌/◌, ◌%◌, ◌≤◌, ◌-◌}
use borrow.Author.Differences.{abs_is}
use lib.IntN.{ℤ, pos, ◌+ℤ◌, ◌*ℤ◌, neg_ℤ, ◌-ℤ◌, nat_abs}
use mathlib.Core.List.{List}
use mathlib.Core.Path.{◌≡◌, refl, sym, ap, ◌∙◌}
use native.Mathlib.Nat.{mul-le-mul_left}
use native.Mathlib.Omega.{arith}
use Rattle.std.proofs.lemmas.Int.{unsigned_abs-mul}
use Rattle.heco_ring.proofs.Congruence.{same_turn_list}
use Rattle.heco_ring.proofs.Integers.{lines, z_mul_comm, z_mul_add, z_mul_left, z_mul_neg}
use Rattle.heco_ring.proofs.Linear.{at-plus, at-scale, at-negate, products, sums, places}
use Rattle.heco_ring.proofs.Remainders.{cong_refl, cong_trans, cong_sym, cong_eq}
use Rattle.heco_ring.proofs.RingLaws.{times_assoc, turn_times}
use Rattle.heco_ring.proofs.Sizes.{abs_add, abs_neg}
use Rattle.heco_ring.proofs.Turns.{at-turn, turn_plus, turn_scale}
use Rattle.heco_ring.specs.Remainders.{Same}
use Rattle.heco_ring.specs.Ring.{at, times, plus, negate, scale, turn, sum_lists}
use Rattle.heco_ring.specs.Sizes.{weight}
use Rattle.heco_noise_laws.proofs.Fresh.{fresh_phase}
use Rattle.heco_noise_laws.proofs.Near.{near_out, near_in, same_noise, near_add, near_neg, near_mul, near_same}
use Rattle.heco_noise_laws.proofs.Product.{operand, size_s}
use Rattle.heco_noise_laws.proofs.SwitchNoise.{gain}
use Rattle.heco_noise_laws.proofs.TurnSizes.{turn_size}
use Rattle.heco_noise_laws.specs.Noise.{phase, NoiseAtMost}

-- The noise of the gates other than Mul, and of a fresh encryption.

-- z modulo q and m modulo t are all that counts
pub noise_same : (n q t E : ℕ) (z y m l : List ℤ) → 0 < q * t → Same q n y z → Same t n l m → NoiseAtMost n q t z m E → NoiseAtMost n q t y l E
noise_same n q t E z y m l h a b N = record {
  within = λ k kl.
      near_in (q * t) (pos t *ℤ at y k -ℤ pos q *ℤ at l k) E h
      (near_same (q * t) (pos t *ℤ at z k -ℤ pos q *ℤ at m k) (pos t *ℤ at y k -ℤ pos q *ℤ at l k) E (same_noise q t (at y k) (at z k) (at l k) (at m k) (a.each k kl) (b.each k kl))
      (near_out (q * t) (pos t *ℤ at z k -ℤ pos q *ℤ at m k) E h (N.within k kl)));
}

pub noise_add : (n q t E F : ℕ) (z y m l : List ℤ) → 0 < q * t → NoiseAtMost n q t z m E → NoiseAtMost n q t y l F → NoiseAtMost n q t (plus n z y) (plus n m l) (E + F)
noise_add n q t E F z y m l h a b = record {
  within = λ k kl.
      let e : pos t *ℤ at (plus n z y) k -ℤ pos q *ℤ at (plus n m l) k ≡ (pos t *ℤ at z k -ℤ pos q *ℤ at m k) +ℤ (pos t *ℤ at y k -ℤ pos q *ℤ at l k) =
      rw (at-plus n z y k kl, at-plus n m l k kl, z_mul_add (pos t) (at z k) (at y k), z_mul_add (pos q) (at m k) (at l k)) (omega (arith, lines)) in
      rw e (near_in (q * t) _ (E + F) h (near_add (q * t) (pos t *ℤ at z k -ℤ pos q *ℤ at m k) (pos t *ℤ at y k -ℤ pos q *ℤ at l k) E F (near_out (q * t) _ E h (a.within k kl)) (near_out (q * t) _ F h (b.within k kl))));
}

pub noise_neg : (n q t E : ℕ) (z m : List ℤ) → 0 < q * t → NoiseAtMost n q t z m E → NoiseAtMost n q t (negate n z) (negate n m) E
noise_neg n q t E z m h a = record {
  within = λ k kl.
      let e : pos t *ℤ at (negate n z) k -ℤ pos q *ℤ at (negate n m) k ≡ neg_ℤ (pos t *ℤ at z k -ℤ pos q *ℤ at m k) =
      rw (at-negate n z k kl, at-negate n m k kl, z_mul_neg (pos t) (at z k), z_mul_neg (pos q) (at m k)) (omega (arith, lines)) in
      rw e (near_in (q * t) _ E h (near_neg (q * t) (pos t *ℤ at z k -ℤ pos q *ℤ at m k) E (near_out (q * t) _ E h (a.within k kl))));
}

pub noise_scale : (n q t E : ℕ) (c : ℤ) (z m : List ℤ) → 0 < q * t → NoiseAtMost n q t z m E → NoiseAtMost n q t (scale n c z) (scale n c m) (nat_abs c * E)
noise_scale n q t E c z m h a = record {
  within = λ k kl.
      let e : pos t *ℤ at (scale n c z) k -ℤ pos q *ℤ at (scale n c m) k ≡ c *ℤ (pos t *ℤ at z k -ℤ pos q *ℤ at m k) =
      rw (at-scale n c z k kl, at-scale n c m k kl, z_mul_add c (pos t *ℤ at z k) (neg_ℤ (pos q *ℤ at m k)), z_mul_neg c (pos q *ℤ at m k), z_mul_left c (pos t) (at z k), z_mul_left c (pos q) (at m k)) refl in
      rw e (near_in (q * t) _ (nat_abs c * E) h (near_mul (q * t) c (pos t *ℤ at z k -ℤ pos q *ℤ at m k) E (near_out (q * t) _ E h (a.within k kl))));
}

-- floor((q c + floor(t/2)) / t)
pub scaled_near : (q t c : ℕ) → 0 < t → t % 2 ≡ 1 → nat_abs (pos t *ℤ pos ((q * c + t / 2) / t) -ℤ pos q *ℤ pos c) ≤ (t - 1) / 2
scaled_near q t c h o = let d : t * ((q * c + t / 2) / t) + (q * c + t / 2) % t ≡ q * c + t / 2 = omega arith in
    let l : (q * c + t / 2) % t < t = omega arith in close (t * ((q * c + t / 2) / t)) (q * c) ((q * c + t / 2) % t) t o d l
  where
    close : (X Y r t : ℕ) → t % 2 ≡ 1 → X + r ≡ Y + t / 2 → r < t → nat_abs (pos X -ℤ pos Y) ≤ (t - 1) / 2
    close X Y r t o e l = omega (arith, lines, abs_is)

-- a fresh encryption: D is the scaled message, place by place
pub noise_fresh : (n q t h B : ℕ) (s a e u e1 e2 D m : List ℤ) → 0 < q * t → weight n s ≤ h → weight n u ≤ h →
    ((i : ℕ) → i < n → nat_abs (at e i) ≤ B) → ((i : ℕ) → i < n → nat_abs (at e1 i) ≤ B) → ((i : ℕ) → i < n → nat_abs (at e2 i) ≤ B) →
    ((i : ℕ) → i < n → nat_abs (pos t *ℤ at D i -ℤ pos q *ℤ at m i) ≤ (t - 1) / 2) →
    NoiseAtMost n q t (plus n (plus n (plus n (times n (negate n (plus n (times n a s) e)) u) e1) D) (times n (plus n (times n a u) e2) s)) m ((t - 1) / 2 + t * B * (2 * h + 1))
noise_fresh n q t h B s a e u e1 e2 D m p ws wu be b1 b2 bd = record {
  within = λ k kl.
      let x : ℤ = at (negate n (times n e u)) k +ℤ (at e1 k +ℤ at (times n e2 s) k) in
      let r : at (plus n (plus n (negate n (times n e u)) (plus n e1 (times n e2 s))) D) k ≡ x +ℤ at D k = simp places in
      let xs : nat_abs x ≤ B * (2 * h + 1) = rw (at-negate n (times n e u) k kl) (omega (arith, abs_add (neg_ℤ (at (times n e u) k)) (at e1 k +ℤ at (times n e2 s) k), abs_add (at e1 k) (at (times n e2 s) k), abs_neg (at (times n e u) k), size_s n h B k e u wu be kl, size_s n h B k e2 s ws b2 kl, b1 k kl)) in
      rw (fresh_phase n k s a e u e1 e2 D kl, r, z_mul_add (pos t) x (at D k))
      (near_in (q * t) _ ((t - 1) / 2 + t * B * (2 * h + 1)) p (record {
        e = pos t *ℤ x +ℤ at D k *ℤ pos t -ℤ pos q *ℤ at m k;
        small = fresh_small t (pos t *ℤ x) (at D k *ℤ pos t) (pos q *ℤ at m k) (B * (2 * h + 1)) B h (rw (unsigned_abs-mul (pos t) x) (mul-le-mul_left t xs)) (rw (z_mul_comm (at D k) (pos t)) (bd k kl)) refl;
        same = cong_eq (q * t) _ _ (rw (z_mul_comm (at D k) (pos t)) refl);
      }));
}
  where
    fresh_small : (t : ℕ) (a b c : ℤ) (G B h : ℕ) → nat_abs a ≤ t * G → nat_abs (b -ℤ c) ≤ (t - 1) / 2 → G ≡ B * (2 * h + 1) → nat_abs (a +ℤ b -ℤ c) ≤ (t - 1) / 2 + t * B * (2 * h + 1)
    fresh_small t a b c G B h x y g = let d : a +ℤ b -ℤ c ≡ a +ℤ (b -ℤ c) = omega (arith, lines) in let f : t * G ≡ t * B * (2 * h + 1) = rw g (omega arith) in rw d (omega (arith, abs_add a (b -ℤ c), x, y, f))

-- ---- Relin and Turn before the switch
pub relin_value : (n l : ℕ) (s c0 c1 c2 : List ℤ) (d k0 k1 : ℕ → List ℤ) →
    plus n (plus n c0 (sum_lists n l (λ i. times n (d i) (k0 i)))) (times n (plus n c1 (sum_lists n l (λ i. times n (d i) (k1 i)))) s) ≡ plus n (plus n c0 (times n c1 s)) (gain n l s d k0 k1)
unfolding gain
relin_value n l s c0 c1 c2 d k0 k1 = simp (products, sums)

pub relin_phase : (n : ℕ) (s c0 c1 c2 : List ℤ) → plus n (plus n c0 (times n c1 s)) (times n c2 (times n s s)) ≡ phase n s c0 c1 c2
unfolding phase
relin_phase n s c0 c1 c2 = simp times_assoc

pub turn_phase : (n h : ℕ) (s c0 c1 : List ℤ) → 0 < n → plus n (turn n c0 (2 * h + 1)) (times n (turn n c1 (2 * h + 1)) (turn n s (2 * h + 1))) ≡ turn n (plus n c0 (times n c1 s)) (2 * h + 1)
turn_phase n h s c0 c1 p = rw (turn_plus n (2 * h + 1) c0 (times n c1 s), turn_times n h c1 s p)

pub noise_turn : (n q t g g' E : ℕ) (z m : List ℤ) → 0 < q * t → (g * g') % (2 * n) ≡ 1 → NoiseAtMost n q t z m E → NoiseAtMost n q t (turn n z g) (turn n m g) E
noise_turn n q t g g' E z m h e a = let A = operand n q t E z m h a in record {
  within = λ k kl.
      let f : pos t *ℤ at (turn n z g) k ≡ pos q *ℤ at (turn n A.M g) k +ℤ at (turn n A.e g) k = turned n q t g k z A.M A.e kl A.split.split in
      near_in (q * t) _ E h (record {
        e = at (turn n A.e g) k;
        small = rw (at-turn n g k A.e kl) (turn_size n g g' E k A.e kl e A.small);
        same = cong_trans (q * t) (pos t *ℤ at (turn n z g) k -ℤ pos q *ℤ at (turn n m g) k) (pos t *ℤ at (turn n z g) k -ℤ pos q *ℤ at (turn n A.M g) k) (at (turn n A.e g) k)
            (same_noise q t (at (turn n z g) k) (at (turn n z g) k) (at (turn n m g) k) (at (turn n A.M g) k) (cong_refl q (at (turn n z g) k)) (cong_sym t (at (turn n A.M g) k) (at (turn n m g) k) ((same_turn_list t n g A.M m (record { each = A.message })).each k kl)))
            (cong_eq (q * t) _ _ (omega (arith, lines, f)));
      });
}
  where
    turned : (n q t g k : ℕ) (z M e : List ℤ) → k < n → scale n (pos t) z ≡ plus n (scale n (pos q) M) e → pos t *ℤ at (turn n z g) k ≡ pos q *ℤ at (turn n M g) k +ℤ at (turn n e g) k
    turned n q t g k z M e kl x = let y : scale n (pos t) (turn n z g) ≡ plus n (scale n (pos q) (turn n M g)) (turn n e g) = sym (turn_scale n g (pos t) z) ∙ ap (λ (v : List ℤ). turn n v g) x ∙ turn_plus n g (scale n (pos q) M) e ∙ ap (λ (v : List ℤ). plus n v (turn n e g)) (turn_scale n g (pos q) M) in
        simp places at (ap (λ (v : List ℤ). at v k) y)
