-- The noise after a switch of keys.
use Prim.Native.Nat.{ℕ, ◌<◌, ◌+◌, ◌*◌, ◌≤◌}
use lib.IntN.{ℤ, pos, ◌+ℤ◌, ◌*ℤ◌, neg_ℤ, ◌-ℤ◌, nat_abs}
use mathlib.Core.List.{List}
use mathlib.Core.Path.{◌≡◌}
use native.Mathlib.Nat.{mul-le-mul_left}
use native.Mathlib.Omega.{arith}
use Rattle.std.proofs.lemmas.Int.{unsigned_abs-mul}
use Rattle.heco_ring.proofs.Congruence.{same_refl, same_plus, same_times, same_sum_lists}
use Rattle.heco_ring.proofs.Integers.{lines, z_mul_add, z_mul_neg}
use Rattle.heco_ring.proofs.Linear.{at-plus}
use Rattle.heco_ring.proofs.Remainders.{cong_refl, cong_trans}
use Rattle.heco_ring.proofs.Sizes.{abs_neg}
use Rattle.heco_ring.specs.Remainders.{Cong, Same}
use Rattle.heco_ring.specs.Ring.{at, times, plus, negate, scale, sum_lists}
use Rattle.heco_noise_laws.proofs.Near.{Near, near_out, near_in, same_noise, near_add, near_same}
use Rattle.heco_noise_laws.proofs.Switch.{switch_phase, switch_size}
use Rattle.heco_noise_laws.specs.Noise.{NoiseAtMost}

-- The noise after a switch of keys, for Relin and Turn.

-- a switch key from s' to s
pub record SwitchKey (q n l B : ℕ) (s s' : List ℤ) (k0 k1 : ℕ → List ℤ) (c : ℕ → ℤ) : Type 0 where
  pub a : ℕ → List ℤ
  pub e : ℕ → List ℤ
  pub small : (i j : ℕ) → j < n → nat_abs (at (e i) j) ≤ B
  pub first : (i : ℕ) → i < l → Same q n (k0 i) (plus n (negate n (plus n (times n (a i) s) (e i))) (scale n (c i) s'))
  pub second : (i : ℕ) → i < l → Same q n (k1 i) (a i)

-- what the two parts gain, at the secret s
unfoldable pub gain : ℕ → ℕ → List ℤ → (ℕ → List ℤ) → (ℕ → List ℤ) → (ℕ → List ℤ) → List ℤ
gain n l s d k0 k1 = plus n (sum_lists n l (λ i. times n (d i) (k0 i))) (times n (sum_lists n l (λ i. times n (d i) (k1 i))) s)

pub gain_is : (q n l B k : ℕ) (s s' : List ℤ) (d k0 k1 : ℕ → List ℤ) (c : ℕ → ℤ) (K : SwitchKey q n l B s s' k0 k1 c) → k < n →
    Cong q (at (gain n l s d k0 k1) k) (at (times n (sum_lists n l (λ i. scale n (c i) (d i))) s') k -ℤ at (sum_lists n l (λ i. times n (d i) (K.e i))) k)
unfolding gain
gain_is q n l B k s s' d k0 k1 c K h =
    let A : ℕ → List ℤ = λ i. times n (d i) (plus n (negate n (plus n (times n (K.a i) s) (K.e i))) (scale n (c i) s')) in
    let C : ℕ → List ℤ = λ i. times n (d i) (K.a i) in
    let S : Same q n (plus n (sum_lists n l (λ i. times n (d i) (k0 i))) (times n (sum_lists n l (λ i. times n (d i) (k1 i))) s)) (plus n (sum_lists n l A) (times n (sum_lists n l C) s)) =
    same_plus q n (sum_lists n l (λ i. times n (d i) (k0 i))) (sum_lists n l A) (times n (sum_lists n l (λ i. times n (d i) (k1 i))) s) (times n (sum_lists n l C) s)
    (same_sum_lists q n l (λ i. times n (d i) (k0 i)) A (λ i il. same_times q n (d i) (d i) (k0 i) (plus n (negate n (plus n (times n (K.a i) s) (K.e i))) (scale n (c i) s')) (same_refl q n (d i)) (K.first i il)))
    (same_times q n (sum_lists n l (λ i. times n (d i) (k1 i))) (sum_lists n l C) s s (same_sum_lists q n l (λ i. times n (d i) (k1 i)) C (λ i il. same_times q n (d i) (d i) (k1 i) (K.a i) (same_refl q n (d i)) (K.second i il))) (same_refl q n s)) in
    rw (← (switch_phase n l k s s' d K.a K.e c h)) (S.each k h)

-- a value v b-switched: the noise grows by t l n D B
pub switch_noise : (q t n l D B E : ℕ) (v w b m s s' : List ℤ) (d k0 k1 : ℕ → List ℤ) (c : ℕ → ℤ) → 0 < q * t → SwitchKey q n l B s s' k0 k1 c →
    ((i j : ℕ) → j < n → nat_abs (at (d i) j) ≤ D) → Same q n (sum_lists n l (λ i. scale n (c i) (d i))) b →
    Same q n w (plus n v (gain n l s d k0 k1)) → NoiseAtMost n q t (plus n v (times n b s')) m E → NoiseAtMost n q t w m (E + t * (l * (n * D * B)))
switch_noise q t n l D B E v w b m s s' d k0 k1 c h K dd sb sw z = record {
  within = λ k kl.
      let F = sum_lists n l (λ i. times n (d i) (K.e i)) in
      let x : ℤ = at (plus n v (times n b s')) k in
      let N = near_out (q * t) (pos t *ℤ x -ℤ pos q *ℤ at m k) E h (z.within k kl) in
      let g : Cong q (at w k) (x -ℤ at F k) =
      cong_trans q (at w k) (at (plus n v (gain n l s d k0 k1)) k) (x -ℤ at F k) (sw.each k kl)
      (rw (at-plus n v (gain n l s d k0 k1) k kl, at-plus n v (times n b s') k kl)
      (sum_same q (at v k) (at (gain n l s d k0 k1) k) (at (times n b s') k) (at (times n (sum_lists n l (λ i. scale n (c i) (d i))) s') k) (at F k)
      (gain_is q n l B k s s' d k0 k1 c K kl) ((same_times q n (sum_lists n l (λ i. scale n (c i) (d i))) b s' s' sb (same_refl q n s')).each k kl))) in
      near_in (q * t) (pos t *ℤ at w k -ℤ pos q *ℤ at m k) (E + t * (l * (n * D * B))) h
      (less_error (q * t) t E (l * (n * D * B)) (at w k) x (at F k) (pos q *ℤ at m k) (same_noise q t (at w k) (x -ℤ at F k) (at m k) (at m k) g (cong_refl t (at m k))) N (switch_size n l D B k d K.e kl dd K.small));
}
  where
    sum_same : (q : ℕ) (v g y y' f : ℤ) → Cong q g (y' -ℤ f) → Cong q y' y → Cong q (v +ℤ g) (v +ℤ y -ℤ f)
    sum_same q v g y y' f a b = record { by = a.by +ℤ b.by; is = rw (z_mul_add (pos q) a.by b.by) (omega (arith, lines, a.is, b.is)) }

    less_error : (M t E G : ℕ) (w x f p : ℤ) → Cong M (pos t *ℤ w -ℤ p) (pos t *ℤ (x -ℤ f) -ℤ p) → Near M (pos t *ℤ x -ℤ p) E → nat_abs f ≤ G → Near M (pos t *ℤ w -ℤ p) (E + t * G)
    less_error M t E G w x f p c a s =
        let fn : Near M (neg_ℤ (pos t *ℤ f)) (t * G) = record { e = neg_ℤ (pos t *ℤ f); small = rw (abs_neg (pos t *ℤ f), unsigned_abs-mul (pos t) f) (mul-le-mul_left t s); same = cong_refl M (neg_ℤ (pos t *ℤ f)) } in
        let e : pos t *ℤ (x -ℤ f) -ℤ p ≡ (pos t *ℤ x -ℤ p) +ℤ neg_ℤ (pos t *ℤ f) = rw (z_mul_add (pos t) x (neg_ℤ f), z_mul_neg (pos t) f) (omega (arith, lines)) in
        near_same M ((pos t *ℤ x -ℤ p) +ℤ neg_ℤ (pos t *ℤ f)) (pos t *ℤ w -ℤ p) (E + t * G) (rw (← e) c) (near_add M (pos t *ℤ x -ℤ p) (neg_ℤ (pos t *ℤ f)) E (t * G) a fn)
