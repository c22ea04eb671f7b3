-- The noise of a product.
use Prim.Native.Nat.{ℕ, ◌<◌, ◌+◌, ◌*◌, ◌/◌, ◌≤◌}
use borrow.Author.Differences.{abs_is}
use lib.IntN.{ℤ, pos, ◌+ℤ◌, ◌*ℤ◌, neg_ℤ, ◌-ℤ◌, nat_abs}
use mathlib.Core.List.{List}
use mathlib.Core.Path.{◌≡◌, refl, sym, ap, ◌∙◌}
use native.Mathlib.Nat.{mul-le-mul_left, le_trans, le_of_mul-le-mul_left, mul-le-mul_right, lt_of_mul-lt-mul_left}
use native.Mathlib.Omega.{arith}
use Rattle.std.proofs.lemmas.Int.{unsigned_abs-mul}
use Rattle.heco_ring.proofs.Integers.{lines, z_mul_add, z_mul_assoc, z_mul_left, z_mul_neg}
use Rattle.heco_ring.proofs.Linear.{at-times, at-plus, products, sums, places}
use Rattle.heco_ring.proofs.Pairing.{at-table, table_ext}
use Rattle.heco_ring.proofs.Remainders.{rem-lt, rem_split, cong_refl, cong_times, cong_sym}
use Rattle.heco_ring.proofs.RingLaws.{times_comm}
use Rattle.heco_ring.proofs.Sizes.{abs_add, abs_neg, times_size, weight-le}
use Rattle.heco_ring.specs.Remainders.{rem, Cong}
use Rattle.heco_ring.specs.Ring.{at, table, times, plus, scale}
use Rattle.heco_ring.specs.Sizes.{weight}
use Rattle.heco_noise_laws.proofs.Near.{near_in, same_noise, near_e, near_c, near_is, near_small}
use Rattle.heco_noise_laws.specs.Noise.{phase, NoiseAtMost, rounded, round_part}

-- (c0 + c1 s)(d0 + d1 s) is the phase of the tensor
pub tensor_phase : (n : ℕ) (s c0 c1 d0 d1 : List ℤ) → times n (plus n c0 (times n c1 s)) (plus n d0 (times n d1 s)) ≡ phase n s (times n c0 d0) (plus n (times n c0 d1) (times n c1 d0)) (times n c1 d1)
unfolding phase
tensor_phase n s c0 c1 d0 d1 = simp (products, sums)

-- t Z = q M + e for both operands
pub record Split (n q t : ℕ) (Z M e : List ℤ) : Type 0 where
  pub split : scale n (pos t) Z ≡ plus n (scale n (pos q) M) e

split_at : (n q t : ℕ) (Z M e : List ℤ) (k : ℕ) → k < n → Split n q t Z M e → pos t *ℤ at Z k ≡ pos q *ℤ at M k +ℤ at e k
split_at n q t Z M e k h a = simp places at (ap (λ (x : List ℤ). at x k) a.split)

pub square : (n q t : ℕ) (Z M e Y N f : List ℤ) → Split n q t Z M e → Split n q t Y N f →
    scale n (pos t) (scale n (pos t) (times n Z Y)) ≡ plus n (plus n (scale n (pos q) (scale n (pos q) (times n M N))) (scale n (pos q) (plus n (times n M f) (times n e N)))) (times n e f)
square n q t Z M e Y N f a b =
    (let x : scale n (pos t) (scale n (pos t) (times n Z Y)) ≡ times n (scale n (pos t) Z) (scale n (pos t) Y) = simp products in x)
    ∙ rw (a.split, b.split) (simp (products, sums))

-- q y = t x + r for each part of the tensor
pub record Rounds (n q t : ℕ) (x y r : List ℤ) : Type 0 where
  pub rounds : scale n (pos q) y ≡ plus n (scale n (pos t) x) r

pub phase_rounds : (n q t : ℕ) (s x0 x1 x2 y0 y1 y2 r0 r1 r2 : List ℤ) → Rounds n q t x0 y0 r0 → Rounds n q t x1 y1 r1 → Rounds n q t x2 y2 r2 →
    scale n (pos q) (phase n s y0 y1 y2) ≡ plus n (scale n (pos t) (phase n s x0 x1 x2)) (phase n s r0 r1 r2)
unfolding phase
phase_rounds n q t s x0 x1 x2 y0 y1 y2 r0 r1 r2 a b c =
    (let e : scale n (pos q) (plus n (plus n y0 (times n y1 s)) (times n (times n y2 s) s)) ≡ plus n (plus n (scale n (pos q) y0) (times n (scale n (pos q) y1) s)) (times n (times n (scale n (pos q) y2) s) s) = simp products in e)
    ∙ rw (a.rounds, b.rounds, c.rounds) (simp (products, sums))

-- what the error times q is
pub mul_error : (n q t : ℕ) (X Y M N u P w : List ℤ) (k : ℕ) → k < n →
    scale n (pos t) (scale n (pos t) X) ≡ plus n (plus n (scale n (pos q) (scale n (pos q) (times n M N))) (scale n (pos q) u)) w →
    scale n (pos q) Y ≡ plus n (scale n (pos t) X) P →
    pos q *ℤ (pos t *ℤ at Y k -ℤ pos q *ℤ at (times n M N) k) ≡ pos q *ℤ at u k +ℤ at w k +ℤ pos t *ℤ at P k
mul_error n q t X Y M N u P w k h a b =
    let ek : pos t *ℤ (pos t *ℤ at X k) ≡ pos q *ℤ (pos q *ℤ at (times n M N) k) +ℤ pos q *ℤ at u k +ℤ at w k = simp places at (ap (λ (x : List ℤ). at x k) a) in
    let fk : pos q *ℤ at Y k ≡ pos t *ℤ at X k +ℤ at P k = simp places at (ap (λ (x : List ℤ). at x k) b) in
    let g : pos t *ℤ (pos q *ℤ at Y k) ≡ pos t *ℤ (pos t *ℤ at X k) +ℤ pos t *ℤ at P k = rw fk (z_mul_add (pos t) (pos t *ℤ at X k) (at P k)) in
    rw (z_mul_add (pos q) (pos t *ℤ at Y k) (neg_ℤ (pos q *ℤ at (times n M N) k)), z_mul_neg (pos q) (pos q *ℤ at (times n M N) k), z_mul_left (pos q) (pos t) (at Y k)) (omega (arith, lines, g, ek))

-- ---- the operands
-- t Z = q M + e with e small, and M the message modulo t
pub record Operand (n q t E : ℕ) (Z m : List ℤ) : Type 0 where
  pub M : List ℤ
  pub e : List ℤ
  pub split : Split n q t Z M e
  pub small : (k : ℕ) → k < n → nat_abs (at e k) ≤ E
  pub message : (k : ℕ) → k < n → Cong t (at M k) (at m k)

pub operand : (n q t E : ℕ) (Z m : List ℤ) → 0 < q * t → NoiseAtMost n q t Z m E → Operand n q t E Z m
unfolding scale plus
operand n q t E Z m h z =
    let x : ℕ → ℤ = λ k. pos t *ℤ at Z k -ℤ pos q *ℤ at m k in
    let mf : ℕ → ℤ = λ k. at m k +ℤ pos t *ℤ near_c (q * t) (x k) in
    let ef : ℕ → ℤ = λ k. near_e (q * t) (x k) in
    record {
      M = table n mf;
      e = table n ef;
      split = record {
        split = table_ext n (λ k. pos t *ℤ at Z k) (λ k. at (table n (λ i. pos q *ℤ at (table n mf) i)) k +ℤ at (table n ef) k) (λ k l.
            let p : pos (q * t) ≡ pos q *ℤ pos t = refl in
            let i : x k ≡ near_e (q * t) (x k) +ℤ (pos q *ℤ pos t) *ℤ near_c (q * t) (x k) = near_is (q * t) (x k) h in
            rw (at-table n (λ i. pos q *ℤ at (table n mf) i) k l, at-table n mf k l, at-table n ef k l, z_mul_add (pos q) (at m k) (pos t *ℤ near_c (q * t) (x k)), ← (z_mul_assoc (pos q) (pos t) (near_c (q * t) (x k)))) (omega (arith, lines, i)));
      };
      small = λ k l. rw (at-table n ef k l) (le_trans (near_small (q * t) (x k) h) (z.within k l));
      message = λ k l. record { by = near_c (q * t) (x k); is = at-table n mf k l };
    }

-- the size of M
pub message_size : (q t h E : ℕ) (Z M e : ℤ) → 0 < q → pos t *ℤ Z ≡ pos q *ℤ M +ℤ e → 2 * nat_abs Z ≤ q * (1 + h) → nat_abs e ≤ E → 2 * E < q → nat_abs M ≤ (t * (1 + h) + 1) / 2
message_size q t h E Z M e lt s z d g =
    let qm : pos q *ℤ M ≡ pos t *ℤ Z +ℤ neg_ℤ e = omega (arith, lines, s) in
    let f : q * nat_abs M ≤ t * nat_abs Z + nat_abs e =
    omega (arith, sym (unsigned_abs-mul (pos q) M) ∙ ap nat_abs qm, abs_add (pos t *ℤ Z) (neg_ℤ e), unsigned_abs-mul (pos t) Z, abs_neg e) in
    let c : q * (2 * nat_abs M) < q * (t * (1 + h) + 1) = omega (arith, mul-le-mul_left t z, f, d, g) in
    omega (arith, lt_of_mul-lt-mul_left q c)

-- the last inequality
pub row : (n q t h Mb E F r u w p : ℕ) → 0 < q → 2 * E < q → 2 * F < q → q * r ≤ q * u + w + t * p → u ≤ n * Mb * F + n * E * Mb → w ≤ n * E * F → 2 * p ≤ q * (1 + h + h * h) → r ≤ n * (Mb + 1) * (E + F) + t * (1 + h + h * h)
row n q t h Mb E F r u w p lt a b s x y z =
    let v : n * E * (2 * F) ≤ n * E * q = mul-le-mul_left (n * E) (omega arith) in
    le_of_mul-le-mul_left (omega (arith, s, y, v, mul-le-mul_left q x, mul-le-mul_left t z)) lt

half_two : (q h p : ℕ) → p ≤ q / 2 + h * (q / 2) → 2 * p ≤ q * (1 + h)
half_two q h p l = let d : 2 * (q / 2) ≤ q = omega arith in omega (arith, mul-le-mul_left h d, l)

error_size : (q t : ℕ) (e u w p : ℤ) → pos q *ℤ e ≡ pos q *ℤ u +ℤ w +ℤ pos t *ℤ p → q * nat_abs e ≤ q * nat_abs u + nat_abs w + t * nat_abs p
error_size q t e u w p h = omega (arith, sym (unsigned_abs-mul (pos q) e) ∙ ap nat_abs h, abs_add (pos q *ℤ u +ℤ w) (pos t *ℤ p), abs_add (pos q *ℤ u) w, unsigned_abs-mul (pos q) u, unsigned_abs-mul (pos t) p)

half_phase : (q h p : ℕ) → p ≤ q / 2 + h * (q / 2) + h * (h * (q / 2)) → 2 * p ≤ q * (1 + h + h * h)
half_phase q h p l = let d : 2 * (q / 2) ≤ q = omega arith in omega (arith, mul-le-mul_left h d, mul-le-mul_left (h * h) d, l)

mul_pos : {a b : ℕ} → 0 < a → 0 < b → 0 < a * b
mul_pos {a} {b} h g = omega (arith, mul-le-mul_left a g)

-- ---- the sizes of products
pub size_of : (n A B k : ℕ) (a b : List ℤ) → ((i : ℕ) → i < n → nat_abs (at a i) ≤ A) → ((i : ℕ) → i < n → nat_abs (at b i) ≤ B) → k < n → nat_abs (at (times n a b) k) ≤ n * A * B
size_of n A B k a b h g l = rw (at-times n a b k l) (le_trans (times_size n a b B k g l) (mul-le-mul_right B (weight-le n A a h)))

-- a product with s
pub size_s : (n h B k : ℕ) (a s : List ℤ) → weight n s ≤ h → ((i : ℕ) → i < n → nat_abs (at a i) ≤ B) → k < n → nat_abs (at (times n a s) k) ≤ h * B
size_s n h B k a s w g l = rw (times_comm n a s, at-times n s a k l) (le_trans (times_size n s a B k g l) (mul-le-mul_right B w))

-- the size of the rounding
pub size_phase : (n h B k : ℕ) (s r0 r1 r2 : List ℤ) → weight n s ≤ h → ((i : ℕ) → i < n → nat_abs (at r0 i) ≤ B) → ((i : ℕ) → i < n → nat_abs (at r1 i) ≤ B) → ((i : ℕ) → i < n → nat_abs (at r2 i) ≤ B) → k < n → nat_abs (at (phase n s r0 r1 r2) k) ≤ B + h * B + h * (h * B)
unfolding phase
size_phase n h B k s r0 r1 r2 w a b c l =
    rw (at-plus n (plus n r0 (times n r1 s)) (times n (times n r2 s) s) k l, at-plus n r0 (times n r1 s) k l)
    (omega (
      arith,
      abs_add (at r0 k +ℤ at (times n r1 s) k) (at (times n (times n r2 s) s) k),
      abs_add (at r0 k) (at (times n r1 s) k),
      a k l,
      size_s n h B k r1 s w b l,
      size_s n h (h * B) k (times n r2 s) s w (λ i il. size_s n h B i r2 s w c il) l,
    ))

pub size_two : (n h B k : ℕ) (s r0 r1 : List ℤ) → weight n s ≤ h → ((i : ℕ) → i < n → nat_abs (at r0 i) ≤ B) → ((i : ℕ) → i < n → nat_abs (at r1 i) ≤ B) → k < n → nat_abs (at (plus n r0 (times n r1 s)) k) ≤ B + h * B
size_two n h B k s r0 r1 w a b l = rw (at-plus n r0 (times n r1 s) k l) (omega (arith, abs_add (at r0 k) (at (times n r1 s) k), a k l, size_s n h B k r1 s w b l))

-- ---- one part of the tensor, rounded
pub rounding : ℕ → ℕ → List ℤ → ℕ → ℤ
rounding q t x k = pos (q / 2) -ℤ pos (rem q (pos t *ℤ at x k +ℤ pos (q / 2)))

pub part_rounds : (n q t : ℕ) (x : List ℤ) → 0 < q → Rounds n q t x (round_part n q t x) (table n (rounding q t x))
unfolding scale plus rounded round_part rounding
part_rounds n q t x h = record {
  rounds = table_ext n (λ k. pos q *ℤ at (round_part n q t x) k) (λ k. at (scale n (pos t) x) k +ℤ at (table n (rounding q t x)) k) (λ k l.
      rw (at-table n (λ k. rounded q t (at x k)) k l, at-table n (λ k. pos t *ℤ at x k) k l, at-table n (rounding q t x) k l)
      (omega (arith, lines, rem_split q (pos t *ℤ at x k +ℤ pos (q / 2)) h)));
}

pub rounding_size : (n q t k : ℕ) (x : List ℤ) → 0 < q → k < n → nat_abs (at (table n (rounding q t x)) k) ≤ q / 2
unfolding rounding
rounding_size n q t k x h l = rw (at-table n (rounding q t x) k l) (omega (arith, lines, abs_is, rem-lt q (pos t *ℤ at x k +ℤ pos (q / 2)) h))

-- ---- the noise of a product
pub mul_noise : (n q t h E F : ℕ) (s c0 c1 d0 d1 m l : List ℤ) → 0 < q → 0 < t → 2 * E < q → 2 * F < q → weight n s ≤ h →
    ((i : ℕ) → i < n → nat_abs (at c0 i) ≤ q / 2) → ((i : ℕ) → i < n → nat_abs (at c1 i) ≤ q / 2) →
    ((i : ℕ) → i < n → nat_abs (at d0 i) ≤ q / 2) → ((i : ℕ) → i < n → nat_abs (at d1 i) ≤ q / 2) →
    NoiseAtMost n q t (plus n c0 (times n c1 s)) m E → NoiseAtMost n q t (plus n d0 (times n d1 s)) l F →
    NoiseAtMost n q t (phase n s (round_part n q t (times n c0 d0)) (round_part n q t (plus n (times n c0 d1) (times n c1 d0))) (round_part n q t (times n c1 d1))) (times n m l)
    (n * ((t * (1 + h) + 1) / 2 + 1) * (E + F) + t * (1 + h + h * h))
mul_noise n q t h E F s c0 c1 d0 d1 m l hq ht hE hF w a0 a1 b0 b1 za zb =
    let Z = plus n c0 (times n c1 s) in
    let Y = plus n d0 (times n d1 s) in
    let qt : 0 < q * t = mul_pos hq ht in
    let A = operand n q t E Z m qt za in
    let B = operand n q t F Y l qt zb in
    let Mb = (t * (1 + h) + 1) / 2 in
    let x0 = times n c0 d0 in
    let x1 = plus n (times n c0 d1) (times n c1 d0) in
    let x2 = times n c1 d1 in
    let P = phase n s (table n (rounding q t x0)) (table n (rounding q t x1)) (table n (rounding q t x2)) in
    let V = phase n s (round_part n q t x0) (round_part n q t x1) (round_part n q t x2) in
    let u = plus n (times n A.M B.e) (times n A.e B.M) in
    let ef = times n A.e B.e in
    let sizeM : (k : ℕ) → k < n → nat_abs (at A.M k) ≤ Mb = λ k kl. message_size q t h E (at Z k) (at A.M k) (at A.e k) hq (split_at n q t Z A.M A.e k kl A.split) (half_two q h _ (size_two n h (q / 2) k s c0 c1 w a0 a1 kl)) (A.small k kl) hE in
    let sizeN : (k : ℕ) → k < n → nat_abs (at B.M k) ≤ Mb = λ k kl. message_size q t h F (at Y k) (at B.M k) (at B.e k) hq (split_at n q t Y B.M B.e k kl B.split) (half_two q h _ (size_two n h (q / 2) k s d0 d1 w b0 b1 kl)) (B.small k kl) hF in
    let sq : scale n (pos t) (scale n (pos t) (times n Z Y)) ≡ plus n (plus n (scale n (pos q) (scale n (pos q) (times n A.M B.M))) (scale n (pos q) u)) ef = square n q t Z A.M A.e Y B.M B.e A.split B.split in
    let pr : scale n (pos q) V ≡ plus n (scale n (pos t) (times n Z Y)) P = rw (tensor_phase n s c0 c1 d0 d1) (phase_rounds n q t s x0 x1 x2 (round_part n q t x0) (round_part n q t x1) (round_part n q t x2) (table n (rounding q t x0)) (table n (rounding q t x1)) (table n (rounding q t x2)) (part_rounds n q t x0 hq) (part_rounds n q t x1 hq) (part_rounds n q t x2 hq)) in
    record {
      within = λ k kl.
          let e = pos t *ℤ at V k -ℤ pos q *ℤ at (times n A.M B.M) k in
          let er : pos q *ℤ e ≡ pos q *ℤ at u k +ℤ at ef k +ℤ pos t *ℤ at P k = mul_error n q t (times n Z Y) V A.M B.M u P ef k kl sq pr in
          let sz : q * nat_abs e ≤ q * nat_abs (at u k) + nat_abs (at ef k) + t * nat_abs (at P k) = error_size q t e (at u k) (at ef k) (at P k) er in
          let su : nat_abs (at u k) ≤ n * Mb * F + n * E * Mb = rw (at-plus n (times n A.M B.e) (times n A.e B.M) k kl) (omega (arith, abs_add (at (times n A.M B.e) k) (at (times n A.e B.M) k), size_of n Mb F k A.M B.e sizeM B.small kl, size_of n E Mb k A.e B.M A.small sizeN kl)) in
          let sw : nat_abs (at ef k) ≤ n * E * F = size_of n E F k A.e B.e A.small B.small kl in
          let sp : 2 * nat_abs (at P k) ≤ q * (1 + h + h * h) = half_phase q h (nat_abs (at P k)) (size_phase n h (q / 2) k s (table n (rounding q t x0)) (table n (rounding q t x1)) (table n (rounding q t x2)) w (λ i il. rounding_size n q t i x0 hq il) (λ i il. rounding_size n q t i x1 hq il) (λ i il. rounding_size n q t i x2 hq il) kl) in
          near_in (q * t) (pos t *ℤ at V k -ℤ pos q *ℤ at (times n m l) k) (n * (Mb + 1) * (E + F) + t * (1 + h + h * h)) qt
          (record {
            e = e;
            small = row n q t h Mb E F (nat_abs e) (nat_abs (at u k)) (nat_abs (at ef k)) (nat_abs (at P k)) hq hE hF sz su sw sp;
            same = same_noise q t (at V k) (at V k) (at (times n m l) k) (at (times n A.M B.M) k) (cong_refl q (at V k))
                (rw (at-times n m l k kl, at-times n A.M B.M k kl) (cong_times t n m A.M l B.M k (λ i il. cong_sym t (at A.M i) (at m i) (A.message i il)) (λ i il. cong_sym t (at B.M i) (at l i) (B.message i il))));
          });
    }
