-- The slots of sums, products, multiples, constants and turns.
use Prim.Native.Nat.{ℕ, zero, suc, ◌<◌, ◌+◌, ◌*◌, ◌/◌, ◌%◌, ◌^◌, ◌-◌}
use borrow.Author.Differences.{ints}
use lib.IntN.{ℤ, pos, ◌*ℤ◌, neg_ℤ, negsuc, neg_ℤ-neg_ℤ}
use mathlib.Core.List.{List}
use mathlib.Core.Path.{◌≡◌, refl, sym, ap, ◌∙◌, subst}
use native.Mathlib.Nat.{pow-suc, pow-succ', pow-zero, mod-mod}
use native.Mathlib.Omega.{arith}
use Rattle.std.proofs.lemmas.Nat.{pow-add, mul-mod_second, mul-mod_first}
use Rattle.heco_ring.proofs.Integers.{z_mul_assoc, z_mul_one, z_one_mul, z_mul_minus, monomials}
use Rattle.heco_ring.proofs.Linear.{pair_negate, pair_plus, pair_scale, pair_constant}
use Rattle.heco_ring.proofs.Pairing.{pair}
use Rattle.heco_ring.proofs.PairingModulo.{FlipsMod, pair_cong, pair_twice_mod, pair_turn_mod}
use Rattle.heco_ring.proofs.Powers.{cong_one, one_mod}
use Rattle.heco_ring.proofs.Remainders.{rem_cong, cong_mul, cong_refl, cong_sum, cong_neg, cong_trans, cong_sym, cong_eq, rem_nat, minus_one, rem-add, rem-neg, rem-mul, rem-mul_second}
use Rattle.heco_ring.proofs.Sums.{sum_ext, sum_mul, sum_mul_right}
use Rattle.heco_ring.specs.Remainders.{rem, Cong, Same}
use Rattle.heco_ring.specs.Ring.{sum_z, at, times, plus, negate, scale, turn, constant}
use Rattle.heco_ring.specs.Slots.{value, slot}

two_more : (x k m : ℕ) → m ≡ suc (suc k) → x ^ m ≡ x * (x * x ^ k)
two_more x k m e = rw (e, pow-succ' x (suc k), pow-succ' x k)

pub pow-mul : (x a b : ℕ) → x ^ (a * b) ≡ (x ^ a) ^ b
pow-mul x a zero = let e : a * 0 ≡ 0 = omega arith in rw (e, pow-zero x, pow-zero (x ^ a))
pow-mul x a (suc b) = let e : a * suc b ≡ a * b + a = omega arith in rw (e, pow-add x (a * b) a, pow-mul x a b, pow-suc (x ^ a) b)

power_sum : (z i k w : ℕ) → z ^ ((i + k) * w) ≡ z ^ (i * w) * z ^ (k * w)
power_sum z i k w = let e : (i + k) * w ≡ i * w + k * w = omega arith in rw (e, pow-add z (i * w) (k * w))

-- x^2 is 1 modulo t where x is -1, so an odd power of x is -1
pub odd_power : (t x h : ℕ) → Cong t (pos x) (negsuc 0) → Cong t (pos (x ^ (2 * h + 1))) (negsuc 0)
odd_power t x zero c = let e : x ^ (2 * 0 + 1) ≡ x = rw (pow-suc x 0, pow-zero x) (omega arith) in rw e c
odd_power t x (suc h) c = let e : pos (x ^ (2 * suc h + 1)) ≡ pos x *ℤ (pos x *ℤ pos (x ^ (2 * h + 1))) = ap pos (two_more x (2 * h + 1) (2 * suc h + 1) (omega arith)) in
    rw e (cong_mul t (pos x) (negsuc 0) (pos x *ℤ pos (x ^ (2 * h + 1))) (pos 1) c (cong_mul t (pos x) (negsuc 0) (pos (x ^ (2 * h + 1))) (negsuc 0) c (odd_power t x h c)))

pub three_odd : (j : ℕ) → (h : ℕ) × (3 ^ j ≡ 2 * h + 1)
three_odd zero = (0, refl)
three_odd (suc j) = let r = three_odd j in (3 * r.0 + 1, omega (arith, pow-suc 3 j, r.1))

pub powers_flip : (t n z h : ℕ) → Cong t (pos (z ^ n)) (negsuc 0) → FlipsMod t n (λ m. pos (z ^ (m * (2 * h + 1))))
powers_flip t n z h c = record {
  flips = λ k.
      let e : pos (z ^ ((k + n) * (2 * h + 1))) ≡ pos (z ^ (k * (2 * h + 1))) *ℤ pos ((z ^ n) ^ (2 * h + 1)) = ap pos (power_sum z k n (2 * h + 1) ∙ ap (λ (x : ℕ). z ^ (k * (2 * h + 1)) * x) (pow-mul z n (2 * h + 1))) in
      rw e (cong_trans t (pos (z ^ (k * (2 * h + 1))) *ℤ pos ((z ^ n) ^ (2 * h + 1))) (pos (z ^ (k * (2 * h + 1))) *ℤ negsuc 0) (neg_ℤ (pos (z ^ (k * (2 * h + 1)))))
      (cong_mul t (pos (z ^ (k * (2 * h + 1)))) (pos (z ^ (k * (2 * h + 1)))) (pos ((z ^ n) ^ (2 * h + 1))) (negsuc 0) (cong_refl t (pos (z ^ (k * (2 * h + 1))))) (odd_power t (z ^ n) h c))
      (cong_eq t (pos (z ^ (k * (2 * h + 1))) *ℤ negsuc 0) (neg_ℤ (pos (z ^ (k * (2 * h + 1))))) (omega (arith, ints))));
}

pub power_flip : (t n z : ℕ) → Cong t (pos (z ^ n)) (negsuc 0) → FlipsMod t n (λ m. pos (z ^ m))
power_flip t n z c = record {
  flips = λ k. let e : pos (z ^ (k + n)) ≡ pos (z ^ k) *ℤ pos (z ^ n) = ap pos (pow-add z k n) in
      rw (e, ← (z_mul_minus (pos (z ^ k)))) (cong_mul t (pos (z ^ k)) (pos (z ^ k)) (pos (z ^ n)) (negsuc 0) (cong_refl t (pos (z ^ k))) c);
}

-- the pairing with a product of powers is the product of the pairings
pair_product : (n : ℕ) (a b : List ℤ) (u : ℕ → ℤ) → ((i j : ℕ) → u (i + j) ≡ u i *ℤ u j) → pair n a (λ i. pair n b (λ j. u (i + j))) ≡ pair n a u *ℤ pair n b u
unfolding pair
pair_product n a b u e =
    sum_ext n (λ i. at a i *ℤ sum_z n (λ j. at b j *ℤ u (i + j))) (λ i. at a i *ℤ u i *ℤ sum_z n (λ j. at b j *ℤ u j)) (λ i l.
    ap (λ (x : ℤ). at a i *ℤ x) (sum_ext n (λ j. at b j *ℤ u (i + j)) (λ j. u i *ℤ (at b j *ℤ u j)) (λ j jl. rw (e i j) (simp monomials)) ∙ sum_mul n (u i) (λ j. at b j *ℤ u j))
    ∙ sym (z_mul_assoc (at a i) (u i) (sum_z n (λ j. at b j *ℤ u j))))
    ∙ sum_mul_right n (sum_z n (λ j. at b j *ℤ u j)) (λ i. at a i *ℤ u i)

-- a period of 2n, modulo t
pub turns_mod : (t n m c : ℕ) (u : ℕ → ℤ) → FlipsMod t n u → Cong t (u (m + 2 * n * c)) (u m)
turns_mod t n m zero u fl = let e : m + 2 * n * 0 ≡ m = omega arith in rw e (cong_refl t (u m))
turns_mod t n m (suc c) u fl = let e : m + 2 * n * suc c ≡ m + 2 * n * c + n + n = omega arith in
    rw e (cong_trans t (u (m + 2 * n * c + n + n)) (neg_ℤ (u (m + 2 * n * c + n))) (u m) (fl.flips (m + 2 * n * c + n))
    (cong_trans t (neg_ℤ (u (m + 2 * n * c + n))) (neg_ℤ (neg_ℤ (u (m + 2 * n * c)))) (u m) (cong_neg t (u (m + 2 * n * c + n)) (neg_ℤ (u (m + 2 * n * c))) (fl.flips (m + 2 * n * c)))
    (rw (neg_ℤ-neg_ℤ (u (m + 2 * n * c))) (turns_mod t n m c u fl))))

-- exponents that are equal modulo 2n
pub same_turn : (t n a b : ℕ) (u : ℕ → ℤ) → 0 < n → FlipsMod t n u → a % (2 * n) ≡ b % (2 * n) → Cong t (u a) (u b)
same_turn t n a b u h fl e =
    let ea : a % (2 * n) + 2 * n * (a / (2 * n)) ≡ a = omega arith in
    let eb : b % (2 * n) + 2 * n * (b / (2 * n)) ≡ b = omega arith in
    let ca : Cong t (u a) (u (a % (2 * n))) = rw ea at (turns_mod t n (a % (2 * n)) (a / (2 * n)) u fl) in
    let cb : Cong t (u b) (u (b % (2 * n))) = rw eb at (turns_mod t n (b % (2 * n)) (b / (2 * n)) u fl) in
    cong_trans t (u a) (u (a % (2 * n))) (u b) ca (rw e (cong_sym t (u b) (u (b % (2 * n))) cb))

pub odd_flip : (t n z w : ℕ) → w % 2 ≡ 1 → Cong t (pos (z ^ n)) (negsuc 0) → FlipsMod t n (λ m. pos (z ^ (m * w)))
odd_flip t n z w o c = let e : 2 * (w / 2) + 1 ≡ w = omega arith in subst (λ (x : ℕ). FlipsMod t n (λ m. pos (z ^ (m * x)))) e (powers_flip t n z (w / 2) c)

pub three_is_odd : (j : ℕ) → 3 ^ j % 2 ≡ 1
three_is_odd j = omega (arith, (three_odd j).1)

-- ---- the value at z^w
pub value_plus : (n t z w : ℕ) (a b : List ℤ) → 0 < t → value n t z w (plus n a b) ≡ (value n t z w a + value n t z w b) % t
unfolding value pair
value_plus n t z w a b ht = let u : ℕ → ℤ = λ m. pos (z ^ (m * w)) in ap (rem t) (pair_plus n a b u) ∙ rem-add t (pair n a u) (pair n b u) ht

pub value_negate : (n t z w : ℕ) (a : List ℤ) → 0 < t → value n t z w (negate n a) ≡ (t - value n t z w a) % t
unfolding value pair
value_negate n t z w a ht = let u : ℕ → ℤ = λ m. pos (z ^ (m * w)) in ap (rem t) (pair_negate n a u) ∙ rem-neg t (pair n a u) ht

pub value_times : (n t z w : ℕ) (a b : List ℤ) → 0 < n → 0 < t → w % 2 ≡ 1 → z ^ n % t ≡ t - 1 → value n t z w (times n a b) ≡ (value n t z w a * value n t z w b) % t
unfolding value pair
value_times n t z w a b hn ht o r = let u : ℕ → ℤ = λ m. pos (z ^ (m * w)) in
    rem_cong t (pair n (times n a b) u) (pair n a u *ℤ pair n b u) ht
    (subst (λ (x : ℤ). Cong t (pair n (times n a b) u) x) (pair_product n a b u (λ i k. ap pos (power_sum z i k w))) (pair_twice_mod t n a b u hn (odd_flip t n z w o (minus_one t (z ^ n) ht r))))
    ∙ rem-mul t (pair n a u) (pair n b u) ht

pub value_scale : (n t z w : ℕ) (c : ℤ) (a : List ℤ) → 0 < t → value n t z w (scale n c a) ≡ rem t (c *ℤ pos (value n t z w a))
unfolding value pair
value_scale n t z w c a ht = let u : ℕ → ℤ = λ m. pos (z ^ (m * w)) in ap (rem t) (pair_scale n c a u) ∙ rem-mul_second t c (pair n a u) ht

pub value_constant : (n t z w : ℕ) (c : ℤ) → 0 < n → value n t z w (constant n c) ≡ rem t c
unfolding value pair
value_constant n t z w c hn = ap (rem t) (pair_constant n c (λ m. pos (z ^ (m * w))) hn ∙ (let e : 0 * w ≡ 0 = omega arith in rw (e, pow-zero z) (z_mul_one c)))

pub value_same : (n t z w : ℕ) (a b : List ℤ) → 0 < t → Same t n a b → value n t z w a ≡ value n t z w b
unfolding value
value_same n t z w a b ht s = rem_cong t (sum_z n (λ k. at a k *ℤ pos (z ^ (k * w)))) (sum_z n (λ k. at b k *ℤ pos (z ^ (k * w)))) ht
    (cong_sum t n (λ k. at a k *ℤ pos (z ^ (k * w))) (λ k. at b k *ℤ pos (z ^ (k * w))) (λ k l. cong_mul t (at a k) (at b k) (pos (z ^ (k * w))) (pos (z ^ (k * w))) (s.each k l) (cong_refl t (pos (z ^ (k * w))))))

-- exponents that are equal modulo 2n
pub value_round : (n t z w v : ℕ) (a : List ℤ) → 0 < n → 0 < t → z ^ n % t ≡ t - 1 → w % (2 * n) ≡ v % (2 * n) → value n t z w a ≡ value n t z v a
unfolding value pair
value_round n t z w v a hn ht r e = rem_cong t (pair n a (λ k. pos (z ^ (k * w)))) (pair n a (λ k. pos (z ^ (k * v)))) ht
    (pair_cong t n a (λ k. pos (z ^ (k * w))) (λ k. pos (z ^ (k * v))) (λ k l.
    same_turn t n (k * w) (k * v) (λ m. pos (z ^ m)) hn (power_flip t n z (minus_one t (z ^ n) ht r))
    (sym (mul-mod_second k w (2 * n)) ∙ ap (λ (x : ℕ). (k * x) % (2 * n)) e ∙ mul-mod_second k v (2 * n))))

pub value_turn : (n t z w g : ℕ) (a : List ℤ) → 0 < n → 0 < t → w % 2 ≡ 1 → z ^ n % t ≡ t - 1 → value n t z w (turn n a g) ≡ value n t z (g * w % (2 * n)) a
unfolding value pair
value_turn n t z w g a hn ht o r = let u : ℕ → ℤ = λ m. pos (z ^ (m * w)) in
    rem_cong t (pair n (turn n a g) u) (pair n a (λ k. pos (z ^ (k * (g * w))))) ht
    (cong_trans t (pair n (turn n a g) u) (pair n a (λ k. u (k * g))) (pair n a (λ k. pos (z ^ (k * (g * w)))))
    (pair_turn_mod t n g a u hn (odd_flip t n z w o (minus_one t (z ^ n) ht r)))
    (pair_cong t n a (λ k. u (k * g)) (λ k. pos (z ^ (k * (g * w)))) (λ k l. let e : k * g * w ≡ k * (g * w) = omega arith in cong_eq t (pos (z ^ (k * g * w))) (pos (z ^ (k * (g * w)))) (ap (λ (x : ℕ). pos (z ^ x)) e))))
    ∙ value_round n t z (g * w) (g * w % (2 * n)) a hn ht r (sym (mod-mod (g * w) (2 * n)))

-- powers of 3 go round after N
pub three_round : (M N x : ℕ) → 1 < M → 3 ^ N % M ≡ 1 → 3 ^ (x % N) % M ≡ 3 ^ x % M
three_round M N x h e =
    let d : N * (x / N) + x % N ≡ x = omega arith in
    let c : Cong M (pos (3 ^ N)) (pos 1) = one_mod M (3 ^ N) (omega arith) e in
    let p : 3 ^ x ≡ (3 ^ N) ^ (x / N) * 3 ^ (x % N) = ap (λ (v : ℕ). 3 ^ v) (sym d) ∙ pow-add 3 (N * (x / N)) (x % N) ∙ ap (λ (v : ℕ). v * 3 ^ (x % N)) (pow-mul 3 N (x / N)) in
    let w : Cong M (pos (3 ^ x)) (pos 1 *ℤ pos (3 ^ (x % N))) = rw p (cong_mul M (pos ((3 ^ N) ^ (x / N))) (pos 1) (pos (3 ^ (x % N))) (pos (3 ^ (x % N))) (cong_one M (3 ^ N) (x / N) c) (cong_refl M (pos (3 ^ (x % N))))) in
    sym (sym (rem_nat M (3 ^ x)) ∙ rem_cong M (pos (3 ^ x)) (pos (3 ^ (x % N))) (omega arith) (rw (z_one_mul (pos (3 ^ (x % N)))) at w) ∙ rem_nat M (3 ^ (x % N)))

-- turning by 3^r reads slot j + r, where the slots go round after N
pub slot_turn : (n N t z r j : ℕ) (a : List ℤ) → 0 < n → 0 < t → z ^ n % t ≡ t - 1 → 3 ^ N % (2 * n) ≡ 1 → slot n t z (turn n a (3 ^ r % (2 * n))) j ≡ slot n t z a ((j + r) % N)
unfolding slot
slot_turn n N t z r j a hn ht m e =
    value_turn n t z (3 ^ j) (3 ^ r % (2 * n)) a hn ht (three_is_odd j) m
    ∙ value_round n t z (3 ^ r % (2 * n) * 3 ^ j % (2 * n)) (3 ^ ((j + r) % N)) a hn ht m
    (mod-mod (3 ^ r % (2 * n) * 3 ^ j) (2 * n) ∙ mul-mod_first (3 ^ r) (3 ^ j) (2 * n) ∙ ap (λ (x : ℕ). x % (2 * n)) (sym (pow-add 3 r j) ∙ (let s : r + j ≡ j + r = omega arith in ap (λ (x : ℕ). 3 ^ x) s)) ∙ sym (three_round (2 * n) N (j + r) (omega arith) e))
