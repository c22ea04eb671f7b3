-- Decode after encode.
use Prim.Native.Nat.{ℕ, zero, suc, ◌<◌, ◌+◌, ◌*◌, ◌/◌, ◌%◌, ◌^◌, ◌-◌}
use lib.IntN.{ℤ, pos, ◌+ℤ◌, ◌*ℤ◌, neg_ℤ, negsuc, ◌-ℤ◌}
use lib.ListN.{length, get_or}
use mathlib.Core.List.{List, map}
use mathlib.Core.Logic.{inl, inr}
use mathlib.Core.Path.{◌≡◌, refl, sym, ap, ◌∙◌, subst}
use native.Mathlib.Nat.{pow-zero, mod-eq_of_lt, one-le-pow, mul-mod_right, zero-mod}
use native.Mathlib.Omega.{arith}
use Rattle.std.proofs.lemmas.Bool.{cases_lt, cases_eq}
use Rattle.std.proofs.lemmas.List.{ext_get_or}
use Rattle.std.proofs.lemmas.List.FromFn.{get_or-map-range_with_len, length-map-range_with_len}
use Rattle.std.proofs.lemmas.Nat.{pow-add}
use Rattle.std.specs.List.{range_with_len}
use Rattle.std.specs.Prelude.{All}
use Rattle.heco_ring.proofs.Integers.{lines, z_mul_add, z_mul_assoc, z_mul_neg, z_mul_one, z_one_mul, z_mul_zero}
use Rattle.heco_ring.proofs.Powers.{cong_one, power_up, even_rest, even_find, find, geometric, one_mod, mod_one}
use Rattle.heco_ring.proofs.Remainders.{rem_cong, cong_add, cong_mul, cong_refl, cong_self, cong_sum, cong_trans, cong_sym, cong_eq, rem_nat, minus_one}
use Rattle.heco_ring.proofs.SlotLaws.{pow-mul, three_odd, power_flip, same_turn}
use Rattle.heco_ring.proofs.Sums.{sum_ext, sum_mul, sum_mul_right, sum_zero, sum_swap}
use Rattle.heco_ring.proofs.Wrapping.{at-wholes}
use Rattle.heco_ring.specs.Remainders.{rem, Cong}
use Rattle.heco_ring.specs.Ring.{sum_z, at, wholes}
use Rattle.heco_ring.specs.Slots.{value, slot, encode_at, encode, decode, HasSlots}

-- 3 has order 2^(p+1) modulo M, if its 2^p-th power is not 1
order : (M p d : ℕ) → Cong M (pos (3 ^ 2 ^ (p + 1))) (pos 1) → (Cong M (pos (3 ^ 2 ^ p)) (pos 1) → ⊥) → 0 < d → d < 2 ^ (p + 1) → Cong M (pos (3 ^ d)) (pos 1) → ⊥
order M p d one half pos_d small c =
    let f = find p d (λ e. let g : d % 2 ^ (p + 1) ≡ d = mod-eq_of_lt small in omega arith) in
    let up : Cong M (pos (3 ^ (d * 2 ^ f.0))) (pos 1) = rw (pow-mul 3 d (2 ^ f.0)) (cong_one M (3 ^ d) (2 ^ f.0) c) in
    let x : ℕ = d * 2 ^ f.0 in
    let s : 2 ^ (p + 1) * (x / 2 ^ (p + 1)) + 2 ^ p ≡ x = rw (← f.2) (omega arith) in
    let e : pos (3 ^ x) ≡ pos ((3 ^ 2 ^ (p + 1)) ^ (x / 2 ^ (p + 1))) *ℤ pos (3 ^ 2 ^ p) = ap pos (rw (← (pow-mul 3 (2 ^ (p + 1)) (x / 2 ^ (p + 1))), ← (pow-add 3 (2 ^ (p + 1) * (x / 2 ^ (p + 1))) (2 ^ p)), s) refl) in
    let w : Cong M (pos (3 ^ x)) (pos 1 *ℤ pos (3 ^ 2 ^ p)) = rw e (cong_mul M (pos ((3 ^ 2 ^ (p + 1)) ^ (x / 2 ^ (p + 1)))) (pos 1) (pos (3 ^ 2 ^ p)) (pos (3 ^ 2 ^ p)) (cong_one M (3 ^ 2 ^ (p + 1)) (x / 2 ^ (p + 1)) one) (cong_refl M (pos (3 ^ 2 ^ p)))) in
    half (cong_trans M (pos (3 ^ 2 ^ p)) (pos (3 ^ x)) (pos 1) (cong_sym M (pos (3 ^ x)) (pos (3 ^ 2 ^ p)) (cong_trans M (pos (3 ^ x)) (pos 1 *ℤ pos (3 ^ 2 ^ p)) (pos (3 ^ 2 ^ p)) w (cong_eq M (pos 1 *ℤ pos (3 ^ 2 ^ p)) (pos (3 ^ 2 ^ p)) (let q : 1 * 3 ^ 2 ^ p ≡ 3 ^ 2 ^ p = omega arith in ap pos q)))) up)

-- two powers of 3 that are equal modulo M
apart : (M p i j : ℕ) → Cong M (pos (3 ^ 2 ^ (p + 1))) (pos 1) → (Cong M (pos (3 ^ 2 ^ p)) (pos 1) → ⊥) → i < j → j < 2 ^ (p + 1) → Cong M (pos (3 ^ j)) (pos (3 ^ i)) → ⊥
apart M p i j one half l h c =
    let N : ℕ = 2 ^ (p + 1) in
    let a : (N - i) + j ≡ N + (j - i) = omega arith in
    let b : (N - i) + i ≡ N = omega arith in
    let x : pos (3 ^ (N - i)) *ℤ pos (3 ^ j) ≡ pos (3 ^ N) *ℤ pos (3 ^ (j - i)) = ap pos (rw (← (pow-add 3 (N - i) j), ← (pow-add 3 N (j - i)), a) refl) in
    let y : pos (3 ^ (N - i)) *ℤ pos (3 ^ i) ≡ pos (3 ^ N) = ap pos (rw (← (pow-add 3 (N - i) i), b) refl) in
    let u : Cong M (pos (3 ^ N) *ℤ pos (3 ^ (j - i))) (pos (3 ^ N)) = rw (← x, ← y) (cong_mul M (pos (3 ^ (N - i))) (pos (3 ^ (N - i))) (pos (3 ^ j)) (pos (3 ^ i)) (cong_refl M (pos (3 ^ (N - i)))) c) in
    let w : Cong M (pos (3 ^ N) *ℤ pos (3 ^ (j - i))) (pos 1 *ℤ pos (3 ^ (j - i))) = cong_mul M (pos (3 ^ N)) (pos 1) (pos (3 ^ (j - i))) (pos (3 ^ (j - i))) one (cong_refl M (pos (3 ^ (j - i)))) in
    let q : pos 1 *ℤ pos (3 ^ (j - i)) ≡ pos (3 ^ (j - i)) = z_one_mul (pos (3 ^ (j - i))) in
    order M p (j - i) one half (omega arith) (omega arith)
    (cong_trans M (pos (3 ^ (j - i))) (pos (3 ^ N) *ℤ pos (3 ^ (j - i))) (pos 1) (rw q at (cong_sym M (pos (3 ^ N) *ℤ pos (3 ^ (j - i))) (pos 1 *ℤ pos (3 ^ (j - i))) w)) (cong_trans M (pos (3 ^ N) *ℤ pos (3 ^ (j - i))) (pos (3 ^ N)) (pos 1) u one))

unfoldable pub both : ℕ → ℕ → ℕ → ℕ
both n i j = (2 * n - 1) * 3 ^ j + 3 ^ i

pub less_one : (w M x : ℕ) → w + 1 ≡ M → w * x + x ≡ M * x
less_one w M x e = rw (← e) (omega arith)

both_is : (n i j : ℕ) → 0 < n → both n i j + 3 ^ j ≡ 2 * n * 3 ^ j + 3 ^ i
unfolding both
both_is n i j h = let e : 2 * n - 1 + 1 ≡ 2 * n = omega arith in omega (arith, less_one (2 * n - 1) (2 * n) (3 ^ j) e)

pub both_odd : (n i j : ℕ) → 0 < n → both n i j % 2 ≡ 1 → ⊥
both_odd n i j h e = odd_no (both n i j) (3 ^ j) (3 ^ i) (n * 3 ^ j) (three_odd j).0 (three_odd i).0 (omega (arith, both_is n i j h)) (three_odd j).1 (three_odd i).1 e
  where
    odd_no : (E X Y W a b : ℕ) → E + X ≡ 2 * W + Y → X ≡ 2 * a + 1 → Y ≡ 2 * b + 1 → E % 2 ≡ 1 → ⊥
    odd_no E X Y W a b f g h e = omega arith

both_apart : (p i j : ℕ) → Cong (2 * 2 ^ (p + 2)) (pos (3 ^ 2 ^ (p + 1))) (pos 1) → (Cong (2 * 2 ^ (p + 2)) (pos (3 ^ 2 ^ p)) (pos 1) → ⊥) → i < 2 ^ (p + 1) → j < 2 ^ (p + 1) → (i ≡ j → ⊥) → both (2 ^ (p + 2)) i j % (2 * 2 ^ (p + 2)) ≡ 0 → ⊥
both_apart p i j one half hi hj ne z =
    let n : ℕ = 2 ^ (p + 2) in
    let h : 0 < n = one-le-pow (p + 2) 2 (omega arith) in
    let E : ℕ = both n i j in
    let d : 2 * n * (E / (2 * n)) ≡ E = omega arith in
    let c : Cong (2 * n) (pos (3 ^ j)) (pos (3 ^ i)) = close (2 * n) E (E / (2 * n)) (3 ^ j) (3 ^ i) (both_is n i j h) d in
    elim (cases_lt i j) [
      | inl l ↦ apart (2 * n) p i j one half l hj c
      | inr g ↦ apart (2 * n) p j i one half (omega arith) hi (cong_sym (2 * n) (pos (3 ^ j)) (pos (3 ^ i)) c)
    ]
  where
    close : (M E Q X Y : ℕ) → E + X ≡ M * X + Y → M * Q ≡ E → Cong M (pos X) (pos Y)
    close M E Q X Y e f = record { by = pos X -ℤ pos Q; is = rw (z_mul_add (pos M) (pos X) (neg_ℤ (pos Q)), z_mul_neg (pos M) (pos Q)) (omega (arith, lines, e, f)) }

kernel_power : (n z i j k : ℕ) → z ^ ((2 * n - 1) * (k * 3 ^ j)) * z ^ (k * 3 ^ i) ≡ (z ^ both n i j) ^ k
unfolding both
kernel_power n z i j k = let e : (2 * n - 1) * (k * 3 ^ j) + k * 3 ^ i ≡ ((2 * n - 1) * 3 ^ j + 3 ^ i) * k = omega arith in
    sym (pow-add z ((2 * n - 1) * (k * 3 ^ j)) (k * 3 ^ i)) ∙ ap (λ (x : ℕ). z ^ x) e ∙ pow-mul z ((2 * n - 1) * 3 ^ j + 3 ^ i) k

pub kernel_same : (t z p i k : ℕ) → Cong t (pos (z ^ 2 ^ (p + 2))) (negsuc 0) → Cong t (pos ((z ^ both (2 ^ (p + 2)) i i) ^ k)) (pos 1)
kernel_same t z p i k c =
    let n : ℕ = 2 ^ (p + 2) in
    let h : 0 < n = one-le-pow (p + 2) 2 (omega arith) in
    let d : both n i i ≡ 2 * n * 3 ^ i = omega (arith, both_is n i i h) in
    let e : both n i i * k ≡ 2 * n * (3 ^ i * k) = rw d (omega arith) in
    rw (← (pow-mul z (both n i i) k), e) (rw (pow-zero z) at (same_turn t n (2 * n * (3 ^ i * k)) 0 (λ m. pos (z ^ m)) h (power_flip t n z c) (mul-mod_right (2 * n) (3 ^ i * k) ∙ sym (zero-mod (2 * n)))))

-- ---- decode after encode
term : (t z n i j k : ℕ) (v : ℤ) → v *ℤ pos (z ^ ((2 * n - 1) * (k * 3 ^ j))) *ℤ pos (z ^ (k * 3 ^ i)) ≡ v *ℤ pos ((z ^ both n i j) ^ k)
term t z n i j k v = z_mul_assoc v (pos (z ^ ((2 * n - 1) * (k * 3 ^ j)))) (pos (z ^ (k * 3 ^ i))) ∙ ap (λ (x : ℕ). v *ℤ pos x) (kernel_power n z i j k)

pub sum_ones : (n : ℕ) → sum_z n (λ k. pos 1) ≡ pos n
unfolding sum_z
sum_ones zero = refl
sum_ones (suc n) = rw (sum_ones n) (omega (arith, lines))

-- the sum over the slots, where all but slot i come to 0 modulo t
pub cong_one_term : (t N i : ℕ) (f : ℕ → ℤ) → i < N → ((j : ℕ) → j < N → (i ≡ j → ⊥) → Cong t (f j) (pos 0)) → Cong t (sum_z N f) (f i)
unfolding sum_z
cong_one_term t zero i f h z = absurd (omega arith)
cong_one_term t (suc N) i f h z = elim (cases_eq i N) [
  | inl e ↦ (let a : Cong t (sum_z N f) (pos 0) = rw (← (sum_zero N)) (cong_sum t N f (λ j. pos 0) (λ j l. z j (omega arith) (omega arith))) in
      let c : Cong t (sum_z N f +ℤ f N) (pos 0 +ℤ f N) = cong_add t (sum_z N f) (pos 0) (f N) (f N) a (cong_refl t (f N)) in
      let q : pos 0 +ℤ f N ≡ f N = omega (arith, lines) in rw (e) (rw q at c))
  | inr ne ↦ (let a : Cong t (sum_z N f) (f i) = cong_one_term t N i f (omega arith) (λ j l. z j (omega arith)) in
      let c : Cong t (sum_z N f +ℤ f N) (f i +ℤ pos 0) = cong_add t (sum_z N f) (f i) (f N) (pos 0) a (z N (omega arith) ne) in
      let q : f i +ℤ pos 0 ≡ f i = omega (arith, lines) in rw q at c)
]

pub regroup : (n N : ℕ) (c : ℤ) (V W : ℕ → ℤ) (U K : ℕ → ℕ → ℤ) → ((j k : ℕ) → U j k *ℤ W k ≡ K j k) → sum_z n (λ k. c *ℤ sum_z N (λ j. V j *ℤ U j k) *ℤ W k) ≡ c *ℤ sum_z N (λ j. V j *ℤ sum_z n (λ k. K j k))
regroup n N c V W U K e =
    sum_ext n (λ k. c *ℤ sum_z N (λ j. V j *ℤ U j k) *ℤ W k) (λ k. c *ℤ sum_z N (λ j. V j *ℤ K j k)) (λ k l.
    z_mul_assoc c (sum_z N (λ j. V j *ℤ U j k)) (W k)
    ∙ ap (λ (x : ℤ). c *ℤ x) (sym (sum_mul_right N (W k) (λ j. V j *ℤ U j k)) ∙ sum_ext N (λ j. V j *ℤ U j k *ℤ W k) (λ j. V j *ℤ K j k) (λ j jl. z_mul_assoc (V j) (U j k) (W k) ∙ ap (λ (x : ℤ). V j *ℤ x) (e j k))))
    ∙ sum_mul n c (λ k. sum_z N (λ j. V j *ℤ K j k))
    ∙ ap (λ (x : ℤ). c *ℤ x) (sum_swap n N (λ k j. V j *ℤ K j k) ∙ sum_ext N (λ j. sum_z n (λ k. V j *ℤ K j k)) (λ j. V j *ℤ sum_z n (λ k. K j k)) (λ j jl. sum_mul n (V j) (λ k. K j k)))

pub last : (t n ninv v : ℕ) (a b s : ℤ) → 0 < t → v < t → Cong t a (pos ninv *ℤ b) → Cong t b (pos v *ℤ s) → Cong t s (pos n) → Cong t (pos (n * ninv)) (pos 1) → rem t a ≡ v
last t n ninv v a b s h l c d e f =
    let g : Cong t a (pos ninv *ℤ (pos v *ℤ pos n)) = cong_trans t a (pos ninv *ℤ b) (pos ninv *ℤ (pos v *ℤ pos n)) c (cong_mul t (pos ninv) (pos ninv) b (pos v *ℤ pos n) (cong_refl t (pos ninv)) (cong_trans t b (pos v *ℤ s) (pos v *ℤ pos n) d (cong_mul t (pos v) (pos v) s (pos n) (cong_refl t (pos v)) e))) in
    let q : pos ninv *ℤ (pos v *ℤ pos n) ≡ pos v *ℤ pos (n * ninv) = (let r : ninv * (v * n) ≡ v * (n * ninv) = omega arith in ap pos r) in
    let w : pos v *ℤ pos 1 ≡ pos v = z_mul_one (pos v) in
    rem_cong t a (pos v) h (rw w at (cong_trans t a (pos v *ℤ pos (n * ninv)) (pos v *ℤ pos 1) (rw q at g) (cong_mul t (pos v) (pos v) (pos (n * ninv)) (pos 1) (cong_refl t (pos v)) f))) ∙ rem_nat t v ∙ mod-eq_of_lt l

-- ---- the values at all roots
-- the tests of a table of slots, at n = 2^(p + 2) and N = 2^(p + 1)
pub record Roots (t z p : ℕ) : Type 0 where
  pub t_pos : 0 < t
  pub minus_one : Cong t (pos (z ^ 2 ^ (p + 2))) (negsuc 0)
  pub round : Cong (2 * 2 ^ (p + 2)) (pos (3 ^ 2 ^ (p + 1))) (pos 1)
  pub half : Cong (2 * 2 ^ (p + 2)) (pos (3 ^ 2 ^ p)) (pos 1) → ⊥

-- the sum of z^(E k), where E is even and no multiple of 2n
pub sum_of_even : (t z p E : ℕ) → Roots t z p → (E % 2 ≡ 1 → ⊥) → (E % (2 * 2 ^ (p + 2)) ≡ 0 → ⊥) → Cong t (sum_z (2 ^ (p + 2)) (λ k. pos ((z ^ E) ^ k))) (pos 0)
sum_of_even t z p E r od ne =
    let n : ℕ = 2 ^ (p + 2) in
    let h : 0 < n = one-le-pow (p + 2) 2 (omega arith) in
    let m2 : 2 * n ≡ 2 ^ (suc (p + 1) + 1) = (let q : suc (p + 1) + 1 ≡ (p + 2) + 1 = omega arith in rw (q, power_up (p + 2)) refl) in
    let nz : E % 2 ^ (suc (p + 1) + 1) ≡ 0 → ⊥ = subst (λ (x : ℕ). E % x ≡ 0 → ⊥) m2 ne in
    let f = find (p + 1) (E / 2) (even_rest (p + 1) E nz od) in
    let g : (E * 2 ^ f.0) % (2 * n) ≡ n = ap (λ (x : ℕ). (E * 2 ^ f.0) % x) m2 ∙ even_find (p + 1) E f.0 od f.2 ∙ (let q : suc (p + 1) ≡ p + 2 = omega arith in ap (λ (x : ℕ). 2 ^ x) q) in
    let c : Cong t (pos (z ^ (E * 2 ^ f.0))) (pos (z ^ n)) = same_turn t n (E * 2 ^ f.0) n (λ m. pos (z ^ m)) h (power_flip t n z r.minus_one) (g ∙ sym (mod-eq_of_lt (omega arith))) in
    let m : Cong t (pos ((z ^ E) ^ 2 ^ f.0)) (negsuc 0) = rw (← (pow-mul z E (2 ^ f.0))) (cong_trans t (pos (z ^ (E * 2 ^ f.0))) (pos (z ^ n)) (negsuc 0) c r.minus_one) in
    geometric t (p + 2) (z ^ E) f.0 (omega (arith, f.1)) m

pub kernel_other : (t z p i j : ℕ) → Roots t z p → i < 2 ^ (p + 1) → j < 2 ^ (p + 1) → (i ≡ j → ⊥) → Cong t (sum_z (2 ^ (p + 2)) (λ k. pos ((z ^ both (2 ^ (p + 2)) i j) ^ k))) (pos 0)
kernel_other t z p i j r hi hj ne =
    let h : 0 < 2 ^ (p + 2) = one-le-pow (p + 2) 2 (omega arith) in
    sum_of_even t z p (both (2 ^ (p + 2)) i j) r (both_odd (2 ^ (p + 2)) i j h) (both_apart p i j r.round r.half hi hj ne)

at-encode : (n t z ninv N k : ℕ) (v : List ℕ) → k < n → at (wholes (encode n t z ninv N v)) k ≡ pos (encode_at n t z ninv N v k)
unfolding encode
at-encode n t z ninv N k v h = at-wholes (encode n t z ninv N v) k ∙ ap pos (get_or-map-range_with_len (λ k. encode_at n t z ninv N v k) 0 n k k 0 h (omega arith))

slot_encode : (t z p ninv i : ℕ) (v : List ℕ) → Roots t z p → Cong t (pos (2 ^ (p + 2) * ninv)) (pos 1) → i < 2 ^ (p + 1) → get_or v i 0 < t →
    slot (2 ^ (p + 2)) t z (wholes (encode (2 ^ (p + 2)) t z ninv (2 ^ (p + 1)) v)) i ≡ get_or v i 0
unfolding slot value encode_at
slot_encode t z p ninv i v r inv hi hv =
    let n : ℕ = 2 ^ (p + 2) in
    let N : ℕ = 2 ^ (p + 1) in
    let m : List ℤ = wholes (encode n t z ninv N v) in
    let V : ℕ → ℤ = λ j. pos (get_or v j 0) in
    let U : ℕ → ℕ → ℤ = λ j k. pos (z ^ ((2 * n - 1) * (k * 3 ^ j))) in
    let W : ℕ → ℤ = λ k. pos (z ^ (k * 3 ^ i)) in
    let S : ℕ → ℤ = λ j. sum_z n (λ k. pos ((z ^ both n i j) ^ k)) in
    let a : Cong t (sum_z n (λ k. at m k *ℤ W k)) (sum_z n (λ k. pos ninv *ℤ sum_z N (λ j. V j *ℤ U j k) *ℤ W k)) =
    cong_sum t n (λ k. at m k *ℤ W k) (λ k. pos ninv *ℤ sum_z N (λ j. V j *ℤ U j k) *ℤ W k) (λ k l.
    cong_mul t (at m k) (pos ninv *ℤ sum_z N (λ j. V j *ℤ U j k)) (W k) (W k)
    (cong_trans t (at m k) (pos (encode_at n t z ninv N v k)) (pos ninv *ℤ sum_z N (λ j. V j *ℤ U j k))
    (cong_eq t (at m k) (pos (encode_at n t z ninv N v k)) (at-encode n t z ninv N k v l))
    (cong_self t (pos ninv *ℤ sum_z N (λ j. V j *ℤ U j k)) r.t_pos))
    (cong_refl t (W k))) in
    let b : sum_z n (λ k. pos ninv *ℤ sum_z N (λ j. V j *ℤ U j k) *ℤ W k) ≡ pos ninv *ℤ sum_z N (λ j. V j *ℤ S j) = regroup n N (pos ninv) V W U (λ j k. pos ((z ^ both n i j) ^ k)) (λ j k. ap pos (kernel_power n z i j k)) in
    let c : Cong t (sum_z N (λ j. V j *ℤ S j)) (V i *ℤ S i) = cong_one_term t N i (λ j. V j *ℤ S j) hi (λ j jl ne. rw (← (z_mul_zero (V j))) (cong_mul t (V j) (V j) (S j) (pos 0) (cong_refl t (V j)) (kernel_other t z p i j r hi jl ne))) in
    let d : Cong t (S i) (pos n) = rw (← (sum_ones n)) (cong_sum t n (λ k. pos ((z ^ both n i i) ^ k)) (λ k. pos 1) (λ k l. kernel_same t z p i k r.minus_one)) in
    last t n ninv (get_or v i 0) (sum_z n (λ k. at m k *ℤ W k)) (sum_z N (λ j. V j *ℤ S j)) (S i) r.t_pos hv (rw (← b) a) c d inv

halve : (s d : ℕ) → s ≡ 2 ^ (d + 1) → s / 2 ≡ 2 ^ d
halve s d e = let f : 2 ^ (d + 1) ≡ 2 ^ d * 2 = pow-add 2 d 1 in omega (arith, e, f)

-- the tests of slots that are computed, as congruences
pub roots : (n N t z ninv : ℕ) (s : HasSlots n N t z ninv) → Roots t z s.depth
roots n N t z ninv s =
    let d : ℕ = s.depth in
    let hn : 0 < n = rw (s.n_power) (one-le-pow (d + 2) 2 (omega arith)) in
    record {
      t_pos = s.t_pos;
      minus_one = rw (s.n_power) at (minus_one t (z ^ n) s.t_pos s.minus_one);
      round = rw (s.n_power, s.slots_power) at (one_mod (2 * n) (3 ^ N) (omega arith) s.round);
      half = λ c. s.half (rw (halve N d s.slots_power, s.n_power) (mod_one (2 * 2 ^ (d + 2)) (3 ^ 2 ^ d) (omega (arith, s.n_power)) c));
    }

slot_back : (n N t z ninv i : ℕ) (v : List ℕ) → HasSlots n N t z ninv → i < N → get_or v i 0 < t → slot n t z (wholes (encode n t z ninv N v)) i ≡ get_or v i 0
slot_back n N t z ninv i v s hi hv =
    let r : Roots t z s.depth = roots n N t z ninv s in
    rw (s.n_power, s.slots_power) (slot_encode t z s.depth ninv i v r (rw (s.n_power) at (one_mod t (n * ninv) s.t_pos s.inverse)) (rw (s.slots_power) at hi) hv)

pub decode_encode : (n N t z ninv : ℕ) (v : List ℕ) → HasSlots n N t z ninv → length v ≡ N → All (λ x. x < t) v → decode n t z N (wholes (encode n t z ninv N v)) ≡ v
unfolding decode
decode_encode n N t z ninv v s l h =
    let m : List ℤ = wholes (encode n t z ninv N v) in
    let long : length (map (λ j. slot n t z m j) (range_with_len 0 N)) ≡ N = length-map-range_with_len (λ j. slot n t z m j) 0 N in
    ext_get_or 0 (map (λ j. slot n t z m j) (range_with_len 0 N)) v (long ∙ sym l) (λ i il.
    let iN : i < N = omega (arith, long) in
    get_or-map-range_with_len (λ j. slot n t z m j) 0 N i i 0 iN (omega arith)
    ∙ slot_back n N t z ninv i v s iN (h i 0 (omega arith)))
