-- The pairing of a polynomial with a function that changes its sign after n: all the algebra goes through it.
use Prim.Native.Nat.{ℕ, zero, suc, ◌<◌, ◌+◌, ◌-◌}
use lib.IntN.{ℤ, pos, ◌*ℤ◌, neg_ℤ, negsuc}
use lib.ListN.{length}
use mathlib.Core.List.{List}
use mathlib.Core.Logic.{inl, inr, ◌≢◌}
use mathlib.Core.Path.{◌≡◌, refl, sym, ap, ◌∙◌}
use native.Mathlib.Omega.{arith}
use Rattle.std.proofs.lemmas.Bool.{cases_lt, cases_eq, eq-eqb, ne_eqb}
use Rattle.std.proofs.lemmas.List.{ext_get_or}
use Rattle.std.proofs.lemmas.List.FromFn.{get_or-map-range_with_len, length-map-range_with_len}
use Rattle.heco_ring.proofs.Integers.{lines, z_mul_assoc, z_one_mul, z_zero_mul, z_minus_mul}
use Rattle.heco_ring.proofs.Sums.{sum_ext, sum_mul, sum_mul_right, sum_zero, sum_swap}
use Rattle.heco_ring.specs.Ring.{sum_z, at, table, sign, times_at, times}

-- ---- lists made from a function
pub at-table : (n : ℕ) (f : ℕ → ℤ) (k : ℕ) → k < n → at (table n f) k ≡ f k
unfolding at table
at-table n f k h = get_or-map-range_with_len f 0 n k k (pos 0) h (omega arith)

pub length-table : (n : ℕ) (f : ℕ → ℤ) → length (table n f) ≡ n
unfolding table
length-table n f = length-map-range_with_len f 0 n

pub table_ext : (n : ℕ) (f g : ℕ → ℤ) → ((k : ℕ) → k < n → f k ≡ g k) → table n f ≡ table n g
unfolding at
table_ext n f g h = ext_get_or (pos 0) (table n f) (table n g) (length-table n f ∙ sym (length-table n g)) (λ i l. let k : i < n = omega (arith, length-table n f) in at-table n f i k ∙ h i k ∙ sym (at-table n g i k))

-- ---- the sign
pub sign_here : (n k : ℕ) → sign n k k ≡ pos 1
unfolding sign
sign_here n k = rw (eq-eqb k k refl)

pub sign_past : (n k : ℕ) → 0 < n → sign n (k + n) k ≡ negsuc 0
unfolding sign
sign_past n k h = let ne : k + n ≢ k = omega arith in rw (ne_eqb (k + n) k ne, eq-eqb (k + n) (k + n) refl)

pub sign_else : (n m k : ℕ) → m ≢ k → m ≢ k + n → sign n m k ≡ pos 0
unfolding sign
sign_else n m k h g = rw (ne_eqb m k h, ne_eqb m (k + n) g)

-- ---- a sum with one term that is not 0
all_zero : (n : ℕ) (g : ℕ → ℤ) → ((k : ℕ) → k < n → g k ≡ pos 0) → sum_z n g ≡ pos 0
all_zero n g h = sum_ext n g (λ i. pos 0) h ∙ sum_zero n

pub sum_one : (n c : ℕ) (g : ℕ → ℤ) → c < n → ((k : ℕ) → k < n → k ≢ c → g k ≡ pos 0) → sum_z n g ≡ g c
unfolding sum_z
sum_one zero c g h z = absurd (omega arith)
sum_one (suc n) c g h z = elim (cases_eq c n) [
  | inl e ↦ (let s : sum_z n g ≡ pos 0 = all_zero n g (λ k l. z k (omega arith) (omega arith)) in rw (e, s) (omega (arith, lines)))
  | inr ne ↦ (let s : sum_z n g ≡ g c = sum_one n c g (omega arith) (λ k l. z k (omega arith)) in let t : g n ≡ pos 0 = z n (omega arith) (omega arith) in rw (s, t) (omega (arith, lines)))
]

-- ---- f(k + n) = -f(k)
pub record Flips (n : ℕ) (f : ℕ → ℤ) : Type 0 where
  pub flips : (k : ℕ) → f (k + n) ≡ neg_ℤ (f k)

sign_sum_past : (n d : ℕ) (f : ℕ → ℤ) → d < n → Flips n f → sum_z n (λ k. sign n (d + n) k *ℤ f k) ≡ f (d + n)
sign_sum_past n d f h fl =
    sum_one n d (λ k. sign n (d + n) k *ℤ f k) h (λ k kl ne. rw (sign_else n (d + n) k (omega arith) (omega arith)) (z_zero_mul (f k)))
    ∙ rw (sign_past n d (omega arith), z_minus_mul (f d)) (sym (fl.flips d))

sign_sum_near : (n m : ℕ) (f : ℕ → ℤ) → m < n → sum_z n (λ k. sign n m k *ℤ f k) ≡ f m
sign_sum_near n m f h =
    sum_one n m (λ k. sign n m k *ℤ f k) h (λ k kl ne. rw (sign_else n m k (omega arith) (omega arith)) (z_zero_mul (f k)))
    ∙ rw (sign_here n m) (z_one_mul (f m))

pub sign_sum : (n m : ℕ) (f : ℕ → ℤ) → m < n + n → Flips n f → sum_z n (λ k. sign n m k *ℤ f k) ≡ f m
sign_sum n m f h fl = elim (cases_lt m n) [
  | inl l ↦ sign_sum_near n m f l
  | inr g ↦ (let e : m - n + n ≡ m = omega arith in rw (e) at (sign_sum_past n (m - n) f (omega arith) fl))
]

-- ---- the pairing of a polynomial with such an f
unfoldable pub pair : ℕ → List ℤ → (ℕ → ℤ) → ℤ
pair n a f = sum_z n (λ i. at a i *ℤ f i)

pub pair_ext : (n : ℕ) (a : List ℤ) (f g : ℕ → ℤ) → ((i : ℕ) → i < n → f i ≡ g i) → pair n a f ≡ pair n a g
unfolding pair
pair_ext n a f g h = sum_ext n (λ i. at a i *ℤ f i) (λ i. at a i *ℤ g i) (λ i l. ap (λ (x : ℤ). at a i *ℤ x) (h i l))

pub pair_table : (n : ℕ) (c f : ℕ → ℤ) → pair n (table n c) f ≡ sum_z n (λ k. c k *ℤ f k)
unfolding pair
pair_table n c f = sum_ext n (λ i. at (table n c) i *ℤ f i) (λ k. c k *ℤ f k) (λ k l. ap (λ (x : ℤ). x *ℤ f k) (at-table n c k l))

-- terms that are put at the places p i
pub gather : (n m : ℕ) (c : ℕ → ℤ) (p : ℕ → ℕ) (f : ℕ → ℤ) → ((i : ℕ) → i < m → p i < n + n) → Flips n f → sum_z n (λ k. sum_z m (λ i. c i *ℤ sign n (p i) k) *ℤ f k) ≡ sum_z m (λ i. c i *ℤ f (p i))
gather n m c p f h fl =
    sum_ext n (λ k. sum_z m (λ i. c i *ℤ sign n (p i) k) *ℤ f k) (λ k. sum_z m (λ i. c i *ℤ sign n (p i) k *ℤ f k)) (λ k l. sym (sum_mul_right m (f k) (λ i. c i *ℤ sign n (p i) k)))
    ∙ sum_swap n m (λ k i. c i *ℤ sign n (p i) k *ℤ f k)
    ∙ sum_ext m (λ i. sum_z n (λ k. c i *ℤ sign n (p i) k *ℤ f k)) (λ i. c i *ℤ f (p i)) (λ i l.
    sum_ext n (λ k. c i *ℤ sign n (p i) k *ℤ f k) (λ k. c i *ℤ (sign n (p i) k *ℤ f k)) (λ k kl. z_mul_assoc (c i) (sign n (p i) k) (f k))
    ∙ sum_mul n (c i) (λ k. sign n (p i) k *ℤ f k)
    ∙ ap (λ (x : ℤ). c i *ℤ x) (sign_sum n (p i) f (h i l) fl))

-- the pairing of a product is the double sum: all that the algebra needs of the definition
pub pair_times : (n : ℕ) (a b : List ℤ) (f : ℕ → ℤ) → Flips n f → pair n (times n a b) f ≡ sum_z n (λ i. sum_z n (λ j. at a i *ℤ at b j *ℤ f (i + j)))
unfolding times times_at
pair_times n a b f fl =
    pair_table n (times_at n a b) f
    ∙ sum_ext n (λ k. times_at n a b k *ℤ f k) (λ k. sum_z n (λ i. row i k *ℤ f k)) (λ k l. sym (sum_mul_right n (f k) (λ i. row i k)))
    ∙ sum_swap n n (λ k i. row i k *ℤ f k)
    ∙ sum_ext n (λ i. sum_z n (λ k. row i k *ℤ f k)) (λ i. sum_z n (λ j. at a i *ℤ at b j *ℤ f (i + j))) (λ i l. gather n n (λ j. at a i *ℤ at b j) (λ j. i + j) f (λ j jl. omega arith) fl)
  where
    row : ℕ → ℕ → ℤ
    row i k = sum_z n (λ j. at a i *ℤ at b j *ℤ sign n (i + j) k)
