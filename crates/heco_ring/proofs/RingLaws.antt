-- The product is commutative and associative, and a turn keeps it.
use Prim.Native.Nat.{ℕ, zero, suc, ◌<◌, ◌+◌, ◌*◌, ◌/◌, ◌%◌, ◌≤◌, ◌-◌}
use lib.IntN.{ℤ, ◌*ℤ◌, neg_ℤ}
use mathlib.Core.List.{List}
use mathlib.Core.Logic.{inl, inr}
use mathlib.Core.Path.{◌≡◌, sym, ap, ◌∙◌}
use native.Mathlib.Nat.{mod-eq_of_lt, add-mod_right, mod-add-mod}
use native.Mathlib.Omega.{arith}
use Rattle.std.proofs.lemmas.Bool.{cases_lt, cases_eq}
use Rattle.std.proofs.lemmas.Nat.{mod_below}
use Rattle.heco_ring.proofs.Integers.{lines, z_mul_assoc, z_mul_left, z_mul_neg, z_mul_one, z_mul_zero}
use Rattle.heco_ring.proofs.Pairing.{at-table, table_ext, sign_here, sign_past, sign_else, sum_one, Flips, pair, pair_ext, pair_table, gather, pair_times}
use Rattle.heco_ring.proofs.Sums.{sum_ext, sum_neg, sum_mul, sum_swap}
use Rattle.heco_ring.specs.Ring.{sum_z, at, table, sign, times_at, times, turn_at, turn}

-- ---- more on the pairing
pub pair_twice : (n : ℕ) (a b : List ℤ) (f : ℕ → ℤ) → Flips n f → pair n (times n a b) f ≡ pair n a (λ i. pair n b (λ j. f (i + j)))
unfolding pair
pair_twice n a b f fl =
    pair_times n a b f fl
    ∙ sum_ext n (λ i. sum_z n (λ j. at a i *ℤ at b j *ℤ f (i + j))) (λ i. at a i *ℤ sum_z n (λ j. at b j *ℤ f (i + j))) (λ i l.
    sum_ext n (λ j. at a i *ℤ at b j *ℤ f (i + j)) (λ j. at a i *ℤ (at b j *ℤ f (i + j))) (λ j jl. z_mul_assoc (at a i) (at b j) (f (i + j)))
    ∙ sum_mul n (at a i) (λ j. at b j *ℤ f (i + j)))

pub pair_swap : (n : ℕ) (a b : List ℤ) (g : ℕ → ℕ → ℤ) → pair n a (λ i. pair n b (λ j. g i j)) ≡ pair n b (λ j. pair n a (λ i. g i j))
unfolding pair
pair_swap n a b g =
    sum_ext n (λ i. at a i *ℤ sum_z n (λ j. at b j *ℤ g i j)) (λ i. sum_z n (λ j. at a i *ℤ (at b j *ℤ g i j))) (λ i l. sym (sum_mul n (at a i) (λ j. at b j *ℤ g i j)))
    ∙ sum_swap n n (λ i j. at a i *ℤ (at b j *ℤ g i j))
    ∙ sum_ext n (λ j. sum_z n (λ i. at a i *ℤ (at b j *ℤ g i j))) (λ j. at b j *ℤ sum_z n (λ i. at a i *ℤ g i j)) (λ j l.
    sum_ext n (λ i. at a i *ℤ (at b j *ℤ g i j)) (λ i. at b j *ℤ (at a i *ℤ g i j)) (λ i il. z_mul_left (at a i) (at b j) (g i j))
    ∙ sum_mul n (at b j) (λ i. at a i *ℤ g i j))

pub pair_neg : (n : ℕ) (a : List ℤ) (f : ℕ → ℤ) → pair n a (λ i. neg_ℤ (f i)) ≡ neg_ℤ (pair n a f)
unfolding pair
pair_neg n a f =
    sum_ext n (λ i. at a i *ℤ neg_ℤ (f i)) (λ i. neg_ℤ (at a i *ℤ f i)) (λ i l. z_mul_neg (at a i) (f i))
    ∙ sum_neg n (λ i. at a i *ℤ f i)

pub Flips_shift : (n j : ℕ) (f : ℕ → ℤ) → Flips n f → Flips n (λ i. f (j + i))
Flips_shift n j f fl = record { flips = λ k. let e : j + (k + n) ≡ j + k + n = omega arith in rw e (fl.flips (j + k)) }

pub Flips_pair : (n : ℕ) (b : List ℤ) (f : ℕ → ℤ) → Flips n f → Flips n (λ i. pair n b (λ j. f (i + j)))
Flips_pair n b f fl = record {
  flips = λ k.
      pair_ext n b (λ j. f (k + n + j)) (λ j. neg_ℤ (f (k + j))) (λ j l. let e : k + n + j ≡ k + j + n = omega arith in rw e (fl.flips (k + j)))
      ∙ pair_neg n b (λ j. f (k + j));
}

-- ---- f has period 2n
pub flips_turns : (n c r : ℕ) (f : ℕ → ℤ) → Flips n f → f (2 * n * c + r) ≡ f r
flips_turns n zero r f fl = let e : 2 * n * 0 + r ≡ r = omega arith in rw e
flips_turns n (suc c) r f fl = let e : 2 * n * suc c + r ≡ 2 * n * c + r + n + n = omega arith in
    rw (e, fl.flips (2 * n * c + r + n), fl.flips (2 * n * c + r), flips_turns n c r f fl) (omega (arith, lines))

pub flips_mod : (n m : ℕ) (f : ℕ → ℤ) → Flips n f → f (m % (2 * n)) ≡ f m
flips_mod n m f fl = let e : 2 * n * (m / (2 * n)) + m % (2 * n) ≡ m = omega arith in sym (flips_turns n (m / (2 * n)) (m % (2 * n)) f fl) ∙ ap f e

pub Flips_times : (n h : ℕ) (f : ℕ → ℤ) → Flips n f → Flips n (λ i. f (i * (2 * h + 1)))
Flips_times n h f fl = record {
  flips = λ k. let e : (k + n) * (2 * h + 1) ≡ 2 * n * h + (k * (2 * h + 1)) + n = omega arith in
      rw (e, fl.flips (2 * n * h + k * (2 * h + 1)), flips_turns n h (k * (2 * h + 1)) f fl);
}

-- ---- the f that reads coefficient k
unfoldable pub delta : ℕ → ℕ → ℕ → ℤ
delta n k m = sign n (m % (2 * n)) k

sign_flip_low : (n k r : ℕ) → k < n → r < n → sign n (r + n) k ≡ neg_ℤ (sign n r k)
sign_flip_low n k r h l = elim (cases_eq r k) [
  | inl e ↦ rw (e, sign_past n k (omega arith), sign_here n k)
  | inr ne ↦ rw (sign_else n (r + n) k (omega arith) (omega arith), sign_else n r k (omega arith) (omega arith))
]

mod_up : (n m : ℕ) → m % (2 * n) < n → (m + n) % (2 * n) ≡ m % (2 * n) + n
mod_up n m l = sym (mod-add-mod m (2 * n) n) ∙ mod-eq_of_lt (omega arith)

mod_down : (n m : ℕ) → 0 < n → n ≤ m % (2 * n) → (m + n) % (2 * n) + n ≡ m % (2 * n)
mod_down n m p g =
    let b : m % (2 * n) < 2 * n = mod_below m (2 * n) (omega arith) in
    let d : m % (2 * n) + n ≡ m % (2 * n) - n + 2 * n = omega arith in
    let r : (m % (2 * n) + n) % (2 * n) ≡ m % (2 * n) - n = ap (λ (x : ℕ). x % (2 * n)) d ∙ add-mod_right (m % (2 * n) - n) (2 * n) ∙ mod-eq_of_lt (omega arith) in
    omega (arith, mod-add-mod m (2 * n) n, r)

pub Flips_delta : (n k : ℕ) → k < n → Flips n (delta n k)
unfolding delta
Flips_delta n k h = record {
  flips = λ m. elim (cases_lt (m % (2 * n)) n) [
    | inl l ↦ (let e : (m + n) % (2 * n) ≡ m % (2 * n) + n = mod_up n m l in rw e (sign_flip_low n k (m % (2 * n)) h l))
    | inr g ↦ (let e : (m + n) % (2 * n) + n ≡ m % (2 * n) = mod_down n m (omega arith) g in rw (← e, sign_flip_low n k ((m + n) % (2 * n)) h (omega (arith, mod_below m (2 * n) (omega arith)))) (omega (arith, lines)))
  ];
}

pair_delta : (n k : ℕ) (a : List ℤ) → k < n → pair n a (delta n k) ≡ at a k
unfolding pair delta
pair_delta n k a h =
    sum_one n k (λ i. at a i *ℤ sign n (i % (2 * n)) k) h (λ i l ne. let e : i % (2 * n) ≡ i = mod-eq_of_lt (omega arith) in rw (e, sign_else n i k ne (omega arith)) (z_mul_zero (at a i)))
    ∙ (let e : k % (2 * n) ≡ k = mod-eq_of_lt (omega arith) in rw (e, sign_here n k) (z_mul_one (at a k)))

pub same_by_pair : (n : ℕ) (u v : ℕ → ℤ) → ((f : ℕ → ℤ) → Flips n f → pair n (table n u) f ≡ pair n (table n v) f) → table n u ≡ table n v
same_by_pair n u v h = table_ext n u v (λ k l. sym (at-table n u k l) ∙ sym (pair_delta n k (table n u) l) ∙ h (delta n k) (Flips_delta n k l) ∙ pair_delta n k (table n v) l ∙ at-table n v k l)

-- ---- the laws
pub times_comm : (n : ℕ) (a b : List ℤ) → times n a b ≡ times n b a
unfolding times
times_comm n a b = same_by_pair n (times_at n a b) (times_at n b a) (λ f fl.
    pair_twice n a b f fl ∙ pair_swap n a b (λ i j. f (i + j))
    ∙ pair_ext n b (λ j. pair n a (λ i. f (i + j))) (λ j. pair n a (λ i. f (j + i))) (λ j l. pair_ext n a (λ i. f (i + j)) (λ i. f (j + i)) (λ i il. let e : i + j ≡ j + i = omega arith in ap f e))
    ∙ sym (pair_twice n b a f fl))

pub times_assoc : (n : ℕ) (a b c : List ℤ) → times n (times n a b) c ≡ times n a (times n b c)
unfolding times
times_assoc n a b c = same_by_pair n (times_at n (times n a b) c) (times_at n a (times n b c)) (λ f fl.
    pair_twice n (times n a b) c f fl
    ∙ pair_twice n a b (λ m. pair n c (λ k. f (m + k))) (Flips_pair n c f fl)
    ∙ pair_ext n a (λ i. pair n b (λ j. pair n c (λ k. f (i + j + k)))) (λ i. pair n (times n b c) (λ m. f (i + m))) (λ i l.
    pair_ext n b (λ j. pair n c (λ k. f (i + j + k))) (λ j. pair n c (λ k. f (i + (j + k)))) (λ j jl. pair_ext n c (λ k. f (i + j + k)) (λ k. f (i + (j + k))) (λ k kl. let e : i + j + k ≡ i + (j + k) = omega arith in ap f e))
    ∙ sym (pair_twice n b c (λ m. f (i + m)) (Flips_shift n i f fl)))
    ∙ sym (pair_twice n a (times n b c) f fl))

pub pair_turn : (n g : ℕ) (a : List ℤ) (f : ℕ → ℤ) → 0 < n → Flips n f → pair n (turn n a g) f ≡ pair n a (λ i. f (i * g))
unfolding turn turn_at pair
pair_turn n g a f h fl =
    pair_table n (turn_at n a g) f
    ∙ gather n n (λ i. at a i) (λ i. i * g % (2 * n)) f (λ i l. let b : i * g % (2 * n) < 2 * n = mod_below (i * g) (2 * n) (omega arith) in omega arith) fl
    ∙ pair_ext n a (λ i. f (i * g % (2 * n))) (λ i. f (i * g)) (λ i l. flips_mod n (i * g) f fl)

pub turn_times : (n h : ℕ) (a b : List ℤ) → 0 < n → turn n (times n a b) (2 * h + 1) ≡ times n (turn n a (2 * h + 1)) (turn n b (2 * h + 1))
unfolding turn times
turn_times n h a b lt = let g = 2 * h + 1 in same_by_pair n (turn_at n (times n a b) (2 * h + 1)) (times_at n (turn n a (2 * h + 1)) (turn n b (2 * h + 1))) (λ f fl.
    pair_turn n (2 * h + 1) (times n a b) f lt fl
    ∙ pair_twice n a b (λ i. f (i * (2 * h + 1))) (Flips_times n h f fl)
    ∙ pair_ext n a (λ i. pair n b (λ j. f ((i + j) * (2 * h + 1)))) (λ i. pair n (turn n b (2 * h + 1)) (λ j. f (i * (2 * h + 1) + j))) (λ i l.
    pair_ext n b (λ j. f ((i + j) * (2 * h + 1))) (λ j. f (i * (2 * h + 1) + j * (2 * h + 1))) (λ j jl. let e : (i + j) * (2 * h + 1) ≡ i * (2 * h + 1) + j * (2 * h + 1) = omega arith in ap f e)
    ∙ sym (pair_turn n (2 * h + 1) b (λ j. f (i * (2 * h + 1) + j)) lt (Flips_shift n (i * (2 * h + 1)) f fl)))
    ∙ sym (pair_turn n (2 * h + 1) a (λ i. pair n (turn n b (2 * h + 1)) (λ j. f (i + j))) lt (Flips_pair n (turn n b (2 * h + 1)) f fl))
    ∙ sym (pair_twice n (turn n a (2 * h + 1)) (turn n b (2 * h + 1)) f fl))
