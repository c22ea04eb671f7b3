-- What is done to messages as whole numbers stays below q/2 in size, so it is found from its remainders modulo q.
use Prim.Native.Nat.{ℕ, suc, ◌+◌, ◌-◌, ◌*◌, ◌%◌, ◌<◌, ◌≤◌, ◌^◌}
use borrow.Author.Differences.{ints}
use lib.Dec.{eqb}
use lib.IntN.{ℤ, pos, negsuc, ◌-ℤ◌, neg_ℤ, nat_abs}
use lib.ListN.{length, get_or}
use mathlib.Core.Bool.{Bool, true, false, cond}
use mathlib.Core.List.{List}
use mathlib.Core.Logic.{inl, inr}
use mathlib.Core.Path.{◌≡◌, refl, sym, ap, ◌∙◌}
use native.Mathlib.Nat.{mod-eq_of_lt, mul-le-mul}
use native.Mathlib.Omega.{arith}
use Rattle.std.specs.Prelude.{All, ◌⊎◌}
use Rattle.std.proofs.lemmas.Bool.{cases_lt, lt-ltb, le-ltb}
use Rattle.std.proofs.lemmas.List.{get_or_past}
use Rattle.std.proofs.lemmas.Nat.{mul-mod, pow-add}
use Rattle.heco_nums.specs.Arithmetic.{centre_q}
use Rattle.heco_nums.specs.declared.preset.Preset.{Preset}
use Rattle.heco_nums.proofs.PresetFacts.{facts}
use Rattle.heco_noise_laws.proofs.Product.{size_of}
use Rattle.heco_noise_laws.proofs.TurnSizes.{turn_size}
use Rattle.heco_ring.specs.Remainders.{rem, reduced}
use Rattle.heco_ring.specs.Ring.{at, wholes, plus, negate, scale, constant, times, turn, turn_at, table}
use Rattle.heco_ring.proofs.Integers.{lines}
use Rattle.heco_ring.proofs.Linear.{at-plus, at-negate, at-scale}
use Rattle.heco_ring.proofs.Pairing.{at-table}
use Rattle.heco_ring.proofs.Reduced.{at-reduced, reduced_same, filled}
use Rattle.heco_ring.proofs.Remainders.{rem-neg, rem_nat, cong_eq}
use Rattle.heco_ring.proofs.Sizes.{abs_add, abs_neg}
use Rattle.heco_ring.proofs.Wrapping.{at-wholes}
use Rattle.heco_scheme.specs.Noise.{q}
use Rattle.heco_scheme.specs.Rounding.{centred}
use Rattle.heco_slots.specs.Messages.{sum, difference, opposite, multiple, raised, product, turned}
use Rattle.heco_measure.specs.inside.Plaintexts.{IsPlaintext}

-- ---- one number

pub settled_low : (t x : ℕ) → x < 2 ^ 57 → x % t ≡ rem t (centre_q x)
unfolding centre_q
settled_low t x h = rw (lt-ltb x (2 ^ 57) h) (sym (rem_nat t x))

pub settled_high : (t x : ℕ) → 0 < t → 2 ^ 57 ≤ x → x < 2 ^ 58 → (t - (2 ^ 58 - x) % t) % t ≡ rem t (centre_q x)
unfolding centre_q
settled_high t x h low high =
    let back : neg_ℤ (pos (2 ^ 58 - x)) ≡ pos x -ℤ pos (2 ^ 58) = omega (arith, lines) in
    rw (le-ltb x (2 ^ 57) low, ← back) (sym (rem-neg t (pos (2 ^ 58 - x)) h ∙ rw (rem_nat t (2 ^ 58 - x)) refl))

pub settle_filled : (t n : ℕ) (x out : List ℕ) → length out ≡ n → ((i : ℕ) → i < n → get_or out i 0 ≡ rem t (centre_q (get_or x i 0))) → out ≡ reduced t n (centred n x)
unfolding centred
settle_filled t n x out l each = filled t n (table n (λ k. centre_q (get_or x k 0))) out l (λ k h. each k h ∙ ap (rem t) (sym (at-table n (λ k. centre_q (get_or x k 0)) k h)))

centre_low : (x : ℕ) → x < 2 ^ 57 → centre_q x ≡ pos x
unfolding centre_q
centre_low x h = rw (lt-ltb x (2 ^ 57) h) refl

centre_high : (x : ℕ) → 2 ^ 57 ≤ x → centre_q x ≡ pos x -ℤ pos (2 ^ 58)
unfolding centre_q
centre_high x h = rw (le-ltb x (2 ^ 57) h) refl

below_zero : (M a : ℕ) → suc a ≤ M → pos (M - suc a) -ℤ pos M ≡ negsuc a
below_zero M a h = omega (arith, ints)

-- a number of size below q/2 is found from its remainder by q
centred_back : (x : ℤ) → nat_abs x < 2 ^ 57 → centre_q (rem q x) ≡ x
unfolding rem
centred_back (pos a) h = let small : a % 2 ^ 58 ≡ a = mod-eq_of_lt (omega arith) in ap centre_q small ∙ centre_low a h
centred_back (negsuc a) h =
    let small : a % 2 ^ 58 ≡ a = mod-eq_of_lt (omega arith) in
    let rest : 2 ^ 58 - suc (a % 2 ^ 58) ≡ 2 ^ 58 - suc a = ap (λ (x : ℕ). 2 ^ 58 - suc x) small in
    ap centre_q rest ∙ centre_high (2 ^ 58 - suc a) (omega arith) ∙ below_zero (2 ^ 58) a (omega arith)

-- ---- a polynomial

-- one whose coefficients are of size below q/2 is found modulo t from its remainders by q
settled_any : (t n : ℕ) (T : List ℤ) (W : List ℕ) → 0 < t → ((k : ℕ) → k < n → nat_abs (at T k) < 2 ^ 57) → W ≡ reduced q n T → reduced t n (centred n W) ≡ reduced t n T
unfolding centred
settled_any t n T W h small e = reduced_same t n (table n (λ k. centre_q (get_or W k 0))) T h (record {
  each = λ k l.
      cong_eq t (at (table n (λ k. centre_q (get_or W k 0))) k) (at T k)
      (at-table n (λ k. centre_q (get_or W k 0)) k l ∙ ap centre_q (ap (λ (x : List ℕ). get_or x k 0) e ∙ at-reduced q n T k l) ∙ centred_back (at T k) (small k l));
})

-- what was done to a copy was done to the polynomial
pub copied_value : (F : ℕ → List ℤ → List ℤ) (n : ℕ) (a m W : List ℕ) → m ≡ a → length a ≡ n → W ≡ reduced q (length m) (F (length m) (wholes m)) → W ≡ reduced q n (F n (wholes a))
copied_value F n a m W e l h = h ∙ ap (λ (x : List ℕ). reduced q (length x) (F (length x) (wholes x))) e ∙ ap (λ (k : ℕ). reduced q k (F k (wholes a))) l

-- ---- messages

below_at : (t : ℕ) (a : List ℕ) (i : ℕ) → 0 < t → All (λ x. x < t) a → get_or a i 0 ≤ t
below_at t a i h below = within (cases_lt i (length a))
  where
    within : (i < length a) ⊎ (length a ≤ i) → get_or a i 0 ≤ t
    within (inl l) = omega (arith, below i 0 l)
    within (inr g) = rw (get_or_past a i 0 g) (omega arith)

coefficient_size : (t : ℕ) (a : List ℕ) (i : ℕ) → 0 < t → All (λ x. x < t) a → nat_abs (at (wholes a) i) ≤ t
coefficient_size t a i h below = rw (at-wholes a i) (below_at t a i h below)

constant_size : (n t c k : ℕ) → c < t → k < n → nat_abs (at (constant n (pos c)) k) ≤ t
unfolding constant
constant_size n t c k h l = rw (at-table n (λ k. cond (eqb k 0) (pos c) (pos 0)) k l) (either (eqb k 0))
  where
    either : (b : Bool) → nat_abs (cond b (pos c) (pos 0)) ≤ t
    either true = omega arith
    either false = omega arith

-- a turn by r is undone by the turn by N - r
undone : (p : Preset) (r : ℕ) → r ≤ p.slots → (3 ^ r % (2 * p.n) * (3 ^ (p.slots - r) % (2 * p.n))) % (2 * p.n) ≡ 1
undone p r h =
    let e : r + (p.slots - r) ≡ p.slots = omega arith in
    sym (mul-mod (3 ^ r) (3 ^ (p.slots - r)) (2 * p.n)) ∙ rw (← (pow-add 3 r (p.slots - r)), e) (facts p).round

module _ (p : Preset) (a : List ℕ) (is : IsPlaintext p a) where
  size : (k : ℕ) → nat_abs (at (wholes a) k) ≤ p.t
  size k = coefficient_size p.t a k (facts p).t_pos is.below

  pub settled_opposite : (W : List ℕ) → W ≡ reduced q p.n (negate p.n (wholes a)) → reduced p.t p.n (centred p.n W) ≡ opposite p a
  unfolding opposite
  settled_opposite W e = settled_any p.t p.n (negate p.n (wholes a)) W (facts p).t_pos (λ k l.
      rw (at-negate p.n (wholes a) k l, abs_neg (at (wholes a) k)) (omega (arith, size k, (facts p).t_small))) e

  pub settled_multiple : (c : ℕ) (W : List ℕ) → c < p.t → W ≡ reduced q p.n (scale p.n (pos c) (wholes a)) → reduced p.t p.n (centred p.n W) ≡ multiple p c a
  unfolding multiple
  settled_multiple c W h e = settled_any p.t p.n (scale p.n (pos c) (wholes a)) W (facts p).t_pos (λ k l.
      let small : c ≤ 65537 = omega (arith, h, (facts p).t_small) in
      let below : get_or a k 0 ≤ 65537 = omega (arith, below_at p.t a k (facts p).t_pos is.below, (facts p).t_small) in
      let both : c * get_or a k 0 ≤ 65537 * 65537 = mul-le-mul small below in
      rw (at-scale p.n (pos c) (wholes a) k l, at-wholes a k) (omega (arith, both))) e

  pub settled_raised : (c : ℕ) (W : List ℕ) → c < p.t → W ≡ reduced q p.n (plus p.n (wholes a) (constant p.n (pos c))) → reduced p.t p.n (centred p.n W) ≡ raised p c a
  unfolding raised
  settled_raised c W h e = settled_any p.t p.n (plus p.n (wholes a) (constant p.n (pos c))) W (facts p).t_pos (λ k l.
      rw (at-plus p.n (wholes a) (constant p.n (pos c)) k l)
      (omega (arith, abs_add (at (wholes a) k) (at (constant p.n (pos c)) k), size k, constant_size p.n p.t c k h l, (facts p).t_small))) e

  pub settled_turned : (r : ℕ) (W : List ℕ) → r ≤ p.slots → W ≡ reduced q p.n (turn p.n (wholes a) (3 ^ r % (2 * p.n))) → reduced p.t p.n (centred p.n W) ≡ turned p r a
  unfolding turned turn
  settled_turned r W h e =
      let n = p.n in
      let g : ℕ = 3 ^ r % (2 * n) in
      settled_any p.t n (table n (turn_at n (wholes a) g)) W (facts p).t_pos (λ k l.
      rw (at-table n (turn_at n (wholes a) g) k l)
      (omega (arith, turn_size n g (3 ^ (p.slots - r) % (2 * n)) p.t k (wholes a) l (undone p r h) (λ i il. size i), (facts p).t_small))) e

  module _ (b : List ℕ) (other : IsPlaintext p b) where
    other_size : (k : ℕ) → nat_abs (at (wholes b) k) ≤ p.t
    other_size k = coefficient_size p.t b k (facts p).t_pos other.below

    pub settled_sum : (W : List ℕ) → W ≡ reduced q p.n (plus p.n (wholes a) (wholes b)) → reduced p.t p.n (centred p.n W) ≡ sum p a b
    unfolding sum
    settled_sum W e = settled_any p.t p.n (plus p.n (wholes a) (wholes b)) W (facts p).t_pos (λ k l.
        rw (at-plus p.n (wholes a) (wholes b) k l) (omega (arith, abs_add (at (wholes a) k) (at (wholes b) k), size k, other_size k, (facts p).t_small))) e

    pub settled_difference : (W : List ℕ) → W ≡ reduced q p.n (plus p.n (wholes a) (negate p.n (wholes b))) → reduced p.t p.n (centred p.n W) ≡ difference p a b
    unfolding difference
    settled_difference W e = settled_any p.t p.n (plus p.n (wholes a) (negate p.n (wholes b))) W (facts p).t_pos (λ k l.
        rw (at-plus p.n (wholes a) (negate p.n (wholes b)) k l, at-negate p.n (wholes b) k l)
        (omega (arith, abs_add (at (wholes a) k) (neg_ℤ (at (wholes b) k)), abs_neg (at (wholes b) k), size k, other_size k, (facts p).t_small))) e

    pub settled_product : (W : List ℕ) → W ≡ reduced q p.n (times p.n (wholes a) (wholes b)) → reduced p.t p.n (centred p.n W) ≡ product p a b
    unfolding product
    settled_product W e =
        let F = facts p in
        let small : p.n * p.t * p.t ≤ 1024 * 65537 * 65537 = mul-le-mul (mul-le-mul F.n_small F.t_small) F.t_small in
        settled_any p.t p.n (times p.n (wholes a) (wholes b)) W F.t_pos (λ k l.
        let sized : nat_abs (at (times p.n (wholes a) (wholes b)) k) ≤ p.n * p.t * p.t = size_of p.n p.t p.t k (wholes a) (wholes b) (λ i il. size i) (λ i il. other_size i) l in
        omega (arith, sized, small)) e
