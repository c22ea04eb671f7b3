-- Sums and multiples, place by place and under the product.
use Prim.Native.Nat.{ℕ, ◌<◌, ◌+◌}
use lib.Dec.{eqb}
use lib.IntN.{ℤ, pos, ◌+ℤ◌, ◌*ℤ◌, neg_ℤ}
use lib.ListN.{length}
use mathlib.Core.Bool.{cond}
use mathlib.Core.List.{List}
use mathlib.Core.Path.{◌≡◌, refl, sym, ap, ◌∙◌}
use native.Mathlib.Omega.{arith}
use Rattle.std.proofs.lemmas.Bool.{ne_eqb}
use Rattle.std.proofs.lemmas.List.{ext_get_or}
use Rattle.std.specs.Prelude.{Bool, true, false}
use Rattle.heco_ring.proofs.Integers.{lines, z_mul_comm, z_mul_add, z_add_mul, z_mul_assoc, z_neg_mul, z_mul_one, z_one_mul, z_mul_zero, z_zero_mul}
use Rattle.heco_ring.proofs.Pairing.{at-table, length-table, table_ext, sign_here, sign_else, sum_one, pair, pair_table}
use Rattle.heco_ring.proofs.RingLaws.{times_comm, times_assoc}
use Rattle.heco_ring.proofs.Sums.{sum_ext, sum_add, sum_neg, sum_mul}
use Rattle.heco_ring.specs.Ring.{sum_z, at, table, sign, times_at, times, plus, negate, scale, constant}

pub pair_plus : (n : ℕ) (a b : List ℤ) (f : ℕ → ℤ) → pair n (plus n a b) f ≡ pair n a f +ℤ pair n b f
unfolding plus pair
pair_plus n a b f =
    pair_table n (λ k. at a k +ℤ at b k) f
    ∙ sum_ext n (λ k. (at a k +ℤ at b k) *ℤ f k) (λ k. at a k *ℤ f k +ℤ at b k *ℤ f k) (λ k l. z_add_mul (at a k) (at b k) (f k))
    ∙ sum_add n (λ k. at a k *ℤ f k) (λ k. at b k *ℤ f k)

pub pair_scale : (n : ℕ) (c : ℤ) (a : List ℤ) (f : ℕ → ℤ) → pair n (scale n c a) f ≡ c *ℤ pair n a f
unfolding scale pair
pair_scale n c a f =
    pair_table n (λ k. c *ℤ at a k) f
    ∙ sum_ext n (λ k. c *ℤ at a k *ℤ f k) (λ k. c *ℤ (at a k *ℤ f k)) (λ k l. z_mul_assoc c (at a k) (f k))
    ∙ sum_mul n c (λ k. at a k *ℤ f k)

pub pair_negate : (n : ℕ) (a : List ℤ) (f : ℕ → ℤ) → pair n (negate n a) f ≡ neg_ℤ (pair n a f)
unfolding negate pair
pair_negate n a f =
    pair_table n (λ k. neg_ℤ (at a k)) f
    ∙ sum_ext n (λ k. neg_ℤ (at a k) *ℤ f k) (λ k. neg_ℤ (at a k *ℤ f k)) (λ k l. z_neg_mul (at a k) (f k))
    ∙ sum_neg n (λ k. at a k *ℤ f k)

pub times_at_pair : (n : ℕ) (a b : List ℤ) (k : ℕ) → times_at n a b k ≡ pair n a (λ i. pair n b (λ j. sign n (i + j) k))
unfolding times_at pair
times_at_pair n a b k = sum_ext n (λ i. sum_z n (λ j. at a i *ℤ at b j *ℤ sign n (i + j) k)) (λ i. at a i *ℤ sum_z n (λ j. at b j *ℤ sign n (i + j) k)) (λ i l.
    sum_ext n (λ j. at a i *ℤ at b j *ℤ sign n (i + j) k) (λ j. at a i *ℤ (at b j *ℤ sign n (i + j) k)) (λ j jl. z_mul_assoc (at a i) (at b j) (sign n (i + j) k))
    ∙ sum_mul n (at a i) (λ j. at b j *ℤ sign n (i + j) k))

pub at-times : (n : ℕ) (a b : List ℤ) (k : ℕ) → k < n → at (times n a b) k ≡ times_at n a b k
unfolding times
at-times n a b k h = at-table n (times_at n a b) k h

pub at-plus : (n : ℕ) (a b : List ℤ) (k : ℕ) → k < n → at (plus n a b) k ≡ at a k +ℤ at b k
unfolding plus
at-plus n a b k h = at-table n (λ k. at a k +ℤ at b k) k h

pub at-scale : (n : ℕ) (c : ℤ) (a : List ℤ) (k : ℕ) → k < n → at (scale n c a) k ≡ c *ℤ at a k
unfolding scale
at-scale n c a k h = at-table n (λ k. c *ℤ at a k) k h

pub at-negate : (n : ℕ) (a : List ℤ) (k : ℕ) → k < n → at (negate n a) k ≡ neg_ℤ (at a k)
unfolding negate
at-negate n a k h = at-table n (λ k. neg_ℤ (at a k)) k h

pub plus_times : (n : ℕ) (a b c : List ℤ) → times n (plus n a b) c ≡ plus n (times n a c) (times n b c)
unfolding times plus
plus_times n a b c = table_ext n (times_at n (plus n a b) c) (λ k. at (times n a c) k +ℤ at (times n b c) k) (λ k l.
    rw (times_at_pair n (plus n a b) c k, pair_plus n a b (λ i. pair n c (λ j. sign n (i + j) k)), at-times n a c k l, at-times n b c k l, times_at_pair n a c k, times_at_pair n b c k))

pub scale_times : (n : ℕ) (c : ℤ) (a b : List ℤ) → times n (scale n c a) b ≡ scale n c (times n a b)
unfolding times scale
scale_times n c a b = table_ext n (times_at n (scale n c a) b) (λ k. c *ℤ at (times n a b) k) (λ k l.
    rw (at-times n a b k l, times_at_pair n a b k) (times_at_pair n (scale n c a) b k ∙ pair_scale n c a (λ i. pair n b (λ j. sign n (i + j) k))))

pub negate_times : (n : ℕ) (a b : List ℤ) → times n (negate n a) b ≡ negate n (times n a b)
unfolding times negate
negate_times n a b = table_ext n (times_at n (negate n a) b) (λ k. neg_ℤ (at (times n a b) k)) (λ k l.
    rw (at-times n a b k l, times_at_pair n a b k) (times_at_pair n (negate n a) b k ∙ pair_negate n a (λ i. pair n b (λ j. sign n (i + j) k))))

pub times_plus : (n : ℕ) (a b c : List ℤ) → times n a (plus n b c) ≡ plus n (times n a b) (times n a c)
times_plus n a b c = rw (times_comm n a (plus n b c), plus_times n b c a, times_comm n b a, times_comm n c a)

pub times_scale : (n : ℕ) (c : ℤ) (a b : List ℤ) → times n a (scale n c b) ≡ scale n c (times n a b)
times_scale n c a b = rw (times_comm n a (scale n c b), scale_times n c b a, times_comm n b a)

pub constant_times : (n : ℕ) (c : ℤ) (a : List ℤ) → 0 < n → times n (constant n c) a ≡ scale n c a
unfolding times scale constant pair
constant_times n c a h = table_ext n (times_at n (constant n c) a) (λ k. c *ℤ at a k) (λ k l.
    times_at_pair n (constant n c) a k
    ∙ sum_one n 0 (λ i. at (constant n c) i *ℤ pair n a (λ j. sign n (i + j) k)) h (λ i il ne. rw (at-table n (λ k. cond (eqb k 0) c (pos 0)) i il, ne_eqb i 0 ne) (z_zero_mul (pair n a (λ j. sign n (i + j) k))))
    ∙ rw (at-table n (λ k. cond (eqb k 0) c (pos 0)) 0 h) (ap (λ (x : ℤ). c *ℤ x) (sum_one n k (λ j. at a j *ℤ sign n (0 + j) k) l (λ j jl ne. rw (sign_else n (0 + j) k (omega arith) (omega arith)) (z_mul_zero (at a j)))
    ∙ (let e : 0 + k ≡ k = omega arith in rw (e, sign_here n k) (z_mul_one (at a k))))))

plus_ext : (n : ℕ) (a b c d : List ℤ) → ((k : ℕ) → k < n → at a k +ℤ at b k ≡ at c k +ℤ at d k) → plus n a b ≡ plus n c d
unfolding plus
plus_ext n a b c d h = table_ext n (λ k. at a k +ℤ at b k) (λ k. at c k +ℤ at d k) h

pub plus_comm : (n : ℕ) (a b : List ℤ) → plus n a b ≡ plus n b a
unfolding plus
plus_comm n a b = table_ext n (λ k. at a k +ℤ at b k) (λ k. at b k +ℤ at a k) (λ k l. omega (arith, lines))

pub plus_assoc : (n : ℕ) (a b c : List ℤ) → plus n (plus n a b) c ≡ plus n a (plus n b c)
plus_assoc n a b c = plus_ext n (plus n a b) c a (plus n b c) (λ k l. rw (at-plus n a b k l, at-plus n b c k l) (omega (arith, lines)))

pub plus_left : (n : ℕ) (a b c : List ℤ) → plus n a (plus n b c) ≡ plus n b (plus n a c)
plus_left n a b c = plus_ext n a (plus n b c) b (plus n a c) (λ k l. rw (at-plus n b c k l, at-plus n a c k l) (omega (arith, lines)))

pub scale_plus : (n : ℕ) (c : ℤ) (a b : List ℤ) → scale n c (plus n a b) ≡ plus n (scale n c a) (scale n c b)
unfolding scale plus
scale_plus n c a b = table_ext n (λ k. c *ℤ at (plus n a b) k) (λ k. at (scale n c a) k +ℤ at (scale n c b) k) (λ k l. rw (at-plus n a b k l, at-scale n c a k l, at-scale n c b k l) (z_mul_add c (at a k) (at b k)))

pub scale_scale : (n : ℕ) (c d : ℤ) (a : List ℤ) → scale n c (scale n d a) ≡ scale n (c *ℤ d) a
unfolding scale
scale_scale n c d a = table_ext n (λ k. c *ℤ at (scale n d a) k) (λ k. (c *ℤ d) *ℤ at a k) (λ k l. rw (at-scale n d a k l) (sym (z_mul_assoc c d (at a k))))

pub scale_left : (n : ℕ) (c d : ℤ) (a : List ℤ) → scale n c (scale n d a) ≡ scale n d (scale n c a)
scale_left n c d a = scale_scale n c d a ∙ ap (λ (x : ℤ). scale n x a) (z_mul_comm c d) ∙ sym (scale_scale n d c a)

pub times_left : (n : ℕ) (a b c : List ℤ) → times n a (times n b c) ≡ times n b (times n a c)
times_left n a b c = rw (← (times_assoc n a b c), times_comm n a b, times_assoc n b a c)

-- the ring of lists: sums of scaled products, sorted
pub ruleset products = (plus_times, times_plus, scale_times, times_scale, scale_plus, scale_left, times_assoc, times_comm, times_left)

pub ruleset sums = (plus_assoc, plus_comm, plus_left)

pub ruleset places = (at-plus, at-scale, at-negate)

pub times_negate : (n : ℕ) (a b : List ℤ) → times n a (negate n b) ≡ negate n (times n a b)
times_negate n a b = rw (times_comm n a (negate n b), negate_times n b a, times_comm n b a)

pub negate_plus : (n : ℕ) (a b : List ℤ) → negate n (plus n a b) ≡ plus n (negate n a) (negate n b)
unfolding negate plus
negate_plus n a b = table_ext n (λ k. neg_ℤ (at (plus n a b) k)) (λ k. at (negate n a) k +ℤ at (negate n b) k) (λ k l. rw (at-plus n a b k l, at-negate n a k l, at-negate n b k l) (omega (arith, lines)))

pub ruleset negations = (negate_times, times_negate, negate_plus)

pub scale_one : (n : ℕ) (a : List ℤ) → length a ≡ n → scale n (pos 1) a ≡ a
unfolding scale at
scale_one n a e = ext_get_or (pos 0) (table n (λ k. pos 1 *ℤ at a k)) a (length-table n (λ k. pos 1 *ℤ at a k) ∙ sym e) (λ i l.
    let k : i < n = omega (arith, length-table n (λ k. pos 1 *ℤ at a k)) in at-table n (λ k. pos 1 *ℤ at a k) i k ∙ z_one_mul (at a i))

pub one_times : (n : ℕ) (a : List ℤ) → 0 < n → length a ≡ n → times n (constant n (pos 1)) a ≡ a
one_times n a h e = constant_times n (pos 1) a h ∙ scale_one n a e

pub plus_negate : (n : ℕ) (a : List ℤ) → plus n a (negate n a) ≡ constant n (pos 0)
unfolding plus constant
plus_negate n a = table_ext n (λ k. at a k +ℤ at (negate n a) k) (λ k. cond (eqb k 0) (pos 0) (pos 0)) (λ k l. rw (at-negate n a k l) (omega (arith, lines)) ∙ sym (same_ends (eqb k 0)))
  where
    same_ends : (b : Bool) → cond b (pos 0) (pos 0) ≡ pos 0
    same_ends b = elim b as (λ v. cond v (pos 0) (pos 0) ≡ pos 0) [ true ↦ refl | false ↦ refl ]

pub pair_constant : (n : ℕ) (c : ℤ) (f : ℕ → ℤ) → 0 < n → pair n (constant n c) f ≡ c *ℤ f 0
unfolding pair constant
pair_constant n c f h =
    sum_one n 0 (λ i. at (constant n c) i *ℤ f i) h (λ i il ne. rw (at-table n (λ k. cond (eqb k 0) c (pos 0)) i il, ne_eqb i 0 ne) (z_zero_mul (f i)))
    ∙ ap (λ (x : ℤ). x *ℤ f 0) (at-table n (λ k. cond (eqb k 0) c (pos 0)) 0 h)
