-- Turns of sums and of multiples, and one turn after another.
use Prim.Native.Nat.{ℕ, ◌<◌, ◌+◌, ◌*◌, ◌/◌, ◌%◌}
use lib.Dec.{eqb}
use lib.IntN.{ℤ, pos, ◌+ℤ◌, ◌*ℤ◌}
use mathlib.Core.Bool.{cond}
use mathlib.Core.List.{List}
use mathlib.Core.Path.{◌≡◌, sym, ap, ◌∙◌, subst}
use native.Mathlib.Omega.{arith}
use Rattle.std.proofs.lemmas.Nat.{mul-mod_second}
use Rattle.heco_ring.proofs.Integers.{z_add_mul, z_mul_assoc}
use Rattle.heco_ring.proofs.Linear.{at-plus, at-scale, pair_constant}
use Rattle.heco_ring.proofs.Pairing.{at-table, table_ext, Flips, pair_ext}
use Rattle.heco_ring.proofs.RingLaws.{flips_mod, Flips_times, same_by_pair, pair_turn, turn_times}
use Rattle.heco_ring.proofs.Sums.{sum_ext, sum_add, sum_mul}
use Rattle.heco_ring.specs.Ring.{at, sign, times, plus, scale, turn_at, turn, constant}

pub at-turn : (n g k : ℕ) (a : List ℤ) → k < n → at (turn n a g) k ≡ turn_at n a g k
unfolding turn
at-turn n g k a h = at-table n (turn_at n a g) k h

pub turn_plus : (n g : ℕ) (a b : List ℤ) → turn n (plus n a b) g ≡ plus n (turn n a g) (turn n b g)
unfolding turn plus turn_at
turn_plus n g a b = table_ext n (turn_at n (plus n a b) g) (λ k. at (turn n a g) k +ℤ at (turn n b g) k) (λ k l.
    rw (at-turn n g k a l, at-turn n g k b l)
    (sum_ext n (λ i. at (plus n a b) i *ℤ sign n (i * g % (2 * n)) k) (λ i. at a i *ℤ sign n (i * g % (2 * n)) k +ℤ at b i *ℤ sign n (i * g % (2 * n)) k) (λ i il. rw (at-plus n a b i il) (z_add_mul (at a i) (at b i) (sign n (i * g % (2 * n)) k)))
    ∙ sum_add n (λ i. at a i *ℤ sign n (i * g % (2 * n)) k) (λ i. at b i *ℤ sign n (i * g % (2 * n)) k)))

pub turn_scale : (n g : ℕ) (c : ℤ) (a : List ℤ) → turn n (scale n c a) g ≡ scale n c (turn n a g)
unfolding turn scale turn_at
turn_scale n g c a = table_ext n (turn_at n (scale n c a) g) (λ k. c *ℤ at (turn n a g) k) (λ k l.
    rw (at-turn n g k a l)
    (sum_ext n (λ i. at (scale n c a) i *ℤ sign n (i * g % (2 * n)) k) (λ i. c *ℤ (at a i *ℤ sign n (i * g % (2 * n)) k)) (λ i il. rw (at-scale n c a i il) (z_mul_assoc c (at a i) (sign n (i * g % (2 * n)) k)))
    ∙ sum_mul n c (λ i. at a i *ℤ sign n (i * g % (2 * n)) k)))

odd_times : (n h : ℕ) (f : ℕ → ℤ) → h % 2 ≡ 1 → Flips n f → Flips n (λ i. f (i * h))
odd_times n h f o fl = let e : 2 * (h / 2) + 1 ≡ h = omega arith in subst (λ (x : ℕ). Flips n (λ i. f (i * x))) e (Flips_times n (h / 2) f fl)

pub turn_product : (n g : ℕ) (a b : List ℤ) → 0 < n → g % 2 ≡ 1 → turn n (times n a b) g ≡ times n (turn n a g) (turn n b g)
turn_product n g a b p o = let e : 2 * (g / 2) + 1 ≡ g = omega arith in subst (λ (x : ℕ). turn n (times n a b) x ≡ times n (turn n a x) (turn n b x)) e (turn_times n (g / 2) a b p)

pub turn_constant : (n g : ℕ) (c : ℤ) → 0 < n → turn n (constant n c) g ≡ constant n c
unfolding turn constant
turn_constant n g c p = same_by_pair n (turn_at n (constant n c) g) (λ k. cond (eqb k 0) c (pos 0)) (λ f fl.
    pair_turn n g (constant n c) f p fl
    ∙ pair_constant n c (λ i. f (i * g)) p
    ∙ (let e : 0 * g ≡ 0 = omega arith in ap (λ (x : ℕ). c *ℤ f x) e)
    ∙ sym (pair_constant n c f p))

-- one turn after another
pub turn_turn : (n g h : ℕ) (a : List ℤ) → 0 < n → h % 2 ≡ 1 → turn n (turn n a g) h ≡ turn n a (g * h % (2 * n))
unfolding turn
turn_turn n g h a p o = same_by_pair n (turn_at n (turn n a g) h) (turn_at n a (g * h % (2 * n))) (λ f fl.
    pair_turn n h (turn n a g) f p fl
    ∙ pair_turn n g a (λ i. f (i * h)) p (odd_times n h f o fl)
    ∙ pair_ext n a (λ i. f (i * g * h)) (λ i. f (i * (g * h % (2 * n)))) (λ i l.
    sym (flips_mod n (i * g * h) f fl) ∙ ap f (exponent i g h (2 * n)) ∙ flips_mod n (i * (g * h % (2 * n))) f fl)
    ∙ sym (pair_turn n (g * h % (2 * n)) a f p fl))
  where
    exponent : (i g h m : ℕ) → i * g * h % m ≡ i * (g * h % m) % m
    exponent i g h m = let e : i * g * h ≡ i * (g * h) = omega arith in ap (λ (x : ℕ). x % m) e ∙ sym (mul-mod_second i (g * h) m)
