-- What is known of a ciphertext whose parts are these.
use Prim.Native.Nat.{ℕ, zero, suc, ◌<◌}
use native.Mathlib.Omega.{arith}
use mathlib.Core.Path.{◌≡◌, refl, ap, ◌∙◌}
use mathlib.Core.List.{List, [], ◌∷◌}
use lib.IntN.{ℤ, pos}
use lib.ListN.{length, get_or}
use Rattle.std.specs.Prelude.{Option, Some, None, replicate}
use mathlib.Core.Logic.{inl, inr}
use Rattle.std.proofs.lemmas.Bool.{cases_lt}
use Rattle.std.proofs.lemmas.List.{get_or-replicate, get_or_past, length-replicate}
use Rattle.heco_ring.proofs.Congruence.{same_refl, same_plus, same_scale, same_negate, same_times}
use Rattle.heco_ring.proofs.Reduced.{reduced_same}
use Rattle.heco_ring.proofs.Wrapping.{at-wholes}
use Rattle.heco_ring.specs.Remainders.{reduced, Same}
use Rattle.heco_ring.specs.Ring.{wholes, plus, scale, negate, times}
use Rattle.heco_scheme.specs.Noise.{q}
use Rattle.heco_scheme.specs.Ciphertexts.{part, parts, IsCiphertext, AreTwoParts}
use Rattle.heco_bfv.specs.Parts.{two_or_three, third_part, third_or}
use Rattle.std.specs.Prelude.{All}
use Rattle.std.proofs.lemmas.List.Elements.{All-get_or}
use Rattle.heco_scheme.proofs.Empty.{Zeros, empty_zeros, same_zeros}

pub record Seen (n : ℕ) (c : List (List ℕ)) (x y : List ℕ) (o : Option (List ℕ)) : Type 0 where
  pub first : part c 0 ≡ wholes x
  pub second : part c 1 ≡ wholes y
  pub third : part c 2 ≡ wholes (third_part o)
  pub first_long : length x ≡ n
  pub second_long : length y ≡ n
  pub view : two_or_three x y o ≡ c
  pub is : IsCiphertext n c

pub seen : (n : ℕ) (c : List (List ℕ)) (x y : List ℕ) (o : Option (List ℕ)) → two_or_three x y o ≡ c → IsCiphertext n c → Seen n c x y o
unfolding part
seen n c x y None v h = record {
  first = rw (← v) refl;
  second = rw (← v) refl;
  third = rw (← v) refl;
  first_long = (rw (← v) at h).places 0 (omega arith);
  second_long = (rw (← v) at h).places 1 (omega arith);
  view = v;
  is = h;
}
seen n c x y (Some z) v h = record {
  first = rw (← v) refl;
  second = rw (← v) refl;
  third = rw (← v) refl;
  first_long = (rw (← v) at h).places 0 (omega arith);
  second_long = (rw (← v) at h).places 1 (omega arith);
  view = v;
  is = h;
}

pub count_two : (n : ℕ) (c : List (List ℕ)) (x y : List ℕ) (o : Option (List ℕ)) → Seen n c x y o → o ≡ None → length c ≡ 2
count_two n c x y o s e = rw (← (s.view), e) refl

pub count_three : (n : ℕ) (c : List (List ℕ)) (x y z : List ℕ) (o : Option (List ℕ)) → Seen n c x y o → o ≡ Some z → length c ≡ 3
count_three n c x y z o s e = rw (← (s.view), e) refl

pub third_long : (n : ℕ) (c : List (List ℕ)) (x y z : List ℕ) (o : Option (List ℕ)) → Seen n c x y o → o ≡ Some z → length z ≡ n
third_long n c x y z o s e = (rw (← (s.view), e) at s.is).places 2 (omega arith)

pub zeros : (n m : ℕ) → Zeros n (wholes (replicate m 0))
zeros n m = record { zeros = λ k h. at-wholes (replicate m 0) k ∙ ap pos (none m k) }
  where
    none : (m k : ℕ) → ◌≡◌ {A = ℕ} (get_or (replicate m 0) k 0) 0
    none m k = elim (cases_lt k m) [
      | inl l ↦ get_or-replicate m k 0 0 l
      | inr g ↦ get_or_past (replicate m 0) k 0 (omega (arith, length-replicate {A = ℕ}))
    ]

pub same_third : (n : ℕ) (o : Option (List ℕ)) → Same q n (wholes (third_or n o)) (wholes (third_part o))
unfolding wholes
same_third n None = same_zeros q n (wholes (replicate n 0)) [] (zeros n n) (empty_zeros n)
same_third n (Some c) = same_refl q n (wholes c)

pub third_sum : (n : ℕ) (a b : Option (List ℕ)) → reduced q n (plus n (wholes (third_or n a)) (wholes (third_or n b))) ≡ reduced q n (plus n (wholes (third_part a)) (wholes (third_part b)))
third_sum n a b = reduced_same q n (plus n (wholes (third_or n a)) (wholes (third_or n b))) (plus n (wholes (third_part a)) (wholes (third_part b))) (omega arith)
    (same_plus q n (wholes (third_or n a)) (wholes (third_part a)) (wholes (third_or n b)) (wholes (third_part b)) (same_third n a) (same_third n b))

pub third_or_long : (n : ℕ) (c : List (List ℕ)) (x y : List ℕ) (o : Option (List ℕ)) → Seen n c x y o → length (third_or n o) ≡ n
third_or_long n c x y None s = length-replicate {A = ℕ} n 0
third_or_long n c x y (Some z) s = (rw (← (s.view)) at s.is).places 2 (omega arith)

-- the parts made one by one
pub made_two : (m n : ℕ) (f : ℕ → List ℤ) (x y : List ℕ) → m ≡ 2 → x ≡ reduced q n (f 0) → y ≡ reduced q n (f 1) → x ∷ y ∷ [] ≡ parts m (λ i. reduced q n (f i))
unfolding parts
made_two m n f x y e a b = rw (e, a, b) refl

pub made_three : (m n : ℕ) (f : ℕ → List ℤ) (x y z : List ℕ) → m ≡ 3 → x ≡ reduced q n (f 0) → y ≡ reduced q n (f 1) → z ≡ reduced q n (f 2) → x ∷ y ∷ z ∷ [] ≡ parts m (λ i. reduced q n (f i))
unfolding parts
made_three m n f x y z e a b c = rw (e, a, b, c) refl

pub third_at : (n : ℕ) (c : List (List ℕ)) (x y z : List ℕ) (o : Option (List ℕ)) → Seen n c x y o → o ≡ Some z → get_or c 2 [] ≡ z
third_at n c x y z o s e = rw (← (s.view), e) refl

pub none_third : (n : ℕ) (c : List (List ℕ)) (x y : List ℕ) (o : Option (List ℕ)) → Seen n c x y o → length c ≡ 2 → o ≡ None
none_third n c x y None s e = refl
none_third n c x y (Some z) s e = absurd (omega (arith, count_three n c x y z (Some z) s refl))

pub at_first : (n : ℕ) (c : List (List ℕ)) (x y : List ℕ) (o : Option (List ℕ)) → Seen n c x y o → get_or c 0 [] ≡ x
at_first n c x y None s = rw (← (s.view)) refl
at_first n c x y (Some z) s = rw (← (s.view)) refl

pub at_second : (n : ℕ) (c : List (List ℕ)) (x y : List ℕ) (o : Option (List ℕ)) → Seen n c x y o → get_or c 1 [] ≡ y
at_second n c x y None s = rw (← (s.view)) refl
at_second n c x y (Some z) s = rw (← (s.view)) refl

below_at : (x : List ℕ) → All (λ v. v < q) x → (k : ℕ) → get_or x k 0 < q
below_at x h k = elim (cases_lt k (length x)) [
  | inl l ↦ All-get_or (λ v. v < q) x k 0 l h
  | inr g ↦ rw (get_or_past x k 0 g) (omega arith)
]

two_at : (x y : List ℕ) → ((k : ℕ) → get_or x k 0 < q) → ((k : ℕ) → get_or y k 0 < q) → (i k : ℕ) → get_or (get_or (x ∷ y ∷ []) i []) k 0 < q
two_at x y f g zero k = f k
two_at x y f g (suc zero) k = g k
two_at x y f g (suc (suc i)) k = omega arith

pub two_parts : (n : ℕ) (c : List (List ℕ)) (x y : List ℕ) (o : Option (List ℕ)) → Seen n c x y o → length c ≡ 2 → All (λ v. v < q) x → All (λ v. v < q) y → AreTwoParts c
two_parts n c x y o s e f g = record {
  two = e;
  below = rw (← (s.view), none_third n c x y o s e) (two_at x y (below_at x f) (below_at y g));
}

pub third_scaled : (n : ℕ) (c : ℤ) (a : Option (List ℕ)) → reduced q n (scale n c (wholes (third_or n a))) ≡ reduced q n (scale n c (wholes (third_part a)))
third_scaled n c a = reduced_same q n (scale n c (wholes (third_or n a))) (scale n c (wholes (third_part a))) (omega arith) (same_scale q n c (wholes (third_or n a)) (wholes (third_part a)) (same_third n a))

pub third_product : (n : ℕ) (w : List ℤ) (a : Option (List ℕ)) → reduced q n (times n w (wholes (third_or n a))) ≡ reduced q n (times n w (wholes (third_part a)))
third_product n w a = reduced_same q n (times n w (wholes (third_or n a))) (times n w (wholes (third_part a))) (omega arith) (same_times q n w w (wholes (third_or n a)) (wholes (third_part a)) (same_refl q n w) (same_third n a))

pub third_negated : (n : ℕ) (a : Option (List ℕ)) → reduced q n (negate n (wholes (third_or n a))) ≡ reduced q n (negate n (wholes (third_part a)))
third_negated n a = reduced_same q n (negate n (wholes (third_or n a))) (negate n (wholes (third_part a))) (omega arith) (same_negate q n (wholes (third_or n a)) (wholes (third_part a)) (same_third n a))

pub third_difference : (n : ℕ) (a b : Option (List ℕ)) → reduced q n (plus n (wholes (third_or n a)) (negate n (wholes (third_or n b)))) ≡ reduced q n (plus n (wholes (third_part a)) (negate n (wholes (third_part b))))
third_difference n a b = reduced_same q n (plus n (wholes (third_or n a)) (negate n (wholes (third_or n b)))) (plus n (wholes (third_part a)) (negate n (wholes (third_part b)))) (omega arith)
    (same_plus q n (wholes (third_or n a)) (wholes (third_part a)) (negate n (wholes (third_or n b))) (negate n (wholes (third_part b))) (same_third n a) (same_negate q n (wholes (third_or n b)) (wholes (third_part b)) (same_third n b)))

pub count_some : (n : ℕ) (c : List (List ℕ)) → IsCiphertext n c → 0 < length c
count_some n c h = elim h.count [
  | inl e ↦ omega (arith, e)
  | inr e ↦ omega (arith, e)
]
