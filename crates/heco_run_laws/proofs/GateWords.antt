-- The parts of what gates give: each has n words.
use Rattle.std.proofs.Common.{◌≡◌, ℕ, ◌<◌, ◌^◌, max, List, [], ◌∷◌, length, get_or, refl, inl, inr, arith}
use Rattle.std.specs.Prelude.{All}
use Rattle.std.proofs.lemmas.Bool.{cases_lt}
use Rattle.std.proofs.lemmas.List.{get_or_past}
use Rattle.std.proofs.lemmas.List.FromFn.{get_or-map-range_with_len}
use Rattle.std.proofs.lemmas.List.Elements.{All-nil, All-cons, All-from_get_or}
use lib.IntN.{ℤ}
use Rattle.heco_nums.specs.declared.preset.Preset.{Preset}
use Rattle.heco_noise_laws.specs.Noise.{round_part}
use Rattle.heco_ring.specs.Remainders.{reduced}
use Rattle.heco_keys.proofs.MadeRows.{reduced_words}
use Rattle.heco_nums.specs.MaterialBounds.{AreWords}
use Rattle.heco_scheme.specs.Ciphertexts.{parts}
use Rattle.heco_scheme.specs.Encryption.{encrypted}
use Rattle.heco_scheme.specs.Gates.{added, subtracted, negated, scaled_by, times_each, weighed, shifted, multiplied, switched, relinearised, turned}
use Rattle.heco_scheme.specs.Noise.{q}
use Rattle.heco_scheme.specs.Rounding.{rounded_all}
use Rattle.heco_scheme.proofs.PartLaws.{length-parts}

-- a word, also past the end
pub word_below : (n k : ℕ) (x : List ℕ) → AreWords n x → get_or x k 0 < 2 ^ 58
word_below n k x h = elim (cases_lt k (length x)) [
  | inl l ↦ h.below k 0 l
  | inr g ↦ rw (get_or_past x k 0 g) (omega arith)
]

pub part_below : (n i k : ℕ) (c : List (List ℕ)) → All (AreWords n) c → get_or (get_or c i []) k 0 < 2 ^ 58
part_below n i k c h = elim (cases_lt i (length c)) [
  | inl l ↦ word_below n k (get_or c i []) (h i [] l)
  | inr g ↦ rw (get_or_past c i [] g) (omega arith)
]

parts_words : (n m : ℕ) (f : ℕ → List ℤ) → All (AreWords n) (parts m (λ i. reduced q n (f i)))
unfolding parts
parts_words n m f = All-from_get_or (AreWords n) (parts m (λ i. reduced q n (f i))) [] (λ i l.
    rw (get_or-map-range_with_len (λ i. reduced q n (f i)) 0 m i i [] (omega (arith, length-parts m (λ i. reduced q n (f i)))) (omega arith)) (reduced_words n (f i)))

two_words : (n : ℕ) (y z : List ℤ) → All (AreWords n) (reduced q n y ∷ reduced q n z ∷ [])
two_words n y z = All-cons (AreWords n) (reduced q n y) (reduced q n z ∷ []) (reduced_words n y) (All-cons (AreWords n) (reduced q n z) [] (reduced_words n z) (All-nil (AreWords n)))

-- ---- of each gate

pub added_words : (p : Preset) (a b : List (List ℕ)) → All (AreWords p.n) (added p a b)
unfolding added
added_words p a b = parts_words p.n (max (length a) (length b)) _

pub length-added : (p : Preset) (a b : List (List ℕ)) → length (added p a b) ≡ max (length a) (length b)
unfolding added
length-added p a b = length-parts (max (length a) (length b)) _

pub subtracted_words : (p : Preset) (a b : List (List ℕ)) → All (AreWords p.n) (subtracted p a b)
unfolding subtracted
subtracted_words p a b = parts_words p.n (max (length a) (length b)) _

pub length-subtracted : (p : Preset) (a b : List (List ℕ)) → length (subtracted p a b) ≡ max (length a) (length b)
unfolding subtracted
length-subtracted p a b = length-parts (max (length a) (length b)) _

pub negated_words : (p : Preset) (a : List (List ℕ)) → All (AreWords p.n) (negated p a)
unfolding negated
negated_words p a = parts_words p.n (length a) _

pub length-negated : (p : Preset) (a : List (List ℕ)) → length (negated p a) ≡ length a
unfolding negated
length-negated p a = length-parts (length a) _

pub scaled_words : (p : Preset) (c : ℕ) (a : List (List ℕ)) → All (AreWords p.n) (scaled_by p c a)
unfolding scaled_by
scaled_words p c a = parts_words p.n (length a) _

pub length-scaled : (p : Preset) (c : ℕ) (a : List (List ℕ)) → length (scaled_by p c a) ≡ length a
unfolding scaled_by
length-scaled p c a = length-parts (length a) _

pub weighed_words : (p : Preset) (v : List ℕ) (a : List (List ℕ)) → All (AreWords p.n) (weighed p v a)
unfolding weighed times_each
weighed_words p v a = parts_words p.n (length a) _

pub length-weighed : (p : Preset) (v : List ℕ) (a : List (List ℕ)) → length (weighed p v a) ≡ length a
unfolding weighed times_each
length-weighed p v a = length-parts (length a) _

pub shifted_words : (p : Preset) (c : ℕ) (a : List (List ℕ)) → All (AreWords p.n) (shifted p c a)
unfolding shifted
shifted_words p c a = parts_words p.n (length a) _

pub length-shifted : (p : Preset) (c : ℕ) (a : List (List ℕ)) → length (shifted p c a) ≡ length a
unfolding shifted
length-shifted p c a = length-parts (length a) _

rounded_words : (n t : ℕ) (x : List ℤ) → AreWords n (rounded_all n t x)
unfolding rounded_all
rounded_words n t x = reduced_words n (round_part n (2 ^ 58) t x)

three_words : (n t : ℕ) (x y z : List ℤ) → All (AreWords n) (rounded_all n t x ∷ rounded_all n t y ∷ rounded_all n t z ∷ [])
three_words n t x y z =
    All-cons (AreWords n) (rounded_all n t x) (rounded_all n t y ∷ rounded_all n t z ∷ []) (rounded_words n t x)
    (All-cons (AreWords n) (rounded_all n t y) (rounded_all n t z ∷ []) (rounded_words n t y)
    (All-cons (AreWords n) (rounded_all n t z) [] (rounded_words n t z) (All-nil (AreWords n))))

pub multiplied_words : (p : Preset) (a b : List (List ℕ)) → All (AreWords p.n) (multiplied p a b)
unfolding multiplied
multiplied_words p a b = three_words p.n p.t _ _ _

pub length-multiplied : (p : Preset) (a b : List (List ℕ)) → length (multiplied p a b) ≡ 3
unfolding multiplied
length-multiplied p a b = refl

switched_words : (p : Preset) (c0 c1 : List ℤ) (b : List ℕ) (k : List (List ℕ × List ℕ)) → All (AreWords p.n) (switched p c0 c1 b k)
unfolding switched
switched_words p c0 c1 b k = two_words p.n _ _

length-switched : (p : Preset) (c0 c1 : List ℤ) (b : List ℕ) (k : List (List ℕ × List ℕ)) → length (switched p c0 c1 b k) ≡ 2
unfolding switched
length-switched p c0 c1 b k = refl

pub relinearised_words : (p : Preset) (k : List (List ℕ × List ℕ)) (a : List (List ℕ)) → All (AreWords p.n) (relinearised p k a)
unfolding relinearised
relinearised_words p k a = switched_words p _ _ _ k

pub length-relinearised : (p : Preset) (k : List (List ℕ × List ℕ)) (a : List (List ℕ)) → length (relinearised p k a) ≡ 2
unfolding relinearised
length-relinearised p k a = length-switched p _ _ _ k

pub turned_words : (p : Preset) (r : ℕ) (k : List (List ℕ × List ℕ)) (a : List (List ℕ)) → All (AreWords p.n) (turned p r k a)
unfolding turned
turned_words p r k a = switched_words p _ _ _ k

pub length-turned : (p : Preset) (r : ℕ) (k : List (List ℕ × List ℕ)) (a : List (List ℕ)) → length (turned p r k a) ≡ 2
unfolding turned
length-turned p r k a = length-switched p _ _ _ k

-- ---- of an encryption

pub encrypted_words : (p : Preset) (p0 p1 : List ℕ) (u e1 e2 : List ℤ) (m : List ℕ) → All (AreWords p.n) (encrypted p p0 p1 u e1 e2 m)
unfolding encrypted
encrypted_words p p0 p1 u e1 e2 m = two_words p.n _ _

pub length-encrypted : (p : Preset) (p0 p1 : List ℕ) (u e1 e2 : List ℤ) (m : List ℕ) → length (encrypted p p0 p1 u e1 e2 m) ≡ 2
unfolding encrypted
length-encrypted p p0 p1 u e1 e2 m = refl
