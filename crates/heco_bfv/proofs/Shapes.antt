-- The results of the gates are ciphertexts of two or three parts.
use Prim.Native.Nat.{ℕ, zero, suc, ◌<◌, ◌%◌, ◌^◌, ◌*◌}
use native.Mathlib.Omega.{arith}
use mathlib.Core.Path.{◌≡◌, refl, ap, ◌∙◌}
use mathlib.Core.Logic.{inl, inr}
use mathlib.Core.Bool.{cond}
use mathlib.Core.List.{List, [], ◌∷◌}
use lib.Dec.{eqb}
use lib.IntN.{ℤ, pos}
use lib.ListN.{length, get_or}
use Rattle.std.specs.Prelude.{◌⊎◌, max, replicate}
use Rattle.std.proofs.lemmas.List.{length-replicate, get_or-replicate}
use Rattle.std.proofs.lemmas.List.FromFn.{get_or-map-range_with_len, length-map-range_with_len}
use Rattle.heco_nums.specs.Arithmetic.{centre_t, scaled}
use Rattle.heco_nums.specs.declared.preset.Preset.{Preset}
use Rattle.heco_ring.specs.Remainders.{reduced}
use Rattle.heco_ring.specs.Ring.{wholes, plus, negate, scale, constant, times, turn, sum_lists}
use Rattle.heco_ring.proofs.Reduced.{length-reduced}
use Rattle.heco_noise_laws.specs.Noise.{round_part}
use Rattle.heco_scheme.specs.Ciphertexts.{part, parts, IsCiphertext}
use Rattle.heco_scheme.specs.Gates.{added, subtracted, negated, scaled_by, times_each, shifted, multiplied, digits, switched, relinearised, turned}
use Rattle.heco_scheme.specs.Keys.{row}
use Rattle.heco_scheme.specs.Noise.{q}
use Rattle.heco_scheme.specs.Rounding.{centred, rounded_all}
use Rattle.heco_scheme.specs.Encryption.{encrypted, scaled_all}
use Rattle.heco_scheme.proofs.PartLaws.{length-parts}

-- ---- parts made one by one
parts_ciphertext : (n m : ℕ) (f : ℕ → List ℤ) → (m ≡ 2) ⊎ (m ≡ 3) → IsCiphertext n (parts m (λ i. reduced q n (f i)))
unfolding parts
parts_ciphertext n m f h = record {
  places = λ i l.
      let within : i < m = omega (arith, l, length-map-range_with_len (λ i. reduced q n (f i)) 0 m) in
      ap length (get_or-map-range_with_len (λ i. reduced q n (f i)) 0 m i i [] within (omega arith)) ∙ length-reduced q n (f i);
  count = rw (length-map-range_with_len (λ i. reduced q n (f i)) 0 m) h;
}

pub added_ciphertext : (p : Preset) (a b : List (List ℕ)) → (max (length a) (length b) ≡ 2) ⊎ (max (length a) (length b) ≡ 3) → IsCiphertext p.n (added p a b)
unfolding added
added_ciphertext p a b h = parts_ciphertext p.n (max (length a) (length b)) (λ i. plus p.n (part a i) (part b i)) h

pub added_count : (p : Preset) (a b : List (List ℕ)) → length (added p a b) ≡ max (length a) (length b)
unfolding added
added_count p a b = length-parts (max (length a) (length b)) (λ i. reduced q p.n (plus p.n (part a i) (part b i)))

pub subtracted_ciphertext : (p : Preset) (a b : List (List ℕ)) → (max (length a) (length b) ≡ 2) ⊎ (max (length a) (length b) ≡ 3) → IsCiphertext p.n (subtracted p a b)
unfolding subtracted
subtracted_ciphertext p a b h = parts_ciphertext p.n (max (length a) (length b)) (λ i. plus p.n (part a i) (negate p.n (part b i))) h

pub subtracted_count : (p : Preset) (a b : List (List ℕ)) → length (subtracted p a b) ≡ max (length a) (length b)
unfolding subtracted
subtracted_count p a b = length-parts (max (length a) (length b)) (λ i. reduced q p.n (plus p.n (part a i) (negate p.n (part b i))))

pub negated_ciphertext : (p : Preset) (a : List (List ℕ)) → (length a ≡ 2) ⊎ (length a ≡ 3) → IsCiphertext p.n (negated p a)
unfolding negated
negated_ciphertext p a h = parts_ciphertext p.n (length a) (λ i. negate p.n (part a i)) h

pub negated_count : (p : Preset) (a : List (List ℕ)) → length (negated p a) ≡ length a
unfolding negated
negated_count p a = length-parts (length a) (λ i. reduced q p.n (negate p.n (part a i)))

pub scaled_ciphertext : (p : Preset) (c : ℕ) (a : List (List ℕ)) → (length a ≡ 2) ⊎ (length a ≡ 3) → IsCiphertext p.n (scaled_by p c a)
unfolding scaled_by
scaled_ciphertext p c a h = parts_ciphertext p.n (length a) (λ i. scale p.n (centre_t p.t c) (part a i)) h

pub scaled_count : (p : Preset) (c : ℕ) (a : List (List ℕ)) → length (scaled_by p c a) ≡ length a
unfolding scaled_by
scaled_count p c a = length-parts (length a) (λ i. reduced q p.n (scale p.n (centre_t p.t c) (part a i)))

pub times_ciphertext : (p : Preset) (w : List ℤ) (a : List (List ℕ)) → (length a ≡ 2) ⊎ (length a ≡ 3) → IsCiphertext p.n (times_each p w a)
unfolding times_each
times_ciphertext p w a h = parts_ciphertext p.n (length a) (λ i. times p.n w (part a i)) h

pub times_count : (p : Preset) (w : List ℤ) (a : List (List ℕ)) → length (times_each p w a) ≡ length a
unfolding times_each
times_count p w a = length-parts (length a) (λ i. reduced q p.n (times p.n w (part a i)))

pub shifted_ciphertext : (p : Preset) (c : ℕ) (a : List (List ℕ)) → (length a ≡ 2) ⊎ (length a ≡ 3) → IsCiphertext p.n (shifted p c a)
unfolding shifted
shifted_ciphertext p c a h = parts_ciphertext p.n (length a) (λ i. plus p.n (part a i) (cond (eqb i 0) (constant p.n (pos (scaled p.t c))) [])) h

pub shifted_count : (p : Preset) (c : ℕ) (a : List (List ℕ)) → length (shifted p c a) ≡ length a
unfolding shifted
shifted_count p c a = length-parts (length a) (λ i. reduced q p.n (plus p.n (part a i) (cond (eqb i 0) (constant p.n (pos (scaled p.t c))) [])))

-- ---- two and three parts
two_long : (n : ℕ) (x y : List ℕ) → length x ≡ n → length y ≡ n → (i : ℕ) → i < 2 → length (get_or (x ∷ y ∷ []) i []) ≡ n
two_long n x y a b zero h = a
two_long n x y a b (suc zero) h = b
two_long n x y a b (suc (suc i)) h = absurd (omega arith)

pub two_ciphertext : (n : ℕ) (x y : List ℕ) → length x ≡ n → length y ≡ n → IsCiphertext n (x ∷ y ∷ [])
two_ciphertext n x y a b = record { places = λ i h. two_long n x y a b i h; count = inl refl }

three_long : (n : ℕ) (x y z : List ℕ) → length x ≡ n → length y ≡ n → length z ≡ n → (i : ℕ) → i < 3 → length (get_or (x ∷ y ∷ z ∷ []) i []) ≡ n
three_long n x y z a b c zero h = a
three_long n x y z a b c (suc zero) h = b
three_long n x y z a b c (suc (suc zero)) h = c
three_long n x y z a b c (suc (suc (suc i))) h = absurd (omega arith)

pub three_ciphertext : (n : ℕ) (x y z : List ℕ) → length x ≡ n → length y ≡ n → length z ≡ n → IsCiphertext n (x ∷ y ∷ z ∷ [])
three_ciphertext n x y z a b c = record { places = λ i h. three_long n x y z a b c i h; count = inr refl }

rounded_long : (n t : ℕ) (x : List ℤ) → length (rounded_all n t x) ≡ n
unfolding rounded_all
rounded_long n t x = length-reduced (2 ^ 58) n (round_part n (2 ^ 58) t x)

pub multiplied_ciphertext : (p : Preset) (c d : List (List ℕ)) → IsCiphertext p.n (multiplied p c d)
unfolding multiplied
multiplied_ciphertext p c d =
    let n : ℕ = p.n in
    let c0 : List ℤ = centred n (get_or c 0 []) in
    let c1 : List ℤ = centred n (get_or c 1 []) in
    let d0 : List ℤ = centred n (get_or d 0 []) in
    let d1 : List ℤ = centred n (get_or d 1 []) in
    three_ciphertext n (rounded_all n p.t (times n c0 d0)) (rounded_all n p.t (plus n (times n c0 d1) (times n c1 d0))) (rounded_all n p.t (times n c1 d1))
    (rounded_long n p.t (times n c0 d0)) (rounded_long n p.t (plus n (times n c0 d1) (times n c1 d0))) (rounded_long n p.t (times n c1 d1))

pub multiplied_count : (p : Preset) (c d : List (List ℕ)) → length (multiplied p c d) ≡ 3
unfolding multiplied
multiplied_count p c d = refl

-- ---- zeros
pub zeros_ciphertext : (n m : ℕ) → (m ≡ 2) ⊎ (m ≡ 3) → IsCiphertext n (replicate m (replicate n 0))
zeros_ciphertext n m h = record {
  places = λ i l.
      let within : i < m = omega (arith, l, length-replicate {A = List ℕ} m (replicate n 0)) in
      ap length (get_or-replicate m i (replicate n 0) [] within) ∙ length-replicate {A = ℕ} n 0;
  count = rw (length-replicate {A = List ℕ} m (replicate n 0)) h;
}

-- ---- a switch of keys
switched_ciphertext : (p : Preset) (c0 c1 : List ℤ) (b : List ℕ) (k : List (List ℕ × List ℕ)) → IsCiphertext p.n (switched p c0 c1 b k)
unfolding switched
switched_ciphertext p c0 c1 b k =
    let n : ℕ = p.n in
    let x : List ℤ = plus n c0 (sum_lists n 29 (λ i. times n (digits n b i) (wholes (row k i).0))) in
    let y : List ℤ = plus n c1 (sum_lists n 29 (λ i. times n (digits n b i) (wholes (row k i).1))) in
    two_ciphertext n (reduced q n x) (reduced q n y) (length-reduced q n x) (length-reduced q n y)

switched_count : (p : Preset) (c0 c1 : List ℤ) (b : List ℕ) (k : List (List ℕ × List ℕ)) → length (switched p c0 c1 b k) ≡ 2
unfolding switched
switched_count p c0 c1 b k = refl

pub relinearised_ciphertext : (p : Preset) (k : List (List ℕ × List ℕ)) (a : List (List ℕ)) → IsCiphertext p.n (relinearised p k a)
unfolding relinearised
relinearised_ciphertext p k a = switched_ciphertext p (part a 0) (part a 1) (get_or a 2 []) k

pub relinearised_count : (p : Preset) (k : List (List ℕ × List ℕ)) (a : List (List ℕ)) → length (relinearised p k a) ≡ 2
unfolding relinearised
relinearised_count p k a = switched_count p (part a 0) (part a 1) (get_or a 2 []) k

pub turned_ciphertext : (p : Preset) (r : ℕ) (k : List (List ℕ × List ℕ)) (a : List (List ℕ)) → IsCiphertext p.n (turned p r k a)
unfolding turned
turned_ciphertext p r k a = switched_ciphertext p (turn p.n (part a 0) (3 ^ r % (2 * p.n))) [] (reduced q p.n (turn p.n (part a 1) (3 ^ r % (2 * p.n)))) k

pub turned_count : (p : Preset) (r : ℕ) (k : List (List ℕ × List ℕ)) (a : List (List ℕ)) → length (turned p r k a) ≡ 2
unfolding turned
turned_count p r k a = switched_count p (turn p.n (part a 0) (3 ^ r % (2 * p.n))) [] (reduced q p.n (turn p.n (part a 1) (3 ^ r % (2 * p.n)))) k

-- ---- an encryption
pub encrypted_ciphertext : (p : Preset) (p0 p1 : List ℕ) (u e1 e2 : List ℤ) (m : List ℕ) → IsCiphertext p.n (encrypted p p0 p1 u e1 e2 m)
unfolding encrypted
encrypted_ciphertext p p0 p1 u e1 e2 m =
    let n : ℕ = p.n in
    let x : List ℤ = plus n (plus n (times n (wholes p0) u) e1) (scaled_all p m) in
    let y : List ℤ = plus n (times n (wholes p1) u) e2 in
    two_ciphertext n (reduced q n x) (reduced q n y) (length-reduced q n x) (length-reduced q n y)
