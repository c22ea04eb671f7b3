-- The gates, as formulas over the parts of ciphertexts. After Fan and Vercauteren, ePrint 2012/144, section 4: the
-- product with rounding, and relinearisation by digits. A missing third part counts as 0.
use Rattle.std.specs.Prelude.{ℕ, ◌*◌, ◌/◌, ◌%◌, ◌^◌, max, List, [], ◌∷◌, length}
use lib.IntN.{ℤ, pos}
use mathlib.Core.Bool.{cond}
use lib.Dec.{eqb}
use lib.ListN.{get_or}
use Rattle.heco_nums.specs.Arithmetic.{centre_t, scaled}
use Rattle.heco_nums.specs.declared.preset.Preset.{Preset}
use Rattle.heco_ring.specs.Ring.{table, wholes, plus, negate, scale, times, turn, constant, sum_lists}
use Rattle.heco_ring.specs.Remainders.{reduced}
use Rattle.heco_slots.specs.Weighing.{weigher}
use Rattle.heco_scheme.specs.Ciphertexts.{part, parts}
use Rattle.heco_scheme.specs.Keys.{row}
use Rattle.heco_scheme.specs.Noise.{q}
use Rattle.heco_scheme.specs.Rounding.{centred, rounded_all}

unfoldable pub added : Preset → List (List ℕ) → List (List ℕ) → List (List ℕ)
added p a b = parts (max (length a) (length b)) (λ i. reduced q p.n (plus p.n (part a i) (part b i)))

unfoldable pub subtracted : Preset → List (List ℕ) → List (List ℕ) → List (List ℕ)
subtracted p a b = parts (max (length a) (length b)) (λ i. reduced q p.n (plus p.n (part a i) (negate p.n (part b i))))

unfoldable pub negated : Preset → List (List ℕ) → List (List ℕ)
negated p a = parts (length a) (λ i. reduced q p.n (negate p.n (part a i)))

-- the multiple by c, which is centred first
unfoldable pub scaled_by : Preset → ℕ → List (List ℕ) → List (List ℕ)
scaled_by p c a = parts (length a) (λ i. reduced q p.n (scale p.n (centre_t p.t c) (part a i)))

-- each part times w
unfoldable pub times_each : Preset → List ℤ → List (List ℕ) → List (List ℕ)
times_each p w a = parts (length a) (λ i. reduced q p.n (times p.n w (part a i)))

-- each part times the polynomial that the plain vector v weighs by
unfoldable pub weighed : Preset → List ℕ → List (List ℕ) → List (List ℕ)
weighed p v a = times_each p (weigher p v) a

-- that polynomial modulo q
unfoldable pub weigher_words : Preset → List ℕ → List ℕ
weigher_words p v = reduced q p.n (weigher p v)

-- c times q / t is added to coefficient 0 of part 0
unfoldable pub shifted : Preset → ℕ → List (List ℕ) → List (List ℕ)
shifted p c a = parts (length a) (λ i. reduced q p.n (plus p.n (part a i) (cond (eqb i 0) (constant p.n (pos (scaled p.t c))) [])))

-- the product of two ciphertexts of two parts, centred first; times t / q and rounded
unfoldable pub multiplied : Preset → List (List ℕ) → List (List ℕ) → List (List ℕ)
multiplied p c d =
    let c0 = centred p.n (get_or c 0 []) in
    let c1 = centred p.n (get_or c 1 []) in
    let d0 = centred p.n (get_or d 0 []) in
    let d1 = centred p.n (get_or d 1 []) in
    rounded_all p.n p.t (times p.n c0 d0)
    ∷ rounded_all p.n p.t (plus p.n (times p.n c0 d1) (times p.n c1 d0))
    ∷ rounded_all p.n p.t (times p.n c1 d1) ∷ []

-- digit i in base 4 of each coefficient
unfoldable pub digits : ℕ → List ℕ → ℕ → List ℤ
digits n b i = table n (λ k. pos (get_or b k 0 / 4 ^ i % 4))

-- c0 and c1, and what the switch of b by the key adds to them: its digits times the rows
unfoldable pub switched : Preset → List ℤ → List ℤ → List ℕ → List (List ℕ × List ℕ) → List (List ℕ)
switched p c0 c1 b k =
    reduced q p.n (plus p.n c0 (sum_lists p.n 29 (λ i. times p.n (digits p.n b i) (wholes (row k i).0))))
    ∷ reduced q p.n (plus p.n c1 (sum_lists p.n 29 (λ i. times p.n (digits p.n b i) (wholes (row k i).1)))) ∷ []

-- the third part is switched, from s s to s
unfoldable pub relinearised : Preset → List (List ℕ × List ℕ) → List (List ℕ) → List (List ℕ)
relinearised p k a = switched p (part a 0) (part a 1) (get_or a 2 []) k

-- both parts are turned, and the second is switched, from the turned s to s
unfoldable pub turned : Preset → ℕ → List (List ℕ × List ℕ) → List (List ℕ) → List (List ℕ)
turned p r k a = let g = 3 ^ r % (2 * p.n) in switched p (turn p.n (part a 0) g) [] (reduced q p.n (turn p.n (part a 1) g)) k
