-- The written noise bound of a vector term.
use Rattle.std.specs.Prelude.{ℕ, List, [], ◌∷◌, Option, max, map}
use Rattle.std.specs.List.{find}
use Rattle.heco_nums.specs.Presets.{degree_of, modulus_of, hamming_weight_of, error_of}
use Rattle.heco_noise.specs.Rows as rows
use Rattle.heco_written.specs.VectorTerm.{VectorTerm, Input, Negated, Added, Multiplied, Scaled, Shifted, Turned}
use Rattle.heco_written.specs.Cost.{subterms, all_subterms}

-- the numbers of a preset that bounds depend on
pub record Scheme : Type 0 where
  pub degree : ℕ
  pub modulus : ℕ
  pub weight : ℕ
  pub error : ℕ

abbrev pub scheme_of : ℕ → Scheme
scheme_of id = record { degree = degree_of id; modulus = modulus_of id; weight = hamming_weight_of id; error = error_of id }

-- what a turn or a relinearisation makes of a bound
abbrev pub switched : Scheme → ℕ → ℕ
switched p e = rows.turned p.modulus p.degree p.error e

-- by the rows of the gates, a product being relinearised at once
abbrev pub bound : Scheme → VectorTerm → ℕ
bound p (Input a) = rows.fresh p.modulus p.weight p.error
bound p (Negated v) = bound p v
bound p (Added v u) = rows.added (bound p v) (bound p u)
bound p (Multiplied v u) = switched p (rows.multiplied p.degree p.modulus p.weight (bound p v) (bound p u))
bound p (Scaled c v) = rows.scaled_by p.modulus c (bound p v)
bound p (Shifted c v) = rows.shifted p.modulus (bound p v)
bound p (Turned r v) = switched p (bound p v)

-- the first subterm, operands first, whose decryption is no longer sure
abbrev pub first_deep : Scheme → VectorTerm → Option VectorTerm
first_deep p v = find (λ u. rows.passes (bound p u)) (subterms v)

-- the greatest bound within written forms, 0 where there is none
abbrev pub greatest_of : List ℕ → ℕ
greatest_of [] = 0
greatest_of (e ∷ es) = max e (greatest_of es)

abbrev pub greatest_bound : Scheme → List VectorTerm → ℕ
greatest_bound p vs = greatest_of (map (bound p) (all_subterms vs))
