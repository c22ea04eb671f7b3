-- The lists that polynomials modulo 2^58 are.
use Rattle.std.specs.Prelude.{ℕ, ◌<◌, ◌≤◌, ◌^◌, List, All, length}

-- at most 1024 coefficients below 2^58
abbrev pub IsPoly : List ℕ → Type 0
IsPoly a = All (λ x. x < 2 ^ 58) a × (length a ≤ 1024)
