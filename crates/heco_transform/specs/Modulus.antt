-- The modulus of the transform, and the root of x^1024 + 1 that its tables are powers of.
use Prim.Native.Nat.{ℕ}

-- 2^53 - 2^34 + 1
abbrev pub modulus : ℕ
modulus = 9007182074871809

-- psi^1024 is -1 modulo the modulus
abbrev pub psi : ℕ
psi = 193738419460
