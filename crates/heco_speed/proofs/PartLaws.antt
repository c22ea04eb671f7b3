-- A ciphertext has two or three parts.
use Prim.Native.Nat.{ℕ}
use native.Mathlib.Omega.{arith}
use mathlib.Core.Path.{◌≡◌}
use mathlib.Core.Logic.{inl, inr}
use mathlib.Core.List.{List}
use lib.ListN.{length}
use Rattle.heco_scheme.specs.Ciphertexts.{IsCiphertext}
use Rattle.heco_speed.specs.Parts.{HasParts}

pub has_parts : (m n : ℕ) (c : List (List ℕ)) → IsCiphertext n c → length c ≡ m → HasParts m n c
has_parts m n c h e = record { count = e; places = λ i l. h.places i (omega (arith, l, e)) }

pub of_two : (n : ℕ) (c : List (List ℕ)) → HasParts 2 n c → IsCiphertext n c
of_two n c h = record { places = λ i l. h.places i (omega (arith, l, h.count)); count = inl h.count }

pub of_three : (n : ℕ) (c : List (List ℕ)) → HasParts 3 n c → IsCiphertext n c
of_three n c h = record { places = λ i l. h.places i (omega (arith, l, h.count)); count = inr h.count }
