-- The fields of plain vectors, which a file of version 3 has behind its inputs.
use Rattle.std.specs.Prelude.{ℕ, ◌-◌, ◌==◌, List, [], ◌∷◌, ◌++◌, length, if◌then◌else◌}
use Rattle.std.specs.List.{flat_map}
use Rattle.std.specs.Int.{w32, to_be_bytes}
use Rattle.heco_nums.specs.Presets.{modulus_of, slots_of}
use Rattle.heco_fields.specs.Formats.{Format, Value, within, many, ◌>>=◌}
use Rattle.heco_nums.specs.Runs.{stays}

abbrev pub entry : ℕ → ℕ → Format ℕ
entry t s = within w32 0 (t - 1)

-- so many numbers below t
unfoldable pub vector : ℕ → ℕ → ℕ → Format (List ℕ)
vector t slots s = many (entry t) stays slots 0

unfoldable pub some_vectors : ℕ → Format (List (List ℕ))
some_vectors id = do
  count ← within w32 1 256
  many (vector (modulus_of id) (slots_of id)) stays count 0

unfoldable pub vectors : ℕ → ℕ → Format (List (List ℕ))
vectors version id = if version == 3 then some_vectors id else Value []

abbrev pub vector_text : List ℕ → List ℕ
vector_text v = flat_map (to_be_bytes w32) v

-- nothing where there is none
abbrev pub vectors_text : List (List ℕ) → List ℕ
vectors_text [] = []
vectors_text (v ∷ vs) = to_be_bytes w32 (length (v ∷ vs)) ++ flat_map vector_text (v ∷ vs)
