-- What a file of material is read as. Its length is judged before everything else.
use Rattle.std.specs.Prelude.{◌≡◌, ◌≢◌, ℕ, ◌==◌, min, List, [], length, Result, Ok, Err, if◌then◌else◌}
use Rattle.heco_fields.specs.Formats.{Format, BreaksAt}
use Rattle.heco_fields.specs.Readings.{reading, judged}
use Rattle.heco_material.specs.declared.error.MatErr.{MatErr}
use Rattle.heco_material.specs.declared.error.MatErr.TheVariants.{Length, Bounds, Memory}

abbrev pub bounded : {A : Type 0} → Result A ℕ → Result A MatErr
bounded (Ok x) = Ok x
bounded (Err at) = Err (Bounds at)

-- by the format, where the length is the stated one
unfoldable pub read_as : {A : Type 0} → Format A → ℕ → List ℕ → Result A MatErr
read_as format stated bytes = if length bytes == stated then bounded (judged bytes [] (reading format bytes)) else Err (Length (min (length bytes) stated))

-- what was returned, seen by view, is this answer, unless memory ran out
abbrev pub Answers : {X Y : Type 0} → (X → Y) → Result X MatErr → Result Y MatErr → Type 0
Answers view (Ok x) answer = answer ≡ Ok (view x)
Answers view (Err Memory) answer = Unit {0}
Answers view (Err (Length at)) answer = answer ≡ Err (Length at)
Answers view (Err (Bounds at)) answer = answer ≡ Err (Bounds at)

-- another length, or the stated one and the first word that is out of bounds
abbrev pub HasCause : {A : Type 0} → Format A → ℕ → List ℕ → MatErr → Type 0
HasCause format stated bytes (Length at) = (length bytes ≢ stated) × (at ≡ min (length bytes) stated)
HasCause format stated bytes (Bounds at) = (length bytes ≡ stated) × BreaksAt format bytes [] at
HasCause format stated bytes Memory = Unit {0}
