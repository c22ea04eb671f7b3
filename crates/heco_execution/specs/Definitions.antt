-- The definitions of a source by their names: a call means the last visible one of its name.
use Rattle.std.specs.Prelude.{◌≡◌, ℕ, suc, List, [], ◌∷◌, Bool, true, false, Option, Some, None}
use Rattle.std.specs.Map.{lookup}
use Rattle.std.specs.Str.{bytes_eq}
use Rattle.heco_syntax.specs.declared.tree.Def.{Def}

-- where the last of the later ones stands, counted from one place earlier; else this place, where it has the name
abbrev pub last_of : Option ℕ → Bool → Option ℕ
last_of (Some k) here = Some (suc k)
last_of None true = Some 0
last_of None false = None

-- where the last definition of a name stands
abbrev pub last_named : List ℕ → List Def → Option ℕ
last_named name [] = None
last_named name (d ∷ ds) = last_of (last_named name ds) (bytes_eq d.name.text name)

-- the entries have, for each name, the place of its last definition
abbrev pub AreLast : {K : Type 0} → (K → List ℕ) → List Def → List (K × ℕ) → Type 0
AreLast text_of ds entries = (name : List ℕ) → lookup (λ k. bytes_eq name (text_of k)) entries ≡ last_named name ds
