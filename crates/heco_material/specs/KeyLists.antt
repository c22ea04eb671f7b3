-- Key and encryption material as lists of numbers, and its bounds.
use Rattle.std.specs.Prelude.{◌≡◌, ℕ, ◌+◌, List, length, All, ℤ, if◌then◌else◌}
use Rattle.heco_nums.specs.MaterialBounds.{IsSparse, AreErrors, AreWords}
use Rattle.heco_material.specs.declared.words.SwitchRow.{SwitchRow}
use Rattle.heco_material.specs.declared.words.SwitchWords.{SwitchWords}
use Rattle.heco_material.specs.declared.words.EncRow.{EncRow}
use Rattle.heco_material.specs.declared.words.KeyWords.{KeyWords}
use Rattle.heco_nums.specs.declared.needs.KeyNeeds.{KeyNeeds}

-- the secret, the word and the error of the public key, and those of each switch key
pub record KeyLists : Type 0 where
  pub s : List ℤ
  pub a : List ℕ
  pub e : List ℤ
  pub switch : List SwitchWords

abbrev pub key_lists : List ℤ → List ℕ → List ℤ → List SwitchWords → KeyLists
key_lists s a e switch = record { s = s; a = a; e = e; switch = switch }

-- the lists of key words
abbrev pub lists_of : KeyWords → KeyLists
lists_of k = key_lists k.s k.a k.e k.switch

-- how many switch keys are needed: one to relinearise, and one for each turn
abbrev pub key_count : KeyNeeds → ℕ
key_count needs = (if needs.relin then 1 else 0) + length needs.turns

pub record IsSwitchRow (n b : ℕ) (r : SwitchRow) : Type 0 where
  pub words : AreWords n r.a
  pub errors : AreErrors n b r.e

pub record IsSwitch (n b : ℕ) (w : SwitchWords) : Type 0 where
  pub count : length w.rows ≡ 29
  pub rows : All (IsSwitchRow n b) w.rows

-- key material within bounds, for so many switch keys
pub record IsKeyMaterial (n h b number : ℕ) (k : KeyLists) : Type 0 where
  pub secret : IsSparse n h k.s
  pub words : AreWords n k.a
  pub errors : AreErrors n b k.e
  pub count : length k.switch ≡ number
  pub switch : All (IsSwitch n b) k.switch

pub record IsEncRow (n h b : ℕ) (r : EncRow) : Type 0 where
  pub secret : IsSparse n h r.u
  pub first : AreErrors n b r.e1
  pub second : AreErrors n b r.e2

-- encryption material within bounds, for so many inputs
pub record IsEncMaterial (n h b number : ℕ) (material : List EncRow) : Type 0 where
  pub count : length material ≡ number
  pub rows : All (IsEncRow n h b) material
