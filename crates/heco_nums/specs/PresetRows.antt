-- The preset of a number, with the numbers of its row.
use Rattle.std.specs.Prelude.{ℕ, ◌≤◌, ◌==◌, Bool, true, false, if◌then◌else◌, refl}
use native.Mathlib.Omega.{arith}
use Rattle.heco_nums.specs.Presets.{by_id, degree_of, slots_of, modulus_of, hamming_weight_of, error_of, root_of, inverse_of}
use Rattle.heco_nums.specs.declared.preset.Preset.{Preset}

-- a choice by the number of a preset, whatever the number is, has what each choice has
either : {A : Type 0} (P : A → Type 0) (b : Bool) (x y : A) → P x → P y → P (if b then x else y)
either P true x y p q = p
either P false x y p q = q

pub by_id_has : {A : Type 0} (P : A → Type 0) (a b c d e : A) → P a → P b → P c → P d → P e → (id : ℕ) → P (by_id id a b c d e)
by_id_has P a b c d e p q r s t id =
    either P (id == 1) a _ p (either P (id == 2) b _ q (either P (id == 3) c _ r (either P (id == 4) d e s t)))

-- a number past the table counts as the last
abbrev pub row_number : ℕ → ℕ
row_number id = by_id id 1 2 3 4 5

pub row_low : (id : ℕ) → 1 ≤ row_number id
row_low = by_id_has (λ n. 1 ≤ n) 1 2 3 4 5 (omega arith) (omega arith) (omega arith) (omega arith) (omega arith)

pub row_high : (id : ℕ) → row_number id ≤ 5
row_high = by_id_has (λ n. n ≤ 5) 1 2 3 4 5 (omega arith) (omega arith) (omega arith) (omega arith) (omega arith)

unfoldable pub preset_of : ℕ → Preset
preset_of id = let r = row_number id in record {
  id = r;
  n = degree_of r;
  slots = slots_of r;
  t = modulus_of r;
  k = 58;
  w = 2;
  l = 29;
  h = hamming_weight_of r;
  b = error_of r;
  zeta = root_of r;
  ninv = inverse_of r;
  row = (row_low id, row_high id, refl, refl, refl, refl, refl, refl, refl, refl, refl, refl);
}
