-- The preset that a word names is the one of that name.
use Rattle.std.proofs.Common.{◌≡◌, ◌≢◌, refl, sym, ap, subst, ℕ, zero, suc, ◌≤◌, Bool, true, false, List, not, ◌==◌, if◌then◌else◌, arith}
use Rattle.std.specs.Str.{bytes_eq}
use Rattle.std.proofs.Math.Dec.{eqb-suc-zero}
use Rattle.std.proofs.lemmas.Slice.Eq.{bytes_eq-Decides}
use Rattle.heco_nums.specs.Presets.{preset_name}
use Rattle.heco_nums.proofs.PresetCases.{by_preset, slots_pos, slots_few}
use Rattle.heco_types.specs.Presets.{id_named, names_preset, slots_named}
use Rattle.heco_types.specs.Typing.{NamesPreset}

id_of_name : (id : ℕ) → 1 ≤ id → id ≤ 5 → id_named (preset_name id) ≡ id
id_of_name = by_preset (λ id. id_named (preset_name id) ≡ id) refl refl refl refl refl

pub id_named-is : (id : ℕ) (text : List ℕ) → 1 ≤ id → id ≤ 5 → preset_name id ≡ text → id_named text ≡ id
id_named-is id text low high e = subst (λ t. id_named t ≡ id) e (id_of_name id low high)

abbrev choice : Bool → Bool → Bool → Bool → Bool → ℕ
choice a b c d e = if a then 1 else if b then 2 else if c then 3 else if d then 4 else if e then 5 else 0

chosen : (P : ℕ → Type 0) (a b c d e : Bool) → (a ≡ true → P 1) → (b ≡ true → P 2) → (c ≡ true → P 3) → (d ≡ true → P 4) → (e ≡ true → P 5) → (choice a b c d e ≡ 0 → ⊥) → P (choice a b c d e)
chosen P true b c d e f g h i j n = f refl
chosen P false true c d e f g h i j n = g refl
chosen P false false true d e f g h i j n = h refl
chosen P false false false true e f g h i j n = i refl
chosen P false false false false true f g h i j n = j refl
chosen P false false false false false f g h i j n = absurd (n refl)

record Is (text : List ℕ) (id : ℕ) : Type 0 where
  low : 1 ≤ id
  high : id ≤ 5
  is : preset_name id ≡ text

is_named : (text : List ℕ) (id : ℕ) → 1 ≤ id → id ≤ 5 → bytes_eq text (preset_name id) ≡ true → Is text id
is_named text id low high t = record { low = low; high = high; is = sym ((bytes_eq-Decides text (preset_name id)).0 t) }

named_is : (text : List ℕ) → (id_named text ≡ 0 → ⊥) → Is text (id_named text)
named_is text n =
    chosen (Is text) (bytes_eq text (preset_name 1)) (bytes_eq text (preset_name 2)) (bytes_eq text (preset_name 3)) (bytes_eq text (preset_name 4)) (bytes_eq text (preset_name 5))
    (is_named text 1 (omega arith) (omega arith)) (is_named text 2 (omega arith) (omega arith)) (is_named text 3 (omega arith) (omega arith)) (is_named text 4 (omega arith) (omega arith))
    (is_named text 5 (omega arith) (omega arith)) n

not_zero : (n : ℕ) → not (n == 0) ≡ true → n ≡ 0 → ⊥
not_zero zero t e = cc
not_zero (suc n) t e = cc

pub names-preset : (text : List ℕ) → names_preset text ≡ true → NamesPreset text
names-preset text t =
    let h = named_is text (not_zero (id_named text) t) in record { id = id_named text; low = h.low; high = h.high; is = h.is }

zero_names : (n : ℕ) → (not (n == 0) ≡ true → ⊥) → not (n == 0) ≡ false
zero_names zero h = refl
zero_names (suc n) h = absurd (h (ap not (eqb-suc-zero n)))

pub names-none : (text : List ℕ) → ((id : ℕ) → 1 ≤ id → id ≤ 5 → preset_name id ≢ text) → names_preset text ≡ false
names-none text none = zero_names (id_named text) (λ t. let h = named_is text (not_zero (id_named text) t) in none (id_named text) h.low h.high h.is)

pub names-one : (id : ℕ) (text : List ℕ) → 1 ≤ id → id ≤ 5 → preset_name id ≡ text → names_preset text ≡ true
names-one zero text low high e = absurd (omega arith)
names-one (suc n) text low high e = subst (λ i. not (i == 0) ≡ true) (sym (id_named-is (suc n) text low high e)) (ap not (eqb-suc-zero n))

pub slots-fit : (text : List ℕ) → names_preset text ≡ true → (1 ≤ slots_named text) × (slots_named text ≤ 512)
slots-fit text t = (slots_pos (id_named text), slots_few (id_named text))
