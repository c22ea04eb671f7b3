-- The files of the secret key and of the evaluation key, behind their headers.
use Rattle.std.specs.Prelude.{◌≡◌, ℕ, ◌+◌, ◌-◌, ◌==◌, Bool, List, ◌++◌, length, All, map, if◌then◌else◌, ℤ, codes}
use Rattle.std.specs.List.{flat_map}
use Rattle.std.specs.Int.{w8, w16, to_be_bytes}
use Rattle.heco_nums.specs.Needs.{IsRising}
use Rattle.heco_fields.specs.Formats.{Format, Value, within, many, header_text, ◌>>=◌}
use Rattle.heco_nums.specs.Runs.{stays}
use Rattle.heco_nums.specs.MaterialBounds.{AreWords}
use Rattle.heco_scheme.specs.Keys.{key_part}
use Rattle.heco_lists.specs.ListFormat.{words, bytes_text, words_text}
use Rattle.heco_keys.specs.Amounts.{AreAmounts}
use Rattle.heco_keys.specs.Made.{all_rows}
use Rattle.heco_keys.specs.declared.eval.Eval.{Eval}
use Rattle.heco_material.specs.KeyLists.{KeyLists}

-- ---- secret key: its places

unfoldable pub secret_text : ℕ → List ℤ → List ℕ
secret_text id s = header_text (codes "HSEC") id ++ bytes_text s

-- ---- evaluation key

-- whether it relinearises, its turns, the public key, and the 29 pairs of each switch key
pub record EvalLists : Type 0 where
  pub relin : Bool
  pub turns : List ℕ
  pub p0 : List ℕ
  pub p1 : List ℕ
  pub switch : List (List (List ℕ × List ℕ))

abbrev pub eval_lists : Bool → List ℕ → List ℕ → List ℕ → List (List (List ℕ × List ℕ)) → EvalLists
eval_lists relin turns p0 p1 switch = record { relin = relin; turns = turns; p0 = p0; p1 = p1; switch = switch }

abbrev pub lists_of : Eval → EvalLists
lists_of e = eval_lists e.needs.relin e.needs.turns e.p0 e.p1 (map (λ k. k.rows) e.switch)

-- what is made of key material: the public key (-(a s + e), a), and the switch keys of relinearisation, or not, and of these turns
unfoldable pub made_key : ℕ → Bool → List ℕ → KeyLists → EvalLists
made_key n relin turns k = eval_lists relin turns (key_part n k.s k.a k.e) k.a (all_rows n k.s relin turns k.switch)

abbrev pub bit : Bool → ℕ
bit b = if b then 1 else 0

-- a turn comes after the last
abbrev pub turn : ℕ → ℕ → Format ℕ
turn slots last = within w16 (last + 1) (slots - 1)

abbrev pub latest : ℕ → ℕ → ℕ
latest last r = r

-- their number, and the turns
unfoldable pub turns : ℕ → Format (List ℕ)
turns slots = do
  count ← within w16 0 (slots - 1)
  many (turn slots) latest count 0

unfoldable pub pair : ℕ → ℕ → Format (List ℕ × List ℕ)
pair n s = do
  first ← words n
  second ← words n
  Value (first, second)

unfoldable pub switch_key : ℕ → ℕ → Format (List (List ℕ × List ℕ))
switch_key n s = many (pair n) stays 29 0

unfoldable pub evaluation : ℕ → ℕ → Format EvalLists
evaluation n slots = do
  relin ← within w8 0 1
  amounts ← turns slots
  p0 ← words n
  p1 ← words n
  switch ← many (switch_key n) stays (relin + length amounts) 0
  Value (eval_lists (relin == 1) amounts p0 p1 switch)

abbrev pub pair_text : List ℕ × List ℕ → List ℕ
pair_text x = words_text x.0 ++ words_text x.1

unfoldable pub switch_text : List (List ℕ × List ℕ) → List ℕ
switch_text rows = flat_map pair_text rows

abbrev pub turns_text : List ℕ → List ℕ
turns_text rs = to_be_bytes w16 (length rs) ++ flat_map (to_be_bytes w16) rs

abbrev pub lists_text : EvalLists → List ℕ
lists_text e = to_be_bytes w8 (bit e.relin) ++ (turns_text e.turns ++ (words_text e.p0 ++ (words_text e.p1 ++ flat_map switch_text e.switch)))

unfoldable pub eval_text : ℕ → EvalLists → List ℕ
eval_text id e = header_text (codes "HEVA") id ++ lists_text e

abbrev pub IsPair : ℕ → List ℕ × List ℕ → Type 0
IsPair n x = AreWords n x.0 × AreWords n x.1

abbrev pub IsSwitchList : ℕ → List (List ℕ × List ℕ) → Type 0
IsSwitchList n rows = (length rows ≡ 29) × All (IsPair n) rows

-- turns by 1 to slots - 1, which rise
pub record AreTurns (slots : ℕ) (rs : List ℕ) : Type 0 where
  pub rising : IsRising rs
  pub amounts : AreAmounts slots rs

-- an evaluation key of a preset of this degree and so many slots
pub record AreEvalLists (n slots : ℕ) (e : EvalLists) : Type 0 where
  pub turns : AreTurns slots e.turns
  pub p0 : AreWords n e.p0
  pub p1 : AreWords n e.p1
  pub count : length e.switch ≡ bit e.relin + length e.turns
  pub switch : All (IsSwitchList n) e.switch
