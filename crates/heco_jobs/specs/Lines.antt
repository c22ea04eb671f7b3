-- The line on the error stream.
use Rattle.std.specs.Prelude.{◌≡◌, ◌⊎◌, ℕ, ◌==◌, List, [], ◌∷◌, ◌++◌, if◌then◌else◌, codes, decimal}
use Rattle.std.specs.List.{flat_map}
use Rattle.std.specs.Str.{bytes_eq}
use Rattle.heco_outside.specs.Calls.{GrowsByPrefix}
use Rattle.heco_outside.specs.Causes.{Rose}
use Rattle.heco_lex.specs.declared.rule.Rule.{Rule}
use Rattle.heco_lex.specs.declared.rule.Rule.TheVariants as rule
use Rattle.heco_texts.specs.declared.error.InputRule.{InputRule}
use Rattle.heco_texts.specs.declared.error.InputRule.TheVariants.{InputText, InputName, InputCount, InputValue}
use Rattle.heco_jobs.specs.declared.outcome.Outcome.{Outcome}
use Rattle.heco_jobs.specs.declared.outcome.Outcome.TheVariants.{Ok, Refused, ReadFault, WriteFault, Memory}
use Rattle.heco_jobs.specs.declared.outcome.Refusal.{Refusal}
use Rattle.heco_jobs.specs.declared.outcome.Refusal.TheVariants.{Usage, SourceLong, At, TooDeep, InputLong, InputAt, InputMissing}
use Rattle.heco_jobs.specs.declared.outcome.Refusal.TheVariants.{SecondLong, SecondAt, SecondMissing, Length, Bounds, Malformed}
use Rattle.heco_jobs.specs.declared.outcome.Refusal.TheVariants.{Noisy, WrongPreset, Count, MissingRelin, MissingKey}
use Rattle.heco_jobs.specs.Words.{name_of}

-- these texts one after another
abbrev pub parts : List (List ℕ) → List ℕ
parts ts = flat_map (λ t. t) ts

-- what is too long, by the rule's name
abbrev pub long_line : List ℕ → List ℕ → List ℕ
long_line name rule = parts (name ∷ codes ": " ∷ rule ∷ codes "\n" ∷ [])

-- the name of a rule of sources
abbrev pub rule_name : Rule → List ℕ
rule_name rule.BadByte = codes "BadByte"
rule_name rule.Syntax = codes "Syntax"
rule_name rule.TooNested = codes "TooNested"
rule_name rule.UnknownParams = codes "UnknownParams"
rule_name rule.UnknownName = codes "UnknownName"
rule_name rule.Redeclared = codes "Redeclared"
rule_name rule.NotAssignable = codes "NotAssignable"
rule_name rule.Kind = codes "Kind"
rule_name rule.SecretIndex = codes "SecretIndex"
rule_name rule.SecretBound = codes "SecretBound"
rule_name rule.SecretToPublic = codes "SecretToPublic"
rule_name rule.Length = codes "Length"
rule_name rule.IndexRange = codes "IndexRange"
rule_name rule.PublicRange = codes "PublicRange"
rule_name rule.TooLarge = codes "TooLarge"

abbrev pub place_line : List ℕ → ℕ → ℕ → List ℕ → List ℕ
place_line name line col rule = parts (name ∷ codes ":" ∷ decimal line ∷ codes ":" ∷ decimal col ∷ codes ": " ∷ rule ∷ codes "\n" ∷ [])

-- the file word that the command reads as the text of inputs
abbrev pub input_name : List (List ℕ) → List ℕ
input_name words = if bytes_eq (name_of words 0) (codes "encrypt") then name_of words 4 else name_of words 2

abbrev pub input_rule : InputRule → List ℕ
input_rule InputText = codes "InputText"
input_rule InputName = codes "InputName"
input_rule InputCount = codes "InputCount"
input_rule InputValue = codes "InputValue"

abbrev pub input_line : List ℕ → List ℕ → ℕ → List ℕ
input_line name rule line = parts (name ∷ codes ":" ∷ decimal line ∷ codes ": " ∷ rule ∷ codes "\n" ∷ [])

abbrev pub missing_line : List ℕ → ℕ → List ℕ
missing_line name which = parts (name ∷ codes ": InputMissing " ∷ decimal which ∷ codes "\n" ∷ [])

-- an offset in a file, and what is wrong there
abbrev pub offset_line : List ℕ → List ℕ → ℕ → List ℕ
offset_line name what at = parts (name ∷ codes ": " ∷ what ∷ codes " at " ∷ decimal at ∷ codes "\n" ∷ [])

abbrev pub noisy_line : List ℕ → ℕ → ℕ → List ℕ
noisy_line name gate bound = parts (name ∷ codes ": Noisy gate " ∷ decimal gate ∷ codes " bound " ∷ decimal bound ∷ codes "\n" ∷ [])

-- the output element that is too deep, and the bound that passes
abbrev pub deep_line : List ℕ → ℕ → ℕ → ℕ → List ℕ
deep_line name out index bound =
    parts (name ∷ codes ": TooDeep out " ∷ decimal out ∷ codes " index " ∷ decimal index ∷ codes " bound " ∷ decimal bound ∷ codes "\n" ∷ [])

-- the file word that the command reads as the evaluation key
abbrev pub evaluation_name : List (List ℕ) → List ℕ
evaluation_name words = if bytes_eq (name_of words 0) (codes "measure") then name_of words 3 else name_of words 2

-- the key that is missing in the file of the evaluation key
abbrev pub relin_line : List ℕ → List ℕ
relin_line name = parts (name ∷ codes ": MissingRelin\n" ∷ [])

abbrev pub key_line : List ℕ → ℕ → List ℕ
key_line name amount = parts (name ∷ codes ": MissingKey " ∷ decimal amount ∷ codes "\n" ∷ [])

-- what is another one, the wanted number and the found one
abbrev pub other_line : List ℕ → List ℕ → ℕ → ℕ → List ℕ
other_line name what want found = parts (name ∷ codes ": " ∷ what ∷ codes " want " ∷ decimal want ∷ codes " found " ∷ decimal found ∷ codes "\n" ∷ [])

abbrev pub read_line : List ℕ → List ℕ
read_line name = parts (name ∷ codes ": read fault\n" ∷ [])

abbrev pub write_line : List (List ℕ) → ℕ → List ℕ
write_line words which = if which == 0 then codes "standard output: write fault\n" else parts (name_of words which ∷ codes ": write fault\n" ∷ [])

-- the line for a refusal
abbrev pub refusal_line : List (List ℕ) → Refusal → List ℕ
refusal_line words Usage = codes "usage: heco COMMAND WORDS\n"
refusal_line words SourceLong = long_line (name_of words 1) (codes "SourceLong")
refusal_line words (At rule at) = place_line (name_of words 1) at.line at.col (rule_name rule)
refusal_line words (TooDeep out index bound) = deep_line (name_of words 1) out index bound
refusal_line words InputLong = long_line (input_name words) (codes "InputLong")
refusal_line words (InputAt rule line) = input_line (input_name words) (input_rule rule) line
refusal_line words (InputMissing which) = missing_line (input_name words) which
refusal_line words SecondLong = long_line (name_of words 3) (codes "InputLong")
refusal_line words (SecondAt rule line) = input_line (name_of words 3) (input_rule rule) line
refusal_line words (SecondMissing which) = missing_line (name_of words 3) which
refusal_line words (Length which at) = offset_line (name_of words which) (codes "Length") at
refusal_line words (Bounds which at) = offset_line (name_of words which) (codes "Bounds") at
refusal_line words (Malformed which at) = offset_line (name_of words which) (codes "Malformed") at
refusal_line words (Noisy which gate bound) = noisy_line (name_of words which) gate bound
refusal_line words (WrongPreset which kept found) = other_line (name_of words which) (codes "WrongPreset") kept found
refusal_line words (Count which want found) = other_line (name_of words which) (codes "Count") want found
refusal_line words MissingRelin = relin_line (evaluation_name words)
refusal_line words (MissingKey amount) = key_line (evaluation_name words) amount

-- the line for an outcome
abbrev pub line_of : List (List ℕ) → Outcome → List ℕ
line_of words Ok = []
line_of words (Refused refusal) = refusal_line words refusal
line_of words (ReadFault which) = read_line (name_of words which)
line_of words (WriteFault which) = write_line words which
line_of words Memory = codes "out of memory\n"

-- the line was added, or where a count rose a prefix of it
pub record Reports (old new line : List ℕ) (faults faults' short short' : ℕ) : Type 0 where
  pub prefix : GrowsByPrefix old new line
  pub whole : (new ≡ old ++ line) ⊎ (Rose faults faults' ⊎ Rose short short')
