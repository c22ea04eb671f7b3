-- Numbers in a text: their digits, their values up to 32 bits, and how a text splits at the first.
use Rattle.std.proofs.Common.{◌≡◌, ◌∙◌, ◌⊎◌, inl, inr, Bool, get_or, refl, sym, ap, subst, ℕ, ◌+◌, ◌*◌, ◌-◌, ◌^◌, ◌<◌, ◌≤◌, true, false, List, [], ◌∷◌, ◌++◌, length, take, drop, Option, Some, None, arith, append_assoc}
use Rattle.std.specs.Prelude.{min, map, option_map}
use Rattle.std.specs.Char.{digit_value}
use Rattle.std.specs.Str.Parse.{digits_value_after}
use Rattle.std.proofs.lemmas.Bool.Decides.{nat_tests}
use Rattle.std.proofs.lemmas.List.{take_all}
use Rattle.heco_texts.specs.Forms.{is_blank, is_digit}
use Rattle.heco_texts.specs.inside.Fronts.{digit_front, digit_back}
use Rattle.heco_texts.specs.Kinds.{without_blanks}
use Rattle.heco_texts.specs.Numbers.{longer, with_byte, numbers_of, capped_value, capped_values}

-- the number of the digits behind v, up to 32 bits
abbrev pub capped_behind : ℕ → List ℕ → ℕ
capped_behind v digits = min (digits_value_after 10 v digits) (2 ^ 32 - 1)

pub capped_same : (digits : List ℕ) (v w : ℕ) → min v (2 ^ 32 - 1) ≡ min w (2 ^ 32 - 1) → capped_behind v digits ≡ capped_behind w digits
capped_same [] v w h = h
capped_same (c ∷ digits) v w h = capped_same digits (v * 10 + digit_value c) (w * 10 + digit_value c) (omega arith)

pub digit_value_is : (c : ℕ) → is_digit c ≡ true → digit_value c ≡ c - 48
digit_value_is c h = grind (arith, nat_tests)

-- one digit more, as the code adds it
pub next_digit : (v c : ℕ) (digits : List ℕ) → is_digit c ≡ true → capped_behind (min (min (v * 10) (2 ^ 32 - 1) + (c - 48)) (2 ^ 32 - 1)) digits ≡ capped_behind v (c ∷ digits)
next_digit v c digits h =
    let e : digit_value c ≡ c - 48 = digit_value_is c h in
    capped_same digits (min (min (v * 10) (2 ^ 32 - 1) + (c - 48)) (2 ^ 32 - 1)) (v * 10 + digit_value c) (omega (arith, e))

pub front_more : (c : ℕ) (cs : List ℕ) → is_digit c ≡ true → digit_front (c ∷ cs) ≡ c ∷ digit_front cs
front_more c cs h = rw h refl

pub back_more : (c : ℕ) (cs : List ℕ) → is_digit c ≡ true → digit_back (c ∷ cs) ≡ digit_back cs
back_more c cs h = rw h refl

pub front_stop : (c : ℕ) (cs : List ℕ) → is_digit c ≡ false → digit_front (c ∷ cs) ≡ []
front_stop c cs h = rw h refl

pub back_stop : (c : ℕ) (cs : List ℕ) → is_digit c ≡ false → digit_back (c ∷ cs) ≡ c ∷ cs
back_stop c cs h = rw h refl

-- digits before the rest have this value, up to 32 bits
pub record Counted (v : ℕ) (rest text : List ℕ) : Type 0 where
  pub small : v < 2 ^ 32
  pub value : capped_behind v (digit_front rest) ≡ capped_behind 0 (digit_front text)
  pub back : digit_back rest ≡ digit_back text

pub begun : (text : List ℕ) → Counted 0 text text
begun text = record { small = omega arith; value = refl; back = refl }

pub one_digit : (v next : ℕ) (rest text : List ℕ) → 0 < length rest → is_digit (get_or rest 0 0) ≡ true → next ≡ min (min (v * 10) (2 ^ 32 - 1) + (get_or rest 0 0 - 48)) (2 ^ 32 - 1)
    → Counted v rest text → Counted next (take (length rest - 1) (drop 1 rest)) text
one_digit v next [] text some h is counted = absurd (omega arith)
one_digit v next (c ∷ cs) text some h is counted =
    let all : take (length (c ∷ cs) - 1) (drop 1 (c ∷ cs)) ≡ cs = take_all (length (c ∷ cs) - 1) cs (omega arith) in
    let value : capped_behind next (digit_front cs) ≡ capped_behind 0 (digit_front text) =
    ap (λ x. capped_behind x (digit_front cs)) is ∙ next_digit v c (digit_front cs) h ∙ ap (capped_behind v) (sym (front_more c cs h)) ∙ counted.value in
    let back : digit_back cs ≡ digit_back text = sym (back_more c cs h) ∙ counted.back in
    record {
      small = omega (arith, is);
      value = rw all value;
      back = rw all back;
    }

pub stopped : (v : ℕ) (rest text : List ℕ) → 0 < length rest → is_digit (get_or rest 0 0) ≡ false → Counted v rest text → v ≡ capped_value (digit_front text)
stopped v [] text some h counted = absurd (omega arith)
stopped v (c ∷ cs) text some h counted =
    let e : min v (2 ^ 32 - 1) ≡ capped_behind 0 (digit_front text) = sym (ap (capped_behind v) (front_stop c cs h)) ∙ counted.value in
    let small : v < 2 ^ 32 = counted.small in
    let same : min v (2 ^ 32 - 1) ≡ v = omega arith in
    sym same ∙ e

pub ended : (v : ℕ) (rest text : List ℕ) → length rest < 1 → Counted v rest text → v ≡ capped_value (digit_front text)
ended v [] text none counted =
    let e : min v (2 ^ 32 - 1) ≡ capped_behind 0 (digit_front text) = counted.value in
    let small : v < 2 ^ 32 = counted.small in
    let same : min v (2 ^ 32 - 1) ≡ v = omega arith in
    sym same ∙ e
ended v (c ∷ cs) text none counted = absurd (omega arith)

pub back_at : (v : ℕ) (rest text : List ℕ) → 0 < length rest → is_digit (get_or rest 0 0) ≡ false → Counted v rest text → rest ≡ digit_back text
back_at v [] text some h counted = absurd (omega arith)
back_at v (c ∷ cs) text some h counted = sym (back_stop c cs h) ∙ counted.back

pub back_end : (v : ℕ) (rest text : List ℕ) → length rest < 1 → Counted v rest text → rest ≡ digit_back text
back_end v [] text none counted = counted.back
back_end v (c ∷ cs) text none counted = absurd (omega arith)

-- ---- values behind others

abbrev pub ahead : List ℕ → Option (List ℕ) → Option (List ℕ)
ahead values found = option_map (λ more. values ++ more) found

pub ahead_none : (found : Option (List ℕ)) → ahead [] found ≡ found
ahead_none None = refl
ahead_none (Some values) = refl

pub ahead_more : (values : List ℕ) (v : ℕ) (found : Option (List ℕ)) → ahead (values ++ v ∷ []) found ≡ ahead values (option_map (λ more. v ∷ more) found)
ahead_more values v None = refl
ahead_more values v (Some more) = ap Some (append_assoc values (v ∷ []) more)

-- ---- the first number

pub either : (b : Bool) → (b ≡ true) ⊎ (b ≡ false)
either true = inl refl
either false = inr refl

bare_more : (c : ℕ) (cs : List ℕ) → is_blank c ≡ true → without_blanks (c ∷ cs) ≡ without_blanks cs
bare_more c cs h = rw h refl

bare_stop : (c : ℕ) (cs : List ℕ) → is_blank c ≡ false → without_blanks (c ∷ cs) ≡ c ∷ cs
bare_stop c cs h = rw h refl

pub skip_blank : (c : ℕ) (cs : List ℕ) → is_blank c ≡ true → numbers_of (c ∷ cs) ≡ numbers_of cs
skip_blank c cs h = rw h refl

pub bare_numbers : (text : List ℕ) → numbers_of (without_blanks text) ≡ numbers_of text
bare_numbers [] = refl
bare_numbers (c ∷ cs) = elim (either (is_blank c)) [ inl h ↦ ap numbers_of (bare_more c cs h) ∙ bare_numbers cs ∙ sym (skip_blank c cs h) | inr h ↦ ap numbers_of (bare_stop c cs h) ]

pub digit_no_blank : (c : ℕ) → is_digit c ≡ true → is_blank c ≡ false
digit_no_blank c h = grind (arith, nat_tests)

longer_is : (c : ℕ) (digits : List ℕ) (more : Option (List (List ℕ))) → option_map (longer c) (option_map (λ ns. digits ∷ ns) more) ≡ option_map (λ ns. (c ∷ digits) ∷ ns) more
longer_is c digits None = refl
longer_is c digits (Some ns) = refl

joined : (text front other back rest : List ℕ) → front ≡ other → back ≡ rest → numbers_of text ≡ option_map (λ ns. front ∷ ns) (numbers_of back) → numbers_of text ≡ option_map (λ ns. other ∷ ns) (numbers_of rest)
joined text front other back rest p q e =
    subst (λ x. numbers_of text ≡ option_map (λ ns. x ∷ ns) (numbers_of rest)) p (subst (λ y. numbers_of text ≡ option_map (λ ns. front ∷ ns) (numbers_of y)) q e)

more_digits : (c d : ℕ) (cs : List ℕ) (more : Option (List (List ℕ))) → is_digit c ≡ true → is_digit d ≡ true → with_byte c (d ∷ cs) more ≡ option_map (longer c) more
more_digits c d cs more h g = let b : is_blank c ≡ false = digit_no_blank c h in rw (b, h, g) refl

last_digit : (c d : ℕ) (cs : List ℕ) (more : Option (List (List ℕ))) → is_digit c ≡ true → is_digit d ≡ false → with_byte c (d ∷ cs) more ≡ option_map (λ ns. (c ∷ []) ∷ ns) more
last_digit c d cs more h g = let b : is_blank c ≡ false = digit_no_blank c h in rw (b, h, g) refl

-- digits at the front are the first number
pub first_digits : (c : ℕ) (cs : List ℕ) → is_digit c ≡ true → numbers_of (c ∷ cs) ≡ option_map (λ ns. digit_front (c ∷ cs) ∷ ns) (numbers_of (digit_back (c ∷ cs)))
first_digits c [] h = let b : is_blank c ≡ false = digit_no_blank c h in rw (b, h) refl
first_digits c (d ∷ cs) h = elim (either (is_digit d)) [
  | inl g ↦ joined (c ∷ (d ∷ cs)) (c ∷ digit_front (d ∷ cs)) (digit_front (c ∷ (d ∷ cs))) (digit_back (d ∷ cs)) (digit_back (c ∷ (d ∷ cs))) (sym (front_more c (d ∷ cs) h)) (sym (back_more c (d ∷ cs) h))
      (more_digits c d cs (numbers_of (d ∷ cs)) h g ∙ ap (option_map (longer c)) (first_digits d cs g) ∙ longer_is c (digit_front (d ∷ cs)) (numbers_of (digit_back (d ∷ cs))))
  | inr g ↦ joined (c ∷ (d ∷ cs)) (c ∷ []) (digit_front (c ∷ (d ∷ cs))) (d ∷ cs) (digit_back (c ∷ (d ∷ cs))) (sym (front_more c (d ∷ cs) h ∙ ap (λ x. c ∷ x) (front_stop d cs g))) (sym (back_more c (d ∷ cs) h ∙ back_stop d cs g))
      (last_digit c d cs (numbers_of (d ∷ cs)) h g)
]

map_out : (digits : List ℕ) (more : Option (List (List ℕ))) → option_map (map capped_value) (option_map (λ ns. digits ∷ ns) more) ≡ option_map (λ values. capped_value digits ∷ values) (option_map (map capped_value) more)
map_out digits None = refl
map_out digits (Some ns) = refl

first_value : (c : ℕ) (cs : List ℕ) → is_digit c ≡ true → capped_values (c ∷ cs) ≡ option_map (λ values. capped_value (digit_front (c ∷ cs)) ∷ values) (capped_values (digit_back (c ∷ cs)))
first_value c cs h = ap (option_map (map capped_value)) (first_digits c cs h) ∙ map_out (digit_front (c ∷ cs)) (numbers_of (digit_back (c ∷ cs)))

pub bare_values : (text : List ℕ) → capped_values (without_blanks text) ≡ capped_values text
bare_values text = ap (option_map (map capped_value)) (bare_numbers text)

pub back_short : (cs : List ℕ) → length (digit_back cs) ≤ length cs
back_short [] = omega arith
back_short (c ∷ cs) = elim (either (is_digit c)) [ inl h ↦ rw h (omega (arith, back_short cs)) | inr h ↦ rw h (omega arith) ]

pub back_shorter : (text : List ℕ) → 0 < length text → is_digit (get_or text 0 0) ≡ true → length (digit_back text) < length text
back_shorter [] some h = absurd (omega arith)
back_shorter (c ∷ cs) some h = rw (back_more c cs h) (omega (arith, back_short cs))

-- one number more is read
pub next_value : (values text : List ℕ) → 0 < length text → is_digit (get_or text 0 0) ≡ true
    → ahead (values ++ capped_value (digit_front text) ∷ []) (capped_values (without_blanks (digit_back text))) ≡ ahead values (capped_values text)
next_value values [] some h = absurd (omega arith)
next_value values (c ∷ cs) some h =
    ap (ahead (values ++ capped_value (digit_front (c ∷ cs)) ∷ [])) (bare_values (digit_back (c ∷ cs)))
    ∙ ahead_more values (capped_value (digit_front (c ∷ cs))) (capped_values (digit_back (c ∷ cs)))
    ∙ ap (ahead values) (sym (first_value c cs h))

-- neither a blank nor a digit comes first
pub no_values : (text : List ℕ) → 0 < length text → is_blank (get_or text 0 0) ≡ false → is_digit (get_or text 0 0) ≡ false → capped_values text ≡ None
no_values [] some b h = absurd (omega arith)
no_values (c ∷ cs) some b h = rw (b, h) refl
