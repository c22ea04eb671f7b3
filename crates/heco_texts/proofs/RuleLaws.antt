-- What a line says, judged by values of at most 32 bits.
use Rattle.std.proofs.Common.{◌≡◌, ◌∙◌, inl, inr, refl, sym, ap, ℕ, ◌-◌, ◌^◌, ◌<◌, Bool, true, false, List, [], ◌∷◌, length, Option, Some, None, arith}
use Rattle.std.specs.Prelude.{◌&&◌, ◌==◌, map, min, nat_lt, is_some, option_map}
use Rattle.std.specs.List.{list_all}
use Rattle.std.proofs.lemmas.Bool.{and_parts}
use Rattle.std.proofs.lemmas.Bool.Decides.{nat_tests}
use Rattle.std.proofs.lemmas.List.{length-map}
use Rattle.heco_nums.specs.declared.shape.Shape.{Shape}
use Rattle.heco_texts.specs.Kinds.{Assigned, assigned, without_blanks, kind_of, kind_of_bare}
use Rattle.heco_texts.specs.Numbers.{value_of, capped_value, capped_values, numbers_of}
use Rattle.heco_texts.specs.Rules.{given_of, len_named, row_named, rule_of, rule_of_name}
use Rattle.heco_texts.specs.declared.error.InputRule.{InputRule}
use Rattle.heco_texts.specs.declared.given.Given.{Given}
use Rattle.heco_texts.proofs.NumberLaws.{either}

-- ---- values and what they are up to 32 bits

-- below t
abbrev pub is_below : ℕ → ℕ → Bool
is_below t v = nat_lt v t

cap_below : (t v : ℕ) → t < 2 ^ 32 → nat_lt (min v (2 ^ 32 - 1)) t ≡ nat_lt v t
cap_below t v small = grind (arith, nat_tests)

all_capped : (t : ℕ) (numbers : List (List ℕ)) → t < 2 ^ 32 → list_all (λ v. nat_lt v t) (map capped_value numbers) ≡ list_all (λ v. nat_lt v t) (map value_of numbers)
all_capped t [] small = refl
all_capped t (n ∷ numbers) small =
    ap (λ b. b && list_all (λ v. nat_lt v t) (map capped_value numbers)) (cap_below t (value_of n) small) ∙ ap (λ b. nat_lt (value_of n) t && b) (all_capped t numbers small)

rule_capped : (t : ℕ) (earlier : Bool) (len : Option ℕ) (numbers : List (List ℕ)) → t < 2 ^ 32 → rule_of_name t earlier len (map capped_value numbers) ≡ rule_of_name t earlier len (map value_of numbers)
rule_capped t earlier None numbers small = refl
rule_capped t earlier (Some len) numbers small =
    let e : length (map capped_value numbers) ≡ length (map value_of numbers) = length-map numbers capped_value ∙ sym (length-map numbers value_of) in
    let f : list_all (λ v. nat_lt v t) (map capped_value numbers) ≡ list_all (λ v. nat_lt v t) (map value_of numbers) = all_capped t numbers small in
    rw (e, f) refl

-- where no rule is broken, the values are below t
pub none_below : (t : ℕ) (earlier : Bool) (len : Option ℕ) (values : List ℕ) → rule_of_name t earlier len values ≡ None → list_all (λ v. nat_lt v t) values ≡ true
none_below t earlier None values h = cc
none_below t true (Some len) values h = cc
none_below t false (Some len) values h = elim (either (length values == len)) [
  | inl k ↦ elim (either (list_all (λ v. nat_lt v t) values)) [ inl l ↦ l | inr l ↦ (let bad = rw (k, l) at h in cc) ]
  | inr k ↦ (let bad = rw k at h in cc)
]

is_capped : (t v : ℕ) → t < 2 ^ 32 → nat_lt (min v (2 ^ 32 - 1)) t ≡ true → min v (2 ^ 32 - 1) ≡ v
is_capped t v small h = grind (arith, nat_tests)

pub same_values : (t : ℕ) (numbers : List (List ℕ)) → t < 2 ^ 32 → list_all (λ v. nat_lt v t) (map capped_value numbers) ≡ true → map capped_value numbers ≡ map value_of numbers
same_values t [] small h = refl
same_values t (n ∷ numbers) small h =
    let parts = and_parts (nat_lt (capped_value n) t) (list_all (λ v. nat_lt v t) (map capped_value numbers)) h in
    let e : capped_value n ≡ value_of n = is_capped t (value_of n) small parts.0 in
    let f : map capped_value numbers ≡ map value_of numbers = same_values t numbers small parts.1 in
    ap (λ x. x ∷ map capped_value numbers) e ∙ ap (λ xs. value_of n ∷ xs) f

-- ---- what a line says

-- the line gives this name numbers with these values, up to 32 bits
pub record Says (line name values : List ℕ) : Type 0 where
  pub numbers : List (List ℕ)
  pub kind : kind_of line ≡ Assigned name numbers
  pub capped : values ≡ map capped_value numbers

said : (line name values : List ℕ) (found : Option (List (List ℕ))) → kind_of line ≡ assigned name found → Some values ≡ option_map (map capped_value) found → Says line name values
said line name values None kind is = cc
said line name values (Some numbers) kind is = record { numbers = numbers; kind = kind; capped = cc }

pub says : (bare line name behind values : List ℕ) → bare ≡ without_blanks line → kind_of_bare bare ≡ assigned name (numbers_of behind) → Some values ≡ capped_values behind → Says line name values
unfolding kind_of
says bare line name behind values b kind is = said line name values (numbers_of behind) (sym (ap kind_of_bare b) ∙ kind) is

pub rule_said : (t : ℕ) (shapes : List Shape) (given same : List Given) (line name values other : List ℕ) (result : Option InputRule) → t < 2 ^ 32 → Says line name values → same ≡ given → other ≡ values
    → result ≡ rule_of_name t (is_some (row_named name same)) (len_named name shapes) other → result ≡ rule_of t shapes given (kind_of line)
rule_said t shapes given same line name values other result small s g v is =
    is
    ∙ ap (λ x. rule_of_name t (is_some (row_named name x)) (len_named name shapes) other) g
    ∙ ap (λ x. rule_of_name t (is_some (row_named name given)) (len_named name shapes) x) (v ∙ s.capped)
    ∙ rule_capped t (is_some (row_named name given)) (len_named name shapes) s.numbers small
    ∙ sym (ap (rule_of t shapes given) s.kind)

pub given_said : (t : ℕ) (earlier : Bool) (len : Option ℕ) (line name values other : List ℕ) → t < 2 ^ 32 → Says line name values → other ≡ values
    → rule_of_name t earlier len other ≡ None → given_of (kind_of line) ≡ record { name = name; row = values } ∷ []
given_said t earlier len line name values other small s v is =
    let below : list_all (λ x. nat_lt x t) (map capped_value s.numbers) ≡ true = sym (ap (list_all (λ x. nat_lt x t)) (v ∙ s.capped)) ∙ none_below t earlier len other is in
    ap given_of s.kind ∙ ap (λ row. record { name = name; row = row } ∷ []) (sym (s.capped ∙ same_values t s.numbers small below))
