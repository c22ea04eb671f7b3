-- What a source has in which nothing is found.
use Rattle.std.proofs.Common.{◌≡◌, ◌≢◌, ◌∙◌, refl, sym, ap, subst, ℕ, suc, ◌+◌, ◌<◌, ◌≤◌, ◌^◌, Bool, true, false, not, ◌||◌, ◌&&◌, ◌==◌, nat_le, nat_lt, cond, List, [], ◌∷◌, ◌++◌, length, map, Option, Some, None, arith}
use Rattle.std.specs.List.{All, AllPairs, filter, slice_index_or}
use Rattle.std.specs.Option.{option_or}
use Rattle.std.specs.Str.{bytes_eq}
use Rattle.std.proofs.lemmas.Bool.Decides.{nat_tests}
use Rattle.std.proofs.lemmas.List.Elements.{All-cons, All-head, All-tail, All-contains_itself}
use Rattle.std.proofs.lemmas.List.Kept.{AllPairs-cons}
use Rattle.std.proofs.lemmas.Slice.Eq.{bytes_eq-Decides}
use Rattle.heco_lex.specs.declared.place.Place.{Place}
use Rattle.heco_lex.specs.declared.rule.Rule.{Rule}
use Rattle.heco_lex.specs.declared.rule.Rule.TheVariants as rule
use Rattle.heco_syntax.specs.Wellformed.{IsWellformed}
use Rattle.heco_syntax.specs.declared.tree.Num.{Num}
use Rattle.heco_syntax.specs.declared.tree.Param.{Param}
use Rattle.heco_syntax.specs.declared.tree.Source.{Source}
use Rattle.heco_types.specs.Definitions.{definition_names}
use Rattle.heco_types.specs.Names.{Name, visible, is_secret, is_assignable, is_definition, params_of, depth_of}
use Rattle.heco_types.specs.Parameters.{of_length, of_params, of_source, param_limit, param_name, sites}
use Rattle.heco_types.specs.Presets.{names_preset, slots_named}
use Rattle.heco_syntax.specs.Ports.{length_of}
use Rattle.heco_types.specs.Shapes.{shape_of, shapes_of, AllShort}
use Rattle.heco_types.specs.Sites.{Site, site, first, refusal, refusal_at}
use Rattle.heco_types.specs.Table.{Role, preset_word, parameter, declares, targets, uses, calls, counts, differ, is_broken, earliest, most_calls}
use Rattle.heco_types.specs.Typing.{IsFine, IsFineAt, HasLength, IsWithin, AreParameters, IsTyped}
use Rattle.heco_types.specs.declared.context.Context.TheVariants.{Anywhere, Index, Bound, IntValue}
use Rattle.heco_types.specs.declared.name.Entity.{Entity}
use Rattle.heco_types.specs.declared.refusal.TypeErr.{TypeErr}
use Rattle.heco_types.proofs.FirstFacts.{finds-none, finds-none_at}
use Rattle.heco_types.proofs.PresetWords.{names-preset, slots-fit}
use Rattle.heco_types.proofs.TableFacts.{earliest-none}

true_if : (b : Bool) → (not b ≡ true → ⊥) → b ≡ true
true_if true h = refl
true_if false h = absurd (h refl)

false_if : (b : Bool) → (b ≡ true → ⊥) → b ≡ false
false_if true h = absurd (h refl)
false_if false h = refl

same_if : (a b : Bool) → (differ a b ≡ true → ⊥) → a ≡ b
same_if true true h = refl
same_if true false h = absurd (h refl)
same_if false true h = absurd (h refl)
same_if false false h = refl

below_if : (n : ℕ) → (nat_le 256 n ≡ true → ⊥) → n < 256
below_if n h = let e : nat_le 256 n ≡ false = false_if (nat_le 256 n) h in grind (arith, nat_tests)

or_false : (a b : Bool) → a || b ≡ false → (a ≡ false) × (b ≡ false)
or_false true b e = absurd (cc)
or_false false b e = (refl, e)

counts_if : (value limit : ℕ) (equal : Bool) → (value == 0 || nat_lt limit value || not equal ≡ true → ⊥) → (1 ≤ value) × (value ≤ limit) × (equal ≡ true)
counts_if value limit equal h =
    let e = or_false (value == 0 || nat_lt limit value) (not equal) (false_if (value == 0 || nat_lt limit value || not equal) h) in
    let d = or_false (value == 0) (nat_lt limit value) e.0 in
    let zero : (value == 0) ≡ false = d.0 in
    let most : nat_lt limit value ≡ false = d.1 in
    (grind (arith, nat_tests), grind (arith, nat_tests), true_if equal (λ t. absurd (let f : not equal ≡ false = e.1 in cc)))

kind_if : (definition a b : Bool) → (definition || differ a b ≡ true → ⊥) → (definition ≡ false) × (a ≡ b)
kind_if true a b h = absurd (h refl)
kind_if false a b h = (refl, same_if a b h)

same_count : (a b : ℕ) → (not (a == b) ≡ true → ⊥) → a ≡ b
same_count a b h = let e : (a == b) ≡ true = true_if (a == b) h in grind (arith, nat_tests)

shallow_if : (inside : Bool) (depth : ℕ) → (inside && nat_le most_calls depth ≡ true → ⊥) → inside ≡ true → depth < most_calls
shallow_if true depth h i = let e : nat_le most_calls depth ≡ false = false_if (nat_le most_calls depth) h in grind (arith, nat_tests)
shallow_if false depth h i = absurd (cc)

fine : (role : Role) (found : Option Entity) → ((r : Rule) → is_broken r role found ≡ true → ⊥) → IsFine role found
fine (preset_word known) found h = true_if known (h rule.UnknownParams)
fine (parameter number) None h = (refl, below_if number (h rule.Length))
fine (parameter number) (Some e) h = absurd (h rule.Redeclared refl)
fine declares None h = refl
fine declares (Some e) h = absurd (h rule.Redeclared refl)
fine (targets indexed) None h = absurd (h rule.UnknownName refl)
fine (targets indexed) (Some e) h = record { entity = e; visible = refl; assignable = true_if (is_assignable e.sort) (h rule.NotAssignable); kind = kind_if (is_definition e.sort) e.array indexed (h rule.Kind) }
fine (uses context indexed) None h = absurd (h rule.UnknownName refl)
fine (uses Anywhere indexed) (Some e) h = record { entity = e; visible = refl; kind = kind_if (is_definition e.sort) e.array indexed (h rule.Kind); stands = tt }
fine (uses Index indexed) (Some e) h = record { entity = e; visible = refl; kind = kind_if (is_definition e.sort) e.array indexed (h rule.Kind); stands = false_if (is_secret e.sort) (h rule.SecretIndex) }
fine (uses Bound indexed) (Some e) h = record { entity = e; visible = refl; kind = kind_if (is_definition e.sort) e.array indexed (h rule.Kind); stands = false_if (is_secret e.sort) (h rule.SecretBound) }
fine (uses IntValue indexed) (Some e) h = record { entity = e; visible = refl; kind = kind_if (is_definition e.sort) e.array indexed (h rule.Kind); stands = false_if (is_secret e.sort) (h rule.SecretToPublic) }
fine (calls context count inside) None h = absurd (h rule.UnknownName refl)
fine (calls context count inside) (Some e) h = record {
  entity = e;
  visible = refl;
  kind = true_if (is_definition e.sort) (h rule.Kind);
  arity = same_count count (params_of e.sort) (h rule.Length);
  nesting = shallow_if inside (depth_of e.sort) (h rule.TooNested);
}
fine (counts value limit equal) found h = counts_if value limit equal (h rule.Length)

fine_none : (role : Role) (found : Option Entity) → earliest role found ≡ None → IsFine role found
fine_none role found e = fine role found (earliest-none role found e)

no_refusal : (at : Place) (o : Option Rule) → refusal at o ≡ None → o ≡ None
no_refusal at None e = refl
no_refusal at (Some r) e = absurd (cc)

-- where no rule of a site is found it is fine
pub fine_at : (s : Site) → refusal_at s ≡ None → IsFineAt s
fine_at s e = fine_none s.role (visible s.names s.text) (no_refusal s.at (earliest s.role (visible s.names s.text)) e)

-- where nothing is found in two parts nothing is found in either
pub nothing-left : (a b : Option TypeErr) → option_or a b ≡ None → a ≡ None
nothing-left None b e = refl
nothing-left (Some x) b e = absurd (cc)

pub nothing-right : (a b : Option TypeErr) → option_or a b ≡ None → b ≡ None
nothing-right None b e = e
nothing-right (Some x) b e = absurd (cc)

equal_texts : (text : List ℕ) → bytes_eq text text ≡ true
equal_texts text = (bytes_eq-Decides text text).1 refl

absent-head : (b : Bool) (e : Entity) (rest : Option Entity) → cond b (Some e) rest ≡ None → (b ≡ false) × (rest ≡ None)
absent-head true e rest h = absurd (cc)
absent-head false e rest h = (refl, h)

other_text : (text other : List ℕ) → bytes_eq text other ≡ false → other ≢ text
other_text text other e s = let t = (bytes_eq-Decides text other).1 (sym s) in let t' : bytes_eq text other ≡ true = t in cc

-- what is absent among names and one more is absent among the names, and is another text
absent-push : (names : List Name) (n : Name) (text : List ℕ) → visible (names ++ n ∷ []) text ≡ None → (visible names text ≡ None) × (n.text ≢ text)
absent-push [] n text e = (refl, other_text text n.text (absent-head (bytes_eq text n.text) n.entity None e).0)
absent-push (m ∷ names) n text e =
    let h = absent-head (bytes_eq text m.text) m.entity (visible (names ++ n ∷ []) text) e in
    let rest = absent-push names n text h.1 in
    (ap (λ b. cond b (Some m.entity) (visible names text)) h.0 ∙ rest.0, rest.1)

-- what the parameters from a number on have, by the names that are visible before
record Are (slots number : ℕ) (ps : List Param) (names : List Name) : Type 0 where
  count : number + length ps ≤ 256
  absent : All (λ p. visible names p.name.text ≡ None) ps
  distinct : AllPairs (λ p q. p.name.text ≢ q.name.text) ps
  lengths : All (HasLength slots) ps

none_of : (P : Param → Type 0) → All P []
none_of P k d h = absurd (omega arith)

has_length : (slots : ℕ) (p : Param) (names : List Name) (len : Option Num) → 1 ≤ slots → of_length first len (param_limit slots p.output) names ≡ None
    → (1 ≤ length_of len) × (length_of len ≤ param_limit slots p.output)
has_length slots p names None low e = (omega arith, one_fits slots p.output low)
  where
    one_fits : (slots : ℕ) (output : Bool) → 1 ≤ slots → 1 ≤ param_limit slots output
    one_fits slots true low = omega arith
    one_fits slots false low = low
has_length slots p names (Some len) low e = let h = fine_at (site len.at [] (counts len.value (param_limit slots p.output) true) names) e in (h.0, h.1)

are : (slots number : ℕ) (ps : List Param) (names : List Name) → 1 ≤ slots → number ≤ 256 → of_params first slots number ps names ≡ None → Are slots number ps names
are slots number [] names low high e = record { count = omega arith; absent = none_of (λ p. visible names p.name.text ≡ None); distinct = λ i j d a b. absurd (omega arith); lengths = none_of (HasLength slots) }
are slots number (p ∷ ps) names low high e =
    let here = nothing-left _ _ e in
    let name = fine_at (site p.name.at p.name.text (parameter number) names) (nothing-left _ _ here) in
    let len = has_length slots p names p.len low (nothing-right _ _ here) in
    let below : number < 256 = name.1 in
    let rest : Are slots (suc number) ps (names ++ param_name p ∷ []) = are slots (suc number) ps (names ++ param_name p ∷ []) low (omega arith) (nothing-right _ _ e) in
    record {
      count = (let c : suc number + length ps ≤ 256 = rest.count in omega arith);
      absent = All-cons (λ q. visible names q.name.text ≡ None) p ps name.0 (λ k d h. (absent-push names (param_name p) _ (rest.absent k d h)).0);
      distinct = AllPairs-cons (λ q r. q.name.text ≢ r.name.text) p ps (λ k d h. (absent-push names (param_name p) _ (rest.absent k d h)).1) rest.distinct;
      lengths = All-cons (HasLength slots) p ps len rest.lengths;
    }

preset-fine : (x : Source) → of_source first x ≡ None → names_preset x.params.text ≡ true
preset-fine x e = fine_at (site x.params.at x.params.text (preset_word (names_preset x.params.text)) []) (nothing-left _ _ e)

pub parameters-fine : (x : Source) → of_source first x ≡ None → AreParameters (slots_named x.params.text) x.ports
parameters-fine x e =
    let a = are (slots_named x.params.text) 0 x.ports (definition_names [] x.defs) (slots-fit x.params.text (preset-fine x e)).0 (omega arith) (nothing-left _ _ (nothing-right _ _ (nothing-right _ _ e))) in
    record { count = (let c : 0 + length x.ports ≤ 256 = a.count in omega arith); distinct = a.distinct; lengths = a.lengths }

short : (slots len : ℕ) (output : Bool) → slots ≤ 512 → len ≤ param_limit slots output → len < 2 ^ 32
short slots len true fit h = omega arith
short slots len false fit h = omega arith

pub all-short : (x : Source) → of_source first x ≡ None → AllShort x.ports
all-short x e k d h =
    short (slots_named x.params.text) _ (slice_index_or x.ports k d).output (slots-fit x.params.text (preset-fine x e)).1 ((parameters-fine x e).lengths k d h).1

pub is-typed : (x : Source) → IsWellformed x → of_source first x ≡ None → IsTyped x
is-typed x formed e = record {
  formed = formed;
  none = finds-none x e;
  found = e;
  fine = λ k d h. fine_none _ _ (finds-none_at x e (slice_index_or (sites x) k d) (All-contains_itself (sites x) k d h));
  preset = names-preset x.params.text (preset-fine x e);
  parameters = parameters-fine x e;
}

not_differ : (a b : Bool) → not (differ a b) ≡ true → a ≡ b
not_differ true true e = refl
not_differ true false e = absurd (cc)
not_differ false true e = absurd (cc)
not_differ false false e = refl

picked : (slots : ℕ) (output : Bool) (p : Param) (rest : List Param) (b : Bool) → not (differ p.output output) ≡ b → HasLength slots p
    → All (IsWithin (param_limit slots output)) (map shape_of rest) → All (IsWithin (param_limit slots output)) (map shape_of (cond b (p ∷ rest) rest))
picked slots output p rest true e h within =
    All-cons (IsWithin (param_limit slots output)) (shape_of p) (map shape_of rest) (h.0, subst (λ o. length_of p.len ≤ param_limit slots o) (not_differ p.output output e) h.1) within
picked slots output p rest false e h within = within

-- the shapes have the lengths of the parameters
pub shapes-within : (slots : ℕ) (output : Bool) (ps : List Param) → All (HasLength slots) ps → All (IsWithin (param_limit slots output)) (shapes_of output ps)
shapes-within slots output [] h = λ k d below. absurd (omega arith)
shapes-within slots output (p ∷ ps) h =
    picked slots output p (filter (λ q. not (differ q.output output)) ps) (not (differ p.output output)) refl (All-head (HasLength slots) p ps h)
    (shapes-within slots output ps (All-tail (HasLength slots) p ps h))
