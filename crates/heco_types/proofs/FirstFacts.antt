-- What is found first is the first broken rule.
use Rattle.std.proofs.Common.{◌≡◌, ◌∙◌, refl, sym, ap, subst, ◌⊎◌, inl, inr, List, [], ◌∷◌, ◌++◌, Option, Some, None, arith}
use Rattle.std.specs.Option.{option_or}
use Rattle.std.specs.List.{Contains}
use Rattle.std.proofs.lemmas.List.Elements.{Contains-append_left, Contains-append_right, Contains-append_cases, Contains-push, Contains-push_cases}
use Rattle.heco_lex.specs.declared.place.Place.{Place}
use Rattle.heco_lex.specs.declared.rule.Rule.{Rule}
use Rattle.heco_syntax.proofs.PlaceOrder.{before_trans}
use Rattle.heco_syntax.specs.Kept.{Kept, Before, RiseFrom, AreRising, kept_ident, kept_source}
use Rattle.heco_syntax.specs.Wellformed.{IsWellformed}
use Rattle.heco_syntax.specs.declared.tree.Source.{Source}
use Rattle.heco_types.specs.FirstBroken.{AnyBreaks, IsFirstOf, BreaksNone, IsCause}
use Rattle.heco_types.specs.Names.{visible}
use Rattle.heco_types.specs.Parameters.{of_source, sites}
use Rattle.heco_types.specs.Sites.{Site, Breaks, Finds, all, first, refusal, refusal_at}
use Rattle.heco_types.specs.Table.{earliest}
use Rattle.heco_types.specs.declared.refusal.TypeErr.{TypeErr}
use Rattle.heco_types.specs.declared.refusal.TypeErr.TheVariants.{At, Memory}
use Rattle.heco_types.proofs.TableFacts.{earliest-none, earliest-breaks, earliest-least}
use Rattle.heco_types.proofs.Walks.{Follows, source-follows}

-- the first refusal of sites in text order
abbrev pub head_of : List Site → Option TypeErr
head_of [] = None
head_of (s ∷ ss) = option_or (refusal_at s) (head_of ss)

or-or : (a b c : Option TypeErr) → option_or (option_or a b) c ≡ option_or a (option_or b c)
or-or None b c = refl
or-or (Some x) b c = refl

or-none : (a : Option TypeErr) → option_or a None ≡ a
or-none None = refl
or-none (Some x) = refl

head_of-append : (xs ys : List Site) → head_of (xs ++ ys) ≡ option_or (head_of xs) (head_of ys)
head_of-append [] ys = refl
head_of-append (x ∷ xs) ys = ap (λ o. option_or (refusal_at x) o) (head_of-append xs ys) ∙ sym (or-or (refusal_at x) (head_of xs) (head_of ys))

-- the sites stand at some of the places, in their order
data Sub : List Site → List Kept → Type 0 where
  sub_none : Sub [] []
  sub_take : {s : Site} {ss : List Site} {k : Kept} {ks : List Kept} → s.at ≡ k.at → Sub ss ks → Sub (s ∷ ss) (k ∷ ks)
  sub_skip : {ss : List Site} {k : Kept} {ks : List Kept} → Sub ss ks → Sub ss (k ∷ ks)

sub-append : {ss ts : List Site} {ks ls : List Kept} → Sub ss ks → Sub ts ls → Sub (ss ++ ts) (ks ++ ls)
sub-append sub_none t = t
sub-append (sub_take e s) t = sub_take e (sub-append s t)
sub-append (sub_skip s) t = sub_skip (sub-append s t)

abbrev Heads : List Site → Option TypeErr → List Kept → Type 0
Heads ss found ks = (head_of ss ≡ found) × Sub ss ks

heads-follow : Follows all first Heads
heads-follow = record {
  nothing = (refl, sub_none);
  test = λ s name kind. (or-none (refusal_at s), sub_take refl sub_none);
  next = λ x y u v ks ls a b. (head_of-append x y ∙ ap (λ o. option_or o (head_of y)) a.0 ∙ ap (λ o. option_or u o) b.0, sub-append a.1 b.1);
  skip = λ at x u ks a. (a.0, sub_skip a.1);
}

source_heads : (x : Source) → Heads (sites x) (of_source first x) (kept_source x)
source_heads x = source-follows all first Heads heads-follow x (kept_ident x.name) (λ ss u ks h. (h.0, sub_skip h.1))

abbrev AllBehind : Place → List Site → Type 0
AllBehind p [] = Unit {0}
AllBehind p (s ∷ ss) = Before p s.at × AllBehind p ss

abbrev AreSitesRising : List Site → Type 0
AreSitesRising [] = Unit {0}
AreSitesRising (s ∷ ss) = AllBehind s.at ss × AreSitesRising ss

behind-before : (p q : Place) (ss : List Site) → Before p q → AllBehind q ss → AllBehind p ss
behind-before p q [] b a = tt
behind-before p q (s ∷ ss) b a = (before_trans p q s.at b a.0, behind-before p q ss b a.1)

sub-behind : (p : Place) {ss : List Site} {ks : List Kept} → RiseFrom p ks → Sub ss ks → AllBehind p ss
sub-behind p r sub_none = tt
sub-behind p r (sub_take e s) = (subst (λ q. Before p q) (sym e) r.0, behind-before p _ _ r.0 (sub-behind _ r.1 s))
sub-behind p r (sub_skip s) = behind-before p _ _ r.0 (sub-behind _ r.1 s)

sub-rising_from : (p : Place) {ss : List Site} {ks : List Kept} → RiseFrom p ks → Sub ss ks → AreSitesRising ss
sub-rising_from p r sub_none = tt
sub-rising_from p r (sub_take {ss = ss} e s) = (subst (λ q. AllBehind q ss) (sym e) (sub-behind _ r.1 s), sub-rising_from _ r.1 s)
sub-rising_from p r (sub_skip s) = sub-rising_from _ r.1 s

sub-rising : {ss : List Site} {ks : List Kept} → AreRising ks → Sub ss ks → AreSitesRising ss
sub-rising r sub_none = tt
sub-rising r (sub_take {ss = ss} e s) = (subst (λ q. AllBehind q ss) (sym e) (sub-behind _ r s), sub-rising_from _ r s)
sub-rising r (sub_skip s) = sub-rising_from _ r s

among-cases : (s t : Site) (ss : List Site) → Contains (s ∷ ss) t → (s ≡ t) ⊎ Contains ss t
among-cases s t ss c =
    elim (Contains-append_cases (s ∷ []) ss t c) [ inl a ↦ elim (Contains-push_cases [] s t a) [ inl b ↦ absurd (omega (arith, b.1)) | inr e ↦ inl e ] | inr b ↦ inr b ]

among-head : (s : Site) (ss : List Site) → Contains (s ∷ ss) s
among-head s ss = Contains-append_left (s ∷ []) ss s (Contains-push [] s)

behind-among : (p : Place) (ss : List Site) (s : Site) → AllBehind p ss → Contains ss s → Before p s.at
behind-among p [] s a c = absurd (omega (arith, c.1))
behind-among p (t ∷ ss) s a c = elim (among-cases t s ss c) [ inl e ↦ subst (λ z. Before p z.at) e a.0 | inr d ↦ behind-among p ss s a.1 d ]

later : (s : Site) (ss : List Site) (rule : Rule) (at : Place) → AnyBreaks ss rule at → AnyBreaks (s ∷ ss) rule at
later s ss rule at b = record { site = b.site; among = Contains-append_right (s ∷ []) ss b.site b.among; stands = b.stands; breaks = b.breaks }

abbrev found_at : Site → Option Rule
found_at s = earliest s.role (visible s.names s.text)

first-later : (s : Site) (ss : List Site) (rule : Rule) (at : Place) → found_at s ≡ None → IsFirstOf ss rule at → IsFirstOf (s ∷ ss) rule at
first-later s ss rule at none f = record {
  broken = later s ss rule at f.broken;
  least = λ r p b. elim (among-cases s b.site ss b.among) [
    | inl e ↦ absurd (earliest-none s.role (visible s.names s.text) none r (subst (λ z. Breaks z r) (sym e) b.breaks))
    | inr c ↦ f.least r p (record { site = b.site; among = c; stands = b.stands; breaks = b.breaks })
  ];
}

first-here : (s : Site) (ss : List Site) (rule : Rule) → found_at s ≡ Some rule → AllBehind s.at ss → IsFirstOf (s ∷ ss) rule s.at
first-here s ss rule is behind = record {
  broken = record { site = s; among = among-head s ss; stands = refl; breaks = earliest-breaks s.role (visible s.names s.text) rule is };
  least = λ r p b. elim (among-cases s b.site ss b.among) [
    | inl e ↦ inr (sym b.stands ∙ ap (λ z. z.at) (sym e), earliest-least s.role (visible s.names s.text) rule is r (subst (λ z. Breaks z r) (sym e) b.breaks))
    | inr c ↦ inl (subst (λ q. Before s.at q) b.stands (behind-among s.at ss b.site behind c))
  ];
}

same_rule : (r s : Rule) (p q : Place) → Some (At r p) ≡ Some (At s q) → r ≡ s
same_rule r s p q e = cc

same_place : (r s : Rule) (p q : Place) → Some (At r p) ≡ Some (At s q) → p ≡ q
same_place r s p q e = cc

head-cases : (s : Site) (ss : List Site) (rule : Rule) (at : Place) (o : Option Rule) → found_at s ≡ o → AllBehind s.at ss → (head_of ss ≡ Some (At rule at) → IsFirstOf ss rule at)
    → option_or (refusal s.at o) (head_of ss) ≡ Some (At rule at) → IsFirstOf (s ∷ ss) rule at
head-cases s ss rule at None is behind rest e = first-later s ss rule at is (rest e)
head-cases s ss rule at (Some r) is behind rest e =
    subst (λ p. IsFirstOf (s ∷ ss) rule p) (same_place r rule s.at at e) (subst (λ z. IsFirstOf (s ∷ ss) z s.at) (same_rule r rule s.at at e) (first-here s ss r is behind))

head_of-first : (ss : List Site) (rule : Rule) (at : Place) → AreSitesRising ss → head_of ss ≡ Some (At rule at) → IsFirstOf ss rule at
head_of-first [] rule at rising e = absurd (cc)
head_of-first (s ∷ ss) rule at rising e = head-cases s ss rule at (found_at s) refl rising.0 (head_of-first ss rule at rising.1) e

-- what is found first in a wellformed source is its first broken rule
pub finds-cause : (x : Source) → IsWellformed x → (e : TypeErr) → Finds e (of_source first x) → IsCause x e
finds-cause x formed (At rule at) found = let h = source_heads x in head_of-first (sites x) rule at (sub-rising formed.order.rising h.1) (h.0 ∙ found)
finds-cause x formed Memory found = tt

none-cases : (s : Site) (o : Option Rule) (rest : Option TypeErr) → found_at s ≡ o → option_or (refusal s.at o) rest ≡ None → (found_at s ≡ None) × (rest ≡ None)
none-cases s None rest is e = (is, e)
none-cases s (Some r) rest is e = absurd (cc)

head_of-none : (ss : List Site) → head_of ss ≡ None → (s : Site) → Contains ss s → found_at s ≡ None
head_of-none [] e s c = absurd (omega (arith, c.1))
head_of-none (t ∷ ss) e s c =
    let h = none-cases t (found_at t) (head_of ss) refl e in
    elim (among-cases t s ss c) [ inl i ↦ subst (λ z. found_at z ≡ None) i h.0 | inr d ↦ head_of-none ss h.1 s d ]

-- where nothing is found no site has a broken rule
pub finds-none_at : (x : Source) → of_source first x ≡ None → (s : Site) → Contains (sites x) s → found_at s ≡ None
finds-none_at x e s c = head_of-none (sites x) ((source_heads x).0 ∙ e) s c

pub finds-none : (x : Source) → of_source first x ≡ None → BreaksNone x
finds-none x e rule at b = earliest-none b.site.role (visible b.site.names b.site.text) (finds-none_at x e b.site b.among) rule b.breaks
