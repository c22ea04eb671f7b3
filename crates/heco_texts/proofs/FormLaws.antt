-- What a line says, by its form, is what the function of its bytes finds.
use Rattle.std.proofs.Common.{◌≡◌, ◌∙◌, inl, inr, refl, sym, ap, subst, ℕ, zero, suc, ◌+◌, ◌<◌, ◌≤◌, Bool, true, false, List, [], ◌∷◌, ◌++◌, length, Option, Some, None, arith, append-nil}
use Rattle.std.specs.Prelude.{◌&&◌, ◌==◌, not, option_map}
use Rattle.std.specs.List.{list_all}
use Rattle.std.proofs.lemmas.Bool.{and_parts}
use Rattle.std.proofs.lemmas.Bool.Decides.{nat_tests}
use Rattle.heco_nums.specs.Words.{is_letter, is_word_byte, is_reserved, starts_word, is_word}
use Rattle.heco_texts.specs.Forms.{is_blank, is_digit, AreBlanks, IsNumber, may_follow, AreNumbers, nothing, blank, number, IsAssignment, IsIdle}
use Rattle.heco_texts.specs.inside.Fronts.{digit_front, digit_back}
use Rattle.heco_texts.specs.Kinds.{Idle, Assigned, without_blanks, ends_name, name_front, name_back, assigned, behind_name, says_nothing, kind_of, kind_of_bare}
use Rattle.heco_texts.specs.Numbers.{with_byte, numbers_of}
use Rattle.heco_texts.proofs.NumberLaws.{either, first_digits, front_more, front_stop, back_more, back_stop, back_short, skip_blank}

-- ---- numbers

join_digits : (digits cs : List ℕ) → list_all is_digit digits ≡ true → may_follow cs ≡ true → (digit_front (digits ++ cs) ≡ digits) × (digit_back (digits ++ cs) ≡ cs)
join_digits [] [] h m = (refl, refl)
join_digits [] (c ∷ cs) h m =
    let no : is_digit c ≡ false = blank_no_digit c m in
    (front_stop c cs no, back_stop c cs no)
  where
    blank_no_digit : (c : ℕ) → is_blank c ≡ true → is_digit c ≡ false
    blank_no_digit c h = grind (arith, nat_tests)
join_digits (d ∷ digits) cs h m =
    let parts = and_parts (is_digit d) (list_all is_digit digits) h in
    let more = join_digits digits cs parts.1 m in
    (front_more d (digits ++ cs) parts.0 ∙ ap (λ x. d ∷ x) more.0, back_more d (digits ++ cs) parts.0 ∙ more.1)

first_number : (digits cs : List ℕ) → IsNumber digits → may_follow cs ≡ true → numbers_of (digits ++ cs) ≡ option_map (λ ns. digits ∷ ns) (numbers_of cs)
first_number [] cs n m = absurd (let some = n.some in omega arith)
first_number (d ∷ digits) cs n m =
    let parts = and_parts (is_digit d) (list_all is_digit digits) n.all in
    let cut = join_digits (d ∷ digits) cs n.all m in
    subst (λ x. numbers_of (d ∷ (digits ++ cs)) ≡ option_map (λ ns. x ∷ ns) (numbers_of cs)) cut.0
    (subst (λ y. numbers_of (d ∷ (digits ++ cs)) ≡ option_map (λ ns. digit_front (d ∷ (digits ++ cs)) ∷ ns) (numbers_of y)) cut.1 (first_digits d (digits ++ cs) parts.0))

pub numbers_found : {cs : List ℕ} {ns : List (List ℕ)} → AreNumbers cs ns → numbers_of cs ≡ Some ns
numbers_found nothing = refl
numbers_found (blank {c = c} {cs = cs} h r) = skip_blank c cs h ∙ numbers_found r
numbers_found (number {digits = digits} {cs = cs} n m r) = first_number digits cs n m ∙ ap (option_map (λ ns. digits ∷ ns)) (numbers_found r)

digits_split : (cs : List ℕ) → cs ≡ digit_front cs ++ digit_back cs
digits_split [] = refl
digits_split (c ∷ cs) = elim (either (is_digit c)) [
  | inl h ↦ ap (λ x. c ∷ x) (digits_split cs) ∙ sym (ap (λ x. x ++ digit_back (c ∷ cs)) (front_more c cs h) ∙ ap (λ x. c ∷ (digit_front cs ++ x)) (back_more c cs h))
  | inr h ↦ sym (ap (λ x. x ++ digit_back (c ∷ cs)) (front_stop c cs h) ∙ back_stop c cs h)
]

all_front : (cs : List ℕ) → list_all is_digit (digit_front cs) ≡ true
all_front [] = refl
all_front (c ∷ cs) = elim (either (is_digit c)) [
  | inl h ↦ (let more : list_all is_digit (c ∷ digit_front cs) ≡ true = rw h (all_front cs) in ap (list_all is_digit) (front_more c cs h) ∙ more)
  | inr h ↦ ap (list_all is_digit) (front_stop c cs h)
]

-- behind the digits stands a blank or nothing, where there are numbers
follows : (cs : List ℕ) (ns : List (List ℕ)) → numbers_of (digit_back cs) ≡ Some ns → may_follow (digit_back cs) ≡ true
follows [] ns h = refl
follows (c ∷ cs) ns h = elim (either (is_digit c)) [
  | inl d ↦ ap may_follow (back_more c cs d) ∙ follows cs ns (sym (ap numbers_of (back_more c cs d)) ∙ h)
  | inr d ↦
      let found : with_byte c cs (numbers_of cs) ≡ Some ns = sym (ap numbers_of (back_stop c cs d)) ∙ h in
      let first : is_blank c ≡ true = elim (either (is_blank c)) [ inl b ↦ b | inr b ↦ (let bad = rw (b, d) at found in cc) ] in
      ap may_follow (back_stop c cs d) ∙ first
]

-- numbers that stand behind one more
record Cut (more : Option (List (List ℕ))) (digits : List ℕ) (ns : List (List ℕ)) : Type 0 where
  rest : List (List ℕ)
  found : more ≡ Some rest
  is : ns ≡ digits ∷ rest

cut : (more : Option (List (List ℕ))) (digits : List ℕ) (ns : List (List ℕ)) → option_map (λ xs. digits ∷ xs) more ≡ Some ns → Cut more digits ns
cut None digits ns h = cc
cut (Some rest) digits ns h = record { rest = rest; found = refl; is = cc }

numbers_up_to : (most : ℕ) (cs : List ℕ) (ns : List (List ℕ)) → length cs ≤ most → numbers_of cs ≡ Some ns → AreNumbers cs ns
numbers_up_to most [] ns le h = (let e : [] ≡ ns = cc in subst (AreNumbers []) e nothing)
numbers_up_to zero (c ∷ cs) ns le h = absurd (omega arith)
numbers_up_to (suc most) (c ∷ cs) ns le h = elim (either (is_blank c)) [
  | inl b ↦ blank b (numbers_up_to most cs ns (omega arith) (sym (skip_blank c cs b) ∙ h))
  | inr b ↦ elim (either (is_digit c)) [
    | inl d ↦
        let parts = cut (numbers_of (digit_back (c ∷ cs))) (digit_front (c ∷ cs)) ns (sym (first_digits c cs d) ∙ h) in
        let short : length (digit_back (c ∷ cs)) ≤ most = rw (back_more c cs d) (omega (arith, back_short cs)) in
        let more = numbers_up_to most (digit_back (c ∷ cs)) parts.rest short parts.found in
        let some : 0 < length (digit_front (c ∷ cs)) = rw (front_more c cs d) (omega arith) in
        let all = all_front (c ∷ cs) in
        subst (λ x. AreNumbers x ns) (sym (digits_split (c ∷ cs)))
        (subst (AreNumbers (digit_front (c ∷ cs) ++ digit_back (c ∷ cs))) (sym parts.is) (number (record { some = some; all = all }) (follows (c ∷ cs) parts.rest parts.found) more))
    | inr d ↦ (let bad = rw (b, d) at h in cc)
  ]
]

pub numbers_are : (cs : List ℕ) (ns : List (List ℕ)) → numbers_of cs ≡ Some ns → AreNumbers cs ns
numbers_are cs ns h = numbers_up_to (length cs) cs ns (omega arith) h

-- ---- blanks and names

pub no_blanks : (before rest : List ℕ) → AreBlanks before → without_blanks (before ++ rest) ≡ without_blanks rest
no_blanks [] rest h = refl
no_blanks (c ∷ before) rest h = let parts = and_parts (is_blank c) (list_all is_blank before) h in let e : is_blank c ≡ true = parts.0 in rw e (no_blanks before rest parts.1)

-- blanks stand before what is left without them
record Bare (line : List ℕ) : Type 0 where
  before : List ℕ
  blanks : AreBlanks before
  is : line ≡ before ++ without_blanks line

bare : (line : List ℕ) → Bare line
bare [] = record { before = []; blanks = refl; is = refl }
bare (c ∷ cs) = elim (either (is_blank c)) [
  | inl b ↦ let r = bare cs in record { before = c ∷ r.before; blanks = rw b r.blanks; is = rw b (ap (λ x. c ∷ x) r.is) }
  | inr b ↦ record { before = []; blanks = refl; is = rw b refl }
]

pub blanks_alone : (line : List ℕ) → AreBlanks line → without_blanks line ≡ []
blanks_alone [] h = refl
blanks_alone (c ∷ cs) h = let parts = and_parts (is_blank c) (list_all is_blank cs) h in let e : is_blank c ≡ true = parts.0 in rw e (blanks_alone cs parts.1)

name_split : (cs : List ℕ) → cs ≡ name_front cs ++ name_back cs
name_split [] = refl
name_split (c ∷ cs) = elim (either (ends_name c)) [ inl e ↦ rw e refl | inr e ↦ rw e (ap (λ x. c ∷ x) (name_split cs)) ]

-- a blank or `=` comes first
abbrev pub begins_end : List ℕ → Bool
begins_end [] = false
begins_end (c ∷ cs) = ends_name c

word_byte : (c : ℕ) → is_word_byte c ≡ true → ends_name c ≡ false
word_byte c h = grind (arith, nat_tests)

letter : (c : ℕ) → is_letter c ≡ true → is_word_byte c ≡ true
letter c h = grind (arith, nat_tests)

join_name : (name rest : List ℕ) → list_all is_word_byte name ≡ true → begins_end rest ≡ true → (name_front (name ++ rest) ≡ name) × (name_back (name ++ rest) ≡ rest)
join_name [] [] h b = cc
join_name [] (c ∷ rest) h b = (rw b refl, rw b refl)
join_name (c ∷ name) rest h b =
    let parts = and_parts (is_word_byte c) (list_all is_word_byte name) h in
    let e : ends_name c ≡ false = word_byte c parts.0 in
    let more = join_name name rest parts.1 b in
    (rw e (ap (λ x. c ∷ x) more.0), rw e more.1)

word_bytes : (name : List ℕ) → is_word name ≡ true → list_all is_word_byte name ≡ true
unfolding is_word
word_bytes [] h = refl
word_bytes (c ∷ name) h =
    let starts = and_parts (starts_word (c ∷ name)) (not (is_reserved (c ∷ name))) h in
    let parts = and_parts (is_letter c) (list_all is_word_byte name) starts.0 in
    let e : is_word_byte c ≡ true = letter c parts.0 in
    rw e parts.1

-- a word begins with no blank and no `#`
word_first : (c : ℕ) (name : List ℕ) → is_word (c ∷ name) ≡ true → (is_blank c ≡ false) × ((c == 35) ≡ false)
unfolding is_word
word_first c name h =
    let starts = and_parts (starts_word (c ∷ name)) (not (is_reserved (c ∷ name))) h in
    let parts = and_parts (is_letter c) (list_all is_word_byte name) starts.0 in
    (no_blank c parts.0, no_hash c parts.0)
  where
    no_blank : (c : ℕ) → is_letter c ≡ true → is_blank c ≡ false
    no_blank c h = grind (arith, nat_tests)

    no_hash : (c : ℕ) → is_letter c ≡ true → (c == 35) ≡ false
    no_hash c h = grind (arith, nat_tests)

no_empty_word : is_word [] ≡ true → ⊥
unfolding is_word
no_empty_word h = cc

begins_between : (between behind : List ℕ) → AreBlanks between → begins_end (between ++ 61 ∷ behind) ≡ true
begins_between [] behind h = refl
begins_between (c ∷ between) behind h = let parts = and_parts (is_blank c) (list_all is_blank between) h in let e : is_blank c ≡ true = parts.0 in rw e refl

-- ---- lines

pub idle_found : (line : List ℕ) → IsIdle line → kind_of line ≡ Idle
unfolding kind_of
idle_found line (inl blanks) = rw (blanks_alone line blanks) refl
idle_found line (inr c) =
    let e : without_blanks line ≡ 35 ∷ c.behind = ap without_blanks c.spelled ∙ no_blanks c.before (35 ∷ c.behind) c.blanks_before in
    rw e refl

kind_of_word : (c : ℕ) (name rest behind : List ℕ) (ns : List (List ℕ)) → is_word (c ∷ name) ≡ true → name_front (c ∷ (name ++ rest)) ≡ c ∷ name → name_back (c ∷ (name ++ rest)) ≡ rest
    → without_blanks rest ≡ 61 ∷ behind → numbers_of behind ≡ Some ns → kind_of_bare (c ∷ (name ++ rest)) ≡ Assigned (c ∷ name) ns
kind_of_word c name rest behind ns word front back equals found =
    let hash : (c == 35) ≡ false = (word_first c name word).1 in
    let last : behind_name (c ∷ name) (61 ∷ behind) ≡ Assigned (c ∷ name) ns = rw word (ap (assigned (c ∷ name)) found) in
    let first : behind_name (name_front (c ∷ (name ++ rest))) (without_blanks (name_back (c ∷ (name ++ rest)))) ≡ behind_name (c ∷ name) (without_blanks rest) =
    ap (λ x. behind_name x (without_blanks (name_back (c ∷ (name ++ rest))))) front ∙ ap (λ x. behind_name (c ∷ name) (without_blanks x)) back in
    rw hash (first ∙ ap (behind_name (c ∷ name)) equals ∙ last)

pub assignment_found : (line name : List ℕ) (ns : List (List ℕ)) → IsAssignment line name ns → kind_of line ≡ Assigned name ns
unfolding kind_of
assignment_found line [] ns a = absurd (no_empty_word a.word)
assignment_found line (c ∷ name) ns a =
    let rest : List ℕ = a.between ++ 61 ∷ a.behind in
    let first = word_first c name a.word in
    let no : is_blank c ≡ false = first.0 in
    let stop : without_blanks (c ∷ (name ++ rest)) ≡ c ∷ (name ++ rest) = rw no refl in
    let e : without_blanks line ≡ c ∷ (name ++ rest) = ap without_blanks a.spelled ∙ no_blanks a.before (c ∷ (name ++ rest)) a.blanks_before ∙ stop in
    let cuts = join_name (c ∷ name) rest (word_bytes (c ∷ name) a.word) (begins_between a.between a.behind a.blanks_between) in
    let equals : without_blanks rest ≡ 61 ∷ a.behind = no_blanks a.between (61 ∷ a.behind) a.blanks_between in
    ap kind_of_bare e ∙ kind_of_word c name rest a.behind ns a.word cuts.0 cuts.1 equals (numbers_found a.values)

named : (name other : List ℕ) (ns : List (List ℕ)) (found : Option (List (List ℕ))) → assigned name found ≡ Assigned other ns → (name ≡ other) × (found ≡ Some ns)
named name other ns None h = cc
named name other ns (Some xs) h = (cc, cc)

behind_named : (front rest name : List ℕ) (ns : List (List ℕ)) → behind_name front rest ≡ Assigned name ns → (behind : List ℕ) × (name ≡ front) × (rest ≡ 61 ∷ behind) × (is_word name ≡ true) × (numbers_of behind ≡ Some ns)
behind_named front [] name ns h = cc
behind_named front (c ∷ cs) name ns h = elim (either (c == 61 && is_word front)) [
  | inl e ↦
      let parts = and_parts (c == 61) (is_word front) e in
      let is = named front name ns (numbers_of cs) (rw e at h) in
      let same : c ≡ 61 = same_number c parts.0 in
      (cs, sym is.0, ap (λ x. x ∷ cs) same, subst (λ n. is_word n ≡ true) is.0 parts.1, is.1)
  | inr e ↦ (let bad = rw e at h in cc)
]
  where
    same_number : (c : ℕ) → (c == 61) ≡ true → c ≡ 61
    same_number c e = grind (arith, nat_tests)

bare_named : (bare name : List ℕ) (ns : List (List ℕ)) → kind_of_bare bare ≡ Assigned name ns → behind_name (name_front bare) (without_blanks (name_back bare)) ≡ Assigned name ns
bare_named bare name ns h = elim (either (says_nothing bare)) [ inl e ↦ (let bad = rw e at h in cc) | inr e ↦ rw e at h ]

pub assignment_is : (line name : List ℕ) (ns : List (List ℕ)) → kind_of line ≡ Assigned name ns → IsAssignment line name ns
unfolding kind_of
assignment_is line name ns h =
    let b = bare line in
    let n = behind_named (name_front (without_blanks line)) (without_blanks (name_back (without_blanks line))) name ns (bare_named (without_blanks line) name ns h) in
    let r = bare (name_back (without_blanks line)) in
    let rest : name_back (without_blanks line) ≡ r.before ++ 61 ∷ n.0 = r.is ∙ ap (λ x. r.before ++ x) n.2 in
    record {
      before = b.before;
      between = r.before;
      behind = n.0;
      spelled = b.is ∙ ap (λ x. b.before ++ x) (name_split (without_blanks line) ∙ ap (λ x. x ++ name_back (without_blanks line)) (sym n.1) ∙ ap (λ x. name ++ x) rest);
      blanks_before = b.blanks;
      word = n.3;
      blanks_between = r.blanks;
      values = numbers_are n.0 ns n.4;
    }

no_idle : (front rest : List ℕ) → behind_name front rest ≡ Idle → ⊥
no_idle front [] h = cc
no_idle front (c ∷ cs) h = elim (either (c == 61 && is_word front)) [
  | inl e ↦ assigned_no (numbers_of cs) (rw e at h)
  | inr e ↦ (let bad = rw e at h in cc)
]
  where
    assigned_no : (found : Option (List (List ℕ))) → assigned front found ≡ Idle → ⊥
    assigned_no None h = cc
    assigned_no (Some xs) h = cc

bare_idle : (text : List ℕ) → kind_of_bare text ≡ Idle → says_nothing text ≡ true
bare_idle text h = elim (either (says_nothing text)) [ inl e ↦ e | inr e ↦ absurd (no_idle (name_front text) (without_blanks (name_back text)) (rw e at h)) ]

idle_by : (line before rest : List ℕ) → AreBlanks before → line ≡ before ++ rest → says_nothing rest ≡ true → IsIdle line
idle_by line before [] blanks is h = inl (subst AreBlanks (sym (is ∙ append-nil before)) blanks)
idle_by line before (c ∷ rest) blanks is h =
    let same : c ≡ 35 = same_number c h in
    inr (record { before = before; behind = rest; spelled = is ∙ ap (λ x. before ++ x ∷ rest) same; blanks_before = blanks })
  where
    same_number : (c : ℕ) → (c == 35) ≡ true → c ≡ 35
    same_number c e = grind (arith, nat_tests)

pub idle_is : (line : List ℕ) → kind_of line ≡ Idle → IsIdle line
unfolding kind_of
idle_is line h = let b = bare line in idle_by line b.before (without_blanks line) b.blanks b.is (bare_idle (without_blanks line) h)
