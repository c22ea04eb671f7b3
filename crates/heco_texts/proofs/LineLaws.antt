-- Lines of a text, and how far they were read.
use Rattle.std.proofs.Common.{◌≡◌, ◌≢◌, ◌∙◌, ◌⊎◌, inl, inr, refl, sym, ap, ℕ, suc, ◌+◌, ◌-◌, ◌<◌, ◌≤◌, Bool, true, false, List, [], ◌∷◌, ◌++◌, length, take, drop, get_or, Some, None, arith, append_assoc, append-nil, drop-cons, add-one, length-drop, below_more}
use Rattle.std.specs.Prelude.{All, ◌==◌}
use Rattle.std.specs.List.{flat_map}
use Rattle.std.proofs.lemmas.Bool.Decides.{nat_tests}
use Rattle.std.proofs.lemmas.List.{take_more, take_all}
use Rattle.heco_nums.specs.declared.shape.Shape.{Shape}
use Rattle.heco_texts.specs.inside.Fronts.{without_cr}
use Rattle.heco_texts.specs.Lines.{with_first, lines}
use Rattle.heco_texts.specs.Kinds.{kind_of}
use Rattle.heco_texts.specs.Rules.{given_by, given_of, rule_of, broken_at, IsFirstBroken, NoneBroken}
use Rattle.heco_texts.specs.declared.error.InputRule.{InputRule}
use Rattle.heco_texts.specs.declared.given.Given.{Given}

-- ---- the first line

-- no byte is LF
abbrev pub NoLf : List ℕ → Type 0
NoLf [] = Unit {0}
NoLf (c ∷ cs) = (c ≢ 10) × NoLf cs

pub no_lf : (xs : List ℕ) → All (λ c. c ≢ 10) xs → NoLf xs
no_lf [] h = tt
no_lf (c ∷ cs) h = (h 0 c (omega arith), no_lf cs (λ k d lt. h (suc k) d (omega arith)))

other_byte : (c d : ℕ) → c ≢ d → (c == d) ≡ false
other_byte c d h = grind (arith, nat_tests)

one_byte : (c : ℕ) (more : List (List ℕ)) → c ≢ 10 → with_first c (10 ∷ []) ([] ∷ more) ≡ without_cr (c ∷ []) ∷ more
one_byte c more h = let e = other_byte c 10 h in elim (either (c == 13)) [ inl g ↦ rw (e, g) refl | inr g ↦ rw (e, g) refl ]
  where
    either : (b : Bool) → (b ≡ true) ⊎ (b ≡ false)
    either true = inl refl
    either false = inr refl

in_line : (c d : ℕ) (cs line : List ℕ) (more : List (List ℕ)) → c ≢ 10 → d ≢ 10 → with_first c (d ∷ cs) (line ∷ more) ≡ (c ∷ line) ∷ more
in_line c d cs line more h g =
    let e = other_byte c 10 h in let f = other_byte d 10 g in
    elim (either (c == 13)) [ inl k ↦ rw (e, k, f) refl | inr k ↦ rw (e, k) refl ]
  where
    either : (b : Bool) → (b ≡ true) ⊎ (b ≡ false)
    either true = inl refl
    either false = inr refl

-- a line that LF ends
pub ended_line : (x rest : List ℕ) → NoLf x → lines (x ++ 10 ∷ rest) ≡ without_cr x ∷ lines rest
ended_line [] rest h = refl
ended_line (c ∷ []) rest h = one_byte c (lines rest) h.0
ended_line (c ∷ d ∷ cs) rest h =
    ap (with_first c (d ∷ (cs ++ 10 ∷ rest))) (ended_line (d ∷ cs) rest h.1) ∙ in_line c d (cs ++ 10 ∷ rest) (without_cr (d ∷ cs)) (lines rest) h.0 h.1.0

-- a line that the end of the text ends
pub last_line : (c : ℕ) (cs : List ℕ) → NoLf (c ∷ cs) → lines (c ∷ cs) ≡ (c ∷ cs) ∷ []
last_line c [] h = let e = other_byte c 10 h.0 in elim (either (c == 13)) [ inl k ↦ rw (e, k) refl | inr k ↦ rw (e, k) refl ]
  where
    either : (b : Bool) → (b ≡ true) ⊎ (b ≡ false)
    either true = inl refl
    either false = inr refl
last_line c (d ∷ cs) h = ap (with_first c (d ∷ cs)) (last_line d cs h.1) ∙ in_line c d cs (d ∷ cs) [] h.0 h.1.0

pub whole_line : (text : List ℕ) → 0 < length text → All (λ c. c ≢ 10) text → lines text ≡ text ∷ lines []
whole_line [] some h = absurd (omega arith)
whole_line (c ∷ cs) some h = last_line c cs (no_lf (c ∷ cs) h)

cut_last : (c : ℕ) (cs : List ℕ) → get_or (c ∷ cs) (length cs) 0 ≡ 13 → take (length cs) (c ∷ cs) ≡ without_cr (c ∷ cs)
cut_last c [] h = let e : (c == 13) ≡ true = grind (arith, nat_tests) in rw e refl
cut_last c (d ∷ cs) h = ap (λ x. c ∷ x) (cut_last d cs h)

pub cut_cr : (line : List ℕ) → 0 < length line → get_or line (length line - 1) 0 ≡ 13 → take (length line - 1) line ≡ without_cr line
cut_cr [] some h = absurd (omega arith)
cut_cr (c ∷ cs) some h = let e : length (c ∷ cs) - 1 ≡ length cs = omega arith in rw e (cut_last c cs (rw e at h))

kept_last : (c : ℕ) (cs : List ℕ) → get_or (c ∷ cs) (length cs) 0 ≢ 13 → (c ∷ cs) ≡ without_cr (c ∷ cs)
kept_last c [] h = let e : (c == 13) ≡ false = grind (arith, nat_tests) in rw e refl
kept_last c (d ∷ cs) h = ap (λ x. c ∷ x) (kept_last d cs h)

pub kept_cr : (line : List ℕ) → (0 < length line → get_or line (length line - 1) 0 ≢ 13) → line ≡ without_cr line
kept_cr [] h = refl
kept_cr (c ∷ cs) h = let e : length (c ∷ cs) - 1 ≡ length cs = omega arith in kept_last c cs (λ g. h (omega arith) (rw e g))

-- ---- how far lines were read

-- so many lines were read, none broke a rule, and they gave these
pub record Reached (t : ℕ) (shapes : List Shape) (text rest : List ℕ) (given : List Given) (number : ℕ) : Type 0 where
  pub index : ℕ
  pub counted : number ≡ index + 1
  pub few : number + length rest ≤ length text + 1
  pub ahead : drop index (lines text) ≡ lines rest
  pub given_is : given ≡ given_by (take index (lines text))
  pub kept : (k : ℕ) → k < index → broken_at t shapes (lines text) k ≡ None

-- the line at an index, behind so many lines
record IsAt (ls : List (List ℕ)) (i : ℕ) (line : List ℕ) (more : List (List ℕ)) : Type 0 where
  within : i < length ls
  here : get_or ls i [] ≡ line
  behind : drop (i + 1) ls ≡ more
  front : take (i + 1) ls ≡ take i ls ++ line ∷ []

at : (ls : List (List ℕ)) (i : ℕ) (line : List ℕ) (more : List (List ℕ)) → drop i ls ≡ line ∷ more → IsAt ls i line more
at ls i line more is =
    let within : i < length ls = omega (arith, length-drop i ls, ap length is) in
    let cut : drop i ls ≡ get_or ls i [] ∷ drop (suc i) ls = drop-cons ls i [] within in
    let here : get_or ls i [] ≡ line = cc in
    let behind : drop (suc i) ls ≡ more = cc in
    let front : take (i + 1) ls ≡ take i ls ++ get_or ls i [] ∷ [] = take_more ls i [] within in
    record {
      within = within;
      here = here;
      behind = rw add-one behind;
      front = rw here at front;
    }

pub flat_map_push : (f : List ℕ → List Given) (xs : List (List ℕ)) (y : List ℕ) → flat_map f (xs ++ y ∷ []) ≡ flat_map f xs ++ f y
flat_map_push f [] y = append-nil (f y)
flat_map_push f (x ∷ xs) y = ap (λ ys. f x ++ ys) (flat_map_push f xs y) ∙ sym (append_assoc (f x) (flat_map f xs) (f y))

judged : (t : ℕ) (shapes : List Shape) (text : List ℕ) (given : List Given) (i : ℕ) (line : List ℕ) → given ≡ given_by (take i (lines text)) → get_or (lines text) i [] ≡ line
    → broken_at t shapes (lines text) i ≡ rule_of t shapes given (kind_of line)
judged t shapes text given i line g e = rw (e, g) refl

pub next_line : (t : ℕ) (shapes : List Shape) (text rest : List ℕ) (given : List Given) (number : ℕ) (line after : List ℕ) (more : List Given) → Reached t shapes text rest given number
    → lines rest ≡ line ∷ lines after → length after < length rest → rule_of t shapes given (kind_of line) ≡ None → more ≡ given ++ given_of (kind_of line)
    → Reached t shapes text after more (number + 1)
next_line t shapes text rest given number line after more r cut shorter kept is =
    let here = at (lines text) r.index line (lines after) (r.ahead ∙ cut) in
    record {
      index = r.index + 1;
      counted = omega (arith, r.counted);
      few = omega (arith, r.few);
      ahead = here.behind;
      given_is = is ∙ ap (λ g. g ++ given_of (kind_of line)) r.given_is ∙ sym (ap given_by here.front ∙ flat_map_push (λ l. given_of (kind_of l)) (take r.index (lines text)) line);
      kept = below_more _ _ r.kept (judged t shapes text given r.index line r.given_is here.here ∙ kept);
    }

pub first_broken : (t : ℕ) (shapes : List Shape) (text rest : List ℕ) (given : List Given) (number : ℕ) (line after : List ℕ) (rule : InputRule) → Reached t shapes text rest given number
    → lines rest ≡ line ∷ lines after → rule_of t shapes given (kind_of line) ≡ Some rule → IsFirstBroken t shapes (lines text) rule number
first_broken t shapes text rest given number line after rule r cut broken =
    let here = at (lines text) r.index line (lines after) (r.ahead ∙ cut) in
    record {
      index = r.index;
      counted = r.counted;
      within = here.within;
      broken = judged t shapes text given r.index line r.given_is here.here ∙ broken;
      earlier = r.kept;
    }

-- all lines were read
pub all_read : (t : ℕ) (shapes : List Shape) (text rest : List ℕ) (given : List Given) (number : ℕ) → Reached t shapes text rest given number → length rest ≡ 0 → (given ≡ given_by (lines text)) × NoneBroken t shapes (lines text)
all_read t shapes text (c ∷ rest) given number r none = absurd (omega arith)
all_read t shapes text [] given number r none =
    let few : length (lines text) ≤ r.index = omega (arith, length-drop r.index (lines text), ap length r.ahead) in
    (r.given_is ∙ ap given_by (take_all r.index (lines text) few), λ k lt. r.kept k (omega arith))
