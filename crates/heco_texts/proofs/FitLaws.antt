-- The rows that are read fit their shapes.
use Rattle.std.proofs.Common.{◌≡◌, ◌≢◌, ◌∙◌, inl, inr, refl, sym, ap, subst, ℕ, zero, suc, ◌+◌, ◌<◌, ◌≤◌, Bool, true, false, List, [], ◌∷◌, ◌++◌, length, take, get_or, Option, Some, None, Result, Ok, Err, arith, append_assoc, add-one}
use Rattle.std.specs.Prelude.{◌==◌, IfOk, map, nat_lt, is_some, is_none, unwrap_or}
use Rattle.std.specs.List.{list_all, position_from}
use Rattle.std.specs.Str.{bytes_eq}
use Rattle.std.specs.Cmp.Lexicographic.{same_text, other_text}
use Rattle.std.proofs.lemmas.List.{take_more, take_all}
use Rattle.heco_nums.specs.declared.shape.Shape.{Shape}
use Rattle.heco_nums.specs.declared.shape.Values.{Values}
use Rattle.heco_texts.specs.Answers.{IsRead, HaveFit, HaveOwnNames}
use Rattle.heco_texts.specs.Kinds.{LineKind, Idle, Assigned, Formless, kind_of}
use Rattle.heco_texts.specs.Lines.{lines}
use Rattle.heco_texts.specs.Numbers.{value_of}
use Rattle.heco_texts.specs.Rules.{given_by, given_of, len_named, row_named, rule_of, rule_of_name, row_of, rows_of, NoneBroken}
use Rattle.heco_texts.specs.declared.error.InputErr.{InputErr}
use Rattle.heco_texts.specs.declared.given.Given.{Given}
use Rattle.heco_texts.proofs.LineLaws.{flat_map_push}
use Rattle.heco_texts.proofs.NumberLaws.{either}
use Rattle.heco_texts.proofs.RuleLaws.{none_below}

-- each given row has the length of the shape with its name, and values below t
abbrev pub AllSound : ℕ → List Shape → List Given → Type 0
AllSound t shapes [] = Unit {0}
AllSound t shapes (g ∷ given) = (len_named g.name shapes ≡ Some (length g.row)) × (list_all (λ v. nat_lt v t) g.row ≡ true) × AllSound t shapes given

sound_join : (t : ℕ) (shapes : List Shape) (xs ys : List Given) → AllSound t shapes xs → AllSound t shapes ys → AllSound t shapes (xs ++ ys)
sound_join t shapes [] ys a b = b
sound_join t shapes (x ∷ xs) ys a b = (a.0, a.1, sound_join t shapes xs ys a.2 b)

-- where no rule is broken, the shape has as many elements as there are values
counted : (t : ℕ) (earlier : Bool) (len : Option ℕ) (values : List ℕ) → rule_of_name t earlier len values ≡ None → len ≡ Some (length values)
counted t earlier None values h = cc
counted t true (Some len) values h = cc
counted t false (Some len) values h = elim (either (length values == len)) [
  | inl k ↦ ap Some (sym (same_number (length values) len k))
  | inr k ↦ (let bad = rw k at h in cc)
]
  where
    same_number : (a b : ℕ) → (a == b) ≡ true → a ≡ b
    same_number a b e = grind arith

sound_kind : (t : ℕ) (shapes : List Shape) (given : List Given) (kind : LineKind) → rule_of t shapes given kind ≡ None → AllSound t shapes (given_of kind)
sound_kind t shapes given Idle h = tt
sound_kind t shapes given Formless h = tt
sound_kind t shapes given (Assigned name numbers) h =
    (counted t (is_some (row_named name given)) (len_named name shapes) (map value_of numbers) h, none_below t (is_some (row_named name given)) (len_named name shapes) (map value_of numbers) h, tt)

sound_to : (t : ℕ) (shapes : List Shape) (ls : List (List ℕ)) → NoneBroken t shapes ls → (i : ℕ) → i ≤ length ls → AllSound t shapes (given_by (take i ls))
sound_to t shapes ls none zero le = tt
sound_to t shapes ls none (suc i) le =
    let lt : i < length ls = omega arith in
    let more : take (suc i) ls ≡ take i ls ++ get_or ls i [] ∷ [] = rw add-one at (take_more ls i [] lt) in
    let is : given_by (take (suc i) ls) ≡ given_by (take i ls) ++ given_of (kind_of (get_or ls i [])) = ap given_by more ∙ flat_map_push (λ l. given_of (kind_of l)) (take i ls) (get_or ls i []) in
    subst (AllSound t shapes) (sym is) (sound_join t shapes (given_by (take i ls)) (given_of (kind_of (get_or ls i []))) (sound_to t shapes ls none i (omega arith)) (sound_kind t shapes (given_by (take i ls)) (kind_of (get_or ls i [])) (none i lt)))

sound : (t : ℕ) (shapes : List Shape) (ls : List (List ℕ)) → NoneBroken t shapes ls → AllSound t shapes (given_by ls)
sound t shapes ls none = subst (λ xs. AllSound t shapes (given_by xs)) (take_all (length ls) ls (omega arith)) (sound_to t shapes ls none (length ls) (omega arith))

-- a row that was given with a name fits
record Fits (t : ℕ) (shapes : List Shape) (name row : List ℕ) : Type 0 where
  len : len_named name shapes ≡ Some (length row)
  below : list_all (λ v. nat_lt v t) row ≡ true

named_fits : (t : ℕ) (shapes : List Shape) (given : List Given) (name row : List ℕ) → AllSound t shapes given → row_named name given ≡ Some row → Fits t shapes name row
named_fits t shapes [] name row s is = cc
named_fits t shapes (g ∷ given) name row s is = elim (either (bytes_eq g.name name)) [
  | inl e ↦
      let same : g.name ≡ name = same_text g.name name (sym e) in
      let found : Some g.row ≡ Some row = rw e at is in
      let row_is : g.row ≡ row = cc in
      record {
        len = subst (λ n. len_named n shapes ≡ Some (length row)) same (subst (λ r. len_named g.name shapes ≡ Some (length r)) row_is s.0);
        below = subst (λ r. list_all (λ v. nat_lt v t) r ≡ true) row_is s.1;
      }
  | inr e ↦ named_fits t shapes given name row s.2 (rw e at is)
]

-- ---- names of shapes

-- no shape of the list has the name
abbrev pub NoneNamed : List ℕ → List Shape → Type 0
NoneNamed name [] = Unit {0}
NoneNamed name (s ∷ shapes) = (name ≢ s.name) × NoneNamed name shapes

abbrev pub Distinct : List Shape → Type 0
Distinct [] = Unit {0}
Distinct (s ∷ shapes) = NoneNamed s.name shapes × Distinct shapes

none_named : (name : List ℕ) (shapes : List Shape) → ((k : ℕ) (d : Shape) → k < length shapes → name ≢ (get_or shapes k d).name) → NoneNamed name shapes
none_named name [] h = tt
none_named name (s ∷ shapes) h = (h 0 s (omega arith), none_named name shapes (λ k d lt. h (suc k) d (omega arith)))

pub distinct : (shapes : List Shape) → HaveOwnNames shapes → Distinct shapes
distinct [] h = tt
distinct (s ∷ shapes) h = (none_named s.name shapes (λ k d lt. h 0 (suc k) d (omega arith) (omega arith)), distinct shapes (λ i j d lt le. h (suc i) (suc j) d (omega arith) (omega arith)))

not_named : (name : List ℕ) (front : List Shape) (s : Shape) (rest : List Shape) → NoneNamed name (front ++ s ∷ rest) → name ≢ s.name
not_named name [] s rest h = h.0
not_named name (f ∷ front) s rest h = not_named name front s rest h.1

same_is : (text : List ℕ) → bytes_eq text text ≡ true
same_is text = elim (either (bytes_eq text text)) [ inl e ↦ e | inr e ↦ absurd (other_text text text (sym e) refl) ]

other_is : (a b : List ℕ) → a ≢ b → bytes_eq a b ≡ false
other_is a b ne = elim (either (bytes_eq a b)) [ inl e ↦ absurd (ne (same_text a b (sym e))) | inr e ↦ e ]

own_len : (front : List Shape) (s : Shape) (rest : List Shape) → Distinct (front ++ s ∷ rest) → len_named s.name (front ++ s ∷ rest) ≡ Some s.len
own_len [] s rest h = let e : bytes_eq s.name s.name ≡ true = same_is s.name in rw e refl
own_len (f ∷ front) s rest h =
    let e : bytes_eq f.name s.name ≡ false = other_is f.name s.name (not_named f.name front s rest h.0) in
    rw e (own_len front s rest h.1)

-- ---- the rows

given_row : (given : List Given) (i : ℕ) (s : Shape) (rest : List Shape) → position_from (λ x. is_none (row_named x.name given)) i (s ∷ rest) ≡ None
    → (row_named s.name given ≡ Some (row_of given s)) × (position_from (λ x. is_none (row_named x.name given)) (i + 1) rest ≡ None)
given_row given i s rest h = by_row (row_named s.name given) refl
  where
    by_row : (o : Option (List ℕ)) → row_named s.name given ≡ o → (row_named s.name given ≡ Some (row_of given s)) × (position_from (λ x. is_none (row_named x.name given)) (i + 1) rest ≡ None)
    by_row None e = (let bad = rw e at h in cc)
    by_row (Some row) e = (e ∙ ap Some (sym (ap (λ o. unwrap_or o []) e)), rw e at h)

fit_behind : (t : ℕ) (all : List Shape) (given : List Given) → AllSound t all given → Distinct all → (i : ℕ) (front shapes : List Shape) → all ≡ front ++ shapes
    → position_from (λ x. is_none (row_named x.name given)) i shapes ≡ None → HaveFit t shapes (rows_of given shapes)
fit_behind t all given s d i front [] is none = tt
fit_behind t all given s d i front (x ∷ shapes) is none =
    let parts = given_row given i x shapes none in
    let fit = named_fits t all given x.name (row_of given x) s parts.0 in
    let own : len_named x.name all ≡ Some x.len = subst (λ a. len_named x.name a ≡ Some x.len) (sym is) (own_len front x shapes (subst Distinct is d)) in
    let len : len_named x.name all ≡ Some (length (row_of given x)) = fit.len in
    let same : length (row_of given x) ≡ x.len = cc in
    (same, fit.below, fit_behind t all given s d (i + 1) (front ++ x ∷ []) shapes (is ∙ sym (append_assoc front (x ∷ []) shapes)) parts.1)

pub fits : (t : ℕ) (shapes : List Shape) (text : List ℕ) (result : Result Values InputErr) → HaveOwnNames shapes → IfOk result (IsRead t shapes text) → IfOk result (λ v. HaveFit t shapes v.rows)
fits t shapes text (Ok v) own read =
    subst (HaveFit t shapes) (sym read.rows) (fit_behind t shapes (given_by (lines text)) (sound t shapes (lines text) read.kept) (distinct shapes own) 0 [] shapes refl read.all)
fits t shapes text (Err e) own read = tt
