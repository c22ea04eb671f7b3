-- The loop over the pieces.
use Rattle.std.proofs.Common.{◌≡◌, ◌∙◌, sym, ap, subst, refl, ℕ, ◌+◌, ◌-◌, ◌<◌, ◌≤◌, List, [], ◌∷◌, ◌++◌, arith, take, drop, length, append_assoc, append-nil, true}
use Rattle.std.proofs.lemmas.List.{drop-drop, drop_all, length-drop, take_rest}
use Rattle.heco_lex.specs.Kinds.{is_blank}
use Rattle.heco_lex.specs.Splits.{IsLongest, begins_comment, line_rest, token_at, Splits, BadAt, nothing, blank, comment, token, after_blank, after_comment, after_token}
use Rattle.heco_lex.specs.Pieces.{BlankFirst}
use Rattle.heco_lex.specs.Places.{place_in}
use Rattle.heco_lex.specs.Steps.{IsStep, IsBadPlace, StepRefused, IsRefusal}
use Rattle.heco_lex.specs.Pieces.{IsPiece}
use Rattle.heco_lex.specs.declared.piece.Piece.{Piece}
use Rattle.heco_lex.specs.declared.split.LexErr.{LexErr}
use Rattle.heco_lex.specs.declared.split.LexErr.TheVariants as e
use Rattle.heco_lex.specs.declared.place.Place.{Place}
use Rattle.heco_lex.specs.declared.token.Token.{Token}
use Rattle.heco_lex.specs.declared.token.TokenKind.{TokenKind}
use Rattle.heco_lex.proofs.Unique.{no_split_bad}

-- what is found up to an offset, whatever the rest of the text gives
pub record Advanced (text : List ℕ) (at : ℕ) (found : List Token) : Type 0 where
  pub within : at ≤ length text
  pub splits : (ts us : List Token) → Splits at (drop at text) us → ts ≡ found ++ us → Splits 0 text ts
  pub bad : (o : ℕ) → BadAt at (drop at text) o → BadAt 0 text o

pub begin : (text : List ℕ) → Advanced text 0 []
begin text = record { within = omega arith; splits = λ ts us s e. subst (λ v. Splits 0 text v) (sym e) s; bad = λ o b. b }

pub advance : (text : List ℕ) (at next : ℕ) (old new : List Token) → Advanced text at old → IsStep text at next old new → Advanced text next new
advance text at next old new a s = record {
  within = s.within;
  splits = λ ts us r e. (let v = s.splits ts us r e in a.splits ts v.0 v.2 v.1);
  bad = λ o b. a.bad o (s.bad o b);
}

pub ended : (text : List ℕ) (at : ℕ) (found : List Token) → Advanced text at found → length text ≤ at → Splits 0 text found
ended text at found a le = a.splits found [] (subst (λ v. Splits at v []) (sym (drop_all at text le)) nothing) (sym (append-nil found))

pub refused : (text : List ℕ) (at : ℕ) (found : List Token) (place : Place) → Advanced text at found → BadAt at (drop at text) at → place ≡ place_in text at → IsBadPlace text place
refused text at found place a b e = record { offset = at; bad = a.bad at b; is = e; no_split = λ ts s. no_split_bad s (a.bad at b) }

head_tail : (xs : List ℕ) → BlankFirst xs → (c : ℕ) × (cs : List ℕ) × (xs ≡ c ∷ cs) × (is_blank c ≡ true)
head_tail [] h = absurd h
head_tail (c ∷ cs) h = (c, cs, refl, h)

pub step_blank : (text : List ℕ) (at : ℕ) (found : List Token) → at < length text → BlankFirst (drop at text) → IsStep text at (at + 1) found found
step_blank text at found lt h =
    let p = head_tail (drop at text) h in
    let e : drop (at + 1) text ≡ p.1 = sym (drop-drop 1 at text) ∙ ap (drop 1) p.2 in
    record {
      rises = omega arith;
      within = omega arith;
      splits = λ ts us s f. (us, f, subst (λ v. Splits at v us) (sym p.2) (blank p.3 (subst (λ v. Splits (at + 1) v us) e s)));
      bad = λ o b. subst (λ v. BadAt at v o) (sym p.2) (after_blank p.3 (subst (λ v. BadAt (at + 1) v o) e b));
    }

pub step_comment : (text : List ℕ) (at n : ℕ) (found : List Token) → at < length text → begins_comment (drop at text) ≡ true → n ≡ line_rest (drop at text) → 0 < n → n ≤ length (drop at text)
    → IsStep text at (at + n) found found
step_comment text at n found lt h same some le =
    let d : drop (at + n) text ≡ drop n (drop at text) = sym (drop-drop n at text) in
    record {
      rises = omega arith;
      within = omega (arith, length-drop at text);
      splits = λ ts us s f. (us, f, comment h (subst (λ k. Splits (at + k) (drop k (drop at text)) us) same (subst (λ v. Splits (at + n) v us) d s)));
      bad = λ o b. after_comment h (subst (λ k. BadAt (at + k) (drop k (drop at text)) o) same (subst (λ v. BadAt (at + n) v o) d b));
    }

pub step_token : (text : List ℕ) (at n : ℕ) (kind : TokenKind) (old new : List Token) → at < length text → IsLongest (drop at text) n kind → 0 < n → new ≡ old ++ token_at at n kind ∷ []
    → IsStep text at (at + n) old new
step_token text at n kind old new lt l some e =
    let d : drop (at + n) text ≡ drop n (drop at text) = sym (drop-drop n at text) in
    let within : n ≤ length (drop at text) = l.within in
    record {
      rises = omega arith;
      within = omega (arith, length-drop at text);
      splits = λ ts us s f. (token_at at n kind ∷ us, f ∙ ap (λ v. v ++ us) e ∙ append_assoc old (token_at at n kind ∷ []) us, token l (subst (λ v. Splits (at + n) v us) d s));
      bad = λ o b. after_token l (subst (λ v. BadAt (at + n) v o) d b);
    }

pub here_piece : (text : List ℕ) (at : ℕ) (p : Piece) → IsPiece (take (length text - at) (drop at text)) p → IsPiece (drop at text) p
here_piece text at p h = subst (λ v. IsPiece v p) (take_rest text at) h

pub refused_by : (text : List ℕ) (at : ℕ) (found : List Token) (x : LexErr) → Advanced text at found → StepRefused text at x → IsRefusal text x
refused_by text at found (e.BadByte place) a r = refused text at found place a r.0 r.1
refused_by text at found e.Memory a r = tt
