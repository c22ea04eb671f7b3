-- The tokens of a split stand one behind another, each with the kind of its bytes.
use Rattle.std.proofs.Common.{◌≡◌, ◌∙◌, sym, ap, ℕ, ◌+◌, ◌-◌, ◌<◌, ◌≤◌, zero, suc, List, [], ◌∷◌, Some, arith, take, drop, length}
use Rattle.std.proofs.lemmas.List.{drop-drop, length-drop}
use Rattle.heco_lex.specs.Kinds.{kind_of}
use Rattle.heco_lex.specs.Splits.{IsLongest, Splits, nothing, blank, comment, token, line_rest, AreSpans}
use Rattle.heco_lex.specs.declared.token.Token.{Token}
use Rattle.heco_lex.specs.declared.token.TokenKind.{TokenKind}

some_bytes : (cs : List ℕ) (n : ℕ) (kind : TokenKind) → IsLongest cs n kind → 0 < n
some_bytes cs zero kind l = let h : kind_of [] ≡ Some kind = l.is_token in cc
some_bytes cs (suc n) kind l = omega arith

pub from_earlier : (text : List ℕ) (at from : ℕ) (ts : List Token) → from ≤ at → AreSpans text at ts → AreSpans text from ts
from_earlier text at from [] le s = tt
from_earlier text at from (t ∷ ts) le s = (omega arith, s.1, s.2, s.3, s.4)

rest_within : (cs : List ℕ) → line_rest cs ≤ length cs
rest_within [] = omega arith
rest_within (c ∷ cs) = grind (arith, rest_within cs)

pub spans : (text : List ℕ) {at : ℕ} {cs : List ℕ} {ts : List Token} → Splits at cs ts → at ≤ length text → cs ≡ drop at text → AreSpans text at ts
spans text nothing le e = tt
spans text (blank {at = at} {c = c} {cs = cs} {ts = ts} h s) le e =
    let some : length (c ∷ cs) ≡ length (drop at text) = ap length e in
    let next : cs ≡ drop (at + 1) text = ap (drop 1) e ∙ drop-drop 1 at text in
    from_earlier text (at + 1) at ts (omega arith) (spans text s (omega (arith, length-drop at text)) next)
spans text (comment {at = at} {cs = cs} {ts = ts} h s) le e =
    let same : length cs ≡ length (drop at text) = ap length e in
    from_earlier text (at + line_rest cs) at ts (omega arith)
    (spans text s (omega (arith, length-drop at text, rest_within cs)) (ap (drop (line_rest cs)) e ∙ drop-drop (line_rest cs) at text))
spans text (token {at = at} {n = n} {cs = cs} {ts = ts} {kind = kind} l s) le e =
    let same : length cs ≡ length (drop at text) = ap length e in
    let some : 0 < n = some_bytes cs n kind l in
    let within : n ≤ length cs = l.within in
    let far : (at + n) - at ≡ n = omega arith in (
      omega arith,
      omega arith,
      omega (arith, length-drop at text),
      ap (λ m. kind_of (take m (drop at text))) far ∙ ap (λ v. kind_of (take n v)) (sym e) ∙ l.is_token,
      spans text s (omega (arith, length-drop at text)) (ap (drop n) e ∙ drop-drop n at text),
    )
