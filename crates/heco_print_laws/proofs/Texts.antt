-- A printed text splits into the printed tokens.
use Rattle.std.proofs.Common.{◌≡◌, ◌∙◌, sym, ap, subst, refl, ℕ, zero, suc, ◌+◌, ◌-◌, ◌<◌, List, [], ◌∷◌, ◌++◌, None, arith, append_assoc, length, take, drop}
use Rattle.std.specs.Prelude.{codes}
use Rattle.std.proofs.lemmas.List.{take_at, drop-drop}
use Rattle.heco_lex.proofs.SpacedSplits.{spaced_splits}
use Rattle.heco_lex.specs.Kinds.{kind_of}
use Rattle.heco_lex.specs.Spaced.{Spelling, spaced, spaced_tokens}
use Rattle.heco_lex.specs.Splits.{IsLongest, Splits, token, token_at, slice_of}
use Rattle.heco_lex.specs.declared.token.Token.{Token}
use Rattle.heco_lex.specs.declared.token.TokenKind.TheVariants as k
use Rattle.heco_print.specs.Lines.{text_of, spaced_text}
use Rattle.heco_print.specs.Lines as line
use Rattle.heco_print.specs.Spelling.{mark}
use Rattle.heco_syntax.specs.Erasure.{IsLike, Alike, alike_nil, alike}
use Rattle.heco_syntax.specs.Lexemes.{lexeme_of, lexemes_of, value_of}
use Rattle.heco_syntax.specs.Lexemes as kept
use Rattle.heco_syntax.specs.declared.lexeme.Lexeme.{Lexeme}
use Rattle.heco_print_laws.proofs.Fitting.{Each, IsPlain}

spellings : (ts : List Lexeme) → Each IsPlain ts → List Spelling
spellings [] p = []
spellings (t ∷ ts) p = record { kind = t.kind; text = text_of t; fits = p.0.fits } ∷ spellings ts p.1

spaced_is : (ts : List Lexeme) (p : Each IsPlain ts) → spaced (spellings ts p) ≡ spaced_text ts ++ 10 ∷ []
unfolding spellings
spaced_is [] p = refl
spaced_is (t ∷ ts) p = ap (λ v. 32 ∷ (text_of t ++ v)) (spaced_is ts p.1) ∙ ap (λ v. 32 ∷ v) (sym (append_assoc (text_of t) (spaced_text ts) (10 ∷ [])))

like_slice : (text : List ℕ) (t : Lexeme) (u : Token) → IsPlain t → u.kind ≡ t.kind → slice_of text u ≡ text_of t → IsLike t (lexeme_of text u)
like_slice text t u p e h = record {
  kind = e;
  text = ap (λ v. kept.text_of v (slice_of text u)) e ∙ ap (kept.text_of t.kind) h ∙ p.text;
  value = ap (λ v. value_of v (slice_of text u)) e ∙ ap (value_of t.kind) h ∙ p.value;
}

spaced_alike : (text : List ℕ) (at : ℕ) (ts : List Lexeme) (p : Each IsPlain ts) → spaced (spellings ts p) ≡ drop at text → Alike ts (lexemes_of text (spaced_tokens at (spellings ts p)))
unfolding spellings
spaced_alike text at [] p h = alike_nil
spaced_alike text at (t ∷ ts) p h =
    let n = length (text_of t) in
    let next : text_of t ++ spaced (spellings ts p.1) ≡ drop (at + 1) text = ap (drop 1) h ∙ drop-drop 1 at text in
    let far : (at + 1 + n) - (at + 1) ≡ n = omega arith in
    let slice : slice_of text (token_at (at + 1) n t.kind) ≡ text_of t = ap (λ m. take m (drop (at + 1) text)) far ∙ ap (take n) (sym next) ∙ take_at (text_of t) (spaced (spellings ts p.1)) n refl in
    let rest : spaced (spellings ts p.1) ≡ drop (at + 1 + n) text = sym (drop_text (text_of t) (spaced (spellings ts p.1))) ∙ ap (drop n) next ∙ drop-drop n (at + 1) text in
    alike (like_slice text t (token_at (at + 1) n t.kind) p.0 refl slice) (spaced_alike text (at + 1 + n) ts p.1 rest)
  where
    drop_text : (xs ys : List ℕ) → drop (length xs) (xs ++ ys) ≡ ys
    drop_text [] ys = refl
    drop_text (x ∷ xs) ys = drop_text xs ys

-- "params" is the longest token where a space follows
params_longest : (v : List ℕ) (m : ℕ) → 6 < m → kind_of (take m (codes "params" ++ 32 ∷ v)) ≡ None
params_longest v zero lt = absurd (omega arith)
params_longest v (suc zero) lt = absurd (omega arith)
params_longest v (suc (suc zero)) lt = absurd (omega arith)
params_longest v (suc (suc (suc zero))) lt = absurd (omega arith)
params_longest v (suc (suc (suc (suc zero)))) lt = absurd (omega arith)
params_longest v (suc (suc (suc (suc (suc zero))))) lt = absurd (omega arith)
params_longest v (suc (suc (suc (suc (suc (suc zero)))))) lt = absurd (omega arith)
params_longest v (suc (suc (suc (suc (suc (suc (suc m))))))) lt = refl

params_first : (v : List ℕ) → IsLongest (codes "params" ++ 32 ∷ v) 6 k.Params
params_first v = record { within = omega arith; is_token = refl; longest = λ m lt le. params_longest v m lt }

pub record IsLine (text : List ℕ) (ts : List Lexeme) : Type 0 where
  pub tokens : List Token
  pub split : Splits 0 text tokens
  pub like : Alike ts (lexemes_of text tokens)

-- a line of tokens that begins with "params" and one more
pub params_line : (t : Lexeme) (ts : List Lexeme) → Each IsPlain (mark k.Params ∷ t ∷ ts) → IsLine (line.line_of (mark k.Params ∷ t ∷ ts)) (mark k.Params ∷ t ∷ ts)
params_line t ts p =
    let text = line.line_of (mark k.Params ∷ t ∷ ts) in
    let behind = spaced_text (t ∷ ts) ++ 10 ∷ [] in
    let same : spaced (spellings (t ∷ ts) p.1) ≡ behind = spaced_is (t ∷ ts) p.1 in
    record {
      tokens = token_at 0 6 k.Params ∷ spaced_tokens 6 (spellings (t ∷ ts) p.1);
      split = token (params_first (drop 1 behind)) (subst (λ v. Splits 6 v (spaced_tokens 6 (spellings (t ∷ ts) p.1))) same (spaced_splits 6 (spellings (t ∷ ts) p.1)));
      like = alike (like_slice text (mark k.Params) (token_at 0 6 k.Params) p.0 refl refl) (spaced_alike text 6 (t ∷ ts) p.1 same);
    }
