-- Definitions.
use Rattle.std.proofs.Common.{◌≡◌, ◌∙◌, ap, ℕ, suc, List, [], ◌∷◌, ◌++◌, true, false, None, ◌⊎◌}
use Rattle.heco_lex.specs.declared.place.Place.{Place}
use Rattle.heco_lex.specs.declared.token.TokenKind.TheVariants as k
use Rattle.heco_syntax.specs.Parts.{place_of, ident_of, comma, comma_by, def_sign, def_sign_by}
use Rattle.heco_syntax.specs.Productions.{Spells, IsOne, IsNothing, Then, Many}
use Rattle.heco_syntax.specs.Sources as g
use Rattle.heco_syntax.specs.declared.lexeme.Lexeme.{Lexeme}
use Rattle.heco_syntax.specs.declared.tree.Ident.{Ident}
use Rattle.heco_expressions.specs.Reading.{is_at, signed, behind}
use Rattle.heco_expressions.proofs.Verdicts.{kinds_same}
use Rattle.heco_statements.specs.Reading as read
use Rattle.heco_statements.proofs.Readers.{four_of, same_four, Reader, Any, then_reader, then_any, one_reader, done_reader, either_reader, one_starts, then_starts}
use Rattle.heco_statements.proofs.Series.{adds_reader}
use Rattle.heco_statements.proofs.StatementReaders.{narrow, same_reader, listed, unlisted, alone, unalone, value_reader}

abbrev NoComma : List Lexeme → Type 0
NoComma rest = signed comma rest ≡ None

abbrev AtClose : List Lexeme → Type 0
AtClose rest = is_at k.Close rest ≡ true

more_words_reader : (x : Ident) → Reader (read.more_words x) (same_four (Then (Many (g.after_comma g.word)) (λ xs. IsNothing (x ∷ xs)))) NoComma
more_words_reader x = same_reader
    (adds_reader comma {I = λ at. same_four g.word} (λ at. one_reader ident_of k.Word) NoComma (λ rest f. f) (λ us xs rest i f. tt) (λ us xs rest i f. tt) (x ∷ []))
    (same_four (Then (Many (g.after_comma g.word)) (λ xs. IsNothing (x ∷ xs))))
    (listed (g.after_comma g.word) x) (unlisted (g.after_comma g.word) x) (listed (g.after_comma g.word) x) (unlisted (g.after_comma g.word) x) (listed (g.after_comma g.word) x) (unlisted (g.after_comma g.word) x)

some_words_reader : Reader read.some_words (same_four g.some_words) NoComma
some_words_reader = then_any (one_reader ident_of k.Word) more_words_reader

close_no_comma : (rest : List Lexeme) → AtClose rest → NoComma rest
close_no_comma [] h = cc
close_no_comma (t ∷ ts) h = ap (λ a. behind ts (comma_by t.at a)) (kinds_same t.kind k.Close h)

words_reader : Reader read.words (same_four (λ us x. g.no_words us x ⊎ g.some_words us x)) AtClose
words_reader = either_reader k.Close (narrow (done_reader []) AtClose (λ rest f. tt)) (narrow some_words_reader AtClose close_no_comma)
    (λ us x rest i f. ap (λ v. is_at k.Close (v ++ rest)) i.all ∙ f) (λ us x rest i f. ap (λ v. is_at k.Close (v ++ rest)) i.all ∙ f)
    (λ us x rest i f. some_first us x rest i) (λ us x rest i f. some_first us x rest i)
  where
    some_first : (us : List Lexeme) (x : List Ident) (rest : List Lexeme) → g.some_words us x → is_at k.Close (us ++ rest) ≡ false
    some_first us x rest i = then_starts g.word _ k.Close false (one_starts ident_of k.Word k.Close) us x rest i

params_reader : Reader read.params (same_four g.params) Any
params_reader = then_any (one_reader place_of k.Open) (λ o. then_reader words_reader (λ xs. then_any (one_reader place_of k.Close) (λ c. done_reader xs))
    (λ xs us y rest i f. then_starts (IsOne place_of k.Close) _ k.Close true (one_starts place_of k.Close k.Close) us y rest i)
    (λ xs us y rest i f. then_starts (IsOne place_of k.Close) _ k.Close true (one_starts place_of k.Close k.Close) us y rest i))

-- no definition follows
abbrev NoDefinition : List Lexeme → Type 0
NoDefinition rest = signed def_sign rest ≡ None

-- what begins with "fn" is no definition
pub function_ends : {B : Type 0} (Q : Place → Spells B) (us : List Lexeme) (y : B) (rest : List Lexeme) → Then (IsOne place_of k.Fn) Q us y → NoDefinition (us ++ rest)
function_ends Q us y rest t =
    let e : us ++ rest ≡ t.first.t ∷ (t.back ++ rest) = ap (λ v. v ++ rest) (t.all ∙ ap (λ v. v ++ t.back) t.first.all) in
    ap (λ v. signed def_sign v) e ∙ ap (λ a. behind (t.back ++ rest) (def_sign_by t.first.t.at a)) t.first.is

module _ (n m : ℕ) where
  definition_reader : (at : Place) → Reader (read.definition_from n at) (four_of (λ l. g.definition_from l at) n m) Any
  definition_reader at = then_any (one_reader ident_of k.Word) (λ name. then_any params_reader (λ xs. then_any (one_reader place_of k.Assign) (λ a. then_any (value_reader n m) (λ x.
      done_reader (record { at = at; name = name; params = xs; value = x })))))

  pub definitions_reader : Reader (read.definitions n) (four_of (λ l. Many (g.definition l)) n m) NoDefinition
  definitions_reader = same_reader
      (adds_reader def_sign {I = λ at. four_of (λ l. g.definition_from l at) n m} definition_reader NoDefinition (λ rest f. f) (λ us xs rest i f. tt) (λ us xs rest i f. tt) [])
      (four_of (λ l. Many (g.definition l)) n m)
      (alone (g.definition n)) (unalone (g.definition n)) (alone (g.definition n)) (unalone (g.definition n)) (alone (g.definition (suc n))) (unalone (g.definition m))
