-- Facts of each token of a list, and what the tokens of a text are.
use Rattle.std.proofs.Common.{◌≡◌, ◌∙◌, sym, ap, subst, refl, ℕ, ◌^◌, ◌<◌, List, [], ◌∷◌, ◌++◌, Some}
use Rattle.heco_lex.specs.Kinds.{kind_of}
use Rattle.heco_lex.specs.Splits.{AreSpans, slice_of}
use Rattle.heco_lex.specs.declared.token.Token.{Token}
use Rattle.heco_lex.specs.declared.token.TokenKind.TheVariants as k
use Rattle.heco_print.specs.Lines as line
use Rattle.heco_print.specs.Spelling.{word_of, digits_of}
use Rattle.heco_syntax.proofs.KindFacts.{number_digits}
use Rattle.heco_syntax.specs.Lexemes.{lexeme_of, lexemes_of, text_of, value_of}
use Rattle.heco_syntax.specs.declared.lexeme.Lexeme.{Lexeme}
use Rattle.heco_syntax.specs.declared.tree.Ident.{Ident}
use Rattle.heco_syntax.specs.declared.tree.Num.{Num}
use Rattle.heco_print_laws.proofs.Numerals.{number_text, number_value, below}

module _ (P : Lexeme → Type 0) where
  abbrev pub Each : List Lexeme → Type 0
  Each [] = Unit {0}
  Each (t ∷ ts) = P t × Each ts

  pub front_each : (ts us : List Lexeme) → Each (ts ++ us) → Each ts
  front_each [] us h = tt
  front_each (t ∷ ts) us h = (h.0, front_each ts us h.1)

  pub back_each : (ts us : List Lexeme) → Each (ts ++ us) → Each us
  back_each [] us h = h
  back_each (t ∷ ts) us h = back_each ts us h.1

  pub both_each : (ts us : List Lexeme) → Each ts → Each us → Each (ts ++ us)
  both_each [] us h g = g
  both_each (t ∷ ts) us h g = (h.0, both_each ts us h.1 g)

-- a word is a Word, and a number has ten digits at most
pub record Fits (t : Lexeme) : Type 0 where
  pub word : t.kind ≡ k.Word → kind_of t.text ≡ Some k.Word
  pub number : t.kind ≡ k.Number → t.value < 10 ^ 10

-- the printed text is a token of the kind, and has what the lexeme keeps
pub record IsPlain (t : Lexeme) : Type 0 where
  pub fits : kind_of (line.text_of t) ≡ Some t.kind
  pub text : text_of t.kind (line.text_of t) ≡ t.text
  pub value : value_of t.kind (line.text_of t) ≡ t.value

pub plain_word : (id : Ident) → kind_of id.text ≡ Some k.Word → IsPlain (word_of id)
plain_word id h = record { fits = h; text = refl; value = refl }

pub plain_number : (n : Num) → n.value < 10 ^ 10 → IsPlain (digits_of n)
plain_number n h = record { fits = number_text n.value h; text = refl; value = number_value n.value h }

pub lexeme_fits : (text : List ℕ) (t : Token) → kind_of (slice_of text t) ≡ Some t.kind → Fits (lexeme_of text t)
lexeme_fits text t h = record {
  word = λ e. ap (λ v. kind_of (text_of v (slice_of text t))) e ∙ h ∙ ap (λ v. Some v) e;
  number = λ e.
      subst (λ v. value_of v (slice_of text t) < 10 ^ 10) (sym e) (below (slice_of text t) (number_digits (slice_of text t) (h ∙ ap (λ v. Some v) e)));
}

pub lexemes_fit : (text : List ℕ) (at : ℕ) (ts : List Token) → AreSpans text at ts → Each Fits (lexemes_of text ts)
lexemes_fit text at [] s = tt
lexemes_fit text at (t ∷ ts) s = (lexeme_fits text t s.3, lexemes_fit text t.to ts s.4)
