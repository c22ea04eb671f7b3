-- The names of a text's parameters have together no more bytes than the text.
use Rattle.std.proofs.Common.{◌≡◌, refl, ap, ℕ, ◌+◌, ◌-◌, ◌≤◌, Bool, true, false, not, cond, List, [], ◌∷◌, ◌++◌, map, length, drop, Option, Some, None, arith}
use Rattle.std.specs.Prelude.{filter}
use Rattle.std.specs.List.{flat_map}
use Rattle.std.proofs.lemmas.List.{length-take}
use Rattle.heco_nums.specs.declared.shape.Shape.{Shape}
use Rattle.heco_lex.specs.Splits.{AreSpans, slice_of}
use Rattle.heco_lex.specs.declared.token.Token.{Token}
use Rattle.heco_lex.specs.declared.token.TokenKind.{TokenKind}
use Rattle.heco_lex.specs.declared.token.TokenKind.TheVariants as k
use Rattle.heco_lex.proofs.Spans.{spans}
use Rattle.heco_syntax.specs.Kept.{Kept, kept_ident, kept_def, kept_param, kept_source, kept_stmt}
use Rattle.heco_syntax.specs.Lexemes.{lexemes_of, text_of}
use Rattle.heco_syntax.specs.Limits.{levels, depth}
use Rattle.heco_syntax.specs.declared.lexeme.Lexeme.{Lexeme}
use Rattle.heco_syntax.specs.declared.tree.Param.{Param}
use Rattle.heco_syntax.specs.declared.tree.Source.{Source}
use Rattle.heco_parse.specs.Trees.{IsTree}
use Rattle.heco_order.proofs.Picked.{Keeps, Picks, ended, skip, pick}
use Rattle.heco_order.proofs.PickedSources.{source_picked}
use Rattle.heco_types.specs.Shapes.{shape_of, shapes_of}
use Rattle.heco_types.specs.Table.{differ}

-- the bytes of a name
abbrev name_bytes : Option (List ℕ) → ℕ
name_bytes None = 0
name_bytes (Some text) = length text

abbrev kept_bytes : List Kept → ℕ
kept_bytes [] = 0
kept_bytes (x ∷ xs) = name_bytes x.name + kept_bytes xs

abbrev lexeme_bytes : List Lexeme → ℕ
lexeme_bytes [] = 0
lexeme_bytes (t ∷ ts) = length t.text + lexeme_bytes ts

-- the bytes of the names of inputs and outputs
abbrev pub shape_bytes : List Shape → ℕ
shape_bytes [] = 0
shape_bytes (s ∷ ss) = length s.name + shape_bytes ss

abbrev port_bytes : List Param → ℕ
port_bytes [] = 0
port_bytes (p ∷ ps) = length p.name.text + port_bytes ps

-- ---- what is kept of tokens, beside the tokens

kept_one : (t : Lexeme) (x : Kept) → Keeps t x → name_bytes x.name ≤ length t.text
kept_one t x h = by x.name refl
  where
    by : (o : Option (List ℕ)) → x.name ≡ o → name_bytes o ≤ length t.text
    by None e = omega arith
    by (Some text) e = let same : t.text ≡ text = (h.name text e).1 in omega (arith, ap length same)

picked_few : {ts : List Lexeme} {xs : List Kept} → Picks ts xs → kept_bytes xs ≤ lexeme_bytes ts
picked_few ended = omega arith
picked_few (skip {t = t} p) = omega (arith, picked_few p)
picked_few (pick {t = t} {x = x} h p) = omega (arith, kept_one t x h, picked_few p)

text_few : (kind : TokenKind) (bytes : List ℕ) → length (text_of kind bytes) ≤ length bytes
text_few k.Word bytes = omega arith
text_few kind bytes = omega arith

slice_few : (text : List ℕ) (t : Token) → length (slice_of text t) ≤ t.to - t.from
slice_few text t = omega (arith, length-take (t.to - t.from) (drop t.from text))

spans_few : (text : List ℕ) (at : ℕ) (ts : List Token) → at ≤ length text → AreSpans text at ts → at + lexeme_bytes (lexemes_of text ts) ≤ length text
spans_few text at [] l s = omega arith
spans_few text at (t ∷ ts) l s =
    let (from, more, within, kind, rest) = s in
    omega (arith, from, more, text_few t.kind (slice_of text t), slice_few text t, spans_few text t.to ts within rest)

-- ---- the parameters among what is kept

kept_bytes-append : (xs ys : List Kept) → kept_bytes (xs ++ ys) ≡ kept_bytes xs + kept_bytes ys
kept_bytes-append [] ys = omega arith
kept_bytes-append (x ∷ xs) ys = omega (arith, kept_bytes-append xs ys)

ports_few : (ps : List Param) → port_bytes ps ≤ kept_bytes (flat_map kept_param ps)
ports_few [] = omega arith
ports_few (p ∷ ps) = omega (arith, kept_bytes-append (kept_param p) (flat_map kept_param ps), ports_few ps)

source_few : (x : Source) → port_bytes x.ports ≤ kept_bytes (kept_source x)
source_few x =
    omega (
      arith,
      kept_bytes-append (kept_ident x.params) (flat_map kept_def x.defs ++ (kept_ident x.name ++ (flat_map kept_param x.ports ++ flat_map kept_stmt x.body))),
      kept_bytes-append (flat_map kept_def x.defs) (kept_ident x.name ++ (flat_map kept_param x.ports ++ flat_map kept_stmt x.body)),
      kept_bytes-append (kept_ident x.name) (flat_map kept_param x.ports ++ flat_map kept_stmt x.body),
      kept_bytes-append (flat_map kept_param x.ports) (flat_map kept_stmt x.body),
      ports_few x.ports,
    )

one_side : (p : Param) (a b : List Shape) (side : Bool)
    → shape_bytes (cond (not (differ side false)) (shape_of p ∷ a) a) + shape_bytes (cond (not (differ side true)) (shape_of p ∷ b) b) ≡ length p.name.text + (shape_bytes a + shape_bytes b)
one_side p a b true = omega arith
one_side p a b false = omega arith

kept_shape : (p : Param) (rest : List Param) (b : Bool) → map shape_of (cond b (p ∷ rest) rest) ≡ cond b (shape_of p ∷ map shape_of rest) (map shape_of rest)
kept_shape p rest true = refl
kept_shape p rest false = refl

sides : (ps : List Param) → shape_bytes (shapes_of false ps) + shape_bytes (shapes_of true ps) ≡ port_bytes ps
sides [] = refl
sides (p ∷ ps) =
    omega (
      arith,
      ap shape_bytes (kept_shape p (filter (λ q. not (differ q.output false)) ps) (not (differ p.output false))),
      ap shape_bytes (kept_shape p (filter (λ q. not (differ q.output true)) ps) (not (differ p.output true))),
      one_side p (shapes_of false ps) (shapes_of true ps) p.output,
      sides ps,
    )

pub few_names : (text : List ℕ) (x : Source) → IsTree text x → shape_bytes (shapes_of false x.ports) + shape_bytes (shapes_of true x.ports) ≤ length text
few_names text x tree =
    omega (
      arith,
      sides x.ports,
      source_few x,
      picked_few (source_picked levels depth (lexemes_of text tree.tokens) x tree.is),
      spans_few text 0 tree.tokens (omega arith) (spans text tree.split (omega arith) refl),
    )
