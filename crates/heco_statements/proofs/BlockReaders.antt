-- Blocks, by how many more may open.
use Rattle.std.proofs.Common.{◌≡◌, ap, refl, ℕ, zero, suc, List, [], ◌∷◌, ◌++◌, Bool, true, false}
use Rattle.std.specs.Prelude.{if◌then◌else◌}
use Rattle.heco_lex.specs.declared.token.TokenKind.TheVariants as k
use Rattle.heco_syntax.specs.Limits.{Begins, cut}
use Rattle.heco_syntax.specs.Parts.{place_of}
use Rattle.heco_syntax.specs.Productions.{Spells, IsOne, none}
use Rattle.heco_syntax.specs.Sources.{block_or, no_block}
use Rattle.heco_syntax.specs.Sources as g
use Rattle.heco_syntax.specs.declared.lexeme.Lexeme.{Lexeme}
use Rattle.heco_syntax.specs.declared.tree.Stmt.{Stmt}
use Rattle.heco_expressions.specs.Reading.{Outcome, syntax, nested, is_at, same_kind}
use Rattle.heco_expressions.proofs.Verdicts.{plain, kinds_same}
use Rattle.heco_expressions.proofs.Steady.{Steady, at_steady, nested_steady, syntax_steady}
use Rattle.heco_statements.specs.Reading as read
use Rattle.heco_statements.proofs.Readers.{Four, Verdict, was_syntax, was_nested, Answered, too_deep, Kept, stopped, Reader, Any, one_ends, then_ends, EndsBefore, semi_stops, open_brace_stops, one_starts, then_starts}
use Rattle.heco_statements.proofs.StatementReaders.{braces_reader, barren}

-- a block with d more to open, four times; e is the depth of the widest
abbrev pub block_four : ℕ → ℕ → ℕ → ℕ → Four (List Stmt)
block_four n d m e = record { is = block_or n no_block d; cut = block_or n cut d; deep = block_or (suc n) no_block (suc d); wide = block_or m no_block e }

-- what its first token is
braces_end : (n : ℕ) (B : Spells (List Stmt)) → EndsBefore (g.braces n B)
braces_end n B us x rest i = then_ends (IsOne place_of k.OpenBrace) _ (one_ends place_of k.OpenBrace open_brace_stops) us x rest i

pub wide_ends : (n d : ℕ) → EndsBefore (block_or n no_block d)
unfolding block_or
wide_ends n zero us x rest i = absurd i
wide_ends n (suc d) us x rest i = braces_end n (block_or n no_block d) us x rest i

pub cut_ends : (n d : ℕ) → EndsBefore (block_or n cut d)
unfolding block_or
cut_ends n zero us x rest i = one_ends (λ t. []) k.Semi semi_stops us x rest i
cut_ends n (suc d) us x rest i = braces_end n (block_or n cut d) us x rest i

-- "{" "}" with some brace in front
empty_braces : (n : ℕ) (B : Spells (List Stmt)) (t : Lexeme) → t.kind ≡ k.OpenBrace → g.braces n B (t ∷ plain k.CloseBrace ∷ []) []
empty_braces n B t h = record {
  front = t ∷ [];
  x = t.at;
  back = plain k.CloseBrace ∷ [];
  all = refl;
  first = record { t = t; all = refl; is = h; keeps = refl };
  second = record {
    front = [];
    x = [];
    back = plain k.CloseBrace ∷ [];
    all = refl;
    first = none;
    second = record { front = plain k.CloseBrace ∷ []; x = place_of (plain k.CloseBrace); back = []; all = refl; first = record { t = plain k.CloseBrace; all = refl; is = refl; keeps = refl }; second = record { all = refl; is = refl } };
  };
}

flat_deep : (n : ℕ) → Begins (block_or (suc n) no_block 1) []
unfolding block_or
flat_deep n = record { others = plain k.OpenBrace ∷ plain k.CloseBrace ∷ []; x = []; is = empty_braces (suc n) no_block (plain k.OpenBrace) refl }

flat_cut : (n : ℕ) → Begins (block_or n cut 0) []
unfolding block_or
flat_cut n = record { others = plain k.Semi ∷ []; x = []; is = record { t = plain k.Semi; all = refl; is = refl; keeps = refl } }

flat_told : (n m e : ℕ) (ts : List Lexeme) → Verdict (block_four n 0 m e) ts (read.block n 0 ts)
unfolding read.block block_or
flat_told n m e [] = was_syntax [] [] refl (flat_cut n) (flat_deep n)
flat_told n m e (t ∷ ts) = by (same_kind t.kind k.OpenBrace) refl
  where
    by : (b : Bool) → same_kind t.kind k.OpenBrace ≡ b → Verdict (block_four n 0 m e) (t ∷ ts) (if b then nested (t ∷ ts) else syntax (t ∷ ts))
    by true h = was_nested [] t ts refl (flat_cut n) (record { others = plain k.CloseBrace ∷ []; x = []; is = empty_braces (suc n) no_block t (kinds_same t.kind k.OpenBrace h) })
    by false h = was_syntax [] (t ∷ ts) refl (flat_cut n) (flat_deep n)

flat_is : (n : ℕ) (ts : List Lexeme) (b : Bool) → is_at k.OpenBrace ts ≡ b → read.block n 0 ts ≡ (let o : Outcome (List Stmt) = if b then nested ts else syntax ts in o)
unfolding read.block
flat_is n ts b h = ap (λ (c : Bool). let o : Outcome (List Stmt) = if c then nested ts else syntax ts in o) h

flat_complete : (n m e : ℕ) (us : List Lexeme) (x : List Stmt) → block_or m no_block e us x → (rest : List Lexeme) → Any rest → Answered (read.block n 0 (us ++ rest)) x rest
unfolding block_or
flat_complete n m zero us x i rest f = absurd i
flat_complete n m (suc e) us x i rest f = too_deep (us ++ rest) (flat_is n (us ++ rest) true (then_starts (IsOne place_of k.OpenBrace) _ k.OpenBrace true (one_starts place_of k.OpenBrace k.OpenBrace) us x rest i))

flat_keeps : (n : ℕ) (us : List Lexeme) (x : List Stmt) → block_or n cut 0 us x → (rest : List Lexeme) → Any rest → Kept (read.block n 0 (us ++ rest)) x rest
unfolding block_or
flat_keeps n us x i rest f = stopped (us ++ rest) (flat_is n (us ++ rest) false (one_starts (λ t. []) k.Semi k.OpenBrace us x rest i))

flat_steady : (n : ℕ) → Steady (read.block n 0)
unfolding read.block
flat_steady n = at_steady k.OpenBrace (λ ts. nested ts) (λ ts. syntax ts) nested_steady syntax_steady

flat_weak : (n : ℕ) (P : Spells (List Stmt)) (us : List Lexeme) (x : List Stmt) → block_or n no_block 0 us x → P us x
unfolding block_or
flat_weak n P us x i = absurd i

flat_reader : (n m e : ℕ) → Reader (read.block n 0) (block_four n 0 m e) Any
flat_reader n m e = record {
  verdict = flat_told n m e;
  fill_cut = flat_cut n;
  fill_deep = flat_deep n;
  weak_cut = flat_weak n (block_or n cut 0);
  weak_deep = flat_weak n (block_or (suc n) no_block 1);
  complete = flat_complete n m e;
  keeps = flat_keeps n;
  steady = flat_steady n;
}

pub block_reader : (n m d e : ℕ) → Reader (read.block n d) (block_four n d m e) Any
unfolding read.block block_or
block_reader n m zero e = flat_reader n m e
block_reader n m (suc d) zero = barren (block_or m no_block 0) (λ us x i. i) (braces_reader n m (block_reader n m d 0) (wide_ends m 0) (cut_ends n d))
block_reader n m (suc d) (suc e) = braces_reader n m (block_reader n m d e) (wide_ends m e) (cut_ends n d)
