-- The tokens of statements with blocks.
use Rattle.std.proofs.Common.{◌≡◌, ◌∙◌, sym, ap, List, [], ◌++◌, Some, None, map, append_assoc, append-nil}
use Rattle.std.specs.List.{flat_map}
use Rattle.heco_lex.specs.declared.place.Place.{Place}
use Rattle.std.proofs.lemmas.List.Folds.{flat_map-map}
use Rattle.heco_print.specs.Statements.{loop, loop_head, block, choice, choice_head, otherwise, stmt_step, spelled_stmt}
use Rattle.heco_syntax.specs.declared.lexeme.Lexeme.{Lexeme}
use Rattle.heco_syntax.specs.declared.tree.Expr.{Expr}
use Rattle.heco_syntax.specs.declared.tree.Ident.{Ident}
use Rattle.heco_syntax.specs.declared.tree.Stmt.{Stmt, fold-roll-Stmt}
use Rattle.heco_syntax.specs.declared.tree.Stmt.TheVariants as s
use Rattle.heco_syntax.specs.declared.tree.Stmt.TheOpen.{Stmt-F}

pub spelled_loop : (at : Place) (name : Ident) (low high : Expr) (body : List Stmt) → spelled_stmt (s.Loop at name low high body) ≡ loop at name low high (flat_map spelled_stmt body)
spelled_loop at name low high body =
    ap spelled_stmt (sym (s.rolls-Loop at name low high body)) ∙ fold-roll-Stmt (List Lexeme) stmt_step (Stmt-F.Loop at name low high body)
    ∙ ap (loop at name low high) (flat_map-map (λ ts. ts) spelled_stmt body)

pub loop_tokens : (out mid all : List Lexeme) (at : Place) (name : Ident) (low high : Expr) (body : List Stmt) → mid ≡ out ++ loop_head at name low high → all ≡ mid ++ block body → all ≡ out ++ spelled_stmt (s.Loop at name low high body)
loop_tokens out mid all at name low high body h g =
    g ∙ ap (λ v. v ++ block body) h ∙ append_assoc out (loop_head at name low high) (block body) ∙ ap (λ v. out ++ v) (sym (spelled_loop at name low high body))

pub spelled_if : (at : Place) (test : Expr) (body : List Stmt) → spelled_stmt (s.Choice at test body None) ≡ choice at test (flat_map spelled_stmt body) []
spelled_if at test body =
    ap spelled_stmt (sym (s.rolls-Choice at test body None)) ∙ fold-roll-Stmt (List Lexeme) stmt_step (Stmt-F.Choice at test body None)
    ∙ ap (λ v. choice at test v []) (flat_map-map (λ ts. ts) spelled_stmt body)

pub spelled_either : (at : Place) (test : Expr) (body other : List Stmt) → spelled_stmt (s.Choice at test body (Some other)) ≡ choice at test (flat_map spelled_stmt body) (otherwise (flat_map spelled_stmt other))
spelled_either at test body other =
    ap spelled_stmt (sym (s.rolls-Choice at test body (Some other))) ∙ fold-roll-Stmt (List Lexeme) stmt_step (Stmt-F.Choice at test body (Some other))
    ∙ ap (λ v. choice at test v (otherwise (flat_map (λ ts. ts) (map spelled_stmt other)))) (flat_map-map (λ ts. ts) spelled_stmt body)
    ∙ ap (λ v. choice at test (flat_map spelled_stmt body) (otherwise v)) (flat_map-map (λ ts. ts) spelled_stmt other)

pub if_tokens : (out mid all : List Lexeme) (at : Place) (test : Expr) (body : List Stmt) → mid ≡ out ++ choice_head at test → all ≡ mid ++ block body → all ≡ out ++ spelled_stmt (s.Choice at test body None)
if_tokens out mid all at test body h g =
    g ∙ ap (λ v. v ++ block body) h ∙ append_assoc out (choice_head at test) (block body) ∙ ap (λ v. out ++ (choice_head at test ++ v)) (sym (append-nil (block body)))
    ∙ ap (λ v. out ++ v) (sym (spelled_if at test body))

pub either_tokens : (out mid both all : List Lexeme) (at : Place) (test : Expr) (body other : List Stmt) → mid ≡ out ++ choice_head at test → both ≡ mid ++ block body → all ≡ both ++ otherwise (flat_map spelled_stmt other)
    → all ≡ out ++ spelled_stmt (s.Choice at test body (Some other))
either_tokens out mid both all at test body other h g f =
    let rest = otherwise (flat_map spelled_stmt other) in
    f ∙ ap (λ v. v ++ rest) g ∙ append_assoc mid (block body) rest ∙ ap (λ v. v ++ (block body ++ rest)) h ∙ append_assoc out (choice_head at test) (block body ++ rest)
    ∙ ap (λ v. out ++ v) (sym (spelled_either at test body other))
