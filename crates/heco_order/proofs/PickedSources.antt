-- What statements and sources keep is picked from their tokens.
use Rattle.std.proofs.Common.{◌≡◌, ◌∙◌, sym, ap, subst, refl, ℕ, zero, suc, List, [], ◌∷◌, ◌++◌, Some, None, Option, append_assoc, ◌⊎◌, map}
use Rattle.std.proofs.lemmas.List.Folds.{flat_map-map}
use Rattle.std.specs.List.{flat_map}
use Rattle.heco_lex.specs.declared.place.Place.{Place}
use Rattle.heco_lex.specs.declared.token.TokenKind.{TokenKind}
use Rattle.heco_lex.specs.declared.token.TokenKind.TheVariants as k
use Rattle.heco_syntax.specs.Kept.{Kept, kept_ident, kept_num, kept_place, kept_expr, kept_some, kept_stmt_step, kept_stmt, kept_param, kept_def, kept_source}
use Rattle.heco_syntax.specs.Parts.{place_of, ident_of, comma, def_sign, def_sign_by, set_op, set_op_of, direction, first_of, first_by}
use Rattle.heco_syntax.specs.Productions.{Spells}
use Rattle.heco_syntax.specs.Sources.{IsSource, IsBlock, block_or}
use Rattle.heco_syntax.specs.Sources as g
use Rattle.heco_syntax.specs.declared.first.First.{First}
use Rattle.heco_syntax.specs.declared.first.First.TheVariants as first
use Rattle.heco_syntax.specs.declared.lexeme.Lexeme.{Lexeme}
use Rattle.heco_syntax.specs.declared.tree.Expr.{Expr}
use Rattle.heco_syntax.specs.declared.tree.Ident.{Ident}
use Rattle.heco_syntax.specs.declared.tree.Num.{Num}
use Rattle.heco_syntax.specs.declared.tree.SetOp.{SetOp}
use Rattle.heco_syntax.specs.declared.tree.Source.{Source}
use Rattle.heco_syntax.specs.declared.tree.Stmt.{Stmt, fold-roll-Stmt}
use Rattle.heco_syntax.specs.declared.tree.Stmt.TheOpen.{Stmt-F}
use Rattle.heco_syntax.specs.declared.tree.Stmt.TheVariants as s
use Rattle.heco_order.proofs.Picked.{Picks, ended, pick, place_kept, word_kept, Carries, Leaves, leaves, picked, adds, then_carries, or_carries, yields_carries, one_passed, known_passed, known_leaves, word_leaves, number_leaves, many_leaves}
use Rattle.heco_order.proofs.PickedExpressions.{sum_picked, placed}

kept_int_one : (at : Place) (name : Ident) (x : Expr) → kept_stmt (s.IntOne at name x) ≡ kept_place at ++ (kept_ident name ++ kept_expr x)
kept_int_one at name x = ap kept_stmt (sym (s.rolls-IntOne at name x)) ∙ fold-roll-Stmt (List Kept) kept_stmt_step (Stmt-F.IntOne at name x)

kept_int_many : (at : Place) (name : Ident) (len : Num) (xs : List Expr) → kept_stmt (s.IntMany at name len xs) ≡ kept_place at ++ (kept_ident name ++ (kept_num len ++ flat_map kept_expr xs))
kept_int_many at name len xs = ap kept_stmt (sym (s.rolls-IntMany at name len xs)) ∙ fold-roll-Stmt (List Kept) kept_stmt_step (Stmt-F.IntMany at name len xs)

kept_secret_one : (at : Place) (name : Ident) (x : Option Expr) → kept_stmt (s.SecretOne at name x) ≡ kept_place at ++ (kept_ident name ++ kept_some kept_expr x)
kept_secret_one at name x = ap kept_stmt (sym (s.rolls-SecretOne at name x)) ∙ fold-roll-Stmt (List Kept) kept_stmt_step (Stmt-F.SecretOne at name x)

kept_secret_many : (at : Place) (name : Ident) (len : Num) → kept_stmt (s.SecretMany at name len) ≡ kept_place at ++ (kept_ident name ++ kept_num len)
kept_secret_many at name len = ap kept_stmt (sym (s.rolls-SecretMany at name len)) ∙ fold-roll-Stmt (List Kept) kept_stmt_step (Stmt-F.SecretMany at name len)

kept_set : (name : Ident) (i : Option Expr) (o : SetOp) (at : Place) (x : Expr) → kept_stmt (s.Set name i o at x) ≡ kept_ident name ++ (kept_some kept_expr i ++ (kept_place at ++ kept_expr x))
kept_set name i o at x = ap kept_stmt (sym (s.rolls-Set name i o at x)) ∙ fold-roll-Stmt (List Kept) kept_stmt_step (Stmt-F.Set name i o at x)

kept_loop : (at : Place) (name : Ident) (low high : Expr) (body : List Stmt) → kept_stmt (s.Loop at name low high body) ≡ kept_place at ++ (kept_ident name ++ (kept_expr low ++ (kept_expr high ++ flat_map kept_stmt body)))
kept_loop at name low high body = ap kept_stmt (sym (s.rolls-Loop at name low high body)) ∙ fold-roll-Stmt (List Kept) kept_stmt_step (Stmt-F.Loop at name low high body)
    ∙ ap (λ v. kept_place at ++ (kept_ident name ++ (kept_expr low ++ (kept_expr high ++ v)))) (flat_map-map (λ p. p) kept_stmt body)

-- what is kept of the second block of a choice, where there is one
abbrev kept_other : Option (List Stmt) → List Kept
kept_other other = kept_some (flat_map kept_stmt) other

kept_choice : (at : Place) (test : Expr) (body : List Stmt) (other : Option (List Stmt)) → kept_stmt (s.Choice at test body other) ≡ kept_place at ++ (kept_expr test ++ (flat_map kept_stmt body ++ kept_other other))
kept_choice at test body None = ap kept_stmt (sym (s.rolls-Choice at test body None)) ∙ fold-roll-Stmt (List Kept) kept_stmt_step (Stmt-F.Choice at test body None)
    ∙ ap (λ v. kept_place at ++ (kept_expr test ++ (v ++ []))) (flat_map-map (λ p. p) kept_stmt body)
kept_choice at test body (Some other) = ap kept_stmt (sym (s.rolls-Choice at test body (Some other))) ∙ fold-roll-Stmt (List Kept) kept_stmt_step (Stmt-F.Choice at test body (Some other))
    ∙ ap (λ v. kept_place at ++ (kept_expr test ++ (v ++ flat_map (λ p. p) (map kept_stmt other)))) (flat_map-map (λ p. p) kept_stmt body)
    ∙ ap (λ v. kept_place at ++ (kept_expr test ++ (flat_map kept_stmt body ++ v))) (flat_map-map (λ p. p) kept_stmt other)

expression_leaves : (n : ℕ) → Leaves (g.expression n) kept_expr
expression_leaves n = leaves (λ ts x i. sum_picked i)

comma_leaves : {A : Type 0} {Item : Spells A} {f : A → List Kept} → Leaves Item f → Leaves (g.after_comma Item) f
comma_leaves l = then_carries (known_passed comma) (λ at. l)

length_leaves : Leaves g.length_in_brackets kept_num
length_leaves = then_carries (one_passed place_of k.OpenBracket) (λ o. then_carries number_leaves (λ len. then_carries (one_passed place_of k.CloseBracket) (λ c. yields_carries len refl)))

index_leaves : (n : ℕ) → Leaves (g.index n) (kept_some kept_expr)
index_leaves zero = leaves (λ ts x i. absurd i)
index_leaves (suc n) = then_carries (one_passed place_of k.OpenBracket) (λ o. then_carries (expression_leaves n) (λ x. then_carries (one_passed place_of k.CloseBracket) (λ c. yields_carries (Some x) refl)))

-- what is kept of the first token of a statement
abbrev kept_first : First → List Kept
kept_first (first.Int at) = kept_place at
kept_first (first.Secret at) = kept_place at
kept_first (first.For at) = kept_place at
kept_first (first.If at) = kept_place at
kept_first (first.Name name) = kept_ident name

module _ (n : ℕ) where
  value_leaves : Leaves (g.value n) kept_expr
  value_leaves = then_carries (expression_leaves n) (λ x. then_carries (one_passed place_of k.Semi) (λ c. yields_carries x refl))

  values_leaves : Leaves (g.values n) (flat_map kept_expr)
  values_leaves = then_carries (expression_leaves n) (λ x. then_carries (adds (kept_expr x) (many_leaves (comma_leaves (expression_leaves n)))) (λ xs. yields_carries (x ∷ xs) refl))

  braced_leaves : Leaves (g.braced_values n) (flat_map kept_expr)
  braced_leaves = then_carries (one_passed place_of k.OpenBrace) (λ o. then_carries values_leaves (λ xs. then_carries (one_passed place_of k.CloseBrace) (λ c. yields_carries xs refl)))

  int_many_carries : (at : Place) (name : Ident) → Carries (kept_place at ++ kept_ident name) (g.int_many n at name) kept_stmt
  int_many_carries at name = then_carries (adds (kept_place at ++ kept_ident name) length_leaves) (λ len. then_carries (one_passed place_of k.Assign) (λ a.
      then_carries (adds (kept_place at ++ (kept_ident name ++ kept_num len)) braced_leaves) (λ xs. then_carries (one_passed place_of k.Semi) (λ c. yields_carries (s.IntMany at name len xs) (sym (kept_int_many at name len xs))))))

  int_one_carries : (at : Place) (name : Ident) → Carries (kept_place at ++ kept_ident name) (g.int_one n at name) kept_stmt
  int_one_carries at name = then_carries (one_passed place_of k.Assign) (λ a. then_carries (adds (kept_place at ++ kept_ident name) value_leaves) (λ x. yields_carries (s.IntOne at name x) (sym (kept_int_one at name x))))

  secret_many_carries : (at : Place) (name : Ident) → Carries (kept_place at ++ kept_ident name) (g.secret_many n at name) kept_stmt
  secret_many_carries at name = then_carries (adds (kept_place at ++ kept_ident name) length_leaves) (λ len. then_carries (one_passed place_of k.Semi) (λ c. yields_carries (s.SecretMany at name len) (sym (kept_secret_many at name len))))

  given_leaves : Leaves (g.given n) (kept_some kept_expr)
  given_leaves = then_carries (one_passed place_of k.Assign) (λ a. then_carries value_leaves (λ x. yields_carries (Some x) refl))

  not_given_leaves : Leaves (g.not_given n) (kept_some kept_expr)
  not_given_leaves = then_carries (one_passed place_of k.Semi) (λ c. yields_carries None refl)

  secret_one_carries : (at : Place) (name : Ident) → Carries (kept_place at ++ kept_ident name) (g.secret_one n at name) kept_stmt
  secret_one_carries at name = then_carries (adds (kept_place at ++ kept_ident name) (or_carries given_leaves not_given_leaves)) (λ x. yields_carries (s.SecretOne at name x) (sym (kept_secret_one at name x)))

  target_leaves : Leaves (λ ts x. g.index n ts x ⊎ g.no_index n ts x) (kept_some kept_expr)
  target_leaves = or_carries (index_leaves n) (yields_carries None refl)

  set_op_leaves : Leaves (g.known set_op) (λ o. kept_place o.1)
  set_op_leaves = known_leaves set_op (λ o. kept_place o.1) (λ t o h. subst (λ (v : Place). Picks (t ∷ []) (kept_place v)) (sym (placed t.at (set_op_of t.kind) o h)) (pick (place_kept t) ended))

  assignment_carries : (name : Ident) → Carries (kept_ident name) (g.assignment n name) kept_stmt
  assignment_carries name = then_carries (adds (kept_ident name) target_leaves) (λ i. then_carries (adds (kept_ident name ++ kept_some kept_expr i) set_op_leaves) (λ o.
      then_carries (adds ((kept_ident name ++ kept_some kept_expr i) ++ kept_place o.1) value_leaves) (λ x. yields_carries (s.Set name i o.0 o.1 x)
      (ap (λ v. kept_ident name ++ v) (append_assoc (kept_some kept_expr i) (kept_place o.1) (kept_expr x)) ∙ sym (kept_set name i o.0 o.1 x)))))

  int_carries : (at : Place) → Carries (kept_place at) (g.int_statement n at) kept_stmt
  int_carries at = then_carries (adds (kept_place at) word_leaves) (λ name. or_carries (int_many_carries at name) (int_one_carries at name))

  secret_carries : (at : Place) → Carries (kept_place at) (g.secret_statement n at) kept_stmt
  secret_carries at = then_carries (adds (kept_place at) word_leaves) (λ name. or_carries (secret_many_carries at name) (secret_one_carries at name))

  bounds_leaves : Leaves (g.bounds n) (λ b. kept_expr b.0 ++ kept_expr b.1)
  bounds_leaves = then_carries (expression_leaves n) (λ low. then_carries (one_passed place_of k.Range) (λ r. then_carries (adds (kept_expr low) (expression_leaves n)) (λ high. yields_carries (low, high) refl)))

  module _ {block : Spells (List Stmt)} (block_leaves : Leaves block (flat_map kept_stmt)) where
    loop_carries : (at : Place) → Carries (kept_place at) (g.loop n block at) kept_stmt
    loop_carries at = then_carries (adds (kept_place at) word_leaves) (λ name. then_carries (one_passed place_of k.In) (λ i. then_carries (adds (kept_place at ++ kept_ident name) bounds_leaves) (λ b.
        then_carries (adds ((kept_place at ++ kept_ident name) ++ (kept_expr b.0 ++ kept_expr b.1)) block_leaves) (λ body. yields_carries (s.Loop at name b.0 b.1 body)
        (ap (λ v. kept_place at ++ (kept_ident name ++ v)) (append_assoc (kept_expr b.0) (kept_expr b.1) (flat_map kept_stmt body)) ∙ sym (kept_loop at name b.0 b.1 body))))))

    other_leaves : Leaves (λ ts x. g.otherwise n block ts x ⊎ g.no_otherwise n block ts x) kept_other
    other_leaves = or_carries (then_carries (one_passed place_of k.Else) (λ c. then_carries block_leaves (λ other. yields_carries (Some other) refl))) (yields_carries None refl)

    choice_carries : (at : Place) → Carries (kept_place at) (g.choice n block at) kept_stmt
    choice_carries at = then_carries (adds (kept_place at) (expression_leaves n)) (λ test. then_carries (adds (kept_place at ++ kept_expr test) block_leaves) (λ body.
        then_carries (adds ((kept_place at ++ kept_expr test) ++ flat_map kept_stmt body) other_leaves) (λ other. yields_carries (s.Choice at test body other)
        (ap (λ v. kept_place at ++ v) (append_assoc (kept_expr test) (flat_map kept_stmt body) (kept_other other)) ∙ sym (kept_choice at test body other)))))

    first_leaves : Leaves (g.known first_of) kept_first
    first_leaves = known_leaves first_of kept_first (λ t x h. by t t.kind x refl h)
      where
        by : (t : Lexeme) (a : TokenKind) (x : First) → t.kind ≡ a → first_by t a ≡ Some x → Picks (t ∷ []) (kept_first x)
        by t k.Int x e h = subst (λ v. Picks (t ∷ []) (kept_first v)) (let p : first.Int t.at ≡ x = cc in p) (pick (place_kept t) ended)
        by t k.Secret x e h = subst (λ v. Picks (t ∷ []) (kept_first v)) (let p : first.Secret t.at ≡ x = cc in p) (pick (place_kept t) ended)
        by t k.For x e h = subst (λ v. Picks (t ∷ []) (kept_first v)) (let p : first.For t.at ≡ x = cc in p) (pick (place_kept t) ended)
        by t k.If x e h = subst (λ v. Picks (t ∷ []) (kept_first v)) (let p : first.If t.at ≡ x = cc in p) (pick (place_kept t) ended)
        by t k.Word x e h = subst (λ v. Picks (t ∷ []) (kept_first v)) (let p : first.Name (ident_of t) ≡ x = cc in p) (pick (word_kept t e) ended)
        by t a x e h = cc

    rest_carries : (f : First) → Carries (kept_first f) (g.statement_from n block f) kept_stmt
    rest_carries (first.Int at) = int_carries at
    rest_carries (first.Secret at) = secret_carries at
    rest_carries (first.For at) = loop_carries at
    rest_carries (first.If at) = choice_carries at
    rest_carries (first.Name name) = assignment_carries name

    statement_leaves : Leaves (g.statement n block) kept_stmt
    statement_leaves = then_carries first_leaves rest_carries

    braces_leaves : Leaves (g.braces n block) (flat_map kept_stmt)
    braces_leaves = then_carries (one_passed place_of k.OpenBrace) (λ o. then_carries (many_leaves statement_leaves) (λ xs. then_carries (one_passed place_of k.CloseBrace) (λ c. yields_carries xs refl)))

block_leaves : (n d : ℕ) → Leaves (IsBlock n d) (flat_map kept_stmt)
unfolding block_or
block_leaves n zero = leaves (λ ts x i. absurd i)
block_leaves n (suc d) = braces_leaves n (block_leaves n d)

param_leaves : Leaves g.param kept_param
param_leaves = then_carries (known_passed direction) (λ out. then_carries word_leaves (λ name. then_carries (adds (kept_ident name) (or_carries given (yields_carries None refl))) (λ l.
    yields_carries (record { output = out; name = name; len = l }) refl)))
  where
    given : Leaves g.length_given (kept_some kept_num)
    given = then_carries length_leaves (λ len. yields_carries (Some len) refl)

preset_leaves : Leaves g.preset_line kept_ident
preset_leaves = then_carries (one_passed place_of k.Params) (λ p. then_carries word_leaves (λ preset. then_carries (one_passed place_of k.Semi) (λ c. yields_carries preset refl)))

params_leaves : Leaves g.params (flat_map kept_ident)
params_leaves = then_carries (one_passed place_of k.Open) (λ o. then_carries (or_carries (yields_carries [] refl) some) (λ xs. then_carries (one_passed place_of k.Close) (λ c. yields_carries xs refl)))
  where
    some : Leaves g.some_words (flat_map kept_ident)
    some = then_carries word_leaves (λ x. then_carries (adds (kept_ident x) (many_leaves (comma_leaves word_leaves))) (λ xs. yields_carries (x ∷ xs) refl))

def_sign_leaves : Leaves (g.known def_sign) kept_place
def_sign_leaves = known_leaves def_sign kept_place (λ t x h. by t t.kind x h)
  where
    by : (t : Lexeme) (a : TokenKind) (x : Place) → def_sign_by t.at a ≡ Some x → Picks (t ∷ []) (kept_place x)
    by t k.Def x h = subst (λ (v : Place). Picks (t ∷ []) (kept_place v)) (let p : t.at ≡ x = cc in p) (pick (place_kept t) ended)
    by t a x h = cc

definition_leaves : (n : ℕ) → Leaves (g.definition n) kept_def
definition_leaves n = then_carries def_sign_leaves (λ at. then_carries (adds (kept_place at) word_leaves) (λ name. then_carries (adds (kept_place at ++ kept_ident name) params_leaves) (λ xs.
    then_carries (one_passed place_of k.Assign) (λ a. then_carries (adds ((kept_place at ++ kept_ident name) ++ flat_map kept_ident xs) (value_leaves n)) (λ x.
    yields_carries (record { at = at; name = name; params = xs; value = x }) refl)))))

signature_leaves : Leaves g.signature (flat_map kept_param)
signature_leaves = then_carries (one_passed place_of k.Open) (λ o. then_carries (or_carries (yields_carries [] refl) some) (λ ps. then_carries (one_passed place_of k.Close) (λ c. yields_carries ps refl)))
  where
    some : Leaves g.some_params (flat_map kept_param)
    some = then_carries param_leaves (λ p. then_carries (adds (kept_param p) (many_leaves (comma_leaves param_leaves))) (λ ps. yields_carries (p ∷ ps) refl))

source_leaves : (n d : ℕ) → Leaves (IsSource n d) kept_source
source_leaves n d = then_carries preset_leaves (λ preset. then_carries (adds (kept_ident preset) (many_leaves (definition_leaves n))) (λ defs. then_carries (one_passed place_of k.Fn) (λ f.
    then_carries (adds (kept_ident preset ++ flat_map kept_def defs) word_leaves) (λ name. then_carries (adds ((kept_ident preset ++ flat_map kept_def defs) ++ kept_ident name) signature_leaves) (λ ps.
    then_carries (adds (((kept_ident preset ++ flat_map kept_def defs) ++ kept_ident name) ++ flat_map kept_param ps) (block_leaves n d)) (λ xs.
    yields_carries (record { params = preset; defs = defs; name = name; ports = ps; body = xs })
    (ap (λ v. kept_ident preset ++ v) (
    ap (λ v. v ++ flat_map kept_stmt xs) (append_assoc (flat_map kept_def defs) (kept_ident name) (flat_map kept_param ps))
    ∙ append_assoc (flat_map kept_def defs) (kept_ident name ++ flat_map kept_param ps) (flat_map kept_stmt xs)))))))))

pub source_picked : (n d : ℕ) (ts : List Lexeme) (x : Source) → IsSource n d ts x → Picks ts (kept_source x)
source_picked n d ts x i = picked (source_leaves n d) ts x i
