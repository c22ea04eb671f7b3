use Rattle.std.proofs.Common.{◌≡◌, ◌⊎◌, ◌∙◌, sym, ap, subst, arith, rules}
use Rattle.heco_syntax.specs.Lexemes.{lexemes_of}
use Rattle.std.specs.Prelude.{Err}
use Rattle.heco_parse.specs.Regained.{Regains}
use Rattle.heco_parse.specs.declared.read.ParseErr.TheVariants as e
use Rattle.heco_parse.proofs.OneRefusal.{refuses, tree_found}
use Rattle.heco_parse.proofs.Reread.{regains, tree_refused}
use Rattle.heco_parse.proofs.TreeFacts.{only_tree, wellformed_tree}
use Rattle.heco_parse.proofs.read.parse.Goals as goal

pub returns-clause-only : goal.returns-clause-only
returns-clause-only c = only_tree c.args.text.now c.in_ok-found.found c.as_slice-2.result.now c.tree.result c.in_ok-found.ensures.only
    (c.as_slice-2.ensures ∙ c.in_ok-found-2.ensures ∙ ap (lexemes_of c.args.text.now) c.as_slice.ensures) c.tree.ensures.only

pub returns-clause-wellformed : goal.returns-clause-wellformed
returns-clause-wellformed c = wellformed_tree c.args.text.now c.in_ok-found.found c.as_slice-2.result.now c.tree.result (let h = c.if-text-gt-SOURCE_LIMIT.false in omega arith) c.in_ok-found.ensures.spans
    (c.as_slice-2.ensures ∙ c.in_ok-found-2.ensures ∙ ap (lexemes_of c.args.text.now) c.as_slice.ensures) c.tree.ensures.found

pub returns-in_err-found-clause-printed : goal.returns-in_err-found-clause-printed
returns-in_err-found-clause-printed c = λ source x t same short.
    let refused = c.in_err-found.ensures.refused (let h = c.if-text-gt-SOURCE_LIMIT.false in omega arith) in
    let is : c.from_residual.result ≡ Err c.in_err-found.field-0.0 = search rules in
    subst (λ v. Regains x v) (sym is) (regains c.args.text.now source x (Err c.in_err-found.field-0.0) tt refused t same short)

pub returns-clause-printed : goal.returns-clause-printed
returns-clause-printed c = λ source x t same short.
    let ls = c.as_slice-2.ensures ∙ c.in_ok-found-2.ensures ∙ ap (lexemes_of c.args.text.now) c.as_slice.ensures in
    regains c.args.text.now source x c.tree.result (returns-clause-only c) (tree_refused c.args.text.now c.in_ok-found.found c.as_slice-2.result.now c.tree.result c.in_ok-found.ensures.found ls c.tree.ensures.refused) t same short

pub returns-in_err-found-clause-refuses : goal.returns-in_err-found-clause-refuses
returns-in_err-found-clause-refuses c = λ err real short h.
    let refused = c.in_err-found.ensures.refused (let h = c.if-text-gt-SOURCE_LIMIT.false in omega arith) in
    let is : c.from_residual.result ≡ Err c.in_err-found.field-0.0 = search rules in
    subst (λ v. (v ≡ Err err) ⊎ (v ≡ Err e.Memory)) (sym is) (refuses c.args.text.now (Err c.in_err-found.field-0.0) tt refused err real short h)

pub returns-clause-refuses : goal.returns-clause-refuses
returns-clause-refuses c =
    let ls = c.as_slice-2.ensures ∙ c.in_ok-found-2.ensures ∙ ap (lexemes_of c.args.text.now) c.as_slice.ensures in
    let tree = tree_found c.args.text.now c.in_ok-found.found c.as_slice-2.result.now c.tree.result c.in_ok-found.ensures.found ls c.tree.ensures.found in
    refuses c.args.text.now c.tree.result tree (tree_refused c.args.text.now c.in_ok-found.found c.as_slice-2.result.now c.tree.result c.in_ok-found.ensures.found ls c.tree.ensures.refused)
