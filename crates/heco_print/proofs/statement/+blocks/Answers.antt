use Rattle.std.proofs.Common.{◌≡◌, ◌∷◌, ◌++◌, ◌∙◌, sym, ap, subst}
use Rattle.heco_lex.specs.declared.token.TokenKind.TheVariants as k
use Rattle.heco_print.specs.Spelling.{mark}
use Rattle.heco_syntax.specs.declared.tree.Stmt.TheVariants as s
use Rattle.heco_print.specs.Statements.{block, spelled_stmt}
use Rattle.heco_print.proofs.Prints.{on_ok}
use Rattle.heco_print.proofs.Loops.{loop_tokens, if_tokens, either_tokens}
use Rattle.heco_print.proofs.statement.+blocks.Goals as goal

pub spell_statement-returns-in_ok-spell_loop_head-in-Loop : goal.spell_statement-returns-in_ok-spell_loop_head-in-Loop
spell_statement-returns-in_ok-spell_loop_head-in-Loop t c =
    on_ok c.spell_block.result
    (λ h. subst (λ v. c.spell_block.new.out ≡ c.args.out.now ++ spelled_stmt v) (sym c.in-Loop.is)
    (loop_tokens c.args.out.now c.spell_loop_head.new.out c.spell_block.new.out c.in-Loop.at c.in-Loop.name c.in-Loop.low c.in-Loop.high c.in-Loop.body
    c.in_ok-spell_loop_head-in-Loop.ensures
    (h ∙ ap (λ v. c.spell_loop_head.new.out ++ block v) c.as_slice-in-Loop.ensures)))
    c.spell_block.ensures

pub spell_statement-returns-in-None : goal.spell_statement-returns-in-None
spell_statement-returns-in-None t c =
    on_ok c.spell_block-in-None.result
    (λ h. subst (λ v. c.spell_block-in-None.new.out ≡ c.args.out.now ++ spelled_stmt v) (sym (c.in-Choice.is ∙ ap (s.Choice c.in-Choice.at c.in-Choice.cond c.in-Choice.yes) c.in-None.is))
    (if_tokens c.args.out.now c.spell_choice_head.new.out c.spell_block-in-None.new.out c.in-Choice.at c.in-Choice.cond c.in-Choice.yes
    c.in_ok-spell_choice_head-in-Choice.ensures
    (h ∙ ap (λ v. c.spell_choice_head.new.out ++ block v) c.as_slice-in-None.ensures)))
    c.spell_block-in-None.ensures

pub spell_statement-returns-in_ok-spell_block-in-Some : goal.spell_statement-returns-in_ok-spell_block-in-Some
spell_statement-returns-in_ok-spell_block-in-Some t c =
    on_ok c.spell_otherwise.result
    (λ h. subst (λ v. c.spell_otherwise.new.out ≡ c.args.out.now ++ spelled_stmt v) (sym (c.in-Choice.is ∙ ap (s.Choice c.in-Choice.at c.in-Choice.cond c.in-Choice.yes) c.in-Some.is))
    (either_tokens c.args.out.now c.spell_choice_head.new.out c.spell_block-in-Some.new.out c.spell_otherwise.new.out c.in-Choice.at c.in-Choice.cond c.in-Choice.yes c.in-Some.no
    c.in_ok-spell_choice_head-in-Choice.ensures
    (c.in_ok-spell_block-in-Some.ensures ∙ ap (λ v. c.spell_choice_head.new.out ++ block v) c.as_slice-in-Some.ensures)
    (h ∙ ap (λ v. c.spell_block-in-Some.new.out ++ mark k.Else ∷ block v) c.as_slice-in-Some-2.ensures)))
    c.spell_otherwise.ensures
