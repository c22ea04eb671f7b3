use Rattle.heco_lex.specs.declared.piece.Piece.TheVariants as p
use Rattle.heco_lex.specs.Splits.{here}
use Rattle.heco_lex.proofs.Advances.{here_piece, step_blank, step_comment, step_token}
use Rattle.heco_lex.proofs.split.step.Goals as goal

pub returns-in-Blank : goal.returns-in-Blank
returns-in-Blank c = step_blank _ _ _ c.requires.at (here_piece c.args.text.now c.args.at p.Blank c.in-Blank.ensures)

pub returns-in-Comment : goal.returns-in-Comment
returns-in-Comment c =
    let h = here_piece c.args.text.now c.args.at (p.Comment c.in-Comment.len) c.in-Comment.ensures in
    step_comment _ _ _ _ c.requires.at h.0 h.1 h.2 h.3

pub returns-in_ok-push-in-Token : goal.returns-in_ok-push-in-Token
returns-in_ok-push-in-Token c =
    let h = here_piece c.args.text.now c.args.at (p.Token c.in-Token.kind c.in-Token.len) c.in-Token.ensures in
    step_token _ _ _ _ _ _ c.requires.at h.0 h.1 c.in_ok-push-in-Token.ensures.ok

pub returns-in-Bad : goal.returns-in-Bad
returns-in-Bad c = (here (here_piece c.args.text.now c.args.at p.Bad c.in-Bad.ensures), c.place_of.ensures)
