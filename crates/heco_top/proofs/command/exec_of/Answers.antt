use Rattle.std.proofs.Common.{◌∙◌, sym, arith}
use Rattle.std.specs.Prelude.{string_bytes}
use Rattle.std.proofs.lemmas.List.{length-map}
use Rattle.heco_jobs.specs.Words.{texts}
use Rattle.heco_top.proofs.ExecLaws.{exec_by}
use Rattle.heco_top.proofs.command.exec_of.Goals as goal

pub returns-then-are_distinct : goal.returns-then-are_distinct
returns-then-are_distinct c =
    exec_by (texts c.args.words.now) (omega (arith, length-map c.args.words.now string_bytes, c.in-len9.len_at_least, c.in-len9.len_below))
    (sym c.are_distinct.ensures ∙ c.if-are_distinct.true)
