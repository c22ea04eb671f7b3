use Rattle.std.proofs.Common.{refl, sym, subst, Err}
use Rattle.heco_sources.specs.Sources.{IsRefused}
use Rattle.heco_sources.proofs.SourceLaws.{reads, refuses, parse_refused}
use Rattle.heco_sources.proofs.source.read_source.Goals as goal

pub returns-in-Ok-clause-reads : goal.returns-in-Ok-clause-reads
returns-in-Ok-clause-reads c = reads c.args.text.now c.typed.result c.typed.ensures.source c.typed.ensures.refused

pub returns-in-Err-clause-reads : goal.returns-in-Err-clause-reads
returns-in-Err-clause-reads c =
    let refused = parse_refused c.args.text.now c.in-Err.error (Err c.in-Err.error) refl c.in-Err.ensures.long.1 c.in-Err.ensures.refused in
    reads c.args.text.now (Err c.parse_answer.result) tt (subst (IsRefused c.args.text.now) (sym c.parse_answer.ensures) refused)

pub returns-in-Ok-clause-refuses : goal.returns-in-Ok-clause-refuses
returns-in-Ok-clause-refuses c = refuses c.args.text.now c.typed.result c.typed.ensures.source c.typed.ensures.refused

pub returns-in-Err-clause-refuses : goal.returns-in-Err-clause-refuses
returns-in-Err-clause-refuses c =
    let refused = parse_refused c.args.text.now c.in-Err.error (Err c.in-Err.error) refl c.in-Err.ensures.long.1 c.in-Err.ensures.refused in
    refuses c.args.text.now (Err c.parse_answer.result) tt (subst (IsRefused c.args.text.now) (sym c.parse_answer.ensures) refused)
