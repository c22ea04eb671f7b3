use Rattle.std.proofs.Common.{◌∙◌, ap}
use Rattle.std.specs.Prelude.{Some}
use Rattle.heco_syntax.proofs.KindFacts.{number_digits}
use Rattle.heco_syntax.proofs.lexing.kept_value.Goals as goal

pub decimal-requires-clause-count : goal.decimal-requires-clause-count
decimal-requires-clause-count c = (number_digits c.args.bytes.now (c.requires ∙ ap (λ v. Some v) c.in-Number.is)).count

pub decimal-requires-clause-digits : goal.decimal-requires-clause-digits
decimal-requires-clause-digits c = (number_digits c.args.bytes.now (c.requires ∙ ap (λ v. Some v) c.in-Number.is)).all
