use Rattle.std.proofs.Common.{◌∙◌, length, ap, subst}
use Rattle.heco_jobs.specs.Products.{Prints}
use Rattle.heco_sample.specs.Summary.{greatest_bound, summary}
use Rattle.heco_sample.proofs.sampling.beside_chain.Goals as goal

pub returns-clause-prints : goal.returns-clause-prints
returns-clause-prints g c =
    let circuit = c.args.circuit.now in
    let is = c.in_ok-text.ensures
    ∙ ap (summary c.args.seed (length circuit.gates) (greatest_bound circuit) c.args.plain.now) (c.as_slice.ensures ∙ c.in_ok-decrypted.ensures.text) in
    subst (λ t. Prints t c.printing.result) is c.printing.ensures
