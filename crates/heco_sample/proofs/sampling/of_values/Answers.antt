use Rattle.std.proofs.Common.{length, sym, subst}
use Rattle.heco_good.specs.Good.{modulus}
use Rattle.heco_headline.specs.Headline.{IsPlainText}
use Rattle.heco_jobs.specs.Products.{Prints}
use Rattle.heco_sources.specs.Inputs.{input_shapes}
use Rattle.heco_texts.specs.Answers.{HaveFit}
use Rattle.heco_sample.specs.Drawn.{decrypted_text}
use Rattle.heco_sample.specs.Summary.{greatest_bound, summary}
use Rattle.heco_sample.proofs.Values.{drawn_fit, circuit_fit, samples}
use Rattle.heco_sample.proofs.sampling.of_values.Goals as goal

pub plain_text-requires-clause-fit : goal.plain_text-requires-clause-fit
plain_text-requires-clause-fit g c =
    let s = c.args.typed.now in
    subst (HaveFit (modulus s) (input_shapes s)) (sym c.requires.rows) (drawn_fit s c.requires.is c.args.seed)

pub beside_chain-requires-clause-fit : goal.beside_chain-requires-clause-fit
beside_chain-requires-clause-fit g c =
    let s = c.args.typed.now in
    circuit_fit s c.requires.is c.args.circuit.now c.requires.good c.args.values.now.rows
    (subst (HaveFit (modulus s) (input_shapes s)) (sym c.requires.rows) (drawn_fit s c.requires.is c.args.seed))

pub returns-clause-samples : goal.returns-clause-samples
returns-clause-samples g c = λ handed left passed.
    let s = c.args.typed.now in
    let circuit = c.args.circuit.now in
    let seed = c.args.seed in
    let plain = c.in_ok-plain.plain in
    let product = c.in_ok-product.product in
    let done = c.in_ok-product.ensures in
    samples _ _ s circuit seed plain product c.requires.is passed done.runs
    (subst (λ rows. IsPlainText s rows plain) c.requires.rows c.in_ok-plain.ensures)
    (subst (λ t. Prints (summary seed (length circuit.gates) (greatest_bound circuit) t (decrypted_text circuit seed)) product) c.as_slice.ensures done.prints)
    done.leads
