use Rattle.std.proofs.Common.{◌≢◌, ◌≤◌, sym, subst, false, length, Ok, Err}
use Rattle.std.specs.Prelude.{IfOk, IfErr}
use Rattle.heco_nums.specs.declared.shape.Values.{Values}
use Rattle.heco_texts.specs.Answers.{IsRead, IsRefused, Gives, HaveFit, HaveOwnNames}
use Rattle.heco_texts.specs.declared.error.InputErr.{InputErr}
use Rattle.heco_texts.specs.declared.error.InputErr.TheVariants.{Memory}
use Rattle.heco_eval.proofs.Moduli.{modulus_is}
use Rattle.heco_sources.specs.Inputs.{modulus_of}
use Rattle.heco_sources.proofs.InputLaws.{own_names, few_shapes}
use Rattle.heco_sources.proofs.inputs.read_values.Goals as goal

pub read_inputs-requires-clause-count : goal.read_inputs-requires-clause-count
read_inputs-requires-clause-count c = subst (λ shapes. length shapes ≤ 256) (sym c.inputs.ensures.value) (few_shapes false c.args.t.now.ports c.source-valid.ensures.typed.parameters.count)

pub read_inputs-requires-clause-names : goal.read_inputs-requires-clause-names
read_inputs-requires-clause-names c = subst HaveOwnNames (sym c.inputs.ensures.value) (own_names false c.args.t.now.ports c.source-valid.ensures.typed.parameters.distinct)

pub returns-clause-read : goal.returns-clause-read
returns-clause-read c =
    subst (λ shapes. IfOk c.read_inputs.result (IsRead (modulus_of c.args.t.now) shapes c.args.text.now)) c.inputs.ensures.value
    (subst (λ t. IfOk c.read_inputs.result (IsRead t c.inputs.result.now c.args.text.now)) (modulus_is c.preset.result.now c.args.t.now.params.text c.preset.ensures.name) c.read_inputs.ensures.read)

pub returns-clause-fit : goal.returns-clause-fit
returns-clause-fit c =
    subst (λ shapes. IfOk c.read_inputs.result (λ v. HaveFit (modulus_of c.args.t.now) shapes v.rows)) c.inputs.ensures.value
    (subst (λ t. IfOk c.read_inputs.result (λ v. HaveFit t c.inputs.result.now v.rows)) (modulus_is c.preset.result.now c.args.t.now.params.text c.preset.ensures.name) c.read_inputs.ensures.fit)

pub returns-clause-refused : goal.returns-clause-refused
returns-clause-refused c =
    subst (λ shapes. IfErr c.read_inputs.result (IsRefused (modulus_of c.args.t.now) shapes c.args.text.now)) c.inputs.ensures.value
    (subst (λ t. IfErr c.read_inputs.result (IsRefused t c.inputs.result.now c.args.text.now)) (modulus_is c.preset.result.now c.args.t.now.params.text c.preset.ensures.name) c.read_inputs.ensures.refused)

pub returns-clause-reads : goal.returns-clause-reads
returns-clause-reads c =
    subst (λ shapes. (v : Values) → IsRead (modulus_of c.args.t.now) shapes c.args.text.now v → Gives c.read_inputs.result (Ok v)) c.inputs.ensures.value
    (subst (λ t. (v : Values) → IsRead t c.inputs.result.now c.args.text.now v → Gives c.read_inputs.result (Ok v)) (modulus_is c.preset.result.now c.args.t.now.params.text c.preset.ensures.name) c.read_inputs.ensures.reads)

pub returns-clause-refuses : goal.returns-clause-refuses
returns-clause-refuses c =
    subst (λ shapes. (err : InputErr) → err ≢ Memory → IsRefused (modulus_of c.args.t.now) shapes c.args.text.now err → Gives c.read_inputs.result (Err err)) c.inputs.ensures.value
    (subst (λ t. (err : InputErr) → err ≢ Memory → IsRefused t c.inputs.result.now c.args.text.now err → Gives c.read_inputs.result (Err err)) (modulus_is c.preset.result.now c.args.t.now.params.text c.preset.ensures.name) c.read_inputs.ensures.refuses)
