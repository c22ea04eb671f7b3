use Rattle.std.proofs.Common.{◌≡◌, ◌∙◌, length, arith, false}
use Rattle.std.specs.Prelude.{nat_lt}
use Rattle.std.proofs.lemmas.Result.{err_from_is_err_and}
use Rattle.heco_types.specs.Shapes.{shapes_of}
use Rattle.heco_ir.specs.Terms.{terms_at, vector_terms}
use Rattle.heco_unroll.proofs.Shapes.{modulus_is}
use Rattle.heco_written.specs.Cost.{cost, late_cost}
use Rattle.heco_place.proofs.KindCounts.{none_weighs}
use Rattle.heco_circuit.specs.Plans.{Plan}
use Rattle.heco_good.specs.Good.{modulus, slots}
use Rattle.heco_good.proofs.PlacedLaw.{placed_is_good}
use Rattle.heco_compile.proofs.Deep.{accepted}
use Rattle.heco_compile.proofs.Few.{few_gates}
use Rattle.heco_compile.proofs.Placeable.{all_fit, id_is}
use Rattle.heco_compile.proofs.Refused.{refused_placing}
use Rattle.heco_compile.proofs.TypedPorts.{typed_ports}
use Rattle.heco_compile.proofs.Batched.{homes_placeable, homes_written}
use Rattle.heco_compile.proofs.circuit.placed.Goals as goal

pub place-requires-clause-ports : goal.place-requires-clause-ports
place-requires-clause-ports c =
    rw (c.preset-preset.ensures.slots, c.as_slice-inputs.ensures, c.inputs.ensures.value, c.as_slice-outputs.ensures, c.outputs.ensures.value) (typed_ports c.args.t.now c.source-valid.ensures.typed)

pub place-requires-clause-fit : goal.place-requires-clause-fit
place-requires-clause-fit c =
    let s = c.args.t.now in
    let t : c.preset-preset.result.now.t ≡ modulus s = modulus_is c.preset-preset.result.now s.params.text c.preset-preset.ensures.name in
    rw (t, c.preset-preset.ensures.slots, c.as_slice-inputs.ensures, c.inputs.ensures.value)
    (all_fit (length (shapes_of false s.ports)) (slots s) (modulus s) c.requires.scalars c.in_ok-used.used.0 c.requires.elements
    (c.in_ok-used.ensures.fits (slots s) (modulus s) c.requires.scalars c.requires.fit))

pub place-requires-clause-once : goal.place-requires-clause-once
place-requires-clause-once c = c.in_ok-used.ensures.once c.requires.once

pub place-requires-clause-gates : goal.place-requires-clause-gates
place-requires-clause-gates c = omega (arith, c.in_ok-used.ensures.gates, c.requires.few)

pub place-requires-clause-homes : goal.place-requires-clause-homes
place-requires-clause-homes c =
    let s = c.args.t.now in
    let t : c.preset-preset.result.now.t ≡ modulus s = modulus_is c.preset-preset.result.now s.params.text c.preset-preset.ensures.name in
    rw (t, c.preset-preset.ensures.slots, c.as_slice-outputs.ensures, c.outputs.ensures.value)
    (homes_placeable s c.args.vectors.now.0 c.args.vectors.now.1 c.args.homes.now c.requires c.in_ok-used.used.0 c.in_ok-used.used.1 c.in_ok-used.ensures.terms)

pub returns-in_err-circuit-clause-err : goal.returns-in_err-circuit-clause-err
returns-in_err-circuit-clause-err c =
    let s = c.args.t.now in
    let v = c.requires in
    let used = c.in_ok-used.used in
    let r = err_from_is_err_and c.from_residual-in_err-circuit.result c.from_residual-in_err-circuit.ensures.1 in
    let over = homes_written s c.args.vectors.now.0 c.args.vectors.now.1 c.args.homes.now v used.0 used.1 c.in_ok-used.ensures.terms in
    rw (r.1, r.2)
    (refused_placing Plan s v.terms v.are (terms_at used.0 used.1) c.args.homes.now over c.preset-preset.result.now.id
    (id_is c.preset-preset.result.now s.params.text c.preset-preset.ensures.name) c.as_slice-outputs.result.now (c.as_slice-outputs.ensures ∙ c.outputs.ensures.value)
    c.in_err-circuit.field-0.0 c.in_err-circuit.ensures.cause)

pub returns-clause-accepted : goal.returns-clause-accepted
returns-clause-accepted c =
    let s = c.args.t.now in
    let v = c.requires in
    let used = c.in_ok-used.used in
    let over = homes_written s c.args.vectors.now.0 c.args.vectors.now.1 c.args.homes.now v used.0 used.1 c.in_ok-used.ensures.terms in
    accepted s v.terms v.are (terms_at used.0 used.1) c.args.homes.now over
    (rw (id_is c.preset-preset.result.now s.params.text c.preset-preset.ensures.name) at c.in_ok-circuit.ensures.cause)

pub returns-clause-good : goal.returns-clause-good
returns-clause-good c =
    let s = c.args.t.now in
    let v = c.requires in
    let used = c.in_ok-used.used in
    let over = homes_written s c.args.vectors.now.0 c.args.vectors.now.1 c.args.homes.now v used.0 used.1 c.in_ok-used.ensures.terms in
    placed_is_good s c.in_ok-circuit.circuit v.terms v.are c.preset-valid.ensures.valid
    (rw (id_is c.preset-preset.result.now s.params.text c.preset-preset.ensures.name, c.as_slice-inputs.ensures, c.inputs.ensures.value, c.as_slice-outputs.ensures, c.outputs.ensures.value, over) at c.in_ok-circuit.ensures.placed)

pub returns-clause-unweighed : goal.returns-clause-unweighed
returns-clause-unweighed c =
    let used = c.in_ok-used.used in
    let ts = vector_terms used.0 in
    let vs = terms_at used.0 used.1 in
    none_weighs (nat_lt (late_cost vs) (cost vs)) ts vs c.in_ok-circuit.circuit.gates ts c.in_ok-circuit.ensures.fewer

pub returns-clause-few : goal.returns-clause-few
returns-clause-few c =
    let s = c.args.t.now in
    let v = c.requires in
    let used = c.in_ok-used.used in
    let over = homes_written s c.args.vectors.now.0 c.args.vectors.now.1 c.args.homes.now v used.0 used.1 c.in_ok-used.ensures.terms in
    few_gates s c.args.vectors.now.0 c.args.vectors.now.1 c.args.homes.now v used.0 used.1 c.in_ok-used.ensures.terms c.in_ok-used.ensures.gates
    (c.nodes_have_the_cost.ensures used.0 used.1 c.len-valid.ensures.earlier c.len-valid.ensures.inside (c.in_ok-used.ensures.once v.once) c.in_ok-used.ensures.used)
    (c.nodes_have_the_gates_of_their_terms.ensures used.0) c.in_ok-circuit.circuit (rw over at c.in_ok-circuit.ensures.placed.thrift)
