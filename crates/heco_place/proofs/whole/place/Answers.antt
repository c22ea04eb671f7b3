use Rattle.std.proofs.Common.{◌≡◌, length, map, ap, sym, subst, ◌∙◌, arith, refl}
use Rattle.heco_nums.specs.Presets.{modulus_of, slots_of}
use Rattle.heco_written.specs.Bound.{scheme_of, greatest_bound}
use Rattle.heco_ir.specs.Values.{numbers}
use Rattle.heco_ir.specs.Terms.{terms_at}
use Rattle.heco_ir.proofs.Means.{length-numbers}
use Rattle.std.specs.List.{flat_map}
use Rattle.heco_place.specs.inside.Cells.{cell_over, cells_of}
use Rattle.heco_place.specs.Fitting.{AllFit}
use Rattle.heco_place.proofs.HomesWithin.{narrow, homes_within}
use Rattle.heco_place.proofs.ValidPlan.{few_elements}
use Rattle.heco_place.specs.Ports.{ArePorts}
use Rattle.heco_place.proofs.PortLaws.{ports_of}
use Rattle.heco_place.proofs.PlacedAll.{low_terms, placed_from}
use Rattle.heco_place.proofs.whole.place.Goals as goal

pub judge-requires-clause-fit : goal.judge-requires-clause-fit
judge-requires-clause-fit c = narrow (length c.args.inputs.now) c.args.p.now.slots c.args.p.now.t c.args.ir.now.0 c.requires.fit

pub judge-requires-clause-short : goal.judge-requires-clause-short
judge-requires-clause-short c =
    omega (arith, c.requires.homes.count, few_elements c.args.p.now.id c.args.inputs.now c.args.outputs.now (ports_of c.args.p.now.id c.args.inputs.now c.args.outputs.now (subst (λ n. ArePorts n c.args.inputs.now c.args.outputs.now) c.args.p.now.row.3 c.requires.ports)))

pub outputs_of-requires-clause-within : goal.outputs_of-requires-clause-within
outputs_of-requires-clause-within c =
    let ns = c.args.ir.now.0 in
    let p = c.args.p.now in
    let ids = c.as_slice-2.result.now in
    let same : numbers ids ≡ c.args.ir.now.1 = ap numbers c.as_slice-2.ensures ∙ c.roots.ensures.value in
    let fit : AllFit (length c.args.inputs.now) (slots_of p.id) (modulus_of p.id) ns = rw (← p.row.3, ← p.row.4) c.requires.fit in
    let chosen = c.in_ok-gates.ensures.chosen p.id (greatest_bound (scheme_of p.id) (terms_at ns c.args.ir.now.1)) c.args.inputs.now refl fit
    (low_terms (scheme_of p.id) ns c.args.ir.now.1 c.chosen_gates.ensures.earlier c.requires.used) in
    let long : length c.as_slice.result.now ≡ length ns = ap length c.as_slice.ensures ∙ chosen.placing.count in
    rw (c.as_slice-3.ensures, long) (homes_within p.slots p.t (length c.args.ir.now.1) c.args.outputs.now c.args.homes.now c.requires.homes (length ns) ids
    (sym (length-numbers ids) ∙ ap length same) (rw same c.roots.ensures.inside))

pub make-requires : goal.make-requires
make-requires c =
    let ns = c.args.ir.now.0 in
    let p = c.args.p.now in
    let rs = c.args.ir.now.1 in
    let ids = c.as_slice-2.result.now in
    let same : numbers ids ≡ rs = ap numbers c.as_slice-2.ensures ∙ c.roots.ensures.value in
    let fit : AllFit (length c.args.inputs.now) (slots_of p.id) (modulus_of p.id) ns = rw (← p.row.3, ← p.row.4) c.requires.fit in
    let chosen = c.in_ok-gates.ensures.chosen p.id (greatest_bound (scheme_of p.id) (terms_at ns rs)) c.args.inputs.now refl fit
    (low_terms (scheme_of p.id) ns rs c.chosen_gates.ensures.earlier c.requires.used) in
    let cells : flat_map cells_of c.in_ok-outputs.outputs ≡ map (cell_over c.in_ok-gates.carriers ids) c.args.homes.now = rw (c.as_slice.ensures, c.as_slice-3.ensures) at c.in_ok-outputs.ensures.cells in
    let facts = placed_from p.id p.slots p.t p.row.3 p.row.4 p.row.0 p.row.1 c.args.inputs.now c.args.outputs.now c.requires.ports ns c.chosen_gates.ensures.earlier c.requires.once
    c.requires.gates ids c.args.homes.now c.in_ok-gates.gates c.in_ok-gates.carriers c.in_ok-outputs.outputs c.in_ok-outputs.ensures.shapes cells rs c.in_ok-copied.field-0 same
    c.in_ok-copied.ensures c.roots.ensures.inside c.requires.used c.requires.homes c.in_ok-judge.ensures chosen in
    facts.0

pub returns-clause-placed : goal.returns-clause-placed
returns-clause-placed c =
    let ns = c.args.ir.now.0 in
    let p = c.args.p.now in
    let rs = c.args.ir.now.1 in
    let ids = c.as_slice-2.result.now in
    let same : numbers ids ≡ rs = ap numbers c.as_slice-2.ensures ∙ c.roots.ensures.value in
    let fit : AllFit (length c.args.inputs.now) (slots_of p.id) (modulus_of p.id) ns = rw (← p.row.3, ← p.row.4) c.requires.fit in
    let chosen = c.in_ok-gates.ensures.chosen p.id (greatest_bound (scheme_of p.id) (terms_at ns rs)) c.args.inputs.now refl fit
    (low_terms (scheme_of p.id) ns rs c.chosen_gates.ensures.earlier c.requires.used) in
    let cells : flat_map cells_of c.in_ok-outputs.outputs ≡ map (cell_over c.in_ok-gates.carriers ids) c.args.homes.now = rw (c.as_slice.ensures, c.as_slice-3.ensures) at c.in_ok-outputs.ensures.cells in
    let facts = placed_from p.id p.slots p.t p.row.3 p.row.4 p.row.0 p.row.1 c.args.inputs.now c.args.outputs.now c.requires.ports ns c.chosen_gates.ensures.earlier c.requires.once
    c.requires.gates ids c.args.homes.now c.in_ok-gates.gates c.in_ok-gates.carriers c.in_ok-outputs.outputs c.in_ok-outputs.ensures.shapes cells rs c.in_ok-copied.field-0 same
    c.in_ok-copied.ensures c.roots.ensures.inside c.requires.used c.requires.homes c.in_ok-judge.ensures chosen in
    rw c.make.ensures facts.1

pub returns-clause-fewer : goal.returns-clause-fewer
returns-clause-fewer c =
    let ns = c.args.ir.now.0 in
    let p = c.args.p.now in
    let rs = c.args.ir.now.1 in
    let ids = c.as_slice-2.result.now in
    let same : numbers ids ≡ rs = ap numbers c.as_slice-2.ensures ∙ c.roots.ensures.value in
    let fit : AllFit (length c.args.inputs.now) (slots_of p.id) (modulus_of p.id) ns = rw (← p.row.3, ← p.row.4) c.requires.fit in
    let chosen = c.in_ok-gates.ensures.chosen p.id (greatest_bound (scheme_of p.id) (terms_at ns rs)) c.args.inputs.now refl fit
    (low_terms (scheme_of p.id) ns rs c.chosen_gates.ensures.earlier c.requires.used) in
    let cells : flat_map cells_of c.in_ok-outputs.outputs ≡ map (cell_over c.in_ok-gates.carriers ids) c.args.homes.now = rw (c.as_slice.ensures, c.as_slice-3.ensures) at c.in_ok-outputs.ensures.cells in
    let facts = placed_from p.id p.slots p.t p.row.3 p.row.4 p.row.0 p.row.1 c.args.inputs.now c.args.outputs.now c.requires.ports ns c.chosen_gates.ensures.earlier c.requires.once
    c.requires.gates ids c.args.homes.now c.in_ok-gates.gates c.in_ok-gates.carriers c.in_ok-outputs.outputs c.in_ok-outputs.ensures.shapes cells rs c.in_ok-copied.field-0 same
    c.in_ok-copied.ensures c.roots.ensures.inside c.requires.used c.requires.homes c.in_ok-judge.ensures chosen in
    rw c.make.ensures facts.2
