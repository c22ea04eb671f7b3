-- All that a placed circuit has.
use Rattle.std.proofs.Common.{◌≡◌, ℕ, ltb, ◌+◌, ◌-◌, ◌<◌, ◌≤◌, true, List, [], ◌∷◌, length, map, refl, sym, ap, subst, ◌∙◌, get_or, arith}
use Rattle.std.specs.Prelude.{All}
use Rattle.std.specs.Option.{is_none}
use Rattle.std.specs.List.{count_by, flat_map, list_any, range_with_len}
use Rattle.std.proofs.lemmas.Bool.Decides.{nat_tests}
use Rattle.std.proofs.lemmas.List.{get_or-drop, get_or_default, length-drop, length-map, length_push}
use Rattle.std.proofs.lemmas.List.Elements.{filter_agree}
use Rattle.heco_nums.specs.Presets.{modulus_of, slots_of}
use Rattle.heco_nums.specs.declared.shape.Shape.{Shape}
use Rattle.heco_nums.specs.Runs.{along}
use Rattle.heco_noise.specs.Rows.{IsQuiet}
use Rattle.heco_written.specs.VectorTerm.{VectorTerm, Input}
use Rattle.heco_written.specs.Cost.{all_subterms, cost, late_cost, is_due}
use Rattle.heco_written.specs.Needs.{is_product, needs_turn}
use Rattle.heco_written.specs.Bound.{Scheme, bound, scheme_of, greatest_bound}
use Rattle.heco_ir.specs.declared.dialect.NodeId.{NodeId}
use Rattle.heco_ir.specs.declared.home.Home.{Home}
use Rattle.heco_ir.specs.declared.vector.VNode.{VNode}
use Rattle.heco_ir.specs.Gates.{Agrees}
use Rattle.heco_ir.specs.Ranges.{gates_of_nodes}
use Rattle.heco_ir.specs.Values.{all_below, all_earlier, numbers}
use Rattle.heco_ir.specs.Vectors.{vector_operands}
use Rattle.heco_ir.specs.Used.{EachOnce, AllUsed}
use Rattle.heco_ir.specs.Terms.{vector_terms}
use Rattle.heco_ir.proofs.Counted.{used_within, agreement}
use Rattle.heco_circuit.specs.declared.gate.Gate.{Gate}
use Rattle.heco_circuit.specs.declared.gate.Output.{Output}
use Rattle.heco_circuit.specs.Bounds.{fresh_bounds, bound_of, with_bound, weights_of}
use Rattle.heco_circuit.specs.CircuitFormat.{plan}
use Rattle.heco_circuit.specs.Circuits.{IsCircuit}
use Rattle.heco_circuit.specs.Needs.{turns_by}
use Rattle.heco_circuit.specs.Plans.{Plan, shape_of}
use Rattle.heco_circuit.proofs.Lengths.{length-fresh_bounds}
use Rattle.heco_place.specs.declared.carrier.Carrier.{Carrier}
use Rattle.heco_thrift.specs.Placed.{IsPlaced}
use Rattle.heco_written.specs.WrittenForm.{vectors_of}
use Rattle.heco_thrift.specs.Thrift.{bounds_of, gate_bounds, IsLow, IsThrifty}
use Rattle.heco_place.specs.inside.Cells.{cell_over, cells_of}
use Rattle.heco_place.specs.Fitting.{terms_of, AllHomesWithin, AreHomes}
use Rattle.heco_place.specs.Kinds.{kinds, AreFewer}
use Rattle.heco_place.specs.NodeHomes.{homes_over}
use Rattle.heco_place.specs.inside.Placing.{term_at, IsChosen}
use Rattle.heco_place.specs.Refusals.{NoneDeep}
use Rattle.heco_place.proofs.DueNodes.{relin_product}
use Rattle.heco_place.proofs.LowTerms.{below_greatest, quiet_greatest}
use Rattle.heco_place.proofs.KindCounts.{forms_differ}
use Rattle.heco_place.proofs.NodeVectors.{vectors_over}
use Rattle.heco_place.proofs.RootCells.{cells_ok, cells_hold, cells_within}
use Rattle.heco_place.proofs.ThriftLaws.{low_at, none_passes, early_sum, are, gates_within, relins_within, relins_are, turns_are, none_weighs}
use Rattle.heco_place.proofs.ValidPlan.{Ports, formed, short}
use Rattle.heco_place.specs.Ports.{ArePorts}
use Rattle.heco_place.proofs.PortLaws.{ports_of}
use Rattle.heco_place.proofs.HomesWithin.{homes_within}

length-bounds : (id : ℕ) (weights bounds : List ℕ) (gates : List Gate) → length (along (with_bound id weights) bounds gates) ≡ length bounds + length gates
length-bounds id weights bounds [] = omega arith
length-bounds id weights bounds (g ∷ gates) = omega (arith, length-bounds id weights (with_bound id weights bounds g) gates, length_push bounds (bound_of id weights bounds g))

bounds_low : (c : Plan) (most : ℕ) → ((k : ℕ) → k < length c.gates → get_or (bounds_of c) (length c.inputs + k) 0 ≤ most) → All (λ e. e ≤ most) (gate_bounds c)
bounds_low c most h k d l =
    let long : length (bounds_of c) ≡ length c.inputs + length c.gates = length-bounds c.preset (weights_of c.preset c.vectors) (fresh_bounds c.preset c.inputs) c.gates ∙ ap (λ n. n + length c.gates) (length-fresh_bounds c.preset c.inputs) in
    let gate : k < length c.gates = omega (arith, length-drop (length c.inputs) (bounds_of c)) in
    let inside : length c.inputs + k < length (bounds_of c) = omega arith in
    subst (λ e. e ≤ most) (sym (get_or-drop (length c.inputs) (bounds_of c) k d ∙ get_or_default (bounds_of c) (length c.inputs + k) d 0 inside)) (h k gate)

-- fewer relinearisations are due than there are products exactly where the late form has fewer gates
same_test : (e l d m : ℕ) → l + m ≡ e + d → ltb d m ≡ ltb l e
same_test e l d m h = grind (arith, nat_tests)

-- no term of a node has a bound above the greatest of the roots' terms
pub low_terms : (p : Scheme) (ns : List VNode) (roots : List ℕ) → all_earlier vector_operands 0 ns ≡ true → AllUsed vector_operands ns roots
    → (k : ℕ) → k < length ns → bound p (term_at (vector_terms ns) k) ≤ greatest_bound p (terms_of (vector_terms ns) roots)
low_terms p ns roots earlier used k h = below_greatest p (all_subterms (terms_of (vector_terms ns) roots)) (get_or (vector_terms ns) k (Input 0)) (used_within ns roots earlier k (used k h))

module _ (id : ℕ) (inputs shapes : List Shape) (ns : List VNode) (ids : List NodeId) (homes : List Home) (gates : List Gate) (ds : List Carrier) (outputs : List Output)
    (low : 1 ≤ id) (up : id ≤ 5) (ports : Ports id inputs shapes) (earlier : all_earlier vector_operands 0 ns ≡ true) (inside : all_below (length ns) (numbers ids) ≡ true)
    (once : EachOnce ns) (used : AllUsed vector_operands ns (numbers ids)) (few : gates_of_nodes ns ≤ 20447232)
    (homes_are : AreHomes (slots_of id) (modulus_of id) (length ids) shapes homes) (within : AllHomesWithin (length ns) ids homes)
    (none : NoneDeep (scheme_of id) (terms_of (vector_terms ns) (numbers ids)) homes)
    (c : IsChosen id (greatest_bound (scheme_of id) (terms_of (vector_terms ns) (numbers ids))) inputs ns (terms_of (vector_terms ns) (numbers ids)) gates ds)
    (shapes_are : map shape_of outputs ≡ shapes) (cells_are : flat_map cells_of outputs ≡ map (cell_over ds ids) homes) where
  abbrev vs : List VectorTerm
  vs = terms_of (vector_terms ns) (numbers ids)

  abbrev most : ℕ
  most = greatest_bound (scheme_of id) vs

  few_gates : length gates ≤ 20447232
  few_gates = omega (arith, (gates_within id most inputs ns vs gates ds c).0, early_sum ns, few)

  count : length vs ≡ length ids
  count = length-map (numbers ids) (λ i. get_or (vector_terms ns) i (Input 0)) ∙ length-map ids (λ (d : NodeId). d.0)

  quiet : IsQuiet most
  quiet = quiet_greatest (scheme_of id) (slots_of id) (modulus_of id) shapes homes vs (subst (λ n. AreHomes (slots_of id) (modulus_of id) n shapes homes) (sym count) homes_are) none

  pub is_circuit : IsCircuit (plan id inputs gates outputs)
  is_circuit = (
    formed id inputs shapes gates outputs ports shapes_are few_gates low up c.placing.valid (rw cells_are (cells_ok id most inputs ns ids gates ds c homes within homes_are.fit)),
    ap is_none (none_passes id most quiet 0 (fresh_bounds id inputs) gates c.placing.low),
    short id inputs shapes gates outputs ports shapes_are few_gates,
  )

  agrees : Agrees (vector_terms ns) vs
  agrees = agreement ns (numbers ids) earlier inside once used

  pub are_fewer : AreFewer (vector_terms ns) vs gates
  are_fewer =
      are id most inputs ns vs gates ds c
      ∙ ap (λ late. flat_map (kinds late (vector_terms ns) vs) (vector_terms ns))
      (c.chosen ∙ same_test (cost vs) (late_cost vs) (count_by (is_due (vector_terms ns) vs) (vector_terms ns)) (count_by is_product (vector_terms ns))
      (rw (← agrees.gates_are, ← agrees.late_gates_are) (forms_differ (vector_terms ns) vs (vector_terms ns))))

  abbrev whole : Plan
  whole = plan id inputs gates outputs

  vectors_are : vectors_of (homes_over vs homes) ≡ vs
  vectors_are = vectors_over vs homes (homes_are.named_are ∙ ap (range_with_len 0) (sym count))

  is_low : IsLow whole (homes_over vs homes)
  is_low = record {
    gates = rw vectors_are (bounds_low whole most (λ k h. rw (← length-fresh_bounds id inputs) (low_at id most (fresh_bounds id inputs) gates c.placing.low k h)));
    outputs = rw cells_are (cells_within id most inputs ns ids gates ds c outputs ports.inputs_ok homes within);
  }

  is_thrifty : IsThrifty whole (homes_over vs homes)
  is_thrifty = record {
    gates = rw (vectors_are, ← agrees.gates_are) ((gates_within id most inputs ns vs gates ds c).0);
    late_gates = rw (vectors_are, ← agrees.late_gates_are) ((gates_within id most inputs ns vs gates ds c).1);
    bounds = rw (none_weighs id most inputs ns vs gates ds c) is_low;
    relinearisations = relins_within id most inputs ns vs gates ds c;
    relinearisation_needed = rw vectors_are (relins_are id most inputs ns vs gates ds c ∙ relin_product ns (numbers ids) earlier once inside c.late used ∙ agrees.products_are);
    turns_needed = rw vectors_are (filter_agree (λ r. list_any (turns_by r) gates) (needs_turn vs) (λ r. turns_are id most inputs ns vs gates ds c r ∙ agrees.turns_are r) (range_with_len 1 (slots_of id - 1)));
  }

  pub is_placed : IsPlaced id inputs shapes (homes_over vs homes) whole
  is_placed = record {
    preset = refl;
    inputs_are = refl;
    outputs_are = shapes_are;
    holds = rw cells_are (cells_hold id most inputs ns ids gates ds c outputs ports.inputs_ok homes within homes_are.fit);
    thrift = is_thrifty;
  }

-- The same over the numbers of the roots, and over the copied inputs.
module _ (id slots modulus : ℕ) (slots_are : slots ≡ slots_of id) (modulus_are : modulus ≡ modulus_of id) (low : 1 ≤ id) (up : id ≤ 5)
    (inputs shapes : List Shape) (ports_are : ArePorts slots inputs shapes) (ns : List VNode) (earlier : all_earlier vector_operands 0 ns ≡ true) (once : EachOnce ns)
    (few : gates_of_nodes ns ≤ 20447232) (ids : List NodeId) (homes : List Home) (gates : List Gate) (ds : List Carrier) (outputs : List Output)
    (shapes_are : map shape_of outputs ≡ shapes) (cells_are : flat_map cells_of outputs ≡ map (cell_over ds ids) homes) where
  abbrev terms : List ℕ → List VectorTerm
  terms rs = terms_of (vector_terms ns) rs

  abbrev Facts : List Shape → List ℕ → Type 0
  Facts copied rs =
      IsCircuit (plan id copied gates outputs) × IsPlaced id inputs shapes (homes_over (terms rs) homes) (plan id copied gates outputs) × AreFewer (vector_terms ns) (terms rs) gates

  abbrev Holds : List ℕ → Type 0
  Holds rs =
      all_below (length ns) rs ≡ true → AllUsed vector_operands ns rs → AreHomes slots modulus (length rs) shapes homes → NoneDeep (scheme_of id) (terms rs) homes
      → IsChosen id (greatest_bound (scheme_of id) (terms rs)) inputs ns (terms rs) gates ds → Facts inputs rs

  by_ids : Holds (numbers ids)
  by_ids inside used homes_are none c =
      let p : Ports id inputs shapes = ports_of id inputs shapes (subst (λ n. ArePorts n inputs shapes) slots_are ports_are) in
      let long : length (numbers ids) ≡ length ids = length-map ids (λ (d : NodeId). d.0) in
      let are : AreHomes slots modulus (length ids) shapes homes = subst (λ n. AreHomes slots modulus n shapes homes) long homes_are in
      let fits : AreHomes (slots_of id) (modulus_of id) (length ids) shapes homes =
      subst (λ n. AreHomes n (modulus_of id) (length ids) shapes homes) slots_are (subst (λ n. AreHomes slots n (length ids) shapes homes) modulus_are are) in
      let within : AllHomesWithin (length ns) ids homes = homes_within slots modulus (length ids) shapes homes are (length ns) ids refl inside in (
        is_circuit id inputs shapes ns ids homes gates ds outputs low up p earlier inside once used few fits within none c shapes_are cells_are,
        is_placed id inputs shapes ns ids homes gates ds outputs low up p earlier inside once used few fits within none c shapes_are cells_are,
        are_fewer id inputs shapes ns ids homes gates ds outputs low up p earlier inside once used few fits within none c shapes_are cells_are,
      )

  pub placed_from : (roots : List ℕ) (copied : List Shape) → numbers ids ≡ roots → copied ≡ inputs → all_below (length ns) roots ≡ true → AllUsed vector_operands ns roots
      → AreHomes slots modulus (length roots) shapes homes → NoneDeep (scheme_of id) (terms roots) homes
      → IsChosen id (greatest_bound (scheme_of id) (terms roots)) inputs ns (terms roots) gates ds → Facts copied roots
  placed_from roots copied same e inside used are none c = subst (λ xs. Facts xs roots) (sym e) (subst Holds same by_ids inside used are none c)
