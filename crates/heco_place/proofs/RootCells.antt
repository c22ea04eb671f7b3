-- The cells of outputs: they are valid, hold their homes, and are within their bounds.
use Rattle.std.proofs.Common.{◌≡◌, ℕ, suc, ◌+◌, ◌-◌, ◌<◌, ◌≤◌, true, false, ◌||◌, List, [], ◌∷◌, length, map, Some, refl, sym, ap, subst, ◌∙◌, get_or, arith}
use Rattle.std.specs.Prelude.{slice_get}
use Rattle.std.specs.List.{AllZip, list_any, list_all}
use Rattle.std.proofs.lemmas.List.{length-map}
use Rattle.std.proofs.lemmas.List.FromFn.{get_or-map-range_with_len}
use Rattle.heco_nums.specs.Presets.{modulus_of, slots_of}
use Rattle.heco_nums.specs.declared.shape.Shape.{Shape}
use Rattle.heco_written.specs.VectorTerm.{VectorTerm, Input, same_vector, slot_value}
use Rattle.heco_written.specs.Cost.{is_long, turns_or_multiplies}
use Rattle.heco_written.proofs.Parts.{same_vector-itself}
use Rattle.heco_ir.specs.declared.dialect.NodeId.{NodeId}
use Rattle.heco_ir.specs.declared.home.Home.{Home}
use Rattle.heco_ir.specs.declared.home.Home.TheVariants.{Number, At}
use Rattle.heco_ir.specs.declared.vector.VNode.{VNode}
use Rattle.heco_ir.specs.Values.{numbers}
use Rattle.heco_ir.specs.Terms.{vector_terms}
use Rattle.heco_ir.proofs.Built.{slice_get_below}
use Rattle.heco_circuit.specs.declared.gate.Gate.{Gate}
use Rattle.heco_nums.specs.Runs.{all_along}
use Rattle.heco_circuit.specs.CircuitFormat.{plan}
use Rattle.heco_circuit.specs.Plans.{Plan, is_cell, is_input, push}
use Rattle.heco_circuit.specs.declared.gate.Output.{Output}
use Rattle.heco_thrift.specs.Homes.{HoldsHome, world_of}
use Rattle.heco_thrift.specs.Thrift.{IsWithin}
use Rattle.heco_place.specs.declared.carrier.Carrier.{Carrier}
use Rattle.heco_place.specs.inside.Carried.{AreRows, all_parts, all_slots, Carries}
use Rattle.heco_place.specs.inside.Cells.{root_at, cell_over}
use Rattle.heco_place.specs.Fitting.{terms_of, HomeWithin, AllHomesWithin}
use Rattle.heco_ir.specs.Homes.{HomeFits}
use Rattle.heco_place.specs.NodeHomes.{written_home, homes_over}
use Rattle.heco_place.specs.inside.Placing.{due_at, IsChosen}
use Rattle.heco_place.specs.inside.Ways.{carrier_at}
use Rattle.heco_place.proofs.Bools.{both, or_right}
use Rattle.heco_place.proofs.DeepHomes.{term_of_root}
use Rattle.heco_place.proofs.GateGives.{has_its_parts, between}
use Rattle.heco_place.proofs.NodeGates.{any_at, ready}
use Rattle.heco_place.proofs.Rows.{fitting_rows}

module _ (id most : ℕ) (inputs : List Shape) (ns : List VNode) (ids : List NodeId) (gates : List Gate) (ds : List Carrier)
    (c : IsChosen id most inputs ns (terms_of (vector_terms ns) (numbers ids)) gates ds) where
  abbrev ts : List VectorTerm
  ts = vector_terms ns

  abbrev vs : List VectorTerm
  vs = terms_of ts (numbers ids)

  -- a root's short wire carries its term
  root_carries : (root : ℕ) (d : NodeId) → slice_get ids root ≡ Some d → d.0 < length ns → Carries id inputs gates (carrier_at ds d).short false (get_or ts d.0 (Input 0))
  root_carries root d e h =
      let x : VectorTerm = get_or ts d.0 (Input 0) in
      let i = c.placing.carried d.0 h in
      let l : root < length ids = (slice_get_below ids root d d e).0 in
      let long : length vs ≡ length ids = length-map (numbers ids) (λ k. get_or ts k (Input 0)) ∙ length-map ids (λ (n : NodeId). n.0) in
      let named : list_any (same_vector x) vs ≡ true = any_at (same_vector x) vs root (Input 0) (omega arith) (rw (term_of_root ts ids root d e) (same_vector-itself x)) in
      i.short (ready c.late (carrier_at ds d).long (is_long x) (due_at c.dues d.0) (list_any (turns_or_multiplies x) ts || list_any (same_vector x) vs)
      i.long_is (λ f. c.plan.late_is f d.0 h) (or_right _ _ named))

  root_is : (root : ℕ) (d : NodeId) → slice_get ids root ≡ Some d → root_at ids root ≡ d
  root_is root d e = (slice_get_below ids root d (record { 0 = 0 }) e).1

  carries_home : (root slot : ℕ) → HomeWithin (length ns) ids (At root slot) → Carries id inputs gates (carrier_at ds (root_at ids root)).short false (get_or vs root (Input 0))
  carries_home root slot (d, e, h) =
      subst (λ n. Carries id inputs gates (carrier_at ds n).short false (get_or vs root (Input 0))) (sym (root_is root d e))
      (subst (λ x. Carries id inputs gates (carrier_at ds d).short false x) (sym (term_of_root ts ids root d e)) (root_carries root d e h))

  cell_ok : (h : Home) → HomeWithin (length ns) ids h → HomeFits (slots_of id) (modulus_of id) h → is_cell (modulus_of id) (slots_of id) (all_parts inputs gates) (cell_over ds ids h) ≡ true
  cell_ok (Number n) w f = between 0 (modulus_of id - 1) n (omega arith) (omega arith)
  cell_ok (At root slot) w f = both _ _ (has_its_parts id inputs gates _ false _ (carries_home root slot w)) (between 0 (slots_of id - 1) slot (omega arith) (omega arith))

  place_means : (rows : List (List ℕ)) → AreRows id inputs rows → (root slot : ℕ) → HomeWithin (length ns) ids (At root slot) → slot < slots_of id
      → get_or (get_or (all_slots id rows gates) (carrier_at ds (root_at ids root)).short []) slot 0 ≡ slot_value (world_of id rows) (get_or vs root (Input 0)) slot
  place_means rows r root slot w f =
      ap (λ xs. get_or xs slot 0) ((carries_home root slot w).slots_are rows r)
      ∙ get_or-map-range_with_len (slot_value (world_of id rows) (get_or vs root (Input 0))) 0 (slots_of id) slot slot 0 f (omega arith)

  pub cells_ok : (homes : List Home) → AllHomesWithin (length ns) ids homes → ((k : ℕ) (h : Home) → slice_get homes k ≡ Some h → HomeFits (slots_of id) (modulus_of id) h)
      → list_all (is_cell (modulus_of id) (slots_of id) (all_parts inputs gates)) (map (cell_over ds ids) homes) ≡ true
  cells_ok [] w f = refl
  cells_ok (h ∷ hs) w f = both _ _ (cell_ok h (w 0 h refl) (f 0 h refl)) (cells_ok hs (λ k x e. w (suc k) x e) (λ k x e. f (suc k) x e))

  -- with these outputs, where the inputs are those of a valid circuit
  module _ (outputs : List Output) (inputs_ok : all_along (is_input (slots_of id)) push [] inputs ≡ true) where
    abbrev whole : Plan
    whole = plan id inputs gates outputs

    cell_holds : (h : Home) → HomeWithin (length ns) ids h → HomeFits (slots_of id) (modulus_of id) h → HoldsHome whole (cell_over ds ids h) (written_home vs h)
    cell_holds (Number n) w f = refl
    cell_holds (At root slot) w f = record { means = λ rows fit. place_means rows (fitting_rows id inputs rows inputs_ok fit) root slot w f }

    pub cells_hold : (homes : List Home) → AllHomesWithin (length ns) ids homes → ((k : ℕ) (h : Home) → slice_get homes k ≡ Some h → HomeFits (slots_of id) (modulus_of id) h)
        → AllZip (HoldsHome whole) (map (cell_over ds ids) homes) (homes_over vs homes)
    cells_hold [] w f = tt
    cells_hold (h ∷ hs) w f = (cell_holds h (w 0 h refl) (f 0 h refl), cells_hold hs (λ k x e. w (suc k) x e) (λ k x e. f (suc k) x e))

    cell_within : (h : Home) → HomeWithin (length ns) ids h → IsWithin whole (cell_over ds ids h) (written_home vs h)
    cell_within (Number n) w = tt
    cell_within (At root slot) w = plain _ _ ((carries_home root slot w).bound_within)
      where
        plain : (a b : ℕ) → a + 0 ≤ b → a ≤ b
        plain a b le = omega arith

    pub cells_within : (homes : List Home) → AllHomesWithin (length ns) ids homes → AllZip (IsWithin whole) (map (cell_over ds ids) homes) (homes_over vs homes)
    cells_within [] w = tt
    cells_within (h ∷ hs) w = (cell_within h (w 0 h refl), cells_within hs (λ k x e. w (suc k) x e))
