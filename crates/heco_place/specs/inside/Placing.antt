-- Gates for the first nodes of a list, and what carries their terms.
use Rattle.std.specs.Prelude.{◌≡◌, ℕ, ◌<◌, ◌≤◌, Bool, true, false, ◌&&◌, not, nat_le, nat_lt, List, [], length, map, take, slice_index_or}
use Rattle.std.specs.List.{flat_map, count_by}
use Rattle.heco_nums.specs.Presets.{modulus_of, slots_of}
use Rattle.heco_nums.specs.declared.shape.Shape.{Shape}
use Rattle.heco_nums.specs.Runs.{all_along}
use Rattle.heco_written.specs.VectorTerm.{VectorTerm, Input}
use Rattle.heco_written.specs.Cost.{is_long, is_due}
use Rattle.heco_written.specs.Needs.{is_product}
use Rattle.heco_written.specs.Bound.{bound, scheme_of}
use Rattle.heco_ir.specs.declared.vector.VNode.{VNode}
use Rattle.heco_ir.specs.Terms.{vector_terms}
use Rattle.heco_circuit.specs.declared.gate.Gate.{Gate}
use Rattle.heco_circuit.specs.Validity.{is_gate, with_gate}
use Rattle.heco_circuit.specs.Bounds.{fresh_bounds, bound_of, with_bound}
use Rattle.heco_circuit.specs.Plans.{input_parts}
use Rattle.heco_place.specs.declared.carrier.Carrier.{Carrier}
use Rattle.heco_place.specs.inside.Carried.{Carries}
use Rattle.heco_place.specs.Fitting.{AllFit}
use Rattle.heco_place.specs.Kinds.{kind, kinds}
use Rattle.heco_place.specs.inside.Ways.{nowhere}

abbrev pub due_at : List Bool → ℕ → Bool
due_at dues k = slice_index_or dues k false

abbrev pub term_at : List VectorTerm → ℕ → VectorTerm
term_at ts k = slice_index_or ts k (Input 0)

-- no bound of a gate is above this one
abbrev pub is_low : ℕ → ℕ → List ℕ → Gate → Bool
is_low id most bounds g = nat_le (bound_of id [] bounds g) most

-- The wires carry the term: the linear one as it is, and the other one relinearised, if that is due where it is needed.
pub record IsCarrier (id : ℕ) (inputs : List Shape) (gates : List Gate) (late due : Bool) (d : Carrier) (v : VectorTerm) : Type 0 where
  pub linear : Carries id inputs gates d.linear d.long v
  pub short : (d.long && not due) ≡ false → Carries id inputs gates d.short false v
  pub long_is : d.long ≡ (late && is_long v)

-- The nodes have these terms, and numbers in range; no term's bound is above the greatest one; relinearisations are due
-- everywhere, or, late, where terms are turned, multiplied or roots.
pub record IsPlan (id most : ℕ) (inputs : List Shape) (ns : List VNode) (late : Bool) (dues : List Bool) (ts vs : List VectorTerm) : Type 0 where
  pub terms_are : ts ≡ vector_terms ns
  pub fit : AllFit (length inputs) (slots_of id) (modulus_of id) ns
  pub low : (k : ℕ) → k < length ns → bound (scheme_of id) (term_at ts k) ≤ most
  pub early : late ≡ false → (k : ℕ) → k < length ns → due_at dues k ≡ true
  pub late_is : late ≡ true → (k : ℕ) → k < length ns → due_at dues k ≡ is_due ts vs (term_at ts k)

-- The gates are valid and low, the carriers carry the first terms, and the gates are those of these terms.
pub record Placing (id most : ℕ) (inputs : List Shape) (late : Bool) (dues : List Bool)
    (ts vs : List VectorTerm) (i : ℕ) (gates : List Gate) (carriers : List Carrier) : Type 0 where
  pub valid : all_along (is_gate (modulus_of id) (slots_of id) 0) with_gate (input_parts inputs) gates ≡ true
  pub low : all_along (is_low id most) (with_bound id []) (fresh_bounds id inputs) gates ≡ true
  pub count : length carriers ≡ i
  pub carried : (k : ℕ) → k < i → IsCarrier id inputs gates late (due_at dues k) (slice_index_or carriers k nowhere) (term_at ts k)
  pub kinds_are : map kind gates ≡ flat_map (kinds late ts vs) (take i ts)

-- The gates of all nodes in the form that has fewer, late where it does.
pub record IsChosen (id most : ℕ) (inputs : List Shape) (ns : List VNode) (vs : List VectorTerm) (gates : List Gate) (carriers : List Carrier) : Type 0 where
  pub late : Bool
  pub dues : List Bool
  pub plan : IsPlan id most inputs ns late dues (vector_terms ns) vs
  pub placing : Placing id most inputs late dues (vector_terms ns) vs (length ns) gates carriers
  pub chosen : late ≡ nat_lt (count_by (is_due (vector_terms ns) vs) (vector_terms ns)) (count_by is_product (vector_terms ns))
