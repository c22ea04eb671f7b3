-- Where gathering chooses no wire the circuit stays as it was, and where it chooses one the circuit weighs.
use Rattle.std.proofs.Common.{◌≡◌, ◌∙◌, ℕ, zero, suc, ◌+◌, Bool, true, false, List, [], ◌∷◌, ◌++◌, length, map, refl, sym, ap, ap₂, arith}
use Rattle.std.specs.Prelude.{Option, Some, None, filter_map}
use Rattle.std.specs.List.{enumerate_from, cons_option}
use Rattle.std.proofs.lemmas.List.{append-nil}
use Rattle.heco_circuit.specs.declared.gate.Cell.{Cell}
use Rattle.heco_circuit.specs.declared.gate.Cell.TheVariants.{Number, Slot}
use Rattle.heco_circuit.specs.declared.gate.Gate.{Gate}
use Rattle.heco_circuit.specs.declared.gate.Gate.TheVariants.{Neg, Add, Sub, Mul, Relin, Scale, Shift, Turn, Weigh}
use Rattle.heco_circuit.specs.declared.gate.Output.{Output}
use Rattle.heco_circuit.specs.Plans.{Plan}
use Rattle.heco_thrift.specs.Thrift.{is_weighing, weighs}
use Rattle.heco_rewrites.specs.Needed.{has}
use Rattle.heco_rewrites.specs.Wires.{over, cell_over, output_over, maker}
use Rattle.heco_plainvec.specs.Gathering.{cell_only, vector, chosen}
use Rattle.heco_plainvec.specs.Gathered.{source_where, source, first_multiple, vector_number, stays, staying_below, name, gathered_gate, gathered_gates, gathered_vectors, gathered}
use Rattle.heco_plainvec.proofs.Leaders.{source_stays, first_source, first_stays, source_is}
use Rattle.heco_plainvec.proofs.Numbered.{any_there, there}
use Rattle.heco_plainvec.proofs.Places.{place_kept, name_itself}

-- ---- no wire is chosen

of_none : (only : Bool) (o : Option Gate) → source_where [] only o ≡ None
of_none true (Some (Scale k a)) = refl
of_none false (Some (Scale k a)) = refl
of_none only o = refl

over_itself : (f : ℕ → ℕ) → ((a : ℕ) → f a ≡ a) → (g : Gate) → over f g ≡ g
over_itself f h (Neg a) = ap Neg (h a)
over_itself f h (Add a b) = ap₂ Add (h a) (h b)
over_itself f h (Sub a b) = ap₂ Sub (h a) (h b)
over_itself f h (Mul a b) = ap₂ Mul (h a) (h b)
over_itself f h (Relin a) = ap Relin (h a)
over_itself f h (Scale k a) = ap (Scale k) (h a)
over_itself f h (Shift k a) = ap (Shift k) (h a)
over_itself f h (Turn r a) = ap (Turn r) (h a)
over_itself f h (Weigh v a) = ap (Weigh v) (h a)

cells_itself : (f : ℕ → ℕ) → ((a : ℕ) → f a ≡ a) → (cells : List Cell) → map (cell_over f) cells ≡ cells
cells_itself f h [] = refl
cells_itself f h (Number n ∷ cells) = ap (λ (cs : List Cell). Number n ∷ cs) (cells_itself f h cells)
cells_itself f h (Slot w s ∷ cells) = ap₂ (λ v (cs : List Cell). Slot v s ∷ cs) (h w) (cells_itself f h cells)

outputs_itself : (f : ℕ → ℕ) → ((a : ℕ) → f a ≡ a) → (outputs : List Output) → map (output_over f) outputs ≡ outputs
outputs_itself f h [] = refl
outputs_itself f h (o ∷ outputs) = ap₂ (λ cells (os : List Output). record { name = o.name; cells = cells } ∷ os) (cells_itself f h o.cells) (outputs_itself f h outputs)

module _ (c : Plan) (none : chosen c ≡ []) where
  no_source : (wire : ℕ) → source c wire ≡ None
  no_source wire = ap (λ among. source_where among (cell_only c wire) (maker (length c.inputs) c.gates wire)) none ∙ of_none (cell_only c wire) (maker (length c.inputs) c.gates wire)

  all_stay : (wire : ℕ) → stays c wire ≡ true
  all_stay wire = source_stays c wire (no_source wire)

  place_itself : (wire : ℕ) → staying_below c wire ≡ wire
  place_itself zero = refl
  place_itself (suc wire) =
      let one : suc wire ≡ wire + 1 = omega arith in
      ap (staying_below c) one ∙ place_kept c wire (all_stay wire) ∙ ap (λ n. n + 1) (place_itself wire) ∙ sym one

  named_itself : (wire : ℕ) → name c wire ≡ wire
  named_itself wire = name_itself c wire (no_source wire) ∙ place_itself wire

  gate_itself : (wire : ℕ) (g : Gate) → gathered_gate c (wire, g) ≡ Some g
  gate_itself wire g = rw (all_stay wire, no_source wire) (ap (λ h. Some h) (over_itself (name c) named_itself g))

  gates_itself : (n : ℕ) (gates : List Gate) → filter_map (gathered_gate c) (enumerate_from n gates) ≡ gates
  gates_itself n [] = refl
  gates_itself n (g ∷ gates) = ap₂ (λ o (gs : List Gate). cons_option o gs) (gate_itself n g) (gates_itself (n + 1) gates)

  vectors_itself : gathered_vectors c ≡ c.vectors
  vectors_itself = ap (λ xs. c.vectors ++ map (vector c) xs) none ∙ append-nil c.vectors

  pub stays_as_it_is : gathered c ≡ c
  unfolding gathered
  stays_as_it_is = rw (vectors_itself, gates_itself (length c.inputs) c.gates, outputs_itself (name c) named_itself c.outputs) refl

-- ---- a wire is chosen

weighed_there : (c : Plan) (a k by : ℕ) → source c (length c.inputs + k) ≡ Some a → stays c (length c.inputs + k) ≡ true → gathered_gate c (length c.inputs + k, Scale by a) ≡ Some (Weigh (vector_number c a) (name c a))
weighed_there c a k by e h = rw (h, e) refl

pub weighs_where_chosen : (c : Plan) (a : ℕ) → has (chosen c) a ≡ true → weighs (gathered c) ≡ true
unfolding gathered
weighs_where_chosen c a h =
    let s = source_is c (first_multiple c a) a (first_source c a h) in
    let is : source c (length c.inputs + s.place) ≡ Some a = rw (← (s.number)) (first_source c a h) in
    let stands : stays c (length c.inputs + s.place) ≡ true = rw (← (s.number)) (first_stays c a h) in
    let at = there (gathered_gate c) (length c.inputs) c.gates s.place (Scale s.by a) (Weigh (vector_number c a) (name c a)) s.gate (weighed_there c a s.place s.by is stands) in
    any_there is_weighing (gathered_gates c) at.0 (Weigh (vector_number c a) (name c a)) at.1 refl
