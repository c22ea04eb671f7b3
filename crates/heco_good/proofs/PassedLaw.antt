-- What passes make of a circuit that compiling may give is good.
use Rattle.std.proofs.Common.{◌≡◌, ◌∙◌, ℕ, zero, suc, ◌+◌, ◌-◌, ◌≤◌, Bool, true, false, ◌||◌, List, [], ◌∷◌, length, map, Ok, refl, sym, ap, subst, arith}
use Rattle.std.specs.Prelude.{All, slice_get, slice_index}
use Rattle.std.specs.List.{AllZip, list_any}
use Rattle.heco_nums.specs.Presets.{modulus_of}
use Rattle.heco_nums.specs.declared.shape.Shape.{Shape}
use Rattle.heco_syntax.specs.declared.tree.Source.{Source}
use Rattle.heco_types.specs.Shapes.{shapes_of}
use Rattle.heco_circuit.specs.Plans.{Plan, shape_of}
use Rattle.heco_circuit.specs.declared.gate.Cell.{Cell}
use Rattle.heco_circuit.specs.declared.gate.Cell.TheVariants.{Number, Slot}
use Rattle.heco_circuit.specs.declared.gate.Gate.{Gate}
use Rattle.heco_circuit.specs.declared.gate.Output.{Output}
use Rattle.heco_texts.specs.Answers.{HaveFit}
use Rattle.heco_written.specs.Bound.{bound, greatest_bound, scheme_of}
use Rattle.heco_written.specs.WrittenForm.{WrittenHome, Known, At, vectors_of}
use Rattle.heco_thrift.specs.Homes.{all_cells, is_number_cell}
use Rattle.heco_thrift.specs.Thrift.{bounds_of, gate_bounds, is_weighing, weighs, bounds_where, IsWithin, IsLow, IsThrifty}
use Rattle.heco_thrift.proofs.Flat.{lengths, map_flat, rows_from_items, lengths_flat}
use Rattle.heco_rewrites.specs.Wires.{maker}
use Rattle.heco_peep.specs.NoWorse.{weighed_by, is_weighed, AreBelowElsewhere, IsSameCell, IsNoWorse, HasFewBytes}
use Rattle.heco_peep.specs.Passed.{passed, IsPassed}
use Rattle.heco_peep.specs.Rules.{Handed}
use Rattle.heco_peep.proofs.InOrder.{passed_no_worse}
use Rattle.heco_peep.proofs.Products.{maker_weighs, weighed_after}
use Rattle.heco_peep.proofs.Quiet.{all_below_most}
use Rattle.heco_good.specs.Compiled.{IsWithinElsewhere, IsLowElsewhere, IsCircuitOf, IsPassedOf}
use Rattle.heco_good.specs.Good.{modulus, homes_of, Good}
use Rattle.heco_good.proofs.GatheredLaw.{quiet_gates}
use Rattle.heco_good.proofs.LowElsewhere.{bounds_many}
use Rattle.heco_good.proofs.Zips.{zip_through}

-- ---- a circuit without products by plain vectors
any_weighs : (gates : List Gate) (k : ℕ) → weighed_by (slice_get gates k) ≡ true → list_any is_weighing gates ≡ true
any_weighs [] k h = absurd cc
any_weighs (g ∷ gates) zero h = rw h refl
any_weighs (g ∷ gates) (suc k) h = or_right (is_weighing g) (list_any is_weighing gates) (any_weighs gates k h)
  where
    or_right : (b c : Bool) → c ≡ true → (b || c) ≡ true
    or_right true c h = refl
    or_right false c h = h

none_weighed : (d : Plan) (wire : ℕ) → weighs d ≡ false → is_weighed d wire ≡ false
none_weighed d wire none = by_test (is_weighed d wire) refl
  where
    there : is_weighed d wire ≡ true → weighs d ≡ true
    there h =
        let n : ℕ = length d.inputs in
        let ge = weighed_after n d.gates wire h in
        let back : n + (wire - n) ≡ wire = omega (arith, ge) in
        any_weighs d.gates (wire - n) (sym (maker_weighs n d.gates (wire - n)) ∙ ap (λ z. weighed_by (maker n d.gates z)) back ∙ h)

    by_test : (b : Bool) → is_weighed d wire ≡ b → is_weighed d wire ≡ false
    by_test false e = e
    by_test true e = absurd (let q : true ≡ false = sym (there e) ∙ none in cc)

-- ---- numbers
numbers_of : (c d : Plan) (xs ys : List Cell) → AllZip (IsSameCell c d) xs ys → map is_number_cell ys ≡ map is_number_cell xs
numbers_of c d [] [] h = refl
numbers_of c d [] (y ∷ ys) h = absurd h
numbers_of c d (x ∷ xs) [] h = absurd h
numbers_of c d (Number m ∷ xs) (Number k ∷ ys) h = ap (λ bs. true ∷ bs) (numbers_of c d xs ys h.1)
numbers_of c d (Slot u i ∷ xs) (Slot v j ∷ ys) h = ap (λ bs. false ∷ bs) (numbers_of c d xs ys h.1)
numbers_of c d (Number m ∷ xs) (Slot v j ∷ ys) h = absurd h.0
numbers_of c d (Slot u i ∷ xs) (Number k ∷ ys) h = absurd h.0

abbrev numbers_by_output : List Output → List (List Bool)
numbers_by_output os = map (λ (o : Output). map is_number_cell o.cells) os

lengths_of_shapes : (os : List Output) → lengths (numbers_by_output os) ≡ map (λ (s : Shape). s.len) (map shape_of os)
lengths_of_shapes os = lengths_flat is_number_cell (λ (o : Output). o.cells) os ∙ shapes os
  where
    shapes : (os : List Output) → map (λ (o : Output). length o.cells) os ≡ map (λ (s : Shape). s.len) (map shape_of os)
    shapes [] = refl
    shapes (o ∷ os) = ap (λ ns. length o.cells ∷ ns) (shapes os)

module _ (c d : Plan) (w : IsNoWorse c d) where
  same_numbers : map (λ (o : Output). map is_number_cell o.cells) d.outputs ≡ map (λ (o : Output). map is_number_cell o.cells) c.outputs
  same_numbers =
      rows_from_items (numbers_by_output d.outputs) (numbers_by_output c.outputs)
      (lengths_of_shapes d.outputs ∙ ap (map (λ (s : Shape). s.len)) w.outputs ∙ sym (lengths_of_shapes c.outputs))
      (sym (map_flat is_number_cell (λ (o : Output). o.cells) d.outputs) ∙ numbers_of c d (all_cells c) (all_cells d) w.cells ∙ map_flat is_number_cell (λ (o : Output). o.cells) c.outputs)

  -- ---- bounds
  module _ (homes : List WrittenHome) (low : IsLowElsewhere c homes) (none : weighs d ≡ false) where
    low_gates : All (λ e. e ≤ greatest_bound (scheme_of d.preset) (vectors_of homes)) (gate_bounds d)
    low_gates =
        let most : ℕ = greatest_bound (scheme_of c.preset) (vectors_of homes) in
        let below : AreBelowElsewhere most d = w.bounds_elsewhere most low.gates in
        subst (λ id. All (λ e. e ≤ greatest_bound (scheme_of id) (vectors_of homes)) (gate_bounds d)) (sym w.preset)
        (all_below_most (bounds_of d) (length d.inputs) (length d.gates) most (bounds_many d) (λ i l. below (length d.inputs + i) (omega arith) (omega (arith, l)) (none_weighed d (length d.inputs + i) none)))

    cell_within : (x y : Cell) (home : WrittenHome) → IsSameCell c d x y → IsWithinElsewhere c x home → IsWithin d y home
    cell_within (Number m) (Number k) home s h = tt
    cell_within (Number m) (Slot v j) home s h = absurd s
    cell_within (Slot u i) (Number k) home s h = tt
    cell_within (Slot u i) (Slot v j) (Known m) s h = tt
    cell_within (Slot u i) (Slot v j) (At p) s h = by_test (is_weighed c u) refl h
      where
        by_test : (b : Bool) → is_weighed c u ≡ b → (is_weighed c u ≡ false → IsWithin c (Slot u i) (At p)) → IsWithin d (Slot v j) (At p)
        by_test false e h =
            let within : slice_index (bounds_of c) u ≤ bound (scheme_of c.preset) p.vector = h e in
            let same = ap (λ id. bound (scheme_of id) p.vector) w.preset in
            let b = s.1.bound in omega (arith, within, same, b)
        by_test true e h = absurd (let q : true ≡ false = sym (s.1.weighed e) ∙ none_weighed d v none in cc)

    low_again : IsLow d homes
    low_again = record { gates = low_gates; outputs = zip_through (IsSameCell c d) (IsWithinElsewhere c) (IsWithin d) cell_within (all_cells c) (all_cells d) homes w.cells low.outputs }

  bounds_again : (homes : List WrittenHome) → IsLowElsewhere c homes → bounds_where (weighs d) d homes
  bounds_again homes low = by_test (weighs d) refl
    where
      by_test : (b : Bool) → weighs d ≡ b → bounds_where b d homes
      by_test true e = quiet_gates d w.valid
      by_test false e = low_again homes low e

  thrifty_again : (homes : List WrittenHome) → IsLowElsewhere c homes → IsThrifty c homes → IsThrifty d homes
  thrifty_again homes low t = record {
    gates = let a = w.gates in let b = t.gates in omega (arith, a, b);
    late_gates = let a = w.gates in let b = t.late_gates in omega (arith, a, b);
    bounds = bounds_again homes low;
    relinearisations = w.relinearisations t.relinearisations;
    relinearisation_needed = w.relinearisation_needed ∙ t.relinearisation_needed;
    turns_needed = w.turns_needed ∙ rw w.preset t.turns_needed;
  }

  good_again : (source : Source) → IsCircuitOf source c → Good source d
  good_again source of =
      let g = of.good in
      record {
        valid = w.valid;
        preset = w.preset ∙ g.preset;
        inputs = w.inputs ∙ g.inputs;
        outputs = w.outputs ∙ g.outputs;
        terms = g.terms;
        execution = g.execution;
        numbers = same_numbers ∙ g.numbers;
        meaning = λ rows fit. g.meaning rows fit ∙ ap (λ out. Ok out) (sym (w.means rows (fits_before rows g fit)));
        thrift = thrifty_again (homes_of source g.terms) of.low g.thrift;
      }
    where
      fits_before : (rows : List (List ℕ)) (g : Good source c) → HaveFit (modulus source) (shapes_of false source.ports) rows → HaveFit (modulus_of c.preset) c.inputs rows
      fits_before rows g fit = rw (g.preset, g.inputs) fit

pub passed_is_good : (source : Source) (c d : Plan) (handed left : List Handed) → IsCircuitOf source c → HasFewBytes c → IsPassed c handed d left → IsPassedOf source handed d left
passed_is_good source c d handed left of few p = record {
  compiled = c;
  of_source = of;
  passed = p;
  good = subst (Good source) (sym p.circuit) (good_again c (passed p.preset c handed) (passed_no_worse p.preset c handed p.number of.good.valid few) source of);
}
