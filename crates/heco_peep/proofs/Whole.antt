-- A pass over a circuit and the dropping of dead gates, put together.
use Rattle.std.proofs.Common.{◌≡◌, ℕ, zero, suc, ◌+◌, ◌-◌, ◌<◌, ◌≤◌, List, [], ◌∷◌, length, map, refl, sym, ◌∙◌, arith, Bool, true, false, ◌||◌, subst}
use Rattle.std.specs.Prelude.{Some, slice_get, slice_index}
use Rattle.std.specs.List.{list_any, range_with_len}
use Rattle.std.proofs.lemmas.Bool.{eq-eqb}
use Rattle.std.proofs.lemmas.List.FromFn.{length-range_with_len, get_or-range_with_len}
use Rattle.heco_nums.specs.Presets.{slots_of}
use Rattle.heco_nums.specs.declared.preset.Preset.{Preset}
use Rattle.heco_nums.specs.Runs.{along}
use Rattle.heco_circuit.specs.declared.gate.Cell.{Cell}
use Rattle.heco_circuit.specs.declared.gate.Cell.TheVariants.{Slot}
use Rattle.heco_circuit.specs.declared.gate.Gate.{Gate}
use Rattle.heco_circuit.specs.declared.gate.Output.{Output}
use Rattle.heco_circuit.specs.Bounds.{fresh_bounds, weights_of}
use Rattle.heco_circuit.specs.Plans.{Plan, input_parts}
use Rattle.heco_circuit.proofs.Lengths.{length-input_parts}
use Rattle.heco_meaning.specs.Meanings.{filled}
use Rattle.heco_rewrites.specs.Wires.{Wires, behind, StandsFor, Even, cell_over, output_over, maker}
use Rattle.heco_rewrites.specs.Needed.{Kept, needed}
use Rattle.heco_rewrites.specs.Dropping.{needed_gates, IsDropped}
use Rattle.heco_rewrites.proofs.Named.{stands_through}
use Rattle.heco_rewrites.proofs.Along.{along_long}
use Rattle.heco_rewrites.proofs.Dropping.{dropped}
use Rattle.heco_peep.specs.Rules.{Rule}
use Rattle.heco_peep.specs.Looks.{Progress, unchanged, looked}
use Rattle.heco_peep.specs.Passed.{names_wire, shows, renamed, needed_of}
use Rattle.heco_peep.specs.NoWorse.{weighed_by}
use Rattle.heco_peep.proofs.Look.{Ground, Formed}
use Rattle.heco_peep.proofs.Step.{Going, passes}
use Rattle.heco_peep.proofs.Keeping.{IsFrom, all_from, names_long, gates_few}
use Rattle.heco_peep.proofs.Products.{weighs_at, Stays, all_stay, AreKept, all_kept, none_kept, none_before, still_weighed}

-- the wires of a circuit's inputs, for these rows, and those with the wires of these gates
abbrev pub base : ℕ → Plan → List (List ℕ) → Wires
base id c rows = record { parts = input_parts c.inputs; bounds = fresh_bounds id c.inputs; slots = map (filled (slots_of id)) rows }

abbrev pub wires : ℕ → Plan → List (List ℕ) → List Gate → Wires
wires id c rows gates = along (behind id c.vectors) (base id c rows) gates

-- ---- before the first look
itself : (start : Wires) (n a : ℕ) → n ≡ length start.parts → a < length start.parts → StandsFor start start a (slice_index (range_with_len 0 n) a)
itself start n a e l = let q : slice_index (range_with_len 0 n) a ≡ a = get_or-range_with_len 0 n a 0 (omega (arith, e, l)) ∙ omega arith in
    rw q (record { within = l; parts = refl; bounds = omega arith; slots = refl })

pub start_going : (id : ℕ) (vs : List (List ℕ)) (start : Wires) (n : ℕ) (state : List ℕ) → n ≡ length start.parts → Even start → Going id vs start start (unchanged n state)
start_going id vs start n state e even = record {
  named = record { count = length-range_with_len 0 n ∙ e; old_even = even; new_even = even; each = λ a l. itself start n a e l };
  formed = refl;
  level = refl;
  under = λ a l. omega arith;
}

-- ---- output cells ask for their wires
shown_cell : (f : ℕ → ℕ) (cells : List Cell) (j w q : ℕ) → slice_get cells j ≡ Some (Slot w q) → list_any (names_wire (f w)) (map (cell_over f) cells) ≡ true
shown_cell f [] j w q e = absurd cc
shown_cell f (x ∷ cells) zero w q e =
    let s : x ≡ Slot w q = (let r : Some x ≡ Some (Slot w q) = e in cc) in
    rw (s, eq-eqb (f w) (f w) refl) refl
shown_cell f (x ∷ cells) (suc j) w q e = or_right (names_wire (f w) (cell_over f x)) (list_any (names_wire (f w)) (map (cell_over f) cells)) (shown_cell f cells j w q e)
  where
    or_right : (b c : Bool) → c ≡ true → (b || c) ≡ true
    or_right true c h = refl
    or_right false c h = h

pub shown_output : (f : ℕ → ℕ) (outputs : List Output) (i j w q : ℕ) (o : Output) → slice_get outputs i ≡ Some o → slice_get o.cells j ≡ Some (Slot w q) → shows (map (output_over f) outputs) (f w) ≡ true
shown_output f [] i j w q o e h = absurd cc
shown_output f (x ∷ outputs) zero j w q o e h =
    let s : x ≡ o = (let r : Some x ≡ Some o = e in cc) in
    or_left (list_any (names_wire (f w)) (map (cell_over f) x.cells)) (shows (map (output_over f) outputs) (f w)) (shown_cell f x.cells j w q (subst (λ y. slice_get y.cells j ≡ Some (Slot w q)) (sym s) h))
  where
    or_left : (b c : Bool) → b ≡ true → (b || c) ≡ true
    or_left true c h = refl
    or_left false c h = absurd cc
shown_output f (x ∷ outputs) (suc i) j w q o e h =
    or_right (list_any (names_wire (f w)) (map (cell_over f) x.cells)) (shows (map (output_over f) outputs) (f w)) (shown_output f outputs i j w q o e h)
  where
    or_right : (b c : Bool) → c ≡ true → (b || c) ≡ true
    or_right true c h = refl
    or_right false c h = h

outs_needed : (outs : ℕ → Bool) (wire : ℕ) (gates : List Gate) (a : ℕ) → outs a ≡ true → needed outs wire gates a ≡ true
outs_needed outs wire [] a h = h
outs_needed outs wire (g ∷ gates) a h = rw (outs_needed outs (wire + 1) gates a h) refl

-- ---- a pass
-- the wire that stands for an old one after a pass and the dropping
abbrev pub new_name : Plan → Progress → ℕ → ℕ
new_name c s a = slice_index (needed_of (renamed c s)).names (slice_index s.names a)

-- a gate of the circuit whose bound is at least this one, of a gate that is a product by a plain vector or not; where it is none
-- neither is that one
pub record IsUnder (bounds : List ℕ) (count : ℕ) (gates : List Gate) (weighs : Bool) (e : ℕ) : Type 0 where
  pub gate : ℕ
  pub within : gate < length gates
  pub above : e ≤ slice_index bounds (count + gate)
  pub alike : weighs ≡ false → weighs_at gates gate ≡ false

-- the new gates may stand; each wire that an output cell asks for is stood for, that of a product by a plain vector by such a
-- wire; no gate's bound is above all old ones
pub record Arrives (id : ℕ) (c : Plan) (rows : List (List ℕ)) (s : Progress) : Type 0 where
  pub formed : Formed id c.vectors (base id c rows) (needed_of (renamed c s)).gates
  pub each : (a : ℕ) → a < length (wires id c rows c.gates).parts → shows (map (output_over (slice_index s.names)) c.outputs) (slice_index s.names a) ≡ true
      → StandsFor (wires id c rows c.gates) (wires id c rows (needed_of (renamed c s)).gates) a (new_name c s a)
  pub weighed : (a : ℕ) → weighed_by (maker (length c.inputs) c.gates a) ≡ true → shows (map (output_over (slice_index s.names)) c.outputs) (slice_index s.names a) ≡ true
      → weighed_by (maker (length c.inputs) (needed_of (renamed c s)).gates (new_name c s a)) ≡ true
  pub fewer : length (needed_of (renamed c s)).gates ≤ length c.gates
  pub bounds : (i : ℕ) → i < length (needed_of (renamed c s)).gates
      → IsUnder (wires id c rows c.gates).bounds (length c.inputs) c.gates (weighs_at (needed_of (renamed c s)).gates i) (slice_index (wires id c rows (needed_of (renamed c s)).gates).bounds (length c.inputs + i))

pub arrives : (p : Preset) (c : Plan) (rows : List (List ℕ)) (rule : Rule) (state : List ℕ) → Ground p.id c.vectors (base p.id c rows) → Formed p.id c.vectors (base p.id c rows) c.gates → Arrives p.id c rows (looked p c rule state)
arrives p c rows rule state ground formed =
    let vs : List (List ℕ) = c.vectors in
    let start : Wires = base p.id c rows in
    let n : ℕ = length c.inputs in
    let en : length start.parts ≡ n = length-input_parts c.inputs in
    let s : Progress = looked p c rule state in
    let o : Going p.id vs start (wires p.id c rows c.gates) s = passes p vs start start (unchanged n state) rule c.gates ground (start_going p.id vs start n state (sym en) ground.even) formed in
    let outs : ℕ → Bool = shows (map (output_over (slice_index s.names)) c.outputs) in
    let k : Kept = needed_gates outs n s.gates in
    let d : IsDropped p.id vs start outs s.gates k = subst (λ m. IsDropped p.id vs start outs s.gates (needed_gates outs m s.gates)) en (dropped p.id vs start outs s.gates ground.even o.formed) in
    let long_new = along_long p.id vs start s.gates in
    let long_old = along_long p.id vs start c.gates in
    let level = o.level in
    let as_many : length s.gates ≡ length c.gates = omega (arith, long_new, long_old, level) in
    let first : length (range_with_len 0 n) ≡ n = length-range_with_len 0 n in
    let need : ℕ → Bool = needed outs n s.gates in
    let products : Stays n c.gates s = all_stay p (weights_of p.id vs) (input_parts c.inputs) (fresh_bounds p.id c.inputs) rule n state c.gates en in
    let copies : AreKept need n s.gates k = all_kept need n [] s.gates (record { gates = []; names = range_with_len 0 n }) (none_kept need n) in
    record {
      formed = d.formed;
      each = λ a l q.
          let one = o.named.each a l in
          stands_through (wires p.id c rows c.gates) (wires p.id c rows s.gates) (wires p.id c rows k.gates) a (slice_index s.names a) (new_name c s a) one
          (d.each (slice_index s.names a) (let w = one.within in omega (arith, w, long_new)) (rw en (outs_needed outs n s.gates (slice_index s.names a) q)));
      weighed = λ a w q. still_weighed need n c.gates s k a products copies w (outs_needed outs n s.gates (slice_index s.names a) q);
      fewer = let f = gates_few (needed outs n s.gates) n (record { gates = []; names = range_with_len 0 n }) s.gates in omega (arith, f, as_many);
      bounds = λ i l.
          let f : IsFrom (needed outs n s.gates) n i k.names = all_from (needed outs n s.gates) n (record { gates = []; names = range_with_len 0 n }) s.gates (omega (arith, first)) (λ j h. absurd (omega (arith, h))) i l in
          let m = names_long (needed outs n s.gates) n (record { gates = []; names = range_with_len 0 n }) s.gates in
          let w = f.within in
          let b = f.after in
          let st = d.each f.wire (omega (arith, w, m, first, en)) (subst (λ m. needed outs m s.gates f.wire ≡ true) (sym en) f.needed) in
          let e = st.bounds in
          let u = o.under f.wire (omega (arith, w, m, first, en, long_old, as_many)) in
          let back : n + (f.wire - n) ≡ f.wire = omega (arith, b) in
          record {
            gate = f.wire - n;
            within = omega (arith, w, b, m, first, as_many);
            above = rw (back, ← (f.name)) (under_through _ _ _ e u);
            alike = none_before need n c.gates s k f.wire i products copies b (omega (arith, w, m, first)) f.needed f.name;
          };
    }
  where
    under_through : (x y z : ℕ) → x ≤ y → y ≤ z → x ≤ z
    under_through x y z h k = omega (arith, h, k)
