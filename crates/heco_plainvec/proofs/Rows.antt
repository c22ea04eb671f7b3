-- Lists with an entry for each wire.
use Rattle.std.proofs.Common.{◌≡◌, ℕ, ◌+◌, ◌<◌, List, [], ◌∷◌, ◌++◌, length, map, take, refl, ap, sym, Bool, ◌∙◌, arith, get_or, false, not}
use Rattle.std.specs.Prelude.{Some, filter_map}
use Rattle.std.specs.List.{enumerate_from, cons_option}
use Rattle.std.proofs.lemmas.List.FromFn.{length-map-range_with_len, get_or-map-range_with_len, length-range_with_len}
use Rattle.heco_circuit.specs.declared.gate.Gate.{Gate}
use Rattle.heco_circuit.specs.declared.gate.Gate.TheVariants.{Neg}
use Rattle.heco_circuit.specs.Plans.{Plan}
use Rattle.heco_rewrites.specs.Wires.{maker}
use Rattle.heco_plainvec.specs.declared.multiple.Multiple.{Multiple}
use Rattle.heco_plainvec.specs.Gathering.{wires, is_read, cell_only, multiple_where, multiple_of}
use Rattle.heco_plainvec.proofs.Numbered.{get-length, maker_is, numbered_more}

pub length-wires : (c : Plan) → length (wires c) ≡ length c.inputs + length c.gates
length-wires c = length-range_with_len 0 (length c.inputs + length c.gates)

pub length-each : {X : Type 0} (f : ℕ → X) (c : Plan) → length (map f (wires c)) ≡ length c.inputs + length c.gates
length-each f c = length-map-range_with_len f 0 (length c.inputs + length c.gates)

pub each_at : {X : Type 0} (f : ℕ → X) (c : Plan) (a : ℕ) (d : X) → a < length c.inputs + length c.gates → get_or (map f (wires c)) a d ≡ f a
each_at f c a d l = get_or-map-range_with_len f 0 (length c.inputs + length c.gates) a a d l (omega arith)

-- a wire that a gate makes
pub made_below : (c : Plan) (wire : ℕ) (g : Gate) → maker (length c.inputs) c.gates wire ≡ Some g → wire < length c.inputs + length c.gates
made_below c wire g e =
    let m = maker_is (length c.inputs) c.gates wire g e in
    let l = get-length c.gates m.0 g m.2 in
    let n = m.1 in omega (arith, l, n)

pub only_at : (c : Plan) (wire : ℕ) → wire < length c.inputs + length c.gates → not (get_or (map (is_read c) (wires c)) wire false) ≡ cell_only c wire
only_at c wire l = ap not (each_at (is_read c) c wire false l)

-- the end of a walk down a list
pub none_left : {X : Type 0} (xs : List X) → length xs < 1 → xs ≡ []
none_left [] l = refl
none_left (x ∷ xs) l = absurd (omega (arith, l))

-- the multiples of a wire with the next gate, where it is one
pub group_more : (c : Plan) (reads : List Bool) (gs : List Gate) (new old : List Multiple) (a i wire : ℕ) → reads ≡ map (is_read c) (wires c) → gs ≡ c.gates → wire ≡ length c.inputs + i → i < length c.gates
    → new ≡ old ++ cons_option (multiple_where (not (get_or reads wire false)) a wire (get_or gs i (Neg 0))) []
    → old ≡ filter_map (multiple_of (cell_only c) a) (enumerate_from (length c.inputs) (take i c.gates)) → new ≡ filter_map (multiple_of (cell_only c) a) (enumerate_from (length c.inputs) (take (i + 1) c.gates))
group_more c reads gs new old a i wire r g w l n o =
    n ∙ ap (λ xs. xs ++ cons_option (multiple_where (not (get_or reads wire false)) a wire (get_or gs i (Neg 0))) []) o
    ∙ ap (λ rs. before ++ cons_option (multiple_where (not (get_or rs wire false)) a wire (get_or gs i (Neg 0))) []) r
    ∙ ap (λ b. before ++ cons_option (multiple_where b a wire (get_or gs i (Neg 0))) []) (only_at c wire (omega (arith, w, l)))
    ∙ ap (λ zs. before ++ cons_option (multiple_where (cell_only c wire) a wire (get_or zs i (Neg 0))) []) g
    ∙ ap (λ u. before ++ cons_option (multiple_where (cell_only c u) a u (get_or c.gates i (Neg 0))) []) w
    ∙ sym (numbered_more (multiple_of (cell_only c) a) (length c.inputs) c.gates i (Neg 0) l)
  where
    before : List Multiple
    before = filter_map (multiple_of (cell_only c) a) (enumerate_from (length c.inputs) (take i c.gates))
