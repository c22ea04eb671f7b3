-- What is known of one wire, as one value, and of a gate's.
use Rattle.std.proofs.Common.{◌≡◌, ℕ, ◌<◌, List, [], ◌∷◌, length, refl, ap, ◌∙◌, arith, true}
use Rattle.std.specs.Prelude.{slice_index, Contains}
use Rattle.std.proofs.lemmas.List.{get_or_append_left, get_or_push}
use Rattle.heco_nums.specs.Presets.{modulus_of, slots_of}
use Rattle.heco_nums.specs.Runs.{along}
use Rattle.heco_circuit.specs.declared.gate.Gate.{Gate}
use Rattle.heco_circuit.specs.Validity.{parts_of, is_gate}
use Rattle.heco_circuit.specs.Bounds.{bound_of, weights_of}
use Rattle.heco_meaning.specs.Meanings.{wire_at, wire_of}
use Rattle.heco_rewrites.specs.Wires.{Wires, behind, operands, over, OperandsStand, Even, Keeps}
use Rattle.heco_rewrites.proofs.OtherNames.{over_parts, over_bound_same, over_slots}
use Rattle.heco_rewrites.proofs.Named.{longer, even_more}

-- the parts, the bound and the slots of a wire
abbrev pub Known : Type 0
Known = ℕ × ℕ × List ℕ

abbrev pub known : Wires → ℕ → Known
known w a = (slice_index w.parts a, slice_index w.bounds a, wire_at w.slots a)

abbrev pub parts_known : Known → ℕ
parts_known k = k.0

abbrev pub bound_known : Known → ℕ
bound_known k = k.1

abbrev pub slots_known : Known → List ℕ
slots_known k = k.2

abbrev pub given : ℕ → List (List ℕ) → Wires → Gate → Known
given id vs w g = (parts_of w.parts g, bound_of id (weights_of id vs) w.bounds g, wire_of (modulus_of id) vs w.slots g)

-- later gates do not change it
pub known_more : (id : ℕ) (vs : List (List ℕ)) (w : Wires) (g : Gate) (a : ℕ) → Even w → a < length w.parts → known (behind id vs w g) a ≡ known w a
known_more id vs w g a e h =
    let p = get_or_append_left w.parts (parts_of w.parts g ∷ []) 0 a h in
    let b = get_or_append_left w.bounds (bound_of id (weights_of id vs) w.bounds g ∷ []) 0 a (rw (e.bounds) h) in
    let s = get_or_append_left w.slots (wire_of (modulus_of id) vs w.slots g ∷ []) [] a (rw (e.slots) h) in
    rw (p, b, s) refl

pub known_last : (id : ℕ) (vs : List (List ℕ)) (w : Wires) (g : Gate) → Even w → known (behind id vs w g) (length w.parts) ≡ given id vs w g
known_last id vs w g e =
    let p = get_or_push w.parts (parts_of w.parts g) 0 (length w.parts) refl in
    let b = get_or_push w.bounds (bound_of id (weights_of id vs) w.bounds g) 0 (length w.parts) e.bounds in
    let s = get_or_push w.slots (wire_of (modulus_of id) vs w.slots g) [] (length w.parts) e.slots in
    rw (p, b, s) refl

pub known_along : (id : ℕ) (vs : List (List ℕ)) (w : Wires) (gates : List Gate) (a : ℕ) → Even w → a < length w.parts → known (along (behind id vs) w gates) a ≡ known w a
known_along id vs w [] a e h = refl
known_along id vs w (g ∷ gates) a e h =
    let m = longer w.parts (parts_of w.parts g) in
    known_along id vs (behind id vs w g) gates a (even_more id vs w g e) (omega (arith, m, h)) ∙ known_more id vs w g a e h

-- ---- a gate over wires of which the same is known
abbrev pub OperandsKnown : (ℕ → ℕ) → Wires → Wires → Gate → Type 0
OperandsKnown name old new g = (a : ℕ) → Contains (operands g) a → (name a < length new.parts) × (known new (name a) ≡ known old a)

pub stand : (name : ℕ → ℕ) (old new : Wires) (g : Gate) → OperandsKnown name old new g → OperandsStand name old new g
stand name old new g h a i =
    let r = h a i in
    record {
      within = r.0;
      parts = ap parts_known r.1;
      bounds = let b : slice_index new.bounds (name a) ≡ slice_index old.bounds a = ap bound_known r.1 in omega (arith, b);
      slots = ap slots_known r.1;
    }

pub given_over : (id : ℕ) (vs ws : List (List ℕ)) (name : ℕ → ℕ) (old new : Wires) (g : Gate) → Keeps vs ws → OperandsKnown name old new g → is_gate (modulus_of id) (slots_of id) (length vs) old.parts g ≡ true
    → given id ws new (over name g) ≡ given id vs old g
given_over id vs ws name old new g k h v =
    let t : ℕ = modulus_of id in
    let N : ℕ = slots_of id in
    let s = stand name old new g h in
    let p = over_parts name old new g s in
    let b = over_bound_same id t N vs ws name old new g k (λ a i. ap bound_known (h a i).1) v in
    let w = over_slots t t N vs ws name old new g k s v in
    rw (p, b, w) refl
