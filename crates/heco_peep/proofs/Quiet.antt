-- Bounds of gates: none passes where each is quiet, and what a greatest bound of theirs says.
use Rattle.std.proofs.Common.{◌≡◌, ℕ, suc, ◌+◌, ◌*◌, ◌^◌, ◌<◌, ◌≤◌, List, [], ◌∷◌, length, drop, get_or, refl, ap, ◌∙◌, arith, false, cond}
use Rattle.std.specs.Prelude.{All, Some, None, slice_index}
use Rattle.std.proofs.lemmas.Bool.{lt-leb}
use Rattle.std.proofs.lemmas.List.{get_or_append_left, get_or_push, get_or-drop, length-drop, get_or_default}
use Rattle.heco_noise.specs.Rows.{passes, IsQuiet}
use Rattle.heco_nums.specs.Runs.{along}
use Rattle.heco_circuit.specs.declared.gate.Gate.{Gate}
use Rattle.heco_circuit.specs.Bounds.{bound_of, with_bound, first_passing}
use Rattle.heco_rewrites.proofs.Named.{longer}

pub bounds_long : (id : ℕ) (weights bounds : List ℕ) (gates : List Gate) → length (along (with_bound id weights) bounds gates) ≡ length bounds + length gates
bounds_long id weights bounds [] = omega arith
bounds_long id weights bounds (g ∷ gates) = let m = longer bounds (bound_of id weights bounds g) in let r = bounds_long id weights (with_bound id weights bounds g) gates in omega (arith, m, r)

pub bounds_kept : (id : ℕ) (weights bounds : List ℕ) (gates : List Gate) (a : ℕ) → a < length bounds → slice_index (along (with_bound id weights) bounds gates) a ≡ slice_index bounds a
bounds_kept id weights bounds [] a l = refl
bounds_kept id weights bounds (g ∷ gates) a l =
    let m = longer bounds (bound_of id weights bounds g) in
    bounds_kept id weights (with_bound id weights bounds g) gates a (omega (arith, m, l)) ∙ get_or_append_left bounds (bound_of id weights bounds g ∷ []) 0 a l

quiet_passes : (e : ℕ) → IsQuiet e → passes e ≡ false
quiet_passes e h = lt-leb (2 ^ 58) (2 * e) h

pub none_passes : (id : ℕ) (weights : List ℕ) (number : ℕ) (bounds : List ℕ) (gates : List Gate) → ((i : ℕ) → i < length gates → IsQuiet (slice_index (along (with_bound id weights) bounds gates) (length bounds + i)))
    → first_passing id weights number bounds gates ≡ None
none_passes id weights number bounds [] h = refl
none_passes id weights number bounds (g ∷ gates) h =
    let e : ℕ = bound_of id weights bounds g in
    let m = longer bounds e in
    let z : length bounds + 0 ≡ length bounds = omega arith in
    let own : slice_index (along (with_bound id weights) (with_bound id weights bounds g) gates) (length bounds) ≡ e =
    bounds_kept id weights (with_bound id weights bounds g) gates (length bounds) (omega (arith, m)) ∙ get_or_push bounds e 0 (length bounds) refl in
    let first : slice_index (along (with_bound id weights) (with_bound id weights bounds g) gates) (length bounds + 0) ≡ e = ap (slice_index (along (with_bound id weights) (with_bound id weights bounds g) gates)) z ∙ own in
    let quiet : IsQuiet e = (let q = h 0 (omega arith) in omega (arith, q, first)) in
    ap (λ b. cond b (Some (number, e)) (first_passing id weights (number + 1) (with_bound id weights bounds g) gates)) (quiet_passes e quiet)
    ∙ none_passes id weights (number + 1) (with_bound id weights bounds g) gates (λ i l.
    let y : length (with_bound id weights bounds g) + i ≡ length bounds + suc i = omega (arith, m) in
    let q = h (suc i) (omega (arith, l)) in
    let same = ap (slice_index (along (with_bound id weights) (with_bound id weights bounds g) gates)) y in
    omega (arith, q, same))

-- a bound of a gate, among those of all wires
pub gate_bound : (bounds : List ℕ) (n i d : ℕ) → n + i < length bounds → get_or (drop n bounds) i d ≡ slice_index bounds (n + i)
gate_bound bounds n i d l = get_or-drop n bounds i d ∙ get_or_default bounds (n + i) d 0 l

pub below_most : (bounds : List ℕ) (n count i most : ℕ) → length bounds ≡ n + count → i < count → All (λ e. e ≤ most) (drop n bounds) → slice_index bounds (n + i) ≤ most
below_most bounds n count i most long l h =
    let m = length-drop n bounds in
    let q = h i 0 (omega (arith, m, long, l)) in
    let e = gate_bound bounds n i 0 (omega (arith, long, l)) in
    omega (arith, q, e)

pub all_below_most : (bounds : List ℕ) (n count most : ℕ) → length bounds ≡ n + count → ((i : ℕ) → i < count → slice_index bounds (n + i) ≤ most) → All (λ e. e ≤ most) (drop n bounds)
all_below_most bounds n count most long h i d l =
    let m = length-drop n bounds in
    let inside : i < count = omega (arith, m, long, l) in
    let q = h i inside in
    let e = gate_bound bounds n i d (omega (arith, long, inside)) in
    omega (arith, q, e)
