-- The constant of an answer is below t.
use Rattle.std.proofs.Common.{◌≡◌, ℕ, ◌-◌, List, refl, sym, ap, arith, true, leb, subst}
use Rattle.std.specs.Prelude.{Option, Some, None, IfSome, IsTrue}
use Rattle.std.proofs.lemmas.Bool.{leb-true, lt-ltb}
use Rattle.heco_nums.specs.Presets.{modulus_of, slots_of}
use Rattle.heco_nums.specs.declared.preset.Preset.{Preset}
use Rattle.heco_fields.proofs.Bools.{both_true}
use Rattle.heco_circuit.specs.declared.gate.Gate.{Gate}
use Rattle.heco_circuit.specs.declared.gate.Gate.TheVariants.{Neg, Add, Sub, Mul, Relin, Scale, Shift, Turn, Weigh}
use Rattle.heco_circuit.specs.Bounds.{is_below}
use Rattle.heco_peep.specs.declared.window.Window.{Window}
use Rattle.heco_peep.specs.declared.window.Swap.{Swap}
use Rattle.heco_peep.specs.declared.window.Swap.TheVariants as swap
use Rattle.heco_peep.specs.Rules.{Rule, IsWindow, IsLawful, is_shown, in_range, fits_preset, is_answer, is_below_in}
use Rattle.heco_peep.specs.Looks.{window}

pub ranged_below : (t slots : ℕ) (g : Gate) → in_range t slots g ≡ true → is_below t g ≡ true
ranged_below t slots (Neg a) h = refl
ranged_below t slots (Add a b) h = refl
ranged_below t slots (Sub a b) h = refl
ranged_below t slots (Mul a b) h = refl
ranged_below t slots (Relin a) h = refl
ranged_below t slots (Scale c a) h =
    let u = both_true (leb 1 c) (leb c (t - 1)) h in
    let low = leb-true 1 c u.0 in
    let high = leb-true c (t - 1) u.1 in
    lt-ltb c t (omega (arith, low, high))
ranged_below t slots (Shift c a) h = refl
ranged_below t slots (Turn r a) h = refl
ranged_below t slots (Weigh v a) h = refl

answer_below : (w : Window) (x : Swap) → is_answer w x ≡ true → is_below_in (modulus_of w.preset.id) x ≡ true
answer_below w (swap.Wire x) h = refl
answer_below w (swap.Gate g) h = ranged_below (modulus_of w.preset.id) (slots_of w.preset.id) g (both_true (is_shown g) (fits_preset w g) h).1

pub asked_below : (p : Preset) (inputs : ℕ) (gates : List Gate) (at : Gate) (w : Window) (r : Rule) (state : List ℕ) (o : Option Swap) → w ≡ window p inputs gates at → is_shown at ≡ true → (is_shown at ≡ true → IsWindow (window p inputs gates at))
    → o ≡ (r.answer state w).0 → IfSome o (λ x. IsTrue (is_below_in p.t x))
asked_below p inputs gates at w r state None e shown ready a = tt
asked_below p inputs gates at w r state (Some x) e shown ready a =
    let here : IsWindow w = subst IsWindow (sym e) (ready shown) in
    let law : IsLawful w x = r.lawful state w here x (sym a) in
    let t : p.t ≡ modulus_of p.id = p.row.4 in
    let same : modulus_of w.preset.id ≡ modulus_of p.id = ap (λ v. modulus_of v.preset.id) e in
    rw (t, ← same) (answer_below w x law.kind)
