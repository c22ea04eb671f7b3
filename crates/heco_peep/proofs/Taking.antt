-- What is put in a gate's place, by cases on the answer.
use Rattle.std.proofs.Common.{◌≡◌, ℕ, ◌+◌, List, [], length, ap, sym, ◌∙◌, true, false}
use Rattle.std.specs.Prelude.{Option, Some, None, Result, Ok, Err, OnOk, slice_index}
use Rattle.heco_nums.specs.declared.preset.Preset.{Preset}
use Rattle.heco_nums.specs.declared.shape.Shape.{Shape}
use Rattle.heco_nums.specs.Runs.{along}
use Rattle.heco_circuit.specs.declared.gate.Gate.{Gate}
use Rattle.heco_circuit.specs.Bounds.{with_bound, fresh_bounds}
use Rattle.heco_circuit.specs.Plans.{input_parts}
use Rattle.heco_circuit.specs.Validity.{with_gate}
use Rattle.heco_circuit.proofs.Lengths.{length-input_parts}
use Rattle.heco_rewrites.specs.Wires.{over}
use Rattle.heco_peep.specs.declared.changing.Changed.{Changed}
use Rattle.heco_peep.specs.declared.window.Swap.{Swap}
use Rattle.heco_peep.specs.declared.window.Swap.TheVariants as swap
use Rattle.heco_peep.specs.Rules.{Rule}
use Rattle.heco_peep.specs.Looks.{Progress, fits, put, taken, answered, look_behind}
use Rattle.heco_peep.specs.inside.Changing.{progress, IsChanged, HasGrown, HasTaken}

pub on_ok : {A E : Type 0} {P Q : Type 0} (r : Result A E) → OnOk r P → (P → Q) → OnOk r Q
on_ok (Ok x) p f = f p
on_ok (Err e) p f = tt

pub no_answer : (id : ℕ) (weights : List ℕ) (own : ℕ) (old new : Changed) (at : Gate) (answer : Option Swap) → answer ≡ None → HasGrown old new at own → HasTaken id weights own old new at answer
no_answer id weights own old new at answer e h before after = rw e (h before after)

pub unfit : (id : ℕ) (weights : List ℕ) (own : ℕ) (old new : Changed) (at : Gate) (answer : Option Swap) (x : Swap) → answer ≡ Some x → fits id weights old.parts old.bounds at x ≡ false → HasGrown old new at own
    → HasTaken id weights own old new at answer
unfit id weights own old new at answer x e f h before after = rw (e, f) (h before after)

pub fit_wire : (id : ℕ) (weights : List ℕ) (own : ℕ) (old new : Changed) (at : Gate) (answer : Option Swap) (x : Swap) (w : ℕ) → answer ≡ Some x → x ≡ swap.Wire w → fits id weights old.parts old.bounds at x ≡ true → HasGrown old new at w
    → HasTaken id weights own old new at answer
fit_wire id weights own old new at answer x w e q f h before after =
    let k : fits id weights old.parts old.bounds at (swap.Wire w) ≡ true = ap (fits id weights old.parts old.bounds at) (sym q) ∙ f in
    rw (e, q) (h before after ∙ sym (ap (λ b. put own at (progress old before) after b (swap.Wire w)) k))

pub fit_gate : (id : ℕ) (weights : List ℕ) (own : ℕ) (old new : Changed) (at : Gate) (answer : Option Swap) (x : Swap) (g : Gate) → answer ≡ Some x → x ≡ swap.Gate g → fits id weights old.parts old.bounds at x ≡ true → HasGrown old new g own
    → HasTaken id weights own old new at answer
fit_gate id weights own old new at answer x g e q f h before after =
    let k : fits id weights old.parts old.bounds at (swap.Gate g) ≡ true = ap (fits id weights old.parts old.bounds at) (sym q) ∙ f in
    rw (e, q) (h before after ∙ sym (ap (λ b. put own at (progress old before) after b (swap.Gate g)) k))

same_taken : (id : ℕ) (weights : List ℕ) (own n : ℕ) (parts qs bounds cs : List ℕ) (at h : Gate) (s : Progress) (x y : Option Swap × List ℕ) → own ≡ n → parts ≡ qs → bounds ≡ cs → at ≡ h → x ≡ y
    → taken id weights own parts bounds at s x ≡ taken id weights n qs cs h s y
same_taken id weights own n parts qs bounds cs at h s x y e1 e2 e3 e4 e5 =
    ap (λ k. taken id weights k parts bounds at s x) e1 ∙ ap (λ k. taken id weights n k bounds at s x) e2 ∙ ap (λ k. taken id weights n qs k at s x) e3 ∙ ap (λ k. taken id weights n qs cs k s x) e4
    ∙ ap (λ k. taken id weights n qs cs h s k) e5

-- so is the look at a gate
pub looks : (p : Preset) (inputs : List Shape) (weights : List ℕ) (rule : Rule) (old new : Changed) (g at : Gate) (own : ℕ) (answer : Option Swap) (before after : List ℕ) → IsChanged p.id weights inputs old
    → at ≡ over (slice_index old.names) g → own ≡ length inputs + length old.gates → (answer, after) ≡ answered p (length inputs) rule at (record { gates = old.gates; names = []; state = before })
    → HasTaken p.id weights own old new at answer → progress new after ≡ look_behind p weights (input_parts inputs) (fresh_bounds p.id inputs) rule (progress old before) g
looks p inputs weights rule old new g at own answer before after c e o a t =
    let n : length (input_parts inputs) ≡ length inputs = length-input_parts inputs in
    let h : Gate = over (slice_index old.names) g in
    let s : Progress = progress old before in
    let many : ℕ = length (input_parts inputs) in
    t before after
    ∙ same_taken p.id weights own (many + length old.gates) old.parts (along with_gate (input_parts inputs) old.gates) old.bounds (along (with_bound p.id weights) (fresh_bounds p.id inputs) old.gates) at h s (answer, after) (answered p many rule h s)
    (o ∙ ap (λ k. k + length old.gates) (sym n)) c.parts c.bounds e
    (a ∙ ap (λ k. answered p k rule at s) (sym n) ∙ ap (λ k. answered p many rule k s) e)
