-- One look of a lawful pass keeps what each wire is.
use Rattle.std.proofs.Common.{◌≡◌, ℕ, ◌+◌, ◌<◌, ◌≤◌, List, [], ◌∷◌, ◌++◌, length, refl, ap, sym, ◌∙◌, arith, inl, inr, Bool, true, false, cond, leb, eqb}
use Rattle.std.specs.Prelude.{Contains, Option, Some, None, slice_index}
use Rattle.std.proofs.lemmas.Bool.{cases_lt, leb-true, eqb-true}
use Rattle.std.proofs.lemmas.List.{get_or_append_left, get_or_push}
use Rattle.heco_nums.specs.Presets.{modulus_of, slots_of}
use Rattle.heco_nums.specs.declared.preset.Preset.{Preset}
use Rattle.heco_nums.specs.Runs.{along, all_along}
use Rattle.heco_fields.proofs.Bools.{both_true}
use Rattle.heco_fields.proofs.Loops.{along_push}
use Rattle.heco_circuit.specs.declared.gate.Gate.{Gate}
use Rattle.heco_circuit.specs.Bounds.{bound_of, weights_of}
use Rattle.heco_circuit.specs.Validity.{parts_of, with_gate, is_gate}
use Rattle.heco_meaning.specs.Meanings.{wire_at, wire_of}
use Rattle.heco_rewrites.specs.Wires.{Wires, behind, operands, over, StandsFor, OperandsStand, Named}
use Rattle.heco_rewrites.specs.Renaming.{IsRenamed}
use Rattle.heco_rewrites.proofs.OtherNames.{first}
use Rattle.heco_rewrites.proofs.Renamed.{renamed}
use Rattle.heco_rewrites.proofs.Named.{longer, own_stands, wire_stands, named_push}
use Rattle.heco_rewrites.proofs.Along.{along_parts, along_bounds, along_long, all_push, gate_below}
use Rattle.heco_rewrites.proofs.Dropping.{keeps_itself}
use Rattle.heco_peep.specs.declared.window.Swap.{Swap}
use Rattle.heco_peep.specs.declared.window.Swap.TheVariants as swap
use Rattle.heco_peep.specs.Rules.{Rule, IsLawful, is_shown, in_range}
use Rattle.heco_peep.specs.Looks.{window, Progress, fits, grown, put, taken, answered, look_behind}
use Rattle.heco_peep.proofs.Makers.{gate_ranged}
use Rattle.heco_peep.proofs.Look.{Ground, Formed, ready, seen_below, agrees, shown_is_gate}

-- After some looks each old wire has a wire that stands for it, and the changed gates may stand. There are as many wires, and
-- no wire's own bound is above that of the old wire of its number.
pub record Going (id : ℕ) (vs : List (List ℕ)) (start old : Wires) (s : Progress) : Type 0 where
  pub named : Named s.names old (along (behind id vs) start s.gates)
  pub formed : Formed id vs start s.gates
  pub level : length (along (behind id vs) start s.gates).parts ≡ length old.parts
  pub under : (a : ℕ) → a < length old.parts → slice_index (along (behind id vs) start s.gates).bounds a ≤ slice_index old.bounds a

under_push : (xs ys : List ℕ) (x y n : ℕ) → length xs ≡ n → length ys ≡ n → ((a : ℕ) → a < n → slice_index xs a ≤ slice_index ys a) → x ≤ y → (a : ℕ) → a < n + 1 → slice_index (xs ++ x ∷ []) a ≤ slice_index (ys ++ y ∷ []) a
under_push xs ys x y n e f h l a la = elim (cases_lt a n) [
  | inl s ↦ rw (get_or_append_left xs (x ∷ []) 0 a (omega (arith, e, s)), get_or_append_left ys (y ∷ []) 0 a (omega (arith, f, s))) (h a s)
  | inr ge ↦ rw (get_or_push xs x 0 a (omega (arith, e, la, ge)), get_or_push ys y 0 a (omega (arith, f, la, ge))) l
]

going_push : (id : ℕ) (vs : List (List ℕ)) (start old : Wires) (s : Progress) (g h : Gate) (x : ℕ) (state : List ℕ) → Going id vs start old s
    → StandsFor (behind id vs old g) (behind id vs (along (behind id vs) start s.gates) h) (length old.parts) x
    → is_gate (modulus_of id) (slots_of id) (length vs) (along (behind id vs) start s.gates).parts h ≡ true
    → bound_of id (weights_of id vs) (along (behind id vs) start s.gates).bounds h ≤ bound_of id (weights_of id vs) old.bounds g
    → Going id vs start (behind id vs old g) (grown s h x state)
going_push id vs start old s g h x state o st v l =
    let new : Wires = along (behind id vs) start s.gates in
    let push : along (behind id vs) start (s.gates ++ h ∷ []) ≡ behind id vs new h = along_push (behind id vs) start s.gates h in
    let more = longer old.parts (parts_of old.parts g) in
    record {
      named = rw push (named_push id vs vs s.names old new g h x o.named st);
      formed = all_push (is_gate (modulus_of id) (slots_of id) (length vs)) with_gate start.parts s.gates h o.formed (rw (← (along_parts id vs start s.gates)) v);
      level = rw push (longer new.parts (parts_of new.parts h) ∙ ap (λ k. k + 1) o.level ∙ sym more);
      under = rw push (λ a la. under_push new.bounds old.bounds (bound_of id (weights_of id vs) new.bounds h) (bound_of id (weights_of id vs) old.bounds g) (length old.parts)
          (o.named.new_even.bounds ∙ o.level) o.named.old_even.bounds o.under l a (rw more at la));
    }

pub go : (p : Preset) (vs : List (List ℕ)) (start old : Wires) (s : Progress) (rule : Rule) (g : Gate) → Ground p.id vs start → Going p.id vs start old s
    → is_gate (modulus_of p.id) (slots_of p.id) (length vs) old.parts g ≡ true → Going p.id vs start (behind p.id vs old g) (look_behind p (weights_of p.id vs) start.parts start.bounds rule s g)
go p vs start old s rule g ground o valid =
    rw (← (along_parts p.id vs start s.gates), ← (along_bounds p.id vs start s.gates)) (taken_going (answered p count rule at s) law)
  where
    t : ℕ
    t = modulus_of p.id

    count : ℕ
    count = length start.parts

    weights : List ℕ
    weights = weights_of p.id vs

    new : Wires
    new = along (behind p.id vs) start s.gates

    at : Gate
    at = over (slice_index s.names) g

    own : ℕ
    own = count + length s.gates

    ops : OperandsStand (slice_index s.names) old new g
    ops a c = o.named.each a (gate_below t (slots_of p.id) (length vs) old.parts g valid a c)

    same : IsRenamed p.id vs vs old new g at
    same = renamed p.id vs vs (slice_index s.names) old new g (keeps_itself vs) ops valid

    at_below : (a : ℕ) → Contains (operands at) a → a < length new.parts
    at_below a c = gate_below t (slots_of p.id) (length vs) new.parts at same.valid a c

    is_own : own ≡ length new.parts
    is_own = sym (along_long p.id vs start s.gates)

    -- a gate of the same slots in its place
    gate_going : (h : Gate) (state : List ℕ) → parts_of new.parts h ≡ parts_of new.parts at → bound_of p.id weights new.bounds h ≤ bound_of p.id weights new.bounds at
        → wire_of t vs new.slots h ≡ wire_of t vs new.slots at → is_gate t (slots_of p.id) (length vs) new.parts h ≡ true → Going p.id vs start (behind p.id vs old g) (grown s h own state)
    gate_going h state hp hl hs hv =
        let under = same.bound in
        going_push p.id vs start old s g h own state o
        (rw is_own (own_stands p.id vs vs old new g h o.named.old_even o.named.new_even (hp ∙ same.parts) (omega (arith, hl, under)) (hs ∙ same.slots))) hv (omega (arith, hl, under))

    same_going : (state : List ℕ) → Going p.id vs start (behind p.id vs old g) (grown s at own state)
    same_going state = gate_going at state refl (omega arith) refl same.valid

    -- an earlier wire in its place
    wire_going : (x : ℕ) (state : List ℕ) → x < length new.parts → slice_index new.parts x ≡ parts_of new.parts at → slice_index new.bounds x ≤ bound_of p.id weights new.bounds at
        → wire_at new.slots x ≡ wire_of t vs new.slots at → Going p.id vs start (behind p.id vs old g) (grown s at x state)
    wire_going x state xl xp xb xs =
        let under = same.bound in
        going_push p.id vs start old s g at x state o
        (wire_stands p.id vs vs old new g at x o.named.old_even o.named.new_even xl (xp ∙ same.parts) (omega (arith, xb, under)) (xs ∙ same.slots)) same.valid under

    put_going : (b : Bool) (x : Swap) (state : List ℕ) → fits p.id weights new.parts new.bounds at x ≡ b → IsLawful (window p count s.gates at) x → Going p.id vs start (behind p.id vs old g) (put own at s state b x)
    put_going false x state e law = same_going state
    put_going true (swap.Wire x) state e law =
        let f = both_true (eqb (slice_index new.parts x) (parts_of new.parts at)) (leb (slice_index new.bounds x) (bound_of p.id weights new.bounds at)) e in
        let within : x < length new.parts = seen_below p vs start s.gates at o.formed at_below x (law.seen x (first x [])) in
        wire_going x state within (eqb-true (slice_index new.parts x) (parts_of new.parts at) f.0) (leb-true (slice_index new.bounds x) (bound_of p.id weights new.bounds at) f.1)
        (law.means vs new.slots (agrees p vs start s.gates at ground o.formed at_below))
    put_going true (swap.Gate h) state e law =
        let f = both_true (eqb (parts_of new.parts h) (parts_of new.parts at)) (leb (bound_of p.id weights new.bounds h) (bound_of p.id weights new.bounds at)) e in
        let within : (a : ℕ) → Contains (operands h) a → a < length new.parts = (λ a c. seen_below p vs start s.gates at o.formed at_below a (law.seen a c)) in
        let k = both_true (is_shown h) (in_range t (slots_of p.id) h) law.kind in
        gate_going h state (eqb-true (parts_of new.parts h) (parts_of new.parts at) f.0) (leb-true (bound_of p.id weights new.bounds h) (bound_of p.id weights new.bounds at) f.1)
        (law.means vs new.slots (agrees p vs start s.gates at ground o.formed at_below)) (shown_is_gate t (slots_of p.id) (length vs) new.parts h k.0 k.1 within)

    taken_going : (ans : Option Swap × List ℕ) → ((x : Swap) → ans.0 ≡ Some x → IsLawful (window p count s.gates at) x)
        → Going p.id vs start (behind p.id vs old g) (taken p.id weights own new.parts new.bounds at s ans)
    taken_going (None, state) law = same_going state
    taken_going (Some x, state) law = put_going (fits p.id weights new.parts new.bounds at x) x state refl (law x refl)

    law_by : (c : Bool) → is_shown at ≡ c → (x : Swap) → (cond c (rule.answer s.state (window p count s.gates at)) (None, s.state)).0 ≡ Some x → IsLawful (window p count s.gates at) x
    law_by true e x q = rule.lawful s.state (window p count s.gates at) (ready p vs start s.gates at o.formed e (gate_ranged t (slots_of p.id) (length vs) new.parts at same.valid)) x q
    law_by false e x q = absurd cc

    law : (x : Swap) → (answered p count rule at s).0 ≡ Some x → IsLawful (window p count s.gates at) x
    law x q = law_by (is_shown at) refl x q

-- a whole pass
pub passes : (p : Preset) (vs : List (List ℕ)) (start old : Wires) (s : Progress) (rule : Rule) (gates : List Gate) → Ground p.id vs start → Going p.id vs start old s
    → all_along (is_gate (modulus_of p.id) (slots_of p.id) (length vs)) with_gate old.parts gates ≡ true
    → Going p.id vs start (along (behind p.id vs) old gates) (along (look_behind p (weights_of p.id vs) start.parts start.bounds rule) s gates)
passes p vs start old s rule [] ground o v = o
passes p vs start old s rule (g ∷ gates) ground o v =
    let test = is_gate (modulus_of p.id) (slots_of p.id) (length vs) in
    let u = both_true (test old.parts g) (all_along test with_gate (with_gate old.parts g) gates) v in
    passes p vs start (behind p.id vs old g) (look_behind p (weights_of p.id vs) start.parts start.bounds rule s g) rule gates ground (go p vs start old s rule g ground o u.0) u.1
