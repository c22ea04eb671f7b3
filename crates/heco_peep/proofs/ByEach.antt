-- A circuit after some passes in order, while the others wait.
use Rattle.std.proofs.Common.{◌≡◌, ℕ, zero, suc, ◌+◌, ◌<◌, List, [], ◌∷◌, ◌++◌, length, length-append, map, set, get_or, refl, ap, sym, ◌∙◌, arith, Bool, true, false, cond, leb, subst}
use Rattle.std.specs.Prelude.{Option, Some, None, Result, Ok, Err, IfOk, OnOk, All, slice_index}
use Rattle.std.proofs.lemmas.Bool.{leb-true}
use Rattle.std.proofs.lemmas.List.{append_assoc, length-map, length_push}
use Rattle.std.proofs.Math.Seq.{set-append_seam}
use Rattle.heco_nums.specs.Presets.{slots_of}
use Rattle.heco_nums.specs.declared.preset.Preset.{Preset}
use Rattle.heco_nums.specs.Runs.{along, all_along}
use Rattle.heco_fields.proofs.Bools.{both_true}
use Rattle.heco_circuit.specs.declared.gate.Gate.{Gate}
use Rattle.heco_circuit.specs.declared.gate.Output.{Output}
use Rattle.heco_circuit.specs.Bounds.{IsLight, weights_of, with_bound, fresh_bounds}
use Rattle.heco_circuit.specs.Circuits.{IsCircuit}
use Rattle.heco_circuit.specs.Plans.{Plan, input_parts, is_input, push}
use Rattle.heco_circuit.specs.Validity.{with_gate}
use Rattle.heco_rewrites.specs.Wires.{over, output_over}
use Rattle.heco_rewrites.specs.Dropping.{needed_gates}
use Rattle.heco_peep.specs.declared.changing.Changed.{Changed}
use Rattle.heco_peep.specs.declared.window.Swap.{Swap}
use Rattle.heco_peep.specs.declared.window.Swap.TheVariants as swap
use Rattle.heco_peep.specs.inside.Changing.{progress}
use Rattle.heco_peep.specs.Looks.{Progress, fits, put, taken, answered, look_behind, looked, unchanged}
use Rattle.heco_peep.specs.Passed.{shows, renamed, without_dead, tried, is_kept, after, moved, passed, passed_on, IsPassed}
use Rattle.heco_peep.specs.NoWorse.{HasFewBytes}
use Rattle.heco_peep.specs.inside.Ready.{IsReady, HasFewWires}
use Rattle.heco_peep.specs.Rules.{Rule, Handed}
use Rattle.heco_peep.proofs.OnePass.{Valid, valid, brought, brought_valid}
use Rattle.heco_peep.proofs.Sizes.{has_room}
use Rattle.heco_peep.proofs.InOrder.{Follows, after_follows}

-- ---- the looks of a pass
put_long : (own : ℕ) (at : Gate) (s : Progress) (state : List ℕ) (b : Bool) (x : Swap) → length (put own at s state b x).gates ≡ length s.gates + 1
put_long own at s state false x = length_push s.gates at
put_long own at s state true (swap.Wire x) = length_push s.gates at
put_long own at s state true (swap.Gate g) = length_push s.gates g

taken_long : (id : ℕ) (weights : List ℕ) (own : ℕ) (parts bounds : List ℕ) (at : Gate) (s : Progress) (x : Option Swap × List ℕ) → length (taken id weights own parts bounds at s x).gates ≡ length s.gates + 1
taken_long id weights own parts bounds at s (None, state) = length_push s.gates at
taken_long id weights own parts bounds at s (Some x, state) = put_long own at s state (fits id weights parts bounds at x) x

looks_long : (p : Preset) (weights parts bounds : List ℕ) (rule : Rule) (s : Progress) (gates : List Gate) → length (along (look_behind p weights parts bounds rule) s gates).gates ≡ length s.gates + length gates
looks_long p weights parts bounds rule s [] = omega arith
looks_long p weights parts bounds rule s (g ∷ gates) =
    let at : Gate = over (slice_index s.names) g in
    let r = looks_long p weights parts bounds rule (look_behind p weights parts bounds rule s g) gates in
    let one = taken_long p.id weights (length parts + length s.gates) (along with_gate parts s.gates) (along (with_bound p.id weights) bounds s.gates) at s (answered p (length parts) rule at s) in
    omega (arith, r, one)

-- ---- what a pass brings
pub few_wires : (p : Preset) (weights : List ℕ) (c : Plan) (rule : Rule) (state left : List ℕ) (changed : Changed) → IsReady p weights c → progress changed left ≡ looked p c rule state → HasFewWires c changed
few_wires p weights c rule state left changed r e =
    let v : Valid c = valid c r.valid in
    let inputs = leb-true (length c.inputs) 256 (both_true (leb (length c.inputs) 256) (all_along (is_input (slots_of c.preset)) push [] c.inputs) v.inputs).0 in
    let gates = v.few_gates in
    let long = looks_long p (weights_of p.id c.vectors) (input_parts c.inputs) (fresh_bounds p.id c.inputs) rule (unchanged (length c.inputs) state) c.gates in
    let same = ap (λ s. length s.gates) e in
    omega (arith, inputs, gates, long, same)

pub valid_brought : (p : Preset) (weights : List ℕ) (c : Plan) (rule : Rule) (state left : List ℕ) (changed : Changed) → IsReady p weights c → progress changed left ≡ looked p c rule state
    → IsCircuit (without_dead (renamed c (progress changed [])))
valid_brought p weights c rule state left changed r e = subst (λ s. IsCircuit (brought c s)) (sym e) (brought_valid p c rule state r.number r.valid r.has_room).0

pub is_tried : (p : Preset) (c d : Plan) (rule : Rule) (state left : List ℕ) (changed : Changed) → progress changed left ≡ looked p c rule state → d ≡ without_dead (renamed c (progress changed [])) → d ≡ tried p c rule state
unfolding tried
is_tried p c d rule state left changed e q = q ∙ ap (brought c) e

pub if_ok : {A E : Type 0} {P Q : A → Type 0} (r : Result A E) → IfOk r P → ((x : A) → P x → Q x) → IfOk r Q
if_ok (Ok x) p f = f x p
if_ok (Err e) p f = tt

pub living_gates : {E : Type 0} (c : Plan) (changed : Changed) (outputs : List Output) (inputs : ℕ) (gates : List Gate) (r : Result (List Gate × List Output) E) → outputs ≡ map (output_over (slice_index changed.names)) c.outputs
    → inputs ≡ length c.inputs → gates ≡ changed.gates → IfOk r (λ x. x.0 ≡ (needed_gates (shows outputs) inputs gates).gates) → IfOk r (λ x. x.0 ≡ (without_dead (renamed c (progress changed []))).gates)
living_gates c changed outputs inputs gates r o n g h =
    if_ok r h (λ x e. e ∙ ap (λ os. (needed_gates (shows os) inputs gates).gates) o ∙ ap (λ k. (needed_gates (shows (map (output_over (slice_index changed.names)) c.outputs)) k gates).gates) n
    ∙ ap (λ gs. (needed_gates (shows (map (output_over (slice_index changed.names)) c.outputs)) (length c.inputs) gs).gates) g)

pub living_outputs : {E : Type 0} (c : Plan) (changed : Changed) (outputs : List Output) (inputs : ℕ) (gates : List Gate) (r : Result (List Gate × List Output) E) → outputs ≡ map (output_over (slice_index changed.names)) c.outputs
    → inputs ≡ length c.inputs → gates ≡ changed.gates → IfOk r (λ x. x.1 ≡ map (output_over (slice_index (needed_gates (shows outputs) inputs gates).names)) outputs)
    → IfOk r (λ x. x.1 ≡ (without_dead (renamed c (progress changed []))).outputs)
living_outputs c changed outputs inputs gates r o n g h =
    if_ok r h (λ x e. e ∙ ap (λ os. map (output_over (slice_index (needed_gates (shows os) inputs gates).names)) os) o
    ∙ ap (λ k. map (output_over (slice_index (needed_gates (shows (map (output_over (slice_index changed.names)) c.outputs)) k gates).names)) (map (output_over (slice_index changed.names)) c.outputs)) n
    ∙ ap (λ gs. map (output_over (slice_index (needed_gates (shows (map (output_over (slice_index changed.names)) c.outputs)) (length c.inputs) gs).names)) (map (output_over (slice_index changed.names)) c.outputs)) g)

-- ---- before the first pass
pub ready_first : (p : Preset) (weights : List ℕ) (c : Plan) → p.id ≡ c.preset → IsCircuit c → HasFewBytes c → weights ≡ weights_of p.id c.vectors → All IsLight weights → IsReady p weights c
ready_first p weights c number circuit few are light = record { number = number; valid = circuit; has_room = has_room c few; weights_are = are; light = light }

-- ---- one pass
pub ready_after : (p : Preset) (weights : List ℕ) (c d : Plan) (rule : Rule) (state : List ℕ) → IsReady p weights c → d ≡ after p c rule state → IsReady p weights d
ready_after p weights c d rule state r e =
    let f : Follows c (after p c rule state) = after_follows p c rule state r.number r.valid r.has_room in
    let n = f.no_worse in
    subst (IsReady p weights) (sym e) (record {
      number = r.number ∙ sym n.preset;
      valid = n.valid;
      has_room = let a = f.less in let b = r.has_room in omega (arith, a, b);
      weights_are = r.weights_are ∙ ap (weights_of p.id) (sym n.vectors);
      light = r.light;
    })

pub after_kept : (p : Preset) (c d : Plan) (rule : Rule) (state : List ℕ) → d ≡ tried p c rule state → is_kept c d ≡ true → d ≡ after p c rule state
after_kept p c d rule state e k = e ∙ sym (ap (λ b. cond b (tried p c rule state) c) (ap (is_kept c) (sym e) ∙ k))

pub after_undone : (p : Preset) (c d : Plan) (rule : Rule) (state : List ℕ) → d ≡ tried p c rule state → is_kept c d ≡ false → c ≡ after p c rule state
after_undone p c d rule state e k = sym (ap (λ b. cond b (tried p c rule state) c) (ap (is_kept c) (sym e) ∙ k))

-- ---- a list in which one value is changed
pub map_kept : {X R : Type 0} (F : X → R) (xs : List X) (i : ℕ) (y x : X) → i < length xs → x ≡ get_or xs i x → F y ≡ F x → map F (set xs i y) ≡ map F xs
map_kept F [] i y x h e f = absurd (omega arith)
map_kept F (z ∷ xs) zero y x h e f = ap (λ r. r ∷ map F xs) (f ∙ ap F e)
map_kept F (z ∷ xs) (suc i) y x h e f = ap (λ rs. F z ∷ rs) (map_kept F xs i y x (omega arith) e f)

pub length_kept : {X : Type 0} (xs : List X) (i : ℕ) (y : X) → length (set xs i y) ≡ length xs
length_kept [] i y = refl
length_kept (x ∷ xs) zero y = refl
length_kept (x ∷ xs) (suc i) y = ap suc (length_kept xs i y)

map_set : {X R : Type 0} (F : X → R) (xs : List X) (i : ℕ) (y : X) → map F (set xs i y) ≡ set (map F xs) i (F y)
map_set F [] i y = refl
map_set F (x ∷ xs) zero y = refl
map_set F (x ∷ xs) (suc i) y = ap (λ rs. F x ∷ rs) (map_set F xs i y)

map_at : {X R : Type 0} (F : X → R) (xs : List X) (i : ℕ) (x : X) → x ≡ get_or xs i x → F x ≡ get_or (map F xs) i (F x)
map_at F [] i x e = refl
map_at F (z ∷ xs) zero x e = ap F e
map_at F (z ∷ xs) (suc i) x e = map_at F xs i x e

at_seam : {R : Type 0} (xs : List R) (y : R) (ys : List R) (d : R) → get_or (xs ++ y ∷ ys) (length xs) d ≡ y
at_seam [] y ys d = refl
at_seam (x ∷ xs) y ys d = at_seam xs y ys d

-- ---- all passes
-- The first passes are left as they are told, and the others stand as they were handed in: what comes of all is what comes of
-- these, over the circuit so far.
pub record IsInOrder (p : Preset) (weights : List ℕ) (c : Plan) (first now : List Handed) (d : Plan) (i : ℕ) : Type 0 where
  pub left : List Handed
  pub rest : List Handed
  pub split : now ≡ left ++ rest
  pub done : length left ≡ i
  pub circuit : passed p c first ≡ passed p d rest
  pub left_are : passed_on p c first ≡ left ++ passed_on p d rest
  pub ready : IsReady p weights d

pub none_yet : (p : Preset) (weights : List ℕ) (c : Plan) (first : List Handed) → IsReady p weights c → IsInOrder p weights c first first c 0
none_yet p weights c first r = record { left = []; rest = first; split = refl; done = refl; circuit = refl; left_are = refl; ready = r }

pub one_more : {X : Type 0} (F : X → Handed) (xs : List X) (i : ℕ) (x y : X) (p : Preset) (weights : List ℕ) (c : Plan) (first : List Handed) (d e : Plan) → IsInOrder p weights c first (map F xs) d i → i < length xs → x ≡ get_or xs i x
    → e ≡ after p d (F x).rule (F x).state → F y ≡ moved p d (F x) → IsReady p weights e → IsInOrder p weights c first (map F (set xs i y)) e (i + 1)
one_more F xs i x y p weights c first d e u l here comes moves ready = go u.rest u.split u.circuit u.left_are
  where
    many : length u.left ≡ i
    many = u.done

    go : (rest : List Handed) → map F xs ≡ u.left ++ rest → passed p c first ≡ passed p d rest → passed_on p c first ≡ u.left ++ passed_on p d rest → IsInOrder p weights c first (map F (set xs i y)) e (i + 1)
    go [] split circuit left_are = absurd (let n = ap length split ∙ length-append u.left [] in omega (arith, l, n, many, length-map xs F))
    go (h ∷ rest) split circuit left_are =
        let same : F x ≡ h = map_at F xs i x here ∙ ap (λ hs. get_or hs i (F x)) split ∙ ap (λ k. get_or (u.left ++ h ∷ rest) k (F x)) (sym many) ∙ at_seam u.left h rest (F x) in
        let next : e ≡ after p d h.rule h.state = comes ∙ ap (λ k. after p d k.rule k.state) same in
        record {
          left = u.left ++ moved p d h ∷ [];
          rest = rest;
          split =
              map_set F xs i y ∙ ap (λ hs. set hs i (F y)) split ∙ ap (λ k. set (u.left ++ h ∷ rest) k (F y)) (sym many) ∙ set-append_seam u.left h rest (F y)
              ∙ ap (λ k. u.left ++ k ∷ rest) (moves ∙ ap (moved p d) same) ∙ sym (append_assoc u.left (moved p d h ∷ []) rest);
          done = length_push u.left (moved p d h) ∙ ap (λ k. k + 1) many;
          circuit = circuit ∙ ap (λ b. passed p b rest) (sym next);
          left_are = left_are ∙ ap (λ b. u.left ++ moved p d h ∷ passed_on p b rest) (sym next) ∙ sym (append_assoc u.left (moved p d h ∷ []) (passed_on p e rest));
          ready = ready;
        }

none_left : (left rest : List Handed) (n : ℕ) → length (left ++ rest) ≡ n → length left ≡ n → rest ≡ []
none_left left [] n a b = refl
none_left left (h ∷ rest) n a b = absurd (omega (arith, a, b, length-append left (h ∷ rest)))

-- what comes of all, when none waits
pub record IsDone (p : Preset) (c : Plan) (first now : List Handed) (d : Plan) : Type 0 where
  pub circuit : d ≡ passed p c first
  pub left_are : now ≡ passed_on p c first

pub all_done : {X : Type 0} (F : X → Handed) (xs : List X) (i : ℕ) (p : Preset) (weights : List ℕ) (c : Plan) (first : List Handed) (d : Plan) → IsInOrder p weights c first (map F xs) d i → i ≡ length xs → IsDone p c first (map F xs) d
all_done F xs i p weights c first d u e =
    let none : u.rest ≡ [] = none_left u.left u.rest i (sym (ap length u.split) ∙ length-map xs F ∙ sym e) u.done in
    record {
      circuit = sym (u.circuit ∙ ap (passed p d) none);
      left_are = u.split ∙ ap (λ r. u.left ++ r) none ∙ sym (u.left_are ∙ ap (λ r. u.left ++ passed_on p d r) none);
    }

pub is_passed : {E : Type 0} (p : Preset) (c : Plan) (first now : List Handed) (r : Result Plan E) → p.id ≡ c.preset → IfOk r (λ d. d ≡ passed p c first) → OnOk r (now ≡ passed_on p c first) → IfOk r (λ d. IsPassed c first d now)
is_passed p c first now (Ok d) e h k = record { preset = p; number = e; circuit = h; left_are = k }
is_passed p c first now (Err m) e h k = tt
