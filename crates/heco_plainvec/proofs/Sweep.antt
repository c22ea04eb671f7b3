-- All gates of a circuit, and those that are gathered.
use Rattle.std.proofs.Common.{◌≡◌, ℕ, suc, ◌+◌, List, [], ◌∷◌, length, refl, ap, ◌∙◌, arith, Bool, true, false, cond}
use Rattle.std.specs.Prelude.{Option, Some, None, slice_get, slice_index, filter_map}
use Rattle.std.specs.List.{enumerate_from, cons_option}
use Rattle.heco_nums.specs.Presets.{modulus_of, slots_of}
use Rattle.heco_noise.specs.Rows.{passes}
use Rattle.heco_nums.specs.Runs.{along, all_along}
use Rattle.heco_fields.proofs.Bools.{both_true, and_true}
use Rattle.heco_circuit.specs.declared.gate.Gate.{Gate}
use Rattle.heco_circuit.specs.Plans.{Plan}
use Rattle.heco_circuit.specs.Validity.{with_gate, is_gate}
use Rattle.heco_circuit.specs.Bounds.{bound_of, with_bound, weights_of, first_passing}
use Rattle.heco_thrift.specs.Thrift.{bounds_of}
use Rattle.heco_rewrites.specs.Wires.{Wires, behind}
use Rattle.heco_plainvec.specs.Gathered.{gathered_gate, gathered_vectors}
use Rattle.heco_plainvec.proofs.Known.{bound_known, known_along}
use Rattle.heco_plainvec.proofs.Swept.{Earlier, IsSwept}
use Rattle.heco_plainvec.proofs.Step.{after, IsNext, IsStep, step}

-- of the gates from the wire u on, those that are gathered
abbrev pub gathered_from : Plan → ℕ → List Gate → List Gate
gathered_from c u gates = filter_map (gathered_gate c) (enumerate_from u gates)

abbrev pub may_stand : Plan → ℕ → List ℕ → List Gate → Bool
may_stand c count parts gates = all_along (is_gate (modulus_of c.preset) (slots_of c.preset) count) with_gate parts gates

-- these gates are the last of the circuit's, may stand, and no bound passes
pub record AreNext (c : Plan) (u : ℕ) (old : Wires) (gates : List Gate) : Type 0 where
  pub place : ℕ
  pub number : u ≡ length c.inputs + place
  pub here : (k : ℕ) (g : Gate) → slice_get gates k ≡ Some g → slice_get c.gates (place + k) ≡ Some g
  pub formed : may_stand c (length c.vectors) old.parts gates ≡ true
  pub from : ℕ
  pub quiet : first_passing c.preset (weights_of c.preset c.vectors) from old.bounds gates ≡ None
  pub bounds : bounds_of c ≡ (along (behind c.preset c.vectors) old gates).bounds

pub record AreSwept (c : Plan) (u : ℕ) (old new : Wires) (gates gathered : List Gate) : Type 0 where
  pub swept : IsSwept c (u + length gates) (along (behind c.preset c.vectors) old gates) (along (behind c.preset (gathered_vectors c)) new gathered)
  pub formed : may_stand c (length (gathered_vectors c)) new.parts gathered ≡ true
  pub quiet : (i : ℕ) → first_passing c.preset (weights_of c.preset (gathered_vectors c)) i new.bounds gathered ≡ None

-- the bound of the first gate doesn't pass, and none of the others does
quiet_first : (id : ℕ) (weights : List ℕ) (i : ℕ) (bounds : List ℕ) (g : Gate) (gates : List Gate) → first_passing id weights i bounds (g ∷ gates) ≡ None
    → (passes (bound_of id weights bounds g) ≡ false) × (first_passing id weights (i + 1) (with_bound id weights bounds g) gates ≡ None)
quiet_first id weights i bounds g gates h = by_test (passes (bound_of id weights bounds g)) refl h
  where
    by_test : (b : Bool) → passes (bound_of id weights bounds g) ≡ b → cond b (Some (i, bound_of id weights bounds g)) (first_passing id weights (i + 1) (with_bound id weights bounds g) gates) ≡ None
        → (passes (bound_of id weights bounds g) ≡ false) × (first_passing id weights (i + 1) (with_bound id weights bounds g) gates ≡ None)
    by_test true t h = absurd cc
    by_test false t h = (t, h)

joined : (c : Plan) (u : ℕ) (old new : Wires) (g : Gate) (gates : List Gate) (o : Option Gate) (more : List Gate) → IsStep c u old new g o → AreSwept c (u + 1) (behind c.preset c.vectors old g) (after c new o) gates more
    → AreSwept c u old new (g ∷ gates) (cons_option o more)
joined c u old new g gates None more s r =
    let e : u + suc (length gates) ≡ u + 1 + length gates = omega arith in
    record { swept = rw e (r.swept); formed = r.formed; quiet = r.quiet }
joined c u old new g gates (Some h) more s r =
    let e : u + suc (length gates) ≡ u + 1 + length gates = omega arith in
    let ws : List (List ℕ) = gathered_vectors c in
    record {
      swept = rw e (r.swept);
      formed = and_true (is_gate (modulus_of c.preset) (slots_of c.preset) (length ws) new.parts h) (may_stand c (length ws) (with_gate new.parts h) more) (s.formed h refl) r.formed;
      quiet = λ i. ap (λ b. cond b (Some (i, bound_of c.preset (weights_of c.preset ws) new.bounds h)) (first_passing c.preset (weights_of c.preset ws) (i + 1) (with_bound c.preset (weights_of c.preset ws) new.bounds h) more)) (s.quiet h refl)
          ∙ r.quiet (i + 1);
    }

pub sweep : (c : Plan) (u : ℕ) (old new : Wires) (gates : List Gate) → Earlier c → IsSwept c u old new → AreNext c u old gates → AreSwept c u old new gates (gathered_from c u gates)
sweep c u old new [] early s n =
    let e : u + 0 ≡ u = omega arith in
    record { swept = rw e s; formed = refl; quiet = λ i. refl }
sweep c u old new (g ∷ gates) early s n =
    joined c u old new g gates (gathered_gate c (u, g)) (gathered_from c (u + 1) gates) here
    (sweep c (u + 1) (behind c.preset c.vectors old g) (after c new (gathered_gate c (u, g))) gates early here.swept rest)
  where
    quiet : (passes (bound_of c.preset (weights_of c.preset c.vectors) old.bounds g) ≡ false)
        × (first_passing c.preset (weights_of c.preset c.vectors) (n.from + 1) (with_bound c.preset (weights_of c.preset c.vectors) old.bounds g) gates ≡ None)
    quiet = quiet_first c.preset (weights_of c.preset c.vectors) n.from old.bounds g gates n.quiet

    formed : (is_gate (modulus_of c.preset) (slots_of c.preset) (length c.vectors) old.parts g ≡ true) × (may_stand c (length c.vectors) (with_gate old.parts g) gates ≡ true)
    formed = both_true (is_gate (modulus_of c.preset) (slots_of c.preset) (length c.vectors) old.parts g) (may_stand c (length c.vectors) (with_gate old.parts g) gates) n.formed

    next : IsNext c u old g
    next = record {
      place = n.place;
      number = n.number;
      here = let z : n.place + 0 ≡ n.place = omega arith in rw z at (n.here 0 g refl);
      valid = formed.0;
      quiet = quiet.0;
      bounds = λ a l.
          ap (λ xs. slice_index xs a) n.bounds
          ∙ ap bound_known (known_along c.preset c.vectors old (g ∷ gates) a s.old_even (rw (s.old_long) l));
    }

    here : IsStep c u old new g (gathered_gate c (u, g))
    here = step c u old new g early s next

    rest : AreNext c (u + 1) (behind c.preset c.vectors old g) gates
    rest = record {
      place = n.place + 1;
      number = let a = n.number in omega (arith, a);
      here = λ k x e. let q : n.place + suc k ≡ n.place + 1 + k = omega arith in rw q at (n.here (suc k) x e);
      formed = formed.1;
      from = n.from + 1;
      quiet = quiet.1;
      bounds = n.bounds;
    }
