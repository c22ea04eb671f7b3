-- The looks of a pass, gate by gate.
use Rattle.std.proofs.Common.{◌≡◌, ℕ, List, [], ◌∷◌, ◌++◌, ◌+◌, ◌-◌, ◌^◌, ◌<◌, ◌≤◌, length, get_or, take, drop, refl, ap, sym, ◌∙◌, subst, arith, true}
use Rattle.std.specs.Prelude.{All, slice_index}
use Rattle.std.specs.List.{range_with_len}
use Rattle.std.proofs.lemmas.List.{append_assoc, append-nil, take_all}
use Rattle.heco_nums.specs.declared.preset.Preset.{Preset}
use Rattle.heco_nums.specs.declared.shape.Shape.{Shape}
use Rattle.heco_noise.specs.Rows.{IsQuiet}
use Rattle.heco_nums.specs.Runs.{along}
use Rattle.heco_fields.proofs.Loops.{along_push}
use Rattle.heco_circuit.specs.declared.gate.Gate.{Gate}
use Rattle.heco_circuit.specs.Bounds.{fresh_bounds, weights_of, with_bound, is_below}
use Rattle.heco_circuit.specs.Plans.{Plan, input_parts}
use Rattle.heco_rewrites.specs.Wires.{over}
use Rattle.heco_peep.specs.declared.changing.Changed.{Changed}
use Rattle.heco_peep.specs.inside.Changing.{progress, IsChanged}
use Rattle.heco_peep.specs.Looks.{looked, look_behind, unchanged, window}
use Rattle.heco_peep.specs.inside.Ready.{IsReady}
use Rattle.heco_peep.specs.Rules.{Handed, IsWindow, is_shown}
use Rattle.heco_peep.proofs.Before.{IsBefore, looks_at, before}
use Rattle.heco_peep.proofs.OnePass.{valid}

-- some gates are looked at, and the rest is not yet
pub record IsUnderway (p : Preset) (weights : List ℕ) (c : Plan) (first now : Handed) (changed : Changed) (rest : List Gate) : Type 0 where
  pub seen : List Gate
  pub split : c.gates ≡ seen ++ rest
  pub looks : progress changed now.state ≡ looks_at p c first.rule first.state seen
  pub stands : IsChanged p.id weights c.inputs changed
  pub rule : now.rule ≡ first.rule

pub at_first : (p : Preset) (weights : List ℕ) (c : Plan) (h : Handed) (changed : Changed) → changed.gates ≡ [] → changed.names ≡ range_with_len 0 (length c.inputs) → changed.parts ≡ input_parts c.inputs
    → changed.bounds ≡ fresh_bounds p.id c.inputs → IsUnderway p weights c h h changed c.gates
at_first p weights c h changed gates names parts bounds = record {
  seen = [];
  split = refl;
  looks = rw (gates, names) refl;
  stands = record { parts = rw gates parts; bounds = rw gates bounds };
  rule = refl;
}

-- what the next look asks for
pub record MayLook (p : Preset) (inputs : List Shape) (changed : Changed) (g : Gate) : Type 0 where
  pub few : length inputs + length changed.gates < 2 ^ 26
  pub ready : is_shown (over (slice_index changed.names) g) ≡ true → IsWindow (window p (length inputs) changed.gates (over (slice_index changed.names) g))
  pub constant : is_below p.t (over (slice_index changed.names) g) ≡ true
  pub quiet : All IsQuiet changed.bounds

may_look : (p : Preset) (weights : List ℕ) (c : Plan) (first now : Handed) (changed : Changed) (g : Gate) (rest : List Gate) → IsReady p weights c → IsUnderway p weights c first now changed (g ∷ rest) → MayLook p c.inputs changed g
may_look p weights c first now changed g rest ready u =
    let b : IsBefore p c (progress changed now.state) g = subst (λ s. IsBefore p c s g) (sym u.looks) (before p c first.rule first.state u.seen rest g ready.number (valid c ready.valid) u.split) in
    let bounds : changed.bounds ≡ along (with_bound p.id (weights_of p.id c.vectors)) (fresh_bounds p.id c.inputs) changed.gates =
    u.stands.bounds ∙ ap (λ ws. along (with_bound p.id ws) (fresh_bounds p.id c.inputs) changed.gates) ready.weights_are in
    record {
      few = b.few;
      ready = b.window_ready;
      constant = ap (λ t. is_below t (over (slice_index changed.names) g)) p.row.4 ∙ b.constant;
      quiet = subst (All IsQuiet) (sym bounds) b.quiet;
    }

-- before the look at the first of the gates that are left
pub before_look : (p : Preset) (weights : List ℕ) (c : Plan) (inputs : List Shape) (first now : Handed) (changed : Changed) (d : Gate) (rest : List Gate) → inputs ≡ c.inputs → IsReady p weights c
    → IsUnderway p weights c first now changed rest → 1 ≤ length rest → MayLook p inputs changed (get_or rest 0 d)
before_look p weights c inputs first now changed d [] e ready u l = absurd (omega (arith, l))
before_look p weights c inputs first now changed d (g ∷ rest) e ready u l = subst (λ ins. MayLook p ins changed g) (sym e) (may_look p weights c first now changed g rest ready u)

one_look : (p : Preset) (weights : List ℕ) (c : Plan) (first now then : Handed) (changed new : Changed) (g : Gate) (rest : List Gate) → IsReady p weights c → IsUnderway p weights c first now changed (g ∷ rest)
    → progress new then.state ≡ look_behind p weights (input_parts c.inputs) (fresh_bounds p.id c.inputs) now.rule (progress changed now.state) g → IsChanged p.id weights c.inputs new → then.rule ≡ now.rule
    → IsUnderway p weights c first then new rest
one_look p weights c first now then changed new g rest ready u e stands same = record {
  seen = u.seen ++ g ∷ [];
  split = u.split ∙ sym (append_assoc u.seen (g ∷ []) rest);
  looks =
      e ∙ ap (λ r. look_behind p weights (input_parts c.inputs) (fresh_bounds p.id c.inputs) r (progress changed now.state) g) u.rule
      ∙ ap (λ ws. look_behind p ws (input_parts c.inputs) (fresh_bounds p.id c.inputs) first.rule (progress changed now.state) g) ready.weights_are
      ∙ ap (λ s. look_behind p (weights_of p.id c.vectors) (input_parts c.inputs) (fresh_bounds p.id c.inputs) first.rule s g) u.looks
      ∙ sym (along_push (look_behind p (weights_of p.id c.vectors) (input_parts c.inputs) (fresh_bounds p.id c.inputs) first.rule) (unchanged (length c.inputs) first.state) u.seen g);
  stands = stands;
  rule = same ∙ u.rule;
}

-- and after it
pub after_look : (p : Preset) (weights : List ℕ) (c : Plan) (inputs : List Shape) (first now then : Handed) (changed new : Changed) (d : Gate) (rest : List Gate) → inputs ≡ c.inputs → IsReady p weights c
    → IsUnderway p weights c first now changed rest → 1 ≤ length rest
    → progress new then.state ≡ look_behind p weights (input_parts inputs) (fresh_bounds p.id inputs) now.rule (progress changed now.state) (get_or rest 0 d) → IsChanged p.id weights inputs new → then.rule ≡ now.rule
    → IsUnderway p weights c first then new (take (length rest - 1) (drop 1 rest))
after_look p weights c inputs first now then changed new d [] same ready u l e stands keeps = absurd (omega (arith, l))
after_look p weights c inputs first now then changed new d (g ∷ rest) same ready u l e stands keeps =
    subst (IsUnderway p weights c first then new) (sym (take_all (length (g ∷ rest) - 1) rest (omega arith)))
    (one_look p weights c first now then changed new g rest ready u (e ∙ ap (λ ins. look_behind p weights (input_parts ins) (fresh_bounds p.id ins) now.rule (progress changed now.state) g) same)
    (subst (λ ins. IsChanged p.id weights ins new) same stands) keeps)

pub at_last : (p : Preset) (weights : List ℕ) (c : Plan) (first now : Handed) (changed : Changed) → IsUnderway p weights c first now changed [] → progress changed now.state ≡ looked p c first.rule first.state
at_last p weights c first now changed u = u.looks ∙ ap (looks_at p c first.rule first.state) (sym (append-nil u.seen) ∙ sym u.split)
