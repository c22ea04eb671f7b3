-- A good circuit is good when it is gathered, and its bounds are low beside the products by plain vectors.
use Rattle.std.proofs.Common.{◌≡◌, ◌∙◌, ℕ, true, false, List, [], ◌∷◌, length, Ok, refl, sym, ap, subst, arith}
use Rattle.std.specs.Prelude.{All}
use Rattle.std.proofs.lemmas.Bool.{eq-eqb}
use Rattle.std.proofs.lemmas.List.Elements.{All-drop}
use Rattle.heco_nums.specs.declared.shape.Shape.{Shape}
use Rattle.heco_syntax.specs.declared.tree.Source.{Source}
use Rattle.heco_noise.specs.Rows.{IsQuiet}
use Rattle.heco_circuit.specs.Circuits.{IsCircuit}
use Rattle.heco_circuit.specs.Plans.{Plan}
use Rattle.heco_circuit.proofs.QuietLaw.{quiet_law}
use Rattle.heco_texts.specs.Answers.{HaveFit}
use Rattle.heco_written.specs.WrittenForm.{WrittenHome}
use Rattle.heco_thrift.specs.Thrift.{bounds_of, gate_bounds, weighs, bounds_where, IsThrifty}
use Rattle.heco_rewrites.specs.Needed.{has}
use Rattle.heco_plainvec.specs.Gathering.{chosen, HasRoom}
use Rattle.heco_plainvec.specs.Gathered.{gathered}
use Rattle.heco_plainvec.specs.Kept.{KeepsTheRest}
use Rattle.heco_plainvec.proofs.KeptLaw.{keeps_the_rest}
use Rattle.heco_plainvec.proofs.Meaning.{same_meaning}
use Rattle.heco_plainvec.proofs.NothingMore.{nothing_more}
use Rattle.heco_plainvec.proofs.Valid.{gathered_valid}
use Rattle.heco_good.specs.Compiled.{IsCircuitOf}
use Rattle.heco_good.specs.Good.{homes_of, Good}
use Rattle.heco_good.proofs.LowElsewhere.{low_elsewhere}
use Rattle.heco_good.proofs.Unchosen.{stays_as_it_is, weighs_where_chosen}

pub quiet_gates : (c : Plan) → IsCircuit c → All IsQuiet (gate_bounds c)
quiet_gates c valid = All-drop IsQuiet (length c.inputs) (bounds_of c) (quiet_law c valid)

is_head : (a : ℕ) (xs ys : List ℕ) → xs ≡ a ∷ ys → has xs a ≡ true
is_head a xs ys e = ap (λ zs. has zs a) e ∙ rw (eq-eqb a a refl) refl

bounds_kept : (c : Plan) (homes : List WrittenHome) → IsCircuit (gathered c) → bounds_where (weighs c) c homes → bounds_where (weighs (gathered c)) (gathered c) homes
bounds_kept c homes valid h = by_chosen (chosen c) refl
  where
    by_chosen : (xs : List ℕ) → chosen c ≡ xs → bounds_where (weighs (gathered c)) (gathered c) homes
    by_chosen [] e = subst (λ d. bounds_where (weighs d) d homes) (sym (stays_as_it_is c e)) h
    by_chosen (a ∷ xs) e = subst (λ b. bounds_where b (gathered c) homes) (sym (weighs_where_chosen c a (is_head a (chosen c) xs e))) (quiet_gates (gathered c) valid)

module _ (c : Plan) (homes : List WrittenHome) (valid : IsCircuit (gathered c)) (kept : KeepsTheRest c (gathered c)) (thrift : IsThrifty c homes) where
  thrifty : IsThrifty (gathered c) homes
  thrifty = record {
    gates = omega (arith, kept.gates, thrift.gates);
    late_gates = omega (arith, kept.gates, thrift.late_gates);
    bounds = bounds_kept c homes valid thrift.bounds;
    relinearisations = omega (arith, kept.relinearisations, kept.products, thrift.relinearisations);
    relinearisation_needed = kept.relinearisation_needed ∙ thrift.relinearisation_needed;
    turns_needed = kept.turns_needed ∙ rw kept.preset thrift.turns_needed;
  }

as_many : (t : ℕ) (shapes : List Shape) (rows : List (List ℕ)) → HaveFit t shapes rows → length rows ≡ length shapes
as_many t [] [] fit = refl
as_many t [] (row ∷ rows) fit = absurd fit
as_many t (s ∷ shapes) [] fit = absurd fit
as_many t (s ∷ shapes) (row ∷ rows) fit = let rest = as_many t shapes rows fit.2 in omega (arith, rest)

module _ (source : Source) (c : Plan) (g : Good source c) (light : weighs c ≡ false) (room : HasRoom c) where
  valid : IsCircuit (gathered c)
  valid = gathered_valid c g.valid room

  kept : KeepsTheRest c (gathered c)
  kept = keeps_the_rest c g.valid

  still_good : Good source (gathered c)
  still_good = record {
    valid = valid;
    preset = kept.preset ∙ g.preset;
    inputs = kept.inputs ∙ g.inputs;
    outputs = kept.outputs ∙ g.outputs;
    terms = g.terms;
    execution = g.execution;
    numbers = kept.numbers ∙ g.numbers;
    meaning = λ rows fit. g.meaning rows fit ∙ ap (λ out. Ok out) (sym (same_meaning c rows g.valid (as_many _ _ rows fit ∙ ap length (sym g.inputs))));
    thrift = thrifty c _ valid kept g.thrift;
  }

  pub gathered_is_good : IsCircuitOf source (gathered c)
  unfolding still_good
  gathered_is_good = record {
    good = still_good;
    nothing_found = λ a. nothing_more c a g.valid;
    low = low_elsewhere c g.valid (homes_of source g.terms) (subst (λ b. bounds_where b c (homes_of source g.terms)) light g.thrift.bounds);
  }
