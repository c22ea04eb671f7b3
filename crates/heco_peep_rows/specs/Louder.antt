-- A multiple by 1 is a sum with 0.
use Rattle.std.specs.Prelude.{◌≡◌, ℕ, zero, suc, ◌+◌, ◌*◌, ◌-◌, ◌%◌, List, [], ◌∷◌, map, Option, Some, None}
use Rattle.std.proofs.Common.{refl, arith, subst}
use Rattle.std.proofs.lemmas.Bool.{le-leb}
use Rattle.heco_nums.specs.Presets.{modulus_of}
use Rattle.heco_circuit.specs.declared.gate.Gate.{Gate}
use Rattle.heco_circuit.specs.declared.gate.Gate.TheVariants.{Neg, Add, Sub, Mul, Relin, Scale, Shift, Turn, Weigh}
use Rattle.heco_meaning.specs.Meanings.{wire_at}
use Rattle.heco_peep.specs.declared.window.Window.{Window}
use Rattle.heco_peep.specs.declared.window.Swap.{Swap}
use Rattle.heco_peep.specs.declared.window.Swap.TheVariants as swap
use Rattle.heco_peep.specs.Rules.{Rule, IsLawful, of_at}

abbrev pub louder_by : Gate → Option Swap
louder_by (Scale (suc zero) a) = Some (swap.Gate (Shift 0 a))
louder_by g = None

same_each : (t : ℕ) (xs : List ℕ) → map (λ x. (x + 0) % t) xs ≡ map (λ x. (1 * x) % t) xs
same_each t [] = refl
same_each t (x ∷ xs) = let e : x + 0 ≡ 1 * x = omega arith in rw (e, same_each t xs) refl

is_sum : (w : Window) (a : ℕ) → w.at ≡ Scale 1 a → IsLawful w (swap.Gate (Shift 0 a))
is_sum w a e = record {
  seen = λ c k. of_at c (rw e k);
  kind = le-leb 0 (modulus_of w.preset.id - 1) (omega arith);
  means = λ vs ws g. rw e (same_each (modulus_of w.preset.id) (wire_at ws a));
}

pub louder_is_lawful : (w : Window) (at : Gate) (x : Swap) → w.at ≡ at → louder_by at ≡ Some x → IsLawful w x
louder_is_lawful w (Scale (suc zero) a) x e h = let q : swap.Gate (Shift 0 a) ≡ x = cc in subst (IsLawful w) q (is_sum w a e)
louder_is_lawful w (Scale zero a) x e h = absurd cc
louder_is_lawful w (Scale (suc (suc c)) a) x e h = absurd cc
louder_is_lawful w (Neg a) x e h = absurd cc
louder_is_lawful w (Add a b) x e h = absurd cc
louder_is_lawful w (Sub a b) x e h = absurd cc
louder_is_lawful w (Mul a b) x e h = absurd cc
louder_is_lawful w (Relin a) x e h = absurd cc
louder_is_lawful w (Shift c a) x e h = absurd cc
louder_is_lawful w (Turn r a) x e h = absurd cc
louder_is_lawful w (Weigh v a) x e h = absurd cc

abbrev pub louder_rule : Rule
louder_rule = record { answer = λ state w. (louder_by w.at, state); lawful = λ state w ready x h. louder_is_lawful w w.at x refl h }
