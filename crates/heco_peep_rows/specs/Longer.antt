-- The negative of a relinearised wire is that of the wire.
use Rattle.std.specs.Prelude.{◌≡◌, ◌-◌, ◌%◌, ℕ, map, Option, Some, None}
use Rattle.std.proofs.Common.{refl, sym, subst, ap}
use Rattle.heco_nums.specs.Presets.{modulus_of}
use Rattle.heco_circuit.specs.declared.gate.Gate.{Gate}
use Rattle.heco_circuit.specs.declared.gate.Gate.TheVariants.{Neg, Add, Sub, Mul, Relin, Scale, Shift, Turn, Weigh}
use Rattle.heco_meaning.specs.Meanings.{wire_at}
use Rattle.heco_peep.specs.declared.window.Window.{Window}
use Rattle.heco_peep.specs.declared.window.Swap.{Swap}
use Rattle.heco_peep.specs.declared.window.Swap.TheVariants as swap
use Rattle.heco_peep.specs.Rules.{Rule, IsLawful, of_first}

abbrev pub longer_by : Gate → Option Gate → Option Swap
longer_by (Neg a) (Some (Relin x)) = Some (swap.Gate (Neg x))
longer_by at first = None

is_negative : (w : Window) (a y : ℕ) → w.at ≡ Neg a → w.first ≡ Some (Relin y) → IsLawful w (swap.Gate (Neg y))
is_negative w a y e f = record {
  seen = λ b k. of_first b (Relin y) f k;
  kind = refl;
  means = λ vs ws g.
      let q : wire_at ws a ≡ wire_at ws y = g.first a (Relin y) (rw e refl) f in
      rw e (ap (map (λ x. (modulus_of w.preset.id - x) % modulus_of w.preset.id)) (sym q));
}

pub longer_is_lawful : (w : Window) (at : Gate) (first : Option Gate) (x : Swap) → w.at ≡ at → w.first ≡ first → longer_by at first ≡ Some x → IsLawful w x
longer_is_lawful w (Neg a) (Some (Relin y)) x e f h = let q : swap.Gate (Neg y) ≡ x = cc in subst (IsLawful w) q (is_negative w a y e f)
longer_is_lawful w (Neg a) (Some (Neg d)) x e f h = absurd cc
longer_is_lawful w (Neg a) (Some (Add d b)) x e f h = absurd cc
longer_is_lawful w (Neg a) (Some (Sub d b)) x e f h = absurd cc
longer_is_lawful w (Neg a) (Some (Mul d b)) x e f h = absurd cc
longer_is_lawful w (Neg a) (Some (Scale c d)) x e f h = absurd cc
longer_is_lawful w (Neg a) (Some (Shift c d)) x e f h = absurd cc
longer_is_lawful w (Neg a) (Some (Turn r d)) x e f h = absurd cc
longer_is_lawful w (Neg a) (Some (Weigh v d)) x e f h = absurd cc
longer_is_lawful w (Neg a) None x e f h = absurd cc
longer_is_lawful w (Add a b) o x e f h = absurd cc
longer_is_lawful w (Sub a b) o x e f h = absurd cc
longer_is_lawful w (Mul a b) o x e f h = absurd cc
longer_is_lawful w (Relin a) o x e f h = absurd cc
longer_is_lawful w (Scale c a) o x e f h = absurd cc
longer_is_lawful w (Shift c a) o x e f h = absurd cc
longer_is_lawful w (Turn r a) o x e f h = absurd cc
longer_is_lawful w (Weigh v a) o x e f h = absurd cc

abbrev pub longer_rule : Rule
longer_rule = record { answer = λ state w. (longer_by w.at w.first, state); lawful = λ state w ready x h. longer_is_lawful w w.at w.first x refl refl h }
