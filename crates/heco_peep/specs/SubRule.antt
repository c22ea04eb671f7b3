-- A sum with a negative is a difference.
use Rattle.std.specs.Prelude.{◌≡◌, ◌<◌, ℕ, zero, suc, ◌-◌, ◌+◌, ◌%◌, List, [], ◌∷◌, map, Option, Some, None, All, Contains}
use Rattle.std.proofs.Common.{refl, sym, arith, subst}
use Rattle.std.proofs.Math.Nat.{mod-eq_of_lt, add-mod-mod}
use Rattle.heco_nums.specs.Presets.{modulus_of}
use Rattle.heco_circuit.specs.declared.gate.Gate.{Gate}
use Rattle.heco_circuit.specs.declared.gate.Gate.TheVariants.{Neg, Add, Sub, Mul, Relin, Scale, Shift, Turn, Weigh}
use Rattle.heco_meaning.specs.Meanings.{wire_at, sums, differences}
use Rattle.heco_peep.specs.declared.window.Window.{Window}
use Rattle.heco_peep.specs.declared.window.Swap.{Swap}
use Rattle.heco_peep.specs.declared.window.Swap.TheVariants as swap
use Rattle.heco_peep.specs.Rules.{Rule, IsLawful, Sees, of_at, of_second}
use Rattle.heco_peep.specs.NegRule.{one_more}

abbrev pub sub_by : List ℕ → Gate → Option Gate → Option Swap × List ℕ
sub_by state (Add a b) (Some (Neg y)) = (Some (swap.Gate (Sub a y)), one_more state)
sub_by state at second = (None, state)

abbrev pub sub_answer : List ℕ → Window → Option Swap × List ℕ
sub_answer state w = sub_by state w.at w.second

-- ---- it is lawful
one_difference : (t x y : ℕ) → y < t → (x + (t - y % t)) % t ≡ (x + (t - y) % t) % t
one_difference t x y h = rw (mod-eq_of_lt h) (sym (add-mod-mod x (t - y) t))

all_differences : (t : ℕ) (xs ys : List ℕ) → All (λ y. y < t) ys → differences t xs ys ≡ sums t xs (map (λ y. (t - y) % t) ys)
all_differences t [] ys h = refl
all_differences t (x ∷ xs) [] h = refl
all_differences t (x ∷ xs) (y ∷ ys) h = rw (one_difference t x y (h 0 0 (omega arith)), all_differences t xs ys (λ i d l. h (suc i) d (omega (arith, l)))) refl

sees : (w : Window) (a b y : ℕ) → w.at ≡ Add a b → w.second ≡ Some (Neg y) → (c : ℕ) → Contains (a ∷ y ∷ []) c → Sees w c
sees w a b y e f c (zero, l, q) = of_at c (rw e (0, omega arith, q))
sees w a b y e f c (suc zero, l, q) = of_second c (Neg y) f (0, omega arith, q)
sees w a b y e f c (suc (suc i), l, q) = absurd (omega (arith, l))

is_difference : (w : Window) (a b y : ℕ) → w.at ≡ Add a b → w.second ≡ Some (Neg y) → IsLawful w (swap.Gate (Sub a y))
is_difference w a b y e f = record {
  seen = sees w a b y e f;
  kind = refl;
  means = λ vs ws g.
      let t : ℕ = modulus_of w.preset.id in
      let q : wire_at ws b ≡ map (λ x. (t - x) % t) (wire_at ws y) = g.second b (Neg y) (rw e refl) f in
      rw (e, q) (all_differences t (wire_at ws a) (wire_at ws y) (g.full y (of_second y (Neg y) f (0, omega arith, refl))).below);
}

pub sub_is_lawful : (state : List ℕ) (w : Window) (at : Gate) (second : Option Gate) (x : Swap) → w.at ≡ at → w.second ≡ second
    → (sub_by state at second).0 ≡ Some x → IsLawful w x
sub_is_lawful state w (Add a b) (Some (Neg y)) x e f h = let q : swap.Gate (Sub a y) ≡ x = cc in subst (IsLawful w) q (is_difference w a b y e f)
sub_is_lawful state w (Add a b) (Some (Add c d)) x e f h = absurd cc
sub_is_lawful state w (Add a b) (Some (Sub c d)) x e f h = absurd cc
sub_is_lawful state w (Add a b) (Some (Mul c d)) x e f h = absurd cc
sub_is_lawful state w (Add a b) (Some (Relin c)) x e f h = absurd cc
sub_is_lawful state w (Add a b) (Some (Scale k c)) x e f h = absurd cc
sub_is_lawful state w (Add a b) (Some (Shift k c)) x e f h = absurd cc
sub_is_lawful state w (Add a b) (Some (Turn r c)) x e f h = absurd cc
sub_is_lawful state w (Add a b) (Some (Weigh v c)) x e f h = absurd cc
sub_is_lawful state w (Add a b) None x e f h = absurd cc
sub_is_lawful state w (Neg a) o x e f h = absurd cc
sub_is_lawful state w (Sub a b) o x e f h = absurd cc
sub_is_lawful state w (Mul a b) o x e f h = absurd cc
sub_is_lawful state w (Relin a) o x e f h = absurd cc
sub_is_lawful state w (Scale c a) o x e f h = absurd cc
sub_is_lawful state w (Shift c a) o x e f h = absurd cc
sub_is_lawful state w (Turn r a) o x e f h = absurd cc
sub_is_lawful state w (Weigh v a) o x e f h = absurd cc

abbrev pub sub_rule : Rule
sub_rule = record { answer = sub_answer; lawful = λ state w ready x h. sub_is_lawful state w w.at w.second x refl refl h }
