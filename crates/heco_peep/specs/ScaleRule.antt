-- A multiple of a multiple is a multiple by the product of both constants.
use Rattle.std.specs.Prelude.{◌≡◌, ◌<◌, ◌≤◌, ℕ, ◌-◌, ◌*◌, ◌%◌, List, [], ◌∷◌, map, Option, Some, None, true}
use Rattle.std.proofs.Common.{refl, ap, sym, ◌∙◌, arith, subst, mod-lt, leb}
use Rattle.std.proofs.lemmas.Bool.{leb-true, le-leb}
use Rattle.std.proofs.lemmas.Nat.{mul-mod_first, mul-mod_second}
use Rattle.std.proofs.Math.Nat.{mul_assoc}
use Rattle.heco_nums.specs.Presets.{modulus_of}
use Rattle.heco_fields.proofs.Bools.{both_true, and_true}
use Rattle.heco_circuit.specs.declared.gate.Gate.{Gate}
use Rattle.heco_circuit.specs.declared.gate.Gate.TheVariants.{Neg, Add, Sub, Mul, Relin, Scale, Shift, Turn, Weigh}
use Rattle.heco_circuit.specs.Validity.{is_between}
use Rattle.heco_meaning.specs.Meanings.{wire_at}
use Rattle.heco_peep.specs.declared.window.Window.{Window}
use Rattle.heco_peep.specs.declared.window.Swap.{Swap}
use Rattle.heco_peep.specs.declared.window.Swap.TheVariants as swap
use Rattle.heco_peep.specs.Rules.{Rule, IsWindow, IsLawful, fits_preset, of_first}
use Rattle.heco_peep.specs.NegRule.{one_more}
use Rattle.heco_peep.specs.Moduli.{product_of_constants}

abbrev pub scale_by : ℕ → List ℕ → Gate → Option Gate → Option Swap × List ℕ
scale_by t state (Scale c a) (Some (Scale d x)) = (Some (swap.Gate (Scale ((c * d) % t) x)), one_more state)
scale_by t state at first = (None, state)

abbrev pub scale_answer : List ℕ → Window → Option Swap × List ℕ
scale_answer state w = scale_by (modulus_of w.preset.id) state w.at w.first

-- ---- it is lawful
one_multiple : (t c d x : ℕ) → ((c * d) % t * x) % t ≡ (c * ((d * x) % t)) % t
one_multiple t c d x = mul-mod_first (c * d) x t ∙ ap (λ k. k % t) (mul_assoc c d x) ∙ sym (mul-mod_second c (d * x) t)

all_multiples : (t c d : ℕ) (xs : List ℕ) → map (λ x. ((c * d) % t * x) % t) xs ≡ map (λ x. (c * x) % t) (map (λ x. (d * x) % t) xs)
all_multiples t c d [] = refl
all_multiples t c d (x ∷ xs) = rw (one_multiple t c d x, all_multiples t c d xs) refl

constant : (t c : ℕ) → is_between 1 (t - 1) c ≡ true → (1 ≤ c) × (c < t)
constant t c h =
    let u = both_true (leb 1 c) (leb c (t - 1)) h in
    let low = leb-true 1 c u.0 in
    let high = leb-true c (t - 1) u.1 in
    (low, omega (arith, low, high))

product_in_range : (id c d : ℕ) → is_between 1 (modulus_of id - 1) c ≡ true → is_between 1 (modulus_of id - 1) d ≡ true
    → is_between 1 (modulus_of id - 1) ((c * d) % modulus_of id) ≡ true
product_in_range id c d h k =
    let t : ℕ = modulus_of id in
    let x = constant t c h in
    let y = constant t d k in
    let some : 0 < t = (let l = x.1 in omega (arith, l)) in
    let less : (c * d) % t < t = mod-lt (c * d) some in
    and_true (leb 1 ((c * d) % t)) (leb ((c * d) % t) (t - 1)) (le-leb 1 ((c * d) % t) (product_of_constants id c d x.0 x.1 y.0 y.1))
    (le-leb ((c * d) % t) (t - 1) (omega (arith, less)))

is_multiple : (w : Window) (c a d x : ℕ) → IsWindow w → w.at ≡ Scale c a → w.first ≡ Some (Scale d x)
    → IsLawful w (swap.Gate (Scale ((c * d) % modulus_of w.preset.id) x))
is_multiple w c a d x ready e f = record {
  seen = λ b k. of_first b (Scale d x) f k;
  kind = product_in_range w.preset.id c d (subst (λ g. fits_preset w g ≡ true) e ready.at) (ready.first (Scale d x) f);
  means = λ vs ws g.
      let t : ℕ = modulus_of w.preset.id in
      let q : wire_at ws a ≡ map (λ x. (d * x) % t) (wire_at ws x) = g.first a (Scale d x) (rw e refl) f in
      rw (e, q) (all_multiples t c d (wire_at ws x));
}

pub scale_is_lawful : (state : List ℕ) (w : Window) (at : Gate) (first : Option Gate) (x : Swap) → IsWindow w → w.at ≡ at → w.first ≡ first
    → (scale_by (modulus_of w.preset.id) state at first).0 ≡ Some x → IsLawful w x
scale_is_lawful state w (Scale c a) (Some (Scale d y)) x r e f h =
    let q : swap.Gate (Scale ((c * d) % modulus_of w.preset.id) y) ≡ x = cc in subst (IsLawful w) q (is_multiple w c a d y r e f)
scale_is_lawful state w (Scale c a) (Some (Neg y)) x r e f h = absurd cc
scale_is_lawful state w (Scale c a) (Some (Add y z)) x r e f h = absurd cc
scale_is_lawful state w (Scale c a) (Some (Sub y z)) x r e f h = absurd cc
scale_is_lawful state w (Scale c a) (Some (Mul y z)) x r e f h = absurd cc
scale_is_lawful state w (Scale c a) (Some (Relin y)) x r e f h = absurd cc
scale_is_lawful state w (Scale c a) (Some (Shift k y)) x r e f h = absurd cc
scale_is_lawful state w (Scale c a) (Some (Turn k y)) x r e f h = absurd cc
scale_is_lawful state w (Scale c a) (Some (Weigh v y)) x r e f h = absurd cc
scale_is_lawful state w (Scale c a) None x r e f h = absurd cc
scale_is_lawful state w (Neg a) o x r e f h = absurd cc
scale_is_lawful state w (Add a b) o x r e f h = absurd cc
scale_is_lawful state w (Sub a b) o x r e f h = absurd cc
scale_is_lawful state w (Mul a b) o x r e f h = absurd cc
scale_is_lawful state w (Relin a) o x r e f h = absurd cc
scale_is_lawful state w (Shift c a) o x r e f h = absurd cc
scale_is_lawful state w (Turn k a) o x r e f h = absurd cc
scale_is_lawful state w (Weigh v a) o x r e f h = absurd cc

abbrev pub scale_rule : Rule
scale_rule = record { answer = scale_answer; lawful = λ state w ready x h. scale_is_lawful state w w.at w.first x ready refl refl h }
