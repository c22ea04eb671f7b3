-- The noise after a switch of keys: of relinearisation and of turns.
use Prim.Native.Nat.{ℕ, zero, suc, ◌+◌, ◌-◌, ◌*◌, ◌/◌, ◌%◌, ◌<◌, ◌≤◌, ◌^◌}
use native.Mathlib.Omega.{arith}
use native.Mathlib.Nat.{mul-add-mod_self_left, mod-eq_of_lt}
use Rattle.std.proofs.lemmas.Nat.{mul-mod, pow-add}
use mathlib.Core.Path.{◌≡◌, refl, sym, ap, ◌∙◌}
use mathlib.Core.List.{List, []}
use lib.IntN.{ℤ, pos, ◌+ℤ◌, ◌*ℤ◌, nat_abs}
use lib.ListN.{length, get_or}
use Rattle.heco_nums.specs.declared.preset.Preset.{Preset}
use Rattle.heco_nums.proofs.PresetFacts.{facts}
use Rattle.heco_noise_laws.proofs.Gates.{noise_same, relin_value, relin_phase, turn_phase, noise_turn}
use Rattle.heco_noise_laws.proofs.Switch.{digits_sum}
use Rattle.heco_noise_laws.proofs.SwitchNoise.{SwitchKey, gain, switch_noise}
use Rattle.heco_noise_laws.specs.Noise.{phase, NoiseAtMost}
use Rattle.heco_ring.proofs.Congruence.{same_refl, same_sym, same_trans, same_plus, same_times}
use Rattle.heco_ring.proofs.Integers.{z_mul_comm}
use Rattle.heco_ring.proofs.Linear.{at-plus, at-scale}
use Rattle.heco_ring.proofs.Pairing.{at-table}
use Rattle.heco_ring.proofs.Reduced.{same_wholes}
use Rattle.heco_ring.proofs.Remainders.{cong_self, rem_nat}
use Rattle.heco_ring.proofs.SlotLaws.{three_odd}
use Rattle.heco_ring.proofs.Wrapping.{at-wholes}
use Rattle.heco_ring.specs.Remainders.{reduced, Same}
use Rattle.heco_ring.specs.Ring.{at, wholes, plus, times, negate, scale, turn, sum_lists}
use Rattle.heco_ring.specs.Sizes.{sum_n}
use Rattle.heco_scheme.specs.Gates.{digits, switched, relinearised, turned}
use Rattle.heco_noise.specs.Rows as row
use mathlib.Core.Logic.{inl, inr}
use mathlib.Core.Bool.{cond}
use lib.Dec.{ltb}
use Rattle.std.proofs.lemmas.Bool.{cases_lt, lt-ltb, le-ltb}
use Rattle.heco_scheme.proofs.FreshNoise.{error_at}
use Rattle.heco_scheme.specs.Keys.{IsSwitchKey, switch_part}
use Rattle.heco_scheme.specs.Noise.{q}
use Rattle.heco_scheme.specs.Ciphertexts.{part}
use Rattle.heco_slots.specs.Messages.{turned as message_turned}
use Rattle.heco_scheme.specs.Noise.{phase_of, noise}
use Rattle.heco_scheme.proofs.PartLaws.{same_phase, part_past}
use Rattle.heco_scheme.proofs.NoiseLaws.{at_most, noise_of, modulus_pos}
use Rattle.heco_scheme.proofs.Empty.{at-empty, phase_two, plus_nothing, times_zeros, empty_zeros}

-- ---- the digits add up
pub at-digits : (n i k : ℕ) (b : List ℕ) → k < n → at (digits n b i) k ≡ pos (get_or b k 0 / 4 ^ i % 4)
unfolding digits
at-digits n i k b h = at-table n (λ k. pos (get_or b k 0 / 4 ^ i % 4)) k h

digits_together : (n l k : ℕ) (b : List ℕ) → k < n → at (sum_lists n l (λ i. scale n (pos (4 ^ i)) (digits n b i))) k ≡ pos (sum_n l (λ i. get_or b k 0 / 4 ^ i % 4 * 4 ^ i))
unfolding sum_lists sum_n
digits_together n zero k b h = at-table n (λ k. pos 0) k h
digits_together n (suc l) k b h =
    let A : List ℤ = sum_lists n l (λ i. scale n (pos (4 ^ i)) (digits n b i)) in
    let B : List ℤ = scale n (pos (4 ^ l)) (digits n b l) in
    let S : ℕ = sum_n l (λ i. get_or b k 0 / 4 ^ i % 4 * 4 ^ i) in
    let e : at B k ≡ pos (get_or b k 0 / 4 ^ l % 4 * 4 ^ l) = at-scale n (pos (4 ^ l)) (digits n b l) k h ∙ ap (λ (z : ℤ). pos (4 ^ l) *ℤ z) (at-digits n l k b h) ∙ z_mul_comm (pos (4 ^ l)) (pos (get_or b k 0 / 4 ^ l % 4)) in
    at-plus n A B k h ∙ ap (λ (z : ℤ). z +ℤ at B k) (digits_together n l k b h) ∙ ap (λ (z : ℤ). pos S +ℤ z) e

pub digits_same : (n : ℕ) (b : List ℕ) → Same q n (sum_lists n 29 (λ i. scale n (pos (4 ^ i)) (digits n b i))) (wholes b)
digits_same n b = record {
  each = λ k h.
      rw (digits_together n 29 k b h, digits_sum 29 (get_or b k 0), at-wholes b k, ← (rem_nat q (get_or b k 0))) (cong_self q (pos (get_or b k 0)) (omega arith));
}

digit_small : (n : ℕ) (b : List ℕ) (i j : ℕ) → j < n → nat_abs (at (digits n b i) j) ≤ 3
digit_small n b i j h = rw (at-digits n i j b h) (below (get_or b j 0 / 4 ^ i))
  where
    below : (x : ℕ) → nat_abs (pos (x % 4)) ≤ 3
    below x = omega arith

-- ---- the key
-- the first 29 of some lists, and then empty ones
unfoldable first_29 : (ℕ → List ℤ) → ℕ → List ℤ
first_29 e i = cond (ltb i 29) (e i) []

first_in : (e : ℕ → List ℤ) (i : ℕ) → i < 29 → first_29 e i ≡ e i
unfolding first_29
first_in e i h = rw (lt-ltb i 29 h) refl

first_out : (e : ℕ → List ℤ) (i : ℕ) → 29 ≤ i → first_29 e i ≡ []
unfolding first_29
first_out e i h = rw (le-ltb i 29 h) refl

switch_row : (t n b E : ℕ) → E + t * (29 * (n * 3 * b)) ≡ row.turned t n b E
switch_row t n b E = omega arith

key_of : (p : Preset) (s s' : List ℤ) (k : List (List ℕ × List ℕ)) → IsSwitchKey p.n p.b s s' k →
    SwitchKey q p.n 29 p.b s s' (λ i. wholes (get_or k i ([], [])).0) (λ i. wholes (get_or k i ([], [])).1) (λ i. pos (4 ^ i))
unfolding switch_part
key_of p s s' k h = record {
  a = λ i. wholes (get_or k i ([], [])).1;
  e = λ i. first_29 h.errors i;
  small = λ i j l. elim (cases_lt i 29) [
    | inl a ↦ rw (first_in h.errors i a) (error_at p.n p.b (h.errors i) (h.small i a) j l)
    | inr a ↦ rw (first_out h.errors i a, at-empty j) (omega arith)
  ];
  first = λ i l. rw (h.first i l, first_in h.errors i l) (same_wholes q p.n (plus p.n (negate p.n (plus p.n (times p.n (wholes (get_or k i ([], [])).1) s) (h.errors i))) (scale p.n (pos (4 ^ i)) s')) (omega arith));
  second = λ i l. same_refl q p.n (wholes (get_or k i ([], [])).1);
}

-- ---- a switch of b
switched_noise : (p : Preset) (s s' c0 c1 : List ℤ) (b : List ℕ) (k : List (List ℕ × List ℕ)) (m : List ℕ) (E : ℕ) → IsSwitchKey p.n p.b s s' k →
    NoiseAtMost p.n q p.t (plus p.n (plus p.n c0 (times p.n c1 s)) (times p.n (wholes b) s')) (wholes m) E → noise p s (switched p c0 c1 b k) m ≤ E + p.t * (29 * (p.n * 3 * p.b))
unfolding switched phase_of part wholes
switched_noise p s s' c0 c1 b k m E K N =
    let n : ℕ = p.n in
    let k0 : ℕ → List ℤ = λ i. wholes (get_or k i ([], [])).0 in
    let k1 : ℕ → List ℤ = λ i. wholes (get_or k i ([], [])).1 in
    let x0 : List ℤ = plus n c0 (sum_lists n 29 (λ i. times n (digits n b i) (k0 i))) in
    let x1 : List ℤ = plus n c1 (sum_lists n 29 (λ i. times n (digits n b i) (k1 i))) in
    let v : List ℤ = plus n c0 (times n c1 s) in
    let w : List ℤ = plus n x0 (times n x1 s) in
    let g : List ℤ = gain n 29 s (digits n b) k0 k1 in
    noise_of p s w (wholes m) (switched p c0 c1 b k) m (E + p.t * (29 * (p.n * 3 * p.b)))
    (same_trans q n (phase_of p s (switched p c0 c1 b k)) (phase n s x0 x1 []) w
    (same_phase q n s (wholes (reduced q n x0)) (wholes (reduced q n x1)) [] x0 x1 [] (same_wholes q n x0 (omega arith)) (same_wholes q n x1 (omega arith)) (same_refl q n []))
    (phase_two q n s x0 x1))
    (same_refl p.t n (wholes m))
    (switch_noise q p.t n 29 3 p.b E v w (wholes b) (wholes m) s s' (digits n b) k0 k1 (λ i. pos (4 ^ i)) (modulus_pos p) (key_of p s s' k K) (digit_small n b) (digits_same n b)
    (rw (relin_value n 29 s c0 c1 (wholes b) (digits n b) k0 k1) (same_refl q n (plus n v g))) N)

pub relinearised_noise : (p : Preset) (s : List ℤ) (k : List (List ℕ × List ℕ)) (a : List (List ℕ)) (m : List ℕ) (E : ℕ) → IsSwitchKey p.n p.b s (times p.n s s) k → noise p s a m ≤ E →
    noise p s (relinearised p k a) m ≤ row.turned p.t p.n p.b E
unfolding relinearised phase_of part
relinearised_noise p s k a m E K h =
    rw (← (switch_row p.t p.n p.b E)) (switched_noise p s (times p.n s s) (part a 0) (part a 1) (get_or a 2 []) k m E K (rw (relin_phase p.n s (part a 0) (part a 1) (part a 2)) (at_most p s a m E h)))

-- ---- the exponents of turns
odd_left : (n x h : ℕ) → 0 < n → x ≡ 2 * h + 1 → x % (2 * n) ≡ 2 * (h % n) + 1
odd_left n x h p e =
    let d : n * (h / n) + h % n ≡ h = omega arith in
    let f : x ≡ 2 * n * (h / n) + (2 * (h % n) + 1) = omega (arith, e, d) in
    let l : h % n < n = omega arith in
    rw f (mul-add-mod_self_left (2 * n) (h / n) (2 * (h % n) + 1) ∙ mod-eq_of_lt (omega arith))

back : (p : Preset) (r : ℕ) → r ≤ p.slots → (3 ^ r % (2 * p.n) * (3 ^ (p.slots - r) % (2 * p.n))) % (2 * p.n) ≡ 1
back p r h =
    let e : r + (p.slots - r) ≡ p.slots = omega arith in
    sym (mul-mod (3 ^ r) (3 ^ (p.slots - r)) (2 * p.n)) ∙ rw (← (pow-add 3 r (p.slots - r)), e) (facts p).round

pub turned_noise : (p : Preset) (s : List ℤ) (r : ℕ) (k : List (List ℕ × List ℕ)) (a : List (List ℕ)) (m : List ℕ) (E : ℕ) → r ≤ p.slots → length a ≡ 2 → IsSwitchKey p.n p.b s (turn p.n s (3 ^ r % (2 * p.n))) k → noise p s a m ≤ E →
    noise p s (turned p r k a) (message_turned p r m) ≤ row.turned p.t p.n p.b E
unfolding turned message_turned phase_of
turned_noise p s r k a m E hr la K h =
    let n : ℕ = p.n in
    let o = three_odd r in
    let w : ℕ = o.0 % n in
    let g : ℕ = 3 ^ r % (2 * n) in
    let odd : g ≡ 2 * w + 1 = odd_left n (3 ^ r) o.0 (facts p).n_pos o.1 in
    let a0 : List ℤ = part a 0 in
    let a1 : List ℤ = part a 1 in
    let b : List ℕ = reduced q n (turn n a1 g) in
    let z : List ℤ = plus n a0 (times n a1 s) in
    let zs : Same q n z (phase_of p s a) = same_sym q n (phase_of p s a) z (rw (part_past a 2 (omega arith)) (phase_two q n s a0 a1)) in
    let N : NoiseAtMost n q p.t z (wholes m) E = noise_same n q p.t E (phase_of p s a) z (wholes m) (wholes m) (modulus_pos p) zs (same_refl p.t n (wholes m)) (at_most p s a m E h) in
    let T : NoiseAtMost n q p.t (turn n z g) (turn n (wholes m) g) E = noise_turn n q p.t g (3 ^ (p.slots - r) % (2 * n)) E z (wholes m) (modulus_pos p) (back p r hr) N in
    let tz : plus n (turn n a0 g) (times n (turn n a1 g) (turn n s g)) ≡ turn n z g = rw odd (turn_phase n w s a0 a1 (facts p).n_pos) in
    let v : List ℤ = plus n (plus n (turn n a0 g) (times n [] s)) (times n (wholes b) (turn n s g)) in
    let vs : Same q n v (turn n z g) = rw (← tz) (same_plus q n (plus n (turn n a0 g) (times n [] s)) (turn n a0 g) (times n (wholes b) (turn n s g)) (times n (turn n a1 g) (turn n s g))
    (plus_nothing q n (turn n a0 g) (times n [] s) (times_zeros n [] s (empty_zeros n)))
    (same_times q n (wholes b) (turn n a1 g) (turn n s g) (turn n s g) (same_wholes q n (turn n a1 g) (omega arith)) (same_refl q n (turn n s g)))) in
    rw (← (switch_row p.t p.n p.b E)) (switched_noise p s (turn n s g) (turn n a0 g) [] b k (reduced p.t n (turn n (wholes m) g)) E K
    (noise_same n q p.t E (turn n z g) v (turn n (wholes m) g) (wholes (reduced p.t n (turn n (wholes m) g))) (modulus_pos p) vs (same_wholes p.t n (turn n (wholes m) g) (facts p).t_pos) T))
