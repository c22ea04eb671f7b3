-- The slots of a row: what is done to a plaintext is done to each.
use Prim.Native.Nat.{ℕ, ◌+◌, ◌*◌, ◌-◌, ◌%◌, ◌^◌, ◌<◌}
use native.Mathlib.Omega.{arith}
use native.Mathlib.Nat.{add-mod-mod, mod-mod}
use mathlib.Core.Path.{◌≡◌, ap, sym, ◌∙◌}
use mathlib.Core.List.{List}
use lib.ListN.{length, get_or}
use lib.IntN.{ℤ, pos}
use Rattle.std.proofs.lemmas.List.{ext_get_or}
use Rattle.std.proofs.lemmas.List.FromFn.{get_or-map-range_with_len, length-map-range_with_len}
use Rattle.std.proofs.lemmas.Nat.{mul-mod, mul-mod_first, mul-mod_second, pow-add}
use Rattle.heco_nums.specs.declared.preset.Preset.{Preset}
use Rattle.heco_nums.proofs.PresetFacts.{facts}
use Rattle.heco_ring.specs.Remainders.{reduced}
use Rattle.heco_ring.specs.Ring.{wholes, plus, negate, scale, times, turn, constant}
use Rattle.heco_ring.specs.Slots.{value, slot}
use Rattle.heco_ring.proofs.Reduced.{same_wholes}
use Rattle.heco_ring.proofs.Remainders.{rem_nat}
use Rattle.heco_ring.proofs.SlotLaws.{value_same, value_plus, value_negate, value_scale, value_constant, value_times, value_turn, value_round, three_is_odd, three_round}
use Rattle.heco_slots.specs.Messages.{sum, difference, opposite, multiple, constant_of, raised, product, turned}
use Rattle.heco_slots.specs.Slots.{slot_of, decoded}
use Rattle.heco_slots.proofs.PresetSlots.{decoded_long, decoded_at}
use Rattle.heco_slots.specs.Rows.{first_row, slot_in, row_of}

pub row_long : (p : Preset) (e : ℕ) (m : List ℕ) → length (row_of p e m) ≡ p.slots
unfolding row_of
row_long p e m = length-map-range_with_len (slot_in p e m) 0 p.slots

pub row_at : (p : Preset) (e : ℕ) (m : List ℕ) (j : ℕ) → j < p.slots → get_or (row_of p e m) j 0 ≡ slot_in p e m j
unfolding row_of
row_at p e m j h = get_or-map-range_with_len (slot_in p e m) 0 p.slots j j 0 h (omega arith)

-- the slots that decode reads are those of the first row
pub first_is_read : (p : Preset) (m : List ℕ) (j : ℕ) → slot_of p m j ≡ slot_in p 1 m j
unfolding slot_in slot_of slot
first_is_read p m j = let one : 3 ^ j ≡ 1 * 3 ^ j = omega arith in ap (λ (w : ℕ). value p.n p.t p.zeta w (wholes m)) one

pub first_is_decoded : (p : Preset) (m : List ℕ) → row_of p first_row m ≡ decoded p m
first_is_decoded p m = ext_get_or 0 _ _ (row_long p 1 m ∙ sym (decoded_long p m)) (λ j h.
    let lt : j < p.slots = omega (arith, row_long p 1 m) in
    row_at p 1 m j lt ∙ sym (first_is_read p m j) ∙ sym (decoded_at p m j lt))

-- slots depend on the coefficients modulo t alone
of_reduced : (p : Preset) (w : ℕ) (a : List ℤ) → value p.n p.t p.zeta w (wholes (reduced p.t p.n a)) ≡ value p.n p.t p.zeta w a
of_reduced p w a = value_same p.n p.t p.zeta w (wholes (reduced p.t p.n a)) a (facts p).t_pos (same_wholes p.t p.n a (facts p).t_pos)

pub in_sum : (p : Preset) (e : ℕ) (a b : List ℕ) (j : ℕ) → slot_in p e (sum p a b) j ≡ (slot_in p e a j + slot_in p e b j) % p.t
unfolding slot_in sum
in_sum p e a b j = of_reduced p (e * 3 ^ j) (plus p.n (wholes a) (wholes b)) ∙ value_plus p.n p.t p.zeta (e * 3 ^ j) (wholes a) (wholes b) (facts p).t_pos

pub in_opposite : (p : Preset) (e : ℕ) (a : List ℕ) (j : ℕ) → slot_in p e (opposite p a) j ≡ (p.t - slot_in p e a j) % p.t
unfolding slot_in opposite
in_opposite p e a j = of_reduced p (e * 3 ^ j) (negate p.n (wholes a)) ∙ value_negate p.n p.t p.zeta (e * 3 ^ j) (wholes a) (facts p).t_pos

pub in_difference : (p : Preset) (e : ℕ) (a b : List ℕ) (j : ℕ) → slot_in p e (difference p a b) j ≡ (slot_in p e a j + (p.t - slot_in p e b j)) % p.t
unfolding slot_in difference
in_difference p e a b j =
    let w : ℕ = e * 3 ^ j in
    of_reduced p w (plus p.n (wholes a) (negate p.n (wholes b)))
    ∙ value_plus p.n p.t p.zeta w (wholes a) (negate p.n (wholes b)) (facts p).t_pos
    ∙ ap (λ (x : ℕ). (value p.n p.t p.zeta w (wholes a) + x) % p.t) (value_negate p.n p.t p.zeta w (wholes b) (facts p).t_pos)
    ∙ add-mod-mod (value p.n p.t p.zeta w (wholes a)) (p.t - value p.n p.t p.zeta w (wholes b)) p.t

pub in_multiple : (p : Preset) (e c : ℕ) (a : List ℕ) (j : ℕ) → slot_in p e (multiple p c a) j ≡ c * slot_in p e a j % p.t
unfolding slot_in multiple
in_multiple p e c a j =
    of_reduced p (e * 3 ^ j) (scale p.n (pos c) (wholes a))
    ∙ value_scale p.n p.t p.zeta (e * 3 ^ j) (pos c) (wholes a) (facts p).t_pos
    ∙ rem_nat p.t (c * value p.n p.t p.zeta (e * 3 ^ j) (wholes a))

pub in_constant : (p : Preset) (e c j : ℕ) → slot_in p e (constant_of p c) j ≡ c % p.t
unfolding slot_in constant_of
in_constant p e c j =
    of_reduced p (e * 3 ^ j) (constant p.n (pos c))
    ∙ value_constant p.n p.t p.zeta (e * 3 ^ j) (pos c) (facts p).n_pos
    ∙ rem_nat p.t c

pub in_raised : (p : Preset) (e c : ℕ) (a : List ℕ) (j : ℕ) → slot_in p e (raised p c a) j ≡ (slot_in p e a j + c) % p.t
unfolding slot_in raised
in_raised p e c a j =
    let w : ℕ = e * 3 ^ j in
    of_reduced p w (plus p.n (wholes a) (constant p.n (pos c)))
    ∙ value_plus p.n p.t p.zeta w (wholes a) (constant p.n (pos c)) (facts p).t_pos
    ∙ ap (λ (x : ℕ). (value p.n p.t p.zeta w (wholes a) + x) % p.t) (value_constant p.n p.t p.zeta w (pos c) (facts p).n_pos ∙ rem_nat p.t c)
    ∙ add-mod-mod (value p.n p.t p.zeta w (wholes a)) c p.t

odd_place : (e j : ℕ) → e % 2 ≡ 1 → e * 3 ^ j % 2 ≡ 1
odd_place e j h = mul-mod e (3 ^ j) 2 ∙ rw (h, three_is_odd j) (omega arith)

pub in_product : (p : Preset) (e : ℕ) (a b : List ℕ) (j : ℕ) → e % 2 ≡ 1 → slot_in p e (product p a b) j ≡ slot_in p e a j * slot_in p e b j % p.t
unfolding slot_in product
in_product p e a b j h =
    of_reduced p (e * 3 ^ j) (times p.n (wholes a) (wholes b))
    ∙ value_times p.n p.t p.zeta (e * 3 ^ j) (wholes a) (wholes b) (facts p).n_pos (facts p).t_pos (odd_place e j h) (facts p).minus_one

-- the place of slot j behind a turn by 3^r is that of slot j + r
turned_place : (M N e r j : ℕ) → 1 < M → 3 ^ N % M ≡ 1 → (3 ^ r % M * (e * 3 ^ j) % M) % M ≡ (e * 3 ^ ((j + r) % N)) % M
turned_place M N e r j h one =
    let swap : 3 ^ r * (e * 3 ^ j) ≡ e * (3 ^ j * 3 ^ r) = omega arith in
    mod-mod (3 ^ r % M * (e * 3 ^ j)) M ∙ mul-mod_first (3 ^ r) (e * 3 ^ j) M ∙ ap (λ (x : ℕ). x % M) (swap ∙ ap (λ (x : ℕ). e * x) (sym (pow-add 3 j r)))
    ∙ sym (mul-mod_second e (3 ^ (j + r)) M) ∙ ap (λ (x : ℕ). e * x % M) (sym (three_round M N (j + r) h one)) ∙ mul-mod_second e (3 ^ ((j + r) % N)) M

pub in_turned : (p : Preset) (e r : ℕ) (a : List ℕ) (j : ℕ) → e % 2 ≡ 1 → slot_in p e (turned p r a) j ≡ slot_in p e a ((j + r) % p.slots)
unfolding slot_in turned
in_turned p e r a j h =
    let g : ℕ = 3 ^ r % (2 * p.n) in
    let two : 1 < 2 * p.n = omega (arith, (facts p).n_pos) in
    of_reduced p (e * 3 ^ j) (turn p.n (wholes a) g)
    ∙ value_turn p.n p.t p.zeta (e * 3 ^ j) g (wholes a) (facts p).n_pos (facts p).t_pos (odd_place e j h) (facts p).minus_one
    ∙ value_round p.n p.t p.zeta (g * (e * 3 ^ j) % (2 * p.n)) (e * 3 ^ ((j + r) % p.slots)) (wholes a) (facts p).n_pos (facts p).t_pos (facts p).minus_one
    (turned_place (2 * p.n) p.slots e r j two (facts p).round)
