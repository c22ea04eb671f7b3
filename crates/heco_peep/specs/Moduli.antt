-- The product of two constants is no multiple of a modulus of the presets, as these are prime.
use Rattle.std.specs.Prelude.{◌≡◌, ◌<◌, ◌≤◌, ℕ, zero, suc, ◌+◌, ◌*◌, ◌/◌, ◌%◌, Bool, true, false, ◌&&◌, ◌==◌, not}
use Rattle.std.proofs.Common.{inl, inr, refl, ap, sym, ◌∙◌, arith, subst, cond, eqb, mod-lt}
use Rattle.std.proofs.lemmas.Bool.{eq-eqb, cases_lt}
use Rattle.std.proofs.lemmas.Nat.{mul-mod_second}
use Rattle.std.proofs.Math.Nat.{div-add-mod, mul-mod_left, mul-mod_right, mod-add-mod, mod-eq_of_lt, mul_assoc, mul_comm, mul-le-mul_left, zero-mod, add-mul}
use Rattle.heco_nums.specs.Presets.{modulus_of}
use Rattle.heco_fields.proofs.Bools.{both_true}

-- no number from 2 on, of so many, divides t
abbrev none_divides : ℕ → ℕ → Bool
none_divides t zero = true
none_divides t (suc n) = not (t % (n + 2) == 0) && none_divides t n

checked : (t n e : ℕ) → none_divides t n ≡ true → 2 ≤ e → e < n + 2 → t % e ≡ 0 → ⊥
checked t zero e h low high d = absurd (omega (arith, low, high))
checked t (suc n) e h low high d =
    let u = both_true (not (eqb (t % (n + 2)) 0)) (none_divides t n) h in
    elim (cases_lt e (n + 2)) [
      | inl l ↦ checked t n e u.1 low l d
      | inr ge ↦ (let q : e ≡ n + 2 = omega (arith, ge, high) in
          let z : eqb (t % (n + 2)) 0 ≡ true = eq-eqb (t % (n + 2)) 0 (rw (← q) d) in
          let f : not true ≡ true = ap not (sym z) ∙ u.0 in absurd cc)
    ]

-- one of a divisor and the other factor is at most 256
small_factor : (t e q : ℕ) → t ≡ e * q → 257 ≤ e → e < t → t < 257 * 257 → (2 ≤ q) × (q < 257)
small_factor t e zero h low less few = absurd (let z : e * zero ≡ 0 = omega arith in omega (arith, h, z, less))
small_factor t e (suc zero) h low less few = absurd (let z : e * suc zero ≡ e = omega arith in omega (arith, h, z, less))
small_factor t e (suc (suc q)) h low less few = (
  omega arith,
  elim (cases_lt (suc (suc q)) 257) [
    | inl l ↦ l
    | inr ge ↦ absurd (let a = mul-le-mul_left 257 ge in let b = mul-le-mul_left (suc (suc q)) low in
        let c = mul_comm e (suc (suc q)) in omega (arith, h, a, b, c, few))
  ],
)

prime : (t e : ℕ) → none_divides t 255 ≡ true → t < 257 * 257 → 2 ≤ e → e < t → t % e ≡ 0 → ⊥
prime t e h few low less d = elim (cases_lt e 257) [
  | inl l ↦ checked t 255 e h low l d
  | inr ge ↦ (let w : e * (t / e) + t % e ≡ t = div-add-mod t e in
      let q : t ≡ e * (t / e) = omega (arith, w, d) in
      let s = small_factor t e (t / e) q ge less few in
      let r : t % (t / e) ≡ 0 = subst (λ k. k % (t / e) ≡ 0) (sym q) (mul-mod_left e (t / e)) in
      checked t 255 (t / e) h s.0 s.1 r)
]

-- the remainder of t by c has with d a multiple of t where c has
smaller : (t c d : ℕ) → (c * d) % t ≡ 0 → ((t % c) * d) % t ≡ 0
smaller t c d h =
    let q : ℕ = t / c in
    let r : ℕ = t % c in
    let w : c * q + r ≡ t = div-add-mod t c in
    let lines : t * d ≡ q * (c * d) + r * d = sym (ap (λ k. k * d) w) ∙ expand c q r d in
    let z : (q * (c * d)) % t ≡ 0 = sym (mul-mod_second q (c * d) t) ∙ ap (λ k. (q * k) % t) h
    ∙ (let n : q * 0 ≡ 0 = omega arith in ap (λ k. k % t) n ∙ zero-mod t) in
    let whole : (t * d) % t ≡ 0 = mul-mod_right t d in
    let first : (q * (c * d) + r * d) % t ≡ (r * d) % t = sym (mod-add-mod (q * (c * d)) t (r * d))
    ∙ ap (λ k. (k + r * d) % t) z ∙ (let e : 0 + r * d ≡ r * d = omega arith in ap (λ k. k % t) e) in
    sym first ∙ sym (ap (λ k. k % t) lines) ∙ whole
  where
    expand : (c q r d : ℕ) → (c * q + r) * d ≡ q * (c * d) + r * d
    expand c q r d = let a = mul_assoc q c d in let b = mul_comm c q in let e : (c * q + r) * d ≡ c * q * d + r * d = add-mul (c * q) r d in e ∙ ap
        (λ k. k * d + r * d) b ∙ ap (λ k. k + r * d) a

euclid : (t n c d : ℕ) → none_divides t 255 ≡ true → t < 257 * 257 → c ≤ n → 1 ≤ c → c < t → (c * d) % t ≡ 0 → d % t ≡ 0
euclid t zero c d p few l low less h = absurd (omega (arith, l, low))
euclid t (suc n) zero d p few l low less h = absurd (omega (arith, low))
euclid t (suc n) (suc zero) d p few l low less h = let e : 1 * d ≡ d = omega arith in rw (← e) h
euclid t (suc n) (suc (suc c)) d p few l low less h =
    by_rest (t % suc (suc c)) refl (λ r q low' less'. euclid t n r d p few
    (let b : t % suc (suc c) < suc (suc c) = mod-lt t (omega arith) in omega (arith, q, b, l))
    low' less' (rw (← q) (smaller t (suc (suc c)) d h)))
  where
    by_rest : (r : ℕ) → t % suc (suc c) ≡ r → ((r : ℕ) → t % suc (suc c) ≡ r → 1 ≤ r → r < t → d % t ≡ 0) → d % t ≡ 0
    by_rest zero q again = absurd (prime t (suc (suc c)) p few (omega arith) less q)
    by_rest (suc r) q again = again (suc r) q (omega arith) (let b : t % suc (suc c) < suc (suc c) = mod-lt t (omega arith) in omega (arith, q, b, less))

product_stays : (t c d : ℕ) → none_divides t 255 ≡ true → t < 257 * 257 → 1 ≤ c → c < t → 1 ≤ d → d < t → 1 ≤ (c * d) % t
product_stays t c d p few lc hc ld hd = by_rest ((c * d) % t) refl
  where
    by_rest : (r : ℕ) → (c * d) % t ≡ r → 1 ≤ r
    by_rest zero q = absurd (let z = euclid t c c d p few (omega arith) lc hc q in let e = mod-eq_of_lt hd in omega (arith, z, e, ld))
    by_rest (suc r) q = omega arith

-- constants below the modulus of a preset
pub product_of_constants : (id c d : ℕ) → 1 ≤ c → c < modulus_of id → 1 ≤ d → d < modulus_of id → 1 ≤ (c * d) % modulus_of id
product_of_constants id c d lc hc ld hd = by_tests (id == 1) (id == 2) (id == 3) (id == 4) hc hd
  where
    by_tests : (x y z w : Bool) → c < cond x 257 (cond y 257 (cond z 257 (cond w 65537 65537))) → d < cond x 257 (cond y 257 (cond z 257 (cond w 65537 65537)))
        → 1 ≤ (c * d) % cond x 257 (cond y 257 (cond z 257 (cond w 65537 65537)))
    by_tests true y z w hc hd = product_stays 257 c d refl (omega arith) lc hc ld hd
    by_tests false true z w hc hd = product_stays 257 c d refl (omega arith) lc hc ld hd
    by_tests false false true w hc hd = product_stays 257 c d refl (omega arith) lc hc ld hd
    by_tests false false false true hc hd = product_stays 65537 c d refl (omega arith) lc hc ld hd
    by_tests false false false false hc hd = product_stays 65537 c d refl (omega arith) lc hc ld hd
