-- Powers modulo t by squares.
use Prim.Native.Nat.{ℕ, suc, ◌+◌, ◌*◌, ◌/◌, ◌%◌, ◌^◌}
use native.Mathlib.Omega.{arith}
use mathlib.Core.Path.{◌≡◌, sym, ap, ◌∙◌}
use Rattle.std.proofs.lemmas.Nat.{pow-add, mul-pow, pow-mod, mul-mod_first, mul-mod_second}
use Rattle.std.proofs.Math.Nat.{mul_assoc, pow-succ'}

-- c s^(2 k) by the square of s
squared : (c s k t : ℕ) → c * (s * s % t) ^ k % t ≡ c * s ^ (k + k) % t
squared c s k t =
    sym (mul-mod_second c ((s * s % t) ^ k) t)
    ∙ ap (λ x. c * x % t) (pow-mod (s * s) k t ∙ ap (λ x. x % t) (mul-pow s s k ∙ sym (pow-add s k k)))
    ∙ mul-mod_second c (s ^ (k + k)) t

pub even_step : (c s left t : ℕ) → left % 2 ≡ 0 → c * (s * s % t) ^ (left / 2) % t ≡ c * s ^ left % t
even_step c s left t even =
    let halves : left / 2 + left / 2 ≡ left = omega (arith, even) in
    squared c s (left / 2) t ∙ ap (λ x. c * s ^ x % t) halves

pub odd_step : (c s left t : ℕ) → left % 2 ≡ 1 → c * s % t * (s * s % t) ^ (left / 2) % t ≡ c * s ^ left % t
odd_step c s left t odd =
    let halves : suc (left / 2 + left / 2) ≡ left = omega (arith, odd) in
    mul-mod_first (c * s) ((s * s % t) ^ (left / 2)) t
    ∙ squared (c * s) s (left / 2) t
    ∙ ap (λ x. x % t) (mul_assoc c s (s ^ (left / 2 + left / 2)) ∙ ap (λ x. c * x) (sym (pow-succ' s (left / 2 + left / 2))))
    ∙ ap (λ x. c * s ^ x % t) halves
