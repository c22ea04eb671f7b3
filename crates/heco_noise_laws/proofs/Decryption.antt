-- A value whose noise does not pass rounds to its message.
use Prim.Native.Nat.{ℕ, ◌<◌, ◌*◌, ◌/◌, ◌≤◌}
use borrow.Author.Differences.{abs_is}
use lib.IntN.{ℤ, pos, ◌+ℤ◌, ◌*ℤ◌, ◌-ℤ◌, nat_abs}
use mathlib.Core.Path.{◌≡◌, refl, ap, ◌∙◌}
use native.Mathlib.Nat.{mul-le-mul_left, div-eq_of_lt}
use native.Mathlib.Omega.{arith}
use Rattle.heco_ring.proofs.Integers.{lines, z_mul_add, z_mul_assoc}
use Rattle.heco_ring.proofs.Remainders.{rem_cong}
use Rattle.heco_ring.specs.Remainders.{rem, quo}
use Rattle.heco_noise_laws.proofs.Near.{near_out}
use Rattle.heco_noise_laws.proofs.Rounding.{quo_add}
use Rattle.heco_noise_laws.specs.Noise.{size, rounded}

quo_small : (q : ℕ) (b : ℤ) (c : ℕ) → b ≡ pos c → c < q → quo q b ≡ pos 0
unfolding quo
quo_small q b c e h = rw e (ap pos (div-zero c q h))
  where
    div-zero : (c q : ℕ) → c < q → c / q ≡ 0
    div-zero c q h = div-eq_of_lt h

-- a value whose noise does not pass rounds to its message
pub decrypt_is : (q t E : ℕ) (z m : ℤ) → 0 < q → 0 < t → 2 * E < q → size (q * t) (pos t *ℤ z -ℤ pos q *ℤ m) ≤ E → rem t (rounded q t z) ≡ rem t m
unfolding rounded
decrypt_is q t E z m hq ht hE s =
    let N = near_out (q * t) (pos t *ℤ z -ℤ pos q *ℤ m) E (omega (arith, mul-le-mul_left q ht)) s in
    let p : pos (q * t) ≡ pos q *ℤ pos t = refl in
    let c : ℕ = nat_abs (N.e +ℤ pos (q / 2)) in
    let ce : N.e +ℤ pos (q / 2) ≡ pos c = shift q N.e (omega (arith, N.small)) in
    let cl : c < q = below q N.e (omega (arith, N.small)) in
    let e : pos t *ℤ z +ℤ pos (q / 2) ≡ pos q *ℤ (m +ℤ pos t *ℤ N.same.by) +ℤ (N.e +ℤ pos (q / 2)) =
    rw (z_mul_add (pos q) m (pos t *ℤ N.same.by), ← (z_mul_assoc (pos q) (pos t) N.same.by)) (omega (arith, lines, N.same.is)) in
    rem_cong t (quo q (pos t *ℤ z +ℤ pos (q / 2))) m ht
    (record { by = N.same.by; is = ap (quo q) e ∙ quo_add q (m +ℤ pos t *ℤ N.same.by) (N.e +ℤ pos (q / 2)) hq ∙ rw (quo_small q (N.e +ℤ pos (q / 2)) c ce cl) (omega (arith, lines)) })
  where
    shift : (q : ℕ) (e : ℤ) → 2 * nat_abs e < q → e +ℤ pos (q / 2) ≡ pos (nat_abs (e +ℤ pos (q / 2)))
    shift q e h = omega (arith, lines, abs_is)

    below : (q : ℕ) (e : ℤ) → 2 * nat_abs e < q → nat_abs (e +ℤ pos (q / 2)) < q
    below q e h = omega (arith, lines, abs_is)
