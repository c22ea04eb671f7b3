use Rattle.std.proofs.Common.{◌≡◌, ℕ, zero, suc, ◌+◌, ◌-◌, ◌^◌, ◌<◌, refl, ap, sym, ◌∙◌, arith, true, false}
use Rattle.std.specs.Prelude.{nat_lt, nat_eq}
use Rattle.std.proofs.lemmas.Bool.{lt-ltb, le-ltb, eq-eqb, ne_eqb}
use Rattle.std.proofs.Math.Nat.{pow-suc}
use Rattle.std.proofs.Math.Pow.{pow_pos}
use Rattle.heco_written.specs.VectorTerm.{VectorTerm, Added, Turned}
use Rattle.heco_written.specs.Fold.{power, fold_within, fold}
use Rattle.heco_written.proofs.FoldSlots.{below_power}

module _ (v : VectorTerm) where
  one_bit_more : (b len : ℕ) → len < 2 ^ suc b → fold_within v (suc b) len ≡ fold_within v b len
  unfolding fold_within
  one_bit_more b len h = let t : nat_lt len (2 ^ suc b) ≡ true = lt-ltb _ _ h in rw t refl

  more_bits : (b d len : ℕ) → len < 2 ^ suc b → (fold_within v (b + d) len ≡ fold_within v b len) × (len < 2 ^ suc (b + d))
  more_bits b zero len h = let e : b + 0 ≡ b = omega arith in (ap (λ k. fold_within v k len) e, rw e h)
  more_bits b (suc d) len h =
      let e : b + suc d ≡ suc (b + d) = omega arith in
      let (r, l) = more_bits b d len h in (
        ap (λ k. fold_within v k len) e ∙ one_bit_more (b + d) len l ∙ r,
        rw e (omega (arith, pow-suc 2 (suc (b + d)), l)),
      )

  pub fold-within : (b len : ℕ) → len < 2 ^ suc b → fold v len ≡ fold_within v b len
  unfolding fold
  fold-within b len h =
      let e : len + b ≡ b + len = omega arith in
      sym ((more_bits len b len (below_power len)).0) ∙ ap (λ k. fold_within v k len) e ∙ (more_bits b len len h).0

  at_power : (b : ℕ) → fold_within v b (2 ^ b) ≡ power v b
  unfolding fold_within power
  at_power zero = refl
  at_power (suc b) =
      let f : nat_lt (2 ^ suc b) (2 ^ suc b) ≡ false = le-ltb _ _ (omega arith) in
      let t : nat_eq (2 ^ suc b) (2 ^ suc b) ≡ true = eq-eqb _ _ refl in
      rw (f, t) refl

  -- a power of two is one power
  pub fold-power : (b : ℕ) → fold v (2 ^ b) ≡ power v b
  fold-power b = let p : 0 < 2 ^ b = pow_pos b in fold-within b (2 ^ b) (omega (arith, pow-suc 2 b)) ∙ at_power b

  past_power : (b r : ℕ) → 0 < r → r < 2 ^ b → fold_within v b (2 ^ b + r) ≡ Added (power v b) (Turned (2 ^ b) (fold v r))
  unfolding fold_within
  past_power zero r h l = let bad : r < 1 = l in absurd (omega arith)
  past_power (suc b) r h l =
      let f : nat_lt (2 ^ suc b + r) (2 ^ suc b) ≡ false = le-ltb _ _ (omega arith) in
      let ne : nat_eq (2 ^ suc b + r) (2 ^ suc b) ≡ false = ne_eqb _ _ (λ e. omega arith) in
      let d : 2 ^ suc b + r - 2 ^ suc b ≡ r = omega arith in
      rw (f, ne, d, fold-within b r l) refl

  -- past its highest bit, the power and the fold of the rest beside it
  pub fold-past_power : (b r : ℕ) → 0 < r → r < 2 ^ b → fold v (2 ^ b + r) ≡ Added (power v b) (Turned (2 ^ b) (fold v r))
  fold-past_power b r h l = fold-within b (2 ^ b + r) (omega (arith, pow-suc 2 b)) ∙ past_power b r h l
