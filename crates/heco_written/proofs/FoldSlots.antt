use Rattle.std.proofs.Common.{◌≡◌, ℕ, zero, suc, ◌+◌, ◌-◌, ◌%◌, ◌^◌, ◌<◌, ◌≤◌, ◌≢◌, lit<, refl, ap, sym, ◌∙◌, arith, Bool, true, false, cond}
use Rattle.std.specs.Prelude.{nat_lt, nat_eq}
use Rattle.std.proofs.lemmas.Bool.{ltb-true, ltb-false, eqb-true, eqb-false}
use Rattle.std.proofs.Math.Nat.{mod-lt, mod-eq_of_lt, mod-add-mod, pow-suc}
use Rattle.heco_written.specs.World.{World}
use Rattle.heco_written.specs.VectorTerm.{VectorTerm, Added, Turned, slot_value}
use Rattle.heco_written.specs.Fold.{power, fold_within, fold}
use Rattle.heco_written.proofs.SlotValues.{sum-mod-mod, slot_value-lt}

-- the sum of the first values of f
abbrev pub sum_below : ℕ → (ℕ → ℕ) → ℕ
sum_below zero f = 0
sum_below (suc n) f = sum_below n f + f n

pub sum_below-same : (n : ℕ) (f g : ℕ → ℕ) → ((k : ℕ) → k < n → f k ≡ g k) → sum_below n f ≡ sum_below n g
sum_below-same zero f g h = refl
sum_below-same (suc n) f g h = rw (sum_below-same n f g (λ k l. h k (omega arith)), h n (omega arith)) refl

pub sum_below-add : (m n : ℕ) (f : ℕ → ℕ) → sum_below (m + n) f ≡ sum_below m f + sum_below n (λ k. f (m + k))
sum_below-add m zero f = let e : m + 0 ≡ m = omega arith in rw e (omega arith)
sum_below-add m (suc n) f =
    let e : m + suc n ≡ suc (m + n) = omega arith in
    let r : sum_below (m + n) f ≡ sum_below m f + sum_below n (λ k. f (m + k)) = sum_below-add m n f in
    rw e (omega (arith, r))

-- the sum of n consecutive slots from j on, round the end
abbrev pub slots_sum : World → VectorTerm → ℕ → ℕ → ℕ
slots_sum w v j n = sum_below n (λ k. slot_value w v ((j + k) % w.slots))

pub slots_sum-add : (w : World) (v : VectorTerm) (j m n : ℕ)
    → slots_sum w v j (m + n) ≡ slots_sum w v j m + slots_sum w v ((j + m) % w.slots) n
slots_sum-add w v j m n =
    sum_below-add m n (λ k. slot_value w v ((j + k) % w.slots))
    ∙ ap (λ s. slots_sum w v j m + s)
    (sum_below-same n (λ k. slot_value w v ((j + (m + k)) % w.slots)) (λ k. slot_value w v (((j + m) % w.slots + k) % w.slots))
    (λ k l. ap (slot_value w v)
    (let e : j + (m + k) ≡ (j + m) + k = omega arith in ap (λ i. i % w.slots) e ∙ sym (mod-add-mod (j + m) w.slots k))))

pub slots_sum-one : (w : World) (v : VectorTerm) (j : ℕ) → j < w.slots → slots_sum w v j 1 ≡ slot_value w v j
slots_sum-one w v j h =
    let e : j + 0 ≡ j = omega arith in
    let f : (j + 0) % w.slots ≡ j = ap (λ k. k % w.slots) e ∙ mod-eq_of_lt h in
    ap (λ k. 0 + slot_value w v k) f ∙ omega arith

pub below_power : (n : ℕ) → n < 2 ^ suc n
below_power zero = lit< tt
below_power (suc n) = let r : n < 2 ^ suc n = below_power n in omega (arith, pow-suc 2 (suc n))

module _ (w : World) (v : VectorTerm) (some : 0 < w.modulus) (room : 0 < w.slots) where
  one_slot : (j : ℕ) → j < w.slots → slot_value w v j ≡ slots_sum w v j 1 % w.modulus
  one_slot j h = sym (ap (λ s. s % w.modulus) (slots_sum-one w v j h) ∙ mod-eq_of_lt (slot_value-lt w v j some))

  -- two vectors that hold consecutive sums, added with a turn
  joined : (p q : VectorTerm) (m n j : ℕ)
      → ((i : ℕ) → i < w.slots → slot_value w p i ≡ slots_sum w v i m % w.modulus)
      → ((i : ℕ) → i < w.slots → slot_value w q i ≡ slots_sum w v i n % w.modulus)
      → j < w.slots → slot_value w (Added p (Turned m q)) j ≡ slots_sum w v j (m + n) % w.modulus
  joined p q m n j hp hq h =
      rw (hp j h, hq ((j + m) % w.slots) (mod-lt _ room), slots_sum-add w v j m n) (sum-mod-mod _ _ _)

  pub slot_value-power : (b j : ℕ) → j < w.slots → slot_value w (power v b) j ≡ slots_sum w v j (2 ^ b) % w.modulus
  unfolding power
  slot_value-power zero j h = one_slot j h
  slot_value-power (suc b) j h =
      let e : 2 ^ suc b ≡ 2 ^ b + 2 ^ b = omega (arith, pow-suc 2 b) in
      rw e (joined (power v b) (power v b) (2 ^ b) (2 ^ b) j (slot_value-power b) (slot_value-power b) h)

  -- what the rest of a length gives for the whole
  fold_step : (b len j : ℕ) → 0 < len → len < 2 ^ suc (suc b) → j < w.slots
      → ((n i : ℕ) → 0 < n → n < 2 ^ suc b → i < w.slots → slot_value w (fold_within v b n) i ≡ slots_sum w v i n % w.modulus)
      → slot_value w (fold_within v (suc b) len) j ≡ slots_sum w v j len % w.modulus
  unfolding fold_within
  fold_step b len j hl hb h rest = less (nat_lt len (2 ^ suc b)) refl
    where
      double : 2 ^ suc (suc b) ≡ 2 ^ suc b + 2 ^ suc b
      double = omega (arith, pow-suc 2 (suc b))

      equal : (t : Bool) → nat_eq len (2 ^ suc b) ≡ t → 2 ^ suc b ≤ len
          → slot_value w (cond t (power v (suc b)) (Added (power v (suc b)) (Turned (2 ^ suc b) (fold_within v b (len - 2 ^ suc b))))) j ≡ slots_sum w v j len % w.modulus
      equal true q le = let l : len ≡ 2 ^ suc b = eqb-true _ _ q in rw l (slot_value-power (suc b) j h)
      equal false q le =
          let ne : len ≢ 2 ^ suc b = eqb-false _ _ q in
          let lt : 2 ^ suc b < len = omega arith in
          let s : 2 ^ suc b + (len - 2 ^ suc b) ≡ len = omega arith in
          joined (power v (suc b)) (fold_within v b (len - 2 ^ suc b)) (2 ^ suc b) (len - 2 ^ suc b) j (slot_value-power (suc b)) (λ i l. rest (len - 2 ^ suc b) i (omega arith) (omega (arith, double)) l) h
          ∙ ap (λ k. slots_sum w v j k % w.modulus) s

      less : (t : Bool) → nat_lt len (2 ^ suc b) ≡ t
          → slot_value w (cond t (fold_within v b len) (cond (nat_eq len (2 ^ suc b)) (power v (suc b)) (Added (power v (suc b)) (Turned (2 ^ suc b) (fold_within v b (len - 2 ^ suc b)))))) j ≡ slots_sum w v j len % w.modulus
      less true q = rest len j hl (ltb-true _ _ q) h
      less false q = equal (nat_eq len (2 ^ suc b)) refl (ltb-false _ _ q)

  pub slot_value-fold_within : (b len j : ℕ) → 0 < len → len < 2 ^ suc b → j < w.slots
      → slot_value w (fold_within v b len) j ≡ slots_sum w v j len % w.modulus
  unfolding fold_within
  slot_value-fold_within zero len j hl hb h = let e : len ≡ 1 = omega arith in rw e (one_slot j h)
  slot_value-fold_within (suc b) len j hl hb h = fold_step b len j hl hb h (λ n i. slot_value-fold_within b n i)

  pub slot_value-fold : (len j : ℕ) → 0 < len → j < w.slots → slot_value w (fold v len) j ≡ slots_sum w v j len % w.modulus
  unfolding fold
  slot_value-fold len j hl h = slot_value-fold_within len len j hl (below_power len) h
