-- A loop that changes each place of a list once, and one that turns a list.
use Prim.Native.Nat.{ℕ, suc, ◌+◌, ◌*◌, ◌-◌, ◌%◌, ◌<◌, ◌≤◌, ◌^◌}
use native.Mathlib.Omega.{arith}
use native.Mathlib.Nat.{mod-eq_of_lt}
use mathlib.Core.Path.{◌≡◌, refl, sym, ap, ◌∙◌}
use mathlib.Core.Logic.{◌≢◌, inl, inr}
use mathlib.Core.List.{List}
use lib.IntN.{ℤ, pos, negsuc, ◌+ℤ◌, ◌-ℤ◌, ◌*ℤ◌, neg_ℤ}
use lib.ListN.{length, get_or, set}
use lib.Bits.{bit_and}
use Rattle.std.proofs.Common.{below_more}
use Rattle.std.proofs.lemmas.Nat.{mod_below}
use Rattle.std.proofs.lemmas.Bool.{cases_eq, cases_lt}
use Rattle.std.proofs.lemmas.List.{get_or-set_same, get_or-set_other}
use Rattle.heco_ring.proofs.Integers.{lines, z_mul_one, z_mul_zero, z_mul_minus}
use Rattle.heco_ring.proofs.Pairing.{sign_here, sign_past, sign_else}
use Rattle.heco_ring.proofs.Remainders.{cong_self, cong_add, cong_refl, rem_cong, rem_nat}
use Rattle.heco_ring.proofs.Wrapping.{mask_58, at-wholes}
use Rattle.heco_ring.specs.Remainders.{rem}
use Rattle.heco_ring.specs.Ring.{sum_z, at, sign, wholes, turn_at}

-- ---- one place
minus_is : (M x y : ℕ) → y ≤ M → pos (x + (M - y)) ≡ pos x -ℤ pos y +ℤ pos M *ℤ pos 1
minus_is M x y h = rw (z_mul_one (pos M)) (omega (arith, lines))

pub minus_mask : (x y : ℕ) → y < 2 ^ 64 → bit_and ((x + (2 ^ 64 - y)) % 2 ^ 64) (2 ^ 58 - 1) ≡ rem (2 ^ 58) (pos x -ℤ pos y)
minus_mask x y h = mask_58 ((x + (2 ^ 64 - y)) % 2 ^ 64) (pos x -ℤ pos y)
    (sym (rem_nat (2 ^ 64) (x + (2 ^ 64 - y))) ∙ rem_cong (2 ^ 64) (pos (x + (2 ^ 64 - y))) (pos x -ℤ pos y) (omega arith) (record { by = pos 1; is = minus_is (2 ^ 64) x y (omega arith) }))

pub plus_mask : (x : ℕ) → bit_and (x % 2 ^ 64) (2 ^ 58 - 1) ≡ rem (2 ^ 58) (pos x)
plus_mask x = mask_58 (x % 2 ^ 64) (pos x) (sym (rem_nat (2 ^ 64) x))

-- ---- each place once
-- the places below i are changed by f, the others stand
pub record Changed (n i : ℕ) (old new : List ℕ) (f : ℕ → ℕ → ℕ) : Type 0 where
  pub done : (k : ℕ) → k < i → get_or new k 0 ≡ f k (get_or old k 0)
  pub rest : (k : ℕ) → i ≤ k → k < n → get_or new k 0 ≡ get_or old k 0

pub changed_none : (n : ℕ) (old : List ℕ) (f : ℕ → ℕ → ℕ) → Changed n 0 old old f
changed_none n old f = record { done = λ k h. absurd (omega arith); rest = λ k g h. refl }

pub changed_more : (n i v : ℕ) (old new : List ℕ) (f : ℕ → ℕ → ℕ) → i < n → length new ≡ n → Changed n i old new f → v ≡ f i (get_or new i 0) → Changed n (i + 1) old (set new i v) f
changed_more n i v old new f h e c d =
    let inside : i < length new = omega arith in
    record {
      done = below_more _ _ (λ k l. let ne : k ≢ i = omega arith in rw get_or-set_other (c.done k l)) (rw get_or-set_same (d ∙ ap (f i) (c.rest i (omega arith) h)));
      rest = λ k g l. let ne : k ≢ i = omega arith in rw get_or-set_other (c.rest k (omega arith) l);
    }

pub changed_four : (n i : ℕ) (old new newer : List ℕ) (f : ℕ → ℕ → ℕ) → i + 4 ≤ n → Changed n i old new f →
    ((j : ℕ) → j < 4 → get_or newer (i + j) 0 ≡ f (i + j) (get_or new (i + j) 0)) → ((k : ℕ) → k < i → get_or newer k 0 ≡ get_or new k 0) →
    ((k : ℕ) → i + 4 ≤ k → get_or newer k 0 ≡ get_or new k 0) → Changed n (i + 4) old newer f
changed_four n i old new newer f room c lanes before after = record {
  done = λ k l. elim (cases_lt k i) [
    | inl lt ↦ before k lt ∙ c.done k lt
    | inr le ↦ (let e : i + (k - i) ≡ k = omega arith in
        rw e at (lanes (k - i) (omega arith)) ∙ ap (f k) (c.rest k le (omega arith)))
  ];
  rest = λ k g l. after k g ∙ c.rest k (omega arith) l;
}

-- ---- the turn
-- what the first i places have come to at place k
unfoldable pub turned : ℕ → List ℤ → ℕ → ℕ → ℕ → ℤ
turned n a g i k = sum_z i (λ j. at a j *ℤ sign n (j * g % (2 * n)) k)

pub turned_all : (n g k : ℕ) (a : List ℤ) → turned n a g n k ≡ turn_at n a g k
unfolding turned turn_at
turned_all n g k a = refl

turned_more : (n g i k : ℕ) (a : List ℤ) → turned n a g (i + 1) k ≡ turned n a g i k +ℤ at a i *ℤ sign n (i * g % (2 * n)) k
unfolding turned sum_z
turned_more n g i k a = let e : i + 1 ≡ suc i = omega arith in rw e refl

-- the places of out are what the first i have come to
pub record Turned (q n g i : ℕ) (a out : List ℕ) : Type 0 where
  pub each : (k : ℕ) → k < n → get_or out k 0 ≡ rem q (turned n (wholes a) g i k)

pub turned_none : (q n g : ℕ) (a out : List ℕ) → 0 < q → ((k : ℕ) → k < n → get_or out k 0 ≡ 0) → Turned q n g 0 a out
unfolding turned sum_z
turned_none q n g a out p h = record { each = λ k l. h k l ∙ sym (rem_nat q 0 ∙ mod-eq_of_lt p) }

onto : (q o v : ℕ) (z w : ℤ) → 0 < q → o ≡ rem q z → v ≡ rem q (pos o +ℤ w) → v ≡ rem q (z +ℤ w)
onto q o v z w h e f = f ∙ rw e (rem_cong q (pos (rem q z) +ℤ w) (z +ℤ w) h (cong_add q (pos (rem q z)) z w w (cong_self q z h) (cong_refl q w)))

still : (z x : ℤ) → z +ℤ x *ℤ pos 0 ≡ z
still z x = rw (z_mul_zero x) (omega (arith, lines))

pub turned_up : (q n g i v : ℕ) (a out : List ℕ) → 0 < q → length out ≡ n → i * g % (2 * n) < n → Turned q n g i a out →
    v ≡ rem q (pos (get_or out (i * g % (2 * n)) 0) +ℤ pos (get_or a i 0)) → Turned q n g (i + 1) a (set out (i * g % (2 * n)) v)
turned_up q n g i v a out p lo h t e = record {
  each = λ k kl. elim (cases_eq k (i * g % (2 * n))) [
    | inl d ↦ (let inside : i * g % (2 * n) < length out = omega arith in
        rw (d, get_or-set_same, turned_more n g i (i * g % (2 * n)) (wholes a), sign_here n (i * g % (2 * n)), z_mul_one (at (wholes a) i), at-wholes a i)
        (onto q (get_or out (i * g % (2 * n)) 0) v (turned n (wholes a) g i (i * g % (2 * n))) (pos (get_or a i 0)) p (t.each (i * g % (2 * n)) h) e))
    | inr ne ↦ rw (get_or-set_other, turned_more n g i k (wholes a), sign_else n (i * g % (2 * n)) k (omega arith) (omega arith), still (turned n (wholes a) g i k) (at (wholes a) i)) (t.each k kl)
  ];
}

pub turned_down : (q n g i v : ℕ) (a out : List ℕ) → 0 < q → 0 < n → length out ≡ n → n ≤ i * g % (2 * n) → Turned q n g i a out →
    v ≡ rem q (pos (get_or out (i * g % (2 * n) - n) 0) -ℤ pos (get_or a i 0)) → Turned q n g (i + 1) a (set out (i * g % (2 * n) - n) v)
turned_down q n g i v a out p np lo h t e =
    let m : ℕ = i * g % (2 * n) in
    let below : i * g % (2 * n) < 2 * n = mod_below (i * g) (2 * n) (omega arith) in
    let back : (i * g % (2 * n) - n) + n ≡ i * g % (2 * n) = omega arith in
    let there : i * g % (2 * n) - n < n = omega arith in
    let s : sign n (i * g % (2 * n)) (i * g % (2 * n) - n) ≡ negsuc 0 = rw back at (sign_past n (i * g % (2 * n) - n) np) in
    record {
      each = λ k kl. elim (cases_eq k (i * g % (2 * n) - n)) [
        | inl d ↦ (let inside : i * g % (2 * n) - n < length out = omega arith in
            rw (d, get_or-set_same, turned_more n g i (i * g % (2 * n) - n) (wholes a), s, z_mul_minus (at (wholes a) i), at-wholes a i)
            (onto q (get_or out (i * g % (2 * n) - n) 0) v (turned n (wholes a) g i (i * g % (2 * n) - n)) (neg_ℤ (pos (get_or a i 0))) p (t.each (i * g % (2 * n) - n) there) e))
        | inr ne ↦ rw (get_or-set_other, turned_more n g i k (wholes a), sign_else n (i * g % (2 * n)) k (omega arith) (omega arith), still (turned n (wholes a) g i k) (at (wholes a) i)) (t.each k kl)
      ];
    }
