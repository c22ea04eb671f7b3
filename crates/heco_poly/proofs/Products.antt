-- The product by rows in words that wrap, and coefficient by coefficient.
use Prim.Native.Nat.{ℕ, ◌+◌, ◌*◌, ◌-◌, ◌/◌, ◌%◌, ◌<◌, ◌≤◌, ◌^◌}
use native.Mathlib.Omega.{arith}
use mathlib.Core.Path.{◌≡◌, sym, ap, ◌∙◌}
use mathlib.Core.Logic.{inl, inr}
use mathlib.Core.List.{List, ◌++◌}
use lib.IntN.{ℤ, pos, ◌+ℤ◌, ◌*ℤ◌, neg_ℤ}
use lib.ListN.{length, get_or, take, drop}
use Rattle.std.proofs.lemmas.Bool.{cases_lt}
use Rattle.std.proofs.lemmas.List.{get_or-drop, get_or-take, get_or_append_left, get_or-append_right}
use Rattle.heco_ring.specs.Remainders.{Cong, rem, reduced}
use Rattle.heco_ring.specs.Ring.{at, wholes, times}
use Rattle.heco_ring.specs.Rows.{shift_at, rows_at}
use Rattle.heco_ring.proofs.Integers.{lines, z_neg_mul, z_mul_neg}
use Rattle.heco_ring.proofs.Linear.{at-times}
use Rattle.heco_ring.proofs.Reduced.{filled}
use Rattle.heco_ring.proofs.Remainders.{cong_add, cong_mul, cong_neg, cong_refl, cong_self, cong_trans, cong_eq, rem_cong, rem_nat}
use Rattle.heco_ring.proofs.Rows.{shift_high, shift_low, rows_none, rows_more, rows_skip, rows_all}
use Rattle.heco_ring.proofs.Wrapping.{at-wholes, cong_lower}

-- ---- one row
opposite : (x c y : ℕ) → y ≡ x + c → pos x ≡ neg_ℤ (pos c) +ℤ pos y
opposite x c y e = omega (arith, lines, e)

negative : (M c neg : ℕ) → (neg + c) % M ≡ 0 → Cong M (pos neg) (neg_ℤ (pos c))
negative M c neg e = record { by = pos ((neg + c) / M); is = opposite neg c (M * ((neg + c) / M)) (omega (arith, e)) }

negative_times : (M c neg y : ℕ) → (neg + c) % M ≡ 0 → Cong M (pos neg *ℤ pos y) (pos c *ℤ neg_ℤ (pos y))
negative_times M c neg y e = cong_trans M (pos neg *ℤ pos y) (neg_ℤ (pos c) *ℤ pos y) (pos c *ℤ neg_ℤ (pos y))
    (cong_mul M (pos neg) (neg_ℤ (pos c)) (pos y) (pos y) (negative M c neg e) (cong_refl M (pos y)))
    (cong_eq M (neg_ℤ (pos c) *ℤ pos y) (pos c *ℤ neg_ℤ (pos y)) (z_neg_mul (pos c) (pos y) ∙ sym (z_mul_neg (pos c) (pos y))))

-- out and b have n places, and the two parts of out have gained what they should
module _ (out b low high : List ℕ) (c neg i n : ℕ) (lo : length out ≡ n) (lb : length b ≡ n) (room : i < n)
    (turned : (neg + c) % 2 ^ 64 ≡ 0) (ll : length low ≡ i)
    (hh : (j : ℕ) → j < n - i → get_or high j 0 ≡ (get_or (drop i out) j 0 + c * get_or (take (n - i) b) j 0) % 2 ^ 64)
    (hl : (j : ℕ) → j < i → get_or low j 0 ≡ (get_or (take i out) j 0 + neg * get_or (take (length b - (n - i)) (drop (n - i) b)) j 0) % 2 ^ 64) where
  row_high : (k : ℕ) → k < n → i ≤ k → get_or (low ++ high) k 0 ≡ rem (2 ^ 64) (pos (get_or out k 0) +ℤ pos c *ℤ shift_at n (wholes b) i k)
  row_high k h le =
      let j : ℕ = k - i in
      let ek : i + j ≡ k = omega arith in
      let small : j < n - i = omega arith in
      get_or-append_right low high i k 0 ll le
      ∙ hh j small
      ∙ ap (λ x. (x + c * get_or (take (n - i) b) j 0) % 2 ^ 64) (get_or-drop i out j 0 ∙ ap (λ m. get_or out m 0) ek)
      ∙ ap (λ x. (get_or out k 0 + c * x) % 2 ^ 64) (get_or-take (n - i) b j 0 small)
      ∙ sym (rem_nat (2 ^ 64) (get_or out k 0 + c * get_or b j 0))
      ∙ ap (λ (x : ℤ). rem (2 ^ 64) (pos (get_or out k 0) +ℤ pos c *ℤ x)) (sym (shift_high n i k (wholes b) le h ∙ at-wholes b j))

  row_low : (k : ℕ) → k < i → get_or (low ++ high) k 0 ≡ rem (2 ^ 64) (pos (get_or out k 0) +ℤ pos c *ℤ shift_at n (wholes b) i k)
  row_low k lt =
      let within : k < length low = omega arith in
      let e : (n - i) + k ≡ k + (n - i) = omega arith in
      let inside : k < length b - (n - i) = omega arith in
      let o : ℕ = get_or out k 0 in
      let y : ℕ = get_or b (k + (n - i)) 0 in
      let there : get_or (take (length b - (n - i)) (drop (n - i) b)) k 0 ≡ y =
      get_or-take (length b - (n - i)) (drop (n - i) b) k 0 inside ∙ get_or-drop (n - i) b k 0 ∙ ap (λ m. get_or b m 0) e in
      get_or_append_left low high 0 k within
      ∙ hl k lt
      ∙ ap (λ x. (x + neg * get_or (take (length b - (n - i)) (drop (n - i) b)) k 0) % 2 ^ 64) (get_or-take i out k 0 lt)
      ∙ ap (λ x. (o + neg * x) % 2 ^ 64) there
      ∙ sym (rem_nat (2 ^ 64) (o + neg * y))
      ∙ rem_cong (2 ^ 64) (pos o +ℤ pos neg *ℤ pos y) (pos o +ℤ pos c *ℤ neg_ℤ (pos y)) (omega arith) (cong_add (2 ^ 64) (pos o) (pos o) (pos neg *ℤ pos y) (pos c *ℤ neg_ℤ (pos y)) (cong_refl (2 ^ 64) (pos o)) (negative_times (2 ^ 64) c neg y turned))
      ∙ ap (λ (x : ℤ). rem (2 ^ 64) (pos o +ℤ pos c *ℤ x)) (sym (shift_low n i k (wholes b) lt room ∙ ap neg_ℤ (at-wholes b (k + (n - i)))))

  pub row_each : (k : ℕ) → k < n → get_or (low ++ high) k 0 ≡ rem (2 ^ 64) (pos (get_or out k 0) +ℤ pos c *ℤ shift_at n (wholes b) i k)
  row_each k h = elim (cases_lt k i) [
    | inl lt ↦ row_low k lt
    | inr le ↦ row_high k h le
  ]

-- ---- the rows
-- the places of out agree with what the first i rows come to
pub record Gathered (n i : ℕ) (A B : List ℤ) (out : List ℕ) : Type 0 where
  pub each : (k : ℕ) → k < n → Cong (2 ^ 58) (pos (get_or out k 0)) (rows_at n A B i k)

pub gathered_none : (n : ℕ) (A B : List ℤ) (out : List ℕ) → ((k : ℕ) → k < n → get_or out k 0 ≡ 0) → Gathered n 0 A B out
gathered_none n A B out h = record { each = λ k l. rw (h k l, rows_none n k A B) (cong_refl (2 ^ 58) (pos 0)) }

pub gathered_more : (n i c : ℕ) (A B : List ℤ) (out new : List ℕ) → Cong (2 ^ 58) (pos c) (at A i) → Gathered n i A B out →
    ((k : ℕ) → k < n → get_or new k 0 ≡ rem (2 ^ 64) (pos (get_or out k 0) +ℤ pos c *ℤ shift_at n B i k)) → Gathered n (i + 1) A B new
gathered_more n i c A B out new hc g h = record {
  each = λ k l.
      let S : ℤ = shift_at n B i k in
      let X : ℤ = pos (get_or out k 0) +ℤ pos c *ℤ S in
      rw (h k l, rows_more n i k A B) (cong_trans (2 ^ 58) (pos (rem (2 ^ 64) X)) X (rows_at n A B i k +ℤ at A i *ℤ S)
      (cong_lower (2 ^ 58) 64 (pos (rem (2 ^ 64) X)) X (cong_self (2 ^ 64) X (omega arith)))
      (cong_add (2 ^ 58) (pos (get_or out k 0)) (rows_at n A B i k) (pos c *ℤ S) (at A i *ℤ S) (g.each k l) (cong_mul (2 ^ 58) (pos c) (at A i) S S hc (cong_refl (2 ^ 58) S))));
}

pub gathered_skip : (n i : ℕ) (A B : List ℤ) (out : List ℕ) → at A i ≡ pos 0 → Gathered n i A B out → Gathered n (i + 1) A B out
gathered_skip n i A B out z g = record { each = λ k l. rw (rows_skip n i k A B z) (g.each k l) }

pub gathered_all : (n : ℕ) (A B : List ℤ) (out new : List ℕ) → length new ≡ n → Gathered n n A B out → ((k : ℕ) → k < n → get_or new k 0 ≡ get_or out k 0 % 2 ^ 58) → new ≡ reduced (2 ^ 58) n (times n A B)
gathered_all n A B out new e g h = filled (2 ^ 58) n (times n A B) new e (λ k l.
    h k l ∙ sym (rem_nat (2 ^ 58) (get_or out k 0)) ∙ rem_cong (2 ^ 58) (pos (get_or out k 0)) (rows_at n A B n k) (omega arith) (g.each k l) ∙ ap (rem (2 ^ 58)) (rows_all n k A B ∙ sym (at-times n A B k l)))

-- ---- one coefficient
pub coefficient_none : (n k : ℕ) (A B : List ℤ) → 0 ≡ rem (2 ^ 58) (rows_at n A B 0 k)
coefficient_none n k A B = rw (rows_none n k A B) (sym (rem_nat (2 ^ 58) 0))

pub coefficient_up : (n i k s p v : ℕ) (a b : List ℕ) → i ≤ k → k < n → s ≡ rem (2 ^ 58) (rows_at n (wholes a) (wholes b) i k) →
    p ≡ rem (2 ^ 58) (pos (get_or a i 0) *ℤ pos (get_or b (k - i) 0)) → v ≡ rem (2 ^ 58) (pos s +ℤ pos p) → v ≡ rem (2 ^ 58) (rows_at n (wholes a) (wholes b) (i + 1) k)
coefficient_up n i k s p v a b le h es ep ev =
    let R : ℤ = rows_at n (wholes a) (wholes b) i k in
    let T : ℤ = pos (get_or a i 0) *ℤ pos (get_or b (k - i) 0) in
    ev ∙ rw (es, ep, rows_more n i k (wholes a) (wholes b), shift_high n i k (wholes b) le h, at-wholes a i, at-wholes b (k - i))
    (rem_cong (2 ^ 58) (pos (rem (2 ^ 58) R) +ℤ pos (rem (2 ^ 58) T)) (R +ℤ T) (omega arith) (cong_add (2 ^ 58) (pos (rem (2 ^ 58) R)) R (pos (rem (2 ^ 58) T)) T (cong_self (2 ^ 58) R (omega arith)) (cong_self (2 ^ 58) T (omega arith))))

pub coefficient_down : (n i k s p v : ℕ) (a b : List ℕ) → k < i → i < n → s ≡ rem (2 ^ 58) (rows_at n (wholes a) (wholes b) i k) →
    p ≡ rem (2 ^ 58) (pos (get_or a i 0) *ℤ pos (get_or b (k + (n - i)) 0)) → v ≡ rem (2 ^ 58) (pos s +ℤ neg_ℤ (pos p)) → v ≡ rem (2 ^ 58) (rows_at n (wholes a) (wholes b) (i + 1) k)
coefficient_down n i k s p v a b lt h es ep ev =
    let R : ℤ = rows_at n (wholes a) (wholes b) i k in
    let x : ℤ = pos (get_or a i 0) in
    let y : ℤ = pos (get_or b (k + (n - i)) 0) in
    ev ∙ rw (es, ep, rows_more n i k (wholes a) (wholes b), shift_low n i k (wholes b) lt h, at-wholes a i, at-wholes b (k + (n - i)), z_mul_neg x y)
    (rem_cong (2 ^ 58) (pos (rem (2 ^ 58) R) +ℤ neg_ℤ (pos (rem (2 ^ 58) (x *ℤ y)))) (R +ℤ neg_ℤ (x *ℤ y)) (omega arith) (cong_add (2 ^ 58) (pos (rem (2 ^ 58) R)) R (neg_ℤ (pos (rem (2 ^ 58) (x *ℤ y)))) (neg_ℤ (x *ℤ y)) (cong_self (2 ^ 58) R (omega arith)) (cong_neg (2 ^ 58) (pos (rem (2 ^ 58) (x *ℤ y))) (x *ℤ y) (cong_self (2 ^ 58) (x *ℤ y) (omega arith)))))
