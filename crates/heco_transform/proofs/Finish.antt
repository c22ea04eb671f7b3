-- From sums of products of images to the polynomial.
use Prim.Native.Nat.{ℕ, ◌+◌, ◌-◌, ◌*◌, ◌/◌, ◌^◌, ◌<◌, ◌≤◌}
use lib.IntN.{ℤ, pos, ◌+ℤ◌, ◌*ℤ◌, nat_abs}
use lib.ListN.{length, get_or}
use mathlib.Core.List.{List}
use mathlib.Core.Path.{◌≡◌, sym, ap, ◌∙◌}
use native.Mathlib.Nat.{one-le-pow, mul-le-mul_left}
use native.Mathlib.Omega.{arith}
use Rattle.std.proofs.Math.Nat.{mul-div_cancel_left}
use Rattle.std.proofs.lemmas.Nat.{pow-add}
use Rattle.heco_ring.proofs.Integers.{z_one_mul, z_mul_comm, z_mul_assoc}
use Rattle.heco_ring.proofs.Linear.{at-scale}
use Rattle.heco_ring.proofs.Reduced.{filled}
use Rattle.heco_ring.proofs.Remainders.{cong_add, cong_mul, cong_refl, cong_trans}
use Rattle.heco_ring.proofs.Wrapping.{at-wholes}
use Rattle.heco_ring.specs.Remainders.{Cong, Same, rem, reduced}
use Rattle.heco_ring.specs.Ring.{at, wholes, plus, scale, times}
use Rattle.heco_transform.specs.Modulus.{modulus}
use Rattle.heco_transform.specs.Values.{node, value_at, RootTree, Values}
use Rattle.heco_transform.proofs.Folds.{value_plus}
use Rattle.heco_transform.proofs.Steps.{product_value}

-- an image may be reduced
pub values_cong : (p m i : ℕ) (t : List ℕ) (a : List ℤ) (v w : List ℕ) → Values p m i t a v → ((k : ℕ) → k < m → Cong p (pos (get_or w k 0)) (pos (get_or v k 0))) → Values p m i t a w
values_cong p m i t a v w s c = record {
  each = λ k l. cong_trans p (pos (get_or w k 0)) (pos (get_or v k 0)) (value_at m a (node t (m * i + k))) (c k l) (s.each k l);
}

-- the image of a sum
pub values_gather : (p d : ℕ) (t : List ℕ) (s a b : List ℤ) (old v w new : List ℕ) → RootTree p t → length t ≡ 2 ^ d → Values p (2 ^ d) 1 t s old → Values p (2 ^ d) 1 t a v → Values p (2 ^ d) 1 t b w →
    ((k : ℕ) → k < 2 ^ d → get_or new k 0 ≡ get_or old k 0 + get_or v k 0 * get_or w k 0) → Values p (2 ^ d) 1 t (plus (2 ^ d) s (times (2 ^ d) a b)) new
values_gather p d t s a b old v w new r n f g h e = record {
  each = λ k l.
      let x : ℤ = node t (2 ^ d * 1 + k) in
      rw (e k l, value_plus (2 ^ d) s (times (2 ^ d) a b) x)
      (cong_add p (pos (get_or old k 0)) (value_at (2 ^ d) s x) (pos (get_or v k 0 * get_or w k 0)) (value_at (2 ^ d) (times (2 ^ d) a b) x) (f.each k l)
      (product_value p d k t a b v w r n g h l));
}

-- n times its inverse_of_n is 1
share_is : (d : ℕ) → d ≤ 10 → (modulus - 1) / 2 ^ d * 2 ^ d ≡ modulus - 1
share_is d h =
    let u : ℕ = 2 ^ (10 - d) * 8796076244992 in
    let e : d + (10 - d) ≡ 10 = omega arith in
    let p : 2 ^ d * 2 ^ (10 - d) ≡ 1024 = sym (pow-add 2 d (10 - d)) ∙ ap (λ (x : ℕ). 2 ^ x) e in
    let f : modulus - 1 ≡ 2 ^ d * (2 ^ (10 - d) * 8796076244992) = ap (λ (x : ℕ). x * 8796076244992) (sym p) ∙ omega arith in
    let g : 0 < 2 ^ d = one-le-pow d 2 (omega arith) in
    let q : (modulus - 1) / 2 ^ d ≡ 2 ^ (10 - d) * 8796076244992 = ap (λ (x : ℕ). x / 2 ^ d) f ∙ mul-div_cancel_left (2 ^ (10 - d) * 8796076244992) g in
    ap (λ (x : ℕ). x * 2 ^ d) q ∙ omega (arith, f)

pub share_cong : (d s : ℕ) → d ≤ 10 → s ≡ modulus - (modulus - 1) / 2 ^ d → Cong modulus (pos s *ℤ pos (2 ^ d)) (pos 1)
share_cong d s h e = inner (2 ^ d) ((modulus - 1) / 2 ^ d) s (one-le-pow d 2 (omega arith)) (share_is d h) e
  where
    up : (n a : ℕ) → 0 < n → a ≡ modulus * (n - 1) + 1 → pos a ≡ pos 1 +ℤ pos modulus *ℤ pos (n - 1)
    up n a g e = rw e (ap pos (omega arith))

    inner : (n q s : ℕ) → 0 < n → q * n ≡ modulus - 1 → s ≡ modulus - q → Cong modulus (pos s *ℤ pos n) (pos 1)
    inner n q s g f e =
        let l : q * 1 ≤ q * n = mul-le-mul_left q g in
        let se : s + q ≡ modulus = omega arith in
        let t : s * n + q * n ≡ modulus * n = rw (← se) (omega arith) in
        record { by = pos (n - 1); is = up n (s * n) g (omega arith) }

-- the whole numbers of the way back
pub finished : (n : ℕ) (a : List ℤ) (v out : List ℕ) (s : ℕ) → length out ≡ n → Same modulus n (wholes v) (scale n (pos n) a) → Cong modulus (pos s *ℤ pos n) (pos 1) →
    ((k : ℕ) → k < n → (z : ℤ) → Cong modulus (pos (get_or v k 0) *ℤ pos s) z → 2 * nat_abs z < modulus → get_or out k 0 ≡ rem (2 ^ 64) z) →
    ((k : ℕ) → k < n → 2 * nat_abs (at a k) < modulus) → out ≡ reduced (2 ^ 64) n a
finished n a v out s e c i f b = filled (2 ^ 64) n a out e (λ k l.
    let V : ℤ = pos (get_or v k 0) in
    let g : Cong modulus V (pos n *ℤ at a k) = rw (at-wholes v k, at-scale n (pos n) a k l) at (c.each k l) in
    let m : Cong modulus (pos s *ℤ V) (pos s *ℤ (pos n *ℤ at a k)) = cong_mul modulus (pos s) (pos s) V (pos n *ℤ at a k) (cong_refl modulus (pos s)) g in
    let o : Cong modulus (pos s *ℤ pos n *ℤ at a k) (pos 1 *ℤ at a k) = cong_mul modulus (pos s *ℤ pos n) (pos 1) (at a k) (at a k) i (cong_refl modulus (at a k)) in
    f k l (at a k) (rw (z_mul_comm V (pos s)) (cong_trans modulus (pos s *ℤ V) (pos s *ℤ (pos n *ℤ at a k)) (at a k) m
    (rw (z_mul_assoc (pos s) (pos n) (at a k), z_one_mul (at a k)) at o))) (b k l))
