-- Some bits of each word.
use Prim.Native.Nat.{ℕ, ◌+◌, ◌-◌, ◌*◌, ◌/◌, ◌%◌, ◌^◌, ◌<◌, ◌≤◌}
use lib.Bits.{bit_and}
use lib.ListN.{length, get_or, set}
use mathlib.Core.List.{List}
use mathlib.Core.Logic.{◌≢◌}
use mathlib.Core.Path.{◌≡◌, sym, ◌∙◌}
use native.Mathlib.Nat.{mod-eq_of_lt, mod-lt, one-le-pow}
use native.Mathlib.Omega.{arith}
use Rattle.std.proofs.Common.{below_more}
use Rattle.std.proofs.Math.Nat.{pow-le-pow_right}
use Rattle.std.proofs.lemmas.List.{ext_get_or, get_or-map, length-map, get_or-set_same, get_or-set_other}
use Rattle.std.proofs.lemmas.Nat.{and_mask}
use Rattle.heco_transform.specs.Images.{bit_fields}

power_52 : (b : ℕ) → b ≤ 52 → 2 ^ b ≤ 2 ^ 52
power_52 b h = let two : 0 < 2 = omega arith in pow-le-pow_right two h

pub part_is : (x b : ℕ) → b ≤ 52 → bit_and x (1 * 2 ^ b % 2 ^ 64 - 1) ≡ x % 2 ^ b
part_is x b h =
    let e : 1 * 2 ^ b ≡ 2 ^ b = omega arith in
    let d : 2 ^ b % 2 ^ 64 ≡ 2 ^ b = mod-eq_of_lt (omega (arith, power_52 b h)) in
    rw (e, d) (and_mask x b)

pub length-bit_fields : (s b : ℕ) (a : List ℕ) → length (bit_fields s b a) ≡ length a
unfolding bit_fields
length-bit_fields s b a = search (length-map)

pub parts_at : (s b k : ℕ) (a : List ℕ) → k < length a → get_or (bit_fields s b a) k 0 ≡ get_or a k 0 / 2 ^ s % 2 ^ b
unfolding bit_fields
parts_at s b k a h = get_or-map (λ x. x / 2 ^ s % 2 ^ b) a k 0 0 h

pub parts_below : (s b k : ℕ) (a : List ℕ) → k < length a → get_or (bit_fields s b a) k 0 < 2 ^ b
parts_below s b k a h = rw (parts_at s b k a h) (mod-lt (get_or a k 0 / 2 ^ s) (one-le-pow b 2 (omega arith)))

-- the first i places are bit_fields
pub record Parted (i s b : ℕ) (a out : List ℕ) : Type 0 where
  pub each : (k : ℕ) → k < i → get_or out k 0 ≡ get_or a k 0 / 2 ^ s % 2 ^ b

pub parted_more : (i s b v : ℕ) (a out : List ℕ) → i < length out → Parted i s b a out → v ≡ get_or a i 0 / 2 ^ s % 2 ^ b → Parted (i + 1) s b a (set out i v)
parted_more i s b v a out h p e = record {
  each = below_more _ _ (λ k l. let ne : k ≢ i = omega arith in rw get_or-set_other (p.each k l)) (rw get_or-set_same e);
}

pub parted_all : (s b : ℕ) (a out : List ℕ) → length out ≡ length a → Parted (length out) s b a out → out ≡ bit_fields s b a
parted_all s b a out n p = ext_get_or 0 out (bit_fields s b a) (n ∙ sym (length-bit_fields s b a)) (λ k l. p.each k l ∙ sym (parts_at s b k a (omega arith)))

pub parted_below : (s b : ℕ) (a out : List ℕ) → b ≤ 52 → length out ≡ length a → Parted (length out) s b a out → (k : ℕ) → k < length out → get_or out k 0 < 2 ^ 52
parted_below s b a out h n p k l = let e = p.each k l in let f = mod-lt (get_or a k 0 / 2 ^ s) (one-le-pow b 2 (omega arith)) in omega (arith, e, f, power_52 b h)
