-- The wide numbers while the parts of a product are joined.
use Prim.Native.Nat.{ℕ, ◌+◌, ◌-◌, ◌*◌, ◌^◌, ◌<◌, ◌≤◌}
use lib.IntN.{ℤ, pos, ◌+ℤ◌, ◌*ℤ◌, nat_abs}
use mathlib.Core.List.{List}
use mathlib.Core.Path.{◌≡◌, refl, ap, ◌∙◌}
use native.Mathlib.Omega.{arith}
use Rattle.heco_ring.proofs.Linear.{at-plus}
use Rattle.heco_ring.proofs.Sizes.{abs_add}
use Rattle.heco_ring.specs.Ring.{at, plus, table, times_at}
use Rattle.heco_transform.proofs.HalfLaws.{short}
use Rattle.heco_wide.specs.Limbs.{Limbs, AreImages, HasLimbs, HasLimbsOf, RoomFits, limb_part}
use Rattle.heco_wide.specs.inside.Wide.{int_at, FitsAll}
use Rattle.heco_wide.specs.declared.limbs.LimbImages.{LimbImages}
use Rattle.heco_wide.specs.declared.room.Room.{Room}
use Rattle.heco_wide.proofs.LimbLaws.{AreSmall, joined, joined_none, joined_small, joined_next, joined_plus, part_small, product_joined, at-first}

small_of : (depth : ℕ) (a : Limbs) (i : LimbImages) → AreImages depth a i → AreSmall (2 ^ depth) a
small_of depth a i h = record { low = h.low_small; middle = h.middle_small; high = h.high_small }

-- coefficient k of part j
abbrev pub part_at : ℕ → ℕ → Limbs → Limbs → ℕ → ℤ
part_at n k a b j = at (limb_part n j a b) k

-- ---- one product
pub record Joins (depth i : ℕ) (x y : LimbImages) (room : Room) : Type 0 where
  pub fits : RoomFits depth room
  pub value : (a b : Limbs) → AreImages depth a x → AreImages depth b y → (k : ℕ) → k < 2 ^ depth → int_at room.wide.items k ≡ joined (part_at (2 ^ depth) k a b) i

pub joins_none : (depth : ℕ) (x y : LimbImages) (room : Room) → RoomFits depth room → ((k : ℕ) → k < 2 ^ depth → int_at room.wide.items k ≡ pos 0) → Joins depth 0 x y room
joins_none depth x y room r h = record { fits = r; value = λ a b p q k l. joined_none (part_at (2 ^ depth) k a b) (int_at room.wide.items k) (h k l) }

part_six : (n k j : ℕ) (a b : Limbs) → n ≤ 1024 → AreSmall n a → AreSmall n b → k < n → nat_abs (part_at n k a b j) ≤ 6 * 2 ^ 48
part_six n k j a b h p q l = omega (arith, part_small n k j a b h p q l)

pub joins_small : (depth i : ℕ) (x y : LimbImages) (room : Room) → depth ≤ 10 → i < 5 → HasLimbs depth x → HasLimbs depth y → Joins depth i x y room → FitsAll (7 * 2 ^ 105) room.wide.items
joins_small depth i x y room d l hx hy h = λ k kl.
    let kn : k < 2 ^ depth = omega (arith, h.fits.wide) in
    rw (h.value hx.limbs hy.limbs hx.images hy.images k kn) (joined_small (part_at (2 ^ depth) k hx.limbs hy.limbs) i l (λ j. part_six (2 ^ depth) k j hx.limbs hy.limbs (short depth d) (small_of depth hx.limbs x hx.images) (small_of depth hy.limbs y hy.images) kn))

-- a sum that began with 0 and gained a part is small
pub first_small : (depth j k : ℕ) (a b : Limbs) (x y : LimbImages) → depth ≤ 10 → AreImages depth a x → AreImages depth b y → k < 2 ^ depth →
    nat_abs (at (plus (2 ^ depth) (table (2 ^ depth) (λ k. pos 0)) (limb_part (2 ^ depth) j a b)) k) ≤ 6 * 2 ^ 48
first_small depth j k a b x y d p q l = rw (at-first (2 ^ depth) k (limb_part (2 ^ depth) j a b) l) (part_six (2 ^ depth) k j a b (short depth d) (small_of depth a x p) (small_of depth b y q) l)

pub joins_next : (depth i : ℕ) (x y : LimbImages) (room new : Room) → RoomFits depth new → Joins depth i x y room →
    ((a b : Limbs) → AreImages depth a x → AreImages depth b y → (k : ℕ) → k < 2 ^ depth →
    int_at new.wide.items k ≡ int_at room.wide.items k *ℤ pos (2 ^ 19) +ℤ at (plus (2 ^ depth) (table (2 ^ depth) (λ k. pos 0)) (limb_part (2 ^ depth) (4 - i) a b)) k) → Joins depth (i + 1) x y new
joins_next depth i x y room new r h f = record {
  fits = r;
  value = λ a b p q k l. joined_next (part_at (2 ^ depth) k a b) i (int_at room.wide.items k) (at (plus (2 ^ depth) (table (2 ^ depth) (λ k. pos 0)) (limb_part (2 ^ depth) (4 - i) a b)) k) (int_at new.wide.items k)
      (h.value a b p q k l) (at-first (2 ^ depth) k (limb_part (2 ^ depth) (4 - i) a b) l) (f a b p q k l);
}

pub joins_all : (depth k : ℕ) (x y : LimbImages) (room : Room) (a b : List ℤ) → Joins depth 5 x y room → HasLimbsOf depth a x → HasLimbsOf depth b y → k < 2 ^ depth → int_at room.wide.items k ≡ times_at (2 ^ depth) a b k
joins_all depth k x y room a b h p q l = h.value p.limbs q.limbs p.images q.images k l ∙ product_joined (2 ^ depth) k a b p.limbs q.limbs p.add_up q.add_up l

-- ---- two products
abbrev pub both_at : ℕ → ℕ → Limbs → Limbs → Limbs → Limbs → ℕ → ℤ
both_at n k a b c d j = part_at n k a b j +ℤ part_at n k c d j

pub record JoinsBoth (depth i : ℕ) (x w y z : LimbImages) (room : Room) : Type 0 where
  pub fits : RoomFits depth room
  pub value : (a b c d : Limbs) → AreImages depth a x → AreImages depth b w → AreImages depth c y → AreImages depth d z → (k : ℕ) → k < 2 ^ depth → int_at room.wide.items k ≡ joined (both_at (2 ^ depth) k a b c d) i

pub both_none : (depth : ℕ) (x w y z : LimbImages) (room : Room) → RoomFits depth room → ((k : ℕ) → k < 2 ^ depth → int_at room.wide.items k ≡ pos 0) → JoinsBoth depth 0 x w y z room
both_none depth x w y z room r h = record { fits = r; value = λ a b c d p q s t k l. joined_none (both_at (2 ^ depth) k a b c d) (int_at room.wide.items k) (h k l) }

both_six : (n k j : ℕ) (a b c d : Limbs) → n ≤ 1024 → AreSmall n a → AreSmall n b → AreSmall n c → AreSmall n d → k < n → nat_abs (both_at n k a b c d j) ≤ 6 * 2 ^ 48
both_six n k j a b c d h p q r s l = omega (arith, abs_add (part_at n k a b j) (part_at n k c d j), part_small n k j a b h p q l, part_small n k j c d h r s l)

pub both_small : (depth i : ℕ) (x w y z : LimbImages) (room : Room) → depth ≤ 10 → i < 5 → HasLimbs depth x → HasLimbs depth w → HasLimbs depth y → HasLimbs depth z → JoinsBoth depth i x w y z room → FitsAll (7 * 2 ^ 105) room.wide.items
both_small depth i x w y z room d l hx hw hy hz h = λ k kl.
    let kn : k < 2 ^ depth = omega (arith, h.fits.wide) in
    rw (h.value hx.limbs hw.limbs hy.limbs hz.limbs hx.images hw.images hy.images hz.images k kn)
    (joined_small (both_at (2 ^ depth) k hx.limbs hw.limbs hy.limbs hz.limbs) i l (λ j. both_six (2 ^ depth) k j hx.limbs hw.limbs hy.limbs hz.limbs (short depth d)
    (small_of depth hx.limbs x hx.images) (small_of depth hw.limbs w hw.images) (small_of depth hy.limbs y hy.images) (small_of depth hz.limbs z hz.images) kn))

-- a sum that began with 0 and gained two parts
abbrev pub both_sum : ℕ → ℕ → Limbs → Limbs → Limbs → Limbs → List ℤ
both_sum n j a b c d = plus n (plus n (table n (λ k. pos 0)) (limb_part n j a b)) (limb_part n j c d)

at-both : (n j k : ℕ) (a b c d : Limbs) → k < n → at (both_sum n j a b c d) k ≡ both_at n k a b c d j
at-both n j k a b c d l = at-plus n (plus n (table n (λ k. pos 0)) (limb_part n j a b)) (limb_part n j c d) k l ∙ ap (λ (v : ℤ). v +ℤ at (limb_part n j c d) k) (at-first n k (limb_part n j a b) l)

pub sum_small : (depth j k : ℕ) (a b c d : Limbs) (x w y z : LimbImages) → depth ≤ 10 → AreImages depth a x → AreImages depth b w → AreImages depth c y → AreImages depth d z → k < 2 ^ depth →
    nat_abs (at (both_sum (2 ^ depth) j a b c d) k) ≤ 6 * 2 ^ 48
sum_small depth j k a b c d x w y z h p q r s l = rw (at-both (2 ^ depth) j k a b c d l) (both_six (2 ^ depth) k j a b c d (short depth h) (small_of depth a x p) (small_of depth b w q) (small_of depth c y r) (small_of depth d z s) l)

pub both_next : (depth i : ℕ) (x w y z : LimbImages) (room new : Room) → RoomFits depth new → JoinsBoth depth i x w y z room →
    ((a b c d : Limbs) → AreImages depth a x → AreImages depth b w → AreImages depth c y → AreImages depth d z → (k : ℕ) → k < 2 ^ depth →
    int_at new.wide.items k ≡ int_at room.wide.items k *ℤ pos (2 ^ 19) +ℤ at (both_sum (2 ^ depth) (4 - i) a b c d) k) → JoinsBoth depth (i + 1) x w y z new
both_next depth i x w y z room new r h f = record {
  fits = r;
  value = λ a b c d p q s t k l. joined_next (both_at (2 ^ depth) k a b c d) i (int_at room.wide.items k) (at (both_sum (2 ^ depth) (4 - i) a b c d) k) (int_at new.wide.items k)
      (h.value a b c d p q s t k l) (at-both (2 ^ depth) (4 - i) k a b c d l) (f a b c d p q s t k l);
}

pub both_all : (depth k : ℕ) (x w y z : LimbImages) (room : Room) (a b c d : List ℤ) → JoinsBoth depth 5 x w y z room → HasLimbsOf depth a x → HasLimbsOf depth b w → HasLimbsOf depth c y → HasLimbsOf depth d z → k < 2 ^ depth →
    int_at room.wide.items k ≡ times_at (2 ^ depth) a b k +ℤ times_at (2 ^ depth) c d k
both_all depth k x w y z room a b c d h p q r s l =
    h.value p.limbs q.limbs r.limbs s.limbs p.images q.images r.images s.images k l
    ∙ joined_plus (part_at (2 ^ depth) k p.limbs q.limbs) (part_at (2 ^ depth) k r.limbs s.limbs)
    ∙ rw (product_joined (2 ^ depth) k a b p.limbs q.limbs p.add_up q.add_up l, product_joined (2 ^ depth) k c d r.limbs s.limbs r.add_up s.add_up l) refl
