use Rattle.std.proofs.Common.{◌≡◌, ℕ, zero, suc, ◌+◌, ◌-◌, ◌%◌, ◌<◌, refl, ap, sym, ◌∙◌, arith}
use Rattle.std.proofs.Math.Nat.{mod-lt, mod-eq_of_lt, add-mod-mod, mod-add-mod, add-mod_right}
use Rattle.heco_written.specs.World.{World}
use Rattle.heco_written.specs.ScalarTerm.{ScalarTerm, Number, Element, Sum, Product, Negation, scalar_value}
use Rattle.heco_written.specs.VectorTerm.{VectorTerm, Input, Negated, Added, Multiplied, Scaled, Shifted, Turned, turned_by, slot_value}

pub sum-mod-mod : (a b m : ℕ) → (a % m + b % m) % m ≡ (a + b) % m
sum-mod-mod a b m = add-mod-mod (a % m) b m ∙ mod-add-mod a m b

pub slot_value-lt : (w : World) (v : VectorTerm) (j : ℕ) → 0 < w.modulus → slot_value w v j < w.modulus
slot_value-lt w (Input a) j h = mod-lt _ h
slot_value-lt w (Negated v) j h = mod-lt _ h
slot_value-lt w (Added v u) j h = mod-lt _ h
slot_value-lt w (Multiplied v u) j h = mod-lt _ h
slot_value-lt w (Scaled c v) j h = mod-lt _ h
slot_value-lt w (Shifted c v) j h = mod-lt _ h
slot_value-lt w (Turned r v) j h = slot_value-lt w v _ h

pub scalar_value-lt : (w : World) (x : ScalarTerm) → 0 < w.modulus → scalar_value w x < w.modulus
scalar_value-lt w (Number c) h = mod-lt _ h
scalar_value-lt w (Element a i) h = mod-lt _ h
scalar_value-lt w (Sum x y) h = mod-lt _ h
scalar_value-lt w (Product x y) h = mod-lt _ h
scalar_value-lt w (Negation x) h = mod-lt _ h

pub slot_value-turned_by : (w : World) (r : ℕ) (v : VectorTerm) (j : ℕ) → j < w.slots
    → slot_value w (turned_by r v) j ≡ slot_value w v ((j + r) % w.slots)
slot_value-turned_by w zero v j h =
    let e : j + 0 ≡ j = omega arith in
    ap (slot_value w v) (sym (ap (λ k. k % w.slots) e ∙ mod-eq_of_lt h))
slot_value-turned_by w (suc r) v j h = refl

-- a slot and the distance to another give that other
pub distance_reaches : (n p q : ℕ) → p < n → q < n → (p + (q + (n - p)) % n) % n ≡ q
distance_reaches n p q hp hq =
    let e : p + (q + (n - p)) ≡ q + n = omega arith in
    add-mod-mod p (q + (n - p)) n ∙ ap (λ k. k % n) e ∙ add-mod_right q n ∙ mod-eq_of_lt hq
