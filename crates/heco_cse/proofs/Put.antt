use Rattle.std.proofs.Common.{◌≡◌, ℕ, ◌+◌, List, [], ◌∷◌, ◌++◌, arith, length, Bool, true, false, cond, ◌⊎◌, inl, inr, ◌<◌, ◌≤◌, ◌^◌, length-append}
use Rattle.std.specs.List.{list_any}
use Rattle.indexmap.specs.IndexSet.{insert_key}
use Rattle.heco_ir.specs.Values.{all_below, all_earlier}
use Rattle.heco_ir.proofs.Earlier.{earlier_append}

pub earlier_insert : {K : Type 0} (eq : K → K → Bool) (ops : K → List ℕ) (ks : List K) (k : K)
    → all_earlier ops 0 ks ≡ true → all_below (length ks) (ops k) ≡ true → all_earlier ops 0 (insert_key eq ks k) ≡ true
earlier_insert eq ops ks k h b = by (list_any (eq k) ks)
  where
    by : (t : Bool) → all_earlier ops 0 (cond t ks (ks ++ k ∷ [])) ≡ true
    by true = h
    by false = earlier_append ops 0 ks k h (let z : 0 + length ks ≡ length ks = omega arith in rw z b)

pub adds_insert : {K : Type 0} (eq : K → K → Bool) (ks new : List K) (k : K) → new ≡ insert_key eq ks k → (new ≡ ks) ⊎ (new ≡ ks ++ k ∷ [])
adds_insert eq ks new k e = by (list_any (eq k) ks) e
  where
    by : (t : Bool) → new ≡ cond t ks (ks ++ k ∷ []) → (new ≡ ks) ⊎ (new ≡ ks ++ k ∷ [])
    by true f = inl f
    by false f = inr f

pub room_insert : {K : Type 0} (eq : K → K → Bool) (ks : List K) (k : K) → length ks < 2 ^ 26 → length (insert_key eq ks k) ≤ 2 ^ 26
room_insert eq ks k h = by (list_any (eq k) ks)
  where
    by : (t : Bool) → length (cond t ks (ks ++ k ∷ [])) ≤ 2 ^ 26
    by true = omega arith
    by false = omega (arith, length-append ks (k ∷ []))
