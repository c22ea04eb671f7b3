use Rattle.std.proofs.Common.{◌≡◌, ℕ, suc, ◌+◌, List, [], ◌∷◌, ◌++◌, refl, arith, length, Bool, true, false, cond}
use Rattle.heco_ir.specs.Values.{all_below, all_earlier}
use Rattle.heco_ir.proofs.Built.{both, left, right}

pub earlier_append : {N : Type 0} (ops : N → List ℕ) (i : ℕ) (xs : List N) (n : N)
    → all_earlier ops i xs ≡ true → all_below (i + length xs) (ops n) ≡ true → all_earlier ops i (xs ++ n ∷ []) ≡ true
earlier_append ops i [] n h b = both _ _ (let e : i + 0 ≡ i = omega arith in rw e at b) refl
earlier_append ops i (x ∷ xs) n h b =
    both _ _ (left _ _ h)
    (earlier_append ops (i + 1) xs n (right (all_below i (ops x)) _ h)
    (let e : (i + 1) + length xs ≡ i + suc (length xs) = omega arith in rw e b))

pub pushed : {N : Type 0} (ops : N → List ℕ) (xs ys : List N) (n : N) (b : Bool)
    → all_earlier ops 0 xs ≡ true → all_below (length xs) (ops n) ≡ true
    → ys ≡ cond b (xs ++ n ∷ []) xs → all_earlier ops 0 ys ≡ true
pushed ops xs ys n true h hb e = rw e (earlier_append ops 0 xs n h (let z : 0 + length xs ≡ length xs = omega arith in rw z hb))
pushed ops xs ys n false h hb e = rw e h
