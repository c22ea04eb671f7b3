use Rattle.std.proofs.Common.{◌≡◌, ℕ, zero, suc, ◌+◌, ◌<◌, List, [], ◌∷◌, refl, arith, length, true, ap, ◌∙◌, sym, add-one, map, get_or, nat_lt}
use Rattle.std.proofs.Math.ListN.{set}
use Rattle.std.proofs.lemmas.Bool.{ltb-true}
use Rattle.heco_written.specs.World.{World}
use Rattle.heco_ir.specs.Values.{all_below, numbers}
use Rattle.heco_ir.specs.declared.dialect.NodeId.{NodeId}
use Rattle.heco_ir.proofs.Built.{left, right}

-- the first k changed by f
abbrev pub mixed : (ℕ → ℕ) → ℕ → List ℕ → List ℕ
mixed f zero os = os
mixed f (suc k) [] = []
mixed f (suc k) (o ∷ os) = f o ∷ mixed f k os

pub set-mixed : (f : ℕ → ℕ) (k : ℕ) (os : List ℕ) → set (mixed f k os) k (f (get_or os k 0)) ≡ mixed f (suc k) os
set-mixed f zero [] = refl
set-mixed f zero (o ∷ os) = refl
set-mixed f (suc k) [] = refl
set-mixed f (suc k) (o ∷ os) = ap (λ t. f o ∷ t) (set-mixed f k os)

pub get_or-mixed : (f : ℕ → ℕ) (k : ℕ) (os : List ℕ) → get_or (mixed f k os) k 0 ≡ get_or os k 0
get_or-mixed f zero os = refl
get_or-mixed f (suc k) [] = refl
get_or-mixed f (suc k) (o ∷ os) = get_or-mixed f k os

pub length-mixed : (f : ℕ → ℕ) (k : ℕ) (os : List ℕ) → length (mixed f k os) ≡ length os
length-mixed f zero os = refl
length-mixed f (suc k) [] = refl
length-mixed f (suc k) (o ∷ os) = ap suc (length-mixed f k os)

pub mixed-all : (f : ℕ → ℕ) (os : List ℕ) → mixed f (length os) os ≡ map f os
mixed-all f [] = refl
mixed-all f (o ∷ os) = ap (λ t. f o ∷ t) (mixed-all f os)

pub get_or-map : {A B : Type 0} (f : A → B) (xs : List A) (i : ℕ) (d : A) → get_or (map f xs) i (f d) ≡ f (get_or xs i d)
get_or-map f [] i d = refl
get_or-map f (x ∷ xs) zero d = refl
get_or-map f (x ∷ xs) (suc i) d = get_or-map f xs i d

pub below_at : (m : ℕ) (xs : List ℕ) (k : ℕ) → all_below m xs ≡ true → k < length xs → get_or xs k 0 < m
below_at m [] k h lt = elim lt [ ]
below_at m (x ∷ xs) zero h lt = ltb-true _ _ (left _ _ h)
below_at m (x ∷ xs) (suc k) h lt = below_at m xs k (right (nat_lt x m) _ h) (omega arith)

-- m is n with its first k operands renamed
pub record Renaming {N : Type 0} (ops : N → List ℕ) (value : World → N → List (List ℕ) → List ℕ) (ids : List NodeId) (n m : N) (k : ℕ) : Type 0 where
  pub operands : ops m ≡ mixed (λ o. get_or (numbers ids) o 0) k (ops n)
  pub means : (w : World) (vs : List (List ℕ)) → value w m vs ≡ value w n vs

pub get_or-map-lt : {A B : Type 0} (f : A → B) (xs : List A) (i : ℕ) (d : A) (e : B) → i < length xs → get_or (map f xs) i e ≡ f (get_or xs i d)
get_or-map-lt f [] i d e h = elim h [ ]
get_or-map-lt f (x ∷ xs) zero d e h = refl
get_or-map-lt f (x ∷ xs) (suc i) d e h = get_or-map-lt f xs i d e (omega arith)

module _ {N : Type 0} {ops : N → List ℕ} {value : World → N → List (List ℕ) → List ℕ} {ids : List NodeId} {n m : N} {k : ℕ} (h : Renaming ops value ids n m k) where
  pub renaming_length : length (ops m) ≡ length (ops n)
  renaming_length = ap length h.operands ∙ length-mixed (λ o. get_or (numbers ids) o 0) k (ops n)

  pub renaming_at : get_or (ops m) k 0 ≡ get_or (ops n) k 0
  renaming_at = ap (λ os. get_or os k 0) h.operands ∙ get_or-mixed (λ o. get_or (numbers ids) o 0) k (ops n)

  pub renaming_below : k < length (ops n) → all_below (length ids) (ops n) ≡ true → get_or (ops m) k 0 < length ids
  renaming_below lt b = rw renaming_at (below_at (length ids) (ops n) k b lt)

  pub renaming_next : {m2 : N} {o : ℕ} (d : NodeId) → o ≡ get_or (ops m) k 0 → k < length (ops n) → all_below (length ids) (ops n) ≡ true
      → ops m2 ≡ set (ops m) k (get_or ids o d).0 → ((w : World) (vs : List (List ℕ)) → value w m2 vs ≡ value w m vs)
      → Renaming ops value ids n m2 (k + 1)
  renaming_next {m2} {o} d eo lt b e v =
      let below : o < length ids = rw eo (renaming_below lt b) in
      let there : (get_or ids o d).0 ≡ get_or (numbers ids) (get_or (ops n) k 0) 0 =
      sym (get_or-map-lt (λ x. x.0) ids o d 0 below) ∙ ap (λ t. get_or (numbers ids) t 0) (eo ∙ renaming_at) in
      record {
        operands = rw (add-one, e, there, h.operands) (set-mixed (λ t. get_or (numbers ids) t 0) k (ops n));
        means = λ w vs. v w vs ∙ h.means w vs;
      }
