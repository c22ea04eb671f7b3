-- The vectors of the gathered circuit: those that there were, and behind them one for each chosen wire.
use Rattle.std.proofs.Common.{◌≡◌, ℕ, suc, ◌+◌, ◌<◌, List, [], ◌∷◌, length, map, refl, ap, ◌∙◌, arith, Bool, true, false, ◌||◌, not, cond, eqb, get_or, length-append}
use Rattle.std.specs.Prelude.{slice_index}
use Rattle.std.specs.List.{position_or_len}
use Rattle.std.proofs.lemmas.Bool.{eqb-true}
use Rattle.std.proofs.lemmas.List.{get_or_append_left, get_or-append-add, get_or-map, length-map}
use Rattle.heco_circuit.specs.Plans.{Plan}
use Rattle.heco_circuit.specs.Bounds.{weights_of, vector_weight_of}
use Rattle.heco_meaning.specs.Meanings.{wire_at}
use Rattle.heco_rewrites.specs.Wires.{Keeps}
use Rattle.heco_rewrites.specs.Needed.{has}
use Rattle.heco_plainvec.specs.Gathering.{vector, chosen}
use Rattle.heco_plainvec.specs.Gathered.{vector_number, gathered_vectors}

position_there : (xs : List ℕ) (a : ℕ) → has xs a ≡ true → (position_or_len (λ x. eqb x a) xs < length xs) × (get_or xs (position_or_len (λ x. eqb x a) xs) 0 ≡ a)
position_there [] a h = absurd cc
position_there (x ∷ xs) a h = by_test (eqb x a) refl h (position_there xs a)
  where
    p : ℕ
    p = position_or_len (λ x. eqb x a) xs

    by_test : (b : Bool) → eqb x a ≡ b → (b || has xs a) ≡ true → (has xs a ≡ true → (p < length xs) × (get_or xs p 0 ≡ a))
        → (cond (not b) (1 + p) 0 < suc (length xs)) × (get_or (x ∷ xs) (cond (not b) (1 + p) 0) 0 ≡ a)
    by_test true t h f = (omega arith, eqb-true x a t)
    by_test false t h f = let r = f h in let s : 1 + p ≡ suc p = omega arith in rw s (let l = r.0 in omega (arith, l), r.1)

pub keeps : (c : Plan) → Keeps c.vectors (gathered_vectors c)
keeps c = record {
  few = let l = length-append c.vectors (map (vector c) (chosen c)) in omega (arith, l);
  each = λ v l. get_or_append_left c.vectors (map (vector c) (chosen c)) [] v l;
}

pub vector_below : (c : Plan) (a : ℕ) → has (chosen c) a ≡ true → vector_number c a < length (gathered_vectors c)
vector_below c a h =
    let p = (position_there (chosen c) a h).0 in
    let l = length-append c.vectors (map (vector c) (chosen c)) in
    let m = length-map (chosen c) (vector c) in
    omega (arith, p, l, m)

pub vector_at : (c : Plan) (a : ℕ) → has (chosen c) a ≡ true → wire_at (gathered_vectors c) (vector_number c a) ≡ vector c a
vector_at c a h =
    let r = position_there (chosen c) a h in
    get_or-append-add c.vectors (map (vector c) (chosen c)) (position_or_len (λ x. eqb x a) (chosen c)) []
    ∙ get_or-map (vector c) (chosen c) (position_or_len (λ x. eqb x a) (chosen c)) 0 [] r.0
    ∙ ap (vector c) r.1

pub weight_at : (c : Plan) (a : ℕ) → has (chosen c) a ≡ true → slice_index (weights_of c.preset (gathered_vectors c)) (vector_number c a) ≡ vector_weight_of c.preset (vector c a)
weight_at c a h =
    get_or-map (vector_weight_of c.preset) (gathered_vectors c) (vector_number c a) [] 0 (vector_below c a h)
    ∙ ap (vector_weight_of c.preset) (vector_at c a h)
