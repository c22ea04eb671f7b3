-- What nodes build, generic in what is built.
use Rattle.std.proofs.Common.{◌≡◌, ℕ, zero, suc, ◌+◌, ◌<◌, List, [], ◌∷◌, ◌++◌, refl, arith, length, Bool, true, false, ◌&&◌, ◌∙◌, sym, get_or, length-append}
use Rattle.std.specs.Prelude.{slice_get, Some}
use Rattle.std.proofs.lemmas.List.{get_or_append_left}
use Rattle.std.proofs.Math.Seq.{get_or-append_seam}
use Rattle.heco_ir.specs.Values.{all_below, all_earlier}
use Rattle.heco_ir.specs.Arena.{built_from, built}

pub both : (a b : Bool) → a ≡ true → b ≡ true → (a && b) ≡ true
both a b ha hb = rw (ha, hb) refl

pub left : (a b : Bool) → (a && b) ≡ true → a ≡ true
left true b h = refl
left false b h = h

pub right : (a b : Bool) → (a && b) ≡ true → b ≡ true
right true b h = h
right false b h = cc

pub slice_get_below : {X : Type 0} (xs : List X) (j : ℕ) (x d : X) → slice_get xs j ≡ Some x → (j < length xs) × (get_or xs j d ≡ x)
slice_get_below [] j x d e = cc
slice_get_below (y ∷ xs) zero x d e = (omega arith, cc)
slice_get_below (y ∷ xs) (suc j) x d e = let (l, f) = slice_get_below xs j x d e in (omega arith, f)

module _ {N C : Type 0} (step : List C → N → C) where
  pub built_from-append : (done : List C) (ns ms : List N) → built_from step done (ns ++ ms) ≡ built_from step (built_from step done ns) ms
  built_from-append done [] ms = refl
  built_from-append done (n ∷ ns) ms = built_from-append (done ++ step done n ∷ []) ns ms

  pub length-built_from : (done : List C) (ns : List N) → length (built_from step done ns) ≡ length done + length ns
  length-built_from done [] = omega arith
  length-built_from done (n ∷ ns) =
      let e : length (built_from step (done ++ step done n ∷ []) ns) ≡ length (done ++ step done n ∷ []) + length ns = length-built_from (done ++ step done n ∷ []) ns in
      omega (arith, e, length-append done (step done n ∷ []))

  pub length-built : (ns : List N) → length (built step ns) ≡ length ns
  length-built ns = omega (arith, length-built_from [] ns)

  -- earlier ones stand
  pub built_from-stands : (done : List C) (ns : List N) (k : ℕ) (d : C) → k < length done → get_or (built_from step done ns) k d ≡ get_or done k d
  built_from-stands done [] k d h = refl
  built_from-stands done (n ∷ ns) k d h =
      built_from-stands (done ++ step done n ∷ []) ns k d (omega (arith, length-append done (step done n ∷ [])))
      ∙ get_or_append_left done (step done n ∷ []) d k h

  pub built-stands : (ns ms : List N) (k : ℕ) (d : C) → k < length ns → get_or (built step (ns ++ ms)) k d ≡ get_or (built step ns) k d
  built-stands ns ms k d h = rw (built_from-append [] ns ms) (built_from-stands (built step ns) ms k d (omega (arith, length-built ns)))

  pub built-push : (ns : List N) (n : N) → built step (ns ++ n ∷ []) ≡ built step ns ++ step (built step ns) n ∷ []
  built-push ns n = built_from-append [] ns (n ∷ [])

  pub built-last : (ns : List N) (n : N) (d : C) → get_or (built step (ns ++ n ∷ [])) (length ns) d ≡ step (built step ns) n
  built-last ns n d = rw (built-push ns n, ← length-built ns) (get_or-append_seam (built step ns) (step (built step ns) n) [] d)

-- the carrier's default, the operands, and that a step asks for its operands alone
module _ {N C : Type 0} (step : List C → N → C) (ops : N → List ℕ) (d : C)
    (local : (xs ys : List C) (n : N) → all_below (length xs) (ops n) ≡ true → ((k : ℕ) → k < length xs → get_or ys k d ≡ get_or xs k d) → step ys n ≡ step xs n) where
  built_from-at : (done : List C) (ns : List N) (k : ℕ) (e : N) → all_earlier ops (length done) ns ≡ true → k < length ns
      → get_or (built_from step done ns) (length done + k) d ≡ step (built_from step done ns) (get_or ns k e)
  built_from-at done [] k e h lt = elim lt [ ]
  built_from-at done (n ∷ ns) zero e h lt =
      let z : length done + 0 ≡ length done = omega arith in
      let grown : List C = done ++ step done n ∷ [] in
      let longer : length grown ≡ length done + 1 = length-append done (step done n ∷ []) in
      let same : (k : ℕ) → k < length done → get_or (built_from step (done ++ step done n ∷ []) ns) k d ≡ get_or done k d =
      λ k l. built_from-stands step (done ++ step done n ∷ []) ns k d (omega (arith, length-append done (step done n ∷ []))) ∙ get_or_append_left done (step done n ∷ []) d k l in
      rw z (built_from-stands step (done ++ step done n ∷ []) ns (length done) d (omega (arith, length-append done (step done n ∷ [])))
      ∙ get_or-append_seam done (step done n) [] d
      ∙ sym (local done (built_from step (done ++ step done n ∷ []) ns) n (left _ _ h) same))
  built_from-at done (n ∷ ns) (suc k) e h lt =
      let l : length (done ++ step done n ∷ []) ≡ length done + 1 = length-append done (step done n ∷ []) in
      let z : length done + suc k ≡ length (done ++ step done n ∷ []) + k = omega (arith, l) in
      rw z (built_from-at (done ++ step done n ∷ []) ns k e (rw l (right (all_below (length done) (ops n)) _ h)) (omega arith))

  -- each is built from the others
  pub built-at : (ns : List N) (k : ℕ) (e : N) → all_earlier ops 0 ns ≡ true → k < length ns → get_or (built step ns) k d ≡ step (built step ns) (get_or ns k e)
  built-at ns k e h lt = let z : 0 + k ≡ k = omega arith in rw z at (built_from-at [] ns k e h lt)
