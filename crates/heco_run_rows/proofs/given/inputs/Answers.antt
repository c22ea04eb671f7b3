use Rattle.std.proofs.Common.{◌≡◌, ◌+◌, ℕ, zero, suc, List, [], ◌∷◌, ◌++◌, length-append, ◌∙◌, ap}
use Rattle.heco_run_laws.specs.Runs.{Ciphertext}
use Rattle.heco_run.specs.Shapes.{AreTwoParts, IsShaped}
use Rattle.heco_run_rows.proofs.given.inputs.Goals as goal

one_more : (n : ℕ) (xs : List Ciphertext) (x : Ciphertext) → AreTwoParts n xs → IsShaped n 2 x → AreTwoParts n (xs ++ x ∷ [])
one_more n [] x h s zero c e = let same : x ≡ c = cc in rw (← same) s
one_more n [] x h s (suc wire) c e = absurd (cc)
one_more n (y ∷ xs) x h s zero c e = h zero c e
one_more n (y ∷ xs) x h s (suc wire) c e = one_more n xs x (λ w d at. h (suc w) d at) s wire c e

pub loop-x-preserved : goal.loop-x-preserved
loop-x-preserved c =
    let items = c.in_ok-push.ensures.items in
    record {
      count = rw items (length-append _ _ ∙ ap (λ n. n + 1) c.loop-x.invariant.count);
      shaped = rw items (one_more _ _ _ c.loop-x.invariant.shaped (rw c.preset-p.ensures at c.in_ok-constants.ensures));
    }
