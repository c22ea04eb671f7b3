use Rattle.std.proofs.Common.{◌≡◌, ℕ, zero, suc, ◌+◌, [], ◌∷◌, ◌++◌, ap, sym, ◌∙◌, arith}
use Rattle.std.specs.List.{range_with_len}
use Rattle.heco_rewrites.proofs.renaming.input_names.Goals as goal

range_more : (n : ℕ) → range_with_len 0 (n + 1) ≡ range_with_len 0 n ++ n ∷ []
range_more n = more 0 n n (omega arith)
  where
    more : (a n j : ℕ) → a + n ≡ j → range_with_len a (n + 1) ≡ range_with_len a n ++ j ∷ []
    more a zero j e = let z : a ≡ j = omega (arith, e) in ap (λ k. k ∷ []) z
    more a (suc n) j e = let s : suc n + 1 ≡ suc (n + 1) = omega arith in ap (range_with_len a) s ∙ ap (λ xs. a ∷ xs) (more (a + 1) n j (omega (arith, e)))

pub loop-i-preserved : goal.loop-i-preserved
loop-i-preserved c = c.in_ok-push.ensures.ok ∙ ap (λ xs. xs ++ c.loop-i.i ∷ []) c.loop-i.invariant ∙ sym (range_more c.loop-i.i)
