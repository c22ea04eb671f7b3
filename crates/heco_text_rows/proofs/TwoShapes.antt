-- Two shapes with names of their own, for tests.
use Rattle.std.proofs.Common.{◌≡◌, ◌≢◌, ◌<◌, ℕ, zero, suc, sym, subst, List, [], ◌∷◌, get_or, arith}
use Rattle.std.specs.Prelude.{codes}
use Rattle.heco_nums.specs.declared.shape.Shape.{Shape}
use Rattle.heco_texts.specs.Answers.{HaveOwnNames}

abbrev pub two : List Shape
two = record { name = codes "x"; len = 1 } ∷ record { name = codes "y"; len = 2 } ∷ []

differ : (i j : ℕ) (d : Shape) → i < j → j < 2 → (get_or two i d).name ≢ (get_or two j d).name
differ zero zero d lt le = absurd (omega arith)
differ zero (suc zero) d lt le = λ e. (let n : ◌≡◌ {A = ℕ} 120 121 = cc in omega (arith, n))
differ zero (suc (suc j)) d lt le = absurd (omega arith)
differ (suc i) zero d lt le = absurd (omega arith)
differ (suc i) (suc zero) d lt le = absurd (omega arith)
differ (suc i) (suc (suc j)) d lt le = absurd (omega arith)

pub own_names : (shapes : List Shape) → shapes ≡ two → HaveOwnNames shapes
own_names shapes is = subst HaveOwnNames (sym is) differ
