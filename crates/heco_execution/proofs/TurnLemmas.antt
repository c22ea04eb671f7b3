-- The turns of a loop, one after another.
use Rattle.std.proofs.Common.{◌≡◌, ℕ, zero, suc, List, ℤ, pos, negsuc, ◌+ℤ◌, ◌-ℤ◌, ◌<ℤ◌, Ok, refl, arith}
use Rattle.std.proofs.lemmas.Int.{ints}
use Rattle.heco_lex.specs.declared.place.Place.{Place}
use Rattle.heco_execution.specs.declared.error.EvalErr.{EvalErr}
use Rattle.heco_execution.specs.declared.error.EvalErr.TheVariants.{At, Memory}
use Rattle.heco_execution.specs.declared.progress.Progress.{Progress}
use Rattle.heco_execution.specs.Outcomes.{Refuses}
use Rattle.heco_execution.specs.States.{State}
use Rattle.heco_execution.specs.Execution.{Run, at_least_zero, turn, turns}

at_least_zero-positive : (y z : ℤ) → y ≡ z -ℤ pos 1 → pos 0 <ℤ z → at_least_zero z ≡ suc (at_least_zero y)
at_least_zero-positive y (pos zero) e h = absurd (omega (arith, ints))
at_least_zero-positive y (pos (suc n)) e h = let is : y ≡ pos n = omega (arith, ints) in rw is refl
at_least_zero-positive y (negsuc n) e h = absurd (omega (arith, ints))

at_least_zero-next : (low high : ℤ) → low <ℤ high → at_least_zero (high -ℤ low) ≡ suc (at_least_zero (high -ℤ (low +ℤ pos 1)))
at_least_zero-next low high h = at_least_zero-positive (high -ℤ (low +ℤ pos 1)) (high -ℤ low) (omega (arith, ints)) (omega (arith, ints))

-- one turn more
pub turns_go_on : {S V : Type 0} (at : Place) (text : List ℕ) (body : Run S V) (low high : ℤ) (state end : State V) (p q : Progress S)
    → low <ℤ high → turn at text body low state p ≡ Ok (end, q)
    → turns at text body (at_least_zero (high -ℤ low)) low state p
    ≡ turns at text body (at_least_zero (high -ℤ (low +ℤ pos 1))) (low +ℤ pos 1) end q
turns_go_on at text body low high state end p q lt e = rw (at_least_zero-next low high lt, e) refl

-- a turn that is refused ends the loop
pub turns_refuse : {S V : Type 0} (at : Place) (text : List ℕ) (body : Run S V) (low high : ℤ) (state : State V) (p : Progress S) (e : EvalErr)
    → low <ℤ high → Refuses e (turn at text body low state p)
    → Refuses e (turns at text body (at_least_zero (high -ℤ low)) low state p)
turns_refuse at text body low high state p (At rule place) lt r = rw (at_least_zero-next low high lt, r) refl
turns_refuse at text body low high state p Memory lt r = tt
