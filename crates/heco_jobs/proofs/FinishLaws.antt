-- Writing file after file, and then printing.
use Rattle.std.proofs.Common.{◌≡◌, ◌≤◌, ◌<◌, ◌-◌, ℕ, List, [], ◌∷◌, ◌++◌, length, get_or, take, drop, Option, Result, Err, refl, sym, ap, subst, inl, inr, arith}
use Rattle.std.proofs.lemmas.List.{take_all, length-drop}
use Rattle.heco_outside.specs.Calls.{HasSet, Logs}
use Rattle.heco_outside.specs.declared.store.Call.{Call}
use Rattle.heco_outside.specs.declared.store.CallKind.TheVariants.{Write}
use Rattle.heco_outside.specs.declared.store.StoreErr.{StoreErr}
use Rattle.heco_outside.specs.declared.store.StoreErr.TheVariants as store
use Rattle.heco_jobs.specs.declared.outcome.Outcome.{Outcome}
use Rattle.heco_jobs.specs.declared.product.Planned.{Planned}
use Rattle.heco_jobs.specs.Calls.{done, writing}
use Rattle.heco_jobs.specs.Endings.{Writes, Printed, write_fault_of}
use Rattle.heco_jobs.specs.Outsides.{Files, OthersStand, Outside}
use Rattle.heco_jobs.specs.Words.{name_of}

abbrev pub as_told : Files → List Call → List ℕ → ℕ → Outside
as_told file calls taken shortages = record { file = file; calls = calls; taken = taken; shortages = shortages }

abbrev pub refused_by : StoreErr → Result (Unit {0}) StoreErr
refused_by e = Err e

first_of : (ws : List Planned) (first : Planned) → 1 ≤ length ws → first ≡ get_or ws 0 first → ws ≡ first ∷ drop 1 ws
first_of [] first le is = absurd (omega arith)
first_of (w ∷ ws) first le is = ap (λ v. v ∷ ws) (sym is)

rest_is : (ws : List Planned) → take (length ws - 1) (drop 1 ws) ≡ drop 1 ws
rest_is ws = take_all (length ws - 1) (drop 1 ws) (omega (arith, length-drop 1 ws))

module _ (words : List (List ℕ)) (text : Option (List ℕ)) where
  pub ends_empty : (ws : List Planned) (file : Files) (calls : List Call) (out out' : List ℕ) (short short' : ℕ) (outcome : Outcome) → length ws < 1 → Printed text out out' short short' outcome
      → Writes words ws text (as_told file calls out short) (as_told file calls out' short') outcome
  unfolding Writes
  ends_empty [] file calls out out' short short' outcome lt prints = ((λ name. refl), (refl, prints))
  ends_empty (w ∷ ws) file calls out out' short short' outcome lt prints = absurd (omega arith)

  stops : (w : Planned) (ws : List Planned) (file file' : Files) (calls calls' : List Call) (out : List ℕ) (short : ℕ) (e : StoreErr) → OthersStand (name_of words w.which) file file' → Logs Write (name_of words w.which) calls calls' (refused_by e)
      → Writes words (w ∷ ws) text (as_told file calls out short) (as_told file' calls' out short) (write_fault_of w.which e)
  unfolding Writes
  stops w ws file file' calls calls' out short store.Failed others logs = inl (refl, record { calls = logs; others = others; taken = refl })
  stops w ws file file' calls calls' out short store.Memory others logs = inr (inl (refl, record { calls = logs; others = others; taken = refl }))

  pub ends_stopped : (ws : List Planned) (first : Planned) (file file' : Files) (calls calls' : List Call) (out : List ℕ) (short : ℕ) (e : StoreErr) (outcome : Outcome) → 1 ≤ length ws → first ≡ get_or ws 0 first → outcome ≡ write_fault_of first.which e
      → OthersStand (name_of words first.which) file file' → Logs Write (name_of words first.which) calls calls' (refused_by e) → Writes words ws text (as_told file calls out short) (as_told file' calls' out short) outcome
  ends_stopped ws first file file' calls calls' out short e outcome le is answer others logs =
      subst (λ vs. Writes words vs text (as_told file calls out short) (as_told file' calls' out short) outcome) (sym (first_of ws first le is))
      (subst (λ o. Writes words (first ∷ drop 1 ws) text (as_told file calls out short) (as_told file' calls' out short) o) (sym answer) (stops first (drop 1 ws) file file' calls calls' out short e others logs))

  goes_on : (w : Planned) (ws : List Planned) (file between file' : Files) (calls mid calls' : List Call) (out out' : List ℕ) (short short' : ℕ) (outcome : Outcome) → HasSet file (name_of words w.which) w.bytes between
      → mid ≡ calls ++ done words (writing w.which) ∷ [] → Writes words ws text (as_told between mid out short) (as_told file' calls' out' short') outcome → Writes words (w ∷ ws) text (as_told file calls out short) (as_told file' calls' out' short') outcome
  unfolding Writes
  goes_on w ws file between file' calls mid calls' out out' short short' outcome set logs more =
      inr (inr (between, (set, subst (λ cs. Writes words ws text (as_told between cs out short) (as_told file' calls' out' short') outcome) logs more)))

  pub ends_later : (ws : List Planned) (first : Planned) (file between file' : Files) (calls mid calls' : List Call) (out out' : List ℕ) (short short' : ℕ) (outcome : Outcome) → 1 ≤ length ws → first ≡ get_or ws 0 first
      → HasSet file (name_of words first.which) first.bytes between → mid ≡ calls ++ done words (writing first.which) ∷ []
      → Writes words (take (length ws - 1) (drop 1 ws)) text (as_told between mid out short) (as_told file' calls' out' short') outcome → Writes words ws text (as_told file calls out short) (as_told file' calls' out' short') outcome
  ends_later ws first file between file' calls mid calls' out out' short short' outcome le is set logs more =
      subst (λ vs. Writes words vs text (as_told file calls out short) (as_told file' calls' out' short') outcome) (sym (first_of ws first le is))
      (goes_on first (drop 1 ws) file between file' calls mid calls' out out' short short' outcome set logs
      (subst (λ rest. Writes words rest text (as_told between mid out short) (as_told file' calls' out' short') outcome) (rest_is ws) more))
