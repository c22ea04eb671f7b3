-- A gate that is done stays done, and a claimed gate has one worker.
use Rattle.std.proofs.Common.{◌≡◌, ◌≢◌, ℕ, List, [], ◌∷◌, inl, inr, true, Some}
use Rattle.std.specs.List.{slice_get, list_all}
use Rattle.std.specs.Prelude.{◌↔◌}
use Rattle.std.proofs.lemmas.Bool.{cases_eq}
use Rattle.heco_schedules.specs.declared.event.Stage.TheVariants.{Open, Claimed, Done}
use Rattle.heco_schedules.specs.declared.event.Event.{Event}
use Rattle.heco_schedules.specs.declared.event.Event.TheVariants.{Claim, Finish}
use Rattle.heco_schedules.specs.Standings.{Wiring, Standing, is_done, operands}
use Rattle.heco_schedules.specs.Events.{Legal, after}
use Rattle.heco_schedules.specs.Runs.{AllLegal, after_all, fresh}
use Rattle.heco_schedules.proofs.Consistent.{ready_open}
use Rattle.heco_schedules.proofs.Lists.{get-set_same, get-set_other, within}
use Rattle.heco_schedules.proofs.Sound.{fresh_consistent}
use Rattle.heco_schedules.proofs.Whole.{consistent_all}

stays_once : (c : Wiring) (s : Standing) (e : Event) (gate : ℕ) → Legal c s e → slice_get s.stages gate ≡ Some Done → slice_get (after s e).stages gate ≡ Some Done
stays_once c s (Claim worker g) gate legal done =
    let shut : slice_get s.stages g ≡ Some Open = ready_open c s g legal.1 in
    let apart : gate ≢ g = λ same. (let o : slice_get s.stages gate ≡ Some Open = rw same shut in cc) in
    rw (get-set_other s.stages g gate (Claimed worker) apart) done
stays_once c s (Finish worker) gate legal done = rw legal.1 (elim (cases_eq gate legal.0) [
  | inl same ↦ rw (← same) (get-set_same s.stages gate Done (within s.stages gate Done done))
  | inr apart ↦ rw (get-set_other s.stages legal.0 gate Done apart) done
])

pub stays_done : (c : Wiring) (s : Standing) (es : List Event) (gate : ℕ) → AllLegal c s es → slice_get s.stages gate ≡ Some Done → slice_get (after_all s es).stages gate ≡ Some Done
stays_done c s [] gate legal done = done
stays_done c s (e ∷ es) gate legal done = stays_done c (after s e) es gate legal.1 (stays_once c s e gate legal.0 done)

pub one_worker : (c : Wiring) (workers : ℕ) (es : List Event) (gate worker : ℕ) → AllLegal c (fresh c workers) es
    → (slice_get (after_all (fresh c workers) es).stages gate ≡ Some (Claimed worker)) ↔ (slice_get (after_all (fresh c workers) es).workers worker ≡ Some (Some gate))
one_worker c workers es gate worker legal =
    let all = consistent_all c (fresh c workers) es (fresh_consistent c workers) legal in
    (all.holder gate worker, all.holds gate worker)

pub claimed_operands : (c : Wiring) (workers : ℕ) (es : List Event) (gate worker : ℕ) → AllLegal c (fresh c workers) es
    → slice_get (after_all (fresh c workers) es).stages gate ≡ Some (Claimed worker) → list_all (is_done c (after_all (fresh c workers) es)) (operands c gate) ≡ true
claimed_operands c workers es gate worker legal = (consistent_all c (fresh c workers) es (fresh_consistent c workers) legal).claimed gate worker

pub done_stays : (c : Wiring) (workers : ℕ) (es fs : List Event) (gate : ℕ) → AllLegal c (fresh c workers) es → AllLegal c (after_all (fresh c workers) es) fs
    → slice_get (after_all (fresh c workers) es).stages gate ≡ Some Done → slice_get (after_all (after_all (fresh c workers) es) fs).stages gate ≡ Some Done
done_stays c workers es fs gate before legal = stays_done c (after_all (fresh c workers) es) fs gate legal
