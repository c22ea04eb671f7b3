use Rattle.std.proofs.Common.{◌≡◌, ◌+◌, [], ◌∷◌, ◌++◌, ap, sym, ◌∙◌, refl, true, false}
use Rattle.std.specs.Prelude.{Some, None}
use Rattle.heco_written.specs.WrittenForm.{run_of, longer, continues}
use Rattle.heco_written.proofs.RunsPushed.{runs-first, sum_of_runs-push}
use Rattle.heco_batch.specs.inside.Places.{place_at}
use Rattle.heco_batch.specs.inside.Sums.{ArePlaces}
use Rattle.heco_batch.proofs.PlacesAdded.{opened_places, first_run, longer_run, runs_longer, runs_new}
use Rattle.heco_batch.proofs.batcher.Batcher.place_added.Goals as goal

pub returns-in-None-clause-places : goal.returns-in-None-clause-places
returns-in-None-clause-places c = λ ps h.
    let none : ps ≡ [] = rw c.in-None.is at h in
    opened_places c.args.self.slots None (record { node = c.args.p.node; slot = c.args.p.slot; size = 1 }) [] (run_of (place_at c.args.c.now c.args.p)) _ c.opened.result
    (runs-first c.args.self.slots ps (place_at c.args.c.now c.args.p) (rw none refl)) tt refl
    (first_run c.args.c.now c.args.self.slots c.args.p c.requires.within c.requires.slot)
    c.opened.ensures.stands c.opened.ensures.closed c.opened.ensures.run c.opened.ensures.sum

pub returns-then-continues-clause-places : goal.returns-then-continues-clause-places
returns-then-continues-clause-places c = λ ps h.
    let are : ArePlaces c.args.c.now c.args.self.slots c.in-Some.s ps = rw c.in-Some.is at h in
    let on : continues c.args.self.slots are.last_run (place_at c.args.c.now c.args.p) ≡ true =
    ap (λ r. continues c.args.self.slots r (place_at c.args.c.now c.args.p)) (sym are.last_is.is) ∙ sym c.continues.ensures ∙ c.if-continues.true in
    opened_places c.args.self.slots c.in-Some.s.closed (record { node = c.in-Some.s.last.node; slot = c.in-Some.s.last.slot; size = c.in-Some.s.last.size + 1 }) are.closed (longer are.last_run) _ c.opened-then-continues.result
    (runs_longer c.args.self.slots ps (place_at c.args.c.now c.args.p) are.closed are.last_run are.runs_are on) are.closed_within are.closed_is
    (longer_run c.args.c.now c.args.self.slots c.in-Some.s.last are.last_run (place_at c.args.c.now c.args.p) are.last_is on)
    c.opened-then-continues.ensures.stands c.opened-then-continues.ensures.closed c.opened-then-continues.ensures.run c.opened-then-continues.ensures.sum

pub returns-else-continues-clause-places : goal.returns-else-continues-clause-places
returns-else-continues-clause-places c = λ ps h.
    let are : ArePlaces c.args.c.now c.args.self.slots c.in-Some.s ps = rw c.in-Some.is at h in
    let off : continues c.args.self.slots are.last_run (place_at c.args.c.now c.args.p) ≡ false =
    ap (λ r. continues c.args.self.slots r (place_at c.args.c.now c.args.p)) (sym are.last_is.is) ∙ sym c.continues.ensures ∙ c.if-continues.false in
    opened_places c.args.self.slots (Some c.in-Some.s.sum) (record { node = c.args.p.node; slot = c.args.p.slot; size = 1 }) (are.closed ++ are.last_run ∷ []) (run_of (place_at c.args.c.now c.args.p)) _ c.opened-else-continues.result
    (runs_new c.args.self.slots ps (place_at c.args.c.now c.args.p) are.closed are.last_run are.runs_are off)
    (are.sum_is.within, are.sum_within)
    (ap Some are.sum_is.is ∙ sym (sum_of_runs-push c.args.self.slots are.closed are.last_run))
    (first_run c.args.c.now c.args.self.slots c.args.p c.requires.within c.requires.slot)
    c.opened-else-continues.ensures.stands c.opened-else-continues.ensures.closed c.opened-else-continues.ensures.run c.opened-else-continues.ensures.sum
