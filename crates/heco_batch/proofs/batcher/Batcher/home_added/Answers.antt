use Rattle.std.proofs.Common.{Ok, Err, refl}
use Rattle.std.specs.Prelude.{Result, OnOk}
use Rattle.std.proofs.lemmas.Result.{on_ok_weaker}
use Rattle.heco_batch.proofs.RootsAdded.{number_next, place_next}
use Rattle.heco_batch.proofs.batcher.Batcher.home_added.Goals as goal

pub returns-in-Number-clause-roots : goal.returns-in-Number-clause-roots
returns-in-Number-clause-roots c = λ nodes hs k r h. on_ok_weaker c.push.result (number_next c.in-Number.c k r (rw c.in-Number.is at h)) c.push.ensures.ok

both : {T E P Q R : Type 0} (r : Result T E) → (P → Q → R) → OnOk r P → OnOk r Q → OnOk r R
both (Ok x) f p q = f p q
both (Err e) f p q = tt

pub returns-in-At-clause-roots : goal.returns-in-At-clause-roots
returns-in-At-clause-roots c = λ nodes hs k r h.
    both c.place_added.result (place_next c.in-At.d _ k r (rw c.in-At.is at h) refl) c.place_added.ensures.roots c.place_added.ensures.homes
