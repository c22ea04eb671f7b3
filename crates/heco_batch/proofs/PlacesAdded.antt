use Rattle.std.proofs.Common.{◌≡◌, ℕ, ◌+◌, ◌<◌, List, [], ◌∷◌, ◌++◌, length, refl, ap, ◌∙◌, arith, true, false, nat_eq, cond}
use Rattle.std.specs.Prelude.{Option, Some, None, Result, Ok, Err, IfOk}
use Rattle.std.proofs.lemmas.Bool.{ltb-true}
use Rattle.heco_written.specs.VectorTerm.{same_vector}
use Rattle.heco_written.specs.WrittenForm.{Place, Run, run_of, longer, continues, runs, folded, beside, sum_of_runs}
use Rattle.heco_written.proofs.RunSlots.{both_right}
use Rattle.heco_written.proofs.RunsPushed.{runs-push}
use Rattle.heco_nums.specs.declared.memory.Memory.{Memory}
use Rattle.heco_ir.specs.declared.vector.VNode.{VNode}
use Rattle.heco_ir.specs.Terms.{Extends}
use Rattle.heco_ir.proofs.Extended.{term_stands, extends_length}
use Rattle.heco_batch.specs.declared.place.NodeSlot.{NodeSlot}
use Rattle.heco_batch.specs.declared.place.NodeRun.{NodeRun}
use Rattle.heco_batch.specs.declared.sum.NodePlaces.{NodePlaces}
use Rattle.heco_batch.specs.inside.Places.{place_at, run_at, place_at_option, PlaceIs, OptionWithin}
use Rattle.heco_batch.specs.inside.Sums.{RunIs, ArePlaces}
use Rattle.heco_batch.proofs.Placed.{option_stands}

pub run_stands : {m : ℕ} {a b : List VNode} (slots : ℕ) (d : NodeRun) (r : Run) → Extends m a b → RunIs a slots d r → RunIs b slots d r
run_stands slots d r h i = record {
  within = omega (arith, i.within, (extends_length h).0);
  slot_within = i.slot_within;
  some = i.some;
  most = i.most;
  is = ap (λ v. record { vector = v; slot = d.slot; size = d.size }) (term_stands d.node.0 h i.within) ∙ i.is;
}

pub option_within : {m : ℕ} {a b : List VNode} (slots : ℕ) (d : Option NodeSlot) → Extends m a b → OptionWithin (length a) slots d → OptionWithin (length b) slots d
option_within slots None h w = tt
option_within slots (Some d) h w = (omega (arith, w.0, (extends_length h).0), w.1)

beside_within : (a : List VNode) (slots : ℕ) (d : Option NodeSlot) (p : Place) → OptionWithin (length a) slots d → p.slot < slots → (beside slots (place_at_option a d) p).slot < slots
beside_within a slots None p w l = l
beside_within a slots (Some d) p w l = w.1

-- what `opened` gives is the runs of these places
pub opened_places : {m : ℕ} {a b : List VNode} (slots : ℕ) (closed : Option NodeSlot) (last : NodeRun) (cs : List Run) (r : Run) (qs : List Place) (result : Result NodePlaces Memory)
    → runs slots qs ≡ cs ++ r ∷ []
    → OptionWithin (length a) slots closed → place_at_option a closed ≡ sum_of_runs slots cs
    → RunIs a slots last r → Extends m a b
    → IfOk result (λ d. d.closed ≡ closed) → IfOk result (λ d. d.last ≡ last)
    → IfOk result (λ d. PlaceIs b d.sum (beside slots (place_at_option a closed) (folded (run_at a last))))
    → IfOk result (λ d. ArePlaces b slots d qs)
opened_places {m} {a} {b} slots closed last cs r qs (Err e) er w ec ir ext hc hl hs = tt
opened_places {m} {a} {b} slots closed last cs r qs (Ok d) er w ec ir ext hc hl hs = record {
  closed = cs;
  last_run = r;
  runs_are = er;
  closed_within = rw hc (option_within slots closed ext w);
  closed_is = rw hc (option_stands slots closed ext w ∙ ec);
  last_is = rw hl (run_stands slots last r ext ir);
  sum_is = record { within = hs.within; is = hs.is ∙ ap (λ h. beside slots h (folded (run_at a last))) ec ∙ ap (λ k. beside slots (sum_of_runs slots cs) (folded k)) ir.is };
  sum_within =
      let e : d.sum.slot ≡ (beside slots (place_at_option a closed) (folded (run_at a last))).slot = ap (λ p. p.slot) hs.is in
      rw e (beside_within a slots closed (folded (run_at a last)) w ir.slot_within);
}

pub first_run : (a : List VNode) (slots : ℕ) (p : NodeSlot) → p.node.0 < length a → p.slot < slots → RunIs a slots (record { node = p.node; slot = p.slot; size = 1 }) (run_of (place_at a p))
first_run a slots p h l = record { within = h; slot_within = l; some = omega arith; most = omega arith; is = refl }

pub longer_run : (a : List VNode) (slots : ℕ) (d : NodeRun) (r : Run) (p : Place) → RunIs a slots d r → continues slots r p ≡ true
    → RunIs a slots (record { node = d.node; slot = d.slot; size = d.size + 1 }) (longer r)
longer_run a slots d r p i h =
    let l : r.size < slots = ltb-true _ _ (both_right (nat_eq p.slot _) _ (both_right (same_vector r.vector p.vector) _ h)) in
    let s : d.size ≡ r.size = ap (λ k. k.size) i.is in
    record { within = i.within; slot_within = i.slot_within; some = omega arith; most = omega arith; is = ap longer i.is }

pub runs_longer : (slots : ℕ) (ps : List Place) (p : Place) (cs : List Run) (r : Run) → runs slots ps ≡ cs ++ r ∷ [] → continues slots r p ≡ true → runs slots (ps ++ p ∷ []) ≡ cs ++ longer r ∷ []
runs_longer slots ps p cs r e h = runs-push slots ps p cs r e ∙ ap (λ t. cond t (cs ++ longer r ∷ []) ((cs ++ r ∷ []) ++ run_of p ∷ [])) h

pub runs_new : (slots : ℕ) (ps : List Place) (p : Place) (cs : List Run) (r : Run) → runs slots ps ≡ cs ++ r ∷ [] → continues slots r p ≡ false → runs slots (ps ++ p ∷ []) ≡ (cs ++ r ∷ []) ++ run_of p ∷ []
runs_new slots ps p cs r e h = runs-push slots ps p cs r e ∙ ap (λ t. cond t (cs ++ longer r ∷ []) ((cs ++ r ∷ []) ++ run_of p ∷ [])) h
