use Rattle.std.proofs.Common.{◌≡◌, ℕ, List, [], ◌∷◌, ◌++◌, map, refl, ap, sym, ◌∙◌, Bool, true, false, cond}
use Rattle.std.specs.Prelude.{Some}
use Rattle.heco_written.specs.VectorTerm.{Added}
use Rattle.heco_written.specs.WrittenForm.{Place, Run, run_of, longer, continues, runs_from, runs, folded, aligned, added_to, sum_at, sum_of_runs, beside, with_constant}

module _ (slots : ℕ) where
  -- runs with one more place
  abbrev extended : List Run → Place → List Run
  extended [] p = run_of p ∷ []
  extended (r ∷ []) p = cond (continues slots r p) (longer r ∷ []) (r ∷ run_of p ∷ [])
  extended (r ∷ s ∷ rs) p = r ∷ extended (s ∷ rs) p

  some_run : (r : Run) (ps : List Place) → (s : Run) × (rs : List Run) × (runs_from slots r ps ≡ s ∷ rs)
  some_run r [] = (r, [], refl)
  some_run r (p ∷ ps) = by (continues slots r p) (some_run (longer r) ps)
    where
      by : (t : Bool) → (s : Run) × (rs : List Run) × (runs_from slots (longer r) ps ≡ s ∷ rs)
          → (s : Run) × (rs : List Run) × (cond t (runs_from slots (longer r) ps) (r ∷ runs_from slots (run_of p) ps) ≡ s ∷ rs)
      by true a = a
      by false a = (r, runs_from slots (run_of p) ps, refl)

  extended-past : (r : Run) (rs : List Run) (p : Place) → (s : Run) × (ss : List Run) × (rs ≡ s ∷ ss) → extended (r ∷ rs) p ≡ r ∷ extended rs p
  extended-past r rs p (s, ss, e) = rw e refl

  runs_from-pushed : (r : Run) (ps : List Place) (p : Place) → runs_from slots r (ps ++ p ∷ []) ≡ extended (runs_from slots r ps) p
  runs_from-pushed r [] p = refl
  runs_from-pushed r (q ∷ ps) p = by (continues slots r q) (runs_from-pushed (longer r) ps p) (runs_from-pushed (run_of q) ps p)
    where
      by : (t : Bool) → runs_from slots (longer r) (ps ++ p ∷ []) ≡ extended (runs_from slots (longer r) ps) p
          → runs_from slots (run_of q) (ps ++ p ∷ []) ≡ extended (runs_from slots (run_of q) ps) p
          → cond t (runs_from slots (longer r) (ps ++ p ∷ [])) (r ∷ runs_from slots (run_of q) (ps ++ p ∷ []))
          ≡ extended (cond t (runs_from slots (longer r) ps) (r ∷ runs_from slots (run_of q) ps)) p
      by true a b = a
      by false a b = ap (λ x. r ∷ x) b ∙ sym (extended-past r (runs_from slots (run_of q) ps) p (some_run (run_of q) ps))

  runs-pushed : (ps : List Place) (p : Place) → runs slots (ps ++ p ∷ []) ≡ extended (runs slots ps) p
  runs-pushed [] p = refl
  runs-pushed (q ∷ ps) p = runs_from-pushed (run_of q) ps p

  extended-last : (closed : List Run) (open_run : Run) (p : Place)
      → extended (closed ++ open_run ∷ []) p ≡ cond (continues slots open_run p) (closed ++ longer open_run ∷ []) ((closed ++ open_run ∷ []) ++ run_of p ∷ [])
  extended-last [] r p = refl
  extended-last (c ∷ closed) r p =
      extended-past c (closed ++ r ∷ []) p (last closed) ∙ ap (λ x. c ∷ x) (extended-last closed r p) ∙ by (continues slots r p)
    where
      last : (closed : List Run) → (s : Run) × (ss : List Run) × (closed ++ r ∷ [] ≡ s ∷ ss)
      last [] = (r, [], refl)
      last (d ∷ ds) = (d, ds ++ r ∷ [], refl)

      by : (t : Bool) → c ∷ cond t (closed ++ longer r ∷ []) ((closed ++ r ∷ []) ++ run_of p ∷ [])
          ≡ cond t (c ∷ (closed ++ longer r ∷ [])) (c ∷ ((closed ++ r ∷ []) ++ run_of p ∷ []))
      by true = refl
      by false = refl

  -- a place more makes the open run longer, or opens a new one
  pub runs-push : (ps : List Place) (p : Place) (closed : List Run) (open_run : Run) → runs slots ps ≡ closed ++ open_run ∷ []
      → runs slots (ps ++ p ∷ []) ≡ cond (continues slots open_run p) (closed ++ longer open_run ∷ []) ((closed ++ open_run ∷ []) ++ run_of p ∷ [])
  runs-push ps p closed r e = runs-pushed ps p ∙ ap (λ x. extended x p) e ∙ extended-last closed r p

  pub runs-first : (ps : List Place) (p : Place) → runs slots ps ≡ [] → runs slots (ps ++ p ∷ []) ≡ run_of p ∷ []
  runs-first ps p e = runs-pushed ps p ∙ ap (λ x. extended x p) e

  added_to-push : (p : Place) (qs : List Place) (q : Place) → added_to slots p (qs ++ q ∷ []) ≡ beside slots (Some (added_to slots p qs)) q
  added_to-push p [] q = refl
  added_to-push p (x ∷ qs) q = added_to-push (record { vector = Added p.vector (aligned slots p x); slot = p.slot }) qs q

  map-push : (rs : List Run) (r : Run) → map folded (rs ++ r ∷ []) ≡ map folded rs ++ folded r ∷ []
  map-push [] r = refl
  map-push (s ∷ rs) r = ap (λ x. folded s ∷ x) (map-push rs r)

  -- the sum of runs with one more
  pub sum_of_runs-push : (rs : List Run) (r : Run) → sum_of_runs slots (rs ++ r ∷ []) ≡ Some (beside slots (sum_of_runs slots rs) (folded r))
  sum_of_runs-push [] r = refl
  sum_of_runs-push (s ∷ rs) r = ap Some (ap (added_to slots (folded s)) (map-push rs r) ∙ added_to-push (folded s) (map folded rs) (folded r))

  pub sum_at-is : (c : ℕ) (rs : List Run) → sum_at slots c rs ≡ with_constant c (sum_of_runs slots rs)
  sum_at-is c [] = refl
  sum_at-is c (r ∷ rs) = refl
