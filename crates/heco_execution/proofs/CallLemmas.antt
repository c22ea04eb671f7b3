-- The definitions behind one another: what a call means, and the room that it takes.
use Rattle.std.proofs.Common.{◌≡◌, ◌∙◌, refl, ap, ℕ, zero, suc, ◌+◌, ◌*◌, ◌<◌, Bool, true, false, List, [], ◌∷◌, take, Option, Some, None, pos, Ok, arith, slice_get}
use Rattle.std.specs.Str.{bytes_eq}
use Rattle.heco_syntax.specs.declared.tree.Def.{Def}
use Rattle.heco_syntax.specs.declared.tree.Expr.{size-Expr}
use Rattle.heco_execution.specs.declared.progress.Progress.{Progress}
use Rattle.heco_execution.specs.declared.value.Value.{Value}
use Rattle.heco_execution.specs.declared.value.Value.TheVariants.{Public}
use Rattle.heco_execution.specs.Definitions.{last_of, last_named}
use Rattle.heco_execution.proofs.Room.{room}
use Rattle.heco_execution.specs.Secrets.{Stored}
use Rattle.heco_execution.specs.Evaluation.{Calls, no_calls, meaning, with_definition, definitions_after, calls_of}

module _ {S V : Type 0} (ops : Stored S V) where
  -- behind these calls: the last definition of the name, over those before it, and else what there was
  abbrev call_at : Calls S V → List Def → List ℕ → Option ℕ → List (Value V) → Progress S → Type 0
  call_at calls ds name (Some k) vs p = (d : Def) → slice_get ds k ≡ Some d → definitions_after ops calls ds name vs p ≡ meaning ops (definitions_after ops calls (take k ds)) d vs p
  call_at calls ds name None vs p = definitions_after ops calls ds name vs p ≡ calls name vs p

  called_last : (calls : Calls S V) (ds : List Def) (name : List ℕ) (vs : List (Value V)) (p : Progress S) → call_at calls ds name (last_named name ds) vs p
  called_last calls [] name vs p = refl
  called_last calls (e ∷ ds) name vs p = by (last_named name ds) (bytes_eq e.name.text name) refl (called_last (with_definition ops calls e) ds name vs p)
    where
      by : (r : Option ℕ) (here : Bool) → bytes_eq e.name.text name ≡ here → call_at (with_definition ops calls e) ds name r vs p → call_at calls (e ∷ ds) name (last_of r here) vs p
      by (Some k) here f h = h
      by None true f h = λ d at. (let same : e ≡ d = cc in h ∙ (rw f (ap (λ x. meaning ops calls x vs p) same)))
      by None false f h = h ∙ (rw f refl)

  -- a call means the last definition of its name, over the definitions before that
  pub call_last : (ds : List Def) (k : ℕ) (d : Def) (name : List ℕ) (vs : List (Value V)) (p : Progress S) → last_named name ds ≡ Some k → slice_get ds k ≡ Some d
      → calls_of ops ds name vs p ≡ meaning ops (calls_of ops (take k ds)) d vs p
  unfolding calls_of
  call_last ds k d name vs p is at = (rw is at (called_last no_calls ds name vs p)) d at

  pub call_none : (ds : List Def) (name : List ℕ) (vs : List (Value V)) (p : Progress S) → last_named name ds ≡ None → calls_of ops ds name vs p ≡ Ok (Public (pos 0), p)
  unfolding calls_of
  call_none ds name vs p is = rw is at (called_last no_calls ds name vs p)

-- a definition and those before it have room in the whole
pub room_at : (ds : List Def) (k : ℕ) (d : Def) → slice_get ds k ≡ Some d → room (take k ds) + 3 * size-Expr d.value + 3 < room ds
room_at [] k d at = absurd (cc)
room_at (e ∷ ds) zero d at = let same : e ≡ d = cc in let size : size-Expr e.value ≡ size-Expr d.value = ap (λ x. size-Expr x.value) same in omega arith
room_at (e ∷ ds) (suc k) d at = let rest = room_at ds k d at in omega arith
