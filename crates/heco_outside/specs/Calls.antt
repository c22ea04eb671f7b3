-- What a call leaves in the list of a store's calls, what a read gives, and what a write sets.
use Rattle.std.specs.Prelude.{◌≡◌, ◌≢◌, ℕ, Bool, true, false, List, [], ◌∷◌, ◌++◌, take, Result, OnOk, Ok, Err, Some, None}
use Rattle.std.specs.Borrow.{Bor}
use Rattle.std.specs.List.{flat_map}
use Rattle.std.specs.Option.{option_map}
use Rattle.std.specs.declared.option.Option.{Option}
use Rattle.heco_outside.specs.declared.store.StoreErr.{StoreErr}
use Rattle.heco_outside.specs.declared.store.StoreErr.TheVariants.{Failed, Memory}
use Rattle.heco_outside.specs.declared.store.Call.{Call}
use Rattle.heco_outside.specs.declared.store.CallKind.{CallKind}

abbrev pub call : CallKind → List ℕ → Bool → Call
call k n f = record { kind = k; name = n; failed = f }

-- a call that was answered stands at the end of the list; want of memory leaves the list
abbrev pub Logs : {T : Type 0} → CallKind → List ℕ → List Call → List Call → Result T StoreErr → Type 0
Logs k n old new (Ok v) = new ≡ old ++ call k n false ∷ []
Logs k n old new (Err Failed) = new ≡ old ++ call k n true ∷ []
Logs k n old new (Err Memory) = new ≡ old

-- the file is there, and these are its first bytes, as many as asked for
abbrev pub GivesFile : Option (List ℕ) → ℕ → List ℕ → Type 0
GivesFile content limit bytes = option_map (λ c. take limit c) content ≡ Some bytes

-- nothing where the file is absent, and else its first bytes
abbrev pub GivesPart : Option (List ℕ) → ℕ → Option (List ℕ) → Type 0
GivesPart content limit (Some bytes) = GivesFile content limit bytes
GivesPart content limit None = content ≡ None

-- the named file has these bytes, and all others are as before
pub record HasSet (old : List ℕ → Option (List ℕ)) (name bytes : List ℕ) (new : List ℕ → Option (List ℕ)) : Type 0 where
  pub same : new name ≡ Some bytes
  pub others : (other : List ℕ) → other ≢ name → new other ≡ old other

-- the bytes taken grew by a prefix of the piece
pub record GrowsByPrefix (old new piece : List ℕ) : Type 0 where
  pub front : List ℕ
  pub left : List ℕ
  pub grew : new ≡ old ++ front
  pub parts : piece ≡ front ++ left

-- at Ok the whole piece was taken, and else a prefix of it
pub record Wrote {E : Type 0} (old new piece : List ℕ) (result : Result (Unit {0}) E) : Type 0 where
  pub whole : OnOk result (new ≡ old ++ piece)
  pub prefix : GrowsByPrefix old new piece

-- the same of the bytes that a writer holds, where those are known
abbrev pub HeldWrote : {E : Type 0} → Option (List ℕ) → Option (List ℕ) → List ℕ → Result (Unit {0}) E → Type 0
HeldWrote None new piece result = Unit {0}
HeldWrote (Some old) None piece result = ⊥
HeldWrote (Some old) (Some new) piece result = Wrote old new piece result

-- the pieces one after another
abbrev pub joined : List (Bor (List ℕ)) → List ℕ
joined pieces = flat_map (λ p. p.now) pieces
