-- The run of a circuit as files and key lists tell it: its keys, what it asks of them, and the parts of its inputs.
use Rattle.std.proofs.Common.{◌≡◌, ◌≢◌, ◌∙◌, ◌<◌, ◌&&◌, not, ℕ, Bool, true, false, List, length, Option, Some, None, Err, refl, sym, ap, subst, inl}
use Rattle.std.specs.Prelude.{if◌then◌else◌}
use Rattle.std.specs.Option.{option_map}
use Rattle.std.proofs.lemmas.Bool.{eq-eqb}
use Rattle.std.proofs.lemmas.List.Elements.{All-get_or}
use Rattle.std.proofs.lemmas.Option.{get_or_from_slice_get, slice_get_within}
use Rattle.heco_circuit.specs.Needs.{needs_relin, needed_turns}
use Rattle.heco_circuit.specs.Plans.{Plan as Circuit}
use Rattle.heco_ciphertext_files.specs.CiphertextFiles.{AreCiphertexts, IsTwoParts}
use Rattle.heco_key_files.specs.KeyFiles.{EvalLists, lists_of}
use Rattle.heco_keys.specs.declared.eval.Eval.{Eval}
use Rattle.heco_nums.specs.MaterialBounds.{AreWords}
use Rattle.heco_products.specs.Results.{keys_of}
use Rattle.heco_run_laws.specs.Runs.{Ciphertext}
use Rattle.heco_run.specs.Making.{keys_of as run_keys}
use Rattle.heco_run.specs.Refusals.{missing_turn, opening_refusal, IsCause}
use Rattle.heco_run.specs.Shapes.{AreTwoParts as AreInputs}
use Rattle.heco_run.specs.declared.error.RunErr.{RunErr}
use Rattle.heco_run.specs.declared.error.RunErr.TheVariants as opening
use Rattle.heco_jobs.specs.Laws.{IsLeft}
use Rattle.heco_jobs.specs.Stages.{Settles}
use Rattle.heco_jobs.specs.declared.outcome.Outcome.{Outcome}
use Rattle.heco_jobs.specs.declared.outcome.Outcome.TheVariants.{Ok as Fine, Refused, ReadFault, WriteFault, Memory}
use Rattle.heco_jobs.specs.declared.outcome.Refusal.{Refusal}
use Rattle.heco_jobs.specs.declared.outcome.Refusal.TheVariants.{Usage, MissingRelin, MissingKey}
use Rattle.heco_tasks.specs.Running.{key_refusal, HasKeys, IsKeyRefusal, run_answer}

-- what was not touched is left
pub left_alone : {O : Type 0} (o : Outcome) (x : O) → IsLeft o x x
left_alone Fine x = tt
left_alone (Refused r) x = refl
left_alone (ReadFault k) x = refl
left_alone (WriteFault k) x = tt
left_alone Memory x = tt

-- ---- the keys of a run

-- those of the key's lists are the key's own
pub same_keys : (e : Eval) → run_keys e ≡ keys_of (lists_of e)
unfolding run_keys
same_keys e = refl

-- ---- the inputs

pub read_inputs_fit : (n count : ℕ) (cs : List Ciphertext) → AreCiphertexts n count cs → AreInputs n cs
read_inputs_fit n count cs h wire c at =
    let within : wire < length cs = slice_get_within cs wire c at in
    let two = subst (IsTwoParts n) (get_or_from_slice_get cs wire c c at) (All-get_or (IsTwoParts n) cs wire c within h.each) in
    record {
      ciphertext = record { places = λ i l. (All-get_or (AreWords n) c i _ l two.parts).long; count = inl two.two };
      count = two.two;
    }

-- ---- the keys

abbrev opened : Bool → Option ℕ → Option RunErr
opened lacks missing = if lacks then Some opening.MissingRelin else option_map (λ r. opening.MissingKey r) missing

abbrev refused : Bool → Option ℕ → Option Refusal
refused lacks missing = if lacks then Some MissingRelin else option_map (λ r. MissingKey r) missing

none_missing : (lacks : Bool) (missing : Option ℕ) → opened lacks missing ≡ None → refused lacks missing ≡ None
none_missing true missing h = absurd (let no : ⊥ = cc in no)
none_missing false None h = refl
none_missing false (Some r) h = absurd (let no : ⊥ = cc in no)

none_refused : (lacks : Bool) (missing : Option ℕ) → refused lacks missing ≡ None → opened lacks missing ≡ None
none_refused true missing h = absurd (let no : ⊥ = cc in no)
none_refused false None h = refl
none_refused false (Some r) h = absurd (let no : ⊥ = cc in no)

-- a key that is missing, and only that
abbrev SettlesKey : Option Refusal → Outcome → Type 0
SettlesKey refusal o = Settles {Thing = Unit {0}} (λ u. refusal ≡ None) (λ r. refusal ≡ Some r) (Err o)

key_missing : (lacks : Bool) (missing : Option ℕ) (why : RunErr) → IsCause why (opened lacks missing) → SettlesKey (refused lacks missing) (run_answer why)
key_missing lacks missing opening.Memory h = tt
key_missing true missing opening.MissingRelin h = ((λ u none. let no : ⊥ = cc in no), refl)
key_missing true missing (opening.MissingKey r) h = absurd (let no : ⊥ = cc in no)
key_missing true missing (opening.Count want found) h = absurd (let no : ⊥ = cc in no)
key_missing false None opening.MissingRelin h = absurd (let no : ⊥ = cc in no)
key_missing false None (opening.MissingKey r) h = absurd (let no : ⊥ = cc in no)
key_missing false None (opening.Count want found) h = absurd (let no : ⊥ = cc in no)
key_missing false (Some k) opening.MissingRelin h = absurd (let no : ⊥ = cc in no)
key_missing false (Some k) (opening.MissingKey r) h = ((λ u none. let no : ⊥ = cc in no), (let same : k ≡ r = cc in ap (λ n. Some (MissingKey n)) same))
key_missing false (Some k) (opening.Count want found) h = absurd (let no : ⊥ = cc in no)

module _ (c : Circuit) (e : Eval) where
  abbrev lacking : Bool
  lacking = needs_relin c && not e.needs.relin

  abbrev missing : Option ℕ
  missing = missing_turn (needed_turns c) e.needs.turns

  -- with as many ciphertexts as inputs a run is refused for its keys alone
  opening_is : (found : ℕ) → found ≡ length c.inputs → opening_refusal c e.needs found ≡ opened lacking missing
  unfolding opening_refusal
  opening_is found same = ap (λ b. if not b then Some (opening.Count (length c.inputs) found) else opened lacking missing) (eq-eqb found (length c.inputs) same)

  pub opens : (found : ℕ) → found ≡ length c.inputs → opening_refusal c e.needs found ≡ None → HasKeys c (lists_of e)
  unfolding key_refusal
  opens found same h = none_missing lacking missing (sym (opening_is found same) ∙ h)

  pub not_refused : (found : ℕ) → found ≡ length c.inputs → HasKeys c (lists_of e) → opening_refusal c e.needs found ≡ None
  unfolding key_refusal
  not_refused found same h = opening_is found same ∙ none_refused lacking missing h

  pub opens_not : (found : ℕ) → found ≡ length c.inputs → (why : RunErr) → IsCause why (opening_refusal c e.needs found)
      → Settles {Thing = Unit {0}} (λ u. HasKeys c (lists_of e)) (IsKeyRefusal c (lists_of e)) (Err (run_answer why))
  unfolding key_refusal
  opens_not found same why h = key_missing lacking missing why (subst (IsCause why) (opening_is found same) h)

-- where nothing is refused, memory alone may be wanting
pub only_memory : (why : RunErr) (refusal : Option RunErr) → refusal ≡ None → IsCause why refusal → why ≡ opening.Memory
only_memory opening.Memory refusal none h = refl
only_memory opening.MissingRelin refusal none h = absurd (let no : ⊥ = cc in no)
only_memory (opening.MissingKey r) refusal none h = absurd (let no : ⊥ = cc in no)
only_memory (opening.Count want found) refusal none h = absurd (let no : ⊥ = cc in no)

-- ---- Usage is no reason to refuse a key

never_usage : (lacks : Bool) (missing : Option ℕ) → refused lacks missing ≢ Some Usage
never_usage true missing h = cc
never_usage false None h = cc
never_usage false (Some r) h = cc

pub usage_is_none : (c : Circuit) (e : EvalLists) → IsKeyRefusal c e Usage → ⊥
unfolding key_refusal
usage_is_none c e h = never_usage (needs_relin c && not e.relin) (missing_turn (needed_turns c) e.turns) h
