-- What is given for `exec` has no refusal due, and is there.
use Rattle.std.proofs.Common.{◌≡◌, ◌∙◌, sym, subst, ℕ, List, Some}
use Rattle.std.proofs.lemmas.Option.{same_Some}
use Rattle.heco_material.specs.KeyLists.{KeyLists}
use Rattle.heco_material.specs.declared.words.EncRow.{EncRow}
use Rattle.heco_nums.specs.declared.shape.Values.{Values}
use Rattle.heco_sources.specs.Sources.{IsSource}
use Rattle.heco_sources.proofs.SourceLaws.{one_source}
use Rattle.heco_syntax.specs.declared.tree.Source.{Source}
use Rattle.heco_jobs.specs.Agents.{Agents}
use Rattle.heco_jobs.specs.Done.{IsReadAs}
use Rattle.heco_jobs.specs.Laws.{IsClear, HasFiles}
use Rattle.heco_jobs.specs.Outsides.{Files}
use Rattle.heco_jobs.specs.Words.{name_of}
use Rattle.heco_exec.specs.ExecTask.{exec_job, accepted_job, inputs_job, keys_job, encryptions_job}
use Rattle.heco_exec.specs.Headline.{AreGiven}
use Rattle.heco_exec.specs.Laws.{GivenIsReady}

-- what a file was read as, it can be read as whatever text is there
pub at_text : (words : List (List ℕ)) (file : Files) {Thing : Type 0} (which : ℕ) (Fits : List ℕ → Thing → Type 0) (x : Thing) → IsReadAs words file which Fits x → (text : List ℕ) → file (name_of words which) ≡ Some text → Fits text x
at_text words file which Fits x r text there = subst (λ t. Fits t x) (same_Some r.text text (sym r.there ∙ there)) r.fits

module _ (words : List (List ℕ)) (agents : Agents) (file : Files) where
  module _ (source : Source) (values : Values) (keys : KeyLists) (material : List EncRow) (given : AreGiven words file source values keys material) where
    clear_encryptions : (v : Values) (k : KeyLists) → IsClear words (encryptions_job agents source v k) file
    unfolding IsClear encryptions_job
    clear_encryptions v k = λ text there. ((material, at_text words file 4 _ material given.emat text there), λ x fits. tt)

    clear_keys : (v : Values) → IsClear words (keys_job agents source v) file
    unfolding IsClear keys_job
    clear_keys v = λ text there. ((keys, at_text words file 3 _ keys given.kmat text there), λ k fits. clear_encryptions v k)

    clear_inputs : IsClear words (inputs_job agents source) file
    unfolding IsClear inputs_job
    clear_inputs = λ text there. ((values, at_text words file 2 _ values given.inputs text there), λ v fits. clear_keys v)

    clear_accepted : IsClear words (accepted_job agents source) file
    unfolding IsClear accepted_job
    clear_accepted = ((tt, given.accepted), λ u h. clear_inputs)

    pub clear : IsClear words (exec_job agents) file
    unfolding IsClear exec_job
    clear = λ text there.
        let here : IsSource text source = at_text words file 1 IsSource source given.src text there in
        ((source, here), λ s fits. subst (λ x. IsClear words (accepted_job agents x) file) (one_source text source s here fits) clear_accepted)

    has_encryptions : (v : Values) (k : KeyLists) → HasFiles words (encryptions_job agents source v k) file
    unfolding HasFiles encryptions_job
    has_encryptions v k = (given.emat.text, (given.emat.there, λ x fits. tt))

    has_keys : (v : Values) → HasFiles words (keys_job agents source v) file
    unfolding HasFiles keys_job
    has_keys v = (given.kmat.text, (given.kmat.there, λ k fits. has_encryptions v k))

    has_inputs : HasFiles words (inputs_job agents source) file
    unfolding HasFiles inputs_job
    has_inputs = (given.inputs.text, (given.inputs.there, λ v fits. has_keys v))

    has_accepted : HasFiles words (accepted_job agents source) file
    unfolding HasFiles accepted_job
    has_accepted = λ u h. has_inputs

    pub has : HasFiles words (exec_job agents) file
    unfolding HasFiles exec_job
    has = (given.src.text, (given.src.there, λ s fits. subst (λ x. HasFiles words (accepted_job agents x) file) (one_source given.src.text source s given.src.fits fits) has_accepted))

pub given_is_ready : GivenIsReady
given_is_ready words agents file source values keys material given =
    (clear words agents file source values keys material given, has words agents file source values keys material given)
