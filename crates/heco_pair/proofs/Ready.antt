-- What is given for `pair` has no refusal due, and is there.
use Rattle.std.proofs.Common.{subst, ℕ, List}
use Rattle.heco_material.specs.KeyLists.{KeyLists}
use Rattle.heco_material.specs.declared.words.EncRow.{EncRow}
use Rattle.heco_nums.specs.declared.shape.Values.{Values}
use Rattle.heco_sources.specs.Sources.{IsSource}
use Rattle.heco_sources.proofs.SourceLaws.{one_source}
use Rattle.heco_syntax.specs.declared.tree.Source.{Source}
use Rattle.heco_jobs.specs.Agents.{Agents}
use Rattle.heco_jobs.specs.Laws.{IsClear, HasFiles}
use Rattle.heco_jobs.specs.Outsides.{Files}
use Rattle.heco_exec.proofs.Ready.{at_text}
use Rattle.heco_pair.specs.Headline.{ArePairGiven}
use Rattle.heco_pair.specs.Laws.{GivenIsReady}
use Rattle.heco_pair.specs.PairTask.{pair_job, accepted_job, first_job, second_job, keys_job, encryptions_job}

module _ (words : List (List ℕ)) (agents : Agents) (file : Files) where
  module _ (source : Source) (first second : Values) (keys : KeyLists) (material : List EncRow) (given : ArePairGiven words file source first second keys material) where
    clear_encryptions : (v w : Values) (k : KeyLists) → IsClear words (encryptions_job agents source v w k) file
    unfolding IsClear encryptions_job
    clear_encryptions v w k = λ text there. ((material, at_text words file 5 _ material given.emat text there), λ x fits. tt)

    clear_keys : (v w : Values) → IsClear words (keys_job agents source v w) file
    unfolding IsClear keys_job
    clear_keys v w = λ text there. ((keys, at_text words file 4 _ keys given.kmat text there), λ k fits. clear_encryptions v w k)

    clear_second : (v : Values) → IsClear words (second_job agents source v) file
    unfolding IsClear second_job
    clear_second v = λ text there. ((second, at_text words file 3 _ second given.second_inputs text there), λ w fits. clear_keys v w)

    clear_first : IsClear words (first_job agents source) file
    unfolding IsClear first_job
    clear_first = λ text there. ((first, at_text words file 2 _ first given.first_inputs text there), λ v fits. clear_second v)

    clear_accepted : IsClear words (accepted_job agents source) file
    unfolding IsClear accepted_job
    clear_accepted = ((tt, given.accepted), λ u h. clear_first)

    pub clear : IsClear words (pair_job agents) file
    unfolding IsClear pair_job
    clear = λ text there.
        let here : IsSource text source = at_text words file 1 IsSource source given.src text there in
        ((source, here), λ s fits. subst (λ x. IsClear words (accepted_job agents x) file) (one_source text source s here fits) clear_accepted)

    has_encryptions : (v w : Values) (k : KeyLists) → HasFiles words (encryptions_job agents source v w k) file
    unfolding HasFiles encryptions_job
    has_encryptions v w k = (given.emat.text, (given.emat.there, λ x fits. tt))

    has_keys : (v w : Values) → HasFiles words (keys_job agents source v w) file
    unfolding HasFiles keys_job
    has_keys v w = (given.kmat.text, (given.kmat.there, λ k fits. has_encryptions v w k))

    has_second : (v : Values) → HasFiles words (second_job agents source v) file
    unfolding HasFiles second_job
    has_second v = (given.second_inputs.text, (given.second_inputs.there, λ w fits. has_keys v w))

    has_first : HasFiles words (first_job agents source) file
    unfolding HasFiles first_job
    has_first = (given.first_inputs.text, (given.first_inputs.there, λ v fits. has_second v))

    has_accepted : HasFiles words (accepted_job agents source) file
    unfolding HasFiles accepted_job
    has_accepted = λ u h. has_first

    pub has : HasFiles words (pair_job agents) file
    unfolding HasFiles pair_job
    has = (given.src.text, (given.src.there, λ s fits. subst (λ x. HasFiles words (accepted_job agents x) file) (one_source given.src.text source s given.src.fits fits) has_accepted))

pub given_is_ready : GivenIsReady
given_is_ready words agents file source first second keys material given =
    (clear words agents file source first second keys material given, has words agents file source first second keys material given)
