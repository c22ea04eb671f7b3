use Rattle.std.proofs.Common.{◌≡◌, ◌∙◌, ap}
use Rattle.heco_meaning.specs.Meanings.{filled}
use Rattle.heco_nums.specs.declared.preset.Preset.{Preset}
use Rattle.heco_run_laws.proofs.RowsOfMessages.{filled_below}
use Rattle.heco_products.specs.Encrypting.{encrypted_message}
use Rattle.heco_products.proofs.encrypting_pairs.encrypt_pair.Goals as goal

pub encrypt_two-requires-clause-first_below : goal.encrypt_two-requires-clause-first_below
encrypt_two-requires-clause-first_below c =
    let is : c.as_slice.result.now ≡ filled c.args.key.now.preset.slots c.args.first.now = c.as_slice.ensures ∙ c.in_ok-first.ensures ∙ ap (λ (p : Preset). filled p.slots c.args.first.now) c.preset.ensures in
    rw is (filled_below c.args.key.now.preset c.args.first.now c.requires.first)

pub encrypt_two-requires-clause-second_below : goal.encrypt_two-requires-clause-second_below
encrypt_two-requires-clause-second_below c =
    let is : c.as_slice-2.result.now ≡ filled c.args.key.now.preset.slots c.args.second.now = c.as_slice-2.ensures ∙ c.in_ok-second.ensures ∙ ap (λ (p : Preset). filled p.slots c.args.second.now) c.preset.ensures in
    rw is (filled_below c.args.key.now.preset c.args.second.now c.requires.second)

pub returns-clause-formula : goal.returns-clause-formula
unfolding encrypted_message
returns-clause-formula c =
    let first : c.as_slice.result.now ≡ filled c.args.key.now.preset.slots c.args.first.now = c.as_slice.ensures ∙ c.in_ok-first.ensures ∙ ap (λ (p : Preset). filled p.slots c.args.first.now) c.preset.ensures in
    let second : c.as_slice-2.result.now ≡ filled c.args.key.now.preset.slots c.args.second.now = c.as_slice-2.ensures ∙ c.in_ok-second.ensures ∙ ap (λ (p : Preset). filled p.slots c.args.second.now) c.preset.ensures in
    rw (first, second) at c.encrypt_two.ensures.formula
