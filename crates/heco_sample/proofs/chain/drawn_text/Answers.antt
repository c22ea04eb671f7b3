use Rattle.std.proofs.Common.{◌∙◌, length, refl, ap, subst}
use Rattle.heco_end_to_end.specs.EndToEnd.{IsRunnable}
use Rattle.heco_exec.proofs.ChainLaws.{can_run}
use Rattle.heco_headline.specs.Exec.{text_of}
use Rattle.heco_nums.specs.declared.preset.Preset.{Preset}
use Rattle.heco_nums.specs.PresetRows.{preset_of}
use Rattle.heco_sample.specs.Drawn.{drawn_words}
use Rattle.heco_tasks.specs.DrawnFiles.{drawn_material}
use Rattle.heco_sample.proofs.chain.drawn_text.Goals as goal

pub chain_text-requires-clause-runs : goal.chain_text-requires-clause-runs
chain_text-requires-clause-runs g c =
    let circuit = c.args.circuit.now in
    let p : Preset = preset_of circuit.preset in
    can_run circuit c.in_ok-k.k p (length circuit.inputs) c.in_ok-material.material.rows c.args.values.now.rows c.preset-valid.ensures.valid c.in_ok-k.ensures.kept refl refl c.in_ok-material.ensures.within c.requires.fit

pub returns-clause-runs : goal.returns-clause-runs
returns-clause-runs g c =
    let circuit = c.args.circuit.now in
    let p : Preset = preset_of circuit.preset in
    subst (λ rows. IsRunnable p circuit (drawn_material circuit c.args.seed) (drawn_words circuit c.args.seed) rows) c.requires.rows
    (subst (λ words. IsRunnable p circuit (drawn_material circuit c.args.seed) words c.args.values.now.rows) c.in_ok-material.ensures.words
    (subst (λ k. IsRunnable p circuit k c.in_ok-material.material.rows c.args.values.now.rows) c.in_ok-k.ensures.words
    (can_run circuit c.in_ok-k.k p (length circuit.inputs) c.in_ok-material.material.rows c.args.values.now.rows c.preset-valid.ensures.valid c.in_ok-k.ensures.kept refl refl c.in_ok-material.ensures.within c.requires.fit)))

pub returns-clause-text : goal.returns-clause-text
returns-clause-text g c =
    let circuit = c.args.circuit.now in
    c.in_ok-text.ensures.text ∙ ap (λ k. text_of circuit k c.in_ok-material.material.rows c.args.values.now.rows) c.in_ok-k.ensures.words
    ∙ ap (λ words. text_of circuit (drawn_material circuit c.args.seed) words c.args.values.now.rows) c.in_ok-material.ensures.words
    ∙ ap (text_of circuit (drawn_material circuit c.args.seed) (drawn_words circuit c.args.seed)) c.requires.rows
