use Rattle.std.proofs.Common.{◌∙◌, length, subst}
use Rattle.heco_material.specs.KeyLists.{IsEncMaterial}
use Rattle.heco_nums.specs.declared.preset.Preset.{Preset}
use Rattle.heco_sample.proofs.DrawnMaterial.{words_are_drawn}
use Rattle.heco_sample.proofs.drawn.words.Goals as goal

pub returns-clause-kept : goal.returns-clause-kept
returns-clause-kept c = c.in_ok-words.ensures.kept ∙ c.preset.ensures.whole

pub returns-clause-words : goal.returns-clause-words
returns-clause-words c =
    words_are_drawn c.args.circuit.now c.preset.result.now c.args.seed c.preset.ensures.preset c.input_count.result c.in_ok-words.words.rows c.input_count.ensures c.in_ok-words.ensures.words

pub returns-clause-within : goal.returns-clause-within
returns-clause-within c =
    subst (λ (p : Preset). IsEncMaterial p.n p.h p.b (length c.args.circuit.now.inputs) c.in_ok-words.words.rows) c.preset.ensures.whole
    (subst (λ n. let p = c.preset.result.now in IsEncMaterial p.n p.h p.b n c.in_ok-words.words.rows) c.input_count.ensures c.in_ok-words.ensures.within)
