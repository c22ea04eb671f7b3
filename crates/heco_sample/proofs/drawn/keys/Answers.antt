use Rattle.std.proofs.Common.{◌≡◌, ◌∙◌, ◌+◌, length, sym, ap, subst, if◌then◌else◌}
use Rattle.heco_exec.proofs.KeyLaws.{keys_for_circuit}
use Rattle.heco_material.specs.KeyLists.{IsKeyMaterial, key_count, lists_of}
use Rattle.heco_nums.specs.declared.needs.KeyNeeds.{KeyNeeds}
use Rattle.heco_nums.specs.declared.preset.Preset.{Preset}
use Rattle.heco_tasks.proofs.KeyLaws.{count_is}
use Rattle.heco_sample.proofs.DrawnMaterial.{keys_are_drawn}
use Rattle.heco_sample.proofs.drawn.keys.Goals as goal

same_count : (a b : KeyNeeds) → a.relin ≡ b.relin → a.turns ≡ b.turns → key_count a ≡ key_count b
same_count a b relin turns = ap (λ r. (if r then 1 else 0) + length a.turns) relin ∙ ap (λ t. (if b.relin then 1 else 0) + length t) turns

pub returns-clause-kept : goal.returns-clause-kept
returns-clause-kept c =
    let kept = c.in_ok-k.ensures.kept in
    keys_for_circuit c.args.circuit.now c.preset.result.now c.in_ok-k.k kept.0 c.preset.ensures.whole (kept.1 ∙ c.in_ok-needs.ensures.relin) (kept.2 ∙ c.in_ok-needs.ensures.turns)
    (subst (λ (p : Preset). IsKeyMaterial p.n p.h p.b (key_count c.in_ok-k.k.needs) (lists_of c.in_ok-k.k)) (sym kept.0)
    (subst (λ n. let p = c.preset.result.now in IsKeyMaterial p.n p.h p.b n (lists_of c.in_ok-k.k)) (same_count c.in_ok-needs.needs c.in_ok-k.k.needs (sym kept.1) (sym kept.2)) c.in_ok-k.ensures.within))

pub returns-clause-words : goal.returns-clause-words
returns-clause-words c =
    keys_are_drawn c.args.circuit.now c.preset.result.now c.args.seed c.preset.ensures.preset (key_count c.in_ok-needs.needs) (lists_of c.in_ok-k.k)
    (count_is c.args.circuit.now c.in_ok-needs.needs c.in_ok-needs.ensures.relin c.in_ok-needs.ensures.turns) c.in_ok-k.ensures.words
