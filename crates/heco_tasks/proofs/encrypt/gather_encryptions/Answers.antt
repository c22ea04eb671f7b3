use Rattle.std.proofs.Common.{length, refl, subst, inl, inr, Ok, Err}
use Rattle.std.proofs.lemmas.Result.{err_from_is_err_and}
use Rattle.heco_jobs.specs.Words.{texts}
use Rattle.heco_key_files.specs.KeyFiles.{lists_of}
use Rattle.heco_jobs.specs.Stages.{IsThingRead}
use Rattle.heco_jobs.proofs.StageLaws.{gathered_on, gathered_stopped}
use Rattle.heco_reads.specs.MaterialFiles.{SpellsEncryptions, IsEncryptionsRefusal}
use Rattle.heco_tasks.specs.CircuitTasks.{encrypt_plan, encryptions_job, inputs_job}
use Rattle.heco_material.specs.KeyLists.{IsEncMaterial}
use Rattle.heco_tasks.proofs.encrypt.gather_encryptions.Goals as goal

pub gather_values-requires-clause-within : goal.gather_values-requires-clause-within
gather_values-requires-clause-within g c = let q = c.args.preset.now in subst (λ n. IsEncMaterial q.n q.h q.b n c.in_ok-material.material.rows) c.input_count-count.ensures c.in_ok-material.ensures.within

pub returns-in_err-material : goal.returns-in_err-material
unfolding encryptions_job
returns-in_err-material g c = λ agents.
    let q = c.args.preset.now in
    let n = length c.args.circuit.now.inputs in
    let o = c.in_err-material.field-0.0 in
    let p = err_from_is_err_and c.from_residual.result c.from_residual.ensures.1 in
    rw (p.1, p.2) (gathered_stopped g.S.Store (texts c.args.words.now) encrypt_plan 3 (SpellsEncryptions q n) (IsEncryptionsRefusal 3 q n) (inputs_job agents q c.args.circuit.now (lists_of c.args.key.now)) agents
    c.args.store.now c.read_encryptions.new.store o (inr (inr (inl refl)))
    (subst (λ m. IsThingRead g.S.Store (texts c.args.words.now) 3 (SpellsEncryptions q m) (IsEncryptionsRefusal 3 q m) c.args.store.now c.read_encryptions.new.store (Err o)) c.input_count-count.ensures c.in_err-material.ensures.read))

pub returns : goal.returns
unfolding encryptions_job
returns g c = λ agents.
    let q = c.args.preset.now in
    let n = length c.args.circuit.now.inputs in
    let rows = c.in_ok-material.material.rows in
    gathered_on g.S.Store (texts c.args.words.now) encrypt_plan 3 (SpellsEncryptions q n) (IsEncryptionsRefusal 3 q n) (inputs_job agents q c.args.circuit.now (lists_of c.args.key.now)) agents
    c.args.store.now c.read_encryptions.new.store c.gather_values.new.store rows c.gather_values.result
    (subst (λ m. IsThingRead g.S.Store (texts c.args.words.now) 3 (SpellsEncryptions q m) (IsEncryptionsRefusal 3 q m) c.args.store.now c.read_encryptions.new.store (Ok rows)) c.input_count-count.ensures c.in_ok-material.ensures.read)
    (c.gather_values.ensures agents)
