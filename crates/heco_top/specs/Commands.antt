-- The commands: the rows of words, and the plan and the job of each. A later command adds a row here.
use Rattle.std.specs.Prelude.{ℕ, Bool, true, false, List, [], ◌∷◌, Option, Some, None, if◌then◌else◌, codes}
use Rattle.std.specs.Option.{option_map}
use Rattle.std.specs.Str.{bytes_eq}
use Rattle.heco_jobs.specs.Agents.{Agents}
use Rattle.heco_jobs.specs.Jobs.{Job}
use Rattle.heco_jobs.specs.Plans.{Plan}
use Rattle.heco_jobs.specs.Words.{are_distinct}
use Rattle.heco_exec.specs.ExecTask.{exec_plan, exec_job}
use Rattle.heco_pair.specs.PairTask.{pair_plan, pair_job}
use Rattle.heco_sample.specs.SampleTask.{sample_plan, sample_job}
use Rattle.heco_tasks.specs.CircuitTasks.{show_plan, draw_plan, keys_plan, encrypt_plan, run_plan, decrypt_plan, show_job}
use Rattle.heco_tasks.specs.CircuitTasks.{draw_job, keys_job, encrypt_job, run_job, decrypt_job}
use Rattle.heco_tasks.specs.MeasureTask.{measure_plan, measure_job}
use Rattle.heco_tasks.specs.SourceTasks.{plain_plan, plain_job, compile_plan, compile_job}
use Rattle.heco_top.specs.declared.command.Command.{Command}
use Rattle.heco_top.specs.declared.command.Command.TheVariants.{Plain, Compile, Show, Draw, Keys, Encrypt, Run, Decrypt, Measure, Exec, Pair, Sample}
use Rattle.heco_top.specs.Seeds.{seed_of}

-- ---- the rows of words

abbrev pub where_distinct : List (List ℕ) → Option Command → Option Command
where_distinct names command = if are_distinct names then command else None

-- plain SRC IN
abbrev pub plain_of : List (List ℕ) → Option Command
plain_of (source ∷ inputs ∷ []) = where_distinct (source ∷ inputs ∷ []) (Some Plain)
plain_of words = None

-- compile SRC CIR
abbrev pub compile_of : List (List ℕ) → Option Command
compile_of (source ∷ circuit ∷ []) = where_distinct (source ∷ circuit ∷ []) (Some Compile)
compile_of words = None

-- show CIR
abbrev pub show_of : List (List ℕ) → Option Command
show_of (circuit ∷ []) = Some Show
show_of words = None

-- draw CIR SEED KMAT EMAT, where the seed is no file word
abbrev pub draw_of : List (List ℕ) → Option Command
draw_of (circuit ∷ seed ∷ keys ∷ encryptions ∷ []) = where_distinct (circuit ∷ keys ∷ encryptions ∷ []) (option_map (λ n. Draw n) (seed_of seed))
draw_of words = None

-- keys CIR KMAT SEC EVA
abbrev pub keys_of : List (List ℕ) → Option Command
keys_of (circuit ∷ material ∷ secret ∷ evaluation ∷ []) = where_distinct (circuit ∷ material ∷ secret ∷ evaluation ∷ []) (Some Keys)
keys_of words = None

-- encrypt CIR EVA EMAT IN CTS
abbrev pub encrypt_of : List (List ℕ) → Option Command
encrypt_of (circuit ∷ evaluation ∷ material ∷ inputs ∷ ciphertexts ∷ []) = where_distinct (circuit ∷ evaluation ∷ material ∷ inputs ∷ ciphertexts
    ∷ []) (Some Encrypt)
encrypt_of words = None

-- run CIR EVA CTS RES
abbrev pub run_of : List (List ℕ) → Option Command
run_of (circuit ∷ evaluation ∷ ciphertexts ∷ results ∷ []) = where_distinct (circuit ∷ evaluation ∷ ciphertexts ∷ results ∷ []) (Some Run)
run_of words = None

-- decrypt CIR SEC RES
abbrev pub decrypt_of : List (List ℕ) → Option Command
decrypt_of (circuit ∷ secret ∷ results ∷ []) = where_distinct (circuit ∷ secret ∷ results ∷ []) (Some Decrypt)
decrypt_of words = None

-- measure CIR SEC EVA CTS
abbrev pub measure_of : List (List ℕ) → Option Command
measure_of (circuit ∷ secret ∷ evaluation ∷ ciphertexts ∷ []) = where_distinct (circuit ∷ secret ∷ evaluation ∷ ciphertexts ∷ []) (Some Measure)
measure_of words = None

-- exec SRC IN KMAT EMAT CIR SEC EVA CTS RES
abbrev pub exec_of : List (List ℕ) → Option Command
exec_of (source ∷ inputs ∷ keys ∷ material ∷ circuit ∷ secret ∷ evaluation ∷ ciphertexts ∷ results ∷ []) =
    where_distinct (source ∷ inputs ∷ keys ∷ material ∷ circuit ∷ secret ∷ evaluation ∷ ciphertexts ∷ results ∷ []) (Some Exec)
exec_of words = None

-- pair SRC IN IN2 KMAT EMAT CIR SEC EVA CTS RES
abbrev pub pair_of : List (List ℕ) → Option Command
pair_of (source ∷ inputs ∷ second ∷ keys ∷ material ∷ circuit ∷ secret ∷ evaluation ∷ ciphertexts ∷ results ∷ []) =
    where_distinct (source ∷ inputs ∷ second ∷ keys ∷ material ∷ circuit ∷ secret ∷ evaluation ∷ ciphertexts ∷ results ∷ []) (Some Pair)
pair_of words = None

-- sample SEED, where the seed is no file word
abbrev pub sample_of : List (List ℕ) → Option Command
sample_of (seed ∷ []) = option_map (λ n. Sample n) (seed_of seed)
sample_of words = None

abbrev pub command_of : List (List ℕ) → Option Command
command_of (c ∷ rest) =
    if bytes_eq c (codes "plain") then plain_of rest else
    if bytes_eq c (codes "compile") then compile_of rest else
    if bytes_eq c (codes "show") then show_of rest else
    if bytes_eq c (codes "draw") then draw_of rest else
    if bytes_eq c (codes "keys") then keys_of rest else
    if bytes_eq c (codes "encrypt") then encrypt_of rest else
    if bytes_eq c (codes "run") then run_of rest else
    if bytes_eq c (codes "decrypt") then decrypt_of rest else
    if bytes_eq c (codes "measure") then measure_of rest else
    if bytes_eq c (codes "exec") then exec_of rest else
    if bytes_eq c (codes "pair") then pair_of rest else
    if bytes_eq c (codes "sample") then sample_of rest else None
command_of [] = None

-- ---- the plans and the jobs

abbrev pub plan_of : Command → Plan
plan_of Plain = plain_plan
plan_of Compile = compile_plan
plan_of Show = show_plan
plan_of (Draw seed) = draw_plan
plan_of Keys = keys_plan
plan_of Encrypt = encrypt_plan
plan_of Run = run_plan
plan_of Decrypt = decrypt_plan
plan_of Measure = measure_plan
plan_of Exec = exec_plan
plan_of Pair = pair_plan
plan_of (Sample seed) = sample_plan

-- whether it asks the picker
abbrev pub asks : Command → Bool
asks Plain = false
asks Compile = false
asks Show = false
asks (Draw seed) = false
asks Keys = false
asks Encrypt = false
asks Run = true
asks Decrypt = false
asks Measure = false
asks Exec = true
asks Pair = true
asks (Sample seed) = true

-- whether passes run over a circuit
abbrev pub runs_passes : Command → Bool
runs_passes Plain = false
runs_passes Compile = true
runs_passes Show = false
runs_passes (Draw seed) = false
runs_passes Keys = false
runs_passes Encrypt = false
runs_passes Run = false
runs_passes Decrypt = false
runs_passes Measure = false
runs_passes Exec = true
runs_passes Pair = true
runs_passes (Sample seed) = true

abbrev pub job_of : Agents → Command → Job
job_of agents Plain = plain_job agents
job_of agents Compile = compile_job agents
job_of agents Show = show_job agents
job_of agents (Draw seed) = draw_job agents seed
job_of agents Keys = keys_job agents
job_of agents Encrypt = encrypt_job agents
job_of agents Run = run_job agents
job_of agents Decrypt = decrypt_job agents
job_of agents Measure = measure_job agents
job_of agents Exec = exec_job agents
job_of agents Pair = pair_job agents
job_of agents (Sample seed) = sample_job agents seed
