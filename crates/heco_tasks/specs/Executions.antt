-- What the execution of a source gives, and how it and its compilation are refused.
use Rattle.std.specs.Prelude.{◌≡◌, ℕ, List, Ok, Err}
use Rattle.heco_compile.specs.Compiling.{IsRefused as IsNoCircuit}
use Rattle.heco_compile.specs.declared.error.CompileErr.{CompileErr}
use Rattle.heco_compile.specs.declared.error.CompileErr.TheVariants as compiling
use Rattle.heco_eval.specs.Typed.{outputs_of}
use Rattle.heco_execution.specs.Outcomes.{broken}
use Rattle.heco_execution.specs.declared.error.EvalErr.{EvalErr}
use Rattle.heco_execution.specs.declared.error.EvalErr.TheVariants as execution
use Rattle.heco_nums.specs.declared.shape.Values.{Values}
use Rattle.heco_syntax.specs.declared.tree.Source.{Source}
use Rattle.heco_jobs.specs.declared.outcome.Outcome.{Outcome}
use Rattle.heco_jobs.specs.declared.outcome.Outcome.TheVariants.{Refused, Memory}
use Rattle.heco_jobs.specs.declared.outcome.Refusal.{Refusal}
use Rattle.heco_jobs.specs.declared.outcome.Refusal.TheVariants.{SourceLong, At, TooDeep}

-- the execution of the source on these rows gives these lists
abbrev pub AreOutputs : Source → List (List ℕ) → Values → Type 0
AreOutputs s rows out = outputs_of s rows ≡ Ok out.rows

-- this is the first rule of execution that it breaks
abbrev pub IsExecutionRefusal : Source → List (List ℕ) → Refusal → Type 0
IsExecutionRefusal s rows (At rule at) = outputs_of s rows ≡ Err (broken rule at)
IsExecutionRefusal s rows refusal = ⊥

-- what an error of an execution is answered with
abbrev pub execution_answer : EvalErr → Outcome
execution_answer (execution.At rule at) = Refused (At rule at)
execution_answer execution.Memory = Memory

-- its execution breaks this rule first, or this output element is the first that is too deep
abbrev pub IsCompileRefusal : Source → Refusal → Type 0
IsCompileRefusal s (At rule at) = IsNoCircuit s (compiling.At rule at)
IsCompileRefusal s (TooDeep out index bound) = IsNoCircuit s (compiling.TooDeep out index bound)
IsCompileRefusal s refusal = ⊥

-- what an error of a compilation is answered with
abbrev pub compile_answer : CompileErr → Outcome
compile_answer compiling.SourceLong = Refused SourceLong
compile_answer (compiling.At rule at) = Refused (At rule at)
compile_answer (compiling.TooDeep out index bound) = Refused (TooDeep out index bound)
compile_answer compiling.Memory = Memory
