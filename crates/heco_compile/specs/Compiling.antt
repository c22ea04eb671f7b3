-- How sources and texts are refused that are not compiled.
use Rattle.std.specs.Prelude.{◌≡◌, ◌⊎◌, ℕ, ◌<◌, ◌^◌, List, length, Err}
use Rattle.heco_lex.specs.declared.place.Place.{Place}
use Rattle.heco_lex.specs.declared.rule.Rule.{Rule}
use Rattle.heco_syntax.specs.declared.tree.Source.{Source}
use Rattle.heco_execution.specs.Laws.{source_terms}
use Rattle.heco_execution.specs.Outcomes.{broken}
use Rattle.heco_sources.specs.Sources.{IsSource}
use Rattle.heco_sources.specs.Sources as reading
use Rattle.heco_sources.specs.declared.source.SourceErr.TheVariants as e
use Rattle.heco_circuit.specs.CircuitFormat.{circuit_text}
use Rattle.heco_circuit.specs.Plans.{Plan}
use Rattle.heco_good.specs.Accepted.{IsAccepted, IsTooDeep}
use Rattle.heco_good.specs.Compiled.{IsCircuitOf}
use Rattle.heco_good.specs.Good.{modulus}
use Rattle.heco_compile.specs.declared.error.CompileErr.{CompileErr}
use Rattle.heco_compile.specs.declared.error.CompileErr.TheVariants.{SourceLong, At, TooDeep, Memory}

-- this is the first rule that the source's execution breaks, and where
abbrev pub Breaks : Source → Rule → Place → Type 0
Breaks source rule at = source_terms (modulus source) source ≡ Err (broken rule at)

-- a rule of execution is broken, or else an output element is too deep, of which the first is named; want of memory alone is free
abbrev pub IsRefused : Source → CompileErr → Type 0
IsRefused source SourceLong = ⊥
IsRefused source (At rule at) = Breaks source rule at
IsRefused source (TooDeep out index bound) = IsTooDeep source out index bound
IsRefused source Memory = Unit {0}

-- the text is this typed source, which is refused so
pub record IsOfSource (text : List ℕ) (refusal : CompileErr) : Type 0 where
  pub source : Source
  pub is : IsSource text source
  pub refused : IsRefused source refusal

-- the text is too long, breaks a rule of reading or of typing, or is a source that is refused
abbrev pub IsTextRefused : List ℕ → CompileErr → Type 0
IsTextRefused text SourceLong = reading.IsRefused text e.SourceLong
IsTextRefused text (At rule at) = reading.IsRefused text (e.At rule at) ⊎ IsOfSource text (At rule at)
IsTextRefused text (TooDeep out index bound) = IsOfSource text (TooDeep out index bound)
IsTextRefused text Memory = Unit {0}

-- the text is a typed source, which is accepted, and the circuit is one of its circuits and has a file of fewer than 2^28 bytes
pub record IsCompiled (text : List ℕ) (c : Plan) : Type 0 where
  pub source : Source
  pub is : IsSource text source
  pub accepted : IsAccepted source
  pub circuit : IsCircuitOf source c
  pub short : length (circuit_text c) < 2 ^ 28
