-- What a refusal of each stage is answered with.
use Rattle.heco_execution.specs.declared.error.EvalErr.{EvalErr}
use Rattle.heco_execution.specs.declared.error.EvalErr.TheVariants as execution
use Rattle.heco_place.specs.declared.error.PlaceErr.{PlaceErr}
use Rattle.heco_place.specs.declared.error.PlaceErr.TheVariants as placing
use Rattle.heco_sources.specs.declared.source.SourceErr.{SourceErr}
use Rattle.heco_sources.specs.declared.source.SourceErr.TheVariants as reading
use Rattle.heco_compile.specs.declared.error.CompileErr.{CompileErr}
use Rattle.heco_compile.specs.declared.error.CompileErr.TheVariants.{SourceLong, At, TooDeep, Memory}

abbrev pub of_reading : SourceErr → CompileErr
of_reading reading.SourceLong = SourceLong
of_reading (reading.At rule at) = At rule at
of_reading reading.Memory = Memory

abbrev pub of_execution : EvalErr → CompileErr
of_execution (execution.At rule at) = At rule at
of_execution execution.Memory = Memory

abbrev pub of_placing : PlaceErr → CompileErr
of_placing (placing.TooDeep out index bound) = TooDeep out index bound
of_placing placing.Memory = Memory
