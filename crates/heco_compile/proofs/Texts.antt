-- The circuits of a typed text have short files, and are what compiling the text may give.
use Rattle.std.specs.Prelude.{IfOk, OnOk}
use Rattle.std.proofs.Common.{ℕ, ◌+◌, ◌^◌, ◌≤◌, true, false, List, length, Result, Ok, Err, arith}
use Rattle.std.specs.List.{All, sum_by}
use Rattle.heco_circuit.specs.Plans.{Plan}
use Rattle.heco_peep.specs.NoWorse.{HasFewBytes}
use Rattle.heco_sources.specs.Sources.{IsSource}
use Rattle.heco_syntax.specs.declared.tree.Source.{Source}
use Rattle.heco_types.specs.Shapes.{shapes_of}
use Rattle.heco_types.specs.Typing.{IsTyped, IsWithin}
use Rattle.heco_unroll.proofs.Shapes.{few_elements}
use Rattle.heco_good.specs.Accepted.{IsAccepted}
use Rattle.heco_good.specs.Compiled.{IsCircuitOf}
use Rattle.heco_compile.specs.Compiling.{IsCompiled}
use Rattle.heco_compile.specs.declared.error.CompileErr.{CompileErr}
use Rattle.heco_compile.proofs.FileLength.{file_short}
use Rattle.heco_compile.proofs.Names.{shape_bytes, few_names}
use Rattle.heco_compile.proofs.TypedPorts.{typed_ports}

pub few_bytes : (s : Source) → IsTyped s → All (IsWithin 4096) (shapes_of true s.ports) → (c : Plan) → IsCircuitOf s c → length c.gates ≤ 20447232 → (text : List ℕ) → IsSource text s → HasFewBytes c
few_bytes s typed within c of few text is =
    let ports : length (shapes_of false s.ports) + length (shapes_of true s.ports) ≤ 256 = (typed_ports s typed).few in
    let names : shape_bytes (shapes_of false s.ports) + shape_bytes (shapes_of true s.ports) ≤ 2 ^ 20 = omega (arith, few_names text s is.tree, is.short) in
    let elements : sum_by (λ o. o.len) (shapes_of true s.ports) ≤ 2 ^ 20 = few_elements s typed within in
    file_short c (shapes_of true s.ports) of.good.valid of.good.outputs few (rw of.good.inputs ports) (rw of.good.inputs names) elements

pub compiled : (text : List ℕ) (s : Source) → IsSource text s → (r : Result Plan CompileErr) → OnOk r (IsAccepted s) → IfOk r (λ c. IsCircuitOf s c) → IfOk r (λ c. HasFewBytes c) → IfOk r (IsCompiled text)
compiled text s is (Ok c) a g f = record { source = s; is = is; accepted = a; circuit = g; short = f }
compiled text s is (Err e) a g f = tt
