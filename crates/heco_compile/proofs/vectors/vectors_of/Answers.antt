use Rattle.std.proofs.Common.{◌≡◌}
use Rattle.heco_unroll.proofs.Shapes.{modulus_is}
use Rattle.heco_good.specs.Good.{modulus, slots}
use Rattle.heco_compile.proofs.Batched.{are_vectors}
use Rattle.heco_compile.proofs.vectors.vectors_of.Goals as goal

pub batch-requires : goal.batch-requires
batch-requires c =
    let t : c.preset-preset.result.now.t ≡ modulus c.args.t.now = modulus_is c.preset-preset.result.now c.args.t.now.params.text c.preset-preset.ensures.name in
    record {
      made = rw (t, c.preset-preset.ensures.slots) c.in_ok-ir.ensures.made;
      inputs = c.in_ok-ir.ensures.few_inputs;
      operations = c.in_ok-ir.ensures.operations;
      roots = c.in_ok-ir.ensures.roots;
    }

pub returns-clause-vectors : goal.returns-clause-vectors
returns-clause-vectors c =
    let s = c.args.t.now in
    let t : c.preset-preset.result.now.t ≡ modulus s = modulus_is c.preset-preset.result.now s.params.text c.preset-preset.ensures.name in
    let n : c.preset-preset.result.now.slots ≡ slots s = c.preset-preset.ensures.slots in
    let b = c.in_ok-batched.ensures in
    are_vectors s c.source-valid.ensures.typed c.in_ok-ir.ir.0 c.in_ok-ir.ir.1 c.in_ok-batched.batched.0.0 c.in_ok-batched.batched.0.1 c.in_ok-batched.batched.1
    c.in_ok-ir.ensures.terms c.in_ok-ir.ensures.inputs c.in_ok-ir.ensures.operations
    (record {
      homes_are = rw (t, n) at b.homes;
      roots_are = rw (t, n) at b.roots;
      homes_fit = rw (t, n) at b.homes_fit;
      once = b.once;
      few = b.gates;
      fit = rw (t, n) at b.fits;
    })
