use Rattle.std.proofs.Common.{◌≡◌}
use Rattle.heco_eval.specs.Typed.{modulus_named}
use Rattle.heco_unroll.proofs.Shapes.{modulus_is}
use Rattle.heco_unrolled_rows.proofs.batched.unrolled_and_batched.Goals as goal

pub batch-requires : goal.batch-requires
batch-requires c =
    let t : c.preset-preset.result.now.t ≡ modulus_named c.args.t.now.params.text = modulus_is c.preset-preset.result.now c.args.t.now.params.text c.preset-preset.ensures.name in
    record {
      made = rw (t, c.preset-preset.ensures.slots) c.in_ok-ir.ensures.made;
      inputs = c.in_ok-ir.ensures.few_inputs;
      operations = c.in_ok-ir.ensures.operations;
      roots = c.in_ok-ir.ensures.roots;
    }
