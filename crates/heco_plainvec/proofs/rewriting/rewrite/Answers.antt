use Rattle.std.proofs.Common.{◌≡◌, ◌+◌, ◌∙◌, length, ap, sym, arith, get_or}
use Rattle.std.specs.Prelude.{slice_get}
use Rattle.std.specs.List.{range_with_len}
use Rattle.std.proofs.lemmas.Option.{slice_get-get_or}
use Rattle.heco_circuit.specs.declared.gate.Gate.TheVariants.{Neg}
use Rattle.heco_rewrites.specs.Wires.{maker}
use Rattle.heco_plainvec.proofs.Numbered.{maker_at}
use Rattle.heco_plainvec.proofs.NextName.{front_first, front_more}
use Rattle.heco_plainvec.proofs.rewriting.rewrite.Goals as goal

pub loop-i-init : goal.loop-i-init
loop-i-init c =
    let n : c.len-inputs.result ≡ length c.args.c.now.inputs = c.len-inputs.ensures ∙ ap length c.inputs.ensures in
    front_first c.args.c.now c.in_ok-names.names c.new-gates.result (c.in_ok-names.ensures ∙ ap (range_with_len 0) n) c.new-gates.ensures

pub image_of-image-requires-clause-here : goal.image_of-image-requires-clause-here
image_of-image-requires-clause-here c =
    let k = c.args.c.now in
    let gs : c.as_slice-old.result.now ≡ k.gates = c.as_slice-old.ensures ∙ c.gates.ensures in
    let n : c.len-inputs.result ≡ length k.inputs = c.len-inputs.ensures ∙ ap length c.inputs.ensures in
    ap (λ m. maker (length k.inputs) k.gates (m + c.loop-i.i)) n ∙ maker_at (length k.inputs) k.gates c.loop-i.i ∙ ap (λ xs. slice_get xs c.loop-i.i) (sym gs)
    ∙ slice_get-get_or c.as_slice-old.result.now c.loop-i.i (Neg 0) c.loop-i-test.true

pub loop-i-preserved : goal.loop-i-preserved
loop-i-preserved c =
    let k = c.args.c.now in
    let gs : c.as_slice-old.result.now ≡ k.gates = c.as_slice-old.ensures ∙ c.gates.ensures in
    let n : c.len-inputs.result ≡ length k.inputs = c.len-inputs.ensures ∙ ap length c.inputs.ensures in
    front_more k c.loop-i.i (c.len-inputs.result + c.loop-i.i) (c.len-inputs.result + length c.loop-i.gates) (get_or c.as_slice-old.result.now c.loop-i.i (Neg 0)) c.image_of-image.result
    c.loop-i.names c.put_image.new.names c.loop-i.gates c.put_image.new.gates
    c.loop-i.invariant (omega (arith, ap length gs)) (ap (λ xs. get_or xs c.loop-i.i (Neg 0)) gs)
    (ap (λ m. m + c.loop-i.i) n) (ap (λ m. m + length c.loop-i.gates) n) c.image_of-image.ensures c.in_ok-put_image.ensures.names c.in_ok-put_image.ensures.gates
