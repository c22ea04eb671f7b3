use Rattle.std.proofs.Common.{◌∙◌, ap}
use Rattle.std.specs.List.{count_by}
use Rattle.heco_products.specs.Decrypting.{output_wire_count}
use Rattle.heco_products.proofs.wires.output_wire_count.Goals as goal

pub returns : goal.returns
unfolding output_wire_count
returns c = c.count_marked.ensures ∙ ap (λ ws. count_by (λ b. b) ws) (c.as_slice.ensures.value ∙ c.in_ok-wires.ensures.marked)
