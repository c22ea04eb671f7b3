use Rattle.std.proofs.Common.{◌∙◌}
use Rattle.heco_types.proofs.DepthLemmas.{depth_sum, depth_product, depth_call}
use Rattle.heco_types.proofs.depths.+depth.Goals as goal

pub depth_called-returns-in-Sum : goal.depth_called-returns-in-Sum
depth_called-returns-in-Sum t c =
    c.deeper.ensures ∙ depth_sum c.args.x.now c.args.context c.args.scope.now c.depth_called-d.result c.depth_of_sums.result c.in-Sum.first c.get-in-Sum.result.now c.in-Sum.rest c.as_slice.result.now
    c.in-Sum.is c.get-in-Sum.ensures c.as_slice.ensures c.depth_called-d.ensures c.depth_of_sums.ensures

pub depth_called-returns-in-Prod : goal.depth_called-returns-in-Prod
depth_called-returns-in-Prod t c =
    c.deeper-in-Prod.ensures
    ∙ depth_product c.args.x.now c.args.context c.args.scope.now c.depth_called-d-in-Prod.result c.depth_of_products.result c.in-Prod.first c.get-in-Prod.result.now c.in-Prod.rest c.as_slice-in-Prod.result.now
    c.in-Prod.is c.get-in-Prod.ensures c.as_slice-in-Prod.ensures c.depth_called-d-in-Prod.ensures c.depth_of_products.ensures

pub depth_called-returns-in-Call : goal.depth_called-returns-in-Call
depth_called-returns-in-Call t c =
    c.deeper-in-Call.ensures
    ∙ depth_call c.args.x.now c.args.context c.args.scope.now c.depth_of_name-d.result c.depth_of_values.result c.in-Call.name c.in-Call.args c.as_slice-in-Call.result.now c.len.result
    c.in-Call.is c.len.ensures c.as_slice-in-Call.ensures c.depth_of_name-d.ensures c.depth_of_values.ensures
