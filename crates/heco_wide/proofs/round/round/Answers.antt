use Rattle.std.proofs.Common.{◌^◌, ℤ, ◌*ℤ◌, ap, ◌∙◌, SFits, to_z-of_z}
use mir.Syntax.{w128}
use lib.IntN.{pos, ◌+ℤ◌}
use Rattle.std.specs.Int.RustNames.{unsigned_abs}
use Rattle.heco_noise_laws.proofs.Rounding.{product_in, low_in, low_sum_in, whole_in, whole_is}
use Rattle.heco_ring.proofs.Remainders.{rem_is}
use Rattle.heco_ring.specs.Remainders.{rem}
use Rattle.heco_wide.proofs.round.round.Goals as goal

pub overflow_mul-whole : goal.overflow_mul-whole
overflow_mul-whole c =
    let ft : SFits w128 c.from-t.result = record { sfits = c.from-t.type_inv } in
    let fh : SFits w128 c.div_euclid-high.result = record { sfits = c.div_euclid-high.type_inv } in
    let fx : SFits w128 c.args.x = c.ranges.x in
    let hi = simp to_z-of_z at c.div_euclid-high.ensures in
    simp to_z-of_z (product_in c.args.t c.args.x c.from-t.result c.div_euclid-high.result c.requires.t_small c.requires.x_small c.from-t.ensures hi)

pub overflow_add-whole : goal.overflow_add-whole
overflow_add-whole c =
    let ft : SFits w128 c.from-t.result = record { sfits = c.from-t.type_inv } in
    let fh : SFits w128 c.div_euclid-high.result = record { sfits = c.div_euclid-high.type_inv } in
    let fl : SFits w128 c.rem_euclid-low.result = record { sfits = c.rem_euclid-low.type_inv } in
    let fp : SFits w128 c.div_euclid-part.result = record { sfits = c.div_euclid-part.type_inv } in
    let fx : SFits w128 c.args.x = c.ranges.x in
    let hi = simp to_z-of_z at c.div_euclid-high.ensures in
    let lo = simp to_z-of_z at c.rem_euclid-low.ensures.value in
    let f1 : SFits w128 (c.from-t.result *ℤ c.rem_euclid-low.result) = low_in c.args.t c.args.x c.from-t.result c.rem_euclid-low.result c.requires.t_small c.from-t.ensures lo in
    let f2 : SFits w128 (c.from-t.result *ℤ c.rem_euclid-low.result +ℤ pos (2 ^ 57)) = low_sum_in c.args.t c.args.x c.from-t.result c.rem_euclid-low.result c.requires.t_small c.from-t.ensures lo in
    let f3 : SFits w128 (c.from-t.result *ℤ c.div_euclid-high.result) = product_in c.args.t c.args.x c.from-t.result c.div_euclid-high.result c.requires.t_small c.requires.x_small c.from-t.ensures hi in
    let pr = simp to_z-of_z at c.div_euclid-part.ensures in
    simp to_z-of_z (whole_in c.args.t c.args.x c.from-t.result c.div_euclid-high.result c.rem_euclid-low.result c.div_euclid-part.result c.requires.t_small c.requires.x_small c.from-t.ensures hi lo pr)

pub returns : goal.returns
returns c =
    let ft : SFits w128 c.from-t.result = record { sfits = c.from-t.type_inv } in
    let fh : SFits w128 c.div_euclid-high.result = record { sfits = c.div_euclid-high.type_inv } in
    let fl : SFits w128 c.rem_euclid-low.result = record { sfits = c.rem_euclid-low.type_inv } in
    let fp : SFits w128 c.div_euclid-part.result = record { sfits = c.div_euclid-part.type_inv } in
    let fr : SFits w128 c.rem_euclid.result = record { sfits = c.rem_euclid.type_inv } in
    let fx : SFits w128 c.args.x = c.ranges.x in
    let hi = simp to_z-of_z at c.div_euclid-high.ensures in
    let lo = simp to_z-of_z at c.rem_euclid-low.ensures.value in
    let f1 : SFits w128 (c.from-t.result *ℤ c.rem_euclid-low.result) = low_in c.args.t c.args.x c.from-t.result c.rem_euclid-low.result c.requires.t_small c.from-t.ensures lo in
    let f2 : SFits w128 (c.from-t.result *ℤ c.rem_euclid-low.result +ℤ pos (2 ^ 57)) = low_sum_in c.args.t c.args.x c.from-t.result c.rem_euclid-low.result c.requires.t_small c.from-t.ensures lo in
    let f3 : SFits w128 (c.from-t.result *ℤ c.div_euclid-high.result) = product_in c.args.t c.args.x c.from-t.result c.div_euclid-high.result c.requires.t_small c.requires.x_small c.from-t.ensures hi in
    let pr = simp to_z-of_z at c.div_euclid-part.ensures in
    let f4 : SFits w128 (c.from-t.result *ℤ c.div_euclid-high.result +ℤ c.div_euclid-part.result) = whole_in c.args.t c.args.x c.from-t.result c.div_euclid-high.result c.rem_euclid-low.result c.div_euclid-part.result c.requires.t_small c.requires.x_small c.from-t.ensures hi lo pr in
    let re = simp to_z-of_z at c.rem_euclid.ensures.value in
    let wh = whole_is c.args.t c.args.x c.from-t.result c.div_euclid-high.result c.rem_euclid-low.result c.div_euclid-part.result c.from-t.ensures hi lo pr in
    simp to_z-of_z (ap unsigned_abs (re ∙ rem_is (2 ^ 58) (c.from-t.result *ℤ c.div_euclid-high.result +ℤ c.div_euclid-part.result) ∙ ap (λ (z : ℤ). pos (rem (2 ^ 58) z)) wh))
