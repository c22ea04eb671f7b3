use Rattle.std.proofs.Common.{rules, ◌^◌, get_or, arith, SFits, to_z-of_z}
use mir.Syntax.{w64, w128}
use lib.IntN.{pos, ◌+ℤ◌, ◌*ℤ◌}
use Rattle.heco_wide.proofs.Changes.{changed_more}
use Rattle.heco_wide.proofs.wide.join_all.Goals as goal

pub loop-k-preserved : goal.loop-k-preserved
loop-k-preserved c =
    let fy : SFits w64 (get_or c.args.y.now c.loop-k.k (pos 0)) = search rules in
    let fx : SFits w128 (get_or c.loop-k.x c.loop-k.k (pos 0)) = search rules in
    let e = simp to_z-of_z at c.joined.ensures in
    let g : SFits w128 c.joined.result = record { sfits = c.joined.type_inv } in
    simp to_z-of_z (changed_more c.loop-k.k c.args.x.now c.loop-k.x (λ k x. x *ℤ pos (2 ^ 19) +ℤ get_or c.args.y.now k (pos 0)) c.joined.result (omega arith) c.loop-k.invariant e)
