use Rattle.std.proofs.Common.{◌≡◌, ◌^◌, ◌∙◌, length, arith, sym, ap}
use lib.IntN.{ℤ, pos, ◌+ℤ◌, ◌*ℤ◌}
use lib.ListN.{drop}
use Rattle.heco_wide.proofs.Changes.{front}
use Rattle.heco_transform.proofs.WholeNumbers.{at_is}
use Rattle.heco_wide.specs.inside.Wide.{int_at}
use Rattle.heco_wide.proofs.product.join_sum.Goals as goal

pub returns-clause-value : goal.returns-clause-value
returns-clause-value c = λ a is small k l.
    let long : length c.join_all.new.x ≡ 2 ^ c.args.f.now.depth = omega (arith, c.join_all.auto.x, c.as_mut_slice.ensures.len, c.requires.room.wide) in
    let w = front c.args.room.now.wide.len c.join_all.new.x (drop (length c.join_all.new.x) c.args.room.now.wide.items) (omega arith) in
    let e = rw c.as_mut_slice.ensures.value at (c.join_all.ensures k (omega arith)) in
    let d = c.integers_of_sum.ensures a is (λ j jl. omega (arith, small j jl)) k l in
    rw w (e ∙ ap (λ (z : ℤ). int_at c.args.room.now.wide.items k *ℤ pos (2 ^ 19) +ℤ z) (sym (at_is c.integers_of_sum.new.out k) ∙ d))
