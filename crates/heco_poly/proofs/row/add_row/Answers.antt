use Rattle.std.proofs.Common.{◌≡◌, ◌-◌, length, arith, refl, length-drop, length-take, length-append, ap}
use Rattle.heco_poly.proofs.Products.{row_each}
use Rattle.heco_poly.proofs.row.add_row.Goals as goal

pub returns : goal.returns
returns c =
    let high = rw c.split_at_mut-low.ensures.back at c.add_multiple.ensures in
    let low = rw c.split_at_mut-low.ensures.front at c.add_multiple-2.ensures in
    let lb : length c.args.b.now ≡ length c.args.out.now = omega arith in
    let ll : length c.add_multiple-2.new.out ≡ c.args.i = omega (arith, c.split_at_mut-low.ensures.front_len) in
    let lh : length c.add_multiple.new.out ≡ length c.args.out.now - c.args.i = omega (arith, c.add_multiple.auto.out, ap length c.split_at_mut-low.ensures.back, length-drop c.args.i c.args.out.now) in
    let row = row_each c.args.out.now c.args.b.now c.add_multiple-2.new.out c.add_multiple.new.out c.args.c c.wrapping_neg.result c.args.i (length c.args.out.now) refl lb
    c.requires.inside c.wrapping_neg.ensures ll
    (λ j h. high j (omega (arith, length-drop c.args.i c.args.out.now)))
    (λ j h. low j (omega (arith, length-take c.args.i c.args.out.now))) in
    rw lb (λ k h. row k (omega (arith, length-append c.add_multiple-2.new.out c.add_multiple.new.out)))
