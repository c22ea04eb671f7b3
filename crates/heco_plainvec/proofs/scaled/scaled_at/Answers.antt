use Rattle.std.proofs.Common.{ap, sym, ◌∙◌, arith, get_or, not, false}
use Rattle.heco_plainvec.specs.Gathering.{is_read, cell_only}
use Rattle.heco_plainvec.specs.inside.Finding.{scaled_where, scaled_by_maker}
use Rattle.heco_plainvec.proofs.Rows.{length-each, made_below, only_at}
use Rattle.heco_plainvec.proofs.scaled.scaled_at.Goals as goal

pub scaled-requires : goal.scaled-requires
scaled-requires c =
    let e = sym c.in-Some.ensures in
    let l = made_below c.args.c.now c.args.wire c.in-Some.gate e in
    rw (c.requires) (let n = length-each (is_read c.args.c.now) c.args.c.now in omega (arith, l, n))

pub returns-in-Some : goal.returns-in-Some
returns-in-Some c =
    let e = sym c.in-Some.ensures in
    let l = made_below c.args.c.now c.args.wire c.in-Some.gate e in
    c.scaled.ensures ∙ ap (λ rs. scaled_where (not (get_or rs c.args.wire false)) c.in-Some.gate) c.requires
    ∙ ap (λ b. scaled_where b c.in-Some.gate) (only_at c.args.c.now c.args.wire l)
    ∙ ap (scaled_by_maker (cell_only c.args.c.now c.args.wire)) (sym e)
