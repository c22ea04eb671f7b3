use Rattle.std.proofs.Common.{◌||◌, map, ap, sym, ◌∙◌, arith, get_or, false}
use Rattle.std.proofs.Math.Bool.{or-false}
use Rattle.std.proofs.lemmas.List.{ext_get_or}
use Rattle.std.specs.List.{list_any}
use Rattle.heco_rewrites.specs.Needed.{reads}
use Rattle.heco_plainvec.specs.Gathering.{is_read, wires}
use Rattle.heco_plainvec.proofs.Rows.{length-wires, length-each, each_at, none_left}
use Rattle.heco_plainvec.proofs.reads.reads_of.Goals as goal

pub returns : goal.returns
returns c =
    let k = c.args.c.now in
    let ms = c.loop-rest.marks.items in
    let n = length-each (is_read k) k in
    let w = length-wires k in
    let long = c.loop-rest.invariant.long in
    let gone = none_left c.loop-rest.rest.now c.in_default.len_below in
    c.from_vec.ensures ∙ ext_get_or false ms (map (is_read k) (wires k)) (omega (arith, n, w, long, c.requires)) (λ a l.
    sym (or-false (get_or ms a false)) ∙ sym (ap (λ gs. get_or ms a false || list_any (λ g. reads g a) gs) gone)
    ∙ c.loop-rest.invariant.marked a (omega (arith, l, long)) ∙ sym (each_at (is_read k) k a false (omega (arith, l, long, w, c.requires))))
