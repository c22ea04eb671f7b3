use Rattle.std.proofs.Common.{rules, ◌≡◌, length, arith, ◌∙◌}
use Rattle.std.proofs.lemmas.Simd.{get_or-put_chunk_below, get_or-put_chunk_at, get_or-put_chunk_above, get_or-chunk}
use Rattle.heco_poly.proofs.lanes.add_four.Goals as goal

pub returns-clause-lanes : goal.returns-clause-lanes
returns-clause-lanes c = λ j h.
    let long : length c.gained-sums.result ≡ 4 = search rules in
    get_or-put_chunk_at c.args.i c.args.out.now c.gained-sums.result j 0 (omega arith) (omega arith)
    ∙ rw (get_or-chunk c.args.i 4 c.args.out.now j 0 h, get_or-chunk c.args.i 4 c.args.b.now j 0 h) at (c.gained-sums.ensures j h)

pub returns-clause-before : goal.returns-clause-before
returns-clause-before c = λ k h. get_or-put_chunk_below c.args.i c.args.out.now c.gained-sums.result k 0 h

pub returns-clause-after : goal.returns-clause-after
returns-clause-after c = λ k h.
    let long : length c.gained-sums.result ≡ 4 = search rules in
    get_or-put_chunk_above c.args.i c.args.out.now c.gained-sums.result k 0 (omega arith)
