use Rattle.std.proofs.Common.{◌∙◌, arith}
use Rattle.heco_peep.proofs.ByEach.{map_kept, length_kept, one_more, all_done}
use Rattle.heco_peep.proofs.running.pass_by_each.Goals as goal

pub returns-in_err-c-clause-rules : goal.returns-in_err-c-clause-rules
returns-in_err-c-clause-rules g c =
    let inside = c.loop-i-test.true in let e = c.len-i-end.ensures in
    map_kept _ c.loop-i.passes.items c.loop-i.i c.pass_over.new.pass c.index_mut.result.now (omega (arith, inside, e, c.loop-i.invariant.many)) c.index_mut.ensures.value c.pass_over.ensures.same ∙ c.loop-i.invariant.rules

pub loop-i-preserved : goal.loop-i-preserved
loop-i-preserved g c =
    let inside = c.loop-i-test.true in let e = c.len-i-end.ensures in
    record {
      many = length_kept c.loop-i.passes.items c.loop-i.i c.pass_over.new.pass ∙ c.loop-i.invariant.many;
      rules = map_kept _ c.loop-i.passes.items c.loop-i.i c.pass_over.new.pass c.index_mut.result.now (omega (arith, inside, e, c.loop-i.invariant.many)) c.index_mut.ensures.value c.pass_over.ensures.same ∙ c.loop-i.invariant.rules;
      order = one_more _ c.loop-i.passes.items c.loop-i.i c.index_mut.result.now c.pass_over.new.pass _ _ _ _ _ _ c.loop-i.invariant.order (omega (arith, inside, e, c.loop-i.invariant.many)) c.index_mut.ensures.value
          c.in_ok-c.ensures.after c.in_ok-c.ensures.moved c.in_ok-c.ensures.ready;
    }

pub returns-clause-passed : goal.returns-clause-passed
returns-clause-passed g c =
    (all_done _ c.loop-i.passes.items c.loop-i.i _ _ _ _ _ c.loop-i.invariant.order (omega (arith, c.loop-i-test.false, c.loop-i.auto.i-end, c.len-i-end.ensures, c.loop-i.invariant.many))).circuit

pub returns-clause-left : goal.returns-clause-left
returns-clause-left g c =
    (all_done _ c.loop-i.passes.items c.loop-i.i _ _ _ _ _ c.loop-i.invariant.order (omega (arith, c.loop-i-test.false, c.loop-i.auto.i-end, c.len-i-end.ensures, c.loop-i.invariant.many))).left_are
