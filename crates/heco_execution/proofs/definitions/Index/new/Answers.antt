use Rattle.std.proofs.Common.{◌∙◌, ◌+◌, ap, sym, arith}
use Rattle.heco_execution.proofs.DefinitionLemmas.{last_at}
use Rattle.heco_execution.proofs.definitions.Index.new.Goals as goal

pub loop-k-preserved : goal.loop-k-preserved
loop-k-preserved c =
    last_at (λ k. k.items) c.args.all.now c.loop-k.k (c.loop-k.k + 1) c.index-all-k.result c.loop-k.last.entries c.insert.new.self.entries c.in_ok-name.name
    (omega (arith, c.loop-k-test.true, c.loop-k.auto.k-end)) (omega arith) c.index-all-k.is (c.in_ok-name.ensures.items ∙ c.as_slice.ensures ∙ ap (λ d. d.name.text) (sym c.index-all-k.is)) c.in_ok-insert.ensures.entries c.loop-k.invariant
