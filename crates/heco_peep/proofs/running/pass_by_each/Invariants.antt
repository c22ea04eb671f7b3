use Rattle.std.proofs.Common.{◌≡◌, length, map}
use Rattle.heco_peep.proofs.ByEach.{IsInOrder}
use Rattle.heco_peep.proofs.running.pass_by_each.Given as goal

abbrev pub invariant-loop-i : goal.invariant-loop-i
invariant-loop-i g l = record {
  many : length l.passes.items ≡ length l.initial.passes.items;
  rules : map (λ b. (((Rattle.heco_peep.specs.contracts.running.pass_by_each.dyn-1-ghosts g.dyn-1).0.entry b.vtable).1.handed b.value).rule) l.passes.items
      ≡ map (λ b. (((Rattle.heco_peep.specs.contracts.running.pass_by_each.dyn-1-ghosts g.dyn-1).0.entry b.vtable).1.handed b.value).rule) l.initial.passes.items;
  order : IsInOrder l.p l.weights l.initial.c (map (λ b. ((Rattle.heco_peep.specs.contracts.running.pass_by_each.dyn-1-ghosts g.dyn-1).0.entry b.vtable).1.handed b.value) l.initial.passes.items)
      (map (λ b. ((Rattle.heco_peep.specs.contracts.running.pass_by_each.dyn-1-ghosts g.dyn-1).0.entry b.vtable).1.handed b.value) l.passes.items) l.c l.i;
}
