use Rattle.std.proofs.Common.{◌≡◌, ◌<◌, ◌*◌, ◌%◌, ◌^◌}
use Rattle.heco_nums.proofs.arithmetic.pow_t.Given as goal

abbrev pub invariant-loop-left : goal.invariant-loop-left
invariant-loop-left l = record {
  power_small : l.power < l.p.t;
  square_small : l.square < l.p.t;
  value : l.power * l.square ^ l.left % l.p.t ≡ l.a ^ l.e % l.p.t;
}

abbrev pub decreases-loop-left : goal.decreases-loop-left
decreases-loop-left l = l.left
