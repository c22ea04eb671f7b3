use Rattle.std.proofs.Common.{◌≡◌, ◌*◌, ◌%◌, ◌^◌}
use Rattle.heco_keys.proofs.sources.exponent.Given as goal

abbrev pub invariant-loop : goal.invariant-loop
invariant-loop l = l.power ≡ 3 ^ l.counter % (2 * l.p.n)
