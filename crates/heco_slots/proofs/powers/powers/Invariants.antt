use Rattle.std.proofs.Common.{◌≡◌, ◌%◌, ◌^◌}
use Rattle.heco_slots.specs.Tables.{Powers}
use Rattle.heco_slots.proofs.powers.powers.Given as goal

abbrev pub invariant-loop : goal.invariant-loop
invariant-loop l = record { table : Powers l.x l.m l.counter l.table.items; next : l.power ≡ l.x ^ l.counter % l.m }
