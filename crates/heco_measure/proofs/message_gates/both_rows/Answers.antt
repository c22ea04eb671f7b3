use Rattle.std.proofs.Common.{◌∙◌, length, ap}
use Rattle.heco_nums.proofs.PresetFacts.{facts}
use Rattle.heco_run_laws.proofs.CircuitVectors.{whole}
use Rattle.heco_slots.proofs.Weights.{two_long}
use Rattle.heco_measure.proofs.message_gates.both_rows.Goals as goal

pub encode_two-requires-clause-v : goal.encode_two-requires-clause-v
encode_two-requires-clause-v c = let p = c.args.table.now.preset in (whole p.t p.slots c.args.v.now (facts p).t_pos c.requires.v).0

pub encode_two-requires-clause-v_below : goal.encode_two-requires-clause-v_below
encode_two-requires-clause-v_below c = let p = c.args.table.now.preset in (whole p.t p.slots c.args.v.now (facts p).t_pos c.requires.v).1

pub encode_two-requires-clause-w : goal.encode_two-requires-clause-w
encode_two-requires-clause-w c = let p = c.args.table.now.preset in (whole p.t p.slots c.args.v.now (facts p).t_pos c.requires.v).0

pub encode_two-requires-clause-w_below : goal.encode_two-requires-clause-w_below
encode_two-requires-clause-w_below c = let p = c.args.table.now.preset in (whole p.t p.slots c.args.v.now (facts p).t_pos c.requires.v).1

pub of_words-requires : goal.of_words-requires
of_words-requires c = ap length c.encode_two.ensures ∙ two_long c.args.table.now.preset c.args.v.now c.args.v.now
