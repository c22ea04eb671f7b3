use Rattle.heco_peep.proofs.Taking.{on_ok, no_answer, unfit, fit_wire, fit_gate}
use Rattle.heco_peep.proofs.changing.put.Goals as goal

pub returns-in_default-clause-taken : goal.returns-in_default-clause-taken
returns-in_default-clause-taken c = on_ok c.grow.result c.grow.ensures.grown (no_answer c.args.p.now.id c.args.weights.now c.args.own c.args.changed.now c.grow.new.changed c.args.at c.args.answer cc)

pub returns-then-not-fits-clause-taken : goal.returns-then-not-fits-clause-taken
returns-then-not-fits-clause-taken c =
    on_ok c.grow-then-not-fits.result c.grow-then-not-fits.ensures.grown
    (unfit c.args.p.now.id c.args.weights.now c.args.own c.args.changed.now c.grow-then-not-fits.new.changed c.args.at c.args.answer c.in-Some.x (cc) (cc))

pub returns-in-Wire-clause-taken : goal.returns-in-Wire-clause-taken
returns-in-Wire-clause-taken c =
    on_ok c.grow-in-Wire.result c.grow-in-Wire.ensures.grown
    (fit_wire c.args.p.now.id c.args.weights.now c.args.own c.args.changed.now c.grow-in-Wire.new.changed c.args.at c.args.answer c.in-Some.x c.in-Wire.wire (cc) (cc) (cc))

pub returns-in-Gate-clause-taken : goal.returns-in-Gate-clause-taken
returns-in-Gate-clause-taken c =
    on_ok c.grow-in-Gate.result c.grow-in-Gate.ensures.grown
    (fit_gate c.args.p.now.id c.args.weights.now c.args.own c.args.changed.now c.grow-in-Gate.new.changed c.args.at c.args.answer c.in-Some.x c.in-Gate.gate (cc) (cc) (cc))
