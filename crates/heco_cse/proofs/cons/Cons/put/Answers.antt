use Rattle.std.proofs.Common.{◌≡◌, length, true, rules}
use Rattle.std.specs.Prelude.{slice_get, Some}
use Rattle.heco_ir.specs.Vectors.{vector_operands}
use Rattle.heco_ir.specs.Values.{all_below, all_earlier}
use Rattle.heco_ir.proofs.Extended.{put_term, extends_one, all_fit-one}
use Rattle.heco_ir.specs.contracts.vector.VNodePartialEq.TheImpl.{ghosts}
use Rattle.heco_cse.proofs.Once.{once_insert, insert_absent}
use Rattle.heco_cse.proofs.Put.{earlier_insert, adds_insert, room_insert}
use Rattle.heco_cse.proofs.cons.Cons.put.Goals as goal

pub invariant_of-self-2 : goal.invariant_of-self-2
invariant_of-self-2 c =
    let below : all_below (length c.self.inside.set.keys) (vector_operands c.args.n) ≡ true = rw (← c.self.view_is) at c.requires.earlier in
    rw c.in-Ok.ensures.keys (
      once_insert ghosts.eq c.node_equality.ensures.itself c.self.inside.set.keys c.args.n c.self.invariant.0,
      earlier_insert ghosts.eq vector_operands c.self.inside.set.keys c.args.n c.self.invariant.1 below,
      room_insert ghosts.eq c.self.inside.set.keys c.args.n (rw (← c.self.view_is) at c.requires.room),
    )

pub returns-clause-new : goal.returns-clause-new
returns-clause-new c = λ h. rw (c.in-Ok.ensures.keys, c.self.view_is) (insert_absent ghosts.eq c.node_equality.ensures.same c.args.self.now c.args.n h)

pub returns-clause-adds : goal.returns-clause-adds
returns-clause-adds c = adds_insert ghosts.eq c.args.self.now c.insert_full.new.self.keys c.args.n (rw (← c.self.view_is) c.in-Ok.ensures.keys)

pub returns-clause-stands : goal.returns-clause-stands
returns-clause-stands c =
    extends_one c.args.self.now c.insert_full.new.self.keys c.args.n (adds_insert ghosts.eq c.args.self.now c.insert_full.new.self.keys c.args.n (rw (← c.self.view_is) c.in-Ok.ensures.keys))

pub returns-clause-fits : goal.returns-clause-fits
returns-clause-fits c = λ slots modulus es.
    all_fit-one slots modulus es c.args.self.now c.insert_full.new.self.keys c.args.n (adds_insert ghosts.eq c.args.self.now c.insert_full.new.self.keys c.args.n (rw (← c.self.view_is) c.in-Ok.ensures.keys))

pub returns-clause-term : goal.returns-clause-term
returns-clause-term c =
    let below : all_below (length c.self.inside.set.keys) (vector_operands c.args.n) ≡ true = rw (← c.self.view_is) at c.requires.earlier in
    let earlier : all_earlier vector_operands 0 c.insert_full.new.self.keys ≡ true =
    rw c.in-Ok.ensures.keys (earlier_insert ghosts.eq vector_operands c.self.inside.set.keys c.args.n c.self.invariant.1 below) in
    let here : slice_get c.insert_full.new.self.keys c.in-Ok.found.0 ≡ Some c.args.n = search rules in
    put_term c.args.self.now c.insert_full.new.self.keys c.in-Ok.found.0 c.args.n
    (extends_one c.args.self.now c.insert_full.new.self.keys c.args.n (adds_insert ghosts.eq c.args.self.now c.insert_full.new.self.keys c.args.n (rw (← c.self.view_is) c.in-Ok.ensures.keys)))
    earlier c.requires.earlier here
