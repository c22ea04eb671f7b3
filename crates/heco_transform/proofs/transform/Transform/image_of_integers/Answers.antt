use Rattle.std.proofs.Common.{◌^◌, length, arith}
use lib.ListN.{drop}
use Rattle.heco_ring.specs.Ring.{wholes}
use Rattle.heco_transform.specs.Modulus.{modulus}
use Rattle.heco_transform.proofs.ImageLaws.{image_of_values, values_of_image}
use Rattle.heco_transform.proofs.WholeNumbers.{values_same, same_taken}
use Rattle.heco_transform.proofs.Written.{front}
use Rattle.heco_transform.proofs.transform.Transform.image_of_integers.Goals as goal

pub invariant_of-out : goal.invariant_of-out
invariant_of-out c =
    let w = front c.args.out.now.words.len c.forward.new.a (drop (length c.forward.new.a) c.args.out.now.words.items) (omega arith) in
    record { below = rw w c.forward.ensures.below }

pub returns-clause-image : goal.returns-clause-image
returns-clause-image c =
    let w = front c.args.out.now.words.len c.forward.new.a (drop (length c.forward.new.a) c.args.out.now.words.items) (omega arith) in
    let f = c.args.self.now in
    rw w (image_of_values f.depth f.roots.items c.args.a.now c.forward.new.a f.of_psi (values_same modulus (2 ^ c.args.self.now.depth) 1 c.args.self.now.roots.items (wholes c.residues.new.out) c.args.a.now c.forward.new.a (values_of_image f.depth f.roots.items (wholes c.residues.new.out) c.forward.new.a f.of_psi c.forward.ensures.image)
    (same_taken (2 ^ c.args.self.now.depth) c.args.a.now c.residues.new.out (λ k l. c.residues.ensures.value k (omega arith)))))
