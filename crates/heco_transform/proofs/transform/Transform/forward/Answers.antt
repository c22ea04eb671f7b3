use Rattle.std.proofs.Common.{refl}
use Rattle.heco_transform.specs.Modulus.{psi}
use Rattle.heco_transform.proofs.ImageLaws.{image_of_values}
use Rattle.heco_transform.proofs.Roots.{layers_tree}
use Rattle.heco_transform.proofs.transform.Transform.forward.Goals as goal

pub forward-requires-clause-tree : goal.forward-requires-clause-tree
forward-requires-clause-tree c = rw c.as_slice.ensures.value (layers_tree psi c.args.self.now.depth c.args.self.now.roots.items c.args.self.now.of_psi c.args.self.now.short refl)

pub returns-clause-image : goal.returns-clause-image
returns-clause-image c = image_of_values _ c.args.self.now.roots.items _ _ c.args.self.now.of_psi (rw c.as_slice.ensures.value at c.forward.ensures.values)
