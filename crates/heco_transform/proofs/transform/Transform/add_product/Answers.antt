use Rattle.std.proofs.Common.{◌<◌, ◌^◌, length, arith, refl, get_or}
use lib.ListN.{drop}
use Rattle.heco_transform.specs.Modulus.{modulus, psi}
use Rattle.heco_transform.proofs.Finish.{values_gather}
use Rattle.heco_transform.proofs.Gathers.{product_below}
use Rattle.heco_transform.proofs.ImageLaws.{image_of_values, values_of_image}
use Rattle.heco_transform.proofs.Roots.{layers_tree}
use Rattle.heco_transform.proofs.Written.{front}
use Rattle.heco_transform.proofs.transform.Transform.add_product.Goals as goal

pub invariant_of-sum : goal.invariant_of-sum
invariant_of-sum c =
    let w = front c.args.sum.now.words.len c.add_terms.new.sums (drop (length c.add_terms.new.sums) c.args.sum.now.words.items) (omega arith) in
    record {
      below = rw w (λ k l.
          let kn : k < 2 ^ c.args.self.now.depth = omega arith in
          let e = rw (c.as_mut_slice.ensures.value, c.as_slice.ensures.value, c.as_slice-2.ensures.value) at (c.add_terms.ensures.value k l) in
          let b = product_below (get_or c.args.x.now.words.items k 0) (get_or c.args.y.now.words.items k 0) (c.args.x.now.below k (omega arith)) (c.args.y.now.below k (omega arith)) in
          omega (arith, e, b, c.args.sum.now.below k (omega arith)));
    }

pub returns-clause-sum : goal.returns-clause-sum
returns-clause-sum c = λ s a b is ia ib.
    let w = front c.args.sum.now.words.len c.add_terms.new.sums (drop (length c.add_terms.new.sums) c.args.sum.now.words.items) (omega arith) in
    let f = c.args.self.now in
    rw w (image_of_values f.depth f.roots.items _ c.add_terms.new.sums f.of_psi (values_gather modulus c.args.self.now.depth c.args.self.now.roots.items s a b c.args.sum.now.words.items c.args.x.now.words.items c.args.y.now.words.items c.add_terms.new.sums
    (layers_tree psi c.args.self.now.depth c.args.self.now.roots.items c.args.self.now.of_psi c.args.self.now.short refl) c.args.self.now.of_psi.long
    (values_of_image f.depth f.roots.items s c.args.sum.now.words.items f.of_psi is) (values_of_image f.depth f.roots.items a c.args.x.now.words.items f.of_psi ia) (values_of_image f.depth f.roots.items b c.args.y.now.words.items f.of_psi ib)
    (λ k l. rw (c.as_mut_slice.ensures.value, c.as_slice.ensures.value, c.as_slice-2.ensures.value) at (c.add_terms.ensures.value k (omega arith)))))
