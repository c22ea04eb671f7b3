use Rattle.std.proofs.Common.{◌≡◌, ◌^◌, length, arith, refl, ◌∙◌}
use Rattle.heco_transform.specs.Modulus.{modulus, psi}
use Rattle.heco_transform.specs.Values.{Inverses}
use Rattle.heco_transform.proofs.Finish.{values_cong, share_cong, finished}
use Rattle.heco_transform.proofs.ImageLaws.{values_of_image}
use Rattle.heco_transform.proofs.Roots.{layers_tree, layers_inverses}
use Rattle.heco_transform.proofs.transform.Transform.words_of_sum.Goals as goal

pub returns : goal.returns
returns c = λ a image small.
    let n : length c.reduce_all.new.out ≡ 2 ^ c.args.self.now.depth = c.reduce_all.auto.out ∙ c.requires.out in
    let m : length c.inverse.new.a ≡ 2 ^ c.args.self.now.depth = c.inverse.auto.a ∙ n in
    let o : length c.centre_all.new.out ≡ 2 ^ c.args.self.now.depth = c.centre_all.auto.out ∙ m in
    let tree = layers_tree psi c.args.self.now.depth c.args.self.now.roots.items c.args.self.now.of_psi c.args.self.now.short refl in
    let inv : Inverses modulus c.args.self.now.roots.items c.as_slice-2.result.now = rw c.as_slice-2.ensures.value (layers_inverses psi 7216295569200365 c.args.self.now.depth c.args.self.now.roots.items c.args.self.now.inverses.items c.args.self.now.of_psi c.args.self.now.of_inverse refl) in
    let back = c.inverse.ensures.value c.args.self.now.roots.items a tree inv
    (values_cong modulus (2 ^ c.args.self.now.depth) 1 c.args.self.now.roots.items a c.args.sum.now.words.items c.reduce_all.new.out (values_of_image c.args.self.now.depth c.args.self.now.roots.items a c.args.sum.now.words.items c.args.self.now.of_psi image) (λ k l. rw c.as_slice.ensures.value at (c.reduce_all.ensures.value k (omega (arith, n))))) in
    finished (2 ^ c.args.self.now.depth) a c.inverse.new.a c.centre_all.new.out c.args.self.now.inverse_of_n o back
    (share_cong c.args.self.now.depth c.args.self.now.inverse_of_n c.args.self.now.short c.args.self.now.of_n)
    (λ k l. c.centre_all.ensures k (omega (arith, o))) small
