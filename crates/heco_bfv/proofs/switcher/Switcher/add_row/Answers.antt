use Rattle.std.proofs.Common.{◌≡◌, ◌*◌, ◌^◌, List, [], ℕ, sym, ap, ◌∙◌}
use Rattle.std.proofs.lemmas.Option.{get_or_from_slice_get}
use Rattle.heco_ring.specs.Ring.{wholes}
use Rattle.heco_scheme.specs.Gates.{digits}
use Rattle.heco_scheme.specs.Keys.{row}
use Rattle.heco_transform.specs.Halves.{AreHalves}
use Rattle.heco_transform.specs.Images.{IsImageOf, bit_fields}
use Rattle.heco_bfv.proofs.SwitchSteps.{digits_are, digits_small, gained_row}
use Rattle.heco_bfv.proofs.switcher.Switcher.add_row.Goals as goal

pub returns-in-Some-clause-gained : goal.returns-in-Some-clause-gained
returns-in-Some-clause-gained c =
    let d = c.args.self.now.transform.depth in
    let b = c.args.b.now in
    let k = c.args.k.now.rows in
    let small = digits_small (2 ^ d) c.args.i b in
    let is : wholes (bit_fields (2 * c.args.i) 2 b) ≡ digits (2 ^ d) b c.args.i = digits_are (2 ^ d) c.args.i b (c.requires.b ∙ sym c.args.self.now.size) in
    let image : IsImageOf d (digits (2 ^ d) b c.args.i) c.image_of_bits.new.out = rw (c.as_slice.ensures.value, is) at c.image_of_bits.ensures.image in
    gained_row d c.args.i b k c.args.self.now.first c.args.self.now.second c.add_row.new.sums c.add_row-in-Some.new.sums c.requires.gained c.add_row.ensures.one_more c.add_row-in-Some.ensures.one_more
    (λ S s. c.add_row.ensures.sums S (digits (2 ^ d) b c.args.i) (row k c.args.i).0 s image small c.in-Some.ensures.first)
    (λ S s. c.add_row-in-Some.ensures.sums S (digits (2 ^ d) b c.args.i) (row k c.args.i).1 s image small c.in-Some.ensures.second)

pub returns-in-None-clause-gained : goal.returns-in-None-clause-gained
returns-in-None-clause-gained c =
    let d = c.args.self.now.transform.depth in
    let b = c.args.b.now in
    let k = c.args.k.now.rows in
    let small = digits_small (2 ^ d) c.args.i b in
    let is : wholes (bit_fields (2 * c.args.i) 2 b) ≡ digits (2 ^ d) b c.args.i = digits_are (2 ^ d) c.args.i b (c.requires.b ∙ sym c.args.self.now.size) in
    let image : IsImageOf d (digits (2 ^ d) b c.args.i) c.image_of_bits.new.out = rw (c.as_slice.ensures.value, is) at c.image_of_bits.ensures.image in
    let r = get_or_from_slice_get k c.args.i (c.row.result.0.now, c.row.result.1.now) ([], []) c.row.ensures in
    let left : c.as_slice-in-None.result.now ≡ (row k c.args.i).0 = c.as_slice-in-None.ensures.value ∙ ap (λ (x : List ℕ × List ℕ). x.0) (sym r) in
    let right : c.as_slice-in-None-2.result.now ≡ (row k c.args.i).1 = c.as_slice-in-None-2.ensures.value ∙ ap (λ (x : List ℕ × List ℕ). x.1) (sym r) in
    let first : AreHalves d (row k c.args.i).0 c.halves_into.new.out = rw left at c.halves_into.ensures.halves in
    let second : AreHalves d (row k c.args.i).1 c.halves_into-in-None.new.out = rw right at c.halves_into-in-None.ensures.halves in
    gained_row d c.args.i b k c.args.self.now.first c.args.self.now.second c.add_row-in-None.new.sums c.add_row-in-None-2.new.sums c.requires.gained c.add_row-in-None.ensures.one_more c.add_row-in-None-2.ensures.one_more
    (λ S s. c.add_row-in-None.ensures.sums S (digits (2 ^ d) b c.args.i) (row k c.args.i).0 s image small first)
    (λ S s. c.add_row-in-None-2.ensures.sums S (digits (2 ^ d) b c.args.i) (row k c.args.i).1 s image small second)
