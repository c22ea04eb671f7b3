use Rattle.std.proofs.Common.{◌≡◌, [], ◌∷◌, length, arith, ap, ◌∙◌}
use Rattle.std.proofs.lemmas.List.{length-append, get_or_read}
use Rattle.heco_scheme.specs.Keys.{row}
use Rattle.heco_keys.specs.RowImages.{ArePairImages}
use Rattle.heco_keys.proofs.PushedImages.{pushed_each}
use Rattle.heco_keys.proofs.row_images.images_of.Goals as goal

pub loop-i-preserved : goal.loop-i-preserved
loop-i-preserved c =
    let rows = c.args.rows.now in
    let x = c.in_ok-pair_images.field-0 in
    let pushed = c.in_ok-push.ensures.ok in
    let here : c.index-rows-i.result ≡ row rows c.loop-i.i = get_or_read rows c.loop-i.i c.index-rows-i.result (omega arith) c.index-rows-i.is ([], []) in
    record {
      long = ap length pushed ∙ length-append c.loop-i.pairs (x ∷ []) ∙ omega (arith, c.loop-i.invariant.long);
      each = pushed_each (λ i y. ArePairImages c.args.transform.now.depth (row rows i) y) c.loop-i.i c.loop-i.pairs c.push.new.self x c.loop-i.invariant.long pushed c.loop-i.invariant.each (rw here at c.in_ok-pair_images.ensures);
    }
