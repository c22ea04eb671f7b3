use Rattle.std.proofs.Common.{◌≡◌, ◌<◌, length, arith, get_or, true}
use Rattle.heco_ir.specs.Values.{all_below, numbers}
use Rattle.heco_ir.specs.Terms.{scalar_terms}
use Rattle.heco_ir.proofs.Means.{root_below}
use Rattle.heco_batch.proofs.TableRead.{table_at}
use Rattle.heco_batch.proofs.RootsAdded.{table_long, homes_more}
use Rattle.heco_batch.proofs.batcher.Batcher.roots_of.Goals as goal

pub bounds-table-root : goal.bounds-table-root
bounds-table-root c =
    let inside : all_below (length c.args.ir.now.0) (numbers c.as_slice-root-items.result.now) ≡ true = rw (c.as_slice-root-items.ensures, c.roots.ensures.value) c.roots.ensures.inside in
    omega (arith, root_below _ _ _ (record { 0 = 0 }) inside c.loop-root-test.true, table_long c.args.c.now c.args.self.slots c.args.self.modulus c.args.table.now c.args.ir.now.0 c.requires.table)

pub loop-root-preserved : goal.loop-root-preserved
loop-root-preserved c =
    let inside : all_below (length c.args.ir.now.0) (numbers c.as_slice-root-items.result.now) ≡ true = rw (c.as_slice-root-items.ensures, c.roots.ensures.value) c.roots.ensures.inside in
    let at : (get_or c.as_slice-root-items.result.now c.loop-root.root-index (record { 0 = 0 })).0 < length c.args.table.now =
    omega (arith, root_below _ _ _ (record { 0 = 0 }) inside c.loop-root-test.true, table_long c.args.c.now c.args.self.slots c.args.self.modulus c.args.table.now c.args.ir.now.0 c.requires.table) in (
      rw (homes_more c.args.ir.now.0 c.args.self.slots c.args.self.modulus c.as_slice-root-items.result.now c.loop-root.root-index (record { 0 = 0 }) c.loop-root-test.true)
          (c.in_ok-home_added.ensures.roots c.args.c.now _ _ c.loop-root.invariant.0
          ((table_at c.args.c.now c.args.self.slots c.args.self.modulus c.args.table.now (scalar_terms c.args.ir.now.0)
          ((get_or c.as_slice-root-items.result.now c.loop-root.root-index (record { 0 = 0 })).0) _ c.requires.table at).home_is)),
      omega (arith, c.home_added.ensures.few, c.loop-root.invariant.1),
    )
