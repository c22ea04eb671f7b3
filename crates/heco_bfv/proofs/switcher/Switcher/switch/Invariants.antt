use Rattle.std.proofs.Common.{◌≡◌}
use Rattle.heco_bfv.specs.Switching.{AreGained}
use Rattle.heco_bfv.proofs.switcher.Switcher.switch.Given as goal

abbrev pub invariant-loop-i : goal.invariant-loop-i
invariant-loop-i l = record {
  preset : l.self.preset ≡ l.fn.self.preset;
  depth : l.self.transform.depth ≡ l.fn.self.transform.depth;
  gained : AreGained l.fn.self.transform.depth l.b l.k.rows l.i l.self.first l.self.second;
}
