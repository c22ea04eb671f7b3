use Rattle.std.proofs.Common.{◌≡◌, ◌^◌, ℕ, List, length, arith, refl, ap, ◌∙◌}
use lib.IntN.{ℤ}
use Rattle.heco_ring.specs.Remainders.{reduced}
use Rattle.heco_ring.specs.Ring.{wholes, plus, times, sum_lists}
use Rattle.heco_scheme.specs.Gates.{digits}
use Rattle.heco_scheme.specs.Keys.{row}
use Rattle.heco_transform.specs.Halves.{AreSums}
use Rattle.heco_bfv.proofs.SwitchSteps.{gained_none, given}
use Rattle.heco_bfv.proofs.switcher.Switcher.switch.Goals as goal

pub loop-i-init : goal.loop-i-init
loop-i-init c =
    let d = c.args.self.now.transform.depth in
    record {
      preset = refl;
      depth = refl;
      gained = record {
        first_count = c.clear_halves.ensures.none;
        second_count = c.clear_halves-2.ensures.none;
        first = gained_none d (λ j. times (2 ^ d) (digits (2 ^ d) c.args.b.now j) (wholes (row c.args.k.now.rows j).0)) c.clear_halves.new.sums c.clear_halves.ensures.zero;
        second = gained_none d (λ j. times (2 ^ d) (digits (2 ^ d) c.args.b.now j) (wholes (row c.args.k.now.rows j).1)) c.clear_halves-2.new.sums c.clear_halves-2.ensures.zero;
      };
    }

pub returns-clause-first : goal.returns-clause-first
returns-clause-first c =
    let n = c.args.self.now.preset.n in
    let d = c.args.self.now.transform.depth in
    let f : ℕ → ℕ → List ℤ = λ m j. times m (digits m c.args.b.now j) (wholes (row c.args.k.now.rows j).0) in
    let i : c.loop-i.i ≡ 29 = omega arith in
    let all : AreSums d (sum_lists (2 ^ d) 29 (f (2 ^ d))) c.loop-i.self.first = rw i at c.loop-i.invariant.gained.first in
    let w : c.add_sums.new.self ≡ reduced (2 ^ 58) n (plus n (wholes c.args.c0.now) (sum_lists n 29 (f n))) = rw (c.copy_in.ensures, c.args.self.now.size) at ((rw c.loop-i.invariant.depth at c.add_sums.ensures.value) (sum_lists (2 ^ d) 29 (f (2 ^ d))) all) in
    let l : length c.add_sums.new.self ≡ n = c.add_sums.ensures.long ∙ ap length c.copy_in.ensures ∙ c.requires.c0 in
    given n (plus n (wholes c.args.c0.now) (sum_lists n 29 (f n))) c.add_sums.new.self c.give.new.out l w c.give.ensures.value

pub returns-clause-second : goal.returns-clause-second
returns-clause-second c =
    let n = c.args.self.now.preset.n in
    let d = c.args.self.now.transform.depth in
    let f : ℕ → ℕ → List ℤ = λ m j. times m (digits m c.args.b.now j) (wholes (row c.args.k.now.rows j).1) in
    let i : c.loop-i.i ≡ 29 = omega arith in
    let all : AreSums d (sum_lists (2 ^ d) 29 (f (2 ^ d))) c.loop-i.self.second = rw i at c.loop-i.invariant.gained.second in
    let w : c.add_sums-2.new.self ≡ reduced (2 ^ 58) n (plus n (wholes c.args.c1.now) (sum_lists n 29 (f n))) = rw (c.copy_in-2.ensures, c.args.self.now.size) at ((rw c.loop-i.invariant.depth at c.add_sums-2.ensures.value) (sum_lists (2 ^ d) 29 (f (2 ^ d))) all) in
    let l : length c.add_sums-2.new.self ≡ n = c.add_sums-2.ensures.long ∙ ap length c.copy_in-2.ensures ∙ c.requires.c1 in
    given n (plus n (wholes c.args.c1.now) (sum_lists n 29 (f n))) c.add_sums-2.new.self c.give-2.new.out l w c.give-2.ensures.value
