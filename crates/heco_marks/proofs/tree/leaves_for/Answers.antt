use Rattle.std.proofs.Common.{◌≡◌, ◌+◌, ◌*◌, ◌<◌, ◌≤◌, ◌^◌, ℕ, inl, inr, arith}
use Rattle.std.proofs.Math.Nat.{pow-le-pow_right}
use Rattle.std.proofs.lemmas.Bool.{cases_lt}
use Rattle.std.proofs.lemmas.Nat.{pow-add}
use Rattle.heco_marks.proofs.tree.leaves_for.Goals as goal

-- a power below this one has another step to it
power_room : (h leaves count : ℕ) → leaves ≡ 2 ^ h → leaves < count → count ≤ 2 ^ 28 → h + 1 ≤ 28
power_room h leaves count is lt few = elim (cases_lt h 28) [
  | inl low ↦ omega arith
  | inr high ↦ absurd (let big : 2 ^ 28 ≤ 2 ^ h = pow-le-pow_right {n = 2} (omega arith) {i = 28} {j = h} high in omega arith)
]

pub loop-leaves-preserved : goal.loop-leaves-preserved
loop-leaves-preserved c =
    let was = c.loop-leaves.invariant in
    let more : 2 ^ (was.0 + 1) ≡ 2 ^ was.0 * 2 = pow-add 2 was.0 1 in
    let is : c.loop-leaves.leaves ≡ 2 ^ was.0 = was.1 in
    (was.0 + 1, omega arith, power_room was.0 c.loop-leaves.leaves c.args.count is (omega arith) (omega arith))

pub returns-clause-few : goal.returns-clause-few
returns-clause-few c =
    let was = c.loop-leaves.invariant in
    let is : c.loop-leaves.leaves ≡ 2 ^ was.0 = was.1 in
    let big : 2 ^ was.0 ≤ 2 ^ 28 = pow-le-pow_right {n = 2} (omega arith) {i = was.0} {j = 28} was.2 in omega arith
