-- One node is summed again, and then only those above it may be off.
use Rattle.std.proofs.Common.{◌≡◌, ◌≢◌, ℕ, ◌+◌, ◌*◌, ◌/◌, ◌^◌, ◌<◌, ◌≤◌, List, length, get_or, inl, inr, ◌∙◌, arith}
use Rattle.std.proofs.Math.ListN.{set}
use Rattle.std.proofs.lemmas.List.{length-set, get_or-set_same, get_or-set_other}
use Rattle.std.proofs.Math.Nat.{mul-le-mul_left}
use Rattle.std.proofs.lemmas.Bool.{cases_eq}
use Rattle.heco_marks.specs.Trees.{AreSums, IsTree, IsTreeBut, SameLeaves}

-- two nodes within their share have a sum within that of the node above
share : (i a b s : ℕ) → 2 * i * a ≤ 2 * s → (2 * i + 1) * b ≤ 2 * s → i * (a + b) ≤ 2 * s
share i a b s left right = grind arith

-- of the nodes that are summed afterwards, all but this one were before, and it is not below them
pub resummed : (leaves : ℕ) (before after : ℕ → Type 0) (counts : List ℕ) (node : ℕ) → node < leaves → 0 < node → AreSums leaves before counts
    → ((i : ℕ) → after i → i ≢ node → before i) → ((i : ℕ) → after i → (2 * i ≢ node) × (2 * i + 1 ≢ node))
    → AreSums leaves after (set counts node (get_or counts (2 * node) 0 + get_or counts (2 * node + 1) 0))
resummed leaves before after counts node low some t was apart =
    let long : length counts ≡ 2 * leaves = t.count in
    let sum : ℕ = get_or counts (2 * node) 0 + get_or counts (2 * node + 1) 0 in
    let here : get_or (set counts node sum) node 0 ≡ sum = get_or-set_same counts node sum 0 (omega arith) in
    record {
      power = t.power;
      few = t.few;
      count = length-set counts node sum ∙ long;
      leaf = λ x lt. (let other : get_or (set counts node sum) (leaves + x) 0 ≡ get_or counts (leaves + x) 0 = get_or-set_other counts node (leaves + x) sum 0 (omega arith) in
          let held : get_or counts (leaves + x) 0 ≤ 1 = t.leaf x lt in omega arith);
      sums = λ i one lt on. (
          let a = apart i on in
          let first : get_or (set counts node sum) (2 * i) 0 ≡ get_or counts (2 * i) 0 = get_or-set_other counts node (2 * i) sum 0 a.0 in
          let second : get_or (set counts node sum) (2 * i + 1) 0 ≡ get_or counts (2 * i + 1) 0 = get_or-set_other counts node (2 * i + 1) sum 0 a.1 in
          elim (cases_eq i node) [
            | inl same ↦ (let left : get_or (set counts node sum) (2 * node) 0 ≡ get_or counts (2 * node) 0 = get_or-set_other counts node (2 * node) sum 0 (omega arith) in
                let right : get_or (set counts node sum) (2 * node + 1) 0 ≡ get_or counts (2 * node + 1) 0 = get_or-set_other counts node (2 * node + 1) sum 0 (omega arith) in
                rw same (omega arith))
            | inr off ↦ (let old : get_or counts i 0 ≡ get_or counts (2 * i) 0 + get_or counts (2 * i + 1) 0 = t.sums i one lt (was i on off) in
                let kept : get_or (set counts node sum) i 0 ≡ get_or counts i 0 = get_or-set_other counts node i sum 0 off in omega arith)
          ]);
      small = λ i. elim (cases_eq i node) [
        | inl same ↦ rw (same, here) (share node _ _ leaves (t.small (2 * node)) (t.small (2 * node + 1)))
        | inr off ↦ (let kept : get_or (set counts node sum) i 0 ≡ get_or counts i 0 = get_or-set_other counts node i sum 0 off in rw kept (t.small i))
      ];
    }

pub mended : (leaves : ℕ) (counts : List ℕ) (node up : ℕ) → IsTreeBut leaves counts node → 0 < node → up ≡ node / 2
    → IsTreeBut leaves (set counts node (get_or counts (2 * node) 0 + get_or counts (2 * node + 1) 0)) up
mended leaves counts node up t some is =
    let low : node < leaves = t.0 in
    (omega arith, resummed leaves (λ i. i ≢ node) (λ i. i ≢ up) counts node low some t.1 (λ i on off. off) (λ i on. (omega arith, omega arith)))

-- a leaf is set
pub leaf_set : (leaves : ℕ) (counts : List ℕ) (number bit leaf : ℕ) → IsTree leaves counts → number < leaves → bit ≤ 1 → leaf ≡ leaves + number
    → IsTreeBut leaves (set counts leaf bit) (leaf / 2)
leaf_set leaves counts number bit leaf t lt few is =
    let long : length counts ≡ 2 * leaves = t.1.count in
    let here : get_or (set counts leaf bit) leaf 0 ≡ bit = get_or-set_same counts leaf bit 0 (omega arith) in (
      omega arith,
      record {
        power = t.1.power;
        few = t.1.few;
        count = length-set counts leaf bit ∙ long;
        leaf = λ x low. elim (cases_eq (leaves + x) leaf) [
          | inl same ↦ rw (same, here) few
          | inr off ↦ (let kept : get_or (set counts leaf bit) (leaves + x) 0 ≡ get_or counts (leaves + x) 0 = get_or-set_other counts leaf (leaves + x) bit 0 off in rw kept (t.1.leaf x low))
        ];
        sums = λ i one low on. (
            let first : get_or (set counts leaf bit) (2 * i) 0 ≡ get_or counts (2 * i) 0 = get_or-set_other counts leaf (2 * i) bit 0 (omega arith) in
            let second : get_or (set counts leaf bit) (2 * i + 1) 0 ≡ get_or counts (2 * i + 1) 0 = get_or-set_other counts leaf (2 * i + 1) bit 0 (omega arith) in
            let own : get_or (set counts leaf bit) i 0 ≡ get_or counts i 0 = get_or-set_other counts leaf i bit 0 (omega arith) in
            let old : get_or counts i 0 ≡ get_or counts (2 * i) 0 + get_or counts (2 * i + 1) 0 = t.1.sums i one low (omega arith) in omega arith);
        small = λ i. elim (cases_eq i leaf) [
          | inl same ↦ rw (same, here) (let m : leaf * bit ≤ leaf * 1 = mul-le-mul_left {m = bit} {n = 1} leaf few in omega arith)
          | inr off ↦ (let kept : get_or (set counts leaf bit) i 0 ≡ get_or counts i 0 = get_or-set_other counts leaf i bit 0 off in rw kept (t.1.small i))
        ];
      },
    )

-- a node above the leaves is no leaf
pub mended_leaves : (leaves : ℕ) (counts : List ℕ) (node sum : ℕ) → node < leaves → SameLeaves leaves counts (set counts node sum)
mended_leaves leaves counts node sum low x = get_or-set_other counts node (leaves + x) sum 0 (omega arith)

-- what the code's sum needs of its numbers
pub inside : (leaves : ℕ) (summed : ℕ → Type 0) (counts : List ℕ) (node : ℕ) → AreSums leaves summed counts → node < leaves → 0 < node
    → (node < length counts) × (2 * node + 1 < length counts) × (length counts ≤ 2 ^ 29) × (get_or counts (2 * node) 0 + get_or counts (2 * node + 1) 0 < 2 ^ 32)
inside leaves summed counts node t low some =
    let long : length counts ≡ 2 * leaves = t.count in
    let few : leaves ≤ 2 ^ 28 = t.few in
    let left : get_or counts (2 * node) 0 ≤ 2 * node * get_or counts (2 * node) 0 = grind arith in
    let right : get_or counts (2 * node + 1) 0 ≤ (2 * node + 1) * get_or counts (2 * node + 1) 0 = grind arith in
    let first : 2 * node * get_or counts (2 * node) 0 ≤ 2 * leaves = t.small (2 * node) in
    let second : (2 * node + 1) * get_or counts (2 * node + 1) 0 ≤ 2 * leaves = t.small (2 * node + 1) in
    (omega arith, omega arith, omega arith, omega arith)
