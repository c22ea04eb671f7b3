-- The set of the marked numbers, and a leaf that is set.
use Rattle.std.proofs.Common.{◌≡◌, ℕ, ◌+◌, ◌*◌, ◌<◌, ◌≤◌, List, length, get_or, inl, inr, refl, ◌∙◌, arith, true, false, ◌&&◌, eqb, ltb, cond}
use Rattle.std.proofs.Math.ListN.{set}
use Rattle.std.proofs.lemmas.List.{get_or-set_same, get_or-set_other}
use Rattle.std.proofs.lemmas.Bool.{cases_eq}
use Rattle.heco_schedules.specs.Rising.{names, RisingFrom}
use Rattle.heco_schedules.proofs.Lists.{and_left, and_right, and_both}
use Rattle.heco_schedules.proofs.Rising.{rising-filter, named_filter, filter_named, same_bools}
use Rattle.heco_marks.specs.Trees.{IsTree, SameLeaves, is_marked, marked}

pub marked_rises : (leaves : ℕ) (counts : List ℕ) → RisingFrom 0 (marked leaves counts)
unfolding marked
marked_rises leaves counts = rising-filter (is_marked leaves counts) 0 leaves

pub named_marked : (leaves : ℕ) (counts : List ℕ) (x : ℕ) → names (marked leaves counts) x ≡ (ltb x leaves && is_marked leaves counts x)
unfolding marked
named_marked leaves counts x = same_bools _ _
    (λ on. (let r = named_filter (is_marked leaves counts) 0 leaves x on in let lt : x < 0 + leaves = r.1 in and_both (ltb x leaves) _ (grind arith) r.2))
    (λ on. (let lt : x < leaves = grind (arith, and_left (ltb x leaves) _ on) in filter_named (is_marked leaves counts) 0 leaves x (omega arith) (omega arith) (and_right (ltb x leaves) _ on)))

-- after the leaf of a number was set to this bit
pub marked_set : (leaves : ℕ) (counts counts' : List ℕ) (number bit x : ℕ) → IsTree leaves counts → number < leaves → bit ≤ 1 → SameLeaves leaves (set counts (leaves + number) bit) counts'
    → names (marked leaves counts') x ≡ cond (eqb number x) (eqb bit 1) (names (marked leaves counts) x)
marked_set leaves counts counts' number bit x t there few same =
    let long : length counts ≡ 2 * leaves = t.1.count in
    elim (cases_eq number x) [
      | inl is ↦ (let on : eqb number x ≡ true = grind arith in
          let low : ltb x leaves ≡ true = grind arith in
          let place : leaves + x ≡ leaves + number = omega arith in
          let now : get_or counts' (leaves + x) 0 ≡ bit = same x ∙ (rw place (get_or-set_same counts (leaves + number) bit 0 (omega arith))) in
          rw (on, named_marked leaves counts' x, low, now) refl)
      | inr apart ↦ (let off : eqb number x ≡ false = grind arith in
          let now : get_or counts' (leaves + x) 0 ≡ get_or counts (leaves + x) 0 = same x ∙ get_or-set_other counts (leaves + number) (leaves + x) bit 0 (omega arith) in
          rw (off, named_marked leaves counts' x, named_marked leaves counts x, now) refl)
    ]
