-- A tree that is built: its leaves are set, and then its nodes are summed from the last one up.
use Rattle.std.proofs.Common.{◌≡◌, ℕ, ◌+◌, ◌-◌, ◌*◌, ◌^◌, ◌<◌, ◌≤◌, List, length, filter, get_or, inl, inr, refl, ◌∙◌, arith, Bool, true, false}
use Rattle.std.proofs.Math.ListN.{set}
use Rattle.std.proofs.Math.Nat.{mul-le-mul_left}
use Rattle.std.proofs.lemmas.List.{get_or_past}
use Rattle.std.proofs.lemmas.Bool.{cases_lt, cases_Bool}
use Rattle.std.proofs.lemmas.Option.{slice_get_past}
use Rattle.heco_schedules.specs.Tables.{below}
use Rattle.heco_schedules.proofs.Rising.{rising-filter, named_filter, filter_named, same_bools, same_rising}
use Rattle.heco_marks.specs.Trees.{AreLeaves, AreSums, SameLeaves, is_marked, marked}
use Rattle.heco_marks.specs.Marks.{flag_at}
use Rattle.heco_marks.proofs.Mending.{resummed}
use Rattle.heco_marks.proofs.Sets.{marked_rises}

-- a count of 0 or 1 is within each share
bit_small : (i c s : ℕ) → c ≤ 1 → i ≤ 2 * s → i * c ≤ 2 * s
bit_small i c s few low = let m : i * c ≤ i * 1 = mul-le-mul_left {m = c} {n = 1} i few in omega arith

leaf_few : (leaves : ℕ) (flag : ℕ → Bool) (counts : List ℕ) (number : ℕ) → AreLeaves leaves flag counts → get_or counts (leaves + number) 0 ≤ 1
leaf_few leaves flag counts number l = rw (l.leaf number) (elim (cases_Bool (flag number)) [ inl on ↦ rw on (omega arith) | inr off ↦ rw off (omega arith) ])

-- before the first sum
pub unsummed : (leaves : ℕ) (flag : ℕ → Bool) (counts : List ℕ) → (h : ℕ) × (leaves ≡ 2 ^ h) → leaves ≤ 2 ^ 28 → AreLeaves leaves flag counts → AreSums leaves (λ i. leaves ≤ i) counts
unsummed leaves flag counts power few l = record {
  power = power;
  few = few;
  count = l.count;
  leaf = λ x lt. leaf_few leaves flag counts x l;
  sums = λ i one low high. absurd (omega arith);
  small = λ i. elim (cases_lt i leaves) [
    | inl low ↦ (let none : get_or counts i 0 ≡ 0 = l.inner i low in rw none (omega arith))
    | inr high ↦ elim (cases_lt i (2 * leaves)) [
      | inl inside ↦ (let at : leaves + (i - leaves) ≡ i = omega arith in bit_small i (get_or counts i 0) leaves (rw at at (leaf_few leaves flag counts (i - leaves) l)) (omega arith))
      | inr past ↦ (let long : length counts ≡ 2 * leaves = l.count in let none : get_or counts i 0 ≡ 0 = get_or_past counts i 0 (omega arith) in rw none (omega arith))
    ]
  ];
}

-- one node more is summed
pub summed_next : (leaves : ℕ) (counts : List ℕ) (node : ℕ) → node < leaves → 0 < node → AreSums leaves (λ i. node + 1 ≤ i) counts
    → AreSums leaves (λ i. node ≤ i) (set counts node (get_or counts (2 * node) 0 + get_or counts (2 * node + 1) 0))
summed_next leaves counts node low some t = resummed leaves (λ i. node + 1 ≤ i) (λ i. node ≤ i) counts node low some t (λ i on off. omega arith) (λ i on. (omega arith, omega arith))

-- the tree of these leaves marks the numbers of the flags
pub built : (leaves : ℕ) (flags : List Bool) (counts counts' : List ℕ) → length flags ≤ leaves → AreLeaves leaves (flag_at flags) counts → SameLeaves leaves counts counts'
    → marked leaves counts' ≡ filter (flag_at flags) (below (length flags))
unfolding marked
built leaves flags counts counts' room l same =
    same_rising 0 (marked leaves counts') (filter (flag_at flags) (below (length flags))) (marked_rises leaves counts') (rising-filter (flag_at flags) 0 (length flags))
    (λ x. same_bools _ _
    (λ on. (let r = named_filter (is_marked leaves counts') 0 leaves x on in
    let flagged : flag_at flags x ≡ true = is_flag x r.2 in
    filter_named (flag_at flags) 0 (length flags) x (omega arith) (flag_inside x flagged) flagged))
    (λ on. (let r = named_filter (flag_at flags) 0 (length flags) x on in let lt : x < 0 + length flags = r.1 in
    filter_named (is_marked leaves counts') 0 leaves x (omega arith) (omega arith) (flag_is x r.2)))) where
      flag_inside : (x : ℕ) → flag_at flags x ≡ true → x < 0 + length flags
      flag_inside x on = elim (cases_lt x (length flags)) [
        | inl inside ↦ omega arith
        | inr past ↦ absurd (let none = slice_get_past flags x past in let off : flag_at flags x ≡ false = rw none refl in cc)
      ]

      flag_is : (x : ℕ) → flag_at flags x ≡ true → is_marked leaves counts' x ≡ true
      flag_is x on = let now : get_or counts' (leaves + x) 0 ≡ 1 = same x ∙ (l.leaf x ∙ rw on refl) in rw now refl

      is_flag : (x : ℕ) → is_marked leaves counts' x ≡ true → flag_at flags x ≡ true
      is_flag x on = elim (cases_Bool (flag_at flags x)) [
        | inl is ↦ is
        | inr off ↦ absurd (let now : get_or counts' (leaves + x) 0 ≡ 0 = same x ∙ (l.leaf x ∙ rw off refl) in let no_mark : is_marked leaves counts' x ≡ false = rw now refl in cc)
      ]
