-- From the root of a tree down to the leaf of the k-th marked number.
use Rattle.std.proofs.Common.{◌≡◌, ℕ, zero, suc, ◌+◌, ◌-◌, ◌*◌, ◌^◌, ◌<◌, ◌≤◌, List, length, filter, get_or, inl, inr, refl, sym, ◌∙◌, ap, arith, Bool, true, false, eqb, Some}
use Rattle.std.specs.List.{slice_get}
use Rattle.std.proofs.Math.Nat.{mul-le-mul_left}
use Rattle.std.proofs.lemmas.Bool.{cases_Bool}
use Rattle.std.proofs.lemmas.Nat.{pow-add, pow_pos}
use Rattle.heco_schedules.specs.Tables.{numbers}
use Rattle.heco_marks.specs.Trees.{IsTree, is_marked, marked}

-- how many of the n numbers from first on pass
abbrev pub passing : (ℕ → Bool) → ℕ → ℕ → ℕ
passing p first n = length (filter p (numbers first n))

one_more : (p : ℕ → Bool) (first n : ℕ) → p first ≡ true → passing p first (suc n) ≡ passing p (first + 1) n + 1
one_more p first n on = rw on (omega arith)

none_more : (p : ℕ → Bool) (first n : ℕ) → p first ≡ false → passing p first (suc n) ≡ passing p (first + 1) n
none_more p first n off = rw off refl

pub passing_parts : (p : ℕ → Bool) (first a b : ℕ) → passing p first (a + b) ≡ passing p first a + passing p (first + a) b
passing_parts p first zero b =
    let e : passing p (first + 0) b ≡ passing p first b = ap (λ x. passing p x b) (let same : first + 0 ≡ first = omega arith in same) in
    let z : passing p first (0 + b) ≡ passing p first b = ap (passing p first) (let same : 0 + b ≡ b = omega arith in same) in
    let none : passing p first zero ≡ 0 = refl in omega arith
passing_parts p first (suc a) b =
    let next : passing p first (suc a + b) ≡ passing p first (suc (a + b)) = ap (passing p first) (let same : suc a + b ≡ suc (a + b) = omega arith in same) in
    let rest : passing p (first + 1) (a + b) ≡ passing p (first + 1) a + passing p (first + 1 + a) b = passing_parts p (first + 1) a b in
    let far : first + 1 + a ≡ first + suc a = omega arith in
    let last : passing p (first + 1 + a) b ≡ passing p (first + suc a) b = ap (λ x. passing p x b) far in
    elim (cases_Bool (p first)) [
      | inl on ↦ (let x = one_more p first (a + b) on in let y = one_more p first a on in omega arith)
      | inr off ↦ (let x = none_more p first (a + b) off in let y = none_more p first a off in omega arith)
    ]

-- a number that passes stands at the place of how many pass before it
pub passing_at : (p : ℕ → Bool) (first n k : ℕ) → k < n → p (first + k) ≡ true → slice_get (filter p (numbers first n)) (passing p first k) ≡ Some (first + k)
passing_at p first zero k lt on = absurd (omega arith)
passing_at p first (suc n) zero lt on = let e : first + 0 ≡ first = omega arith in let here : p first ≡ true = rw e at on in rw (here, e) refl
passing_at p first (suc n) (suc k) lt on =
    let e : first + suc k ≡ first + 1 + k = omega arith in
    let later : p (first + 1 + k) ≡ true = rw e at on in
    let rest : slice_get (filter p (numbers (first + 1) n)) (passing p (first + 1) k) ≡ Some (first + 1 + k) = passing_at p (first + 1) n k (omega arith) later in
    elim (cases_Bool (p first)) [
      | inl here ↦ rw (here, e) rest
      | inr off ↦ rw (off, e) rest
    ]

two_halves : (h : ℕ) → 2 ^ suc h ≡ 2 ^ h + 2 ^ h
two_halves h = let one : suc h ≡ h + 1 = omega arith in rw one (omega (arith, pow-add 2 h 1))

-- a node that covers more than one leaf is none
covers : (leaves node a start : ℕ) → 0 < a → node * (a + a) ≡ leaves + start → start + (a + a) ≤ leaves → (1 ≤ node) × (node < leaves)
covers leaves zero a start some place inside = absurd (omega arith)
covers leaves (suc n) a start some place inside =
    let both : suc n * (a + a) ≡ suc n * a + suc n * a = grind arith in
    let least : suc n * 1 ≤ suc n * a = mul-le-mul_left {m = 1} {n = a} (suc n) some in
    (omega arith, omega arith)

pub covers_more : (leaves node h start : ℕ) → node * 2 ^ suc h ≡ leaves + start → start + 2 ^ suc h ≤ leaves → (1 ≤ node) × (node < leaves)
covers_more leaves node h start place inside = covers leaves node (2 ^ h) start (pow_pos h) (rw two_halves at place) (rw two_halves at inside)

left_place : (leaves node a start : ℕ) → node * (a + a) ≡ leaves + start → 2 * node * a ≡ leaves + start
left_place leaves node a start place = grind arith

right_place : (leaves node a start : ℕ) → node * (a + a) ≡ leaves + start → (2 * node + 1) * a ≡ leaves + (start + a)
right_place leaves node a start place = grind arith

leaf_total : (leaves : ℕ) (counts : List ℕ) (start : ℕ) → get_or counts (leaves + start) 0 ≤ 1 → get_or counts (leaves + start) 0 ≡ passing (is_marked leaves counts) start 1
leaf_total leaves counts start few = elim (cases_Bool (eqb (get_or counts (leaves + start) 0) 1)) [
  | inl on ↦ rw on (grind arith)
  | inr off ↦ rw off (grind arith)
]

-- a node holds how many of the leaves are marked that it covers
pub node_total : (leaves : ℕ) (counts : List ℕ) (h node start : ℕ) → IsTree leaves counts → node * 2 ^ h ≡ leaves + start → start + 2 ^ h ≤ leaves
    → get_or counts node 0 ≡ passing (is_marked leaves counts) start (2 ^ h)
node_total leaves counts zero node start t place inside =
    let one : 2 ^ zero ≡ 1 = refl in
    let there : node ≡ leaves + start = omega arith in
    rw there (leaf_total leaves counts start (t.1.leaf start (omega arith)))
node_total leaves counts (suc h) node start t place inside =
    let c = covers_more leaves node h start place inside in
    let two : 2 ^ suc h ≡ 2 ^ h + 2 ^ h = two_halves h in
    let p : node * (2 ^ h + 2 ^ h) ≡ leaves + start = rw two at place in
    let room : start + (2 ^ h + 2 ^ h) ≤ leaves = rw two at inside in
    let left : get_or counts (2 * node) 0 ≡ passing (is_marked leaves counts) start (2 ^ h) = node_total leaves counts h (2 * node) start t (left_place leaves node (2 ^ h) start p) (omega arith) in
    let right : get_or counts (2 * node + 1) 0 ≡ passing (is_marked leaves counts) (start + 2 ^ h) (2 ^ h) =
    node_total leaves counts h (2 * node + 1) (start + 2 ^ h) t (right_place leaves node (2 ^ h) start p) (omega arith) in
    let parts = passing_parts (is_marked leaves counts) start (2 ^ h) (2 ^ h) in
    let some : 1 ≤ node = c.0 in
    let sum : get_or counts node 0 ≡ get_or counts (2 * node) 0 + get_or counts (2 * node + 1) 0 = t.1.sums node c.0 c.1 (omega arith) in
    rw two (omega arith)

-- the k-th marked number is the left-th of those that the node covers
pub record IsDescent (leaves : ℕ) (counts : List ℕ) (k node left : ℕ) : Type 0 where
  pub height : ℕ
  pub start : ℕ
  pub some : 1 ≤ node
  pub place : node * 2 ^ height ≡ leaves + start
  pub inside : start + 2 ^ height ≤ leaves
  pub here : left < get_or counts node 0
  pub before : passing (is_marked leaves counts) 0 start + left ≡ k

-- the root holds how many numbers are marked
pub root_total : (leaves : ℕ) (counts : List ℕ) → IsTree leaves counts → get_or counts 1 0 ≡ length (marked leaves counts)
unfolding marked
root_total leaves counts t =
    let h : ℕ = t.1.power.0 in
    let is : leaves ≡ 2 ^ t.1.power.0 = t.1.power.1 in
    let total : get_or counts 1 0 ≡ passing (is_marked leaves counts) 0 (2 ^ t.1.power.0) = node_total leaves counts t.1.power.0 1 0 t (omega arith) (omega arith) in
    total ∙ ap (passing (is_marked leaves counts) 0) (sym is)

pub begins : (leaves : ℕ) (counts : List ℕ) (k : ℕ) → IsTree leaves counts → k < length (marked leaves counts) → IsDescent leaves counts k 1 k
begins leaves counts k t lt =
    let is : leaves ≡ 2 ^ t.1.power.0 = t.1.power.1 in
    let root = root_total leaves counts t in
    record { height = t.1.power.0; start = 0; some = omega arith; place = omega arith; inside = omega arith; here = omega arith; before = omega arith }

-- down to the left or to the right
steps : (leaves : ℕ) (counts : List ℕ) (k node left : ℕ) (h start : ℕ) → IsTree leaves counts → node < leaves → 1 ≤ node → node * 2 ^ h ≡ leaves + start → start + 2 ^ h ≤ leaves
    → left < get_or counts node 0 → passing (is_marked leaves counts) 0 start + left ≡ k
    → (left < get_or counts (2 * node) 0 → IsDescent leaves counts k (2 * node) left)
    × (get_or counts (2 * node) 0 ≤ left → IsDescent leaves counts k (2 * node + 1) (left - get_or counts (2 * node) 0))
steps leaves counts k node left zero start t low some place inside here before = absurd (let one : 2 ^ zero ≡ 1 = refl in omega arith)
steps leaves counts k node left (suc h) start t low some place inside here before =
    let two : 2 ^ suc h ≡ 2 ^ h + 2 ^ h = two_halves h in
    let p : node * (2 ^ h + 2 ^ h) ≡ leaves + start = rw two at place in
    let room : start + (2 ^ h + 2 ^ h) ≤ leaves = rw two at inside in
    let sum : get_or counts node 0 ≡ get_or counts (2 * node) 0 + get_or counts (2 * node + 1) 0 = t.1.sums node some low (omega arith) in
    let first : get_or counts (2 * node) 0 ≡ passing (is_marked leaves counts) start (2 ^ h) = node_total leaves counts h (2 * node) start t (left_place leaves node (2 ^ h) start p) (omega arith) in
    let parts : passing (is_marked leaves counts) 0 (start + 2 ^ h) ≡ passing (is_marked leaves counts) 0 start + passing (is_marked leaves counts) (0 + start) (2 ^ h) =
    passing_parts (is_marked leaves counts) 0 start (2 ^ h) in
    let same : passing (is_marked leaves counts) (0 + start) (2 ^ h) ≡ passing (is_marked leaves counts) start (2 ^ h) = ap (λ x. passing (is_marked leaves counts) x (2 ^ h)) (let e : 0 + start ≡ start = omega arith in e) in (
      λ lt. record { height = h; start = start; some = omega arith; place = left_place leaves node (2 ^ h) start p; inside = omega arith; here = lt; before = before },
      λ le. record { height = h; start = start + 2 ^ h; some = omega arith; place = right_place leaves node (2 ^ h) start p; inside = omega arith; here = omega arith; before = omega arith },
    )

pub step_left : (leaves : ℕ) (counts : List ℕ) (k node left : ℕ) → IsTree leaves counts → node < leaves → IsDescent leaves counts k node left
    → left < get_or counts (2 * node) 0 → IsDescent leaves counts k (2 * node) left
step_left leaves counts k node left t low d = (steps leaves counts k node left d.height d.start t low d.some d.place d.inside d.here d.before).0

pub step_right : (leaves : ℕ) (counts : List ℕ) (k node left : ℕ) → IsTree leaves counts → node < leaves → IsDescent leaves counts k node left
    → get_or counts (2 * node) 0 ≤ left → IsDescent leaves counts k (2 * node + 1) (left - get_or counts (2 * node) 0)
step_right leaves counts k node left t low d = (steps leaves counts k node left d.height d.start t low d.some d.place d.inside d.here d.before).1

-- at a leaf
landed : (leaves : ℕ) (counts : List ℕ) (k node left : ℕ) (h start : ℕ) → IsTree leaves counts → leaves ≤ node → node * 2 ^ h ≡ leaves + start → start + 2 ^ h ≤ leaves
    → left < get_or counts node 0 → passing (is_marked leaves counts) 0 start + left ≡ k → (node < 2 * leaves) × (slice_get (marked leaves counts) k ≡ Some (node - leaves))
unfolding marked
landed leaves counts k node left (suc h) start t high place inside here before = absurd (let c = covers_more leaves node h start place inside in omega (arith, c.1))
landed leaves counts k node left zero start t high place inside here before =
    let one : 2 ^ zero ≡ 1 = refl in
    let there : node ≡ leaves + start = omega arith in
    let lt : start < leaves = omega arith in
    let few : get_or counts (leaves + start) 0 ≤ 1 = t.1.leaf start lt in
    let some : left < get_or counts (leaves + start) 0 = rw there at here in
    let on : is_marked leaves counts start ≡ true = grind arith in
    let at_k : passing (is_marked leaves counts) 0 start ≡ k = omega arith in
    let number : node - leaves ≡ 0 + start = omega arith in
    let zeroth : 0 + start ≡ start = omega arith in
    (omega arith, rw number (rw at_k at (passing_at (is_marked leaves counts) 0 leaves start lt (rw zeroth on))))

pub lands : (leaves : ℕ) (counts : List ℕ) (k node left : ℕ) → IsTree leaves counts → leaves ≤ node → IsDescent leaves counts k node left
    → (node < 2 * leaves) × (slice_get (marked leaves counts) k ≡ Some (node - leaves))
lands leaves counts k node left t high d = landed leaves counts k node left d.height d.start t high d.place d.inside d.here d.before
