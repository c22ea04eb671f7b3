-- The lists of a board that opens.
use Rattle.std.proofs.Common.{◌≡◌, ℕ, zero, suc, ◌+◌, ◌<◌, ◌≤◌, List, [], ◌∷◌, ◌++◌, length, map, take, filter, get_or, refl, ◌∙◌, ap, arith, Bool, true, cond, eqb, Option, Some, None}
use Rattle.std.specs.Option.{option_to_list}
use Rattle.std.specs.List.{slice_get}
use Rattle.std.proofs.lemmas.List.{map-append}
use Rattle.heco_schedules.specs.Tables.{numbers, below}
use Rattle.heco_schedules.proofs.Lists.{get-map, get-below, length-map, length-below, or_left, or_right}
use Rattle.heco_schedules.specs.Rising.{names}
use Rattle.heco_marks.specs.Marks.{flag_at}
use Rattle.heco_sched.specs.Tallies.{times_in, sum_below}

numbers-more : (first n : ℕ) → numbers first (suc n) ≡ numbers first n ++ (first + n) ∷ []
numbers-more first zero = ap (λ k. k ∷ []) (omega arith)
numbers-more first (suc n) = ap (λ l. first ∷ l) (numbers-more (first + 1) n ∙ ap (λ k. numbers (first + 1) n ++ k ∷ []) (omega arith))

pub below-more : (n : ℕ) → below (n + 1) ≡ below n ++ n ∷ []
below-more n = let e : n + 1 ≡ suc n = omega arith in let f : 0 + n ≡ n = omega arith in rw e (numbers-more 0 n ∙ ap (λ k. below n ++ k ∷ []) f)

pub times_few : (wires : List ℕ) (wire : ℕ) → times_in wires wire ≤ length wires
times_few [] wire = omega arith
times_few (w ∷ ws) wire = let rest : times_in ws wire ≤ length ws = times_few ws wire in grind arith

-- counted up to a place, and to the next
pub times_below : (xs : List ℕ) (i wire : ℕ) → times_in (take i xs) wire ≤ i
times_below xs zero wire = omega arith
times_below [] (suc i) wire = omega arith
times_below (x ∷ xs) (suc i) wire = let rest : times_in (take i xs) wire ≤ i = times_below xs i wire in grind arith

pub times_next : (xs : List ℕ) (i wire : ℕ) → i < length xs → times_in (take (i + 1) xs) wire ≡ times_in (take i xs) wire + cond (eqb (get_or xs i 0) wire) 1 0
times_next [] i wire lt = absurd (omega arith)
times_next (x ∷ xs) zero wire lt = let e : 0 + 1 ≡ suc 0 = omega arith in rw e (omega arith)
times_next (x ∷ xs) (suc i) wire lt =
    let e : suc i + 1 ≡ suc (i + 1) = omega arith in
    let rest : times_in (take (i + 1) xs) wire ≡ times_in (take i xs) wire + cond (eqb (get_or xs i 0) wire) 1 0 = times_next xs i wire (omega arith) in
    rw (e, rest) (omega arith)

pub times_two : (first : ℕ) (second : Option ℕ) (wire : ℕ) → times_in (first ∷ option_to_list second) wire ≤ 2
times_two first None wire = let most : times_in (first ∷ []) wire ≤ 1 = times_few (first ∷ []) wire in omega arith
times_two first (Some w) wire = times_few (first ∷ w ∷ []) wire

pub sum_next : (f : ℕ → ℕ) (n : ℕ) → sum_below f (n + 1) ≡ sum_below f n + f n
sum_next f n = let e : n + 1 ≡ suc n = omega arith in rw e refl

pub map-more : {X : Type 0} (f : ℕ → X) (n : ℕ) → map f (below (n + 1)) ≡ map f (below n) ++ f n ∷ []
map-more f n = ap (map f) (below-more n) ∙ map-append f (below n) (n ∷ [])

-- the flags of the numbers that pass
pub flagged : (p : ℕ → Bool) (n : ℕ) → filter (flag_at (map p (below n))) (below n) ≡ filter p (below n)
flagged p n = same_filter n 0 (λ k lt. (let at : slice_get (map p (below n)) k ≡ Some (p k) = get-map p (below n) k k (get-below n k (omega arith)) in rw at refl)) where
  same_filter : (m first : ℕ) → ((k : ℕ) → k < first + m → flag_at (map p (below n)) k ≡ p k) → filter (flag_at (map p (below n))) (numbers first m) ≡ filter p (numbers first m)
  same_filter zero first h = refl
  same_filter (suc m) first h = rw (h first (omega arith), same_filter m (first + 1) (λ k lt. h k (omega arith))) refl

pub flags_pass : (flags : List Bool) (p : ℕ → Bool) (n : ℕ) → flags ≡ map p (below n) → (length flags ≡ n) × (filter (flag_at flags) (below (length flags)) ≡ filter p (below n))
flags_pass flags p n is =
    let long : length (map p (below n)) ≡ n = length-map p (below n) ∙ length-below n in
    rw is (long, rw long (flagged p n))

pub named_at : (xs : List ℕ) (i : ℕ) → i < length xs → names xs (get_or xs i 0) ≡ true
named_at [] i lt = absurd (omega arith)
named_at (x ∷ xs) zero lt = or_left (eqb x x) _ (grind arith)
named_at (x ∷ xs) (suc i) lt = or_right (eqb x (get_or xs i 0)) _ (named_at xs i (omega arith))
