-- Places behind more bytes.
use Rattle.std.proofs.Common.{◌≡◌, ◌∙◌, sym, ap, refl, ℕ, ◌+◌, ◌-◌, ◌≤◌, Bool, true, false, List, [], ◌∷◌, ◌++◌, arith, length}
use Rattle.std.specs.Prelude.{◌==◌, if◌then◌else◌, count_by}
use Rattle.std.proofs.lemmas.List.Sums.{sum_by-append, count_by-le-length}
use Rattle.heco_lex.specs.Places.{since_line_end, moved}
use Rattle.heco_lex.specs.declared.place.Place.{Place}

pub since-append : (n : ℕ) (xs ys : List ℕ) → since_line_end n (xs ++ ys) ≡ since_line_end (since_line_end n xs) ys
since-append n [] ys = refl
since-append n (c ∷ xs) ys = by (c == 10) (since-append 0 xs ys) (since-append (n + 1) xs ys)
  where
    by : (b : Bool) → since_line_end 0 (xs ++ ys) ≡ since_line_end (since_line_end 0 xs) ys → since_line_end (n + 1) (xs ++ ys) ≡ since_line_end (since_line_end (n + 1) xs) ys
        → (if b then since_line_end 0 (xs ++ ys) else since_line_end (n + 1) (xs ++ ys)) ≡ since_line_end (if b then since_line_end 0 xs else since_line_end (n + 1) xs) ys
    by true h g = h
    by false h g = g

pub lines-append : (xs ys : List ℕ) → count_by (λ c. c == 10) (xs ++ ys) ≡ count_by (λ c. c == 10) xs + count_by (λ c. c == 10) ys
lines-append xs ys = sum_by-append (λ (c : ℕ). if c == 10 then 1 else 0) xs ys

-- the place that the code computes is that behind both
pub moved-append : (xs ys : List ℕ) (p q : Place) → p ≡ moved xs → q.line ≡ p.line + count_by (λ c. c == 10) ys → q.col ≡ 1 + since_line_end (p.col - 1) ys → q ≡ moved (xs ++ ys)
moved-append xs ys p q h l c =
    let line : p.line ≡ 1 + count_by (λ c. c == 10) xs = ap (λ (v : Place). v.line) h in
    let col : p.col - 1 ≡ since_line_end 0 xs = (let e : p.col ≡ 1 + since_line_end 0 xs = ap (λ (v : Place). v.col) h in omega arith) in
    let line2 : q.line ≡ 1 + count_by (λ c. c == 10) (xs ++ ys) = omega (arith, lines-append xs ys) in
    let col2 : q.col ≡ 1 + since_line_end 0 (xs ++ ys) = c ∙ ap (λ n. 1 + since_line_end n ys) col ∙ ap (λ n. 1 + n) (sym (since-append 0 xs ys)) in
    ap (λ (v : ℕ). record { line = v; col = q.col }) line2 ∙ ap (λ (v : ℕ). record { line = 1 + count_by (λ c. c == 10) (xs ++ ys); col = v }) col2

since_few : (n : ℕ) (xs : List ℕ) → since_line_end n xs ≤ n + length xs
since_few n [] = omega arith
since_few n (c ∷ xs) = by (c == 10) (since_few 0 xs) (since_few (n + 1) xs)
  where
    by : (b : Bool) → since_line_end 0 xs ≤ 0 + length xs → since_line_end (n + 1) xs ≤ (n + 1) + length xs → (if b then since_line_end 0 xs else since_line_end (n + 1) xs) ≤ n + length (c ∷ xs)
    by true h g = omega arith
    by false h g = omega arith

pub record IsNear (p : Place) (n : ℕ) : Type 0 where
  pub line : p.line ≤ 1 + n
  pub col : p.col ≤ 1 + n
  pub begun : 1 ≤ p.col

pub near : (xs : List ℕ) (p : Place) → p ≡ moved xs → IsNear p (length xs)
near xs p h =
    let l : p.line ≡ 1 + count_by (λ c. c == 10) xs = ap (λ (v : Place). v.line) h in
    let c : p.col ≡ 1 + since_line_end 0 xs = ap (λ (v : Place). v.col) h in
    record { line = omega (arith, count_by-le-length (λ (c : ℕ). c == 10) xs); col = omega (arith, since_few 0 xs); begun = omega arith }
