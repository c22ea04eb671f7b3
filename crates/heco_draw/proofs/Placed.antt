-- Places chosen one after the other.
use Rattle.std.proofs.Common.{◌≡◌, ℕ, zero, suc, add-one, ◌+◌, ◌%◌, ◌^◌, ◌<◌, ◌≤◌, true, false, cond, ltb, List, length, set, replicate, sym, ap, subst, ◌∙◌, arith}
use Rattle.std.specs.Prelude.{ℤ, pos, count_by}
use Rattle.std.specs.List.{fold}
use Rattle.std.specs.Int.RustNames.{unsigned_abs}
use lib.IntN.{negsuc}
use Rattle.std.proofs.lemmas.List.Sums.{fold_push, sum_by-set}
use Rattle.std.proofs.lemmas.List.Elements.{All-replicate, All-set}
use Rattle.std.proofs.lemmas.List.{length-set, length-replicate}
use Rattle.std.proofs.lemmas.List.Folds.{sum_by-replicate}
use Rattle.rand_chacha.specs.ChaCha.{ChaCha}
use Rattle.heco_nums.specs.MaterialBounds.{IsSparse, is_used}
use Rattle.heco_draw.specs.Words.{ahead, word, placed, sparse}
use Rattle.heco_nums.specs.Listed.{listed}
use Rattle.heco_draw.proofs.Drawn.{ahead_none, ahead_twice, word_there}
use Rattle.heco_nums.proofs.ListedLaws.{listed_next, listed_none}

abbrev sign : ℕ → ℤ
sign x = cond (ltb x (2 ^ 31)) (pos 1) (negsuc 0)

sign_small : (x : ℕ) → unsigned_abs (sign x) ≤ 1
sign_small x = elim (ltb x (2 ^ 31)) as (λ b. unsigned_abs (cond b (pos 1) (negsuc 0)) ≤ 1) [ true ↦ omega arith | false ↦ omega arith ]

one_at_most : (z : ℤ) → cond (is_used z) 1 0 ≤ 1
one_at_most z = elim (is_used z) as (λ b. cond b 1 0 ≤ 1) [ true ↦ omega arith | false ↦ omega arith ]

count_set : (s : List ℤ) (k : ℕ) (z : ℤ) → k < length s → count_by is_used (set s k z) ≤ count_by is_used s + 1
count_set s k z lt =
    let swap = sum_by-set (λ y. cond (is_used y) 1 0) s k z (pos 0) lt in
    let one = one_at_most z in
    omega arith

count_none : (n : ℕ) → count_by is_used (replicate n (pos 0)) ≡ 0
count_none n = sum_by-replicate (λ y. cond (is_used y) 1 0) n (pos 0) ∙ omega arith

-- one more place chosen
placed_sparse : (n i x : ℕ) (s : List ℤ) → 0 < n → IsSparse n i s → IsSparse n (i + 1) (placed n s x)
placed_sparse n i x s n_pos p =
    let inside : x % n < length s = omega (arith, p.long) in
    record {
      long = length-set s (x % n) (sign x) ∙ p.long;
      small = All-set (λ z. unsigned_abs z ≤ 1) s (x % n) (sign x) (sign_small x) p.small;
      few = omega (arith, count_set s (x % n) (sign x) inside, p.few);
    }

none_sparse : (n : ℕ) → IsSparse n 0 (replicate n (pos 0))
none_sparse n =
    let long : length (replicate n (pos 0)) ≡ n = length-replicate n (pos 0) in
    record { long = long; small = All-replicate (λ z. unsigned_abs z ≤ 1) n (pos 0) (omega arith); few = omega (arith, count_none n) }

-- one more word
pub chosen_next : (n : ℕ) (s : List ℤ) (f : ℕ → ℕ) (i : ℕ) → fold (placed n) s (listed (i + 1) f) ≡ placed n (fold (placed n) s (listed i f)) (f i)
chosen_next n s f i = ap (fold (placed n) s) (listed_next f i) ∙ fold_push (placed n) s (listed i f) (f i)

chosen_sparse : (n : ℕ) (f : ℕ → ℕ) (h : ℕ) → 0 < n → IsSparse n h (fold (placed n) (replicate n (pos 0)) (listed h f))
chosen_sparse n f zero n_pos = subst (λ t. IsSparse n 0 (fold (placed n) (replicate n (pos 0)) t)) (sym (listed_none f)) (none_sparse n)
chosen_sparse n f (suc h) n_pos =
    let none : List ℤ = replicate n (pos 0) in
    let one = placed_sparse n h (f h) (fold (placed n) none (listed h f)) n_pos (chosen_sparse n f h n_pos) in
    rw (← add-one) (subst (IsSparse n (h + 1)) (sym (chosen_next n none f h)) one)

-- what is drawn is within bounds
pub sparse_within : (g : ChaCha) (n h : ℕ) → 0 < n → IsSparse n h (sparse g n h)
unfolding sparse
sparse_within g n h n_pos = chosen_sparse n (word g) h n_pos

-- the places so far, and the generator behind their words
pub record Placing (n : ℕ) (g0 : ChaCha) (s0 : List ℤ) (i : ℕ) (s : List ℤ) (g : ChaCha) : Type 0 where
  pub so_far : s ≡ fold (placed n) s0 (listed i (word g0))
  pub place : g ≡ ahead g0 i
  pub long : length s ≡ n

pub placing_starts : (n : ℕ) (g : ChaCha) (s : List ℤ) → length s ≡ n → Placing n g s 0 s g
placing_starts n g s long = record { so_far = ap (fold (placed n) s) (sym (listed_none (word g))); place = ahead_none g; long = long }

pub placing_goes_on : (n : ℕ) (g0 : ChaCha) (s0 : List ℤ) (i : ℕ) (s : List ℤ) (g : ChaCha) (s2 : List ℤ) (g2 : ChaCha) → Placing n g0 s0 i s g → s2 ≡ placed (length s) s (word g 0) → g2 ≡ ahead g 1 → Placing n g0 s0 (i + 1) s2 g2
placing_goes_on n g0 s0 i s g s2 g2 p chosen moved =
    let z : i + 0 ≡ i = omega arith in
    let x = word g0 i in
    let same : word g 0 ≡ x = word_there g0 g i 0 p.place ∙ ap (word g0) z in
    let here : s2 ≡ placed n s x = chosen ∙ ap (λ m. placed m s (word g 0)) p.long ∙ ap (placed n s) same in
    record {
      so_far = here ∙ ap (λ t. placed n t x) p.so_far ∙ sym (chosen_next n s0 (word g0) i);
      place = moved ∙ ap (λ (h : ChaCha). ahead h 1) p.place ∙ ahead_twice g0 i 1;
      long = ap length here ∙ length-set s (x % n) (sign x) ∙ p.long;
    }

pub drawn_within : (g : ChaCha) (n h : ℕ) (s : List ℤ) → 0 < n → s ≡ sparse g n h → IsSparse n h s
drawn_within g n h s n_pos e = subst (IsSparse n h) (sym e) (sparse_within g n h n_pos)
