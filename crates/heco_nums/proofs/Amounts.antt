-- The numbers of a range that pass a test: they rise, they lie in the range, and each that passes is among them.
use Rattle.std.proofs.Common.{◌≡◌, ℕ, zero, suc, ◌+◌, ◌-◌, ◌<◌, ◌≤◌, List, [], ◌∷◌, ◌++◌, length, Bool, true, false, cond, refl, ap, sym, ◌∙◌, append_assoc, arith}
use Rattle.std.specs.Prelude.{Contains, ◌↔◌, ◌==◌, filter}
use Rattle.std.specs.List.{All, list_any, range_with_len}
use Rattle.std.proofs.lemmas.Bool.{lt-ltb, eq-eqb, or_left, or_right}
use Rattle.std.proofs.lemmas.List.Elements.{All-nil, All-cons}
use native.Mathlib.Decide.{dec_lt}
use Rattle.heco_nums.specs.Needs.{rises_from, is_rising, IsRising}

module _ (p : ℕ → Bool) where
  -- those of n numbers, from a on
  abbrev pub passing : ℕ → ℕ → List ℕ
  passing a n = filter p (range_with_len a n)

  abbrev Within : ℕ → ℕ → ℕ → Type 0
  Within a n r = (a ≤ r) × (r < a + n) × (p r ≡ true)

  -- ---- which they are

  from_first : (a n r : ℕ) (rest : List ℕ) (b : Bool) → p a ≡ b → (Contains rest r → Within (a + 1) n r) → Contains (cond b (a ∷ rest) rest) r → Within a (suc n) r
  from_first a n r rest true e h (zero, l, same) = (omega arith, omega arith, ap p (sym same) ∙ e)
  from_first a n r rest true e h (suc k, l, same) = let w = h (k, omega arith, same) in (omega (arith, w.0), omega (arith, w.1), w.2)
  from_first a n r rest false e h c = let w = h c in (omega (arith, w.0), omega (arith, w.1), w.2)

  passing_within : (a n r : ℕ) → Contains (passing a n) r → Within a n r
  passing_within a zero r (k, l, same) = elim l [ ]
  passing_within a (suc n) r c = from_first a n r (passing (a + 1) n) (p a) refl (passing_within (a + 1) n r) c

  behind_first : (a r : ℕ) (rest : List ℕ) (b : Bool) → Contains rest r → Contains (cond b (a ∷ rest) rest) r
  behind_first a r rest true (k, l, same) = (suc k, omega arith, same)
  behind_first a r rest false c = c

  as_first : (a r : ℕ) (rest : List ℕ) (b : Bool) → p a ≡ b → p r ≡ true → a ≡ r → Contains (cond b (a ∷ rest) rest) r
  as_first a r rest true e h same = (0, omega arith, same)
  as_first a r rest false e h same = let f : p a ≡ true = ap p same ∙ h in cc

  within_passing : (a n r : ℕ) → Within a n r → Contains (passing a n) r
  within_passing a zero r w = absurd (omega (arith, w.0, w.1))
  within_passing a (suc n) r w =
      elim (dec_lt a r) [
        | Prim.yes l ↦ behind_first a r (passing (a + 1) n) (p a) (within_passing (a + 1) n r (omega arith, omega (arith, w.1), w.2))
        | Prim.no l ↦ as_first a r (passing (a + 1) n) (p a) refl w.2 (omega (arith, w.0))
      ]

  pub contains_passing : (a n r : ℕ) → Contains (passing a n) r ↔ Within a n r
  contains_passing a n r = (passing_within a n r, within_passing a n r)

  any_behind : (a r : ℕ) (rest : List ℕ) (b : Bool) → list_any (λ t. t == r) rest ≡ true → list_any (λ t. t == r) (cond b (a ∷ rest) rest) ≡ true
  any_behind a r rest true h = or_right (a == r) (list_any (λ t. t == r) rest) h
  any_behind a r rest false h = h

  any_first : (a r : ℕ) (rest : List ℕ) (b : Bool) → p a ≡ b → p r ≡ true → a ≡ r → list_any (λ t. t == r) (cond b (a ∷ rest) rest) ≡ true
  any_first a r rest true e h same = or_left (a == r) (list_any (λ t. t == r) rest) (eq-eqb a r same)
  any_first a r rest false e h same = let f : p a ≡ true = ap p same ∙ h in cc

  pub any_passing : (a n r : ℕ) → Within a n r → list_any (λ t. t == r) (passing a n) ≡ true
  any_passing a zero r w = absurd (omega (arith, w.0, w.1))
  any_passing a (suc n) r w =
      elim (dec_lt a r) [
        | Prim.yes l ↦ any_behind a r (passing (a + 1) n) (p a) (any_passing (a + 1) n r (omega arith, omega (arith, w.1), w.2))
        | Prim.no l ↦ any_first a r (passing (a + 1) n) (p a) refl w.2 (omega (arith, w.0))
      ]

  -- ---- where they lie, and how many they are

  abbrev Between : ℕ → ℕ → ℕ → Type 0
  Between low high r = (low ≤ r) × (r < high)

  all_first : (a high : ℕ) (rest : List ℕ) (b : Bool) → a < high → All (Between a high) rest → All (Between a high) (cond b (a ∷ rest) rest)
  all_first a high rest true l h = All-cons (Between a high) a rest (omega arith, l) h
  all_first a high rest false l h = h

  pub passing_between : (a n high : ℕ) → a + n ≡ high → All (λ r. (a ≤ r) × (r < high)) (passing a n)
  passing_between a zero high e = All-nil (Between a high)
  passing_between a (suc n) high e =
      let rest = passing_between (a + 1) n high (omega arith) in
      all_first a high (passing (a + 1) n) (p a) (omega arith) (λ k d l. (let here = rest k d l in (omega (arith, here.0), here.1)))

  few_first : (a n : ℕ) (rest : List ℕ) (b : Bool) → length rest ≤ n → length (cond b (a ∷ rest) rest) ≤ suc n
  few_first a n rest true h = omega arith
  few_first a n rest false h = omega arith

  pub passing_few : (a n : ℕ) → length (passing a n) ≤ n
  passing_few a zero = omega arith
  passing_few a (suc n) = few_first a n (passing (a + 1) n) (p a) (passing_few (a + 1) n)

  -- ---- they rise

  rises_where : (a amount : ℕ) (rest : List ℕ) (b : Bool) → a < amount → rises_from amount rest ≡ true → rises_from a rest ≡ true → rises_from a (cond b (amount ∷ rest) rest) ≡ true
  rises_where a amount rest true lt above below = rw (lt-ltb a amount lt, above) refl
  rises_where a amount rest false lt above below = below

  passing_rises : (b a n : ℕ) → b < a → rises_from b (passing a n) ≡ true
  passing_rises b a zero l = refl
  passing_rises b a (suc n) l = rises_where b a (passing (a + 1) n) (p a) l (passing_rises a (a + 1) n (omega arith)) (passing_rises b (a + 1) n (omega arith))

  rising_where : (amount : ℕ) (rest : List ℕ) (b : Bool) → rises_from amount rest ≡ true → is_rising rest ≡ true → is_rising (cond b (amount ∷ rest) rest) ≡ true
  rising_where amount rest true above whole = above
  rising_where amount rest false above whole = whole

  pub passing_rising : (a n : ℕ) → IsRising (passing a n)
  passing_rising a zero = refl
  passing_rising a (suc n) = rising_where a (passing (a + 1) n) (p a) (passing_rises a (a + 1) n (omega arith)) (passing_rising (a + 1) n)

  -- ---- one after the other, as a loop takes them

  pushed : (taken : List ℕ) (a : ℕ) (b : Bool) (rest : List ℕ) → cond b (taken ++ a ∷ []) taken ++ rest ≡ taken ++ cond b (a ∷ rest) rest
  pushed taken a true rest = append_assoc taken (a ∷ []) rest
  pushed taken a false rest = refl

  pub passing_more : (taken : List ℕ) (a high : ℕ) (b : Bool) (total : List ℕ) → a < high → b ≡ p a → taken ++ passing a (high - a) ≡ total
      → cond b (taken ++ a ∷ []) taken ++ passing (a + 1) (high - (a + 1)) ≡ total
  passing_more taken a high b total lt e so_far =
      let more : high - a ≡ suc (high - (a + 1)) = omega arith in
      let rest = passing (a + 1) (high - (a + 1)) in
      pushed taken a b rest ∙ ap (λ v. taken ++ cond v (a ∷ rest) rest) e ∙ (rw more at so_far)
