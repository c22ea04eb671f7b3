-- The rows of messages, as whole lists.
use Rattle.std.proofs.Common.{◌≡◌, ◌∙◌, ℕ, zero, suc, ◌+◌, ◌-◌, ◌*◌, ◌%◌, ◌<◌, ◌≤◌, List, [], ◌∷◌, length, map, take, drop, get_or, refl, sym, ap, inl, inr, arith, mod-eq_of_lt, mod-lt}
use Rattle.std.proofs.lemmas.Bool.{cases_lt}
use Rattle.std.proofs.lemmas.Nat.{mod-mul-add}
use Rattle.std.proofs.lemmas.List.{ext_get_or, get_or-map, length-map, length-append, length-drop, length-take-le, get_or_append_left, get_or-append_right, get_or-drop, get_or-take}
use Rattle.heco_nums.specs.declared.preset.Preset.{Preset}
use Rattle.heco_nums.proofs.PresetFacts.{facts}
use Rattle.heco_nums.proofs.PresetFacts.{some_slots}
use Rattle.heco_meaning.specs.Meanings.{sums, differences, products, turned}
use Rattle.heco_slots.specs.Messages as message
use Rattle.heco_ring.specs.Slots.{value}
use Rattle.heco_ring.proofs.Remainders.{rem-lt}
use Rattle.heco_slots.specs.Rows.{slot_in, row_of, encoded_two}
use Rattle.heco_slots.proofs.SlotsInRow.{row_long, row_at, in_sum, in_difference, in_opposite, in_multiple, in_raised, in_product, in_turned}

-- ---- lists place by place

length-sums : (t : ℕ) (xs ys : List ℕ) → length xs ≡ length ys → length (sums t xs ys) ≡ length xs
length-sums t [] ys e = refl
length-sums t (x ∷ xs) [] e = absurd (omega arith)
length-sums t (x ∷ xs) (y ∷ ys) e = ap (λ n. suc n) (length-sums t xs ys (omega arith))

sums_at : (t : ℕ) (xs ys : List ℕ) (j : ℕ) → length xs ≡ length ys → j < length xs → get_or (sums t xs ys) j 0 ≡ (get_or xs j 0 + get_or ys j 0) % t
sums_at t [] ys j e h = absurd (omega arith)
sums_at t (x ∷ xs) [] j e h = absurd (omega arith)
sums_at t (x ∷ xs) (y ∷ ys) zero e h = refl
sums_at t (x ∷ xs) (y ∷ ys) (suc j) e h = sums_at t xs ys j (omega arith) (omega arith)

length-differences : (t : ℕ) (xs ys : List ℕ) → length xs ≡ length ys → length (differences t xs ys) ≡ length xs
length-differences t [] ys e = refl
length-differences t (x ∷ xs) [] e = absurd (omega arith)
length-differences t (x ∷ xs) (y ∷ ys) e = ap (λ n. suc n) (length-differences t xs ys (omega arith))

differences_at : (t : ℕ) (xs ys : List ℕ) (j : ℕ) → length xs ≡ length ys → j < length xs → get_or (differences t xs ys) j 0 ≡ (get_or xs j 0 + (t - get_or ys j 0 % t)) % t
differences_at t [] ys j e h = absurd (omega arith)
differences_at t (x ∷ xs) [] j e h = absurd (omega arith)
differences_at t (x ∷ xs) (y ∷ ys) zero e h = refl
differences_at t (x ∷ xs) (y ∷ ys) (suc j) e h = differences_at t xs ys j (omega arith) (omega arith)

length-products : (t : ℕ) (xs ys : List ℕ) → length xs ≡ length ys → length (products t xs ys) ≡ length xs
length-products t [] ys e = refl
length-products t (x ∷ xs) [] e = absurd (omega arith)
length-products t (x ∷ xs) (y ∷ ys) e = ap (λ n. suc n) (length-products t xs ys (omega arith))

products_at : (t : ℕ) (xs ys : List ℕ) (j : ℕ) → length xs ≡ length ys → j < length xs → get_or (products t xs ys) j 0 ≡ (get_or xs j 0 * get_or ys j 0) % t
products_at t [] ys j e h = absurd (omega arith)
products_at t (x ∷ xs) [] j e h = absurd (omega arith)
products_at t (x ∷ xs) (y ∷ ys) zero e h = refl
products_at t (x ∷ xs) (y ∷ ys) (suc j) e h = products_at t xs ys j (omega arith) (omega arith)

length-turned : (r : ℕ) (xs : List ℕ) → r ≤ length xs → length (turned r xs) ≡ length xs
length-turned r xs h = omega (arith, length-append (drop r xs) (take r xs), length-drop r xs, length-take-le r xs h)

past_end : (j r n : ℕ) → n ≤ j + r → j < n → r ≤ n → (j + r) % n ≡ j - (n - r)
past_end j r n h l m =
    let split : j + r ≡ 1 * n + (j - (n - r)) = omega arith in
    ap (λ x. x % n) split ∙ mod-mul-add 1 n (j - (n - r)) (omega arith)

turned_at : (r : ℕ) (xs : List ℕ) (j : ℕ) → r ≤ length xs → j < length xs → get_or (turned r xs) j 0 ≡ get_or xs ((j + r) % length xs) 0
turned_at r xs j h l = elim (cases_lt (j + r) (length xs)) [
  | inl below ↦ (let swap : r + j ≡ j + r = omega arith in
      get_or_append_left (drop r xs) (take r xs) 0 j (omega (arith, length-drop r xs)) ∙ get_or-drop r xs j 0
      ∙ ap (λ k. get_or xs k 0) (swap ∙ sym (mod-eq_of_lt below)))
  | inr above ↦ (get_or-append_right (drop r xs) (take r xs) (length xs - r) j 0 (length-drop r xs) (omega arith)
      ∙ get_or-take r xs (j - (length xs - r)) 0 (omega arith)
      ∙ ap (λ k. get_or xs k 0) (sym (past_end j r (length xs) above l h)))
]

-- ---- rows

-- a slot is below t
slot_below : (p : Preset) (e : ℕ) (m : List ℕ) (j : ℕ) → slot_in p e m j < p.t
unfolding slot_in value
slot_below p e m j = rem-lt p.t _ (facts p).t_pos

module _ (p : Preset) (e : ℕ) where
  pub row_sum : (m l : List ℕ) → row_of p e (message.sum p m l) ≡ sums p.t (row_of p e m) (row_of p e l)
  row_sum m l =
      let same : length (row_of p e m) ≡ length (row_of p e l) = row_long p e m ∙ sym (row_long p e l) in
      let long : length (row_of p e (message.sum p m l)) ≡ p.slots = row_long p e (message.sum p m l) in
      ext_get_or 0 _ _ (long ∙ sym (length-sums p.t (row_of p e m) (row_of p e l) same ∙ row_long p e m)) (λ j h.
      let lt : j < p.slots = omega (arith, long) in
      row_at p e (message.sum p m l) j lt ∙ in_sum p e m l j
      ∙ sym (sums_at p.t (row_of p e m) (row_of p e l) j same (omega (arith, row_long p e m)) ∙ rw (row_at p e m j lt, row_at p e l j lt) refl))

  pub row_difference : (m l : List ℕ) → row_of p e (message.difference p m l) ≡ differences p.t (row_of p e m) (row_of p e l)
  row_difference m l =
      let same : length (row_of p e m) ≡ length (row_of p e l) = row_long p e m ∙ sym (row_long p e l) in
      let long : length (row_of p e (message.difference p m l)) ≡ p.slots = row_long p e (message.difference p m l) in
      ext_get_or 0 _ _ (long ∙ sym (length-differences p.t (row_of p e m) (row_of p e l) same ∙ row_long p e m)) (λ j h.
      let lt : j < p.slots = omega (arith, long) in
      row_at p e (message.difference p m l) j lt ∙ in_difference p e m l j
      ∙ sym (differences_at p.t (row_of p e m) (row_of p e l) j same (omega (arith, row_long p e m))
      ∙ rw (row_at p e m j lt, row_at p e l j lt, mod-eq_of_lt (slot_below p e l j)) refl))

  pub row_product : (m l : List ℕ) → e % 2 ≡ 1 → row_of p e (message.product p m l) ≡ products p.t (row_of p e m) (row_of p e l)
  row_product m l odd =
      let same : length (row_of p e m) ≡ length (row_of p e l) = row_long p e m ∙ sym (row_long p e l) in
      let long : length (row_of p e (message.product p m l)) ≡ p.slots = row_long p e (message.product p m l) in
      ext_get_or 0 _ _ (long ∙ sym (length-products p.t (row_of p e m) (row_of p e l) same ∙ row_long p e m)) (λ j h.
      let lt : j < p.slots = omega (arith, long) in
      row_at p e (message.product p m l) j lt ∙ in_product p e m l j odd
      ∙ sym (products_at p.t (row_of p e m) (row_of p e l) j same (omega (arith, row_long p e m)) ∙ rw (row_at p e m j lt, row_at p e l j lt) refl))

  -- in a row in which the vector comes back
  pub row_weighed : (v m : List ℕ) → e % 2 ≡ 1 → row_of p e (encoded_two p v v) ≡ v → row_of p e (message.weighed p v m) ≡ products p.t v (row_of p e m)
  unfolding message.weighed
  row_weighed v m odd back = row_product (encoded_two p v v) m odd ∙ ap (λ xs. products p.t xs (row_of p e m)) back

  -- a message whose slots are a function of those of another, one by one
  mapped : (f : ℕ → ℕ) (l m : List ℕ) → ((j : ℕ) → j < p.slots → get_or (row_of p e l) j 0 ≡ f (get_or (row_of p e m) j 0)) → row_of p e l ≡ map f (row_of p e m)
  mapped f l m each =
      ext_get_or 0 _ _ (row_long p e l ∙ sym (length-map (row_of p e m) f ∙ row_long p e m)) (λ j h.
      let lt : j < p.slots = omega (arith, row_long p e l) in
      each j lt ∙ sym (get_or-map f (row_of p e m) j 0 0 (omega (arith, row_long p e m))))

  pub row_opposite : (m : List ℕ) → row_of p e (message.opposite p m) ≡ map (λ x. (p.t - x) % p.t) (row_of p e m)
  row_opposite m = mapped (λ x. (p.t - x) % p.t) (message.opposite p m) m (λ j h. rw (row_at p e (message.opposite p m) j h, row_at p e m j h) (in_opposite p e m j))

  pub row_multiple : (c : ℕ) (m : List ℕ) → row_of p e (message.multiple p c m) ≡ map (λ x. (c * x) % p.t) (row_of p e m)
  row_multiple c m = mapped (λ x. (c * x) % p.t) (message.multiple p c m) m (λ j h. rw (row_at p e (message.multiple p c m) j h, row_at p e m j h) (in_multiple p e c m j))

  pub row_raised : (c : ℕ) (m : List ℕ) → row_of p e (message.raised p c m) ≡ map (λ x. (x + c) % p.t) (row_of p e m)
  row_raised c m = mapped (λ x. (x + c) % p.t) (message.raised p c m) m (λ j h. rw (row_at p e (message.raised p c m) j h, row_at p e m j h) (in_raised p e c m j))

  pub row_turned : (r : ℕ) (m : List ℕ) → e % 2 ≡ 1 → r ≤ p.slots → row_of p e (message.turned p r m) ≡ turned r (row_of p e m)
  row_turned r m odd le =
      let long : length (row_of p e m) ≡ p.slots = row_long p e m in
      let within : r ≤ length (row_of p e m) = omega arith in
      ext_get_or 0 _ _ (row_long p e (message.turned p r m) ∙ sym (length-turned r (row_of p e m) within ∙ long)) (λ j h.
      let lt : j < p.slots = omega (arith, row_long p e (message.turned p r m)) in
      let some : 0 < p.slots = some_slots p in
      row_at p e (message.turned p r m) j lt ∙ in_turned p e r m j odd ∙ sym (row_at p e m ((j + r) % p.slots) (mod-lt (j + r) some))
      ∙ sym (turned_at r (row_of p e m) j within (omega arith) ∙ ap (λ n. get_or (row_of p e m) ((j + r) % n) 0) long))
