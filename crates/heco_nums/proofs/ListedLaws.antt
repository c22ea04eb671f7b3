-- Lists by their length and what stands at each place, item by item as a loop makes them.
use Rattle.std.proofs.Common.{◌≡◌, ℕ, zero, suc, ◌+◌, List, [], ◌∷◌, ◌++◌, length, map, refl, sym, ap, ◌∙◌, arith, add-one}
use Rattle.std.specs.List.{range_with_len}
use Rattle.std.proofs.lemmas.List.{map-append}
use Rattle.std.proofs.lemmas.List.FromFn.{length-map-range_with_len}
use Rattle.heco_nums.specs.Listed.{listed}

range_next : {A : Type 0} (f : ℕ → A) (a n : ℕ) → map f (range_with_len a (suc n)) ≡ map f (range_with_len a n) ++ f (a + n) ∷ []
range_next f a zero = let e : a + 0 ≡ a = omega arith in rw e refl
range_next f a (suc n) =
    let e : a + suc n ≡ (a + 1) + n = omega arith in
    rw e (ap (λ t. f a ∷ t) (range_next f (a + 1) n))

pub listed_next : {A : Type 0} (f : ℕ → A) (n : ℕ) → listed (n + 1) f ≡ listed n f ++ f n ∷ []
unfolding listed
listed_next f n = let z : 0 + n ≡ n = omega arith in rw add-one (rw z at (range_next f 0 n))

pub listed_none : {A : Type 0} (f : ℕ → A) → listed 0 f ≡ []
unfolding listed
listed_none f = refl

pub length-listed : {A : Type 0} (f : ℕ → A) (n : ℕ) → length (listed n f) ≡ n
unfolding listed
length-listed f n = length-map-range_with_len f 0 n

-- one item more
pub listed_push : {A : Type 0} (f : ℕ → A) (i : ℕ) (xs ys : List A) (x : A) → xs ≡ listed i f → x ≡ f i → ys ≡ xs ++ x ∷ [] → ys ≡ listed (i + 1) f
listed_push f i xs ys x so_far is grown = grown ∙ ap (λ t. t ++ x ∷ []) so_far ∙ ap (λ y. listed i f ++ y ∷ []) is ∙ sym (listed_next f i)

-- one item more, seen by view
pub listed_push_seen : {A B : Type 0} (view : A → B) (f : ℕ → B) (i : ℕ) (xs ys : List A) (x : A) → map view xs ≡ listed i f → view x ≡ f i → ys ≡ xs ++ x ∷ []
    → map view ys ≡ listed (i + 1) f
listed_push_seen view f i xs ys x so_far is grown = listed_push f i (map view xs) (map view ys) (view x) so_far is (ap (map view) grown ∙ map-append view xs (x ∷ []))
