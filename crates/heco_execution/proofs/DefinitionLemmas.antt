-- The last definition of a name: behind one more, among the first ones, and in the entries of the index.
use Rattle.std.proofs.Common.{◌≡◌, ◌∙◌, refl, ap, sym, ℕ, zero, suc, ◌+◌, ◌<◌, Bool, true, false, cond, List, [], ◌∷◌, ◌++◌, length, take, slice_get, get_or, Option, Some, None, arith}
use Rattle.std.specs.Prelude.{IfSome}
use Rattle.std.specs.Map.{lookup}
use Rattle.std.specs.Str.{bytes_eq}
use Rattle.std.proofs.lemmas.Slice.Eq.{bytes_eq-Decides}
use Rattle.indexmap.specs.IndexMap.{insert_entry}
use Rattle.heco_syntax.specs.declared.tree.Def.{Def}
use Rattle.heco_execution.specs.Definitions.{last_of, last_named, AreLast}

same_texts : (a b : List ℕ) → bytes_eq a b ≡ true → a ≡ b
same_texts a b e = (bytes_eq-Decides a b).0 e

turned_round : (a b : List ℕ) (x : Bool) → bytes_eq a b ≡ x → bytes_eq b a ≡ x
turned_round a b true e = (bytes_eq-Decides b a).1 (sym (same_texts a b e))
turned_round a b false e = by (bytes_eq b a) refl
  where
    by : (x : Bool) → bytes_eq b a ≡ x → bytes_eq b a ≡ false
    by false f = f
    by true f = absurd (let t : bytes_eq a b ≡ true = (bytes_eq-Decides a b).1 (sym (same_texts b a f)) in let wrong : ⊥ = cc in wrong)

some_injective : (j k : ℕ) → Some j ≡ Some k → j ≡ k
some_injective j k e = cc

-- ---- one definition more

last_of-behind : (r : Option ℕ) (n : ℕ) (one here : Bool) → last_of (cond one (Some n) r) here ≡ cond one (Some (suc n)) (last_of r here)
last_of-behind r n true here = refl
last_of-behind r n false here = refl

last_of-none : (one : Bool) → last_of None one ≡ cond one (Some 0) None
last_of-none true = refl
last_of-none false = refl

pub last_behind : (name : List ℕ) (ds : List Def) (d : Def) → last_named name (ds ++ d ∷ []) ≡ cond (bytes_eq d.name.text name) (Some (length ds)) (last_named name ds)
last_behind name [] d = last_of-none (bytes_eq d.name.text name)
last_behind name (e ∷ ds) d =
    ap (λ r. last_of r (bytes_eq e.name.text name)) (last_behind name ds d) ∙ last_of-behind (last_named name ds) (length ds) (bytes_eq d.name.text name) (bytes_eq e.name.text name)

pub found_behind : (name : List ℕ) (ds before : List Def) (d : Def) → ds ≡ before ++ d ∷ [] → bytes_eq d.name.text name ≡ true → last_named name ds ≡ Some (length before)
found_behind name ds before d is h = rw (is, last_behind name before d, h) refl

pub passed_behind : (name : List ℕ) (ds before : List Def) (d : Def) → ds ≡ before ++ d ∷ [] → bytes_eq d.name.text name ≡ false → last_named name ds ≡ last_named name before
passed_behind name ds before d is h = rw (is, last_behind name before d, h) refl

-- ---- among the first ones

within_one : (r : Option ℕ) (here : Bool) (n k : ℕ) → ((j : ℕ) → r ≡ Some j → j < n) → last_of r here ≡ Some k → k < suc n
within_one (Some j) here n k less h = omega (arith, less j refl, some_injective (suc j) k h)
within_one None true n k less h = omega (arith, some_injective 0 k h)
within_one None false n k less h = absurd (cc)

pub last_within : (name : List ℕ) (ds : List Def) (k : ℕ) → last_named name ds ≡ Some k → k < length ds
last_within name [] k is = absurd (cc)
last_within name (d ∷ ds) k is = within_one (last_named name ds) (bytes_eq d.name.text name) (length ds) k (last_within name ds) is

none_one : (r s : Option ℕ) (here : Bool) → (r ≡ None → s ≡ None) → last_of r here ≡ None → last_of s here ≡ None
none_one (Some j) s here none h = absurd (cc)
none_one None s true none h = absurd (cc)
none_one None s false none h = rw (none refl) refl

pub none_among_first : (name : List ℕ) (ds : List Def) (n : ℕ) → last_named name ds ≡ None → last_named name (take n ds) ≡ None
none_among_first name ds zero is = refl
none_among_first name [] (suc n) is = refl
none_among_first name (d ∷ ds) (suc n) is = none_one (last_named name ds) (last_named name (take n ds)) (bytes_eq d.name.text name) (none_among_first name ds n) is

first_one : (r s : Option ℕ) (here : Bool) (n k : ℕ) → (r ≡ None → s ≡ None) → ((j : ℕ) → r ≡ Some j → j < n → s ≡ Some j) → last_of r here ≡ Some k → k < suc n → last_of s here ≡ Some k
first_one (Some j) s here n k none some h lt = rw (some j refl (omega (arith, some_injective (suc j) k h))) h
first_one None s here n k none some h lt = rw (none refl) h

pub last_among_first : (name : List ℕ) (ds : List Def) (n k : ℕ) → last_named name ds ≡ Some k → k < n → last_named name (take n ds) ≡ Some k
last_among_first name ds zero k is lt = absurd (omega arith)
last_among_first name [] (suc n) k is lt = is
last_among_first name (d ∷ ds) (suc n) k is lt =
    first_one (last_named name ds) (last_named name (take n ds)) (bytes_eq d.name.text name) n k (none_among_first name ds n) (last_among_first name ds n) is lt

-- where the last of all stands among the first ones, it is the last of these too
pub last_of_first : (name : List ℕ) (ds first : List Def) (k : ℕ) → first ≡ take (length first) ds → last_named name ds ≡ Some k → k < length first → last_named name first ≡ Some k
last_of_first name ds first k is e lt = ap (last_named name) is ∙ last_among_first name ds (length first) k e lt

pub some_within : (name : List ℕ) (ds : List Def) (r : Option ℕ) → r ≡ last_named name ds → IfSome r (λ k. k < length ds)
some_within name ds (Some k) is = last_within name ds k (sym is)
some_within name ds None is = tt

-- what stands at a place
pub at_place : (ds : List Def) (k : ℕ) (d : Def) → k < length ds → d ≡ get_or ds k d → slice_get ds k ≡ Some d
at_place [] k d lt is = absurd (omega arith)
at_place (e ∷ ds) zero d lt is = ap (λ x. Some x) (sym is)
at_place (e ∷ ds) (suc k) d lt is = at_place ds k d (omega arith) is

-- one more of the first ones
first_more : (ds : List Def) (k : ℕ) (d : Def) → k < length ds → d ≡ get_or ds k d → (take (suc k) ds ≡ take k ds ++ d ∷ []) × (length (take k ds) ≡ k)
first_more [] k d lt is = absurd (omega arith)
first_more (e ∷ ds) zero d lt is = (ap (λ x. x ∷ []) (sym is), refl)
first_more (e ∷ ds) (suc k) d lt is = let rest = first_more ds k d (omega arith) is in (ap (λ xs. e ∷ xs) rest.0, ap suc rest.1)

-- ---- the entries of the index

module _ {K : Type 0} (text_of : K → List ℕ) where
  abbrev at_name : List ℕ → K → Bool
  at_name name k = bytes_eq name (text_of k)

  abbrev same_name : K → K → Bool
  same_name k l = bytes_eq (text_of k) (text_of l)

  twice : (b : Bool) (v : ℕ) (x y : Option ℕ) → cond b (Some v) y ≡ cond b (Some v) (cond b x y)
  twice true v x y = refl
  twice false v x y = refl

  -- where both have the name they are the same
  apart : (b c : Bool) (v w : ℕ) (rest : Option ℕ) → (b ≡ true → c ≡ true → ⊥) → cond b (Some w) (cond c (Some v) rest) ≡ cond c (Some v) (cond b (Some w) rest)
  apart true true v w rest h = absurd (h refl refl)
  apart true false v w rest h = refl
  apart false c v w rest h = refl

  one_name : (name : List ℕ) (k l : K) → at_name name k ≡ true → at_name name l ≡ true → same_name k l ≡ true
  one_name name k l e f = (bytes_eq-Decides (text_of k) (text_of l)).1 (sym (same_texts name (text_of k) e) ∙ same_texts name (text_of l) f)

  insert_one : (name : List ℕ) (e : K × ℕ) (es more : List (K × ℕ)) (key : K) (v : ℕ) (same : Bool) → same_name key e.0 ≡ same
      → lookup (at_name name) more ≡ cond (at_name name key) (Some v) (lookup (at_name name) es)
      → lookup (at_name name) (cond same ((e.0, v) ∷ es) (e ∷ more)) ≡ cond (at_name name key) (Some v) (cond (at_name name e.0) (Some e.1) (lookup (at_name name) es))
  insert_one name e es more key v true is rest = rw (same_texts (text_of key) (text_of e.0) is) (twice (at_name name e.0) v (Some e.1) (lookup (at_name name) es))
  insert_one name e es more key v false is rest =
      ap (λ r. cond (at_name name e.0) (Some e.1) r) rest
      ∙ apart (at_name name e.0) (at_name name key) v e.1 (lookup (at_name name) es) (λ f g. (let same = one_name name key e.0 g f in let wrong : ⊥ = cc in wrong))

  lookup-insert : (name : List ℕ) (es : List (K × ℕ)) (key : K) (v : ℕ) → lookup (at_name name) (insert_entry same_name es key v) ≡ cond (at_name name key) (Some v) (lookup (at_name name) es)
  lookup-insert name [] key v = refl
  lookup-insert name (e ∷ es) key v = insert_one name e es (insert_entry same_name es key v) key v (same_name key e.0) refl (lookup-insert name es key v)

  pub last_inserted : (ds : List Def) (d : Def) (es : List (K × ℕ)) (key : K) → text_of key ≡ d.name.text → AreLast text_of ds es → AreLast text_of (ds ++ d ∷ []) (insert_entry same_name es key (length ds))
  last_inserted ds d es key is are = λ name.
      lookup-insert name es key (length ds) ∙ (rw (are name, is) (other name)) ∙ sym (last_behind name ds d)
    where
      other : (name : List ℕ) → cond (bytes_eq name d.name.text) (Some (length ds)) (last_named name ds) ≡ cond (bytes_eq d.name.text name) (Some (length ds)) (last_named name ds)
      other name = ap (λ b. cond b (Some (length ds)) (last_named name ds)) (turned_round d.name.text name (bytes_eq d.name.text name) refl)

  pub last_at : (ds : List Def) (k next : ℕ) (d : Def) (es more : List (K × ℕ)) (key : K) → k < length ds → next ≡ suc k → d ≡ get_or ds k d → text_of key ≡ d.name.text
      → more ≡ insert_entry same_name es key k → AreLast text_of (take k ds) es → AreLast text_of (take next ds) more
  last_at ds k next d es more key lt after at is grown are =
      let first = first_more ds k d lt at in
      λ name.
      ap (lookup (at_name name)) (grown ∙ ap (insert_entry same_name es key) (sym first.1)) ∙ last_inserted (take k ds) d es key is are name
      ∙ ap (last_named name) (sym first.0 ∙ ap (λ n. take n ds) (sym after))
