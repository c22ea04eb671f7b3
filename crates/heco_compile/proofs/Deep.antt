-- Which element is too deep, by numbered homes and by the rows of a source's terms.
use Rattle.std.proofs.Common.{◌≡◌, ◌∙◌, refl, sym, ap, ℕ, zero, suc, List, [], ◌∷◌, map, take, Some, None, Option, true}
use Rattle.std.specs.Prelude.{slice_get}
use Rattle.std.specs.List.{flat_map}
use Rattle.heco_syntax.specs.declared.tree.Source.{Source}
use Rattle.heco_types.specs.Shapes.{shapes_of}
use Rattle.heco_written.specs.Bound.{Scheme, scheme_of}
use Rattle.heco_written.specs.ScalarTerm.{ScalarTerm}
use Rattle.heco_written.specs.VectorTerm.{VectorTerm}
use Rattle.heco_written.specs.WrittenForm.{written}
use Rattle.heco_ir.specs.declared.home.Home.{Home}
use Rattle.heco_thrift.specs.Deep.{deep_bound}
use Rattle.heco_place.specs.NodeHomes.{homes_over}
use Rattle.heco_place.specs.Refusals.{home_bound, NoneDeep}
use Rattle.heco_place.specs.Refusals as placing
use Rattle.heco_good.specs.Accepted.{IsAccepted, IsTooDeep, depth_of}
use Rattle.heco_good.specs.Good.{preset_named, modulus, slots, homes_of}
use Rattle.heco_good.specs.Placed.{AreTerms}
use Rattle.heco_compile.proofs.RowItems.{Shallow, IsFirst, rows_none, first_in}

-- two lists that functions take to one list of numbers
module _ {X Y : Type 0} (f : X → Option ℕ) (g : Y → Option ℕ) where
  -- an item, and that the functions agree on it
  record Beside (xs : List X) (k : ℕ) (y : Y) : Type 0 where
    item : X
    here : slice_get xs k ≡ Some item
    same : f item ≡ g y

  first_same : (x : X) (xs : List X) (y : Y) (ys : List Y) → map g (y ∷ ys) ≡ map f (x ∷ xs) → f x ≡ g y
  first_same x xs y ys e = let both : g y ≡ f x = cc in sym both

  others_same : (x : X) (xs : List X) (y : Y) (ys : List Y) → map g (y ∷ ys) ≡ map f (x ∷ xs) → map g ys ≡ map f xs
  others_same x xs y ys e = cc

  beside : (ys : List Y) (xs : List X) → map g ys ≡ map f xs → (k : ℕ) (y : Y) → slice_get ys k ≡ Some y → Beside xs k y
  beside [] xs e k y h = absurd cc
  beside (z ∷ ys) [] e k y h = absurd (let no : ⊥ = cc in no)
  beside (z ∷ ys) (x ∷ xs) e zero y h = let at : z ≡ y = cc in record { item = x; here = refl; same = first_same x xs z ys e ∙ ap g at }
  beside (z ∷ ys) (x ∷ xs) e (suc k) y h = let b = beside ys xs (others_same x xs z ys e) k y h in record { item = b.item; here = b.here; same = b.same }

  before_shallow : (n : ℕ) (ys : List Y) (xs : List X) → map g ys ≡ map f xs → ((k : ℕ) (y : Y) → slice_get (take n ys) k ≡ Some y → g y ≡ None) → Shallow f (take n xs)
  before_shallow zero ys xs e h = tt
  before_shallow (suc n) [] [] e h = tt
  before_shallow (suc n) [] (x ∷ xs) e h = absurd (let no : ⊥ = cc in no)
  before_shallow (suc n) (y ∷ ys) [] e h = absurd (let no : ⊥ = cc in no)
  before_shallow (suc n) (y ∷ ys) (x ∷ xs) e h = (first_same x xs y ys e ∙ h 0 y refl, before_shallow n ys xs (others_same x xs y ys e) (λ k z l. h (suc k) z l))

  all_shallow : (ys : List Y) (xs : List X) → map g ys ≡ map f xs → ((k : ℕ) (y : Y) → slice_get ys k ≡ Some y → g y ≡ None) → Shallow f xs
  all_shallow [] [] e h = tt
  all_shallow [] (x ∷ xs) e h = absurd (let no : ⊥ = cc in no)
  all_shallow (y ∷ ys) [] e h = absurd (let no : ⊥ = cc in no)
  all_shallow (y ∷ ys) (x ∷ xs) e h = (first_same x xs y ys e ∙ h 0 y refl, all_shallow ys xs (others_same x xs y ys e) (λ k z l. h (suc k) z l))

module _ (source : Source) (terms : List (List ScalarTerm)) (are : AreTerms source terms) (vs : List VectorTerm) (homes : List Home) (over : homes_over vs homes ≡ homes_of source terms) where
  abbrev p : Scheme
  p = scheme_of (preset_named source)

  abbrev all : List ScalarTerm
  all = flat_map (λ row. row) terms

  by_homes : (hs : List Home) → map (deep_bound p) (homes_over vs hs) ≡ map (home_bound p vs) hs
  by_homes [] = refl
  by_homes (h ∷ hs) = ap (λ (os : List (Option ℕ)). home_bound p vs h ∷ os) (by_homes hs)

  by_terms : (xs : List ScalarTerm) → map (deep_bound p) (map (λ x. (written (modulus source) (slots source) x).home) xs) ≡ map (depth_of source) xs
  by_terms [] = refl
  by_terms (x ∷ xs) = ap (λ (os : List (Option ℕ)). depth_of source x ∷ os) (by_terms xs)

  same_bounds : map (home_bound p vs) homes ≡ map (depth_of source) all
  same_bounds = sym (by_homes homes) ∙ ap (map (deep_bound p)) over ∙ by_terms all

  pub accepted : NoneDeep p vs homes → IsAccepted source
  accepted none = record {
    terms = terms;
    execution = are.execution;
    shallow = rows_none (depth_of source) terms (all_shallow (depth_of source) (home_bound p vs) homes all same_bounds none);
  }

  pub too_deep : (out index e : ℕ) → placing.IsTooDeep p vs homes (shapes_of true source.ports) out index e → IsTooDeep source out index e
  too_deep out index e d =
      let b : Beside (depth_of source) (home_bound p vs) all d.number d.deep.home = beside (depth_of source) (home_bound p vs) homes all same_bounds d.number d.deep.home d.deep.here in
      let before : Shallow (depth_of source) (take d.number all) = before_shallow (depth_of source) (home_bound p vs) d.number homes all same_bounds d.deep.earlier in
      let r : IsFirst (depth_of source) terms out index b.item =
      first_in (depth_of source) terms (shapes_of true source.ports) are.long out index d.element.shape d.element.here d.element.within b.item (rw d.element.number_is b.here) (rw d.element.number_is before) in
      record {
        terms = terms;
        execution = are.execution;
        row = r.row;
        row_is = r.row_is;
        rows_before = r.rows_before;
        term = b.item;
        term_is = r.item_is;
        terms_before = r.items_before;
        deep = b.same ∙ d.deep.is;
      }
