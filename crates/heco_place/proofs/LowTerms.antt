-- Where no element's term is too deep, the greatest bound of all terms is quiet.
use Rattle.std.proofs.Common.{◌≡◌, ℕ, suc, ◌<◌, ◌≤◌, max, Bool, true, false, cond, List, [], ◌∷◌, length, map, Option, Some, None, refl, sym, subst, get_or, inl, inr, arith}
use Rattle.std.specs.List.{find}
use Rattle.std.specs.Option.{option_map}
use Rattle.std.proofs.lemmas.Bool.Decides.{nat_tests}
use Rattle.heco_nums.specs.declared.shape.Shape.{Shape}
use Rattle.heco_noise.specs.Rows.{passes, IsQuiet}
use Rattle.heco_written.specs.VectorTerm.{VectorTerm, Input}
use Rattle.heco_written.specs.Cost.{subterms, all_subterms}
use Rattle.heco_written.specs.Bound.{Scheme, bound, first_deep, greatest_of, greatest_bound}
use Rattle.heco_written.proofs.Members.{Member, member-append}
use Rattle.heco_ir.specs.declared.home.Home.{Home}
use Rattle.heco_ir.specs.declared.home.Home.TheVariants.{At}
use Rattle.heco_place.specs.Fitting.{AreHomes}
use Rattle.heco_place.specs.Refusals.{NoneDeep}
use Rattle.heco_place.proofs.HomesWithin.{root_home}

module _ (p : Scheme) where
  none_where : (o : Option VectorTerm) → option_map (bound p) o ≡ None → o ≡ None
  none_where None e = refl
  none_where (Some u) e = absurd cc

  quiet : (e : ℕ) → passes e ≡ false → IsQuiet e
  quiet e h = grind (arith, nat_tests)

  -- what is found nowhere holds nowhere
  unfound : (us : List VectorTerm) → find (λ u. passes (bound p u)) us ≡ None → (u : VectorTerm) → Member u us → IsQuiet (bound p u)
  unfound [] e u m = absurd m
  unfound (x ∷ us) e u m = by (passes (bound p x)) refl e m (unfound us)
    where
      by : (b : Bool) → passes (bound p x) ≡ b → cond b (Some x) (find (λ y. passes (bound p y)) us) ≡ None → Member u (x ∷ us)
          → (find (λ y. passes (bound p y)) us ≡ None → (u : VectorTerm) → Member u us → IsQuiet (bound p u)) → IsQuiet (bound p u)
      by true f g n rest = absurd cc
      by false f g (inl s) rest = rw s (quiet (bound p x) f)
      by false f g (inr n) rest = rest g u n

  all_quiet : (vs : List VectorTerm) → ((v : VectorTerm) → Member v vs → first_deep p v ≡ None) → (u : VectorTerm) → Member u (all_subterms vs) → IsQuiet (bound p u)
  all_quiet [] h u m = absurd m
  all_quiet (v ∷ vs) h u m =
      elim (member-append u (subterms v) (all_subterms vs) m) [
        | inl a ↦ unfound (subterms v) (h v (inl refl)) u a
        | inr b ↦ all_quiet vs (λ x n. h x (inr n)) u b
      ]

  max-quiet : (a b : ℕ) → IsQuiet a → IsQuiet b → IsQuiet (max a b)
  max-quiet a b ha hb = omega arith

  greatest_quiet : (us : List VectorTerm) → ((u : VectorTerm) → Member u us → IsQuiet (bound p u)) → IsQuiet (greatest_of (map (bound p) us))
  greatest_quiet [] h = omega arith
  greatest_quiet (u ∷ us) h = max-quiet (bound p u) (greatest_of (map (bound p) us)) (h u (inl refl)) (greatest_quiet us (λ x m. h x (inr m)))

  pub below_greatest : (us : List VectorTerm) (u : VectorTerm) → Member u us → bound p u ≤ greatest_of (map (bound p) us)
  below_greatest [] u m = absurd m
  below_greatest (x ∷ us) u (inl e) = rw e (left (bound p x) (greatest_of (map (bound p) us)))
    where
      left : (a b : ℕ) → a ≤ max a b
      left a b = omega arith
  below_greatest (x ∷ us) u (inr m) = right (bound p x) _ _ (below_greatest us u m)
    where
      right : (a b c : ℕ) → c ≤ b → c ≤ max a b
      right a b c le = omega arith

  member_at : (xs : List VectorTerm) (x : VectorTerm) → Member x xs → (k : ℕ) × (k < length xs) × (get_or xs k (Input 0) ≡ x)
  member_at [] x m = absurd m
  member_at (y ∷ xs) x (inl e) = (0, omega arith, sym e)
  member_at (y ∷ xs) x (inr m) = let (k, l, e) = member_at xs x m in (suc k, omega arith, e)

  pub quiet_greatest : (slots modulus : ℕ) (outputs : List Shape) (homes : List Home) (vs : List VectorTerm) → AreHomes slots modulus (length vs) outputs homes → NoneDeep p vs homes
      → IsQuiet (greatest_bound p vs)
  quiet_greatest slots modulus outputs homes vs are none =
      greatest_quiet (all_subterms vs) (all_quiet vs (λ v m.
      let (r, l, e) = member_at vs v m in
      let (k, slot, f) = root_home slots modulus (length vs) outputs homes are r l in
      none_where (first_deep p v) (subst (λ x. option_map (bound p) (first_deep p x) ≡ None) e (none k (At r slot) f))))
