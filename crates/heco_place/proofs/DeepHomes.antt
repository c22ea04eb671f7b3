-- The bound of what is too deep in an element's term, from the depths of nodes.
use Rattle.std.proofs.Common.{◌≡◌, ℕ, zero, suc, ◌+◌, ◌<◌, ◌≤◌, List, [], ◌∷◌, ◌++◌, length, map, Option, Some, None, refl, sym, ap, subst, ◌∙◌, get_or, take, arith}
use Rattle.std.specs.Option.{option_map}
use Rattle.std.specs.Prelude.{slice_get}
use Rattle.std.proofs.lemmas.List.{length-map, take_more, take_all, get_or_default}
use Rattle.heco_written.specs.VectorTerm.{VectorTerm, Input}
use Rattle.heco_written.specs.Bound.{Scheme, bound}
use Rattle.heco_ir.specs.declared.dialect.NodeId.{NodeId}
use Rattle.heco_ir.specs.declared.home.Home.{Home}
use Rattle.heco_ir.specs.declared.home.Home.TheVariants.{At}
use Rattle.heco_ir.specs.Values.{numbers}
use Rattle.heco_ir.proofs.Built.{slice_get_below}
use Rattle.heco_ir.proofs.Renaming.{get_or-map-lt}
use Rattle.heco_place.specs.declared.depth.Depth.{Depth}
use Rattle.heco_place.specs.declared.depth.Depth.TheVariants.{Quiet, Deep}
use Rattle.heco_place.specs.inside.Depths.{depth_where, depth_of}
use Rattle.heco_place.specs.Fitting.{terms_of, HomeWithin}
use Rattle.heco_place.specs.Refusals.{home_bound, NoneDeep}
use Rattle.heco_place.proofs.DepthLaws.{depth_at}

-- what is found at an index of a list
pub get_at : {X : Type 0} (xs : List X) (i : ℕ) (d : X) → i < length xs → slice_get xs i ≡ Some (get_or xs i d)
get_at [] i d h = elim h [ ]
get_at (x ∷ xs) zero d h = refl
get_at (x ∷ xs) (suc i) d h = get_at xs i d (omega arith)

pub term_of_root : (ts : List VectorTerm) (roots : List NodeId) (root : ℕ) (d : NodeId) → slice_get roots root ≡ Some d
    → get_or (terms_of ts (numbers roots)) root (Input 0) ≡ get_or ts d.0 (Input 0)
term_of_root ts roots root d e =
    let (h, f) = slice_get_below roots root d d e in
    get_or-map-lt (λ i. get_or ts i (Input 0)) (numbers roots) root 0 (Input 0) (omega (arith, length-map roots (λ (x : NodeId). x.0)))
    ∙ ap (λ i. get_or ts i (Input 0)) (get_or-map-lt (λ (x : NodeId). x.0) roots root d 0 h ∙ ap (λ (x : NodeId). x.0) f)

quiet_none : (p : Scheme) (v : VectorTerm) (o : Option VectorTerm) (e : ℕ) → depth_where p v o ≡ Quiet e → option_map (bound p) o ≡ None
quiet_none p v None e h = refl
quiet_none p v (Some u) e h = absurd cc

deep_some : (p : Scheme) (v : VectorTerm) (o : Option VectorTerm) (e : ℕ) → depth_where p v o ≡ Deep e → option_map (bound p) o ≡ Some e
deep_some p v None e h = absurd cc
deep_some p v (Some u) e h = let same : bound p u ≡ e = cc in ap Some same

module _ (p : Scheme) (ts : List VectorTerm) (depths : List Depth) (roots : List NodeId) (root slot : ℕ) (x : NodeId) (y : Depth)
    (are : depths ≡ map (depth_of p) ts) (within : HomeWithin (length depths) roots (At root slot)) where
  depth_is : get_or depths (get_or roots root x).0 y ≡ depth_of p (get_or (terms_of ts (numbers roots)) root (Input 0))
  depth_is =
      let d : NodeId = within.0 in
      let f : get_or roots root x ≡ d = (slice_get_below roots root d x within.1).1 in
      rw (f, term_of_root ts roots root d within.1) (get_or_default depths d.0 y (Quiet 0) within.2 ∙ depth_at p depths ts d.0 are within.2)

  pub quiet_home : (e : ℕ) → get_or depths (get_or roots root x).0 y ≡ Quiet e → None ≡ home_bound p (terms_of ts (numbers roots)) (At root slot)
  quiet_home e h = sym (quiet_none p (get_or (terms_of ts (numbers roots)) root (Input 0)) _ e (sym depth_is ∙ h))

  pub deep_home : (e : ℕ) → get_or depths (get_or roots root x).0 y ≡ Deep e → Some e ≡ home_bound p (terms_of ts (numbers roots)) (At root slot)
  deep_home e h = sym (deep_some p (get_or (terms_of ts (numbers roots)) root (Input 0)) _ e (sym depth_is ∙ h))

-- one element more is not too deep
pub none_more : (p : Scheme) (vs : List VectorTerm) (homes : List Home) (i : ℕ) (d : Home) → i < length homes → NoneDeep p vs (take i homes) → home_bound p vs (get_or homes i d) ≡ None
    → NoneDeep p vs (take (i + 1) homes)
none_more p vs homes i d l none e k h here =
    let all : slice_get (take i homes ++ get_or homes i d ∷ []) k ≡ Some h = rw (take_more homes i d l) at here in
    by_append (take i homes) k all none
  where
    by_append : (xs : List Home) (k : ℕ) → slice_get (xs ++ get_or homes i d ∷ []) k ≡ Some h → NoneDeep p vs xs → home_bound p vs h ≡ None
    by_append [] zero f n = let same : get_or homes i d ≡ h = cc in ap (home_bound p vs) (sym same) ∙ e
    by_append [] (suc k) f n = absurd cc
    by_append (x ∷ xs) zero f n = n 0 h f
    by_append (x ∷ xs) (suc k) f n = by_append xs k f (λ j g u. n (suc j) g u)

pub none_all : (p : Scheme) (vs : List VectorTerm) (homes : List Home) (i : ℕ) → length homes ≤ i → NoneDeep p vs (take i homes) → NoneDeep p vs homes
none_all p vs homes i l none = subst (NoneDeep p vs) (take_all i homes l) none
