-- The first output element whose term has a subterm that is too deep.
use Rattle.std.specs.Prelude.{◌≡◌, ℕ, ◌+◌, ◌<◌, List, take, Option, Some, None, Result, Ok, Err, slice_get}
use Rattle.std.specs.List.{sum_by}
use Rattle.heco_nums.specs.declared.shape.Shape.{Shape}
use Rattle.heco_written.specs.VectorTerm.{VectorTerm}
use Rattle.heco_written.specs.Bound.{Scheme}
use Rattle.heco_ir.specs.declared.home.Home.{Home}
use Rattle.heco_thrift.specs.Deep.{deep_bound}
use Rattle.heco_place.specs.NodeHomes.{written_home}
use Rattle.heco_place.specs.declared.error.PlaceErr.{PlaceErr}
use Rattle.heco_place.specs.declared.error.PlaceErr.TheVariants.{TooDeep, Memory}

-- the bound of what is too deep in the term of an output element, the roots' terms being vs
abbrev pub home_bound : Scheme → List VectorTerm → Home → Option ℕ
home_bound p vs h = deep_bound p (written_home vs h)

-- no element's term is too deep
abbrev pub NoneDeep : Scheme → List VectorTerm → List Home → Type 0
NoneDeep p vs homes = (k : ℕ) (h : Home) → slice_get homes k ≡ Some h → home_bound p vs h ≡ None

-- the element of this number is the first whose term is too deep
pub record IsFirstDeep (p : Scheme) (vs : List VectorTerm) (homes : List Home) (number e : ℕ) : Type 0 where
  pub home : Home
  pub here : slice_get homes number ≡ Some home
  pub is : home_bound p vs home ≡ Some e
  pub earlier : NoneDeep p vs (take number homes)

-- the element of this number has this index in this output
pub record IsElement (outputs : List Shape) (number out index : ℕ) : Type 0 where
  pub shape : Shape
  pub here : slice_get outputs out ≡ Some shape
  pub within : index < shape.len
  pub number_is : sum_by (λ s. s.len) (take out outputs) + index ≡ number

-- the first element that is too deep is this one
pub record IsTooDeep (p : Scheme) (vs : List VectorTerm) (homes : List Home) (outputs : List Shape) (out index e : ℕ) : Type 0 where
  pub number : ℕ
  pub deep : IsFirstDeep p vs homes number e
  pub element : IsElement outputs number out index

-- why an answer comes: want of memory alone is free
abbrev pub HasCause : {A : Type 0} → Scheme → List VectorTerm → List Home → List Shape → Result A PlaceErr → Type 0
HasCause p vs homes outputs (Ok x) = NoneDeep p vs homes
HasCause p vs homes outputs (Err (TooDeep out index e)) = IsTooDeep p vs homes outputs out index e
HasCause p vs homes outputs (Err Memory) = Unit {0}
