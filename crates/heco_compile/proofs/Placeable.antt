-- What batching says of homes and nodes, as placing asks for it.
use Rattle.std.proofs.Common.{◌≡◌, ℕ, zero, suc, ◌+◌, List, [], ◌∷◌, length, Some, refl, sym, ap, subst, ◌∙◌, get_or}
use Rattle.std.specs.Prelude.{slice_get}
use Rattle.std.specs.List.{range_with_len, sum_by}
use Rattle.std.proofs.lemmas.List.{length-map}
use Rattle.heco_nums.specs.Presets.{preset_name}
use Rattle.heco_nums.specs.declared.preset.Preset.{Preset}
use Rattle.heco_nums.specs.declared.shape.Shape.{Shape}
use Rattle.heco_types.specs.Presets.{id_named}
use Rattle.heco_types.proofs.PresetWords.{id_named-is}
use Rattle.heco_written.specs.VectorTerm.{Input}
use Rattle.heco_written.specs.WrittenForm.{WrittenHome, Known, At as AtPlace, places, vectors_of}
use Rattle.heco_ir.specs.declared.home.Home.{Home}
use Rattle.heco_ir.specs.declared.scalar.SNode.{SNode}
use Rattle.heco_ir.specs.declared.vector.VNode.{VNode}
use Rattle.heco_ir.specs.declared.vector.VNode.TheVariants.{Input as InputNode, Neg, Add, Mul, Scale, Shift, Turn}
use Rattle.heco_ir.specs.Homes.{HomeFits, AllHomesFit}
use Rattle.heco_ir.specs.Ranges as ranges
use Rattle.heco_ir.specs.Terms.{vector_terms, terms_at}
use Rattle.heco_ir.specs.Unrolled.{AllElementsBelow}
use Rattle.heco_batch.specs.Roots.{homes_from}
use Rattle.heco_place.specs.Fitting.{Fits, AllFit, named, AreHomes}

-- the preset of a name has the number that the name has
pub id_is : (p : Preset) (name : List ℕ) → preset_name p.id ≡ name → p.id ≡ id_named name
id_is p name is = let row = p.row in sym (id_named-is p.id name row.0 row.1 is)

length-homes_from : (n : ℕ) (hs : List WrittenHome) → length (homes_from n hs) ≡ length hs
length-homes_from n [] = refl
length-homes_from n (Known c ∷ hs) = ap suc (length-homes_from n hs)
length-homes_from n (AtPlace p ∷ hs) = ap suc (length-homes_from (n + 1) hs)

named_from : (n : ℕ) (hs : List WrittenHome) → named (homes_from n hs) ≡ range_with_len n (length (places hs))
named_from n [] = refl
named_from n (Known c ∷ hs) = named_from n hs
named_from n (AtPlace p ∷ hs) = ap (λ rs. n ∷ rs) (named_from (n + 1) hs)

fits_at : (slots modulus : ℕ) (homes : List Home) → AllHomesFit slots modulus homes → (k : ℕ) (h : Home) → slice_get homes k ≡ Some h → HomeFits slots modulus h
fits_at slots modulus [] f k h e = absurd cc
fits_at slots modulus (x ∷ hs) f zero h e = let same : x ≡ h = cc in subst (HomeFits slots modulus) same f.0
fits_at slots modulus (x ∷ hs) f (suc k) h e = fits_at slots modulus hs f.1 k h e

pub are_homes : (slots modulus roots : ℕ) (outputs : List Shape) (hs : List WrittenHome) → sum_by (λ (s : Shape). s.len) outputs ≡ length hs → roots ≡ length (places hs)
    → AllHomesFit slots modulus (homes_from 0 hs) → AreHomes slots modulus roots outputs (homes_from 0 hs)
are_homes slots modulus roots outputs hs count are fit = record {
  count = count ∙ sym (length-homes_from 0 hs);
  named_are = named_from 0 hs ∙ ap (range_with_len 0) (sym are);
  fit = fits_at slots modulus (homes_from 0 hs) fit;
}

pub all_fit : (inputs slots modulus : ℕ) (es : List SNode) (ns : List VNode) → AllElementsBelow inputs es → ranges.AllFit slots modulus es ns → AllFit inputs slots modulus ns
all_fit inputs slots modulus es [] below f k n e = absurd cc
all_fit inputs slots modulus es (x ∷ ns) below f zero n e = let same : x ≡ n = cc in subst (Fits inputs slots modulus) same (by x f.0)
  where
    by : (x : VNode) → ranges.Fits slots modulus es x → Fits inputs slots modulus x
    by (InputNode a) g = below a g.0 g.1
    by (Neg v) g = tt
    by (Add v u) g = tt
    by (Mul v u) g = tt
    by (Scale c v) g = g
    by (Shift c v) g = g.1
    by (Turn r v) g = g
all_fit inputs slots modulus es (x ∷ ns) below f (suc k) n e = all_fit inputs slots modulus es ns below f.1 k n e

pub length-places : (ns : List VNode) (roots : List ℕ) (hs : List WrittenHome) → terms_at ns roots ≡ vectors_of hs → length roots ≡ length (places hs)
length-places ns roots hs e = sym (length-map roots (λ i. get_or (vector_terms ns) i (Input 0))) ∙ ap length e ∙ length-map (places hs) (λ p. p.vector)
