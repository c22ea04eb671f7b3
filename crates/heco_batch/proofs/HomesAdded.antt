use Rattle.std.proofs.Common.{◌≡◌, ℕ, zero, suc, ◌+◌, ◌%◌, ◌<◌, List, [], ◌∷◌, ◌++◌, refl, ap, sym, ◌∙◌, arith}
use Rattle.std.specs.Prelude.{Some}
use Rattle.std.proofs.Math.Nat.{mod-add-mod}
use Rattle.heco_written.specs.VectorTerm.{Shifted}
use Rattle.heco_written.specs.WrittenForm.{Place, WrittenHome, Known, At, constant, places, runs, folded, beside, sum_of_runs, with_constant, shifted_by, sum_home}
use Rattle.heco_written.proofs.RunsPushed.{sum_of_runs-push, sum_at-is}
use Rattle.heco_ir.specs.declared.dialect.NodeId.{NodeId}
use Rattle.heco_ir.specs.declared.vector.VNode.{VNode}
use Rattle.heco_ir.specs.Terms.{vector_at, vector_terms, HasTerm}
use Rattle.heco_batch.specs.declared.home.NodeHome.TheVariants.{Number as NumberNode, At as AtNode}
use Rattle.heco_batch.specs.declared.home.NodeSum.{NodeSum}
use Rattle.heco_batch.specs.declared.place.NodeSlot.{NodeSlot}
use Rattle.heco_batch.specs.declared.sum.NodePlaces.{NodePlaces}
use Rattle.heco_batch.specs.inside.Places.{place_at, PlaceIs}
use Rattle.heco_batch.specs.inside.Sums.{ArePlaces, AreOptionPlaces}
use Rattle.heco_batch.specs.inside.Homes.{HomeIs, SumIs}

constant-known : (hs : List WrittenHome) (c : ℕ) → constant (hs ++ Known c ∷ []) ≡ constant hs + c
constant-known [] c = omega arith
constant-known (Known d ∷ hs) c = omega (arith, constant-known hs c)
constant-known (At p ∷ hs) c = constant-known hs c

constant-at : (hs : List WrittenHome) (p : Place) → constant (hs ++ At p ∷ []) ≡ constant hs
constant-at [] p = refl
constant-at (Known d ∷ hs) p = ap (λ k. d + k) (constant-at hs p)
constant-at (At q ∷ hs) p = constant-at hs p

pub places-known : (hs : List WrittenHome) (c : ℕ) → places (hs ++ Known c ∷ []) ≡ places hs
places-known [] c = refl
places-known (Known d ∷ hs) c = places-known hs c
places-known (At p ∷ hs) c = ap (λ x. p ∷ x) (places-known hs c)

pub places-at : (hs : List WrittenHome) (p : Place) → places (hs ++ At p ∷ []) ≡ places hs ++ p ∷ []
places-at [] p = refl
places-at (Known d ∷ hs) p = places-at hs p
places-at (At q ∷ hs) p = ap (λ x. q ∷ x) (places-at hs p)

-- a number makes the constant larger
pub number_added : {nodes : List VNode} {slots modulus : ℕ} {s : NodeSum} {hs : List WrittenHome} (d : ℕ) (k : WrittenHome)
    → SumIs nodes slots modulus s hs → HomeIs nodes slots modulus (NumberNode d) k
    → SumIs nodes slots modulus (record { constant = (s.constant + d) % modulus; places = s.places }) (hs ++ k ∷ [])
number_added {nodes} {slots} {modulus} {s} {hs} d (Known c) i h = record {
  constant_is = ap (λ x. (x + d) % modulus) i.constant_is ∙ mod-add-mod (constant hs) modulus d ∙ ap (λ x. (constant hs + x) % modulus) h.0 ∙ sym (ap (λ x. x % modulus) (constant-known hs c));
  places_are = rw (places-known hs c) i.places_are;
}
number_added {nodes} {slots} {modulus} {s} {hs} d (At p) i h = absurd h

-- a place goes to the runs
pub place_home_added : {a b : List VNode} {slots modulus : ℕ} {s : NodeSum} {hs : List WrittenHome} (d : NodeSlot) (new : NodePlaces) (k : WrittenHome)
    → SumIs a slots modulus s hs → HomeIs a slots modulus (AtNode d) k
    → ((ps : List Place) → AreOptionPlaces a slots s.places ps → ArePlaces b slots new (ps ++ place_at a d ∷ []))
    → SumIs b slots modulus (record { constant = s.constant; places = Some new }) (hs ++ k ∷ [])
place_home_added {a} {b} {slots} {modulus} {s} {hs} d new (Known c) i h f = absurd h
place_home_added {a} {b} {slots} {modulus} {s} {hs} d new (At p) i h f = record {
  constant_is = i.constant_is ∙ sym (ap (λ x. x % modulus) (constant-at hs p));
  places_are =
      let e : places hs ++ place_at a d ∷ [] ≡ places (hs ++ At p ∷ []) = ap (λ x. places hs ++ x ∷ []) h.0.is ∙ sym (places-at hs p) in
      rw e at (f (places hs) i.places_are);
}

-- the home of a sum whose places are these
pub sum_home-is : {nodes : List VNode} {slots modulus : ℕ} {s : NodeSum} (hs : List WrittenHome) (d : NodePlaces) → SumIs nodes slots modulus s hs → ArePlaces nodes slots d (places hs)
    → (p : Place) × (PlaceIs nodes d.sum p) × (sum_home modulus slots hs ≡ At (shifted_by s.constant p))
sum_home-is {nodes} {slots} {modulus} {s} hs d i are = (
  beside slots (sum_of_runs slots are.closed) (folded are.last_run),
  are.sum_is,
  sum_at-is slots (constant hs % modulus) (runs slots (places hs))
      ∙ ap (λ rs. with_constant (constant hs % modulus) (sum_of_runs slots rs)) are.runs_are
      ∙ ap (with_constant (constant hs % modulus)) (sum_of_runs-push slots are.closed are.last_run)
      ∙ ap (λ c. At (shifted_by c (beside slots (sum_of_runs slots are.closed) (folded are.last_run)))) (sym i.constant_is),
)

pub unshifted : {nodes : List VNode} {slots modulus : ℕ} {s : NodeSum} (hs : List WrittenHome) (d : NodePlaces) → SumIs nodes slots modulus s hs → ArePlaces nodes slots d (places hs)
    → s.constant ≡ 0 → HomeIs nodes slots modulus (AtNode d.sum) (sum_home modulus slots hs)
unshifted {nodes} {slots} {modulus} {s} hs d i are z =
    let (p, is, e) = sum_home-is hs d i are in
    let f : sum_home modulus slots hs ≡ At p = e ∙ ap (λ c. At (shifted_by c p)) z in
    rw f (is, are.sum_within)

shifted_by-some : (c : ℕ) (p : Place) → 0 < c → shifted_by c p ≡ record { vector = Shifted c p.vector; slot = p.slot }
shifted_by-some zero p h = absurd (omega arith)
shifted_by-some (suc c) p h = refl

pub shifted : {a b : List VNode} {slots modulus : ℕ} {s : NodeSum} (hs : List WrittenHome) (d : NodePlaces) (id : NodeId) → SumIs a slots modulus s hs → ArePlaces a slots d (places hs)
    → 0 < s.constant → HasTerm b id.0 (Shifted s.constant (vector_at (vector_terms a) d.sum.node))
    → HomeIs b slots modulus (AtNode (record { node = id; slot = d.sum.slot })) (sum_home modulus slots hs)
shifted {a} {b} {slots} {modulus} {s} hs d id i are some term =
    let (p, is, e) = sum_home-is hs d i are in
    let f : sum_home modulus slots hs ≡ At (record { vector = Shifted s.constant p.vector; slot = p.slot }) = e ∙ ap At (shifted_by-some s.constant p some) in
    let g : place_at b (record { node = id; slot = d.sum.slot }) ≡ record { vector = Shifted s.constant p.vector; slot = p.slot } =
    ap (λ v. record { vector = v; slot = d.sum.slot }) term.is ∙ ap (λ q. record { vector = Shifted s.constant q.vector; slot = q.slot }) is.is in
    rw f (record { within = term.within; is = g }, are.sum_within)
