use Rattle.std.proofs.Common.{◌≡◌, ℕ, suc, ◌+◌, ◌*◌, ◌/◌, ◌%◌, ◌^◌, ◌<◌, ◌≤◌, List, length, refl, ap, sym, ◌∙◌, arith, Bool, true, false, nat_eq, ◌≢◌, lit<}
use Rattle.std.specs.Prelude.{Option, Some, None, is_some}
use Rattle.std.proofs.Math.Nat.{pow-suc, mul-le-mul_left}
use Rattle.std.proofs.lemmas.Bool.{eqb-true, eqb-false}
use Rattle.std.specs.Bool.{if◌then◌else◌}
use Rattle.std.proofs.Math.Pow.{pow_pos, pow_mono}
use native.Mathlib.Decide.{dec_lt}
use Rattle.heco_written.specs.VectorTerm.{VectorTerm, Added, Turned}
use Rattle.heco_written.specs.Fold.{power, fold}
use Rattle.heco_written.proofs.FoldTerms.{fold-power, fold-past_power}
use Rattle.heco_ir.specs.declared.dialect.NodeId.{NodeId}
use Rattle.heco_ir.specs.declared.vector.VNode.{VNode}
use Rattle.heco_ir.specs.declared.scalar.SNode.{SNode}
use Rattle.heco_ir.specs.Ranges.{AllFit}
use Rattle.heco_ir.specs.Terms.{vector_at, vector_terms, HasTerm, Extends}
use Rattle.heco_ir.proofs.Extended.{has_term_stands, term_stands, extends_length, extends_none, extends_more, extends_weaken}
use Rattle.heco_fold.specs.Runs.{IsWithin, IsPower, FoldIs, FoldsLow}

pub none_included : {nodes : List VNode} {v : VectorTerm} {bit width n : ℕ} {id : NodeId} → IsPower nodes v bit width id → FoldsLow nodes v bit n None
    → HasTerm nodes id.0 (fold v (2 ^ bit + n))
none_included {nodes} {v} {bit} {width} {n} {id} p l =
    let z : n ≡ 0 = l.fold_is in
    let e : 2 ^ bit + n ≡ 2 ^ bit = omega arith in
    record { within = p.term_is.within; is = p.term_is.is ∙ sym (ap (fold v) e ∙ fold-power v bit) }

pub some_included : {nodes : List VNode} {v : VectorTerm} {bit width n : ℕ} {id d : NodeId} → IsPower nodes v bit width id → FoldsLow nodes v bit n (Some d)
    → Added (vector_at (vector_terms nodes) id) (Turned width (vector_at (vector_terms nodes) d)) ≡ fold v (2 ^ bit + n)
some_included {nodes} {v} {bit} {width} {n} {id} {d} p l =
    ap (λ x. Added x (Turned width (vector_at (vector_terms nodes) d))) p.term_is.is
    ∙ ap (λ k. Added (power v bit) (Turned k (vector_at (vector_terms nodes) d))) p.width_is
    ∙ ap (λ x. Added (power v bit) (Turned (2 ^ bit) x)) l.fold_is.1.is
    ∙ sym (fold-past_power v bit n l.fold_is.0 l.below)

pub low_set : {nodes : List VNode} {v : VectorTerm} (bit n : ℕ) {d : NodeId} → n < 2 ^ bit → HasTerm nodes d.0 (fold v (2 ^ bit + n)) → FoldsLow nodes v (bit + 1) (2 ^ bit + n) (Some d)
low_set {nodes} {v} bit n {d} l t =
    let e : bit + 1 ≡ suc bit = omega arith in
    record { below = rw e (omega (arith, pow-suc 2 bit)); fold_is = (omega arith, t) }

-- the bits below one are folded
pub record Folding (v : VectorTerm) (len : ℕ) (first nodes : List VNode) (id : NodeId) (width rest : ℕ) (low : Option NodeId) : Type 0 where
  pub bit : ℕ
  pub folded : ℕ
  pub most : ℕ
  pub power_is : IsPower nodes v bit width id
  pub low_is : FoldsLow nodes v bit folded low
  pub split : len ≡ rest * 2 ^ bit + folded
  pub left : 0 < rest
  pub stands : Extends most first nodes
  pub count : most ≤ 4 * bit
  pub count_alone : folded ≡ 0 → most ≤ 2 * bit

fold_stands : {m : ℕ} {a b : List VNode} (v : VectorTerm) (n : ℕ) (low : Option NodeId) → Extends m a b → FoldIs a v n low → FoldIs b v n low
fold_stands v n None h f = f
fold_stands v n (Some d) h f = (f.0, has_term_stands h f.1)

pub fold_within : (nodes : List VNode) (v : VectorTerm) (n : ℕ) (low : Option NodeId) → FoldIs nodes v n low → IsWithin (length nodes) low
fold_within nodes v n None f = tt
fold_within nodes v n (Some d) f = f.1.within

pub low_none : (nodes : List VNode) (v : VectorTerm) (n : ℕ) (low : Option NodeId) → FoldIs nodes v n low → n ≡ 0 → is_some low ≡ false
low_none nodes v n None f e = refl
low_none nodes v n (Some d) f e = let bad : 0 < 0 = rw e at f.0 in absurd (omega arith)

pub folding_start : (nodes : List VNode) (id : NodeId) (len : ℕ) → id.0 < length nodes → 0 < len → Folding (vector_at (vector_terms nodes) id) len nodes nodes id 1 len None
unfolding power
folding_start nodes id len l some = record {
  bit = 0;
  folded = 0;
  most = 0;
  power_is = record { width_is = refl; term_is = record { within = l; is = refl } };
  low_is = record { below = lit< tt; fold_is = refl };
  split = omega arith;
  left = some;
  stands = extends_none nodes;
  count = omega arith;
  count_alone = λ e. omega arith;
}

halves : (len rest w n r : ℕ) → len ≡ rest * w + n → rest % 2 ≡ r → len ≡ rest / 2 * (w * 2) + (r * w + n)
halves len rest w n r h e =
    let d : rest ≡ 2 * (rest / 2) + r = omega arith in
    h ∙ ap (λ k. k * w + n) d ∙ omega arith

power_doubled : {c : List VNode} {next : ℕ} (v : VectorTerm) (bit : ℕ) → HasTerm c next (Added (power v bit) (Turned (2 ^ bit) (power v bit))) → HasTerm c next (power v (bit + 1))
unfolding power
power_doubled v bit t = let e : bit + 1 ≡ suc bit = omega arith in rw e t

bit_below : (bit : ℕ) → 2 ^ bit ≤ 512 → bit < 10
bit_below bit h = elim (dec_lt bit 10) [
  | Prim.yes l ↦ l
  | Prim.no n ↦ let big : 2 ^ 10 ≤ 2 ^ bit = pow_mono {i = 10} {j = bit} (omega arith) in let k : 1024 ≤ 2 ^ bit = big in absurd (omega arith)
]

module _ {v : VectorTerm} {len : ℕ} {first nodes : List VNode} {id : NodeId} {width rest : ℕ} {low : Option NodeId} (h : Folding v len first nodes id width rest low) where
  folding_power : 2 ^ h.bit ≤ len
  folding_power = omega (arith, h.split, mul-le-mul_left (2 ^ h.bit) h.left)

  pub folding_bit : len ≤ 512 → h.bit < 10
  folding_bit l = bit_below h.bit (omega (arith, folding_power))

  pub folding_length : len ≤ 512 → (length first ≤ length nodes) × (length nodes ≤ length first + 36)
  folding_length l = let (a, b) = extends_length h.stands in (a, omega (arith, h.count, folding_bit l))

  pub folding_within : IsWithin (length nodes) low
  folding_within = fold_within nodes v h.folded low h.low_is.fold_is

  pub folding_width : 1 < rest → len ≤ 512 → width * 2 ≤ 512
  folding_width r l =
      omega (arith, h.split, h.power_is.width_is, mul-le-mul_left (2 ^ h.bit) r)

  folding_early : 1 < rest → len ≤ 512 → h.bit < 9
  folding_early r l =
      let k : suc h.bit < 10 = bit_below (suc h.bit) (omega (arith, pow-suc 2 h.bit, h.split, mul-le-mul_left (2 ^ h.bit) r)) in
      omega arith

  -- in a turn of the loop there is room for four nodes
  pub folding_turn : {m : ℕ} {b : List VNode} → 1 < rest → len ≤ 512 → m ≤ 4 → Extends m nodes b → Extends 36 first b
  folding_turn r l few ext = extends_weaken 36 (omega (arith, h.count, folding_early r l)) (extends_more h.stands ext)

  -- one bit more is folded
  pub folding_next : (b c : List VNode) (new : Option NodeId) (next : NodeId) (set : Bool) → 1 < rest → set ≡ nat_eq (rest % 2) 1
      → ((v : VectorTerm) (bit n : ℕ) → IsPower nodes v bit width id → FoldsLow nodes v bit n low → FoldsLow b v (bit + 1) (if set then 2 ^ bit + n else n) new)
      → Extends 2 nodes b → (set ≡ false → b ≡ nodes)
      → HasTerm c next.0 (Added (vector_at (vector_terms b) id) (Turned width (vector_at (vector_terms b) id))) → Extends 2 b c
      → Folding v len first c next (width * 2) (rest / 2) new
  folding_next b c new next set r se low_fold ext alone term ext2 = by set refl
    where
      e : h.bit + 1 ≡ suc h.bit
      e = omega arith

      at_b : vector_at (vector_terms b) id ≡ power v h.bit
      at_b = term_stands id.0 ext h.power_is.term_is.within ∙ h.power_is.term_is.is

      doubled : HasTerm c next.0 (power v (h.bit + 1))
      doubled = power_doubled v h.bit (rw (at_b, h.power_is.width_is) at term)

      power_next : IsPower c v (h.bit + 1) (width * 2) next
      power_next = record { width_is = rw e (omega (arith, pow-suc 2 h.bit, h.power_is.width_is)); term_is = doubled }

      low_b : FoldsLow b v (h.bit + 1) (if set then 2 ^ h.bit + h.folded else h.folded) new
      low_b = low_fold v h.bit h.folded h.power_is h.low_is

      by : (t : Bool) → set ≡ t → Folding v len first c next (width * 2) (rest / 2) new
      by true t =
          let low_c : FoldsLow b v (h.bit + 1) (2 ^ h.bit + h.folded) new = rw t at low_b in
          let odd : rest % 2 ≡ 1 = eqb-true _ _ (sym se ∙ t) in
          let p : 0 < 2 ^ h.bit = pow_pos h.bit in
          record {
            bit = h.bit + 1;
            folded = 2 ^ h.bit + h.folded;
            most = h.most + 2 + 2;
            power_is = power_next;
            low_is = record { below = low_c.below; fold_is = fold_stands v (2 ^ h.bit + h.folded) new ext2 low_c.fold_is };
            split = rw (e, pow-suc 2 h.bit) (halves len rest (2 ^ h.bit) h.folded 1 h.split odd ∙ ap (λ k. rest / 2 * (2 ^ h.bit * 2) + (k + h.folded)) (omega arith));
            left = omega arith;
            stands = extends_more (extends_more h.stands ext) ext2;
            count = omega (arith, h.count);
            count_alone = λ z. absurd (omega arith);
          }
      by false t =
          let low_c : FoldsLow b v (h.bit + 1) h.folded new = rw t at low_b in
          let even : rest % 2 ≢ 1 = eqb-false _ _ (sym se ∙ t) in
          let same : b ≡ nodes = alone t in
          record {
            bit = h.bit + 1;
            folded = h.folded;
            most = h.most + 2;
            power_is = power_next;
            low_is = record { below = low_c.below; fold_is = fold_stands v h.folded new ext2 low_c.fold_is };
            split = rw (e, pow-suc 2 h.bit) (halves len rest (2 ^ h.bit) h.folded 0 h.split (omega arith) ∙ omega arith);
            left = omega arith;
            stands = extends_more h.stands (rw same at ext2);
            count = omega (arith, h.count);
            count_alone = λ z. let k : h.most ≤ 2 * h.bit = h.count_alone z in omega arith;
          }

  -- all bits are folded
  pub folding_end : rest ≡ 1 → len ≡ 2 ^ h.bit + h.folded
  folding_end r = h.split ∙ ap (λ k. k * 2 ^ h.bit + h.folded) r ∙ omega arith

  pub folding_stands : (last : List VNode) → len ≤ 512 → Extends 2 nodes last → (is_some low ≡ false → last ≡ nodes) → Extends 36 first last
  folding_stands last l ext alone = elim (dec_lt h.bit 9) [
    | Prim.yes b ↦ extends_weaken 36 (omega (arith, h.count)) (extends_more h.stands ext)
    | Prim.no b ↦
        let nine : h.bit ≡ 9 = omega (arith, folding_bit l) in
        let p : 2 ^ h.bit ≡ 512 = ap (λ k. 2 ^ k) nine in
        let z : h.folded ≡ 0 = omega (arith, h.split, mul-le-mul_left (2 ^ h.bit) h.left) in
        let same : last ≡ nodes = alone (low_none nodes v h.folded low h.low_is.fold_is z) in
        rw same (extends_weaken 36 (omega (arith, h.count_alone z)) h.stands)
  ]

  pub folding_low : 2 ^ h.bit + h.folded ≤ len
  folding_low = omega (arith, h.split, mul-le-mul_left (2 ^ h.bit) h.left)

  pub folding_room : 1 < rest → (0 < width) × (width < len)
  folding_room r =
      let p : 0 < 2 ^ h.bit = pow_pos h.bit in
      (omega (arith, h.power_is.width_is), omega (arith, h.power_is.width_is, h.split, mul-le-mul_left (2 ^ h.bit) r))

-- and what is added are nodes of a valid circuit
pub record FoldingFits (v : VectorTerm) (len : ℕ) (first nodes : List VNode) (id : NodeId) (width rest : ℕ) (low : Option NodeId) : Type 0 where
  pub folding : Folding v len first nodes id width rest low
  pub fits : (slots modulus : ℕ) (es : List SNode) → len ≤ slots → AllFit slots modulus es first → AllFit slots modulus es nodes

-- the turn of what is folded already fits
pub low_turn : {nodes : List VNode} {v : VectorTerm} {bit width n : ℕ} {id d : NodeId} (slots : ℕ) → IsPower nodes v bit width id → FoldsLow nodes v bit n (Some d)
    → 2 ^ bit + n ≤ slots → (0 < width) × (width < slots)
low_turn {nodes} {v} {bit} {width} {n} slots p l le =
    let s : 0 < 2 ^ bit = pow_pos bit in
    let some : 0 < n = l.fold_is.0 in
    (omega (arith, p.width_is), omega (arith, p.width_is))
