use Rattle.std.proofs.Common.{◌≡◌, ◌≢◌, ℕ, ◌+◌, ◌<◌, List, length, get_or, set, arith, refl, sym, ap, ◌∙◌, below_more, get_or-set_other, get_or-set_same}
use Rattle.std.proofs.lemmas.List.{ext_get_or, length-set, length-replicate}
use Rattle.heco_keys.proofs.coefficients.poly_of.Goals as goal

pub loop-i-init : goal.loop-i-init
loop-i-init c = record {
  long = ap length c.in_ok-out.ensures ∙ length-replicate c.args.p.now.n 0;
  same = λ k h. absurd (omega arith);
}

-- one more place taken over
more : (n i v : ℕ) (xs words ys : List ℕ) → length xs ≡ n → i < n → ((k : ℕ) → k < i → get_or xs k 0 ≡ get_or words k 0) → v ≡ get_or words i 0 → ys ≡ set xs i v → (k : ℕ) → k < i + 1 → get_or ys k 0 ≡ get_or words k 0
more n i v xs words ys long lt same here is =
    let inside : i < length xs = omega arith in
    rw is (below_more (λ k. get_or (set xs i v) k 0 ≡ get_or words k 0) i (λ k h. let other : k ≢ i = omega arith in rw get_or-set_other (same k h)) (rw get_or-set_same here))

pub loop-i-preserved : goal.loop-i-preserved
loop-i-preserved c = record {
  long = ap length c.set.ensures ∙ length-set c.loop-i.out c.loop-i.i _ ∙ c.loop-i.invariant.long;
  same = more c.args.p.now.n c.loop-i.i _ c.loop-i.out c.args.words.now c.set.new.self c.loop-i.invariant.long (omega arith) c.loop-i.invariant.same refl c.set.ensures;
}

pub returns : goal.returns
returns c =
    let long : length c.loop-i.out ≡ length c.args.words.now = c.loop-i.invariant.long ∙ sym c.requires.long in
    ext_get_or 0 c.loop-i.out c.args.words.now long (λ k h. c.loop-i.invariant.same k (omega (arith, c.loop-i.invariant.long)))
