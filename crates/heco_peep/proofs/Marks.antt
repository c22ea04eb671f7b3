-- One gate back: what is needed through it.
use Rattle.std.proofs.Common.{◌≡◌, ℕ, zero, suc, ◌+◌, ◌-◌, ◌<◌, ◌≤◌, List, [], ◌∷◌, length, drop, get_or, refl, ap, sym, ◌∙◌, arith, Bool, true, false, ◌&&◌, ◌||◌}
use Rattle.heco_circuit.specs.declared.gate.Gate.{Gate}
use Rattle.heco_rewrites.specs.Needed.{reads, needed}

drop_get : {X : Type 0} (xs : List X) (k : ℕ) (d : X) → k < length xs → drop k xs ≡ get_or xs k d ∷ drop (suc k) xs
drop_get [] k d l = absurd (omega (arith, l))
drop_get (x ∷ xs) zero d l = refl
drop_get (x ∷ xs) (suc k) d l = drop_get xs k d (omega (arith, l))

needed_back : (outs : ℕ → Bool) (wire : ℕ) (gates : List Gate) (k : ℕ) (d : Gate) (a : ℕ) → k < length gates
    → needed outs (wire + k) (drop k gates) a ≡ (needed outs (wire + suc k) (drop (suc k) gates) a || (reads (get_or gates k d) a && needed outs (wire + suc k) (drop (suc k) gates) (wire + k)))
needed_back outs wire gates k d a l =
    let z : wire + k + 1 ≡ wire + suc k = omega arith in
    ap (λ gs. needed outs (wire + k) gs a) (drop_get gates k d l)
    ∙ ap (λ w. needed outs w (drop (suc k) gates) a || (reads (get_or gates k d) a && needed outs w (drop (suc k) gates) (wire + k))) z

with_true : (b r o : Bool) → o ≡ true → (b || r) ≡ (b || (r && o))
with_true true r o e = refl
with_true false true o e = sym e
with_true false false o e = refl

with_false : (b r o : Bool) → o ≡ false → b ≡ (b || (r && o))
with_false true r o e = refl
with_false false true o e = sym e
with_false false false o e = refl

-- these marks are those of what is needed from the gate i on
abbrev pub AreNeeded : (ℕ → Bool) → ℕ → List Gate → List Bool → ℕ → Type 0
AreNeeded outs wire gates marks i = (a : ℕ) → a < wire + length gates → get_or marks a false ≡ needed outs (wire + i) (drop i gates) a

back_marked : (outs : ℕ → Bool) (wire : ℕ) (gates : List Gate) (marks new : List Bool) (k : ℕ) (d : Gate) → k < length gates → AreNeeded outs wire gates marks (suc k) → get_or marks (wire + k) false ≡ true
    → ((a : ℕ) → a < wire + length gates → get_or new a false ≡ (get_or marks a false || reads (get_or gates k d) a)) → AreNeeded outs wire gates new k
back_marked outs wire gates marks new k d l h own more a la =
    let is = sym (h (wire + k) (omega (arith, l))) ∙ own in
    more a la ∙ ap (λ b. b || reads (get_or gates k d) a) (h a la)
    ∙ with_true (needed outs (wire + suc k) (drop (suc k) gates) a) (reads (get_or gates k d) a) (needed outs (wire + suc k) (drop (suc k) gates) (wire + k)) is
    ∙ sym (needed_back outs wire gates k d a l)

back_unmarked : (outs : ℕ → Bool) (wire : ℕ) (gates : List Gate) (marks : List Bool) (k : ℕ) (d : Gate) → k < length gates → AreNeeded outs wire gates marks (suc k) → get_or marks (wire + k) false ≡ false → AreNeeded outs wire gates marks k
back_unmarked outs wire gates marks k d l h own a la =
    let is = sym (h (wire + k) (omega (arith, l))) ∙ own in
    h a la
    ∙ with_false (needed outs (wire + suc k) (drop (suc k) gates) a) (reads (get_or gates k d) a) (needed outs (wire + suc k) (drop (suc k) gates) (wire + k)) is
    ∙ sym (needed_back outs wire gates k d a l)

next : (outs : ℕ → Bool) (wire : ℕ) (gates : List Gate) (marks : List Bool) (i : ℕ) → 0 < i → AreNeeded outs wire gates marks i → AreNeeded outs wire gates marks (suc (i - 1))
next outs wire gates marks i p h = let q : suc (i - 1) ≡ i = omega (arith, p) in rw q h

pub step_marked : (outs : ℕ → Bool) (wire : ℕ) (gates : List Gate) (marks new : List Bool) (i : ℕ) (d : Gate) → 0 < i → i ≤ length gates → AreNeeded outs wire gates marks i → get_or marks (wire + (i - 1)) false ≡ true
    → ((a : ℕ) → a < wire + length gates → get_or new a false ≡ (get_or marks a false || reads (get_or gates (i - 1) d) a)) → AreNeeded outs wire gates new (i - 1)
step_marked outs wire gates marks new i d p l h own more = back_marked outs wire gates marks new (i - 1) d (omega (arith, p, l)) (next outs wire gates marks i p h) own more

pub step_unmarked : (outs : ℕ → Bool) (wire : ℕ) (gates : List Gate) (marks : List Bool) (i : ℕ) (d : Gate) → 0 < i → i ≤ length gates → AreNeeded outs wire gates marks i → get_or marks (wire + (i - 1)) false ≡ false → AreNeeded outs wire gates marks (i - 1)
step_unmarked outs wire gates marks i d p l h own = back_unmarked outs wire gates marks (i - 1) d (omega (arith, p, l)) (next outs wire gates marks i p h) own
