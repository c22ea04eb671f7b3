-- Two tests that agree on the wires keep the same gates.
use Rattle.std.proofs.Common.{◌≡◌, ℕ, ◌+◌, ◌<◌, ◌≤◌, List, [], ◌∷◌, length, replicate, refl, ap, ◌∙◌, arith, Bool, true, false, ◌||◌}
use Rattle.std.proofs.lemmas.List.{length-replicate, get_or-replicate}
use Rattle.std.specs.List.{range_with_len}
use Rattle.std.proofs.lemmas.List.FromFn.{length-range_with_len}
use Rattle.heco_nums.specs.Runs.{along}
use Rattle.heco_circuit.specs.declared.gate.Gate.{Gate}
use Rattle.heco_rewrites.specs.Needed.{Kept, kept, kept_where, needed}
use Rattle.heco_rewrites.specs.Dropping.{needed_gates}
use Rattle.heco_rewrites.proofs.Named.{longer}
use Rattle.heco_peep.specs.inside.Dropped.{is_marked, sieve}

names_more : (count : ℕ) (s : Kept) (g : Gate) (b : Bool) → length (kept_where count s g b).names ≡ length s.names + 1
names_more count s g true = longer s.names (count + length s.gates)
names_more count s g false = longer s.names 0

same_kept : (f g : ℕ → Bool) (count : ℕ) (s : Kept) (gates : List Gate) → ((a : ℕ) → length s.names ≤ a → a < length s.names + length gates → f a ≡ g a) → along (kept f count) s gates ≡ along (kept g count) s gates
same_kept f g count s [] h = refl
same_kept f g count s (x ∷ gates) h =
    let one : kept f count s x ≡ kept g count s x = ap (kept_where count s x) (h (length s.names) (omega arith) (omega arith)) in
    let m = names_more count s x (g (length s.names)) in
    ap (λ k. along (kept f count) k gates) one ∙ same_kept f g count (kept g count s x) gates (λ a low high. h a (omega (arith, low, m)) (omega (arith, high, m)))

-- so the gates of the wires that are needed are sieved by their marks
pub sieved_needed : (outs : ℕ → Bool) (marks : List Bool) (count : ℕ) (gates : List Gate) → ((a : ℕ) → a < count + length gates → is_marked marks a ≡ needed outs count gates a) → sieve marks count gates ≡ needed_gates outs count gates
sieved_needed outs marks count gates h =
    let n = length-range_with_len 0 count in
    same_kept (is_marked marks) (needed outs count gates) count (record { gates = []; names = range_with_len 0 count }) gates (λ a low high. h a (omega (arith, high, n)))

-- what is needed depends on the wires that there are alone
pub needed_same : (f g : ℕ → Bool) (n wire : ℕ) (gates : List Gate) → wire + length gates ≡ n → ((a : ℕ) → a < n → f a ≡ g a) → (a : ℕ) → a < n → needed f wire gates a ≡ needed g wire gates a
needed_same f g n wire [] e h a l = h a l
needed_same f g n wire (x ∷ gates) e h a l =
    let one = needed_same f g n (wire + 1) gates (omega (arith, e)) h a l in
    let own = needed_same f g n (wire + 1) gates (omega (arith, e)) h wire (omega (arith, e)) in
    rw (one, own) refl

-- marks of the outputs' wires, and then of all that is needed
pub sieved_marks : (outs : ℕ → Bool) (count : ℕ) (gates : List Gate) (fresh first second : List Bool) → fresh ≡ replicate (count + length gates) false → length first ≡ length fresh
    → ((a : ℕ) → a < length fresh → is_marked first a ≡ (is_marked fresh a || outs a)) → ((a : ℕ) → a < length first → is_marked second a ≡ needed (is_marked first) count gates a)
    → sieve second count gates ≡ needed_gates outs count gates
sieved_marks outs count gates fresh first second blank long one two =
    let n : ℕ = count + length gates in
    let k : length fresh ≡ n = ap length blank ∙ length-replicate n false in
    let none : (a : ℕ) → a < n → is_marked fresh a ≡ false = (λ a l. ap (λ xs. is_marked xs a) blank ∙ get_or-replicate n a false false l) in
    let same : (a : ℕ) → a < n → is_marked first a ≡ outs a = (λ a l. one a (omega (arith, k, l)) ∙ ap (λ b. b || outs a) (none a l)) in
    sieved_needed outs second count gates (λ a l. two a (omega (arith, k, l, long)) ∙ needed_same (is_marked first) outs n count gates refl same a l)
