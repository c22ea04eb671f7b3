-- Reading so many values one after the other, as a loop does.
use Rattle.std.proofs.Common.{◌≡◌, ℕ, suc, ◌-◌, ◌+◌, ◌≤◌, ◌<◌, List, [], ◌∷◌, ◌++◌, Ok, Err, refl, sym, ap, ◌∙◌, append_assoc, arith}
use Rattle.std.proofs.lemmas.List.{append-nil}
use Rattle.heco_fields.specs.declared.fault.Fault.{Fault}
use Rattle.heco_fields.specs.declared.fault.Fault.TheVariants.{Broken, Memory}
use Rattle.heco_fields.specs.Formats.{Format, Value, many, ◌>>=◌ as ◌then◌}
use Rattle.heco_fields.specs.Readings.{Reading, reading, ◌>>=◌, Fails, with_front}
use Rattle.heco_nums.specs.Runs.{along}
use Rattle.heco_fields.proofs.Steps.{reading_then}

pub along_push : {S A : Type 0} (next : S → A → S) (s : S) (xs : List A) (x : A) → along next s (xs ++ x ∷ []) ≡ next (along next s xs) x
along_push next s [] x = refl
along_push next s (y ∷ xs) x = along_push next (next s y) xs x

regroup : {A : Type 0} (front : List A) (x : A) (read : Reading (List A)) → with_front front (read >>= λ y. Ok (x ∷ y.0, y.1)) ≡ with_front (front ++ x ∷ []) read
regroup front x (Ok y) = ap (λ xs. Ok (xs, y.1)) (sym (append_assoc front (x ∷ []) y.0))
regroup front x (Err left) = refl

-- the others behind a value
behind : {S A : Type 0} (format : S → Format A) (next : S → A → S) (n : ℕ) (s : S) (r : Reading A)
    → (r >>= λ x. reading (many format next n (next s x.0) then λ ys. Value (x.0 ∷ ys)) x.1) ≡ (r >>= λ x. reading (many format next n (next s x.0)) x.1 >>= λ xs. Ok (x.0 ∷ xs.0, xs.1))
unfolding reading
behind {A = A} format next n s (Ok x) = reading_then (many format next n (next s x.0)) (λ (ys : List A). Value (x.0 ∷ ys)) x.1
behind format next n s (Err left) = refl

-- one value and then the others
pub many_step : {S A : Type 0} (format : S → Format A) (next : S → A → S) (n : ℕ) (s : S) (bytes : List ℕ)
    → reading (many format next (suc n) s) bytes ≡ (reading (format s) bytes >>= λ x. reading (many format next n (next s x.0)) x.1 >>= λ xs. Ok (x.0 ∷ xs.0, xs.1))
unfolding many
many_step {A = A} format next n s bytes =
    reading_then (format s) (λ (x : A). many format next n (next s x) then λ ys. Value (x ∷ ys)) bytes ∙ behind format next n s (reading (format s) bytes)

pub goes_on : {S A : Type 0} (format : S → Format A) (next : S → A → S) (front : List A) (count i : ℕ) (s : S) (bytes : List ℕ) (x : A) (rest : List ℕ) (total : Reading (List A)) → i < count → reading (format s) bytes ≡ Ok (x, rest)
    → with_front front (reading (many format next (count - i) s) bytes) ≡ total → with_front (front ++ x ∷ []) (reading (many format next (count - (i + 1)) (next s x)) rest) ≡ total
goes_on format next front count i s bytes x rest total lt h so_far =
    let k : count - i ≡ suc (count - (i + 1)) = omega arith in
    let one : with_front front (reading (many format next (count - i) s) bytes) ≡ with_front (front ++ x ∷ []) (reading (many format next (count - (i + 1)) (next s x)) rest) =
    rw (k, many_step format next (count - (i + 1)) s bytes, h) (regroup front x (reading (many format next (count - (i + 1)) (next s x)) rest)) in
    sym one ∙ so_far

pub fails : {S A : Type 0} (e : Fault) (format : S → Format A) (next : S → A → S) (front : List A) (count i : ℕ) (s : S) (bytes : List ℕ) (total : Reading (List A)) → i < count → Fails e (reading (format s) bytes)
    → with_front front (reading (many format next (count - i) s) bytes) ≡ total → Fails e total
fails Memory format next front count i s bytes total lt h so_far = tt
fails (Broken left) format next front count i s bytes total lt h so_far =
    let k : count - i ≡ suc (count - (i + 1)) = omega arith in
    let one : with_front front (reading (many format next (count - i) s) bytes) ≡ Err left = rw (k, many_step format next (count - (i + 1)) s bytes, h) refl in
    sym so_far ∙ one

pub is_done : {S A : Type 0} (format : S → Format A) (next : S → A → S) (front : List A) (count i : ℕ) (s : S) (bytes : List ℕ) (total : Reading (List A)) → count ≤ i
    → with_front front (reading (many format next (count - i) s) bytes) ≡ total → total ≡ Ok (front, bytes)
unfolding many reading
is_done format next front count i s bytes total le so_far =
    let k : count - i ≡ 0 = omega arith in
    let one : with_front front (reading (many format next (count - i) s) bytes) ≡ Ok (front, bytes) = rw k (ap (λ xs. Ok (xs, bytes)) (append-nil front)) in
    sym so_far ∙ one

pub begins : {A : Type 0} (read : Reading (List A)) → with_front [] read ≡ read
begins (Ok x) = refl
begins (Err left) = refl
