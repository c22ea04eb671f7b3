-- Reading two formats in a row.
use Rattle.std.proofs.Common.{◌≡◌, ℕ, Bool, true, false, cond, ◌&&◌, leb, List, length, take, drop, Err, refl, sym, ap, ◌∙◌}
use Rattle.heco_fields.specs.Formats.{Format, Value, Field, ◌>>=◌ as ◌then◌}
use Rattle.heco_fields.specs.Readings.{Reading, reading, ◌>>=◌}

choose_bind : {A B : Type 0} (b : Bool) (r : Reading A) (left : ℕ) (k : (A × List ℕ) → Reading B) → (cond b r (Err left) >>= k) ≡ cond b (r >>= k) (Err left)
choose_bind true r left k = refl
choose_bind false r left k = refl

-- reading two formats in a row
pub reading_then : {A B : Type 0} (f : Format A) (k : A → Format B) (bytes : List ℕ) → reading (f then k) bytes ≡ (reading f bytes >>= λ x. reading (k x.0) x.1)
unfolding reading ◌then◌
reading_then (Value x) k bytes = refl
reading_then (Field w allowed f) k bytes =
    let b = leb w (length bytes) && allowed (take w bytes) in
    ap (λ r. cond b r (Err (length bytes))) (reading_then (f (take w bytes)) k (drop w bytes)) ∙ sym (choose_bind b (reading (f (take w bytes)) (drop w bytes)) (length bytes) (λ x. reading (k x.0) x.1))
