-- How long the texts of lists are.
use Rattle.std.proofs.Common.{◌≡◌, ℕ, ◌*◌, List, [], ◌∷◌, length, refl, ap, ◌∙◌, arith}
use Rattle.std.specs.Prelude.{ℤ}
use Rattle.std.specs.List.{flat_map, All}
use Rattle.std.specs.Int.{w64, to_be_bytes}
use Rattle.std.proofs.lemmas.List.{length-append}
use Rattle.std.proofs.lemmas.List.Elements.{All-head, All-tail}
use Rattle.std.proofs.lemmas.List.Concat.{flat_map-cons}
use Rattle.heco_lists.specs.ListFormat.{byte_text, bytes_text, words_text}

pub length_each : {A : Type 0} (f : A → List ℕ) (w : ℕ) (xs : List A) → All (λ x. length (f x) ≡ w) xs → length (flat_map f xs) ≡ w * length xs
length_each f w [] h = omega arith
length_each {A = A} f w (x ∷ xs) h =
    let one = All-head (λ (y : A). length (f y) ≡ w) x xs h in
    let others = length_each f w xs (All-tail (λ (y : A). length (f y) ≡ w) x xs h) in
    ap length (flat_map-cons f x xs) ∙ length-append (f x) (flat_map f xs) ∙ grind (arith, one, others)

pub length_bytes : (zs : List ℤ) → length (bytes_text zs) ≡ length zs
unfolding bytes_text
length_bytes zs = length_each byte_text 1 zs (λ k d lt. refl) ∙ omega arith

pub length_words : (xs : List ℕ) → length (words_text xs) ≡ 8 * length xs
unfolding words_text
length_words xs = length_each (to_be_bytes w64) 8 xs (λ k d lt. refl)
