-- What is read of ciphertexts is what was spelled, for exactly the ciphertexts of two parts of n words.
use Rattle.std.proofs.Common.{◌≡◌, ℕ, List, [], ◌∷◌, ◌++◌, length, refl, sym, ap, arith}
use Rattle.std.specs.List.{All}
use Rattle.std.proofs.lemmas.List.{append-nil}
use Rattle.std.proofs.lemmas.List.Elements.{All-nil, All-cons, All-head, All-tail}
use Rattle.heco_fields.specs.Formats.{Value, ◌>>=◌ as ◌then◌}
use Rattle.heco_fields.proofs.Laws.{Law, then_law, last_law, same_law}
use Rattle.heco_fields.proofs.ManyLaws.{each_law}
use Rattle.heco_nums.specs.MaterialBounds.{AreWords}
use Rattle.heco_lists.specs.ListFormat.{words, words_text}
use Rattle.heco_lists.proofs.ListLaws.{words_law}
use Rattle.heco_ciphertext_files.specs.CiphertextFiles.{ciphertext, ciphertexts, ciphertext_text, ciphertexts_text, IsTwoParts, AreCiphertexts}

-- the parts as they stand in the file
abbrev first_of : List (List ℕ) → List ℕ
first_of [] = []
first_of (a ∷ c) = a

abbrev second_of : List (List ℕ) → List ℕ
second_of [] = []
second_of (a ∷ c) = first_of c

abbrev Second : ℕ → List ℕ → List (List ℕ) → Type 0
Second n a c = AreWords n (second_of c) × ((a ∷ second_of c ∷ []) ≡ c)

two_parts : (n : ℕ) (c : List (List ℕ)) → AreWords n (first_of c) × Second n (first_of c) c → IsTwoParts n c
two_parts n [] h = absurd (let e = h.1.1 in cc)
two_parts n (a ∷ []) h = absurd (let e = h.1.1 in cc)
two_parts n (a ∷ b ∷ []) h = record { two = refl; parts = All-cons (AreWords n) a (b ∷ []) h.0 (All-cons (AreWords n) b [] h.1.0 (All-nil (AreWords n))) }
two_parts n (a ∷ b ∷ d ∷ c) h = absurd (let e = h.1.1 in cc)

are_parts : (n : ℕ) (c : List (List ℕ)) → IsTwoParts n c → AreWords n (first_of c) × Second n (first_of c) c
are_parts n [] h = absurd (let e = h.two in omega arith)
are_parts n (a ∷ []) h = absurd (let e = h.two in omega arith)
are_parts n (a ∷ b ∷ []) h = (All-head (AreWords n) a (b ∷ []) h.parts, (All-head (AreWords n) b [] (All-tail (AreWords n) a (b ∷ []) h.parts), refl))
are_parts n (a ∷ b ∷ d ∷ c) h = absurd (let e = h.two in omega arith)

same_text : (n : ℕ) (c : List (List ℕ)) → AreWords n (first_of c) × Second n (first_of c) c → words_text (first_of c) ++ words_text (second_of c) ≡ ciphertext_text c
unfolding ciphertext_text
same_text n [] h = absurd (let e = h.1.1 in cc)
same_text n (a ∷ []) h = absurd (let e = h.1.1 in cc)
same_text n (a ∷ b ∷ []) h = ap (λ t. words_text a ++ t) (sym (append-nil (words_text b)))
same_text n (a ∷ b ∷ d ∷ c) h = absurd (let e = h.1.1 in cc)

ciphertext_law : (n s : ℕ) → Law (ciphertext n s) ciphertext_text (IsTwoParts n)
unfolding ciphertext
ciphertext_law n s =
    same_law (ciphertext n s) (λ c. words_text (first_of c) ++ words_text (second_of c)) ciphertext_text (λ c. AreWords n (first_of c) × Second n (first_of c) c) (IsTwoParts n)
    (then_law (words n) (λ a. words n then λ b. Value (a ∷ b ∷ [])) words_text (λ (c : List (List ℕ)). words_text (second_of c)) (AreWords n) (Second n) first_of (words_law n)
    (λ a _. last_law (words n) (λ b. a ∷ b ∷ []) second_of words_text (AreWords n) (words_law n) (λ b. refl))
    (λ a c h. ap first_of (sym h.1)))
    (same_text n) (two_parts n) (are_parts n)

pub ciphertexts_law : (n count : ℕ) → Law (ciphertexts n count) ciphertexts_text (AreCiphertexts n count)
unfolding ciphertexts ciphertexts_text
ciphertexts_law n count =
    same_law (ciphertexts n count) ciphertexts_text ciphertexts_text (λ cs. (length cs ≡ count) × All (IsTwoParts n) cs) (AreCiphertexts n count)
    (each_law (ciphertext n) ciphertext_text (IsTwoParts n) (ciphertext_law n) count 0)
    (λ cs _. refl) (λ cs h. record { count = h.0; each = h.1 }) (λ cs h. (h.count, h.each))
