-- What reading and writing files of ciphertexts say, in the words of the public calls.
use Rattle.std.proofs.Common.{◌≡◌, ℕ, ◌^◌, ◌<◌, ◌≤◌, List, ◌++◌, length, Result, Ok, Err, refl, sym, ap, subst, ◌∙◌}
use Rattle.std.specs.Prelude.{IfOk}
use Rattle.std.specs.Int.{w32, to_be_bytes}
use Rattle.heco_fields.specs.Formats.{header_text}
use Rattle.heco_fields.proofs.Laws.{IsBytes}
use Rattle.heco_lists.specs.declared.error.FileErr.{FileErr}
use Rattle.heco_key_files.specs.Judging.{Answers}
use Rattle.heco_key_files.proofs.Judged.{value_is}
use Rattle.heco_ciphertext_files.specs.Counted.{counted_as, NamesCount}
use Rattle.heco_ciphertext_files.specs.CiphertextFiles.{ciphertexts, ciphertexts_text, file_text, AreCiphertexts}
use Rattle.heco_ciphertext_files.proofs.CiphertextLaws.{ciphertexts_law}
use Rattle.heco_ciphertext_files.proofs.Counted.{counted_text, spelled, only, text_file, counts_same}

-- the count in the file is that of the list
text_is : (magic : List ℕ) (id n want : ℕ) (cs : List (List (List ℕ))) → AreCiphertexts n want cs → counted_text magic id want ciphertexts_text cs ≡ file_text magic id cs
unfolding file_text
text_is magic id n want cs are = ap (λ m. header_text magic id ++ (to_be_bytes w32 m ++ ciphertexts_text cs)) (sym are.count)

spelled_is : {X : Type 0} (view : X → List (List (List ℕ))) (magic : List ℕ) (id n want : ℕ) (bytes : List ℕ) (r : Result X FileErr) → IfOk r (λ x. AreCiphertexts n want (view x) × (bytes ≡ counted_text magic id want ciphertexts_text (view x))) → IfOk r (λ x. AreCiphertexts n want (view x) × (bytes ≡ file_text magic id (view x)))
spelled_is view magic id n want bytes (Ok x) h = (h.0, h.1 ∙ text_is magic id n want (view x) h.0)
spelled_is view magic id n want bytes (Err e) h = tt

pub spelled_file : {X : Type 0} (view : X → List (List (List ℕ))) (magic : List ℕ) (id n want : ℕ) (bytes : List ℕ) (r : Result X FileErr) → IsBytes bytes → Answers view r (counted_as magic id want (ciphertexts n want) bytes) → IfOk r (λ x. AreCiphertexts n want (view x) × (bytes ≡ file_text magic id (view x)))
spelled_file view magic id n want bytes r fits a = spelled_is view magic id n want bytes r (spelled view magic id want (ciphertexts n want) ciphertexts_text (AreCiphertexts n want) (ciphertexts_law n want) bytes r fits a)

pub only_file : {X : Type 0} (view : X → List (List (List ℕ))) (magic : List ℕ) (id n want : ℕ) (bytes : List ℕ) (r : Result X FileErr) → Answers view r (counted_as magic id want (ciphertexts n want) bytes) → (cs : List (List (List ℕ))) → 1 ≤ id → id ≤ 5 → want < 2 ^ 32 → AreCiphertexts n want cs → bytes ≡ file_text magic id cs → Answers view r (Ok cs)
only_file view magic id n want bytes r a cs low high few are text =
    only view magic id want (ciphertexts n want) ciphertexts_text (AreCiphertexts n want) (ciphertexts_law n want) bytes r a cs low high few are (text ∙ sym (text_is magic id n want cs are))

back_text : (magic : List ℕ) (id n want : ℕ) (cs : List (List (List ℕ))) → 1 ≤ id → id ≤ 5 → want < 2 ^ 32 → AreCiphertexts n want cs → counted_as magic id want (ciphertexts n want) (file_text magic id cs) ≡ Ok cs
back_text magic id n want cs low high few are =
    ap (counted_as magic id want (ciphertexts n want)) (sym (text_is magic id n want cs are)) ∙ text_file magic id want (ciphertexts n want) ciphertexts_text (AreCiphertexts n want) (ciphertexts_law n want) cs low high few are

pub back_file : {E : Type 0} (magic : List ℕ) (id n : ℕ) (cs : List (List (List ℕ))) (r : Result (List ℕ) E) → 1 ≤ id → id ≤ 5 → IfOk r (λ bytes. bytes ≡ file_text magic id cs) → length cs < 2 ^ 32 → AreCiphertexts n (length cs) cs → IfOk r (λ bytes. counted_as magic id (length cs) (ciphertexts n (length cs)) bytes ≡ Ok cs)
back_file magic id n cs (Ok bytes) low high text few are = ap (counted_as magic id (length cs) (ciphertexts n (length cs))) text ∙ back_text magic id n (length cs) cs low high few are
back_file magic id n cs (Err e) low high text few are = tt

names_count : (magic : List ℕ) (id : ℕ) (cs : List (List (List ℕ))) → length cs < 2 ^ 32 → NamesCount magic id (length cs) (file_text magic id cs)
unfolding file_text
names_count magic id cs few = record { rest = ciphertexts_text cs; parts = refl; fits = few }

-- lists that share a file are one
one_list : (magic : List ℕ) (id n : ℕ) (a b : List (List (List ℕ))) → 1 ≤ id → id ≤ 5 → length a < 2 ^ 32 → length b < 2 ^ 32 → AreCiphertexts n (length a) a → AreCiphertexts n (length b) b → file_text magic id a ≡ file_text magic id b → a ≡ b
one_list magic id n a b low high a_few b_few a_are b_are same =
    let others = subst (λ t. NamesCount magic id (length b) t) (sym same) (names_count magic id b b_few) in
    let equal : length b ≡ length a = counts_same magic (file_text magic id a) id (length a) (length b) low high (names_count magic id a a_few) others in
    let b_too : AreCiphertexts n (length a) b = subst (λ m. AreCiphertexts n m b) equal b_are in
    value_is a b (sym (back_text magic id n (length a) a low high a_few a_are) ∙ ap (counted_as magic id (length a) (ciphertexts n (length a))) same ∙ back_text magic id n (length a) b low high a_few b_too)

pub own_file : {E : Type 0} (magic : List ℕ) (id n : ℕ) (a : List (List (List ℕ))) (r : Result (List ℕ) E) → 1 ≤ id → id ≤ 5 → IfOk r (λ bytes. bytes ≡ file_text magic id a) → length a < 2 ^ 32 → AreCiphertexts n (length a) a → (b : List (List (List ℕ))) → length b < 2 ^ 32 → AreCiphertexts n (length b) b → IfOk r (λ bytes. bytes ≡ file_text magic id b → a ≡ b)
own_file magic id n a (Ok bytes) low high text a_few a_are b b_few b_are = λ other. one_list magic id n a b low high a_few b_few a_are b_are (sym text ∙ other)
own_file magic id n a (Err e) low high text a_few a_are b b_few b_are = tt
