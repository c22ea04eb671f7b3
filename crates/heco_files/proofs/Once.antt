-- Each file is read as one thing alone, and no file that is read is longer than stated.
use Rattle.std.proofs.Common.{◌≡◌, ◌≤◌, ◌<◌, ◌+◌, ◌∙◌, ℕ, List, [], ◌++◌, ◌*◌, length, append_assoc, refl, sym, ap, arith}
use Rattle.std.specs.Prelude.{codes, ℤ}
use Rattle.std.specs.Int.{w32, to_be_bytes}
use Rattle.std.proofs.lemmas.List.{append_cancel_left, length-append}
use Rattle.heco_fields.specs.Formats.{Format, header_text}
use Rattle.heco_fields.specs.Readings.{reading, judged}
use Rattle.heco_fields.proofs.FieldLaws.{wide32}
use Rattle.heco_fields.proofs.FileLaws.{text_judged}
use Rattle.heco_fields.proofs.Laws.{Law, ok_is}
use Rattle.heco_nums.specs.MaterialBounds.{IsSparse}
use Rattle.heco_lists.specs.ListFormat.{sparse, bytes_text}
use Rattle.heco_lists.proofs.ListLaws.{sparse_law}
use Rattle.heco_key_files.specs.KeyFiles.{EvalLists, AreEvalLists, evaluation, eval_text, lists_text, secret_text}
use Rattle.heco_key_files.proofs.EvalLaws.{evaluation_law}
use Rattle.heco_ciphertext_files.specs.CiphertextFiles.{AreCiphertexts, ciphertexts, ciphertexts_text, file_text}
use Rattle.heco_ciphertext_files.proofs.CiphertextLaws.{ciphertexts_law}
use Rattle.heco_files.specs.Lengths.{secret_length, longest_evaluation, ciphertexts_length}
use Rattle.heco_files.proofs.Cuts.{header_long}
use Rattle.heco_files.proofs.Lengths.{spans_sparse, spans_evaluation, spans_ciphertexts}
use Rattle.heco_files.proofs.Spans.{Any, text_short}

-- two values with one text behind one front
one_behind : {A : Type 0} (f : Format A) (spell : A → List ℕ) (Fits : A → Type 0) (front : List ℕ) (x y : A) → Law f spell Fits → Fits x → Fits y → front ++ spell x ≡ front ++ spell y → x ≡ y
one_behind f spell Fits front x y law hx hy same =
    let text : spell x ≡ spell y = append_cancel_left front (spell x) (spell y) same in
    ok_is x y (sym (text_judged f spell Fits law x hx) ∙ ap (λ t. judged t [] (reading f t)) text ∙ text_judged f spell Fits law y hy)

-- ---- secret key

pub secret_once : (n h id : ℕ) (s r : List ℤ) → IsSparse n h s → IsSparse n h r → secret_text id s ≡ secret_text id r → s ≡ r
unfolding secret_text
secret_once n h id s r hs hr same = one_behind (sparse n h) bytes_text (IsSparse n h) (header_text (codes "HSEC") id) s r (sparse_law n h) hs hr same

pub secret_short : (n h id : ℕ) (s : List ℤ) → IsSparse n h s → length (secret_text id s) ≤ secret_length n
unfolding secret_text
secret_short n h id s fits =
    omega (arith, length-append (header_text (codes "HSEC") id) (bytes_text s), header_long (codes "HSEC") id refl, text_short n Any (sparse n h) bytes_text (IsSparse n h) s (sparse_law n h) (spans_sparse n h) fits)

-- ---- evaluation key

pub evaluation_once : (n slots id : ℕ) (e f : EvalLists) → 0 < slots → slots ≤ 65536 → AreEvalLists n slots e → AreEvalLists n slots f → eval_text id e ≡ eval_text id f → e ≡ f
unfolding eval_text
evaluation_once n slots id e f pos small he hf same = one_behind (evaluation n slots) lists_text (AreEvalLists n slots) (header_text (codes "HEVA") id) e f (evaluation_law n slots pos small) he hf same

pub evaluation_short : (n slots id : ℕ) (e : EvalLists) → 0 < slots → slots ≤ 65536 → AreEvalLists n slots e → length (eval_text id e) ≤ longest_evaluation n slots
unfolding eval_text
evaluation_short n slots id e pos small fits =
    omega (arith, length-append (header_text (codes "HEVA") id) (lists_text e), header_long (codes "HEVA") id refl, text_short _ Any (evaluation n slots) lists_text (AreEvalLists n slots) e (evaluation_law n slots pos small) (spans_evaluation n slots pos) fits)

-- ---- ciphertexts

abbrev front_of : List ℕ → ℕ → ℕ → List ℕ
front_of magic id count = header_text magic id ++ to_be_bytes w32 count

counted_text : (magic : List ℕ) (id count : ℕ) (cs : List (List (List ℕ))) → length cs ≡ count → file_text magic id cs ≡ front_of magic id count ++ ciphertexts_text cs
unfolding file_text
counted_text magic id count cs long = sym (append_assoc (header_text magic id) (to_be_bytes w32 (length cs)) (ciphertexts_text cs)) ∙ ap (λ k. (header_text magic id ++ to_be_bytes w32 k) ++ ciphertexts_text cs) long

pub ciphertexts_once : (magic : List ℕ) (n id count : ℕ) (cs ds : List (List (List ℕ))) → AreCiphertexts n count cs → AreCiphertexts n count ds → file_text magic id cs ≡ file_text magic id ds → cs ≡ ds
ciphertexts_once magic n id count cs ds hc hd same =
    one_behind (ciphertexts n count) ciphertexts_text (AreCiphertexts n count) (front_of magic id count) cs ds (ciphertexts_law n count) hc hd
    (sym (counted_text magic id count cs hc.count) ∙ same ∙ counted_text magic id count ds hd.count)

pub ciphertexts_short : (magic : List ℕ) (n id count : ℕ) (cs : List (List (List ℕ))) → length magic ≡ 4 → AreCiphertexts n count cs → length (file_text magic id cs) ≤ ciphertexts_length n count
ciphertexts_short magic n id count cs four fits =
    let front : length (front_of magic id count) ≡ 10 = length-append (header_text magic id) (to_be_bytes w32 count) ∙ ap (λ k. k + length (to_be_bytes w32 count)) (header_long magic id four) ∙ ap (λ k. 6 + k) (wide32.len count) in
    omega (arith, ap length (counted_text magic id count cs fits.count), length-append (front_of magic id count) (ciphertexts_text cs), front, text_short (16 * n * count) Any (ciphertexts n count) ciphertexts_text (AreCiphertexts n count) cs (ciphertexts_law n count) (spans_ciphertexts n count) fits)
