-- How long each file may be.
use Rattle.std.proofs.Common.{◌≡◌, ◌≤◌, ◌<◌, ◌+◌, ◌-◌, ◌*◌, ℕ, List, length, refl, subst, arith}
use Rattle.std.proofs.Math.Nat.{mul-le-mul_right}
use Rattle.std.specs.Prelude.{codes}
use Rattle.std.specs.Int.{w8, w16, w32, w64}
use Rattle.heco_fields.specs.Formats.{Format, many, within, any, fixed, versioned, header}
use Rattle.heco_nums.specs.Runs.{stays}
use Rattle.heco_lists.specs.ListFormat.{sparse, secret_place, counted, words, word}
use Rattle.heco_key_files.specs.Judging.{whole}
use Rattle.heco_key_files.specs.KeyFiles.{turn, latest, turns, pair, switch_key, evaluation}
use Rattle.heco_ciphertext_files.specs.CiphertextFiles.{ciphertext, ciphertexts}
use Rattle.heco_ciphertext_files.specs.Counted.{whole_counted}
use Rattle.heco_files.specs.Lengths.{secret_length, longest_evaluation, ciphertexts_length}
use Rattle.heco_files.proofs.Spans.{Spans, Any, spans_more, spans_then, spans_field, spans_within, spans_many}

-- a span by its number
spans_at : {A : Type 0} (most other : ℕ) (f : Format A) → most ≡ other → Spans most Any f → Spans other Any f
spans_at most other f e h = subst (λ n. Spans n Any f) e h

-- that the value has something is of no use
drop_has : {A : Type 0} (most : ℕ) (Has : A → Type 0) (f : Format A) → Spans most Has f → Spans most Any f
unfolding Spans
drop_has most Has (Format.Value x) h = tt
drop_has most Has (Format.Field w allowed f) h = (h.0, λ b long ok. drop_has (most - w) Has (f b) (h.1 b long ok))

spans_versioned : (newest : ℕ) (magic : List ℕ) → length magic ≡ 4 → Spans 6 Any (versioned newest magic)
unfolding versioned Spans
spans_versioned newest magic four =
    let first : Spans (length magic) Any (fixed magic) = spans_field (length magic) _ (λ b. b) Any (λ b ok. tt) in
    spans_then (fixed magic) _ 4 2 Any Any (spans_at (length magic) 4 (fixed magic) four first)
    (λ text _. spans_then (within w8 1 newest) _ 1 1 (λ n. n ≤ newest) Any (spans_within w8 1 newest)
    (λ version _. spans_then (within w8 1 5) _ 1 0 (λ n. n ≤ 5) Any (spans_within w8 1 5) (λ preset _. tt)))

spans_header : (magic : List ℕ) → length magic ≡ 4 → Spans 6 Any (header magic)
unfolding header Spans
spans_header magic four = spans_then (versioned 1 magic) _ 6 0 Any Any (spans_versioned 1 magic four) (λ h _. tt)

spans_words : (n : ℕ) → Spans (8 * n) Any (words n)
unfolding words
spans_words n = spans_at (n * 8) (8 * n) _ (omega arith) (drop_has (n * 8) _ _ (spans_many word stays 8 (λ s. drop_has 8 _ _ (spans_within w64 0 288230376151711743)) n 0))

-- ---- secret key

pub spans_sparse : (n h : ℕ) → Spans n Any (sparse n h)
unfolding sparse
spans_sparse n h = spans_at (n * 1) n _ (omega arith) (drop_has (n * 1) _ _ (spans_many (secret_place h) counted 1 (λ s. spans_field 1 _ _ Any (λ b ok. tt)) n 0))

pub secret_spans : (n h : ℕ) → Spans (secret_length n) Any (whole (codes "HSEC") (sparse n h))
unfolding whole
secret_spans n h = spans_then (header (codes "HSEC")) _ 6 n Any Any (spans_header (codes "HSEC") refl) (λ preset _. spans_sparse n h)

-- ---- evaluation key

spans_pair : (n s : ℕ) → Spans (16 * n) Any (pair n s)
unfolding pair Spans
spans_pair n s = spans_at (8 * n + (8 * n + 0)) (16 * n) _ (omega arith)
    (spans_then (words n) _ (8 * n) (8 * n + 0) Any Any (spans_words n) (λ a _. spans_then (words n) _ (8 * n) 0 Any Any (spans_words n) (λ b _. tt)))

spans_switch : (n s : ℕ) → Spans (464 * n) Any (switch_key n s)
unfolding switch_key
spans_switch n s = spans_at (29 * (16 * n)) (464 * n) _ (omega arith) (drop_has (29 * (16 * n)) _ _ (spans_many (pair n) stays (16 * n) (λ s. spans_pair n s) 29 0))

at_most : {A : Type 0} (most n high : ℕ) (f : Format (List A)) → n ≤ high → Spans most (λ xs. length xs ≡ n) f → Spans most (λ xs. length xs ≤ high) f
unfolding Spans
at_most most n high (Format.Value x) le h = omega (arith, h)
at_most most n high (Format.Field w allowed f) le h = (h.0, λ b long ok. at_most (most - w) n high (f b) le (h.1 b long ok))

few_turns : (slots count : ℕ) → count ≤ slots - 1 → Spans (2 * (slots - 1)) (λ rs. length rs ≤ slots - 1) (many (turn slots) latest count 0)
few_turns slots count few =
    spans_more (count * 2) (2 * (slots - 1)) (λ rs. length rs ≤ slots - 1) _ (omega arith)
    (at_most (count * 2) count (slots - 1) _ few (spans_many (turn slots) latest 2 (λ s. drop_has 2 _ _ (spans_within w16 (s + 1) (slots - 1))) count 0))

spans_turns : (slots : ℕ) → Spans (2 + 2 * (slots - 1)) (λ rs. length rs ≤ slots - 1) (turns slots)
unfolding turns
spans_turns slots =
    spans_then (within w16 0 (slots - 1)) _ 2 (2 * (slots - 1)) (λ n. n ≤ slots - 1) (λ rs. length rs ≤ slots - 1) (spans_within w16 0 (slots - 1))
    (λ count few. few_turns slots count few)

spans_switches : (n count slots : ℕ) → count ≤ slots → Spans (464 * n * slots) Any (many (switch_key n) stays count 0)
spans_switches n count slots le =
    spans_more (count * (464 * n)) (464 * n * slots) Any _ (omega (arith, mul-le-mul_right (464 * n) le)) (drop_has (count * (464 * n)) _ _ (spans_many (switch_key n) stays (464 * n) (λ s. spans_switch n s) count 0))

pub spans_evaluation : (n slots : ℕ) → 0 < slots → Spans (3 + 2 * (slots - 1) + 16 * n + 464 * n * slots) Any (evaluation n slots)
unfolding evaluation Spans
spans_evaluation n slots pos =
    spans_at (1 + (2 + 2 * (slots - 1) + (8 * n + (8 * n + (464 * n * slots + 0))))) (3 + 2 * (slots - 1) + 16 * n + 464 * n * slots) _ (omega arith)
    (spans_then (within w8 0 1) _ 1 _ (λ b. b ≤ 1) Any (spans_within w8 0 1)
    (λ relin bit. spans_then (turns slots) _ (2 + 2 * (slots - 1)) _ (λ rs. length rs ≤ slots - 1) Any (spans_turns slots)
    (λ rs few. spans_then (words n) _ (8 * n) _ Any Any (spans_words n)
    (λ p0 _. spans_then (words n) _ (8 * n) _ Any Any (spans_words n)
    (λ p1 _. spans_then (many (switch_key n) stays (relin + length rs) 0) _ (464 * n * slots) 0 Any Any (spans_switches n (relin + length rs) slots (omega arith)) (λ keys _. tt))))))

pub evaluation_spans : (n slots : ℕ) → 0 < slots → Spans (longest_evaluation n slots) Any (whole (codes "HEVA") (evaluation n slots))
unfolding whole
evaluation_spans n slots pos =
    spans_at (6 + (3 + 2 * (slots - 1) + 16 * n + 464 * n * slots)) (longest_evaluation n slots) _ (omega arith)
    (spans_then (header (codes "HEVA")) _ 6 (3 + 2 * (slots - 1) + 16 * n + 464 * n * slots) Any Any (spans_header (codes "HEVA") refl) (λ preset _. spans_evaluation n slots pos))

-- ---- ciphertexts

spans_ciphertext : (n s : ℕ) → Spans (16 * n) Any (ciphertext n s)
unfolding ciphertext Spans
spans_ciphertext n s = spans_at (8 * n + (8 * n + 0)) (16 * n) _ (omega arith)
    (spans_then (words n) _ (8 * n) (8 * n + 0) Any Any (spans_words n) (λ a _. spans_then (words n) _ (8 * n) 0 Any Any (spans_words n) (λ b _. tt)))

pub spans_ciphertexts : (n count : ℕ) → Spans (16 * n * count) Any (ciphertexts n count)
unfolding ciphertexts
spans_ciphertexts n count = spans_at (count * (16 * n)) (16 * n * count) _ (omega arith) (drop_has (count * (16 * n)) _ _ (spans_many (ciphertext n) stays (16 * n) (λ s. spans_ciphertext n s) count 0))

pub ciphertexts_spans : (magic : List ℕ) (n count : ℕ) → length magic ≡ 4 → Spans (ciphertexts_length n count) Any (whole_counted magic (ciphertexts n count))
unfolding whole_counted
ciphertexts_spans magic n count four =
    spans_at (6 + (4 + 16 * n * count)) (ciphertexts_length n count) _ (omega arith)
    (spans_then (header magic) _ 6 (4 + 16 * n * count) Any Any (spans_header magic four)
    (λ preset _. spans_then (any w32) _ 4 (16 * n * count) Any Any (spans_field 4 _ _ Any (λ b ok. tt)) (λ found _. spans_ciphertexts n count)))
