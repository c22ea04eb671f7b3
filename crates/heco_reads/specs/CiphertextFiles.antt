-- How a file of ciphertexts is judged, of encrypted inputs or of a result: by a preset and a count alone.
use Rattle.std.specs.Prelude.{◌≡◌, ℕ, List}
use Rattle.heco_ciphertext_files.specs.CiphertextFiles.{AreCiphertexts, ciphertexts, file_text, magic_of}
use Rattle.heco_ciphertext_files.specs.Counted.{HasCountedCause}
use Rattle.heco_ciphertext_files.specs.declared.kind.FileKind.{FileKind}
use Rattle.heco_nums.specs.declared.preset.Preset.{Preset}
use Rattle.heco_jobs.specs.declared.outcome.Refusal.{Refusal}
use Rattle.heco_reads.specs.KeyFiles.{IsFileRefusal}

pub record SpellsCiphertexts (kind : FileKind) (p : Preset) (count : ℕ) (text : List ℕ) (cs : List (List (List ℕ))) : Type 0 where
  pub within : AreCiphertexts p.n count cs
  pub spelled : text ≡ file_text (magic_of kind) p.id cs

abbrev pub IsCiphertextsRefusal : ℕ → FileKind → Preset → ℕ → List ℕ → Refusal → Type 0
IsCiphertextsRefusal k kind p count text refusal = IsFileRefusal k (HasCountedCause (magic_of kind) p.id count (ciphertexts p.n count) text) refusal
