use Rattle.std.proofs.Common.{◌≡◌, ◌++◌, take}
use Rattle.std.specs.List.{flat_map}
use Rattle.heco_ciphertext_files.specs.CiphertextFiles.{ciphertext_text}
use Rattle.heco_ciphertext_files.proofs.writing.put_ciphertexts.Given as goal

abbrev pub invariant-loop-c : goal.invariant-loop-c
invariant-loop-c l = l.out ≡ l.fn.out ++ flat_map ciphertext_text (take l.c-index l.cs)
