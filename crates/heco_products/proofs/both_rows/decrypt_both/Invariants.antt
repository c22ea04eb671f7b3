use Rattle.std.proofs.Common.{◌≡◌, ◌++◌, drop}
use Rattle.std.specs.Prelude.{All}
use Rattle.heco_scheme.specs.Ciphertexts.{IsCiphertext}
use Rattle.heco_products.specs.Decrypting.{decrypted_wires}
use Rattle.heco_slots.specs.Rows.{first_row, second_row}
use Rattle.heco_products.proofs.both_rows.decrypt_both.Given as goal

abbrev pub invariant-loop-wire : goal.invariant-loop-wire
invariant-loop-wire l = record {
  preset : l.scratch.preset ≡ l.key.preset;
  ciphertexts : All (IsCiphertext l.key.preset.n) l.left;
  first : l.first ++ decrypted_wires l.key.preset first_row l.key.places (drop l.wire-index l.wires) l.left ≡ decrypted_wires l.key.preset first_row l.key.places l.wires l.results;
  second : l.second ++ decrypted_wires l.key.preset (second_row l.key.preset) l.key.places (drop l.wire-index l.wires) l.left ≡ decrypted_wires l.key.preset (second_row l.key.preset) l.key.places l.wires l.results;
}
