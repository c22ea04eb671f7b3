use Rattle.std.proofs.Common.{◌≡◌, ◌++◌, length, drop}
use Rattle.std.specs.Prelude.{All}
use Rattle.heco_key_files.specs.KeyFiles.{lists_of}
use Rattle.heco_products.specs.Encrypting.{encrypted_pairs}
use Rattle.heco_products.proofs.encrypting_pairs.encrypt_pairs.Given as goal

abbrev pub invariant-loop-i : goal.invariant-loop-i
invariant-loop-i l = record {
  two : All (λ c. length c ≡ 2) l.list.items;
  formula : l.list.items ++ encrypted_pairs l.key.preset (lists_of l.key) (drop l.i l.material.rows) (drop l.i l.first) (drop l.i l.second) ≡ encrypted_pairs l.key.preset (lists_of l.key) l.material.rows l.first l.second;
}
