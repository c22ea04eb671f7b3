use Rattle.heco_material.specs.KeyLists.{lists_of, IsKeyMaterial}
use Rattle.heco_material.specs.KeyFormat.{keys, keys_text, keys_length}
use Rattle.heco_material.proofs.KeyLaws.{keys_law, keys_long}
use Rattle.heco_material.proofs.Answered.{read_back, own_text}
use Rattle.heco_material.proofs.PresetErrors.{small_error}
use Rattle.heco_material.proofs.writing.write_keys.Goals as goal

pub returns-clause-back : goal.returns-clause-back
returns-clause-back c = λ count.
    let p = c.args.k.now.preset in
    read_back (keys p.n p.h p.b count) (keys_length p.n count) keys_text (IsKeyMaterial p.n p.h p.b count) (keys_law p.n p.h p.b count (small_error p)) (keys_long p.n p.h p.b count) (lists_of c.args.k.now) c.key_file.result c.key_file.ensures

pub returns-clause-own : goal.returns-clause-own
returns-clause-own c = λ count.
    let p = c.args.k.now.preset in
    own_text (keys p.n p.h p.b count) keys_text (IsKeyMaterial p.n p.h p.b count) (keys_law p.n p.h p.b count (small_error p)) (lists_of c.args.k.now) c.key_file.result c.key_file.ensures
