use Rattle.heco_material.specs.KeyLists.{IsEncMaterial}
use Rattle.heco_material.specs.EncFormat.{encryptions, encryptions_text, encryptions_length}
use Rattle.heco_material.proofs.EncLaws.{encryptions_law, encryptions_long}
use Rattle.heco_material.proofs.Answered.{read_back, own_text}
use Rattle.heco_material.proofs.PresetErrors.{small_error}
use Rattle.heco_material.proofs.writing.write_enc.Goals as goal

pub returns-clause-back : goal.returns-clause-back
returns-clause-back c = λ count.
    let p = c.args.w.now.preset in
    read_back (encryptions p.n p.h p.b count) (encryptions_length p.n count) encryptions_text (IsEncMaterial p.n p.h p.b count) (encryptions_law p.n p.h p.b count (small_error p)) (encryptions_long p.n p.h p.b count) c.args.w.now.rows c.enc_file.result c.enc_file.ensures

pub returns-clause-own : goal.returns-clause-own
returns-clause-own c = λ count.
    let p = c.args.w.now.preset in
    own_text (encryptions p.n p.h p.b count) encryptions_text (IsEncMaterial p.n p.h p.b count) (encryptions_law p.n p.h p.b count (small_error p)) c.args.w.now.rows c.enc_file.result c.enc_file.ensures
