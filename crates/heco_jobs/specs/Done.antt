-- What a job that is done has written and printed, of what it has read.
use Rattle.std.specs.Prelude.{◌≡◌, ℕ, List, [], ◌∷◌, ◌++◌, Some, unwrap_or, if◌then◌else◌}
use Rattle.std.specs.Str.{bytes_eq}
use Rattle.heco_jobs.specs.declared.product.Planned.{Planned}
use Rattle.heco_jobs.specs.declared.product.Product.{Product}
use Rattle.heco_jobs.specs.Agents.{Agents}
use Rattle.heco_jobs.specs.Jobs.{Job, Read, Judge, Give}
use Rattle.heco_jobs.specs.Outsides.{Files, SameFiles, Outside}
use Rattle.heco_jobs.specs.Words.{name_of}

-- the named file has these bytes, and all others stand
abbrev pub with_file : List ℕ → List ℕ → Files → Files
with_file name bytes file = λ other. if bytes_eq other name then Some bytes else file other

module _ (words : List (List ℕ)) where
  -- the product is allowed for whatever things the files can be read as and may come of them
  unfoldable pub Owes : Job → Agents → Files → Product → Type 0
  Owes (Read which Thing Fits Refuses next) left file p = (text : List ℕ) (x : Thing) → file (name_of words which) ≡ Some text → Fits text x
      → Owes (next x) left file p
  Owes (Judge Thing Fits Refuses next) left file p = (x : Thing) → Fits x → Owes (next x) left file p
  Owes (Give Allowed) left file p = Allowed p left

  -- the file of this word is there, and can be read as this thing
  pub record IsReadAs {Thing : Type 0} (file : Files) (which : ℕ) (Fits : List ℕ → Thing → Type 0) (x : Thing) : Type 0 where
    pub text : List ℕ
    pub there : file (name_of words which) ≡ Some text
    pub fits : Fits text x

  -- the files were read as some things, and the product is allowed for these
  unfoldable pub Fulfils : Job → Agents → Files → Product → Type 0
  Fulfils (Read which Thing Fits Refuses next) left file p = (x : Thing) × (IsReadAs file which Fits x × Fulfils (next x) left file p)
  Fulfils (Judge Thing Fits Refuses next) left file p = (x : Thing) × (Fits x × Fulfils (next x) left file p)
  Fulfils (Give Allowed) left file p = Allowed p left

  -- the files after these writes in order
  abbrev pub after_writes : List Planned → Files → Files
  after_writes [] file = file
  after_writes (w ∷ writes) file = after_writes writes (with_file (name_of words w.which) w.bytes file)

  -- exactly the files of one product were written, all others stand, and exactly its text was printed; what was read allows it,
  -- and whatever could have been read does
  pub record Done (job : Job) (left : Agents) (old new : Outside) : Type 0 where
    pub product : Product
    pub fulfilled : Fulfils job left old.file product
    pub owed : Owes job left old.file product
    pub files : SameFiles (after_writes product.writes old.file) new.file
    pub printed : new.taken ≡ old.taken ++ unwrap_or product.text []
