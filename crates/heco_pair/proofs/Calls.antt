-- What a call prints of one row is the same for every content of the other.
use Rattle.std.proofs.Common.{◌≡◌, ◌∙◌, sym, subst, ℕ, List}
use Rattle.std.proofs.lemmas.Option.{same_Some}
use Rattle.heco_headline.specs.Headline.{IsPlainText}
use Rattle.heco_headline.proofs.PairLaw.{one_plain_text}
use Rattle.heco_nums.specs.declared.shape.Values.{Values}
use Rattle.heco_sources.proofs.SourceLaws.{one_source}
use Rattle.heco_sources.specs.Inputs.{IsInput}
use Rattle.heco_sources.specs.Sources.{IsSource}
use Rattle.heco_syntax.specs.declared.tree.Source.{Source}
use Rattle.heco_jobs.specs.Done.{IsReadAs}
use Rattle.heco_jobs.specs.Outsides.{Files}
use Rattle.heco_jobs.specs.Words.{name_of}
use Rattle.heco_pair.specs.Laws.{CallsPrintApart}
use Rattle.heco_pair.proofs.JobLaws.{values_alone}

-- files that agree are read as one thing
same_read : {Thing : Type 0} (words words' : List (List ℕ)) (file file' : Files) (which : ℕ) (Fits : List ℕ → Thing → Type 0) → ((text : List ℕ) (x y : Thing) → Fits text x → Fits text y → x ≡ y)
    → (x y : Thing) → IsReadAs words file which Fits x → IsReadAs words' file' which Fits y → file (name_of words which) ≡ file' (name_of words' which) → x ≡ y
same_read words words' file file' which Fits alone x y r r' agree =
    let same : r.text ≡ r'.text = same_Some r.text r'.text (sym r.there ∙ agree ∙ r'.there) in
    alone r'.text x y (subst (λ t. Fits t x) same r.fits) r'.fits

-- two texts of a source that is one, on values that are read of files that agree
same_text : (words words' : List (List ℕ)) (file file' : Files) (which : ℕ) (s s' : Source) (v v' : Values) (printed printed' : List ℕ) → s ≡ s' → file (name_of words which) ≡ file' (name_of words' which)
    → IsReadAs words file which (IsInput s) v → IsReadAs words' file' which (IsInput s') v' → IsPlainText s v.rows printed → IsPlainText s' v'.rows printed' → printed ≡ printed'
same_text words words' file file' which s s' v v' printed printed' one agree r r' plain plain' =
    let values : v ≡ v' = same_read words words' file file' which (IsInput s') (values_alone s') v v' (subst (λ x. IsReadAs words file which (IsInput x) v) one r) r' agree in
    one_plain_text s' v'.rows printed printed' (subst (λ (x : Values). IsPlainText s' x.rows printed) values (subst (λ x. IsPlainText x v.rows printed) one plain)) plain'

pub calls_print_apart : CallsPrintApart
calls_print_apart words words' handed left handed' left' old new old' new' call other agree =
    let a = call.paired in
    let b = other.paired in
    let one : a.source ≡ b.source = same_read words words' old.file old'.file 1 IsSource one_source a.source b.source a.given.src b.given.src agree in (
      (λ inputs. same_text words words' old.file old'.file 2 a.source b.source a.first b.first call.first other.first one inputs a.given.first_inputs b.given.first_inputs a.first_plain b.first_plain),
      (λ inputs. same_text words words' old.file old'.file 3 a.source b.source a.second b.second call.second other.second one inputs a.given.second_inputs b.given.second_inputs a.second_plain b.second_plain),
    )
