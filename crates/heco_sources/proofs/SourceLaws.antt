-- A text is one typed source at most, and none where it is refused.
use Rattle.std.proofs.Common.{◌≡◌, ◌≢◌, ◌∙◌, ◌⊎◌, refl, sym, ap, subst, ℕ, ◌≤◌, ◌<◌, List, [], ◌++◌, append-nil, length, Result, Ok, Err, inl, inr, arith}
use Rattle.std.specs.Prelude.{IfOk, IfErr}
use Rattle.std.proofs.lemmas.Bool.{cases_lt}
use Rattle.heco_lex.proofs.Unique.{one_split}
use Rattle.heco_lex.specs.declared.place.Place.{Place}
use Rattle.heco_lex.specs.declared.rule.Rule.{Rule}
use Rattle.heco_syntax.specs.Lexemes.{lexemes_of}
use Rattle.heco_syntax.specs.Sources.{IsSource as IsSpelled}
use Rattle.heco_syntax.specs.declared.lexeme.Lexeme.{Lexeme}
use Rattle.heco_syntax.specs.declared.tree.Source.{Source}
use Rattle.heco_expressions.specs.Reading.{Outcome, found, syntax, nested}
use Rattle.heco_statements.specs.Reading.{whole}
use Rattle.heco_statements.proofs.Readers.{Answered, answered, too_deep, Kept, kept, stopped}
use Rattle.heco_statements.proofs.SourceReaders.{whole_reader}
use Rattle.heco_parse.specs.Trees.{source_limit, IsTree}
use Rattle.heco_parse.specs.Trees as reading
use Rattle.heco_parse.specs.declared.read.ParseErr.{ParseErr}
use Rattle.heco_parse.specs.declared.read.ParseErr.TheVariants as parse
use Rattle.heco_parse.proofs.OneRefusal.{one_refusal_at as reading_once}
use Rattle.heco_parse.proofs.Reread.{not_refused}
use Rattle.heco_types.specs.FirstBroken.{BreaksNone, IsFirstBroken}
use Rattle.heco_types.specs.Parameters.{sites}
use Rattle.heco_types.proofs.OneCause.{one_first}
use Rattle.heco_sources.specs.Sources.{IsSource, IsMistyped, IsRefused, parse_answer, type_answer}
use Rattle.heco_sources.specs.declared.source.SourceErr.{SourceErr}
use Rattle.heco_sources.specs.declared.source.SourceErr.TheVariants as e

-- ---- one tree at most

reads_as : (o : Outcome Source) (x : Source) → Answered o x [] → Kept o x [] → o ≡ found x []
reads_as o x (answered h) k = h
reads_as o x (too_deep us h) (kept k) = k
reads_as o x (too_deep us h) (stopped vs k) = absurd (let bad : nested us ≡ syntax vs = sym h ∙ k in cc)

spelled_reads : (ts : List Lexeme) (x : Source) → IsSpelled 64 8 ts x → whole 64 8 ts ≡ found x []
spelled_reads ts x i =
    let read = whole_reader 64 8 64 8 in
    subst (λ us. whole 64 8 us ≡ found x []) (append-nil ts) (reads_as (whole 64 8 (ts ++ [])) x (read.complete ts x i [] refl) (read.keeps ts x (read.weak_cut ts x i) [] refl))

spelled_once : (ts : List Lexeme) (x y : Source) → IsSpelled 64 8 ts x → IsSpelled 64 8 ts y → x ≡ y
spelled_once ts x y i j = let both : found x [] ≡ found y [] = sym (spelled_reads ts x i) ∙ spelled_reads ts y j in cc

one_tree : (text : List ℕ) (x y : Source) → IsTree text x → IsTree text y → x ≡ y
one_tree text x y a b = spelled_once (lexemes_of text a.tokens) x y a.is (subst (λ ts. IsSpelled 64 8 (lexemes_of text ts) y) (one_split b.split a.split) b.is)

pub one_source : (text : List ℕ) (x y : Source) → IsSource text x → IsSource text y → x ≡ y
one_source text x y a b = one_tree text x y a.tree b.tree

-- ---- a text that is refused is no source

unread : (text : List ℕ) (s : Source) (rule : Rule) (at : Place) → IsSource text s → reading.IsRefused text (parse.At rule at) → ⊥
unread text s rule at is h =
    let none : parse.At rule at ≡ parse.Memory = not_refused text is.tree.tokens s is.tree.split is.tree.is is.short (parse.At rule at) h in
    absurd (let no : ⊥ = cc in no)

mistyped : (text : List ℕ) (s : Source) (rule : Rule) (at : Place) → IsSource text s → IsMistyped text rule at → ⊥
mistyped text s rule at is m = subst BreaksNone (one_tree text s m.source is.tree m.tree) is.none rule at m.first.broken

refused_at : (text : List ℕ) (s : Source) (rule : Rule) (at : Place) → IsSource text s → IsRefused text (e.At rule at) → ⊥
refused_at text s rule at is (short, inl h) = unread text s rule at is h
refused_at text s rule at is (short, inr m) = mistyped text s rule at is m

-- no source is refused but for want of memory
pub refused_none : (text : List ℕ) (s : Source) (refusal : SourceErr) → IsSource text s → IsRefused text refusal → refusal ≡ e.Memory
refused_none text s e.SourceLong is h = absurd (let short = is.short in omega arith)
refused_none text s (e.At rule at) is h = absurd (refused_at text s rule at is h)
refused_none text s e.Memory is h = refl

-- ---- a text that is refused is refused for one reason

one_mistake : (text : List ℕ) (r s : Rule) (p q : Place) → IsMistyped text r p → IsMistyped text s q → e.At r p ≡ e.At s q
one_mistake text r s p q a b =
    ap type_answer (one_first (sites a.source) r s p q a.first (subst (λ x. IsFirstBroken x s q) (one_tree text b.source a.source b.tree a.tree) b.first))

-- a text that has a tree breaks no rule of reading
read_and_mistyped : (text : List ℕ) (r s : Rule) (p q : Place) → length text ≤ source_limit → reading.IsRefused text (parse.At r p) → IsMistyped text s q → ⊥
read_and_mistyped text r s p q short a m =
    let none : parse.At r p ≡ parse.Memory = not_refused text m.tree.tokens m.source m.tree.split m.tree.is short (parse.At r p) a in
    let no : ⊥ = cc in no

one_refusal_at : (text : List ℕ) (r s : Rule) (p q : Place) → IsRefused text (e.At r p) → IsRefused text (e.At s q) → e.At r p ≡ e.At s q
one_refusal_at text r s p q (short, inl a) (less, inl b) = ap parse_answer (reading_once text r s p q a b)
one_refusal_at text r s p q (short, inl a) (less, inr m) = absurd (read_and_mistyped text r s p q short a m)
one_refusal_at text r s p q (short, inr m) (less, inl b) = absurd (read_and_mistyped text s r q p short b m)
one_refusal_at text r s p q (short, inr m) (less, inr n) = one_mistake text r s p q m n

one_refusal : (text : List ℕ) (d f : SourceErr) → IsRefused text d → IsRefused text f → d ≢ e.Memory → f ≢ e.Memory → d ≡ f
one_refusal text e.Memory f a b real other = absurd (real refl)
one_refusal text d e.Memory a b real other = absurd (other refl)
one_refusal text e.SourceLong e.SourceLong a b real other = refl
one_refusal text e.SourceLong (e.At s q) a b real other = absurd (let short = b.0 in omega arith)
one_refusal text (e.At r p) e.SourceLong a b real other = absurd (let short = a.0 in omega arith)
one_refusal text (e.At r p) (e.At s q) a b real other = one_refusal_at text r s p q a b

pub refuses : (text : List ℕ) (r : Result Source SourceErr) → IfOk r (IsSource text) → IfErr r (IsRefused text) → (err : SourceErr) → err ≢ e.Memory → IsRefused text err → (r ≡ Err err) ⊎ (r ≡ Err e.Memory)
refuses text (Ok t) ok refused err real is = absurd (real (refused_none text t err ok is))
refuses text (Err e.Memory) ok refused err real is = inr refl
refuses text (Err e.SourceLong) ok refused err real is = inl (ap Err (one_refusal text e.SourceLong err refused is (λ h. cc) real))
refuses text (Err (e.At r p)) ok refused err real is = inl (ap Err (one_refusal text (e.At r p) err refused is (λ h. cc) real))

pub reads : (text : List ℕ) (r : Result Source SourceErr) → IfOk r (IsSource text) → IfErr r (IsRefused text) → (s : Source) → IsSource text s → (r ≡ Ok s) ⊎ (r ≡ Err e.Memory)
reads text (Ok t) ok err s is = inl (ap Ok (one_source text t s ok is))
reads text (Err refusal) ok err s is = inr (ap Err (refused_none text s refusal is err))

-- ---- what a refusal of reading is answered with

-- a text that is not answered as too long is short enough
short_enough : (text : List ℕ) (r : Result Source ParseErr) → (source_limit < length text → r ≡ Err parse.SourceLong) → ((r ≡ Err parse.SourceLong) → ⊥) → length text ≤ source_limit
short_enough text r long other = elim (cases_lt source_limit (length text)) [ inl h ↦ absurd (other (long h)) | inr h ↦ h ]

not_long : (rule : Rule) (at : Place) (r : Result Source ParseErr) → r ≡ Err (parse.At rule at) → r ≡ Err parse.SourceLong → ⊥
not_long rule at r is long = let same : parse.At rule at ≡ parse.SourceLong = cc in let no : ⊥ = cc in no

pub parse_refused : (text : List ℕ) (error : ParseErr) (r : Result Source ParseErr) → r ≡ Err error → (source_limit < length text → r ≡ Err parse.SourceLong) → reading.IsRefused text error → IsRefused text (parse_answer error)
parse_refused text parse.SourceLong r is long h = h
parse_refused text (parse.At rule at) r is long h = (short_enough text r long (not_long rule at r is), inl h)
parse_refused text parse.Memory r is long h = tt
