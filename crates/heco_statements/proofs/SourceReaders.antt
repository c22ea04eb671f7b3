-- Parameters and whole sources.
use Rattle.std.proofs.Common.{◌≡◌, ◌∙◌, sym, ap, subst, refl, ℕ, suc, ◌≤◌, List, [], ◌∷◌, ◌++◌, Bool, true, false, Some, None, arith, append-nil, ◌⊎◌, length}
use Rattle.heco_lex.specs.declared.token.TokenKind.{TokenKind}
use Rattle.heco_lex.specs.declared.token.TokenKind.TheVariants as k
use Rattle.heco_syntax.specs.Limits.{IsCut}
use Rattle.heco_syntax.specs.Parts.{place_of, ident_of, comma, comma_by, direction, direction_of}
use Rattle.heco_syntax.specs.Productions.{Spells, IsOne, IsKnown, IsNothing, Then, Many}
use Rattle.heco_syntax.specs.Sources.{IsSource}
use Rattle.heco_syntax.specs.Sources as g
use Rattle.heco_syntax.specs.declared.lexeme.Lexeme.{Lexeme}
use Rattle.heco_syntax.specs.declared.tree.Param.{Param}
use Rattle.heco_syntax.specs.declared.tree.Source.{Source}
use Rattle.heco_expressions.specs.Reading.{found, is_at, same_kind, signed, behind}
use Rattle.heco_expressions.proofs.Verdicts.{plain, kinds_same}
use Rattle.heco_expressions.proofs.Steady.{Agree, Follows, left, here, there, both_syntax}
use Rattle.heco_statements.specs.Reading as read
use Rattle.heco_statements.proofs.Readers.{Four, same_four, Verdict, was_found, was_syntax, answered, kept, Reader, Any, then_reader, then_any, one_reader, done_reader, known_reader, either_reader, one_starts, known_starts, then_starts}
use Rattle.heco_statements.proofs.Series.{adds_reader}
use Rattle.heco_statements.proofs.StatementReaders.{narrow, same_reader, listed, unlisted, first_comma, length_reader}
use Rattle.heco_statements.proofs.BlockReaders.{block_reader}
use Rattle.heco_statements.proofs.DefinitionReaders.{definitions_reader, function_ends}

preset_reader : Reader read.preset_line (same_four g.preset_line) Any
preset_reader = then_any (one_reader place_of k.Params) (λ p. then_any (one_reader ident_of k.Word) (λ preset. then_any (one_reader place_of k.Semi) (λ s. done_reader preset)))

abbrev NoBracket : List Lexeme → Type 0
NoBracket rest = is_at k.OpenBracket rest ≡ false

length_given_reader : Reader read.length_given (same_four g.length_given) Any
length_given_reader = then_any length_reader (λ len. done_reader (Some len))

maybe_length_reader : Reader read.maybe_length (same_four (λ us x. g.length_given us x ⊎ g.no_length us x)) NoBracket
maybe_length_reader = either_reader k.OpenBracket (narrow length_given_reader NoBracket (λ rest f. tt)) (narrow (done_reader None) NoBracket (λ rest f. tt))
    (λ us x rest i f. given_first us x rest i) (λ us x rest i f. given_first us x rest i)
    (λ us x rest i f. ap (λ v. is_at k.OpenBracket (v ++ rest)) i.all ∙ f) (λ us x rest i f. ap (λ v. is_at k.OpenBracket (v ++ rest)) i.all ∙ f)
  where
    given_first : (us : List Lexeme) (x : _) (rest : List Lexeme) → g.length_given us x → is_at k.OpenBracket (us ++ rest) ≡ true
    given_first us x rest i = then_starts g.length_in_brackets _ k.OpenBracket true (then_starts (IsOne place_of k.OpenBracket) _ k.OpenBracket true (one_starts place_of k.OpenBracket k.OpenBracket)) us x rest i

param_reader : Reader read.param (same_four g.param) NoBracket
param_reader = then_any (known_reader direction (plain k.In) false refl) (λ out. then_any (one_reader ident_of k.Word) (λ name.
    then_reader maybe_length_reader (λ l. narrow (done_reader (record { output = out; name = name; len = l })) NoBracket (λ rest f. tt))
    (λ l us y rest j f. subst (λ v. NoBracket (v ++ rest)) (sym j.all) f) (λ l us y rest j f. subst (λ v. NoBracket (v ++ rest)) (sym j.all) f)))

-- what follows the parameters
record PortEnds (rest : List Lexeme) : Type 0 where
  bracket : is_at k.OpenBracket rest ≡ false
  stop : signed comma rest ≡ None

no_bracket : (us : List Lexeme) (xs : List Param) (rest : List Lexeme) → Many (g.after_comma g.param) us xs → NoBracket rest → NoBracket (us ++ rest)
no_bracket us xs rest m h = first_comma (λ at. g.param) us xs rest NoBracket m h (λ t others e. ap (λ a. same_kind a k.OpenBracket) e)

more_params_reader : (p : Param) → Reader (read.more_params p) (same_four (Then (Many (g.after_comma g.param)) (λ xs. IsNothing (p ∷ xs)))) PortEnds
more_params_reader p = same_reader
    (adds_reader comma {item = λ at. read.param} {I = λ at. same_four g.param} (λ at. param_reader) PortEnds (λ rest f. f.stop)
    (λ us xs rest i f. no_bracket us xs rest i f.bracket) (λ us xs rest i f. no_bracket us xs rest i f.bracket) (p ∷ []))
    (same_four (Then (Many (g.after_comma g.param)) (λ xs. IsNothing (p ∷ xs))))
    (listed (g.after_comma g.param) p) (unlisted (g.after_comma g.param) p) (listed (g.after_comma g.param) p) (unlisted (g.after_comma g.param) p) (listed (g.after_comma g.param) p) (unlisted (g.after_comma g.param) p)

listed_no_bracket : (p : Param) (us : List Lexeme) (all : List Param) (rest : List Lexeme) → Then (Many (g.after_comma g.param)) (λ xs. IsNothing (p ∷ xs)) us all → NoBracket rest → NoBracket (us ++ rest)
listed_no_bracket p us all rest t h =
    let e : us ≡ t.front = t.all ∙ ap (λ v. t.front ++ v) t.second.all ∙ append-nil t.front in
    subst (λ v. NoBracket (v ++ rest)) (sym e) (no_bracket t.front t.x rest t.first h)

some_params_reader : Reader read.some_params (same_four g.some_params) PortEnds
some_params_reader = then_reader param_reader more_params_reader (λ p us y rest i f. listed_no_bracket p us y rest i f.bracket) (λ p us y rest i f. listed_no_bracket p us y rest i f.bracket)

abbrev AtClose : List Lexeme → Type 0
AtClose rest = is_at k.Close rest ≡ true

close_ends : (rest : List Lexeme) → AtClose rest → PortEnds rest
close_ends [] h = cc
close_ends (t ∷ ts) h =
    let e : t.kind ≡ k.Close = kinds_same t.kind k.Close h in
    record { bracket = ap (λ a. same_kind a k.OpenBracket) e; stop = ap (λ a. behind ts (comma_by t.at a)) e }

direction_no_close : (a : TokenKind) (o : Bool) → direction_of a ≡ Some o → same_kind a k.Close ≡ false
direction_no_close k.In o h = refl
direction_no_close k.Out o h = refl
direction_no_close a o h = cc

ports_reader : Reader read.ports (same_four (λ us x. g.no_params us x ⊎ g.some_params us x)) AtClose
ports_reader = either_reader k.Close (narrow (done_reader []) AtClose (λ rest f. tt)) (narrow some_params_reader AtClose close_ends)
    (λ us x rest i f. ap (λ v. is_at k.Close (v ++ rest)) i.all ∙ f) (λ us x rest i f. ap (λ v. is_at k.Close (v ++ rest)) i.all ∙ f)
    (λ us x rest i f. some_first us x rest i) (λ us x rest i f. some_first us x rest i)
  where
    some_first : (us : List Lexeme) (x : List Param) (rest : List Lexeme) → g.some_params us x → is_at k.Close (us ++ rest) ≡ false
    some_first us x rest i = then_starts g.param _ k.Close false (then_starts (IsKnown direction) _ k.Close false (known_starts direction k.Close (λ t o h. direction_no_close t.kind o h))) us x rest i

signature_reader : Reader read.signature (same_four g.signature) Any
signature_reader = then_any (one_reader place_of k.Open) (λ o. then_reader ports_reader (λ ps. then_any (one_reader place_of k.Close) (λ c. done_reader ps))
    (λ ps us y rest i f. then_starts (IsOne place_of k.Close) _ k.Close true (one_starts place_of k.Close k.Close) us y rest i)
    (λ ps us y rest i f. then_starts (IsOne place_of k.Close) _ k.Close true (one_starts place_of k.Close k.Close) us y rest i))

-- a source four times; m and e are the limits of the widest
abbrev pub source_four : ℕ → ℕ → ℕ → ℕ → Four Source
source_four n d m e = record { is = IsSource n d; cut = IsCut n d; deep = IsSource (suc n) (suc d); wide = IsSource m e }

source_reader : (n d m e : ℕ) → Reader (read.source n d) (source_four n d m e) Any
source_reader n d m e = then_any preset_reader (λ preset. then_reader (definitions_reader n m)
    (λ defs. then_any (one_reader place_of k.Fn) (λ f. then_any (one_reader ident_of k.Word) (λ name. then_any signature_reader (λ ps. then_any (block_reader n m d e) (λ xs.
    done_reader (record { params = preset; defs = defs; name = name; ports = ps; body = xs }))))))
    (λ defs us y rest i f. function_ends _ us y rest i) (λ defs us y rest i f. function_ends _ us y rest i))

abbrev pub IsEmpty : List Lexeme → Type 0
IsEmpty rest = rest ≡ []

ended_reader : {A : Type 0} (x : A) → Reader (read.ended x) (same_four (IsNothing x)) IsEmpty
ended_reader {A} x = record {
  verdict = told;
  fill_cut = record { others = []; x = x; is = record { all = refl; is = refl } };
  fill_deep = record { others = []; x = x; is = record { all = refl; is = refl } };
  weak_cut = λ us y i. i;
  weak_deep = λ us y i. i;
  complete = λ us y i rest f. answered (ends us y i rest f);
  keeps = λ us y i rest f. kept (ends us y i rest f);
  steady = record { short = shorter; local = same };
}
  where
    told : (ts : List Lexeme) → Verdict (same_four (IsNothing x)) ts (read.ended x ts)
    told [] = was_found [] [] x refl (record { all = refl; is = refl })
    told (t ∷ ts) = was_syntax [] (t ∷ ts) refl (record { others = []; x = x; is = record { all = refl; is = refl } }) (record { others = []; x = x; is = record { all = refl; is = refl } })

    ends : (us : List Lexeme) (y : A) → IsNothing x us y → (rest : List Lexeme) → rest ≡ [] → read.ended x (us ++ rest) ≡ found y rest
    ends us y i rest f = ap (λ v. read.ended x (v ++ rest)) i.all ∙ ap (λ v. read.ended x v) f ∙ ap (λ v. found v []) (sym i.is) ∙ ap (λ v. found y v) (sym f)

    shorter : (ts : List Lexeme) → length (left (read.ended x ts)) ≤ length ts
    shorter [] = omega arith
    shorter (t ∷ ts) = omega arith

    same : (t : Lexeme) (us vs a b : List Lexeme) → Agree t us vs a b → Follows t us vs (read.ended x a) (read.ended x b)
    same t us vs a b here = both_syntax here
    same t us vs a b (there h) = both_syntax (there h)

drop_end : {A : Type 0} (P : Spells A) (us : List Lexeme) (x : A) → Then P (λ v. IsNothing v) us x → P us x
drop_end P us x t = subst (λ v. P us v) (sym t.second.is) (subst (λ v. P v t.x) (sym (t.all ∙ ap (λ v. t.front ++ v) t.second.all ∙ append-nil t.front)) t.first)

add_end : {A : Type 0} (P : Spells A) (us : List Lexeme) (x : A) → P us x → Then P (λ v. IsNothing v) us x
add_end P us x i = record { front = us; x = x; back = []; all = sym (append-nil us); first = i; second = record { all = refl; is = refl } }

pub whole_reader : (n d m e : ℕ) → Reader (read.whole n d) (source_four n d m e) IsEmpty
whole_reader n d m e = same_reader (then_any (source_reader n d m e) (λ x. ended_reader x)) (source_four n d m e)
    (drop_end (IsSource n d)) (add_end (IsSource n d)) (drop_end (IsCut n d)) (add_end (IsCut n d)) (drop_end (IsSource (suc n) (suc d))) (add_end (IsSource m e))
