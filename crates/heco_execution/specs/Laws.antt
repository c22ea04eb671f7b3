-- What the executions on numbers and on terms have in common, and what the terms are made of.
use Rattle.std.specs.Prelude.{◌≡◌, ℕ, zero, suc, ◌<◌, ◌≤◌, List, [], ◌∷◌, map, take, slice_get, cond, Some, Ok, Err}
use Rattle.std.specs.List.{All}
use Rattle.heco_syntax.specs.Ports.{length_of}
use Rattle.heco_syntax.specs.declared.tree.Def.{Def}
use Rattle.heco_syntax.specs.declared.tree.Param.{Param}
use Rattle.heco_syntax.specs.declared.tree.Source.{Source}
use Rattle.heco_written.specs.World.{World}
use Rattle.heco_written.specs.ScalarTerm.{ScalarTerm, Element, IsMade, scalar_value}
use Rattle.heco_execution.specs.declared.progress.Progress.{Progress}
use Rattle.heco_execution.specs.declared.value.Value.{Value}
use Rattle.heco_execution.specs.Definitions.{last_named}
use Rattle.heco_execution.specs.Evaluation.{meaning, calls_of}
use Rattle.heco_execution.specs.Outcomes.{Outcome}
use Rattle.heco_execution.specs.Plain.{plain_outputs, term_outputs}
use Rattle.heco_execution.specs.Secrets.{Stored}

-- a call means the last definition of its name, over the definitions before that one
abbrev pub CallsMeanTheirDefinitions : {S V : Type 0} → Stored S V → Type 0
CallsMeanTheirDefinitions {S} {V} ops =
    (defs : List Def) (k : ℕ) (d : Def) (name : List ℕ) (args : List (Value V)) (p : Progress S) → last_named name defs ≡ Some k → slice_get defs k ≡ Some d
    → calls_of ops defs name args p ≡ meaning ops (calls_of ops (take k defs)) d args p

-- the lengths of the inputs, in order
abbrev pub input_lengths : List Param → List ℕ
input_lengths [] = []
input_lengths (p ∷ ports) = cond p.output (input_lengths ports) (length_of p.len ∷ input_lengths ports)

-- so many elements of an input, from one on
abbrev pub elements_from : ℕ → ℕ → ℕ → List ScalarTerm
elements_from a i zero = []
elements_from a i (suc n) = Element a i ∷ elements_from a (suc i) n

-- the elements of inputs of these lengths, from the input a on
abbrev pub elements : ℕ → List ℕ → List (List ScalarTerm)
elements a [] = []
elements a (n ∷ ns) = elements_from a 0 n ∷ elements (suc a) ns

-- so many numbers, all below t
abbrev pub IsInputRow : ℕ → ℕ → List ℕ → Type 0
IsInputRow t zero [] = Unit {0}
IsInputRow t (suc n) (x ∷ xs) = (x < t) × IsInputRow t n xs
IsInputRow t zero (x ∷ xs) = ⊥
IsInputRow t (suc n) [] = ⊥

-- rows of these lengths, of numbers below t
abbrev pub AreInputRows : ℕ → List ℕ → List (List ℕ) → Type 0
AreInputRows t [] [] = Unit {0}
AreInputRows t (n ∷ ns) (x ∷ xs) = IsInputRow t n x × AreInputRows t ns xs
AreInputRows t [] (x ∷ xs) = ⊥
AreInputRows t (n ∷ ns) [] = ⊥

-- the terms of a source's output elements: they and the refusals depend on the source and the modulus alone
abbrev pub source_terms : ℕ → Source → Outcome (List (List ScalarTerm))
source_terms t source = term_outputs t source (elements 0 (input_lengths source.ports))

-- the result of a function, where no rule is broken
abbrev pub mapped : {A B : Type 0} → (A → B) → Outcome A → Outcome B
mapped f (Ok x) = Ok (f x)
mapped f (Err e) = Err e

-- the values of terms, list by list
abbrev pub values_of : World → List (List ScalarTerm) → List (List ℕ)
values_of w rows = map (λ row. map (λ x. scalar_value w x) row) rows

-- the numbers that come out of inputs of a source's shapes are the values of the source's terms, and the same rule is
-- broken at the same place
abbrev pub NumbersAreTheTermsValues : Type 0
NumbersAreTheTermsValues =
    (w : World) (source : Source) → AreInputRows w.modulus (input_lengths source.ports) w.inputs
    → plain_outputs w.modulus source w.inputs ≡ mapped (values_of w) (source_terms w.modulus source)

-- where no rule is broken, each term is made by sums, products and negations from numbers below t and elements of inputs below the slots
abbrev pub AreMade : ℕ → ℕ → Outcome (List (List ScalarTerm)) → Type 0
AreMade t slots (Ok rows) = All (λ row. All (λ x. IsMade t slots x) row) rows
AreMade t slots (Err e) = Unit {0}

-- so are a source's terms where no input has more elements than there are slots
abbrev pub TermsAreMade : Type 0
TermsAreMade = (t slots : ℕ) (source : Source) → 0 < t → All (λ n. n ≤ slots) (input_lengths source.ports) → AreMade t slots (source_terms t source)
