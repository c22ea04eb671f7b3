-- The inputs and outputs of a typed source, and its terms.
use Rattle.std.proofs.Common.{◌≡◌, ◌∙◌, refl, sym, ap, subst, ℕ, zero, suc, ◌+◌, ◌*◌, ◌^◌, ◌<◌, ◌≤◌, Bool, true, false, not, cond, List, [], ◌∷◌, ◌++◌, map, length, length-append, get_or, Some, None, Ok, Err, arith}
use Rattle.std.specs.List.{All, filter, flat_map, sum_by}
use Rattle.std.specs.Str.{bytes_eq}
use Rattle.std.proofs.lemmas.List.{length-map}
use Rattle.std.proofs.lemmas.List.Elements.{All-head, All-tail}
use Rattle.std.proofs.lemmas.List.Sums.{sum_by-cons}
use Rattle.std.proofs.lemmas.Slice.Eq.{bytes_eq-Decides}
use Rattle.heco_nums.specs.Presets.{preset_name, modulus_of}
use Rattle.heco_nums.specs.declared.preset.Preset.{Preset}
use Rattle.heco_nums.specs.declared.shape.Shape.{Shape}
use Rattle.heco_syntax.specs.Ports.{length_of}
use Rattle.heco_syntax.specs.declared.tree.Param.{Param}
use Rattle.heco_syntax.specs.declared.tree.Source.{Source}
use Rattle.heco_types.specs.Definitions.{definition_names, of_definitions}
use Rattle.heco_types.specs.Names.{Name, visible}
use Rattle.heco_types.specs.Parameters.{param_name, of_params}
use Rattle.heco_types.specs.Presets.{slots_named, names_preset}
use Rattle.heco_types.specs.Shapes.{shape_of, shapes_of}
use Rattle.heco_types.specs.Sites.{first, site}
use Rattle.heco_types.specs.Statements.{block, judged}
use Rattle.heco_types.specs.Table.{differ, preset_word}
use Rattle.heco_types.specs.Typing.{IsTyped, IsWithin}
use Rattle.heco_types.proofs.PresetWords.{id_named-is}
use Rattle.heco_types.proofs.TypedFacts.{nothing-right}
use Rattle.heco_written.specs.ScalarTerm.{ScalarTerm}
use Rattle.heco_execution.specs.declared.progress.Progress.{Progress}
use Rattle.heco_execution.specs.Laws.{input_lengths, elements, source_terms, mapped}
use Rattle.heco_execution.specs.Outcomes.{Outcome, after}
use Rattle.heco_execution.specs.Secrets.{storeless, terms}
use Rattle.heco_execution.specs.Whole.{execute}
use Rattle.heco_ir.specs.declared.scalar.SNode.{SNode}
use Rattle.heco_eval.specs.Typed.{modulus_named}
use Rattle.heco_ir.specs.Unrolled.{root_terms}
use Rattle.heco_unroll.specs.Unrolling.{element_terms, element_count, HaveLengths, OutputsHaveTheirLengths}
use Rattle.heco_unroll.proofs.Lengths.{IsSeen, lengths_of, execute_gives}

pub modulus_is : (p : Preset) (name : List ℕ) → preset_name p.id ≡ name → p.t ≡ modulus_named name
modulus_is p name is = let row = p.row in row.4 ∙ ap modulus_of (sym (id_named-is p.id name row.0 row.1 is))

by_output : (p : Param) (rest : List Param) (b : Bool)
    → map (λ s. s.len) (map shape_of (cond (not (differ b false)) (p ∷ rest) rest)) ≡ cond b (map (λ s. s.len) (map shape_of rest)) (length_of p.len ∷ map (λ s. s.len) (map shape_of rest))
by_output p rest true = refl
by_output p rest false = refl

-- the lengths of the shapes of inputs
pub input_lengths_are : (ports : List Param) → map (λ s. s.len) (shapes_of false ports) ≡ input_lengths ports
input_lengths_are [] = refl
input_lengths_are (p ∷ ports) =
    by_output p (filter (λ q. not (differ q.output false)) ports) p.output ∙ ap (λ ns. cond p.output ns (length_of p.len ∷ ns)) (input_lengths_are ports)

by_input : (p : Param) (rest : List Param) (b : Bool)
    → map (λ s. s.len) (map shape_of (cond (not (differ b true)) (p ∷ rest) rest)) ≡ cond b (length_of p.len ∷ map (λ s. s.len) (map shape_of rest)) (map (λ s. s.len) (map shape_of rest))
by_input p rest true = refl
by_input p rest false = refl

output_lengths_are : (ports : List Param) → map (λ s. s.len) (shapes_of true ports) ≡ lengths_of ports
output_lengths_are [] = refl
output_lengths_are (p ∷ ports) =
    by_input p (filter (λ q. not (differ q.output true)) ports) p.output ∙ ap (λ ns. cond p.output (length_of p.len ∷ ns) ns) (output_lengths_are ports)

fewer : (b : Bool) (p : Param) (rest : List Param) → length (map shape_of (cond b (p ∷ rest) rest)) ≤ suc (length (map shape_of rest))
fewer true p rest = omega arith
fewer false p rest = omega arith

-- there are no more shapes than parameters
pub few_shapes : (output : Bool) (ports : List Param) → length (shapes_of output ports) ≤ length ports
few_shapes output [] = omega arith
few_shapes output (p ∷ ports) = omega (arith, fewer (not (differ p.output output)) p (filter (λ q. not (differ q.output output)) ports), few_shapes output ports)

equal_texts : (text : List ℕ) → bytes_eq text text ≡ true
equal_texts text = (bytes_eq-Decides text text).1 refl

seen_first : (n : Name) (names : List Name) → IsSeen (n ∷ names) n.text
seen_first n names = record { entity = n.entity; is = ap (λ b. cond b (Some n.entity) (visible names n.text)) (equal_texts n.text) }

seen_behind : (n : Name) (names : List Name) (text : List ℕ) → IsSeen names text → IsSeen (n ∷ names) text
seen_behind n names text h = by_test (bytes_eq text n.text) refl
  where
    by_test : (b : Bool) → bytes_eq text n.text ≡ b → IsSeen (n ∷ names) text
    by_test true e = record { entity = n.entity; is = ap (λ c. cond c (Some n.entity) (visible names text)) e }
    by_test false e = record { entity = h.entity; is = ap (λ c. cond c (Some n.entity) (visible names text)) e ∙ h.is }

all_seen : (ports : List Param) (q : Param) (k : ℕ) (d : Param) → k < length ports → q ≡ get_or ports k d → IsSeen (map param_name ports) q.name.text
all_seen [] q k d l e = absurd (omega arith)
all_seen (p ∷ ports) q zero d l e = subst (λ r. IsSeen (map param_name (p ∷ ports)) r.name.text) (sym e) (seen_first (param_name p) (map param_name ports))
all_seen (p ∷ ports) q (suc k) d l e = seen_behind (param_name p) (map param_name ports) q.name.text (all_seen ports q k d (omega arith) e)

-- behind others that are visible as well
seen_further : (more names : List Name) (text : List ℕ) → IsSeen names text → IsSeen (more ++ names) text
seen_further [] names text h = h
seen_further (n ∷ more) names text h = seen_behind n (more ++ names) text (seen_further more names text h)

-- what is visible in the body of a source
abbrev body_names : Source → List Name
body_names x = definition_names [] x.defs ++ map param_name x.ports

none_in_source : (x : Source) → IsTyped x → block first (map (judged first) x.body) (body_names x) ≡ None
none_in_source x h =
    let word = first.test (site x.params.at x.params.text (preset_word (names_preset x.params.text)) []) in
    nothing-right (of_params first (slots_named x.params.text) 0 x.ports (definition_names [] x.defs)) _
    (nothing-right (of_definitions first x.defs []) _ (nothing-right word _ h.found))

abbrev started : Progress (Unit {0})
started = record { steps = 0; store = tt }

-- lists of the outputs' lengths come out
abbrev Given : List Param → Outcome (List (List ScalarTerm) × Progress (Unit {0})) → Type 0
Given ports (Ok r) = map length r.0 ≡ lengths_of ports
Given ports (Err e) = Unit {0}

pub outputs_have_their_lengths : OutputsHaveTheirLengths
outputs_have_their_lengths t source h =
    read (execute (storeless {S = Unit {0}} (terms t)) source (elements 0 (input_lengths source.ports)) started)
    (execute_gives (storeless {S = Unit {0}} (terms t)) source (elements 0 (input_lengths source.ports)) (body_names source) h.parameters.distinct
    (λ q k d l e. seen_further (definition_names [] source.defs) (map param_name source.ports) q.name.text (all_seen source.ports q k d l e)) (none_in_source source h) started)
  where
    read : (o : Outcome (List (List ScalarTerm) × Progress (Unit {0}))) → Given source.ports o → HaveLengths (shapes_of true source.ports) (after o (λ r. Ok r.0))
    read (Ok r) g = g ∙ sym (output_lengths_are source.ports)
    read (Err e) g = tt

total : List ℕ → ℕ
total [] = 0
total (n ∷ ns) = n + total ns

all_total : {A : Type 0} (rows : List (List A)) → length (flat_map (λ row. row) rows) ≡ total (map length rows)
unfolding total
all_total [] = refl
all_total (row ∷ rows) = omega (arith, length-append row (flat_map (λ row. row) rows), all_total rows)

shapes_total : (shapes : List Shape) → sum_by (λ s. s.len) shapes ≡ total (map (λ s. s.len) shapes)
unfolding total
shapes_total [] = refl
shapes_total (s ∷ shapes) = omega (arith, sum_by-cons (λ (s : Shape). s.len) s shapes, shapes_total shapes)

-- the roots are as many as the outputs have elements
pub counted : (t : ℕ) (source : Source) (nodes : List SNode) (ids : List ℕ) → IsTyped source → element_terms t source ≡ Ok (root_terms nodes ids) → length ids ≡ element_count source
counted t source nodes ids h e = by_terms (source_terms t source) (outputs_have_their_lengths t source h) e
  where
    by_terms : (o : Outcome (List (List ScalarTerm))) → HaveLengths (shapes_of true source.ports) o → mapped (λ rows. flat_map (λ row. row) rows) o ≡ Ok (root_terms nodes ids) → length ids ≡ element_count source
    by_terms (Ok rows) s f =
        let same : flat_map (λ row. row) rows ≡ root_terms nodes ids = cc in
        sym (ap length same ∙ length-map ids _) ∙ all_total rows ∙ ap total s ∙ sym (shapes_total (shapes_of true source.ports))
    by_terms (Err b) s f = absurd (let no : ⊥ = cc in no)

total_most : (most : ℕ) (shapes : List Shape) → All (IsWithin most) shapes → total (map (λ s. s.len) shapes) ≤ length shapes * most
unfolding total
total_most most [] h = omega arith
total_most most (s ∷ shapes) h =
    let here = All-head (IsWithin most) s shapes h in
    let rest : total (map (λ s. s.len) shapes) ≤ length shapes * most = total_most most shapes (All-tail (IsWithin most) s shapes h) in
    grind (arith)

-- at most 256 outputs of 4,096 elements
pub few_elements : (source : Source) → IsTyped source → All (IsWithin 4096) (shapes_of true source.ports) → element_count source ≤ 2 ^ 20
few_elements source h within =
    let all : total (map (λ s. s.len) (shapes_of true source.ports)) ≤ length (shapes_of true source.ports) * 4096 = total_most 4096 (shapes_of true source.ports) within in
    let few : length (shapes_of true source.ports) ≤ length source.ports = few_shapes true source.ports in
    let count : length source.ports ≤ 256 = h.parameters.count in
    let is : element_count source ≡ total (map (λ s. s.len) (shapes_of true source.ports)) = shapes_total (shapes_of true source.ports) in
    omega arith
