-- States: the visible names, in the order of their declarations, and the list that each one holds.
use Rattle.std.specs.Prelude.{ℕ, pos, negsuc, List, [], ◌∷◌, ◌++◌, take, Some, None, Ok, Err, slice_get, slice_set, slice_index_or}
use Rattle.std.specs.declared.option.Option.{Option}
use Rattle.std.specs.List.{position}
use Rattle.std.specs.Str.{bytes_eq}
use Rattle.heco_lex.specs.declared.place.Place.{Place}
use Rattle.heco_lex.specs.declared.rule.Rule.TheVariants.{IndexRange}
use Rattle.heco_syntax.specs.declared.tree.Ident.{Ident}
use Rattle.heco_execution.specs.declared.value.Value.{Value}
use Rattle.heco_execution.specs.declared.value.Value.TheVariants.{Public, Secret}
use Rattle.heco_execution.specs.declared.value.Element.{Element}
use Rattle.heco_execution.specs.Outcomes.{Outcome, after, broken}

-- the name at a place of the one list holds the list at that place of the other
pub record State (V : Type 0) : Type 0 where
  pub texts : List (List ℕ)
  pub lists : List (List (Value V))

abbrev pub nothing : {V : Type 0} → State V
nothing = record { texts = []; lists = [] }

-- where a name stands among the visible ones
abbrev pub place_of : List ℕ → List (List ℕ) → Option ℕ
place_of text texts = position (λ t. bytes_eq text t) texts

abbrev pub list_at : {V : Type 0} → List (List (Value V)) → Option ℕ → List (Value V)
list_at lists None = []
list_at lists (Some i) = slice_index_or lists i []

-- the list that a name holds; a name that is not visible holds nothing
abbrev pub list_of : {V : Type 0} → State V → List ℕ → List (Value V)
list_of state text = list_at state.lists (place_of text state.texts)

-- what there is, or a broken index
abbrev pub found : {A : Type 0} → Place → Option A → Outcome A
found at None = Err (broken IndexRange at)
found at (Some x) = Ok x

-- an index as a place in a list
abbrev pub index_of : {V : Type 0} → Place → Value V → Outcome ℕ
index_of at (Public (pos n)) = Ok n
index_of at (Public (negsuc n)) = Err (broken IndexRange at)
index_of at (Secret v) = Err (broken IndexRange at)

-- the element of a name at an index, and where it stands
abbrev pub element : {V : Type 0} → Ident → State V → Value V → Outcome (Element V)
element name state index =
    after (index_of name.at index) (λ k.
    after (found name.at (place_of name.text state.texts)) (λ i.
    after (found name.at (slice_get (slice_index_or state.lists i []) k)) (λ v. Ok (record { list = i; place = k; value = v }))))

-- with a name behind the others, or, where it stands among them, with another list there
abbrev pub with_list : {V : Type 0} → State V → List ℕ → List (Value V) → Option ℕ → State V
with_list state text list None = record { texts = state.texts ++ text ∷ []; lists = state.lists ++ list ∷ [] }
with_list state text list (Some i) = record { texts = state.texts; lists = slice_set state.lists i list }

-- with a name that holds this list; no name is declared while it is visible
unfoldable pub declared : {V : Type 0} → State V → List ℕ → List (Value V) → State V
declared state text list = with_list state text list (place_of text state.texts)

-- with the first names alone
abbrev pub first_names : {V : Type 0} → ℕ → State V → State V
first_names n state = record { texts = take n state.texts; lists = take n state.lists }

-- with another value in the place of an element
abbrev pub replaced : {V : Type 0} → State V → Element V → Value V → State V
replaced state e v = record { texts = state.texts; lists = slice_set state.lists e.list (slice_set (slice_index_or state.lists e.list []) e.place v) }
