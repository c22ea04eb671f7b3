-- What written forms cost, where equal terms are computed once.
use Rattle.std.specs.Prelude.{ℕ, ◌+◌, List, [], ◌∷◌, ◌++◌, Bool, true, false, ◌||◌, ◌&&◌, cond, length}
use Rattle.std.specs.List.{list_any, sum_by, count_by}
use Rattle.heco_written.specs.VectorTerm.{VectorTerm, Input, Negated, Added, Multiplied, Scaled, Shifted, Turned, same_vector}

-- the terms within a vector term, operands first
abbrev pub subterms : VectorTerm → List VectorTerm
subterms (Input a) = Input a ∷ []
subterms (Negated v) = subterms v ++ Negated v ∷ []
subterms (Added v u) = subterms v ++ subterms u ++ Added v u ∷ []
subterms (Multiplied v u) = subterms v ++ subterms u ++ Multiplied v u ∷ []
subterms (Scaled c v) = subterms v ++ Scaled c v ∷ []
subterms (Shifted c v) = subterms v ++ Shifted c v ∷ []
subterms (Turned r v) = subterms v ++ Turned r v ∷ []

abbrev pub is_input : VectorTerm → Bool
is_input (Input a) = true
is_input v = false

-- the terms so far, and then those that are no input and new
abbrev pub gathered : List VectorTerm → List VectorTerm → List VectorTerm
gathered parts [] = parts
gathered parts (v ∷ vs) = gathered (cond (is_input v || list_any (same_vector v) parts) parts (parts ++ v ∷ [])) vs

abbrev pub all_subterms : List VectorTerm → List VectorTerm
all_subterms [] = []
all_subterms (v ∷ vs) = subterms v ++ all_subterms vs

-- the parts that the written forms are made of, each once
abbrev pub parts : List VectorTerm → List VectorTerm
parts vs = gathered [] (all_subterms vs)

-- a product costs a multiplication and a relinearisation
abbrev pub gates_of : VectorTerm → ℕ
gates_of (Multiplied v u) = 2
gates_of v = 1

-- as a node: an input costs nothing
abbrev pub gates : VectorTerm → ℕ
gates (Input a) = 0
gates v = gates_of v

abbrev pub cost : List VectorTerm → ℕ
cost vs = sum_by gates_of (parts vs)

-- a product, and what linear operations make of it, has three parts until it is relinearised
abbrev pub is_long : VectorTerm → Bool
is_long (Input a) = false
is_long (Negated v) = is_long v
is_long (Added v u) = is_long v || is_long u
is_long (Multiplied v u) = true
is_long (Scaled c v) = is_long v
is_long (Shifted c v) = is_long v
is_long (Turned r v) = false

-- whether the term is turned or multiplied by this one
abbrev pub turns_or_multiplies : VectorTerm → VectorTerm → Bool
turns_or_multiplies x (Turned r v) = same_vector x v
turns_or_multiplies x (Multiplied v u) = same_vector x v || same_vector x u
turns_or_multiplies x v = false

-- a long term that is turned, multiplied or given out has to be relinearised
abbrev pub is_due : List VectorTerm → List VectorTerm → VectorTerm → Bool
is_due ps vs x = is_long x && (list_any (turns_or_multiplies x) ps || list_any (same_vector x) vs)

abbrev pub late_cost : List VectorTerm → ℕ
late_cost vs = length (parts vs) + count_by (is_due (parts vs) vs) (parts vs)

-- as a node among terms ts with roots vs: one, and one more where it has to be relinearised
abbrev pub late_gates : List VectorTerm → List VectorTerm → VectorTerm → ℕ
late_gates ts vs (Input a) = 0
late_gates ts vs v = 1 + cond (is_due ts vs v) 1 0
