-- Parameters with distinct Words as names, as ports of a circuit.
use Rattle.std.proofs.Common.{◌≡◌, ℕ, zero, suc, ◌+◌, ◌^◌, ◌<◌, ◌≤◌, Bool, true, false, ◌&&◌, not, cond, List, [], ◌∷◌, ◌++◌, length, map, refl, sym, ap, subst, ◌∙◌, get_or, arith}
use Rattle.std.specs.Prelude.{◌≢◌, filter}
use Rattle.std.specs.List.{All, AllPairs, flat_map}
use Rattle.std.proofs.lemmas.List.{length-map}
use Rattle.std.proofs.lemmas.List.Elements.{All-cons, All-head, All-tail}
use Rattle.heco_nums.specs.Words.{is_word, starts_word}
use Rattle.heco_nums.specs.declared.shape.Shape.{Shape}
use Rattle.heco_syntax.specs.Kept.{Kept, AllNamed, kept_ident, kept_def, kept_param, kept_stmt}
use Rattle.heco_syntax.specs.declared.tree.Param.{Param}
use Rattle.heco_syntax.specs.declared.tree.Source.{Source}
use Rattle.heco_types.specs.Parameters.{param_limit}
use Rattle.heco_types.specs.Presets.{slots_named}
use Rattle.heco_types.specs.Shapes.{shape_of, shapes_of}
use Rattle.heco_types.specs.Table.{differ}
use Rattle.heco_types.specs.Typing.{IsTyped, HasLength}
use Rattle.heco_place.specs.Ports.{IsPort, ArePorts}

-- ---- words

abbrev IsName : Param → Type 0
IsName p = (is_word p.name.text ≡ true) × (length p.name.text ≤ 2 ^ 20)

named_right : (xs ys : List Kept) → AllNamed (xs ++ ys) → AllNamed ys
named_right [] ys a = a
named_right (x ∷ xs) ys a = named_right xs ys a.1

named_left : (xs ys : List Kept) → AllNamed (xs ++ ys) → AllNamed xs
named_left [] ys a = tt
named_left (x ∷ xs) ys a = (a.0, named_left xs ys a.1)

names_ok : (ps : List Param) → AllNamed (flat_map kept_param ps) → All IsName ps
names_ok [] a = λ k d l. absurd (omega arith)
names_ok (p ∷ ps) a =
    All-cons IsName p ps ((named_left (kept_param p) (flat_map kept_param ps) a).0 p.name.text refl) (names_ok ps (named_right (kept_param p) (flat_map kept_param ps) a))

starts_some : (t : List ℕ) → starts_word t ≡ true → 1 ≤ length t
starts_some [] e = absurd cc
starts_some (c ∷ cs) e = omega arith

word_some : (t : List ℕ) → is_word t ≡ true → 1 ≤ length t
unfolding is_word
word_some t e = starts_some t (left (starts_word t) _ e)
  where
    left : (a b : Bool) → (a && b) ≡ true → a ≡ true
    left true b e = refl
    left false b e = e

-- ---- ports

same_side : (a b : Bool) → not (differ a b) ≡ true → a ≡ b
same_side true true e = refl
same_side true false e = absurd cc
same_side false true e = absurd cc
same_side false false e = refl

picked : (slots : ℕ) (output : Bool) (p : Param) (rest : List Param) (b : Bool) → not (differ p.output output) ≡ b → HasLength slots p → IsName p
    → All (IsPort (param_limit slots output)) (map shape_of rest) → All (IsPort (param_limit slots output)) (map shape_of (cond b (p ∷ rest) rest))
picked slots output p rest true e h n ports =
    All-cons (IsPort (param_limit slots output)) (shape_of p) (map shape_of rest)
    (record { word = n.0; some = word_some p.name.text n.0; short = n.1; low = h.0; high = subst (λ o. (shape_of p).len ≤ param_limit slots o) (same_side p.output output e) h.1 }) ports
picked slots output p rest false e h n ports = ports

shapes_are_ports : (slots : ℕ) (output : Bool) (ps : List Param) → All (HasLength slots) ps → All IsName ps → All (IsPort (param_limit slots output)) (shapes_of output ps)
shapes_are_ports slots output [] h n = λ k d l. absurd (omega arith)
shapes_are_ports slots output (p ∷ ps) h n =
    picked slots output p (filter (λ q. not (differ q.output output)) ps) (not (differ p.output output)) refl (All-head (HasLength slots) p ps h) (All-head IsName p ps n)
    (shapes_are_ports slots output ps (All-tail (HasLength slots) p ps h) (All-tail IsName p ps n))

one_side : (b : Bool) (p : Param) (xs ys : List Param) → length (cond (not (differ b false)) (p ∷ xs) xs) + length (cond (not (differ b true)) (p ∷ ys) ys) ≡ suc (length xs + length ys)
one_side true p xs ys = omega arith
one_side false p xs ys = omega arith

count : (ps : List Param) → length (shapes_of false ps) + length (shapes_of true ps) ≡ length ps
count ps =
    omega (arith, length-map (filter (λ q. not (differ q.output false)) ps) shape_of, length-map (filter (λ q. not (differ q.output true)) ps) shape_of, sides ps)
  where
    sides : (ps : List Param) → length (filter (λ q. not (differ q.output false)) ps) + length (filter (λ q. not (differ q.output true)) ps) ≡ length ps
    sides [] = refl
    sides (p ∷ ps) = one_side p.output p (filter (λ q. not (differ q.output false)) ps) (filter (λ q. not (differ q.output true)) ps) ∙ ap suc (sides ps)

-- ---- distinct

-- none of them has this name
abbrev Others : List ℕ → List Shape → Type 0
Others name [] = Unit {0}
Others name (s ∷ ss) = (s.name ≢ name) × Others name ss

abbrev Distinct : List Shape → Type 0
Distinct [] = Unit {0}
Distinct (s ∷ ss) = Others s.name ss × Distinct ss

others_append : (name : List ℕ) (xs ys : List Shape) → Others name xs → Others name ys → Others name (xs ++ ys)
others_append name [] ys a b = b
others_append name (x ∷ xs) ys a b = (a.0, others_append name xs ys a.1 b)

others_insert : (name : List ℕ) (xs : List Shape) (s : Shape) (ys : List Shape) → Others name (xs ++ ys) → (s.name ≢ name) → Others name (xs ++ s ∷ ys)
others_insert name [] s ys a n = (n, a)
others_insert name (x ∷ xs) s ys a n = (a.0, others_insert name xs s ys a.1 n)

insert : (xs : List Shape) (s : Shape) (ys : List Shape) → Distinct (xs ++ ys) → Others s.name xs → Others s.name ys → Distinct (xs ++ s ∷ ys)
insert [] s ys d a b = (b, d)
insert (x ∷ xs) s ys d a b = (others_insert x.name xs s ys d.0 (λ e. a.0 (sym e)), insert xs s ys d.1 a.1 b)

-- parameters that have another name than this one
others_of : (output : Bool) (name : List ℕ) (ps : List Param) → All (λ q. name ≢ q.name.text) ps → Others name (shapes_of output ps)
others_of output name [] h = tt
others_of output name (p ∷ ps) h =
    by (not (differ p.output output)) (others_of output name ps (All-tail (λ q. name ≢ q.name.text) p ps h))
  where
    by : (b : Bool) → Others name (map shape_of (filter (λ q. not (differ q.output output)) ps))
        → Others name (map shape_of (cond b (p ∷ filter (λ q. not (differ q.output output)) ps) (filter (λ q. not (differ q.output output)) ps)))
    by true r = ((λ e. All-head (λ q. name ≢ q.name.text) p ps h (sym e)), r)
    by false r = r

distinct : (ps : List Param) → AllPairs (λ p q. p.name.text ≢ q.name.text) ps → Distinct (shapes_of false ps ++ shapes_of true ps)
distinct [] h = tt
distinct (p ∷ ps) h =
    by p.output (distinct ps (λ i j d l m. h (suc i) (suc j) d (omega arith) (omega arith))) (others_of false p.name.text ps later) (others_of true p.name.text ps later)
  where
    later : All (λ q. p.name.text ≢ q.name.text) ps
    later = λ k d l. h 0 (suc k) d (omega arith) (omega arith)

    by : (b : Bool) → Distinct (shapes_of false ps ++ shapes_of true ps) → Others p.name.text (shapes_of false ps) → Others p.name.text (shapes_of true ps)
        → Distinct (map shape_of (cond (not (differ b false)) (p ∷ filter (λ q. not (differ q.output false)) ps) (filter (λ q. not (differ q.output false)) ps))
        ++ map shape_of (cond (not (differ b true)) (p ∷ filter (λ q. not (differ q.output true)) ps) (filter (λ q. not (differ q.output true)) ps)))
    by true d a c = insert (shapes_of false ps) (shape_of p) (shapes_of true ps) d a c
    by false d a c = (others_append p.name.text (shapes_of false ps) (shapes_of true ps) a c, d)

others_at : (name : List ℕ) (ss : List Shape) → Others name ss → (k : ℕ) (d : Shape) → k < length ss → (get_or ss k d).name ≢ name
others_at name [] o k d l = absurd (omega arith)
others_at name (s ∷ ss) o zero d l = o.0
others_at name (s ∷ ss) o (suc k) d l = others_at name ss o.1 k d (omega arith)

pairs : (ss : List Shape) → Distinct ss → AllPairs (λ s u. s.name ≢ u.name) ss
pairs [] h i j d l m = absurd (omega arith)
pairs (s ∷ ss) h i zero d l m = absurd (omega arith)
pairs (s ∷ ss) h zero (suc j) d l m = λ e. others_at s.name ss h.0 j d (omega arith) (sym e)
pairs (s ∷ ss) h (suc i) (suc j) d l m = pairs ss h.1 i j d (omega arith) (omega arith)

pub typed_ports : (x : Source) → IsTyped x → ArePorts (slots_named x.params.text) (shapes_of false x.ports) (shapes_of true x.ports)
typed_ports x t =
    let names : All IsName x.ports = names_ok x.ports (named_left (flat_map kept_param x.ports) (flat_map kept_stmt x.body)
    (named_right (kept_ident x.name) (flat_map kept_param x.ports ++ flat_map kept_stmt x.body)
    (named_right (flat_map kept_def x.defs) (kept_ident x.name ++ (flat_map kept_param x.ports ++ flat_map kept_stmt x.body))
    (named_right (kept_ident x.params) (flat_map kept_def x.defs ++ (kept_ident x.name ++ (flat_map kept_param x.ports ++ flat_map kept_stmt x.body))) t.formed.order.named)))) in record {
      few = omega (arith, count x.ports, t.parameters.count);
      inputs_are = shapes_are_ports (slots_named x.params.text) false x.ports t.parameters.lengths names;
      outputs_are = shapes_are_ports (slots_named x.params.text) true x.ports t.parameters.lengths names;
      distinct = pairs (shapes_of false x.ports ++ shapes_of true x.ports) (distinct x.ports t.parameters.distinct);
    }
