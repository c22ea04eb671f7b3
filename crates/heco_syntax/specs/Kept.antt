-- What a tree keeps of its tokens, in text order: each place, and the text of each name.
use Rattle.std.specs.Prelude.{◌≡◌, ◌⊎◌, ◌<◌, ◌≤◌, ◌^◌, ℕ, List, [], ◌∷◌, ◌++◌, Option, Some, None, true, length}
use Rattle.std.specs.List.{flat_map}
use Rattle.heco_lex.specs.declared.place.Place.{Place}
use Rattle.heco_nums.specs.Words.{is_word}
use Rattle.heco_syntax.specs.declared.tree.Expr.{Expr, fold-Expr}
use Rattle.heco_syntax.specs.declared.tree.Expr.TheOpen.{Expr-F, SumPart-F, ProdPart-F}
use Rattle.heco_syntax.specs.declared.tree.Def.{Def}
use Rattle.heco_syntax.specs.declared.tree.Ident.{Ident}
use Rattle.heco_syntax.specs.declared.tree.Num.{Num}
use Rattle.heco_syntax.specs.declared.tree.Param.{Param}
use Rattle.heco_syntax.specs.declared.tree.ProdPart.{ProdPart, fold-ProdPart}
use Rattle.heco_syntax.specs.declared.tree.Source.{Source}
use Rattle.heco_syntax.specs.declared.tree.Stmt.{Stmt, fold-Stmt}
use Rattle.heco_syntax.specs.declared.tree.Stmt.TheOpen.{Stmt-F}
use Rattle.heco_syntax.specs.declared.tree.SumPart.{SumPart, fold-SumPart}

pub record Kept : Type 0 where
  pub name : Option (List ℕ)
  pub at : Place

abbrev pub kept_place : Place → List Kept
kept_place place = record { name = None; at = place } ∷ []

abbrev pub kept_ident : Ident → List Kept
kept_ident id = record { name = Some id.text; at = id.at } ∷ []

abbrev pub kept_num : Num → List Kept
kept_num n = kept_place n.at

abbrev pub kept_step : Expr-F (List Kept) (List Kept) (List Kept) → List Kept
kept_step (Expr-F.Lit n) = kept_num n
kept_step (Expr-F.One id) = kept_ident id
kept_step (Expr-F.Item id index) = kept_ident id ++ index
kept_step (Expr-F.Neg place of) = kept_place place ++ of
kept_step (Expr-F.Sum first rest) = first ++ flat_map (λ p. p) rest
kept_step (Expr-F.Prod first rest) = first ++ flat_map (λ p. p) rest
kept_step (Expr-F.Call id args) = kept_ident id ++ flat_map (λ a. a) args

abbrev pub kept_sum_step : SumPart-F (List Kept) (List Kept) (List Kept) → List Kept
kept_sum_step p = kept_place p.at ++ p.of

abbrev pub kept_product_step : ProdPart-F (List Kept) (List Kept) (List Kept) → List Kept
kept_product_step p = kept_place p.at ++ p.of

abbrev pub kept_expr : Expr → List Kept
kept_expr x = fold-Expr (List Kept) (List Kept) (List Kept) kept_step kept_product_step kept_sum_step x

abbrev pub kept_sum_part : SumPart → List Kept
kept_sum_part p = fold-SumPart (List Kept) (List Kept) (List Kept) kept_step kept_product_step kept_sum_step p

abbrev pub kept_product_part : ProdPart → List Kept
kept_product_part p = fold-ProdPart (List Kept) (List Kept) (List Kept) kept_step kept_product_step kept_sum_step p

abbrev pub kept_some : {A : Type 0} → (A → List Kept) → Option A → List Kept
kept_some f None = []
kept_some f (Some x) = f x

abbrev pub kept_stmt_step : Stmt-F (List Kept) → List Kept
kept_stmt_step (Stmt-F.IntOne place name value) = kept_place place ++ (kept_ident name ++ kept_expr value)
kept_stmt_step (Stmt-F.IntMany place name len values) = kept_place place ++ (kept_ident name ++ (kept_num len ++ flat_map kept_expr values))
kept_stmt_step (Stmt-F.SecretOne place name value) = kept_place place ++ (kept_ident name ++ kept_some kept_expr value)
kept_stmt_step (Stmt-F.SecretMany place name len) = kept_place place ++ (kept_ident name ++ kept_num len)
kept_stmt_step (Stmt-F.Set name index op op_at value) = kept_ident name ++ (kept_some kept_expr index ++ (kept_place op_at ++ kept_expr value))
kept_stmt_step (Stmt-F.Loop place name low high body) = kept_place place ++ (kept_ident name ++ (kept_expr low ++ (kept_expr high ++ flat_map (λ p. p) body)))
kept_stmt_step (Stmt-F.Choice place test body other) = kept_place place ++ (kept_expr test ++ (flat_map (λ p. p) body ++ kept_some (flat_map (λ p. p)) other))

abbrev pub kept_stmt : Stmt → List Kept
kept_stmt x = fold-Stmt (List Kept) kept_stmt_step x

abbrev pub kept_param : Param → List Kept
kept_param p = kept_ident p.name ++ kept_some kept_num p.len

abbrev pub kept_def : Def → List Kept
kept_def d = kept_place d.at ++ (kept_ident d.name ++ (flat_map kept_ident d.params ++ kept_expr d.value))

abbrev pub kept_source : Source → List Kept
kept_source x = kept_ident x.params ++ (flat_map kept_def x.defs ++ (kept_ident x.name ++ (flat_map kept_param x.ports ++ flat_map kept_stmt x.body)))

-- the one place comes before the other
abbrev pub Before : Place → Place → Type 0
Before p q = (p.line < q.line) ⊎ ((p.line ≡ q.line) × (p.col < q.col))

-- the places rise, from behind a place on
abbrev pub RiseFrom : Place → List Kept → Type 0
RiseFrom p [] = Unit {0}
RiseFrom p (x ∷ xs) = Before p x.at × RiseFrom x.at xs

abbrev pub AreRising : List Kept → Type 0
AreRising [] = Unit {0}
AreRising (x ∷ xs) = RiseFrom x.at xs

-- a name is a Word of at most 2^20 bytes
abbrev pub IsNamed : Kept → Type 0
IsNamed x = (text : List ℕ) → x.name ≡ Some text → (is_word text ≡ true) × (length text ≤ 2 ^ 20)

abbrev pub AllNamed : List Kept → Type 0
AllNamed [] = Unit {0}
AllNamed (x ∷ xs) = IsNamed x × AllNamed xs

-- the names of the tree are Words and its places rise in text order
pub record IsInOrder (x : Source) : Type 0 where
  pub named : AllNamed (kept_source x)
  pub rising : AreRising (kept_source x)
