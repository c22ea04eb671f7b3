-- Trees up to places: the same tree with each place set to one.
use Rattle.std.specs.Prelude.{◌≡◌, List, [], ◌∷◌, map, Option, Some, None}
use Rattle.heco_lex.specs.declared.place.Place.{Place}
use Rattle.heco_syntax.specs.declared.lexeme.Lexeme.{Lexeme}
use Rattle.heco_syntax.specs.declared.tree.Def.{Def}
use Rattle.heco_syntax.specs.declared.tree.Ident.{Ident}
use Rattle.heco_syntax.specs.declared.tree.Num.{Num}
use Rattle.heco_syntax.specs.declared.tree.Param.{Param}
use Rattle.heco_syntax.specs.declared.tree.Source.{Source}
use Rattle.heco_syntax.specs.declared.tree.Stmt.{Stmt, fold-Stmt}
use Rattle.heco_syntax.specs.declared.tree.Stmt.TheVariants as s
use Rattle.heco_syntax.specs.declared.tree.Stmt.TheOpen.{Stmt-F}
use Rattle.heco_syntax.specs.declared.tree.Expr.{Expr, fold-Expr}
use Rattle.heco_syntax.specs.declared.tree.Expr.TheVariants as e
use Rattle.heco_syntax.specs.declared.tree.SumPart.{SumPart, fold-SumPart, roll-SumPart}
use Rattle.heco_syntax.specs.declared.tree.ProdPart.{ProdPart, fold-ProdPart, roll-ProdPart}
use Rattle.heco_syntax.specs.declared.tree.Expr.TheOpen.{Expr-F, SumPart-F, ProdPart-F}

abbrev pub nowhere : Place
nowhere = record { line = 1; col = 1 }

abbrev pub bare_ident : Ident → Ident
bare_ident id = record { text = id.text; at = nowhere }

abbrev pub bare_num : Num → Num
bare_num n = record { value = n.value; at = nowhere }

abbrev pub bare_step : Expr-F Expr ProdPart SumPart → Expr
bare_step (Expr-F.Lit n) = e.Lit (bare_num n)
bare_step (Expr-F.One id) = e.One (bare_ident id)
bare_step (Expr-F.Item id x) = e.Item (bare_ident id) x
bare_step (Expr-F.Neg at x) = e.Neg nowhere x
bare_step (Expr-F.Sum first rest) = e.Sum first rest
bare_step (Expr-F.Prod first rest) = e.Prod first rest
bare_step (Expr-F.Call id args) = e.Call (bare_ident id) args

abbrev pub bare_sum_step : SumPart-F Expr ProdPart SumPart → SumPart
bare_sum_step p = roll-SumPart (record { minus = p.minus; at = nowhere; of = p.of })

abbrev pub bare_product_step : ProdPart-F Expr ProdPart SumPart → ProdPart
bare_product_step p = roll-ProdPart (record { at = nowhere; of = p.of })

abbrev pub bare : Expr → Expr
bare x = fold-Expr Expr ProdPart SumPart bare_step bare_product_step bare_sum_step x

abbrev pub bare_sum_part : SumPart → SumPart
bare_sum_part p = fold-SumPart Expr ProdPart SumPart bare_step bare_product_step bare_sum_step p

abbrev pub bare_product_part : ProdPart → ProdPart
bare_product_part p = fold-ProdPart Expr ProdPart SumPart bare_step bare_product_step bare_sum_step p

abbrev pub bare_some : {A : Type 0} → (A → A) → Option A → Option A
bare_some f None = None
bare_some f (Some x) = Some (f x)

abbrev pub bare_stmt_step : Stmt-F Stmt → Stmt
bare_stmt_step (Stmt-F.IntOne at name value) = s.IntOne nowhere (bare_ident name) (bare value)
bare_stmt_step (Stmt-F.IntMany at name len values) = s.IntMany nowhere (bare_ident name) (bare_num len) (map bare values)
bare_stmt_step (Stmt-F.SecretOne at name value) = s.SecretOne nowhere (bare_ident name) (bare_some bare value)
bare_stmt_step (Stmt-F.SecretMany at name len) = s.SecretMany nowhere (bare_ident name) (bare_num len)
bare_stmt_step (Stmt-F.Set name index op op_at value) = s.Set (bare_ident name) (bare_some bare index) op nowhere (bare value)
bare_stmt_step (Stmt-F.Loop at name low high body) = s.Loop nowhere (bare_ident name) (bare low) (bare high) body
bare_stmt_step (Stmt-F.Choice at test body other) = s.Choice nowhere (bare test) body other

abbrev pub bare_stmt : Stmt → Stmt
bare_stmt x = fold-Stmt Stmt bare_stmt_step x

abbrev pub bare_param : Param → Param
bare_param p = record { output = p.output; name = bare_ident p.name; len = bare_some bare_num p.len }

abbrev pub bare_def : Def → Def
bare_def d = record { at = nowhere; name = bare_ident d.name; params = map bare_ident d.params; value = bare d.value }

abbrev pub bare_source : Source → Source
bare_source x = record {
  params = bare_ident x.params;
  defs = map bare_def x.defs;
  name = bare_ident x.name;
  ports = map bare_param x.ports;
  body = map bare_stmt x.body;
}

-- the same but for the place
pub record IsLike (t u : Lexeme) : Type 0 where
  pub kind : u.kind ≡ t.kind
  pub text : u.text ≡ t.text
  pub value : u.value ≡ t.value

pub data Alike : List Lexeme → List Lexeme → Type 0 where
  alike_nil : Alike [] []
  alike : {t u : Lexeme} {ts us : List Lexeme} → IsLike t u → Alike ts us → Alike (t ∷ ts) (u ∷ us)
