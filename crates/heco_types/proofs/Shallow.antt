-- A definition that breaks no rule calls none of depth 8.
use Rattle.std.proofs.Common.{◌≡◌, refl, sym, subst, ℕ, ◌<◌, true, false, List, Option, Some, None, arith}
use Rattle.heco_syntax.specs.Kept.{Kept}
use Rattle.heco_syntax.specs.declared.tree.Expr.{Expr}
use Rattle.heco_types.specs.Expressions.{of_expr}
use Rattle.heco_types.specs.Names.{Name, visible, depth_of}
use Rattle.heco_types.specs.Sites.{first, deepest}
use Rattle.heco_types.specs.Table.{Role, preset_word, parameter, declares, targets, uses, calls, counts, most_calls, depth_by}
use Rattle.heco_types.specs.Typing.{IsFine}
use Rattle.heco_types.specs.declared.context.Context.{Context}
use Rattle.heco_types.specs.declared.name.Entity.{Entity}
use Rattle.heco_types.specs.declared.refusal.TypeErr.{TypeErr}
use Rattle.heco_types.proofs.TypedFacts.{fine_at, nothing-left, nothing-right}
use Rattle.heco_types.proofs.Walks.{Follows, expr-follows}

-- where nothing is found, nothing called goes deeper than 7
abbrev Shallow : Option TypeErr → ℕ → List Kept → Type 0
Shallow found depth ks = found ≡ None → depth < most_calls

same_entity : (a b : Entity) → Some a ≡ Some b → a ≡ b
same_entity a b e = cc

depth_if : (role : Role) (found : Option Entity) → IsFine role found → depth_by role found < most_calls
depth_if (preset_word known) found h = omega arith
depth_if (parameter number) found h = omega arith
depth_if declares found h = omega arith
depth_if (targets indexed) found h = omega arith
depth_if (uses context indexed) found h = omega arith
depth_if (counts value limit equal) found h = omega arith
depth_if (calls context count false) found h = omega arith
depth_if (calls context count true) None h = omega arith
depth_if (calls context count true) (Some e) h = subst (λ (z : Entity). depth_of z.sort < most_calls) (sym (same_entity e h.entity h.visible)) (h.nesting refl)

shallow-follow : Follows first deepest Shallow
shallow-follow = record {
  nothing = λ e. omega arith;
  test = λ s name kind e. depth_if s.role (visible s.names s.text) (fine_at s e);
  next = λ x y u v ks ls a b e. (let p = a (nothing-left x y e) in let q = b (nothing-right x y e) in omega arith);
  skip = λ at x u ks a. a;
}

-- the value of a definition that breaks no rule
pub not_too_deep : (x : Expr) (context : Context) (names : List Name) → of_expr first true x context names ≡ None → of_expr deepest true x context names < 8
not_too_deep x context names e = expr-follows first deepest Shallow shallow-follow true x context names e
