-- A source that breaks a rule has one first broken rule.
use Rattle.std.proofs.Common.{◌≡◌, ◌≢◌, ◌⊎◌, inl, inr, refl, ap, ◌≤◌, List, Result, Ok, Err, arith}
use Rattle.std.specs.Prelude.{IfErr, OnOk}
use Rattle.heco_lex.specs.declared.place.Place.{Place}
use Rattle.heco_lex.specs.declared.rule.Rule.{Rule}
use Rattle.heco_syntax.proofs.PlaceOrder.{before_trans}
use Rattle.heco_syntax.specs.Kept.{Before}
use Rattle.heco_syntax.specs.declared.tree.Source.{Source}
use Rattle.heco_types.specs.FirstBroken.{IsFirstOf, BreaksNone, IsCause}
use Rattle.heco_types.specs.Names.{visible}
use Rattle.heco_types.specs.Sites.{Site}
use Rattle.heco_types.specs.Table.{row}
use Rattle.heco_types.specs.declared.refusal.TypeErr.{TypeErr}
use Rattle.heco_types.specs.declared.refusal.TypeErr.TheVariants.{At, Memory}
use Rattle.heco_types.proofs.TableFacts.{same_row}

not_before_itself : (p q : Place) → p ≡ q → Before p q → ⊥
not_before_itself p q e (inl less) = (let same = ap (λ z. z.line) e in omega arith)
not_before_itself p q e (inr less) = (let same = ap (λ z. z.col) e in let behind = less.1 in omega arith)

module _ (ss : List Site) (r s : Rule) (p q : Place) (a : IsFirstOf ss r p) (b : IsFirstOf ss s q) where
  same_rule : row r ≤ row s → row s ≤ row r → r ≡ s
  same_rule le ge =
      let x = a.broken.site in
      let y = b.broken.site in
      same_row r s x.role y.role (visible x.names x.text) (visible y.names y.text) a.broken.breaks b.broken.breaks (omega arith)

  pub one_first : At r p ≡ At s q
  one_first = elim (a.least s q b.broken) [
    | inl early ↦ elim (b.least r p a.broken) [
      | inl late ↦ absurd (not_before_itself p p refl (before_trans p q p early late))
      | inr h ↦ absurd (not_before_itself p q h.0 early)
    ]
    | inr h ↦ elim (b.least r p a.broken) [
      | inl late ↦ absurd (not_before_itself q p h.0 late)
      | inr k ↦ (let rule = same_rule h.1 k.1 in let place : p ≡ q = k.0 in cc)
    ]
  ]

pub refuses : (x : Source) (res : Result Source TypeErr) → OnOk res (BreaksNone x) → IfErr res (IsCause x) → (err : TypeErr) → err ≢ Memory → IsCause x err → (res ≡ Err err) ⊎ (res ≡ Err Memory)
refuses x res none cause Memory real is = absurd (real refl)
refuses x (Ok t) none cause (At rule at) real is = absurd (none rule at is.broken)
refuses x (Err Memory) none cause (At rule at) real is = inr refl
refuses x (Err (At r p)) none cause (At s q) real is = inl (ap Err (one_first _ r s p q cause is))
