-- `List` may stand inside a type that leads back to itself: how it holds its items.
use mathlib.Core.Path.{◌≡◌, refl, sym}
use mathlib.Core.List.{List as Seq, []}
use mathlib.Core.Former.{Former, this, list, via, children}
use base.Stored.{code_map}
use denote.RattleType.{RattleType}
use denote.HoleLaws.{Alike}
use denote.HolePlaces.{Recodes, struct_places, laid}
use denote.Hole.Carrier.{listed, list-listed}
use denote.Hole.Fix.{over}
use denote.Param.Weighed.{Weighed, w_list}
use denote.Model.Placed.{view_places}
use Rattle.std.specs.formers.vec.Vec as vec
use Rattle.std.specs.declared.alloc.Global.{Global}
use Rattle.std.specs.contracts.alloc.Global as heap
use Rattle.std.specs.contracts.impls.GlobalAllocator.TheImpl.{ghosts}
use Rattle.heco_nums.specs.declared.list.List.TheInside.{Inside}
use Rattle.heco_nums.specs.declared.list.List.TheView.{view, invariant}
use Rattle.heco_nums.specs.contracts.list.List as whole
use Rattle.heco_nums.specs.contracts.list.List.TheInside as inside

abbrev pub the_former : Former {0} → Former {0}
the_former g = list g

abbrev pub the_weighed : {g : Former {0}} → Weighed g → Weighed (the_former g)
the_weighed w = w_list w

pub the_empty : Seq ⊥
the_empty = []

abbrev pub the_items : (X : Type 0) → Seq X → Seq X
the_items X items = items

pub the_items_listed : (X : Type 0) (items : Seq X) → listed _ (children (the_former this) X items) ≡ the_items X items
the_items_listed X items = list-listed X items

-- the one field, a `Vec` on the heap
abbrev held : Former {0}
held = via (vec.the_former this Global) Inside (λ X s. s.items) (λ X v. record { items = v }) (λ X s. refl) (λ X v. refl)

module _ (From To : RattleType) (h : From.Denot → To.Denot) where
  pub the_places : Alike From To h → Alike (whole.the_row From) (whole.the_row To) ((the_former this).map From.Denot To.Denot h)
  the_places same = view_places held (list this) view (λ X Y k u. refl) (λ X u. refl) From.Denot To.Denot h (whole.the_row From).coded (whole.the_row To).coded
      (invariant From.Denot) (invariant To.Denot) (λ u p q. refl) (λ u p q. refl) (λ u e. tt) (λ u e. tt)
      (over (inside.the_row From)) (over (inside.the_row To))
      (struct_places (inside.the_type From) (inside.the_type To) (vec.mapped h, tt) _ (λ d. refl) refl (laid _ _ _ (vec.the_places heap.the_row ghosts From To h same), tt))

  pub the_codes_placed : Recodes From To h → Recodes (whole.the_row From) (whole.the_row To) ((the_former this).map From.Denot To.Denot h)
  the_codes_placed e items = sym (code_map From.coded.code To.coded.code h (λ x. sym (e x)) items)
