-- How a row stores its items, so that a type may hold rows of itself.
use mathlib.Core.Path.{◌≡◌, refl, sym}
use mathlib.Core.List.{List, []}
use mathlib.Core.Former.{Former, this, list, via, children}
use base.Stored.{code_map}
use denote.RattleType.{RattleType}
use denote.HoleLaws.{Alike}
use denote.HolePlaces.{Recodes, struct_places, laid}
use denote.Hole.Carrier.{listed, list-listed}
use denote.Hole.Fix.{over}
use denote.Param.Weighed.{Weighed, w_list}
use denote.Model.Placed.{view_places}
use Rattle.std.specs.formers.vec.Vec as vec
use Rattle.std.specs.declared.alloc.Global.{Global}
use Rattle.std.specs.contracts.alloc.Global as heap
use Rattle.std.specs.contracts.impls.GlobalAllocator.TheImpl.{ghosts}
use Rattle.jh_name.specs.declared.row.Row.TheInside.{Inside}
use Rattle.jh_name.specs.declared.row.Row.TheView.{view, invariant}
use Rattle.jh_name.specs.contracts.row.Row as row
use Rattle.jh_name.specs.contracts.row.Row.TheInside as fields

-- a row of what g holds is a list of it
abbrev pub the_former : Former {0} → Former {0}
the_former g = list g

abbrev pub the_weighed : {g : Former {0}} → Weighed g → Weighed (the_former g)
the_weighed w = w_list w

pub the_empty : List ⊥
the_empty = []

abbrev pub the_items : (X : Type 0) → List X → List X
the_items X items = items

pub the_items_listed : (X : Type 0) (items : List X) → listed _ (children (the_former this) X items) ≡ the_items X items
the_items_listed X items = list-listed X items

-- the one field of the struct, a vector, as it stores the items
abbrev stored : Former {0}
stored = via (vec.the_former this Global) Inside (λ X inside. inside.items) (λ X items. record { items = items }) (λ X inside. refl) (λ X items. refl)

module _ (R S : RattleType) (h : R.Denot → S.Denot) where
  pub the_places : Alike R S h → Alike (row.the_row R) (row.the_row S) ((the_former this).map R.Denot S.Denot h)
  the_places alike = view_places stored (list this) view (λ X Y k u. refl) (λ X u. refl) R.Denot S.Denot h (row.the_row R).coded (row.the_row S).coded
      (invariant R.Denot) (invariant S.Denot) (λ u p q. refl) (λ u p q. refl) (λ u e. tt) (λ u e. tt)
      (over (fields.the_row R)) (over (fields.the_row S))
      (struct_places (fields.the_type R) (fields.the_type S) (vec.mapped h, tt) _ (λ d. refl) refl (laid _ _ _ (vec.the_places heap.the_row ghosts R S h alike), tt))

  pub the_codes_placed : Recodes R S h → Recodes (row.the_row R) (row.the_row S) ((the_former this).map R.Denot S.Denot h)
  the_codes_placed recodes items = sym (code_map R.coded.code S.coded.code h (λ x. sym (recodes x)) items)
