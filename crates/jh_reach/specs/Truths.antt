-- That the axioms are true.
use Rattle.std.specs.Prelude.{◌≡◌, ℕ, suc, ◌<◌, true, List, [], Option, Some, None, length, slice_get}
use Rattle.std.specs.List.{All}
use Rattle.jh_form.specs.Tree.{FieldTree, FormulaTree, of_object}
use Rattle.jh_form.specs.Tree as t
use Rattle.jh_form.specs.Closed.{is_closed_term, is_closed_field}
use Rattle.jh_form.specs.Meaning.{Interp, InUniverse, field_value, truth}
use Rattle.jh_reach.specs.Axioms.{BaseTree, BackboneTree, axioms_of}

-- no field of the list has loose bound variables
abbrev pub AreClosed : List FieldTree → Type 0
AreClosed fs = (i : ℕ) (f : FieldTree) → slice_get fs i ≡ Some f → is_closed_field f 0 ≡ true

-- The place is in the list, and the parts have no loose bound variables.
pub record IsBase (fs : List FieldTree) (u : BaseTree) : Type 0 where
  pub place : u.place < length fs
  pub field : is_closed_field u.field 0 ≡ true
  pub at : is_closed_term u.at 0 ≡ true
  pub value : is_closed_term u.value 0 ≡ true

-- In the interpretation the member at the base's place leads from each object where the update leads.
abbrev pub IsThatUpdate : Interp → List FieldTree → BaseTree → Type 0
IsThatUpdate m fs u =
    (g : FieldTree) → slice_get fs u.place ≡ Some g → (x : ℕ) → x < suc m.last →
    (field_value g m []).objects x ≡ (field_value (t.update u.field u.at (of_object u.value)) m []).objects x

-- what is asked of a base, where there is one
abbrev pub OfBase : (BaseTree → Type 0) → Option BaseTree → Type 0
OfBase P None = Unit {0}
OfBase P (Some u) = P u

-- Each axiom of a backbone is true in every interpretation in which its changed member is that update.
abbrev pub AxiomsAreTrue : Type 0
AxiomsAreTrue =
    (b : BackboneTree) → AreClosed b.fields → OfBase (IsBase b.fields) b.base → (m : Interp) → InUniverse m → OfBase (IsThatUpdate m b.fields) b.base → (e : List ℕ) →
    All (λ a. truth a m e ≡ true) (axioms_of b)
