-- Labels that name a fact.
use Rattle.std.specs.Prelude.{◌≡◌, ℕ, Some, slice_get}
use Rattle.jh_name.specs.declared.naming.Name.{Name}
use Rattle.jh_form.specs.declared.mark.Mark.{Mark}
use Rattle.jh_arena.specs.table.Entries.{Listing}

-- the label of a number has a name
pub record IsNamed (t : Listing) (number : ℕ) (name : Name) : Type 0 where
  pub mark : Mark
  pub there : slice_get t.pools.marks number ≡ Some mark
  pub name_is : mark.name ≡ Some name
