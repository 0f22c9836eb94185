-- Sorts whose terms can be equated.
use Rattle.std.specs.Prelude.{Bool, true, false}
use Rattle.jh_name.specs.declared.place.Sort as place
use Rattle.jh_name.specs.declared.place.Sort.TheVariants as Sort

-- whether two sorts are one, and not that of fields
unfoldable pub equatable : place.Sort → place.Sort → Bool
equatable Sort.Obj Sort.Obj = true
equatable Sort.Int Sort.Int = true
equatable Sort.Bool Sort.Bool = true
equatable Sort.Set Sort.Set = true
equatable _ _ = false
