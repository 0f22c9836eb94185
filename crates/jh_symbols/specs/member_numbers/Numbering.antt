-- The number of a member.
use Rattle.std.specs.Prelude.{ℕ, List, Option, slice_get}
use Rattle.indexmap.specs.IndexMap.{get_by_text}
use Rattle.jh_rules.specs.Names.{◌then◌}
use Rattle.jh_symbols.specs.declared.member_numbers.numbers.Numbers.{Numbers}

-- the number of a member of a class
abbrev pub number_in : Numbers → ℕ → List ℕ → Option ℕ
number_in m c x = slice_get m.maps.items c then λ known. get_by_text known x
