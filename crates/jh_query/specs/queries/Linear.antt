-- A number as a sum over the rests of regions and over numbers.
use Rattle.std.specs.Prelude.{ℕ, ◌==◌, if◌then◌else◌, List, pos}
use Rattle.jh_query.specs.declared.queries.reading.Part.{Part}
use Rattle.jh_query.specs.declared.queries.reading.Part.TheVariants.{Rest, Number, Constant, Placed}
use Rattle.jh_query.specs.declared.queries.sizes.Spot.{Spot}
use Rattle.jh_query.specs.queries.Truth.{Reading, classes_in, rest_lies}

-- the factor of the rest of region r: a set that the rest lies inside counts its objects once
abbrev pub rest_factor : ℕ → Reading
rest_factor r = record { card = λ s. if rest_lies r s then pos 1 else pos 0; number = λ l. pos 0; constant = λ c. pos 0 }

-- the factor of number l
abbrev pub number_factor : ℕ → Reading
number_factor l = record { card = λ s. pos 0; number = λ j. if j == l then pos 1 else pos 0; constant = λ c. pos 0 }

-- what is left where all rests and numbers are 0, and no classes are counted
abbrev pub constant_part : Reading
constant_part = record { card = λ s. pos 0; number = λ l. pos 0; constant = λ c. c }

-- what is left where all rests and numbers are 0: the classes are counted
abbrev pub placed_part : List Spot → Reading
placed_part spots = record { card = λ s. pos (classes_in spots s); number = λ l. pos 0; constant = λ c. c }

abbrev pub picked : Part → Reading
picked (Rest r) = rest_factor r
picked (Number l) = number_factor l
picked Constant = constant_part
picked (Placed spots) = placed_part spots.now
