-- The parts of a shape as a list.
use Rattle.std.specs.Prelude.{ℕ, List, [], ◌∷◌}
use Rattle.jh_arena.specs.declared.table.shapes.Own.{Own}
use Rattle.jh_arena.specs.declared.table.shapes.Own.TheVariants as own

abbrev pub own_list : Own → List ℕ
own_list own.None = []
own_list (own.One a) = a ∷ []
own_list (own.Two a b) = a ∷ b ∷ []
own_list (own.Three a b c) = a ∷ b ∷ c ∷ []
