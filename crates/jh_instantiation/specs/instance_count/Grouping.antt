-- Groups and tallies whose formulas are nodes of a table, and whose numbers stay at the greatest count.
use Rattle.std.specs.Prelude.{◌≡◌, ℕ, List, [], ◌∷◌, ◌++◌}
use Rattle.jh_form.specs.Tree.{FormulaTree}
use Rattle.jh_arena.specs.table.Entries.{Listing}
use Rattle.jh_query.specs.queries.Size.{capped}
use Rattle.jh_inst.specs.instances.Count as spec
use Rattle.jh_inst.specs.instances.Prenex.{in_front}
use Rattle.jh_instantiation.specs.skolem_constants.Standing.{IsFormula}
use Rattle.jh_instantiation.specs.declared.instance_count.groups.Group.{Group}
use Rattle.jh_instantiation.specs.declared.instance_count.tallies.Tally.{Tally}

pub record IsGroup (t : Listing) (x : Group) (g : spec.Group) : Type 0 where
  pub formula : IsFormula t x.node g.formula
  pub variables : x.variables ≡ in_front g.formula
  pub many : x.many ≡ capped g.many

abbrev pub AreGroups : Listing → List Group → List spec.Group → Type 0
AreGroups t [] [] = Unit {0}
AreGroups t [] (g ∷ gs) = ⊥
AreGroups t (x ∷ xs) [] = ⊥
AreGroups t (x ∷ xs) (g ∷ gs) = IsGroup t x g × AreGroups t xs gs

-- the universals among formulas, each a group of its own
abbrev pub single_groups : List FormulaTree → List spec.Group
single_groups [] = []
single_groups (a ∷ more) = spec.group a 1 ++ single_groups more

-- the nodes are these formulas, one by one
abbrev pub AreFormulas : Listing → List ℕ → List FormulaTree → Type 0
AreFormulas t [] [] = Unit {0}
AreFormulas t [] (a ∷ more) = ⊥
AreFormulas t (n ∷ ns) [] = ⊥
AreFormulas t (n ∷ ns) (a ∷ more) = IsFormula t n a × AreFormulas t ns more

-- What there is after some rounds: the groups at hand, the puts and the terms.
pub record IsTally (t : Listing) (xs : List Group) (x : Tally) (c : spec.Tally) : Type 0 where
  pub puts : x.puts ≡ capped c.puts
  pub at_hand : AreGroups t xs c.at_hand
  pub terms : x.terms ≡ capped c.terms
