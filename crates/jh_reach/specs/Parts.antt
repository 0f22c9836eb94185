-- What axioms say of one field of a list.
use Rattle.std.specs.Prelude.{List}
use Rattle.jh_form.specs.Tree.{FieldTree, FormulaTree}
use Rattle.jh_reach.specs.declared.parts.Part.{Part}
use Rattle.jh_reach.specs.declared.parts.Part.TheVariants as p
use Rattle.jh_reach.specs.Axioms.{ends_at_null, reaches_child, child_reaches, leads_there, leads_not_back, has_one_parent}

unfoldable pub part_tree : Part → List FieldTree → FieldTree → FormulaTree
part_tree p.EndsAtNull fs f = ends_at_null f
part_tree p.ReachesChild fs f = reaches_child fs f
part_tree p.ChildReaches fs f = child_reaches fs f
part_tree p.LeadsThere fs f = leads_there f
part_tree p.LeadsNotBack fs f = leads_not_back fs f
part_tree p.HasOneParent fs f = has_one_parent f
