-- Which hypotheses of a sequent its query keeps.
use Rattle.std.specs.Prelude.{ℕ, zero, suc, ◌==◌, Bool, true, false, not, ◌&&◌, ◌||◌, if◌then◌else◌, length, List, [], ◌++◌, map, filter, Option, None, Some}
use Rattle.std.specs.List.{list_any, flat_map}
use Rattle.jh_name.specs.declared.naming.Name.{Name}
use Rattle.jh_name.specs.declared.place.Sort as place
use Rattle.jh_name.specs.declared.place.Sort.TheVariants as Sort
use Rattle.jh_form.specs.Tree.{ValueTree, FormulaTree, of_object, of_number, of_truth, of_set, of_field}
use Rattle.jh_form.specs.Tree as t
use Rattle.jh_form.specs.Passing.{formula_passes, name_equal}
use Rattle.jh_boxed_operations.specs.comparison.Exchanged.{equal_trees}
use Rattle.jh_derivation_rules.specs.jh_seq.sequent.Sequents.{HypTree, SequentTree}
use Rattle.jh_approx.specs.definition.Shown.{shown}
use Rattle.jh_approx.specs.definition.Names.{names}

-- `alloc` and the sets of the objects of a class are the free sets whose text has no dot
unfoldable pub is_class_set : Name → Bool
is_class_set x = not (list_any (λ b. b == 46) x.text)

unfoldable pub at_set : place.Sort → Bool
at_set Sort.Set = true
at_set s = false

abbrev pub is_set_of_class : Name → place.Sort → Bool
is_set_of_class x s = at_set s && is_class_set x

-- whether a free set stands in a formula, wherever it does
unfoldable pub reads_set : FormulaTree → Name → Bool
reads_set a x = not (formula_passes a (λ y s. not (at_set s && name_equal x y)))

-- each of `alloc` and the class sets that stand in a formula stands in the goal
unfoldable pub reads_within : FormulaTree → FormulaTree → Bool
reads_within goal a = formula_passes a (λ x s. not (is_set_of_class x s) || reads_set goal x)

-- no free name of any sort stands in a formula but `alloc` and class sets
unfoldable pub is_nameless : FormulaTree → Bool
is_nameless a = formula_passes a is_set_of_class

-- Names that link a hypothesis to what shares one with it: sets but `alloc` and class sets, and numbers.
unfoldable pub links : ValueTree → Bool
links (of_set (t.free_set x)) = not (is_class_set x)
links (of_set a) = true
links (of_number a) = true
links v = false

-- where the goal has no such name, flags and objects but null link as well
unfoldable pub links_more : ValueTree → Bool
links_more (of_truth a) = true
links_more (of_object t.null) = false
links_more (of_object a) = true
links_more v = links v

abbrev pub goal_names : SequentTree → List ValueTree
goal_names s = names (shown s.goal true)

unfoldable pub is_linking : SequentTree → ValueTree → Bool
is_linking s v = if list_any links (goal_names s) then links v else links_more v

-- the names by which a hypothesis is linked
unfoldable pub fact_links : SequentTree → FormulaTree → List ValueTree
fact_links s a = filter (is_linking s) (names (shown a false))

unfoldable pub shares : List ValueTree → List ValueTree → Bool
shares vs ws = list_any (λ v. list_any (equal_trees v) ws) vs

-- the names that are reached from some by so many facts, each of which shares a name with what was reached before
unfoldable pub reached : ℕ → List (List ValueTree) → List ValueTree → List ValueTree
reached zero facts known = known
reached (suc n) facts known = reached n facts (known ++ flat_map (λ vs. if shares vs known then vs else []) facts)

-- a fact is linked where it shares a linking name with the goal or with a linked hypothesis
unfoldable pub is_linked : SequentTree → FormulaTree → Bool
is_linked s a = shares (fact_links s a) (reached (length s.hyps) (map (λ h. fact_links s h.fact) s.hyps) (filter (is_linking s) (goal_names s)))

unfoldable pub named_in : List Name → Option Name → Bool
named_in ws None = false
named_in ws (Some x) = list_any (name_equal x) ws

-- Which hypotheses are kept: where the goal names facts, those of these names. Else a hypothesis that reads none of
-- `alloc` and the class sets but those of the goal, and is linked, or says nothing of any other name.
unfoldable pub is_kept : SequentTree → HypTree → Bool
is_kept s h =
    if length s.mark.from == 0 then reads_within s.goal h.fact && (is_linked s h.fact || is_nameless h.fact)
    else named_in s.mark.from h.name
