-- The query of a sequent.
use Rattle.std.specs.Prelude.{true, false, length, List, ◌++◌, map, filter}
use Rattle.std.specs.List.{flat_map}
use Rattle.jh_form.specs.Tree.{FormulaTree}
use Rattle.jh_boxed_operations.specs.comparison.Unmarked.{unmarked_formula}
use Rattle.jh_query.specs.queries.Tree.{QueryTree}
use Rattle.jh_derivation_rules.specs.jh_seq.sequent.Sequents.{HypTree, SequentTree}
use Rattle.jh_approx.specs.definition.Shown.{shown}
use Rattle.jh_approx.specs.definition.Names.{NameLists, names, listed}
use Rattle.jh_approx.specs.definition.Links.{is_kept}
use Rattle.jh_approx.specs.definition.Told.{told}

-- the sequent without labels in its formulas
unfoldable pub unlabelled : SequentTree → SequentTree
unlabelled s = record {
  method = s.method;
  mark = s.mark;
  hyps = map (λ (h : HypTree). record { name = h.name; fact = unmarked_formula h.fact }) s.hyps;
  goal = unmarked_formula s.goal;
}

-- what the query can say of the hypotheses that it keeps
unfoldable pub kept_facts : SequentTree → List FormulaTree
kept_facts s = map (λ h. shown h.fact false) (filter (is_kept s) s.hyps)

unfoldable pub query_over : List FormulaTree → FormulaTree → NameLists → QueryTree
query_over facts goal n = record {
  sets = length n.sets;
  elements = length n.elements;
  numbers = length n.numbers;
  flags = length n.flags;
  hyps = map (told n) facts;
  goal = told n goal;
}

unfoldable pub query_from : List FormulaTree → FormulaTree → QueryTree
query_from facts goal = query_over facts goal (listed (flat_map names facts ++ names goal))

-- The query of a sequent: of the hypotheses that it keeps and the goal what it can say, over the names that are left, in the order
-- in which they first stand there. Where it is true, the sequent is valid.
unfoldable pub bapa_of : SequentTree → QueryTree
bapa_of s = let bare = unlabelled s in query_from (kept_facts bare) (shown bare.goal true)
