-- Sequents of which a query says all.
use Rattle.std.specs.Prelude.{Bool, true, false, ◌&&◌, List, filter}
use Rattle.std.specs.List.{list_all}
use Rattle.jh_form.specs.Tree.{TermTree, IntTree, SetTree, FormulaTree}
use Rattle.jh_form.specs.Tree as t
use Rattle.jh_query.specs.queries.Named.{is_divisor}
use Rattle.jh_derivation_rules.specs.jh_seq.sequent.Sequents.{HypTree, SequentTree}
use Rattle.jh_approx.specs.definition.Links.{is_kept}
use Rattle.jh_approx.specs.definition.Regions.{unlabelled}

-- null, or a free name
unfoldable pub is_plain_term : TermTree → Bool
is_plain_term (t.free_object x) = true
is_plain_term t.null = true
is_plain_term a = false

-- made of free names, without reads and comprehensions
unfoldable pub is_plain_set : SetTree → Bool
is_plain_set (t.free_set x) = true
is_plain_set t.empty = true
is_plain_set t.univ = true
is_plain_set (t.single a) = is_plain_term a
is_plain_set (t.union a b) = is_plain_set a && is_plain_set b
is_plain_set (t.inter a b) = is_plain_set a && is_plain_set b
is_plain_set (t.diff a b) = is_plain_set a && is_plain_set b
is_plain_set (t.compl a) = is_plain_set a
is_plain_set a = false

unfoldable pub is_plain_number : IntTree → Bool
is_plain_number (t.const z) = true
is_plain_number (t.free_number x) = true
is_plain_number (t.add a b) = is_plain_number a && is_plain_number b
is_plain_number (t.sub a b) = is_plain_number a && is_plain_number b
is_plain_number (t.neg a) = is_plain_number a
is_plain_number (t.scale z a) = is_plain_number a
is_plain_number (t.card a) = is_plain_set a
is_plain_number a = false

-- without reads, updates, comprehensions, quantifiers, reachability and trees, and without dividing by a number below 1
unfoldable pub is_plain_formula : FormulaTree → Bool
is_plain_formula t.true_formula = true
is_plain_formula t.false_formula = true
is_plain_formula (t.free_truth x) = true
is_plain_formula (t.negation a) = is_plain_formula a
is_plain_formula (t.and a b) = is_plain_formula a && is_plain_formula b
is_plain_formula (t.or a b) = is_plain_formula a && is_plain_formula b
is_plain_formula (t.implies a b) = is_plain_formula a && is_plain_formula b
is_plain_formula (t.iff a b) = is_plain_formula a && is_plain_formula b
is_plain_formula (t.eq_object a b) = is_plain_term a && is_plain_term b
is_plain_formula (t.eq_number a b) = is_plain_number a && is_plain_number b
is_plain_formula (t.eq_set a b) = is_plain_set a && is_plain_set b
is_plain_formula (t.less a b) = is_plain_number a && is_plain_number b
is_plain_formula (t.less_equal a b) = is_plain_number a && is_plain_number b
is_plain_formula (t.divides z a) = is_divisor z && is_plain_number a
is_plain_formula (t.member a b) = is_plain_term a && is_plain_set b
is_plain_formula (t.subset a b) = is_plain_set a && is_plain_set b
is_plain_formula (t.mark k a) = is_plain_formula a
is_plain_formula a = false

-- the hypotheses that the query keeps, without labels
abbrev pub kept_hyps : SequentTree → List HypTree
kept_hyps s = filter (is_kept (unlabelled s)) (unlabelled s).hyps

-- The goal and the hypotheses that are kept are plain.
abbrev pub is_plain : SequentTree → Bool
is_plain s = list_all (λ (h : HypTree). is_plain_formula h.fact) (kept_hyps s) && is_plain_formula (unlabelled s).goal
