-- Queries worked by hand.
use Rattle.std.proofs.Common.{◌≡◌, refl, true, false, List, [], ◌∷◌, None, Some, pos, negsuc}
use Rattle.std.specs.Prelude.{codes, ℕ}
use Rattle.jh_name.specs.declared.naming.Name.{Name}
use Rattle.jh_form.specs.declared.mark.Mark.{Mark}
use Rattle.jh_form.specs.declared.mark.MarkKind.TheVariants as kind
use Rattle.jh_form.specs.Tree.{TermTree, IntTree, SetTree, FieldTree, ValueTree, FormulaTree}
use Rattle.jh_form.specs.Tree as t
use Rattle.jh_query.specs.queries.Tree.{QueryTree, CondTree}
use Rattle.jh_query.specs.queries.Tree as q
use Rattle.jh_derivation_rules.specs.jh_seq.sequent.Sequents.{HypTree, SequentTree}
use Rattle.jh_form.specs.Passing.{name_equal, term_passes, int_passes, set_passes, field_passes, value_passes, formula_passes, fields_passes}
use Rattle.jh_boxed_operations.specs.comparison.Compared.{bound_with, free_object_with, null_with, read_object_with, const_with, free_number_with, read_number_with, add_with, sub_with, neg_with, scale_with, card_with, free_set_with, read_set_with, empty_with, univ_with, single_with, union_with, inter_with, diff_with, compl_with, compr_with, free_field_with, update_with, of_object_with, of_number_with, of_truth_with, of_set_with, of_field_with, true_formula_with, false_formula_with, free_truth_with, read_truth_with, negation_with, and_with, or_with, implies_with, iff_with, all_with, ex_with, eq_object_with, eq_number_with, eq_set_with, less_with, less_equal_with, divides_with, member_with, subset_with, reach_with, tree_with, mark_with, none_with, more_with, past, related_term, related_int, related_set, related_field, related_value, related_formula, related_fields}
use Rattle.jh_boxed_operations.specs.comparison.Unmarked.{unmarked_term, unmarked_int, unmarked_set, unmarked_field, unmarked_value, unmarked_formula, unmarked_fields}
use Rattle.jh_approx.specs.definition.Shown.{negation_of, and_before, and_of, or_before, or_of, implies_before, implies_of, iff_before, iff_of, is_sayable, shown}
use Rattle.jh_approx.specs.definition.Names.{set_names, number_names, names, without_repeats, place_in, is_set_name, is_element, is_number_name, is_flag, listed}
use Rattle.jh_approx.specs.definition.Links.{is_class_set, at_set, reads_set, reads_within, is_nameless, links, links_more, is_linking, fact_links, shares, reached, is_linked, named_in, is_kept}
use Rattle.jh_approx.specs.definition.Told.{told_set, told_number, told}
use Rattle.jh_approx.specs.definition.Regions.{unlabelled, kept_facts, query_over, query_from, bapa_of}

abbrev named : List ℕ → Name
named text = record { text = text; turn = 0 }

abbrev x : TermTree
x = t.free_object (named (codes "x"))

abbrev y : TermTree
y = t.free_object (named (codes "y"))

abbrev p : FormulaTree
p = t.free_truth (named (codes "p"))

abbrev a_set : SetTree
a_set = t.free_set (named (codes "C.A"))

abbrev a_set_later : SetTree
a_set_later = t.free_set (record { text = codes "C.A"; turn = 1 })

abbrev b_set : SetTree
b_set = t.free_set (named (codes "C.B"))

abbrev alloc : SetTree
alloc = t.free_set (named (codes "alloc"))

abbrev n : IntTree
n = t.free_number (named (codes "C.n"))

abbrev next : FieldTree
next = t.free_field (named (codes "C.next"))

abbrev next_is_null : FormulaTree
next_is_null = t.eq_object (t.read_object next x) t.null

abbrev everywhere : FormulaTree
everywhere = t.all (t.eq_object (t.bound 0) t.null)

abbrev label : List Name → Mark
label from = record { kind = kind.Post; place = record { line = 0; column = 0 }; name = None; from = from }

abbrev fact : FormulaTree → HypTree
fact a = record { name = None; fact = a }

abbrev named_fact : List ℕ → FormulaTree → HypTree
named_fact text a = record { name = Some (named text); fact = a }

abbrev sequent : List Name → List HypTree → FormulaTree → SequentTree
sequent from hyps goal = record { method = record { class = 0; method = 0 }; mark = label from; hyps = hyps; goal = goal }

-- ---- what is shown of a formula

record WhatIsShown : Type 0 where
  what_is_said_of_all_goes_as_a_goal : shown (t.and p everywhere) true ≡ t.false_formula
  what_is_said_of_all_goes_as_a_fact : shown (t.and p everywhere) false ≡ p
  a_negation_turns : shown (t.or p (t.negation everywhere)) true ≡ p
  a_premise_turns : shown (t.implies everywhere p) true ≡ p
  -- the fact says that p follows; the goal says that it is false
  an_equivalence_is_opened : shown (t.iff p everywhere) false ≡ t.true_formula
  an_equivalence_is_opened_in_a_goal : shown (t.iff p everywhere) true ≡ t.and (t.negation p) p
  an_equivalence_stays : shown (t.iff p (t.member x a_set)) true ≡ t.iff p (t.member x a_set)
  what_is_false_is_negated : shown (t.iff p t.false_formula) true ≡ t.negation p
  two_negations_stay : shown (t.negation (t.negation p)) true ≡ t.negation (t.negation p)
  dividing_by_0_goes : shown (t.divides (pos 0) n) false ≡ t.true_formula
  dividing_by_less_goes : shown (t.divides (negsuc 0) n) true ≡ t.false_formula

what_is_shown : WhatIsShown
unfolding negation_of and_before and_of or_before or_of implies_before implies_of iff_before iff_of is_sayable shown
what_is_shown = record { what_is_said_of_all_goes_as_a_goal = refl; what_is_said_of_all_goes_as_a_fact = refl; a_negation_turns = refl; a_premise_turns = refl; an_equivalence_is_opened = refl; an_equivalence_is_opened_in_a_goal = refl; an_equivalence_stays = refl; what_is_false_is_negated = refl; two_negations_stay = refl; dividing_by_0_goes = refl; dividing_by_less_goes = refl }

-- ---- queries

record Queries : Type 0 where
  -- A set of two objects: x and y may differ. The goal has no set and no number, so its objects link.
  two_in_a_set : bapa_of (sequent [] (fact (t.eq_number (t.card a_set) (t.const (pos 2))) ∷ fact (t.member x a_set) ∷ fact (t.member y a_set) ∷ []) (t.eq_object x y)) ≡ record {
    sets = 1;
    elements = 3;
    numbers = 0;
    flags = 0;
    hyps = q.equal_num (q.card (q.var 0)) (q.const (pos 2)) ∷ q.member 1 (q.var 0) ∷ q.member 2 (q.var 0) ∷ [];
    goal = q.same_element 1 2;
  }
  -- What says nothing of any name is kept.
  one_object : bapa_of (sequent [] (fact (t.eq_number (t.card t.univ) (t.const (pos 1))) ∷ fact p ∷ []) (t.eq_object x t.null)) ≡ record {
    sets = 0;
    elements = 2;
    numbers = 0;
    flags = 0;
    hyps = q.equal_num (q.card q.all) (q.const (pos 1)) ∷ [];
    goal = q.same_element 1 0;
  }
  -- The goal has a number, so objects don't link; and what reads `alloc` goes, since the goal doesn't read it.
  a_number_links : bapa_of (sequent [] (fact (t.less_equal (t.const (pos 0)) n) ∷ fact (t.and (t.eq_number n n) (t.member x alloc)) ∷ fact next_is_null ∷ []) (t.or (t.eq_object x t.null) (t.less n (t.const (pos 1))))) ≡ record {
    sets = 0;
    elements = 2;
    numbers = 1;
    flags = 0;
    hyps = q.negation (q.less_num (q.number 0) (q.const (pos 0))) ∷ [];
    goal = q.or (q.same_element 1 0) (q.less_num (q.number 0) (q.const (pos 1)));
  }
  -- B links A to the goal, though what says so reads `alloc` and isn't kept.
  a_link_that_goes : bapa_of (sequent [] (fact (t.and (t.subset a_set b_set) (t.member x alloc)) ∷ fact (t.member y a_set) ∷ []) (t.member x b_set)) ≡ record {
    sets = 2;
    elements = 3;
    numbers = 0;
    flags = 0;
    hyps = q.member 1 (q.var 0) ∷ [];
    goal = q.member 2 (q.var 1);
  }
  -- Where the goal names facts, these are kept, and no others.
  named_facts : bapa_of (sequent (named (codes "one") ∷ []) (named_fact (codes "one") everywhere ∷ named_fact (codes "two") (t.eq_object x t.null) ∷ fact p ∷ []) (t.eq_object x t.null)) ≡ record {
    sets = 0;
    elements = 2;
    numbers = 0;
    flags = 0;
    hyps = q.yes ∷ [];
    goal = q.same_element 1 0;
  }
  -- A set that is read and a comprehension are names of sets, and the object that is read from is none; an equal one has the same name.
  sets_that_are_read : bapa_of (sequent [] [] (t.eq_set (t.union (t.read_set next x) (t.single y)) (t.inter (t.compr everywhere) (t.read_set next x)))) ≡ record {
    sets = 2;
    elements = 2;
    numbers = 0;
    flags = 0;
    hyps = [];
    goal = q.equal_set (q.union (q.var 0) (q.one 1)) (q.inter (q.var 1) (q.var 0));
  }
  -- A list with one more element. What is said of all objects isn't linked, nor is what is said of n and of its successor; what reads
  -- `alloc` goes.
  one_more : bapa_of (sequent [] (fact (t.negation (t.eq_object x t.null)) ∷ fact next_is_null ∷ fact (t.all (t.member (t.bound 0) a_set)) ∷ fact (t.negation (t.member x a_set)) ∷ fact (t.eq_number (t.card a_set) n) ∷ fact (t.member x alloc) ∷ fact (t.eq_set a_set_later (t.union a_set (t.single x))) ∷ []) (t.eq_number (t.card a_set_later) (t.add n (t.const (pos 1))))) ≡ record {
    sets = 2;
    elements = 2;
    numbers = 1;
    flags = 0;
    hyps = q.negation (q.member 1 (q.var 0)) ∷ q.equal_num (q.card (q.var 0)) (q.number 0) ∷ q.equal_set (q.var 1) (q.union (q.var 0) (q.one 1)) ∷ [];
    goal = q.equal_num (q.card (q.var 1)) (q.add (q.number 0) (q.const (pos 1)));
  }
  -- a number is counted before one that it is to be at most
  at_most : bapa_of (sequent [] [] (t.less_equal n (t.free_number (named (codes "C.m"))))) ≡ record {
    sets = 0;
    elements = 1;
    numbers = 2;
    flags = 0;
    hyps = [];
    goal = q.negation (q.less_num (q.number 1) (q.number 0));
  }

queries : Queries
unfolding name_equal term_passes int_passes set_passes field_passes value_passes formula_passes fields_passes bound_with free_object_with null_with read_object_with const_with free_number_with read_number_with add_with sub_with neg_with scale_with card_with free_set_with read_set_with empty_with univ_with single_with union_with inter_with diff_with compl_with compr_with free_field_with update_with of_object_with of_number_with of_truth_with of_set_with of_field_with true_formula_with false_formula_with free_truth_with read_truth_with negation_with and_with or_with implies_with iff_with all_with ex_with eq_object_with eq_number_with eq_set_with less_with less_equal_with divides_with member_with subset_with reach_with tree_with mark_with none_with more_with past related_term related_int related_set related_field related_value related_formula related_fields unmarked_term unmarked_int unmarked_set unmarked_field unmarked_value unmarked_formula unmarked_fields negation_of and_before and_of or_before or_of implies_before implies_of iff_before iff_of is_sayable shown set_names number_names names without_repeats place_in is_set_name is_element is_number_name is_flag listed is_class_set at_set reads_set reads_within is_nameless links links_more is_linking fact_links shares reached is_linked named_in is_kept told_set told_number told unlabelled kept_facts query_over query_from bapa_of
queries = record { two_in_a_set = refl; one_object = refl; a_number_links = refl; a_link_that_goes = refl; named_facts = refl; sets_that_are_read = refl; one_more = refl; at_most = refl }
