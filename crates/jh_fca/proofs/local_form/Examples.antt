-- What each step gives, worked by hand.
use Rattle.std.proofs.Common.{◌≡◌, refl, ℕ, pos, List, [], ◌∷◌, Some, None, codes}
use Rattle.jh_name.specs.declared.naming.Name.{Name}
use Rattle.jh_name.specs.declared.place.MethodId.{MethodId}
use Rattle.jh_form.specs.declared.mark.Mark.{Mark}
use Rattle.jh_form.specs.declared.mark.MarkKind.TheVariants as kind
use Rattle.jh_form.specs.Tree.{TermTree, IntTree, SetTree, FieldTree, ValueTree, FormulaTree}
use Rattle.jh_form.specs.Tree as t
use Rattle.jh_form.specs.Closed.{is_closed_term, is_closed_int, is_closed_set, is_closed_field, is_closed_value, is_closed_formula}
use Rattle.jh_form.specs.Passing.{name_equal}
use Rattle.jh_boxed.specs.Mapped.{mapped_term, mapped_int, mapped_set, mapped_field, mapped_value, mapped_formula}
use Rattle.jh_boxed_operations.specs.comparison.Compared.{bound_with, free_object_with, null_with, read_object_with, const_with, free_number_with, read_number_with, add_with, sub_with, neg_with, scale_with, card_with, free_set_with, read_set_with, empty_with, univ_with, single_with, union_with, inter_with, diff_with, compl_with, compr_with, free_field_with, update_with, of_object_with, of_number_with, of_truth_with, of_set_with, of_field_with, true_formula_with, false_formula_with, free_truth_with, read_truth_with, negation_with, and_with, or_with, implies_with, iff_with, all_with, ex_with, eq_object_with, eq_number_with, eq_set_with, less_with, less_equal_with, divides_with, member_with, subset_with, reach_with, tree_with, mark_with, none_with, more_with, past, related_term, related_int, related_set, related_field, related_value, related_formula, related_fields}
use Rattle.jh_normal_forms.specs.parts.Asked.{is_update}
use Rattle.jh_normal_forms.specs.parts.Standing.{term_parts, int_parts, set_parts, field_parts, value_parts, formula_parts, fields_parts}
use Rattle.jh_normal_forms.specs.declared.rebuilding.polarity.Polarity.TheVariants as pol
use Rattle.jh_normal_forms.specs.rebuilding.Built.{turned, built_term, built_int, built_set, built_field, built_value, built_formula}
use Rattle.jh_substitution.specs.rewriting.Rewritten.{object_or, number_or, truth_or, set_or, field_or, rewritten_term, rewritten_int, rewritten_set, rewritten_field, rewritten_value, rewritten_formula}
use Rattle.jh_seq.specs.sequent.Sequents.{HypTree, SequentTree}
use Rattle.jh_approx.specs.jh_derivation_rules.Rules.{described}
use Rattle.jh_approx.specs.definition.Names.{without_repeats, place_in}
use Rattle.jh_approx.specs.definition.Links.{named_in}
use Rattle.jh_approx.specs.definition.Shown.{negation_of, and_before, and_of, or_before, or_of, implies_before, implies_of, iff_before, iff_of}
use Rattle.jh_fca.specs.local_form.Chosen.{chosen}
use Rattle.jh_normal_forms.specs.idle_updates.Dropped.{without_field_value, dropped}
use Rattle.jh_fca.specs.local_form.Named.{turn_after, turn_behind, first_turn, is_whole_update, updates, text_under, text_of, named, update_fact, update_facts}
use Rattle.jh_normal_forms.specs.set_opening.SetsOpened.{body, as_comprehension, is_in, relation, sets_opened}
use Rattle.jh_fca.specs.cutting.Cut.{is_simple, is_foreign, holds_foreign, two_ways, iffs_opened, instead_of, all_of, ex_of, mark_of, cut_once, cut}
use Rattle.jh_fca.specs.local_form.Chains.{is_name, are_one_name, are_different_names, has_axioms, place_of, same_list, ChangeTree, change, changes, backbone, led_from, lists_once, fields_of, list_of, backbones}

abbrev plain : List ℕ → Name
plain text = record { text = text; turn = 0 }

abbrev x : TermTree
x = t.free_object (plain (codes "x"))

abbrev y : TermTree
y = t.free_object (plain (codes "y"))

abbrev v0 : TermTree
v0 = t.bound 0

abbrev v1 : TermTree
v1 = t.bound 1

abbrev p : FormulaTree
p = t.free_truth (plain (codes "p"))

abbrev low : IntTree
low = t.free_number (plain (codes "low"))

abbrev high : IntTree
high = t.free_number (plain (codes "high"))

abbrev set_a : SetTree
set_a = t.free_set (plain (codes "C.A"))

abbrev set_b : SetTree
set_b = t.free_set (plain (codes "C.B"))

abbrev next : FieldTree
next = t.free_field (plain (codes "C.next"))

abbrev info : FieldTree
info = t.free_field (plain (codes "C.info"))

abbrev next_name : ℕ → Name
next_name k = record { text = codes "C.next"; turn = k }

abbrev next_at : ℕ → FieldTree
next_at k = t.free_field (next_name k)

-- next[x := y], and that with null at y
abbrev once_set : FieldTree
once_set = t.update next x (t.of_object y)

abbrev twice_set : FieldTree
twice_set = t.update once_set y (t.of_object t.null)

-- ---- which hypotheses are chosen

abbrev label : List Name → Mark
label from = record { kind = kind.Post; place = record { line = 0; column = 0 }; name = None; from = from }

abbrev known : List ℕ → HypTree
known text = record { name = Some (plain text); fact = p }

abbrev asked : MethodId → List Name → List HypTree → SequentTree
asked q from hyps = record { method = q; mark = label from; hyps = hyps; goal = p }

chosen-by-name : (q : MethodId) → chosen (asked q (plain (codes "pre") ∷ []) (known (codes "wf") ∷ known (codes "cond") ∷ known (codes "pre") ∷ [])) ≡ asked q (plain (codes "pre") ∷ []) (known (codes "wf") ∷ known (codes "pre") ∷ [])
unfolding named_in name_equal
chosen-by-name q = refl

chosen-all : (q : MethodId) → chosen (asked q [] (known (codes "wf") ∷ known (codes "cond") ∷ [])) ≡ asked q [] (known (codes "wf") ∷ known (codes "cond") ∷ [])
chosen-all q = refl

-- ---- updates

-- x..next[y := info] is x..next
field-dropped : dropped (t.eq_object (t.read_object (t.update next y (t.of_field info)) x) y) ≡ t.eq_object (t.read_object next x) y
unfolding dropped without_field_value built_term built_field built_value built_formula
field-dropped = refl

-- the inner update comes first, and each once; one that holds a bound variable is none
updates-in-order : updates (t.eq_object (t.read_object twice_set x) (t.read_object once_set y) ∷ t.all (t.eq_object (t.read_object (t.update next v0 (t.of_object y)) x) v0) ∷ []) ≡ t.of_field once_set ∷ t.of_field twice_set ∷ []
unfolding term_parts int_parts set_parts field_parts value_parts formula_parts fields_parts without_repeats is_whole_update is_closed_term is_closed_int is_closed_set is_closed_field is_closed_value is_closed_formula bound_with free_object_with null_with read_object_with const_with free_number_with read_number_with add_with sub_with neg_with scale_with card_with free_set_with read_set_with empty_with univ_with single_with union_with inter_with diff_with compl_with compr_with free_field_with update_with of_object_with of_number_with of_truth_with of_set_with of_field_with true_formula_with false_formula_with free_truth_with read_truth_with negation_with and_with or_with implies_with iff_with all_with ex_with eq_object_with eq_number_with eq_set_with less_with less_equal_with divides_with member_with subset_with reach_with tree_with mark_with none_with more_with past related_term related_int related_set related_field related_value related_formula related_fields name_equal
updates-in-order = refl

-- turns begin behind the greatest
turns-begin : first_turn (t.eq_object (t.read_object (next_at 4) x) y ∷ p ∷ []) ≡ 5
unfolding term_parts int_parts set_parts field_parts value_parts formula_parts fields_parts turn_after turn_behind
turns-begin = refl

-- an update is exchanged whole
update-named : named (t.of_field once_set ∷ t.of_field twice_set ∷ []) 5 (t.eq_object (t.read_object twice_set x) (t.read_object once_set y)) ≡ t.eq_object (t.read_object (next_at 6) x) (t.read_object (next_at 5) y)
unfolding named name_equal text_under text_of object_or number_or truth_or set_or field_or rewritten_term rewritten_int rewritten_set rewritten_field rewritten_value rewritten_formula place_in bound_with free_object_with null_with read_object_with const_with free_number_with read_number_with add_with sub_with neg_with scale_with card_with free_set_with read_set_with empty_with univ_with single_with union_with inter_with diff_with compl_with compr_with free_field_with update_with of_object_with of_number_with of_truth_with of_set_with of_field_with true_formula_with false_formula_with free_truth_with read_truth_with negation_with and_with or_with implies_with iff_with all_with ex_with eq_object_with eq_number_with eq_set_with less_with less_equal_with divides_with member_with subset_with reach_with tree_with mark_with none_with more_with past related_term related_int related_set related_field related_value related_formula related_fields
update-named = refl

-- what the names stand for: the second by the first
names-say : update_facts (t.of_field once_set ∷ t.of_field twice_set ∷ []) 5 ≡
    t.all (t.and (t.implies (t.eq_object v0 x) (t.eq_object (t.read_object (next_at 5) v0) y)) (t.implies (t.negation (t.eq_object v0 x)) (t.eq_object (t.read_object (next_at 5) v0) (t.read_object next v0))))
    ∷ t.all (t.and (t.implies (t.eq_object v0 y) (t.eq_object (t.read_object (next_at 6) v0) t.null)) (t.implies (t.negation (t.eq_object v0 y)) (t.eq_object (t.read_object (next_at 6) v0) (t.read_object (next_at 5) v0)))) ∷ []
unfolding named name_equal text_under text_of object_or number_or truth_or set_or field_or rewritten_term rewritten_int rewritten_set rewritten_field rewritten_value rewritten_formula place_in bound_with free_object_with null_with read_object_with const_with free_number_with read_number_with add_with sub_with neg_with scale_with card_with free_set_with read_set_with empty_with univ_with single_with union_with inter_with diff_with compl_with compr_with free_field_with update_with of_object_with of_number_with of_truth_with of_set_with of_field_with true_formula_with false_formula_with free_truth_with read_truth_with negation_with and_with or_with implies_with iff_with all_with ex_with eq_object_with eq_number_with eq_set_with less_with less_equal_with divides_with member_with subset_with reach_with tree_with mark_with none_with more_with past related_term related_int related_set related_field related_value related_formula related_fields update_fact described
names-say = refl

-- ---- sets

-- x : A Un {y}
member-opened : sets_opened (t.member x (t.union set_a (t.single y))) ≡ t.or (t.member x set_a) (t.eq_object x y)
unfolding sets_opened relation is_in body as_comprehension built_term built_int built_set built_field built_value built_formula mapped_term mapped_int mapped_set mapped_field mapped_value mapped_formula
member-opened = refl

-- ALL v. A = {w. w..next = v}: under one binder more v has another number
equation-opened : sets_opened (t.all (t.eq_set set_a (t.compr (t.eq_object (t.read_object next v0) v1)))) ≡ t.all (t.all (t.iff (t.member v0 set_a) (t.eq_object (t.read_object next v0) v1)))
unfolding sets_opened relation is_in body as_comprehension built_term built_int built_set built_field built_value built_formula mapped_term mapped_int mapped_set mapped_field mapped_value mapped_formula
equation-opened = refl

-- ALL v. v..next : {w. EX u. u..next = w}: the term goes under the inner binder
comprehension-opened : sets_opened (t.all (t.member (t.read_object next v0) (t.compr (t.ex (t.eq_object (t.read_object next v0) v1))))) ≡ t.all (t.ex (t.eq_object (t.read_object next v0) (t.read_object next v1)))
unfolding sets_opened relation is_in body as_comprehension built_term built_int built_set built_field built_value built_formula mapped_term mapped_int mapped_set mapped_field mapped_value mapped_formula
comprehension-opened = refl

-- ---- what is cut

goal-cut : cut (t.or p (t.less low high)) pol.Positive ≡ p
unfolding cut iffs_opened cut_once two_ways holds_foreign is_foreign is_simple instead_of all_of ex_of mark_of negation_of and_before and_of or_before or_of implies_before implies_of iff_before iff_of turned built_term built_int built_set built_field built_value built_formula term_parts int_parts set_parts field_parts value_parts formula_parts fields_parts
goal-cut = refl

fact-cut : cut (t.or p (t.less low high)) pol.Negative ≡ t.true_formula
unfolding cut iffs_opened cut_once two_ways holds_foreign is_foreign is_simple instead_of all_of ex_of mark_of negation_of and_before and_of or_before or_of implies_before implies_of iff_before iff_of turned built_term built_int built_set built_field built_value built_formula term_parts int_parts set_parts field_parts value_parts formula_parts fields_parts
fact-cut = refl

-- an equivalence round such an atom is two implications: of a hypothesis `p iff low < high` nothing is left
iff-cut : cut (t.iff p (t.less low high)) pol.Negative ≡ t.true_formula
unfolding cut iffs_opened cut_once two_ways holds_foreign is_foreign is_simple instead_of all_of ex_of mark_of negation_of and_before and_of or_before or_of implies_before implies_of iff_before iff_of turned built_term built_int built_set built_field built_value built_formula term_parts int_parts set_parts field_parts value_parts formula_parts fields_parts
iff-cut = refl

-- low = high stays, low = high + 1 doesn't
equation-stays : cut (t.and (t.eq_number low high) (t.eq_number low (t.add high (t.const (pos 1))))) pol.Negative ≡ t.eq_number low high
unfolding cut iffs_opened cut_once two_ways holds_foreign is_foreign is_simple instead_of all_of ex_of mark_of negation_of and_before and_of or_before or_of implies_before implies_of iff_before iff_of turned built_term built_int built_set built_field built_value built_formula term_parts int_parts set_parts field_parts value_parts formula_parts fields_parts
equation-stays = refl

-- ---- lists of fields

-- the list [next@6] comes from [next@5], and that from [next]
abbrev steps : List ChangeTree
steps = record { name = next_name 6; field = next_at 5; at = y; value = t.null } ∷ record { name = next_name 5; field = next; at = x; value = y } ∷ []

changes-last-first : changes (t.of_field once_set ∷ t.of_field twice_set ∷ []) 5 ≡ steps
unfolding named name_equal text_under text_of object_or number_or truth_or set_or field_or rewritten_term rewritten_int rewritten_set rewritten_field rewritten_value rewritten_formula place_in bound_with free_object_with null_with read_object_with const_with free_number_with read_number_with add_with sub_with neg_with scale_with card_with free_set_with read_set_with empty_with univ_with single_with union_with inter_with diff_with compl_with compr_with free_field_with update_with of_object_with of_number_with of_truth_with of_set_with of_field_with true_formula_with false_formula_with free_truth_with read_truth_with negation_with and_with or_with implies_with iff_with all_with ex_with eq_object_with eq_number_with eq_set_with less_with less_equal_with divides_with member_with subset_with reach_with tree_with mark_with none_with more_with past related_term related_int related_set related_field related_value related_formula related_fields change
changes-last-first = refl

list-leads : led_from (info ∷ next_at 6 ∷ []) steps ≡
    backbone (info ∷ next_at 6 ∷ []) (Some (record { place = 1; field = next_at 5; at = y; value = t.null }))
    ∷ backbone (info ∷ next_at 5 ∷ []) (Some (record { place = 1; field = next; at = x; value = y }))
    ∷ backbone (info ∷ next ∷ []) None ∷ []
unfolding led_from has_axioms are_different_names is_name place_of name_equal
list-leads = refl

-- a list with a field twice leads nowhere
twice-none : led_from (next_at 5 ∷ next_at 5 ∷ []) steps ≡ []
unfolding led_from has_axioms are_different_names is_name place_of name_equal
twice-none = refl

-- [next] was given before, as what [next@5] leads to
lists-given-once : backbones (t.tree (t.more (next_at 5) t.none) ∷ t.reach (t.more next t.none) x y ∷ []) steps ≡
    backbone (next_at 5 ∷ []) (Some (record { place = 0; field = next; at = x; value = y })) ∷ backbone (next ∷ []) None ∷ []
unfolding term_parts int_parts set_parts field_parts value_parts formula_parts fields_parts led_from has_axioms are_different_names is_name are_one_name place_of same_list lists_once fields_of list_of name_equal
lists-given-once = refl
