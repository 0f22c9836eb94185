-- Local forms of worked sequents: those of programs on lists, trees and sets, and small ones made at random. The expected forms are
-- those of a separate implementation, but for the one with a derived field, which is worked by hand from it. A name says its sort first: o for an object, f a field, s a set, n a number, p a truth; and its
-- turn last, where that isn't 0.
use Rattle.std.proofs.Common.{◌≡◌, refl, ℕ, pos, List, [], ◌∷◌, ◌++◌, map, Some, None, codes}
use Rattle.jh_name.specs.declared.naming.Name.{Name}
use Rattle.jh_name.specs.declared.place.MethodId.{MethodId}
use Rattle.jh_form.specs.declared.mark.MarkKind.TheVariants as kind
use Rattle.jh_form.specs.Tree.{TermTree, IntTree, SetTree, FieldTree, FormulaTree}
use Rattle.jh_form.specs.Tree as t
use Rattle.jh_form.specs.Closed.{is_closed_term, is_closed_int, is_closed_set, is_closed_field, is_closed_value, is_closed_formula, is_closed_fields}
use Rattle.jh_form.specs.Passing.{name_equal, term_passes, set_passes, field_passes, formula_passes, fields_passes}
use Rattle.jh_seq.specs.sequent.Sequents.{HypTree, SequentTree}
use Rattle.jh_boxed.specs.Mapped.{mapped_term, mapped_int, mapped_set, mapped_field, mapped_value, mapped_formula, mapped_fields}
use Rattle.jh_boxed_operations.specs.comparison.Compared.{bound_with, free_object_with, null_with, read_object_with, const_with, free_number_with, read_number_with, add_with, sub_with, neg_with, scale_with, card_with, free_set_with, read_set_with, empty_with, univ_with, single_with, union_with, inter_with, diff_with, compl_with, compr_with, free_field_with, update_with, of_object_with, of_number_with, of_truth_with, of_set_with, of_field_with, true_formula_with, false_formula_with, free_truth_with, read_truth_with, negation_with, and_with, or_with, implies_with, iff_with, all_with, ex_with, eq_object_with, eq_number_with, eq_set_with, less_with, less_equal_with, divides_with, member_with, subset_with, reach_with, tree_with, mark_with, none_with, more_with, past, related_term, related_int, related_set, related_field, related_value, related_formula, related_fields}
use Rattle.jh_normal_forms.specs.parts.Asked.{is_update}
use Rattle.jh_normal_forms.specs.parts.Standing.{term_parts, int_parts, set_parts, field_parts, value_parts, formula_parts, fields_parts}
use Rattle.jh_normal_forms.specs.rebuilding.Built.{turned, built_term, built_int, built_set, built_field, built_value, built_formula, built_fields}
use Rattle.jh_substitution.specs.rewriting.Rewritten.{object_or, number_or, truth_or, set_or, field_or, rewritten_term, rewritten_int, rewritten_set, rewritten_field, rewritten_value, rewritten_formula, rewritten_fields}
use Rattle.jh_approx.specs.jh_reach.Axioms.{axioms_of_list}
use Rattle.jh_approx.specs.jh_derivation_rules.Rules.{described}
use Rattle.jh_approx.specs.definition.Names.{without_repeats, place_in}
use Rattle.jh_approx.specs.definition.Links.{named_in}
use Rattle.jh_approx.specs.definition.Shown.{negation_of, and_before, and_of, or_before, or_of, implies_before, implies_of, iff_before, iff_of}
use Rattle.jh_normal_forms.specs.idle_updates.Dropped.{without_field_value, dropped}
use Rattle.jh_fca.specs.local_form.Named.{turn_after, turn_behind, is_whole_update, text_under, text_of, named, update_fact}
use Rattle.jh_normal_forms.specs.set_opening.SetsOpened.{body, as_comprehension, is_in, relation, sets_opened}
use Rattle.jh_fca.specs.cutting.Cut.{is_simple, is_foreign, holds_foreign, two_ways, iffs_opened, instead_of, all_of, ex_of, mark_of, cut_once, cut}
use Rattle.jh_fca.specs.local_form.Chains.{is_name, are_one_name, are_different_names, has_axioms, place_of, same_list, change, led_from, lists_once, fields_of, list_of}
use Rattle.jh_fca.specs.elimination.Constraints.{other_than, is_name as is_named, is_variable, is_apart, constraint_in}
use Rattle.jh_fca.specs.elimination.Derived.{goes_along, is_listed, is_listed_in, fields_of as constrained_by, names_once, derived, is_of, first_for, without_first}
use Rattle.jh_fca.specs.elimination.Reads.{is_read, holds_read, term_reads, set_reads, field_reads, fields_reads, formula_reads}
use Rattle.jh_fca.specs.elimination.Exchanged.{varied_term, quantified, terms_once, exchanged, atom_exchanged, eliminated}
use Rattle.jh_fca.specs.elimination.Eliminated.{at_turn, step_by, all_steps, eliminate}
use Rattle.jh_fca.specs.local_form.LocalOf.{local_of}

abbrev own : List ℕ → ℕ → Name
own x n = record { text = x; turn = n }

abbrev sequent : MethodId → List Name → List HypTree → FormulaTree → SequentTree
sequent q from hyps goal = record { method = q; mark = record { kind = kind.Post; place = record { line = 0; column = 0 }; name = None; from = from }; hyps = hyps; goal = goal }

abbrev fact : FormulaTree → HypTree
fact a = record { name = None; fact = a }

abbrev known : Name → FormulaTree → HypTree
known x a = record { name = Some x; fact = a }

-- the axioms of a list that came from no other
abbrev axioms : List FieldTree → List HypTree
axioms fs = map fact (axioms_of_list fs)

abbrev v0 : TermTree
v0 = t.bound 0

abbrev v1 : TermTree
v1 = t.bound 1

abbrev v2 : TermTree
v2 = t.bound 2

abbrev v3 : TermTree
v3 = t.bound 3

abbrev f_c_f : FieldTree
f_c_f = t.free_field (own (codes "C.f") 0)

abbrev f_c_f_1 : FieldTree
f_c_f_1 = t.free_field (own (codes "C.f") 1)

abbrev f_c_f_2 : FieldTree
f_c_f_2 = t.free_field (own (codes "C.f") 2)

abbrev f_f : FieldTree
f_f = t.free_field (own (codes "f") 0)

abbrev f_g : FieldTree
f_g = t.free_field (own (codes "g") 0)

abbrev f_g_1 : FieldTree
f_g_1 = t.free_field (own (codes "g") 1)

abbrev f_h : FieldTree
f_h = t.free_field (own (codes "h") 0)

abbrev f_h_1 : FieldTree
f_h_1 = t.free_field (own (codes "h") 1)

abbrev f_k : FieldTree
f_k = t.free_field (own (codes "k") 0)

abbrev f_k_1 : FieldTree
f_k_1 = t.free_field (own (codes "k") 1)

abbrev f_m : FieldTree
f_m = t.free_field (own (codes "m") 0)

abbrev f_m_1 : FieldTree
f_m_1 = t.free_field (own (codes "m") 1)

abbrev f_node_data : FieldTree
f_node_data = t.free_field (own (codes "Node.data") 0)

abbrev f_node_next : FieldTree
f_node_next = t.free_field (own (codes "Node.next") 0)

abbrev f_node_next_1 : FieldTree
f_node_next_1 = t.free_field (own (codes "Node.next") 1)

abbrev f_node_next_4 : FieldTree
f_node_next_4 = t.free_field (own (codes "Node.next") 4)

abbrev f_node_prev : FieldTree
f_node_prev = t.free_field (own (codes "Node.prev") 0)

abbrev f_node_prev_3 : FieldTree
f_node_prev_3 = t.free_field (own (codes "Node.prev") 3)

abbrev f_s : FieldTree
f_s = t.free_field (own (codes "s") 0)

abbrev f_tnode_left : FieldTree
f_tnode_left = t.free_field (own (codes "Tnode.left") 0)

abbrev f_tnode_left_1 : FieldTree
f_tnode_left_1 = t.free_field (own (codes "Tnode.left") 1)

abbrev f_tnode_right : FieldTree
f_tnode_right = t.free_field (own (codes "Tnode.right") 0)

abbrev n_i : IntTree
n_i = t.free_number (own (codes "i") 0)

abbrev n_j : IntTree
n_j = t.free_number (own (codes "j") 0)

abbrev n_stack_size : IntTree
n_stack_size = t.free_number (own (codes "Stack.size") 0)

abbrev o_a : TermTree
o_a = t.free_object (own (codes "a") 0)

abbrev o_b : TermTree
o_b = t.free_object (own (codes "b") 0)

abbrev o_c : TermTree
o_c = t.free_object (own (codes "c") 0)

abbrev o_c_1 : TermTree
o_c_1 = t.free_object (own (codes "c") 1)

abbrev o_c_2 : TermTree
o_c_2 = t.free_object (own (codes "c") 2)

abbrev o_list_first : TermTree
o_list_first = t.free_object (own (codes "List.first") 0)

abbrev o_n : TermTree
o_n = t.free_object (own (codes "n") 0)

abbrev o_p : TermTree
o_p = t.free_object (own (codes "p") 0)

abbrev o_stack_first : TermTree
o_stack_first = t.free_object (own (codes "Stack.first") 0)

abbrev o_swap_a : TermTree
o_swap_a = t.free_object (own (codes "Swap.a") 0)

abbrev o_swap_b : TermTree
o_swap_b = t.free_object (own (codes "Swap.b") 0)

abbrev o_swap_t : TermTree
o_swap_t = t.free_object (own (codes "Swap.t") 0)

abbrev o_t_root : TermTree
o_t_root = t.free_object (own (codes "T.root") 0)

abbrev p_p : FormulaTree
p_p = t.free_truth (own (codes "p") 0)

abbrev p_q : FormulaTree
p_q = t.free_truth (own (codes "q") 0)

abbrev s_a : SetTree
s_a = t.free_set (own (codes "A") 0)

abbrev s_alloc : SetTree
s_alloc = t.free_set (own (codes "alloc") 0)

abbrev s_b : SetTree
s_b = t.free_set (own (codes "B") 0)

abbrev s_c : SetTree
s_c = t.free_set (own (codes "C") 0)

abbrev s_g : SetTree
s_g = t.free_set (own (codes "G") 0)

abbrev s_g_s : SetTree
s_g_s = t.free_set (own (codes "G.S") 0)

abbrev s_g_t : SetTree
s_g_t = t.free_set (own (codes "G.T") 0)

abbrev s_g_u : SetTree
s_g_u = t.free_set (own (codes "G.U") 0)

abbrev s_k : SetTree
s_k = t.free_set (own (codes "K") 0)

abbrev s_k_a : SetTree
s_k_a = t.free_set (own (codes "K.A") 0)

abbrev s_k_b : SetTree
s_k_b = t.free_set (own (codes "K.B") 0)

abbrev s_k_c : SetTree
s_k_c = t.free_set (own (codes "K.C") 0)

abbrev s_k_d : SetTree
s_k_d = t.free_set (own (codes "K.D") 0)

abbrev s_k_e : SetTree
s_k_e = t.free_set (own (codes "K.E") 0)

abbrev s_k_f : SetTree
s_k_f = t.free_set (own (codes "K.F") 0)

abbrev s_k_g : SetTree
s_k_g = t.free_set (own (codes "K.G") 0)

abbrev s_list : SetTree
s_list = t.free_set (own (codes "List") 0)

abbrev s_node : SetTree
s_node = t.free_set (own (codes "Node") 0)

abbrev s_object : SetTree
s_object = t.free_set (own (codes "Object") 0)

abbrev s_stack : SetTree
s_stack = t.free_set (own (codes "Stack") 0)

abbrev s_swap : SetTree
s_swap = t.free_set (own (codes "Swap") 0)

abbrev s_t : SetTree
s_t = t.free_set (own (codes "T") 0)

abbrev s_tnode : SetTree
s_tnode = t.free_set (own (codes "Tnode") 0)

abbrev w_back : Name
w_back = own (codes "back") 0

abbrev w_cond : Name
w_cond = own (codes "cond") 0

abbrev w_count : Name
w_count = own (codes "count") 0

abbrev w_pre : Name
w_pre = own (codes "pre") 0

abbrev w_root : Name
w_root = own (codes "root") 0

abbrev w_shape : Name
w_shape = own (codes "shape") 0

abbrev w_wf : Name
w_wf = own (codes "wf") 0

abbrev row_1 : MethodId → Type 0
row_1 q =
    local_of (sequent q [] (known w_wf (t.eq_set s_alloc (t.union s_a s_object)) ∷
    known w_wf (t.eq_set (t.inter s_a s_object) t.empty) ∷
    known w_wf (t.negation (t.member t.null s_alloc)) ∷ []) (t.less_equal (t.const (pos 0)) (t.const (pos 0)))) ≡
    sequent q [] (known w_wf (t.all (t.iff (t.member v0 s_alloc) (t.or (t.member v0 s_a) (t.member v0 s_object)))) ∷
    known w_wf (t.all (t.negation (t.and (t.member v0 s_a) (t.member v0 s_object)))) ∷
    known w_wf (t.negation (t.member t.null s_alloc)) ∷ []) t.false_formula

abbrev row_2 : MethodId → Type 0
row_2 q =
    local_of (sequent q [] (known w_wf (t.eq_set s_alloc (t.union s_k s_object)) ∷
    known w_wf (t.eq_set (t.inter s_k s_object) t.empty) ∷
    known w_wf (t.negation (t.member t.null s_alloc)) ∷
    known w_pre (t.subset s_k_a s_k_b) ∷
    known w_pre (t.subset s_k_b s_k_c) ∷
    known w_pre (t.subset s_k_c s_k_d) ∷
    known w_pre (t.subset s_k_d s_k_e) ∷
    known w_pre (t.subset s_k_e s_k_f) ∷ []) (t.subset s_k_a s_k_f)) ≡
    sequent q [] (known w_wf (t.all (t.iff (t.member v0 s_alloc) (t.or (t.member v0 s_k) (t.member v0 s_object)))) ∷
    known w_wf (t.all (t.negation (t.and (t.member v0 s_k) (t.member v0 s_object)))) ∷
    known w_wf (t.negation (t.member t.null s_alloc)) ∷
    known w_pre (t.all (t.implies (t.member v0 s_k_a) (t.member v0 s_k_b))) ∷
    known w_pre (t.all (t.implies (t.member v0 s_k_b) (t.member v0 s_k_c))) ∷
    known w_pre (t.all (t.implies (t.member v0 s_k_c) (t.member v0 s_k_d))) ∷
    known w_pre (t.all (t.implies (t.member v0 s_k_d) (t.member v0 s_k_e))) ∷
    known w_pre (t.all (t.implies (t.member v0 s_k_e) (t.member v0 s_k_f))) ∷ []) (t.all (t.implies (t.member v0 s_k_a) (t.member v0 s_k_f)))

abbrev row_3 : MethodId → Type 0
row_3 q =
    local_of (sequent q [] (known w_wf (t.eq_set s_alloc (t.union s_k s_object)) ∷
    known w_wf (t.eq_set (t.inter s_k s_object) t.empty) ∷
    known w_wf (t.negation (t.member t.null s_alloc)) ∷
    known w_pre (t.subset s_k_a s_k_b) ∷
    known w_pre (t.subset s_k_b s_k_c) ∷
    known w_pre (t.subset s_k_c s_k_d) ∷
    known w_pre (t.subset s_k_d s_k_e) ∷
    known w_pre (t.subset s_k_e s_k_f) ∷
    known w_pre (t.subset s_k_f s_k_g) ∷ []) (t.subset s_k_a s_k_g)) ≡
    sequent q [] (known w_wf (t.all (t.iff (t.member v0 s_alloc) (t.or (t.member v0 s_k) (t.member v0 s_object)))) ∷
    known w_wf (t.all (t.negation (t.and (t.member v0 s_k) (t.member v0 s_object)))) ∷
    known w_wf (t.negation (t.member t.null s_alloc)) ∷
    known w_pre (t.all (t.implies (t.member v0 s_k_a) (t.member v0 s_k_b))) ∷
    known w_pre (t.all (t.implies (t.member v0 s_k_b) (t.member v0 s_k_c))) ∷
    known w_pre (t.all (t.implies (t.member v0 s_k_c) (t.member v0 s_k_d))) ∷
    known w_pre (t.all (t.implies (t.member v0 s_k_d) (t.member v0 s_k_e))) ∷
    known w_pre (t.all (t.implies (t.member v0 s_k_e) (t.member v0 s_k_f))) ∷
    known w_pre (t.all (t.implies (t.member v0 s_k_f) (t.member v0 s_k_g))) ∷ []) (t.all (t.implies (t.member v0 s_k_a) (t.member v0 s_k_g)))

abbrev row_4 : MethodId → Type 0
row_4 q =
    local_of (sequent q [] (known w_wf (t.eq_set s_alloc (t.union s_swap s_object)) ∷
    known w_wf (t.eq_set (t.inter s_swap s_object) t.empty) ∷
    known w_wf (t.negation (t.member t.null s_alloc)) ∷
    known w_wf (t.or (t.eq_object o_swap_a t.null) (t.member o_swap_a s_alloc)) ∷
    known w_wf (t.or (t.eq_object o_swap_b t.null) (t.member o_swap_b s_alloc)) ∷
    known w_wf (t.or (t.eq_object o_swap_t t.null) (t.member o_swap_t s_alloc)) ∷ []) (t.eq_object o_swap_a o_swap_b)) ≡
    sequent q [] (known w_wf (t.all (t.iff (t.member v0 s_alloc) (t.or (t.member v0 s_swap) (t.member v0 s_object)))) ∷
    known w_wf (t.all (t.negation (t.and (t.member v0 s_swap) (t.member v0 s_object)))) ∷
    known w_wf (t.negation (t.member t.null s_alloc)) ∷
    known w_wf (t.or (t.eq_object o_swap_a t.null) (t.member o_swap_a s_alloc)) ∷
    known w_wf (t.or (t.eq_object o_swap_b t.null) (t.member o_swap_b s_alloc)) ∷
    known w_wf (t.or (t.eq_object o_swap_t t.null) (t.member o_swap_t s_alloc)) ∷ []) (t.eq_object o_swap_a o_swap_b)

abbrev row_5 : MethodId → Type 0
row_5 q =
    local_of (sequent q [] (known w_wf (t.eq_set s_alloc (t.union (t.union s_c s_t) s_object)) ∷
    known w_wf (t.eq_set (t.inter s_c s_t) t.empty) ∷
    known w_wf (t.eq_set (t.inter s_c s_object) t.empty) ∷
    known w_wf (t.eq_set (t.inter s_t s_object) t.empty) ∷
    known w_wf (t.negation (t.member t.null s_alloc)) ∷
    known w_wf (t.or (t.eq_object o_a t.null) (t.member o_a s_c)) ∷
    known w_wf (t.or (t.eq_object o_b t.null) (t.member o_b s_c)) ∷
    known w_wf (t.all (t.implies (t.negation (t.member v0 s_c)) (t.eq_number (t.read_number f_c_f v0) (t.const (pos 0))))) ∷
    known w_pre (t.negation (t.eq_object o_a t.null)) ∷
    known w_pre (t.negation (t.eq_object o_b t.null)) ∷ []) (t.eq_number (t.read_number (t.update (t.update f_c_f o_a (t.of_number (t.const (pos 1)))) o_b (t.of_number (t.const (pos 2)))) o_a) (t.const (pos 1)))) ≡
    sequent q [] (known w_wf (t.all (t.iff (t.member v0 s_alloc) (t.or (t.or (t.member v0 s_c) (t.member v0 s_t)) (t.member v0 s_object)))) ∷
    known w_wf (t.all (t.negation (t.and (t.member v0 s_c) (t.member v0 s_t)))) ∷
    known w_wf (t.all (t.negation (t.and (t.member v0 s_c) (t.member v0 s_object)))) ∷
    known w_wf (t.all (t.negation (t.and (t.member v0 s_t) (t.member v0 s_object)))) ∷
    known w_wf (t.negation (t.member t.null s_alloc)) ∷
    known w_wf (t.or (t.eq_object o_a t.null) (t.member o_a s_c)) ∷
    known w_wf (t.or (t.eq_object o_b t.null) (t.member o_b s_c)) ∷
    known w_wf (t.all (t.implies (t.negation (t.member v0 s_c)) (t.eq_number (t.read_number f_c_f v0) (t.const (pos 0))))) ∷
    known w_pre (t.negation (t.eq_object o_a t.null)) ∷
    known w_pre (t.negation (t.eq_object o_b t.null)) ∷
    fact (t.all (t.and (t.implies (t.eq_object v0 o_a) (t.eq_number (t.read_number f_c_f_1 v0) (t.const (pos 1)))) (t.implies (t.negation (t.eq_object v0 o_a)) (t.eq_number (t.read_number f_c_f_1 v0) (t.read_number f_c_f v0))))) ∷
    fact (t.all (t.and (t.implies (t.eq_object v0 o_b) (t.eq_number (t.read_number f_c_f_2 v0) (t.const (pos 2)))) (t.implies (t.negation (t.eq_object v0 o_b)) (t.eq_number (t.read_number f_c_f_2 v0) (t.read_number f_c_f_1 v0))))) ∷ []) (t.eq_number (t.read_number f_c_f_2 o_a) (t.const (pos 1)))

abbrev row_6 : MethodId → Type 0
row_6 q =
    local_of (sequent q [] (known w_wf (t.eq_set s_alloc (t.union (t.union s_node s_g) s_object)) ∷
    known w_wf (t.eq_set (t.inter s_node s_g) t.empty) ∷
    known w_wf (t.eq_set (t.inter s_node s_object) t.empty) ∷
    known w_wf (t.eq_set (t.inter s_g s_object) t.empty) ∷
    known w_wf (t.negation (t.member t.null s_alloc)) ∷
    known w_wf (t.or (t.eq_object o_a t.null) (t.member o_a s_node)) ∷
    known w_wf (t.or (t.eq_object o_b t.null) (t.member o_b s_node)) ∷
    known w_wf (t.all (t.implies (t.member v0 s_node) (t.or (t.eq_object (t.read_object f_node_next v0) t.null) (t.member (t.read_object f_node_next v0) s_node)))) ∷
    known w_wf (t.all (t.implies (t.negation (t.member v0 s_node)) (t.eq_object (t.read_object f_node_next v0) t.null))) ∷
    known w_pre (t.member o_a s_g_s) ∷
    known w_pre (t.all (t.implies (t.member v0 s_g_s) (t.member (t.read_object f_node_next v0) s_g_t))) ∷
    known w_pre (t.all (t.implies (t.member v0 s_g_t) (t.member (t.read_object f_node_next v0) s_g_u))) ∷
    known w_pre (t.all (t.implies (t.member v0 s_g_u) (t.eq_object o_b t.null))) ∷ []) (t.eq_object o_b t.null)) ≡
    sequent q [] (known w_wf (t.all (t.iff (t.member v0 s_alloc) (t.or (t.or (t.member v0 s_node) (t.member v0 s_g)) (t.member v0 s_object)))) ∷
    known w_wf (t.all (t.negation (t.and (t.member v0 s_node) (t.member v0 s_g)))) ∷
    known w_wf (t.all (t.negation (t.and (t.member v0 s_node) (t.member v0 s_object)))) ∷
    known w_wf (t.all (t.negation (t.and (t.member v0 s_g) (t.member v0 s_object)))) ∷
    known w_wf (t.negation (t.member t.null s_alloc)) ∷
    known w_wf (t.or (t.eq_object o_a t.null) (t.member o_a s_node)) ∷
    known w_wf (t.or (t.eq_object o_b t.null) (t.member o_b s_node)) ∷
    known w_wf (t.all (t.implies (t.member v0 s_node) (t.or (t.eq_object (t.read_object f_node_next v0) t.null) (t.member (t.read_object f_node_next v0) s_node)))) ∷
    known w_wf (t.all (t.implies (t.negation (t.member v0 s_node)) (t.eq_object (t.read_object f_node_next v0) t.null))) ∷
    known w_pre (t.member o_a s_g_s) ∷
    known w_pre (t.all (t.implies (t.member v0 s_g_s) (t.member (t.read_object f_node_next v0) s_g_t))) ∷
    known w_pre (t.all (t.implies (t.member v0 s_g_t) (t.member (t.read_object f_node_next v0) s_g_u))) ∷
    known w_pre (t.all (t.implies (t.member v0 s_g_u) (t.eq_object o_b t.null))) ∷ []) (t.eq_object o_b t.null)

abbrev row_7 : MethodId → Type 0
row_7 q =
    local_of (sequent q [] (known w_wf (t.eq_set s_alloc (t.union (t.union s_list s_node) s_object)) ∷
    known w_wf (t.eq_set (t.inter s_list s_node) t.empty) ∷
    known w_wf (t.eq_set (t.inter s_list s_object) t.empty) ∷
    known w_wf (t.eq_set (t.inter s_node s_object) t.empty) ∷
    known w_wf (t.negation (t.member t.null s_alloc)) ∷
    known w_wf (t.or (t.eq_object o_list_first t.null) (t.member o_list_first s_node)) ∷
    known w_wf (t.all (t.implies (t.member v0 s_node) (t.or (t.eq_object (t.read_object f_node_data v0) t.null) (t.member (t.read_object f_node_data v0) s_alloc)))) ∷
    known w_wf (t.all (t.implies (t.member v0 s_node) (t.or (t.eq_object (t.read_object f_node_next v0) t.null) (t.member (t.read_object f_node_next v0) s_node)))) ∷
    known w_wf (t.all (t.implies (t.negation (t.member v0 s_node)) (t.eq_object (t.read_object f_node_data v0) t.null))) ∷
    known w_wf (t.all (t.implies (t.negation (t.member v0 s_node)) (t.eq_object (t.read_object f_node_next v0) t.null))) ∷
    known w_shape (t.tree (t.more f_node_next t.none)) ∷
    known w_root (t.or (t.eq_object o_list_first t.null) (t.all (t.negation (t.eq_object (t.read_object f_node_next v0) o_list_first)))) ∷ []) (t.or (t.eq_object t.null t.null) (t.all (t.negation (t.eq_object (t.read_object f_node_next v0) t.null))))) ≡
    sequent q [] ((known w_wf (t.all (t.iff (t.member v0 s_alloc) (t.or (t.or (t.member v0 s_list) (t.member v0 s_node)) (t.member v0 s_object)))) ∷
    known w_wf (t.all (t.negation (t.and (t.member v0 s_list) (t.member v0 s_node)))) ∷
    known w_wf (t.all (t.negation (t.and (t.member v0 s_list) (t.member v0 s_object)))) ∷
    known w_wf (t.all (t.negation (t.and (t.member v0 s_node) (t.member v0 s_object)))) ∷
    known w_wf (t.negation (t.member t.null s_alloc)) ∷
    known w_wf (t.or (t.eq_object o_list_first t.null) (t.member o_list_first s_node)) ∷
    known w_wf (t.all (t.implies (t.member v0 s_node) (t.or (t.eq_object (t.read_object f_node_data v0) t.null) (t.member (t.read_object f_node_data v0) s_alloc)))) ∷
    known w_wf (t.all (t.implies (t.member v0 s_node) (t.or (t.eq_object (t.read_object f_node_next v0) t.null) (t.member (t.read_object f_node_next v0) s_node)))) ∷
    known w_wf (t.all (t.implies (t.negation (t.member v0 s_node)) (t.eq_object (t.read_object f_node_data v0) t.null))) ∷
    known w_wf (t.all (t.implies (t.negation (t.member v0 s_node)) (t.eq_object (t.read_object f_node_next v0) t.null))) ∷
    known w_shape (t.tree (t.more f_node_next t.none)) ∷
    known w_root (t.or (t.eq_object o_list_first t.null) (t.all (t.negation (t.eq_object (t.read_object f_node_next v0) o_list_first)))) ∷ []) ++
    (axioms (f_node_next ∷ []))) (t.or (t.eq_object t.null t.null) (t.all (t.negation (t.eq_object (t.read_object f_node_next v0) t.null))))

abbrev row_8 : MethodId → Type 0
row_8 q =
    local_of (sequent q [] (known w_wf (t.eq_set s_alloc (t.union (t.union s_node s_list) s_object)) ∷
    known w_wf (t.eq_set (t.inter s_node s_list) t.empty) ∷
    known w_wf (t.eq_set (t.inter s_node s_object) t.empty) ∷
    known w_wf (t.eq_set (t.inter s_list s_object) t.empty) ∷
    known w_wf (t.negation (t.member t.null s_alloc)) ∷
    known w_wf (t.or (t.eq_object o_list_first t.null) (t.member o_list_first s_node)) ∷
    known w_wf (t.or (t.eq_object o_n t.null) (t.member o_n s_node)) ∷
    known w_wf (t.all (t.implies (t.member v0 s_node) (t.or (t.eq_object (t.read_object f_node_next v0) t.null) (t.member (t.read_object f_node_next v0) s_node)))) ∷
    known w_wf (t.all (t.implies (t.negation (t.member v0 s_node)) (t.eq_object (t.read_object f_node_next v0) t.null))) ∷
    known w_pre (t.negation (t.eq_object o_n t.null)) ∷
    known w_pre (t.eq_object (t.read_object f_node_next o_n) t.null) ∷
    known w_pre (t.all (t.negation (t.eq_object (t.read_object f_node_next v0) o_n))) ∷
    known w_shape (t.tree (t.more f_node_next t.none)) ∷
    known w_root (t.or (t.eq_object o_list_first t.null) (t.all (t.negation (t.eq_object (t.read_object f_node_next v0) o_list_first)))) ∷ []) (t.or (t.eq_object o_n t.null) (t.all (t.negation (t.eq_object (t.read_object (t.update f_node_next o_n (t.of_object o_list_first)) v0) o_n))))) ≡
    sequent q [] ((known w_wf (t.all (t.iff (t.member v0 s_alloc) (t.or (t.or (t.member v0 s_node) (t.member v0 s_list)) (t.member v0 s_object)))) ∷
    known w_wf (t.all (t.negation (t.and (t.member v0 s_node) (t.member v0 s_list)))) ∷
    known w_wf (t.all (t.negation (t.and (t.member v0 s_node) (t.member v0 s_object)))) ∷
    known w_wf (t.all (t.negation (t.and (t.member v0 s_list) (t.member v0 s_object)))) ∷
    known w_wf (t.negation (t.member t.null s_alloc)) ∷
    known w_wf (t.or (t.eq_object o_list_first t.null) (t.member o_list_first s_node)) ∷
    known w_wf (t.or (t.eq_object o_n t.null) (t.member o_n s_node)) ∷
    known w_wf (t.all (t.implies (t.member v0 s_node) (t.or (t.eq_object (t.read_object f_node_next v0) t.null) (t.member (t.read_object f_node_next v0) s_node)))) ∷
    known w_wf (t.all (t.implies (t.negation (t.member v0 s_node)) (t.eq_object (t.read_object f_node_next v0) t.null))) ∷
    known w_pre (t.negation (t.eq_object o_n t.null)) ∷
    known w_pre (t.eq_object (t.read_object f_node_next o_n) t.null) ∷
    known w_pre (t.all (t.negation (t.eq_object (t.read_object f_node_next v0) o_n))) ∷
    known w_shape (t.tree (t.more f_node_next t.none)) ∷
    known w_root (t.or (t.eq_object o_list_first t.null) (t.all (t.negation (t.eq_object (t.read_object f_node_next v0) o_list_first)))) ∷
    fact (t.all (t.and (t.implies (t.eq_object v0 o_n) (t.eq_object (t.read_object f_node_next_1 v0) o_list_first)) (t.implies (t.negation (t.eq_object v0 o_n)) (t.eq_object (t.read_object f_node_next_1 v0) (t.read_object f_node_next v0))))) ∷ []) ++
    (axioms (f_node_next ∷ []))) (t.or (t.eq_object o_n t.null) (t.all (t.negation (t.eq_object (t.read_object f_node_next_1 v0) o_n))))

abbrev row_9 : MethodId → Type 0
row_9 q =
    local_of (sequent q [] (known w_wf (t.eq_set s_alloc (t.union (t.union s_node s_list) s_object)) ∷
    known w_wf (t.eq_set (t.inter s_node s_list) t.empty) ∷
    known w_wf (t.eq_set (t.inter s_node s_object) t.empty) ∷
    known w_wf (t.eq_set (t.inter s_list s_object) t.empty) ∷
    known w_wf (t.negation (t.member t.null s_alloc)) ∷
    known w_wf (t.or (t.eq_object o_list_first t.null) (t.member o_list_first s_node)) ∷
    known w_wf (t.or (t.eq_object o_n t.null) (t.member o_n s_node)) ∷
    known w_wf (t.all (t.implies (t.member v0 s_node) (t.or (t.eq_object (t.read_object f_node_next v0) t.null) (t.member (t.read_object f_node_next v0) s_node)))) ∷
    known w_wf (t.all (t.implies (t.negation (t.member v0 s_node)) (t.eq_object (t.read_object f_node_next v0) t.null))) ∷
    known w_pre (t.negation (t.eq_object o_n t.null)) ∷
    known w_pre (t.negation (t.member o_n (t.compr (t.and (t.negation (t.eq_object v0 t.null)) (t.reach (t.more f_node_next t.none) o_list_first v0))))) ∷
    known w_pre (t.eq_object (t.read_object f_node_next o_n) t.null) ∷
    known w_pre (t.all (t.negation (t.eq_object (t.read_object f_node_next v0) o_n))) ∷
    known w_shape (t.tree (t.more f_node_next t.none)) ∷
    known w_root (t.or (t.eq_object o_list_first t.null) (t.all (t.negation (t.eq_object (t.read_object f_node_next v0) o_list_first)))) ∷ []) (t.or (t.eq_object o_n t.null) (t.all (t.negation (t.eq_object (t.read_object (t.update f_node_next o_n (t.of_object o_list_first)) v0) o_n))))) ≡
    sequent q [] ((known w_wf (t.all (t.iff (t.member v0 s_alloc) (t.or (t.or (t.member v0 s_node) (t.member v0 s_list)) (t.member v0 s_object)))) ∷
    known w_wf (t.all (t.negation (t.and (t.member v0 s_node) (t.member v0 s_list)))) ∷
    known w_wf (t.all (t.negation (t.and (t.member v0 s_node) (t.member v0 s_object)))) ∷
    known w_wf (t.all (t.negation (t.and (t.member v0 s_list) (t.member v0 s_object)))) ∷
    known w_wf (t.negation (t.member t.null s_alloc)) ∷
    known w_wf (t.or (t.eq_object o_list_first t.null) (t.member o_list_first s_node)) ∷
    known w_wf (t.or (t.eq_object o_n t.null) (t.member o_n s_node)) ∷
    known w_wf (t.all (t.implies (t.member v0 s_node) (t.or (t.eq_object (t.read_object f_node_next v0) t.null) (t.member (t.read_object f_node_next v0) s_node)))) ∷
    known w_wf (t.all (t.implies (t.negation (t.member v0 s_node)) (t.eq_object (t.read_object f_node_next v0) t.null))) ∷
    known w_pre (t.negation (t.eq_object o_n t.null)) ∷
    known w_pre (t.negation (t.and (t.negation (t.eq_object o_n t.null)) (t.reach (t.more f_node_next t.none) o_list_first o_n))) ∷
    known w_pre (t.eq_object (t.read_object f_node_next o_n) t.null) ∷
    known w_pre (t.all (t.negation (t.eq_object (t.read_object f_node_next v0) o_n))) ∷
    known w_shape (t.tree (t.more f_node_next t.none)) ∷
    known w_root (t.or (t.eq_object o_list_first t.null) (t.all (t.negation (t.eq_object (t.read_object f_node_next v0) o_list_first)))) ∷
    fact (t.all (t.and (t.implies (t.eq_object v0 o_n) (t.eq_object (t.read_object f_node_next_1 v0) o_list_first)) (t.implies (t.negation (t.eq_object v0 o_n)) (t.eq_object (t.read_object f_node_next_1 v0) (t.read_object f_node_next v0))))) ∷ []) ++
    (axioms (f_node_next ∷ []))) (t.or (t.eq_object o_n t.null) (t.all (t.negation (t.eq_object (t.read_object f_node_next_1 v0) o_n))))

abbrev row_10 : MethodId → Type 0
row_10 q =
    local_of (sequent q [] (known w_wf (t.eq_set s_alloc (t.union (t.union s_node s_list) s_object)) ∷
    known w_wf (t.eq_set (t.inter s_node s_list) t.empty) ∷
    known w_wf (t.eq_set (t.inter s_node s_object) t.empty) ∷
    known w_wf (t.eq_set (t.inter s_list s_object) t.empty) ∷
    known w_wf (t.negation (t.member t.null s_alloc)) ∷
    known w_wf (t.or (t.eq_object o_list_first t.null) (t.member o_list_first s_node)) ∷
    known w_wf (t.or (t.eq_object o_n t.null) (t.member o_n s_node)) ∷
    known w_wf (t.all (t.implies (t.member v0 s_node) (t.or (t.eq_object (t.read_object f_node_next v0) t.null) (t.member (t.read_object f_node_next v0) s_node)))) ∷
    known w_wf (t.all (t.implies (t.negation (t.member v0 s_node)) (t.eq_object (t.read_object f_node_next v0) t.null))) ∷
    known w_pre (t.negation (t.eq_object o_n t.null)) ∷
    known w_pre (t.eq_object (t.read_object f_node_next o_n) t.null) ∷
    known w_pre (t.all (t.negation (t.eq_object (t.read_object f_node_next v0) o_n))) ∷
    known w_shape (t.tree (t.more f_node_next t.none)) ∷
    known w_root (t.or (t.eq_object o_list_first t.null) (t.all (t.negation (t.eq_object (t.read_object f_node_next v0) o_list_first)))) ∷ []) (t.eq_set (t.compr (t.and (t.negation (t.eq_object v0 t.null)) (t.reach (t.more (t.update f_node_next o_n (t.of_object o_list_first)) t.none) o_n v0))) (t.union (t.compr (t.and (t.negation (t.eq_object v0 t.null)) (t.reach (t.more f_node_next t.none) o_list_first v0))) (t.single o_n)))) ≡
    sequent q [] ((known w_wf (t.all (t.iff (t.member v0 s_alloc) (t.or (t.or (t.member v0 s_node) (t.member v0 s_list)) (t.member v0 s_object)))) ∷
    known w_wf (t.all (t.negation (t.and (t.member v0 s_node) (t.member v0 s_list)))) ∷
    known w_wf (t.all (t.negation (t.and (t.member v0 s_node) (t.member v0 s_object)))) ∷
    known w_wf (t.all (t.negation (t.and (t.member v0 s_list) (t.member v0 s_object)))) ∷
    known w_wf (t.negation (t.member t.null s_alloc)) ∷
    known w_wf (t.or (t.eq_object o_list_first t.null) (t.member o_list_first s_node)) ∷
    known w_wf (t.or (t.eq_object o_n t.null) (t.member o_n s_node)) ∷
    known w_wf (t.all (t.implies (t.member v0 s_node) (t.or (t.eq_object (t.read_object f_node_next v0) t.null) (t.member (t.read_object f_node_next v0) s_node)))) ∷
    known w_wf (t.all (t.implies (t.negation (t.member v0 s_node)) (t.eq_object (t.read_object f_node_next v0) t.null))) ∷
    known w_pre (t.negation (t.eq_object o_n t.null)) ∷
    known w_pre (t.eq_object (t.read_object f_node_next o_n) t.null) ∷
    known w_pre (t.all (t.negation (t.eq_object (t.read_object f_node_next v0) o_n))) ∷
    known w_shape (t.tree (t.more f_node_next t.none)) ∷
    known w_root (t.or (t.eq_object o_list_first t.null) (t.all (t.negation (t.eq_object (t.read_object f_node_next v0) o_list_first)))) ∷
    fact (t.all (t.and (t.implies (t.eq_object v0 o_n) (t.eq_object (t.read_object f_node_next_1 v0) o_list_first)) (t.implies (t.negation (t.eq_object v0 o_n)) (t.eq_object (t.read_object f_node_next_1 v0) (t.read_object f_node_next v0))))) ∷ []) ++
    (axioms (f_node_next ∷ [])) ++
    (axioms (f_node_next_1 ∷ [])) ++
    (fact (t.implies (t.and (t.tree (t.more f_node_next t.none)) (t.and (t.eq_object (t.read_object f_node_next t.null) t.null) (t.negation (t.eq_object o_n t.null)))) (t.all (t.all (t.iff (t.reach (t.more f_node_next_1 t.none) v1 v0) (t.or (t.and (t.reach (t.more f_node_next t.none) v1 v0) (t.implies (t.reach (t.more f_node_next t.none) v1 o_n) (t.reach (t.more f_node_next t.none) v0 o_n))) (t.and (t.reach (t.more f_node_next t.none) v1 o_n) (t.and (t.reach (t.more f_node_next t.none) o_list_first v0) (t.implies (t.reach (t.more f_node_next t.none) o_list_first o_n) (t.reach (t.more f_node_next t.none) v0 o_n))))))))) ∷ [])) (t.all (t.iff (t.and (t.negation (t.eq_object v0 t.null)) (t.reach (t.more f_node_next_1 t.none) o_n v0)) (t.or (t.and (t.negation (t.eq_object v0 t.null)) (t.reach (t.more f_node_next t.none) o_list_first v0)) (t.eq_object v0 o_n))))

abbrev row_11 : MethodId → Type 0
row_11 q =
    local_of (sequent q [] (known w_wf (t.eq_set s_alloc (t.union (t.union s_node s_stack) s_object)) ∷
    known w_wf (t.eq_set (t.inter s_node s_stack) t.empty) ∷
    known w_wf (t.eq_set (t.inter s_node s_object) t.empty) ∷
    known w_wf (t.eq_set (t.inter s_stack s_object) t.empty) ∷
    known w_wf (t.negation (t.member t.null s_alloc)) ∷
    known w_wf (t.or (t.eq_object o_stack_first t.null) (t.member o_stack_first s_node)) ∷
    known w_wf (t.or (t.eq_object o_n t.null) (t.member o_n s_node)) ∷
    known w_wf (t.all (t.implies (t.member v0 s_node) (t.or (t.eq_object (t.read_object f_node_next v0) t.null) (t.member (t.read_object f_node_next v0) s_node)))) ∷
    known w_wf (t.all (t.implies (t.negation (t.member v0 s_node)) (t.eq_object (t.read_object f_node_next v0) t.null))) ∷
    known w_pre (t.negation (t.eq_object o_n t.null)) ∷
    known w_pre (t.negation (t.member o_n (t.compr (t.and (t.negation (t.eq_object v0 t.null)) (t.reach (t.more f_node_next t.none) o_stack_first v0))))) ∷
    known w_pre (t.eq_object (t.read_object f_node_next o_n) t.null) ∷
    known w_pre (t.all (t.negation (t.eq_object (t.read_object f_node_next v0) o_n))) ∷
    known w_shape (t.tree (t.more f_node_next t.none)) ∷
    known w_root (t.or (t.eq_object o_stack_first t.null) (t.all (t.negation (t.eq_object (t.read_object f_node_next v0) o_stack_first)))) ∷
    known w_count (t.eq_number (t.card (t.compr (t.and (t.negation (t.eq_object v0 t.null)) (t.reach (t.more f_node_next t.none) o_stack_first v0)))) n_stack_size) ∷ []) (t.eq_set (t.compr (t.and (t.negation (t.eq_object v0 t.null)) (t.reach (t.more (t.update f_node_next o_n (t.of_object o_stack_first)) t.none) o_n v0))) (t.union (t.compr (t.and (t.negation (t.eq_object v0 t.null)) (t.reach (t.more f_node_next t.none) o_stack_first v0))) (t.single o_n)))) ≡
    sequent q [] ((known w_wf (t.all (t.iff (t.member v0 s_alloc) (t.or (t.or (t.member v0 s_node) (t.member v0 s_stack)) (t.member v0 s_object)))) ∷
    known w_wf (t.all (t.negation (t.and (t.member v0 s_node) (t.member v0 s_stack)))) ∷
    known w_wf (t.all (t.negation (t.and (t.member v0 s_node) (t.member v0 s_object)))) ∷
    known w_wf (t.all (t.negation (t.and (t.member v0 s_stack) (t.member v0 s_object)))) ∷
    known w_wf (t.negation (t.member t.null s_alloc)) ∷
    known w_wf (t.or (t.eq_object o_stack_first t.null) (t.member o_stack_first s_node)) ∷
    known w_wf (t.or (t.eq_object o_n t.null) (t.member o_n s_node)) ∷
    known w_wf (t.all (t.implies (t.member v0 s_node) (t.or (t.eq_object (t.read_object f_node_next v0) t.null) (t.member (t.read_object f_node_next v0) s_node)))) ∷
    known w_wf (t.all (t.implies (t.negation (t.member v0 s_node)) (t.eq_object (t.read_object f_node_next v0) t.null))) ∷
    known w_pre (t.negation (t.eq_object o_n t.null)) ∷
    known w_pre (t.negation (t.and (t.negation (t.eq_object o_n t.null)) (t.reach (t.more f_node_next t.none) o_stack_first o_n))) ∷
    known w_pre (t.eq_object (t.read_object f_node_next o_n) t.null) ∷
    known w_pre (t.all (t.negation (t.eq_object (t.read_object f_node_next v0) o_n))) ∷
    known w_shape (t.tree (t.more f_node_next t.none)) ∷
    known w_root (t.or (t.eq_object o_stack_first t.null) (t.all (t.negation (t.eq_object (t.read_object f_node_next v0) o_stack_first)))) ∷
    known w_count t.true_formula ∷
    fact (t.all (t.and (t.implies (t.eq_object v0 o_n) (t.eq_object (t.read_object f_node_next_1 v0) o_stack_first)) (t.implies (t.negation (t.eq_object v0 o_n)) (t.eq_object (t.read_object f_node_next_1 v0) (t.read_object f_node_next v0))))) ∷ []) ++
    (axioms (f_node_next ∷ [])) ++
    (axioms (f_node_next_1 ∷ [])) ++
    (fact (t.implies (t.and (t.tree (t.more f_node_next t.none)) (t.and (t.eq_object (t.read_object f_node_next t.null) t.null) (t.negation (t.eq_object o_n t.null)))) (t.all (t.all (t.iff (t.reach (t.more f_node_next_1 t.none) v1 v0) (t.or (t.and (t.reach (t.more f_node_next t.none) v1 v0) (t.implies (t.reach (t.more f_node_next t.none) v1 o_n) (t.reach (t.more f_node_next t.none) v0 o_n))) (t.and (t.reach (t.more f_node_next t.none) v1 o_n) (t.and (t.reach (t.more f_node_next t.none) o_stack_first v0) (t.implies (t.reach (t.more f_node_next t.none) o_stack_first o_n) (t.reach (t.more f_node_next t.none) v0 o_n))))))))) ∷ [])) (t.all (t.iff (t.and (t.negation (t.eq_object v0 t.null)) (t.reach (t.more f_node_next_1 t.none) o_n v0)) (t.or (t.and (t.negation (t.eq_object v0 t.null)) (t.reach (t.more f_node_next t.none) o_stack_first v0)) (t.eq_object v0 o_n))))

-- what is said of what prev gave at an object, which is derived, where it stands negatively
abbrev prev_is : FormulaTree → FormulaTree
prev_is a = t.ex (t.and (t.and (t.implies (t.or (t.eq_object v1 t.null) (t.all (t.negation (t.eq_object (t.read_object f_node_next v0) v2)))) (t.eq_object v0 t.null)) (t.implies (t.and (t.negation (t.eq_object v1 t.null)) (t.ex (t.eq_object (t.read_object f_node_next v0) v2))) (t.eq_object (t.read_object f_node_next v0) v1))) a)

abbrev row_12 : MethodId → Type 0
row_12 q =
    local_of (sequent q [] (known w_wf (t.eq_set s_alloc (t.union (t.union s_node s_list) s_object)) ∷
    known w_wf (t.eq_set (t.inter s_node s_list) t.empty) ∷
    known w_wf (t.eq_set (t.inter s_node s_object) t.empty) ∷
    known w_wf (t.eq_set (t.inter s_list s_object) t.empty) ∷
    known w_wf (t.negation (t.member t.null s_alloc)) ∷
    known w_wf (t.or (t.eq_object o_list_first t.null) (t.member o_list_first s_node)) ∷
    known w_wf (t.or (t.eq_object o_n t.null) (t.member o_n s_node)) ∷
    known w_wf (t.all (t.implies (t.member v0 s_node) (t.or (t.eq_object (t.read_object f_node_next v0) t.null) (t.member (t.read_object f_node_next v0) s_node)))) ∷
    known w_wf (t.all (t.implies (t.member v0 s_node) (t.or (t.eq_object (t.read_object f_node_prev v0) t.null) (t.member (t.read_object f_node_prev v0) s_node)))) ∷
    known w_wf (t.all (t.implies (t.negation (t.member v0 s_node)) (t.eq_object (t.read_object f_node_next v0) t.null))) ∷
    known w_wf (t.all (t.implies (t.negation (t.member v0 s_node)) (t.eq_object (t.read_object f_node_prev v0) t.null))) ∷
    known w_pre (t.negation (t.eq_object o_n t.null)) ∷
    known w_pre (t.negation (t.member o_n (t.compr (t.and (t.negation (t.eq_object v0 t.null)) (t.reach (t.more f_node_next t.none) o_list_first v0))))) ∷
    known w_pre (t.eq_object (t.read_object f_node_next o_n) t.null) ∷
    known w_pre (t.all (t.negation (t.eq_object (t.read_object f_node_next v0) o_n))) ∷
    known w_shape (t.tree (t.more f_node_next t.none)) ∷
    known w_root (t.or (t.eq_object o_list_first t.null) (t.all (t.negation (t.eq_object (t.read_object f_node_next v0) o_list_first)))) ∷
    known w_back (t.all (t.all (t.implies (t.eq_object (t.read_object f_node_prev v1) v0) (t.and (t.implies (t.or (t.eq_object v1 t.null) (t.all (t.negation (t.eq_object (t.read_object f_node_next v0) v2)))) (t.eq_object v0 t.null)) (t.implies (t.and (t.negation (t.eq_object v1 t.null)) (t.ex (t.eq_object (t.read_object f_node_next v0) v2))) (t.eq_object (t.read_object f_node_next v0) v1)))))) ∷
    known w_cond (t.negation (t.eq_object o_list_first t.null)) ∷
    fact (t.eq_object (t.read_object (t.update f_node_prev o_list_first (t.of_object o_n)) o_c_1) o_c_2) ∷
    fact (t.or (t.eq_object o_c_1 t.null) (t.all (t.negation (t.eq_object (t.read_object (t.update f_node_next o_n (t.of_object o_list_first)) v0) o_c_1)))) ∷ []) (t.eq_object o_c_2 t.null)) ≡
    sequent q [] ((known w_wf (t.all (t.iff (t.member v0 s_alloc) (t.or (t.or (t.member v0 s_node) (t.member v0 s_list)) (t.member v0 s_object)))) ∷
    known w_wf (t.all (t.negation (t.and (t.member v0 s_node) (t.member v0 s_list)))) ∷
    known w_wf (t.all (t.negation (t.and (t.member v0 s_node) (t.member v0 s_object)))) ∷
    known w_wf (t.all (t.negation (t.and (t.member v0 s_list) (t.member v0 s_object)))) ∷
    known w_wf (t.negation (t.member t.null s_alloc)) ∷
    known w_wf (t.or (t.eq_object o_list_first t.null) (t.member o_list_first s_node)) ∷
    known w_wf (t.or (t.eq_object o_n t.null) (t.member o_n s_node)) ∷
    known w_wf (t.all (t.implies (t.member v0 s_node) (t.or (t.eq_object (t.read_object f_node_next v0) t.null) (t.member (t.read_object f_node_next v0) s_node)))) ∷
    known w_wf (t.all (t.implies (t.member v0 s_node) (t.or (prev_is (t.eq_object v0 t.null)) (prev_is (t.member v0 s_node))))) ∷
    known w_wf (t.all (t.implies (t.negation (t.member v0 s_node)) (t.eq_object (t.read_object f_node_next v0) t.null))) ∷
    known w_wf (t.all (t.implies (t.negation (t.member v0 s_node)) (prev_is (t.eq_object v0 t.null)))) ∷
    known w_pre (t.negation (t.eq_object o_n t.null)) ∷
    known w_pre (t.negation (t.and (t.negation (t.eq_object o_n t.null)) (t.reach (t.more f_node_next t.none) o_list_first o_n))) ∷
    known w_pre (t.eq_object (t.read_object f_node_next o_n) t.null) ∷
    known w_pre (t.all (t.negation (t.eq_object (t.read_object f_node_next v0) o_n))) ∷
    known w_shape (t.tree (t.more f_node_next t.none)) ∷
    known w_root (t.or (t.eq_object o_list_first t.null) (t.all (t.negation (t.eq_object (t.read_object f_node_next v0) o_list_first)))) ∷
    known w_cond (t.negation (t.eq_object o_list_first t.null)) ∷
    fact (t.eq_object (t.read_object f_node_prev_3 o_c_1) o_c_2) ∷
    fact (t.or (t.eq_object o_c_1 t.null) (t.all (t.negation (t.eq_object (t.read_object f_node_next_4 v0) o_c_1)))) ∷
    fact (t.all (t.and (t.implies (t.eq_object v0 o_list_first) (t.eq_object (t.read_object f_node_prev_3 v0) o_n)) (t.implies (t.negation (t.eq_object v0 o_list_first)) (prev_is (t.eq_object (t.read_object f_node_prev_3 v1) v0))))) ∷
    fact (t.all (t.and (t.implies (t.eq_object v0 o_n) (t.eq_object (t.read_object f_node_next_4 v0) o_list_first)) (t.implies (t.negation (t.eq_object v0 o_n)) (t.eq_object (t.read_object f_node_next_4 v0) (t.read_object f_node_next v0))))) ∷ []) ++
    (axioms (f_node_next ∷ []))) (t.eq_object o_c_2 t.null)

abbrev row_13 : MethodId → Type 0
row_13 q =
    local_of (sequent q [] (known w_wf (t.eq_set s_alloc (t.union (t.union s_tnode s_t) s_object)) ∷
    known w_wf (t.eq_set (t.inter s_tnode s_t) t.empty) ∷
    known w_wf (t.eq_set (t.inter s_tnode s_object) t.empty) ∷
    known w_wf (t.eq_set (t.inter s_t s_object) t.empty) ∷
    known w_wf (t.negation (t.member t.null s_alloc)) ∷
    known w_wf (t.or (t.eq_object o_t_root t.null) (t.member o_t_root s_tnode)) ∷
    known w_wf (t.or (t.eq_object o_p t.null) (t.member o_p s_tnode)) ∷
    known w_wf (t.or (t.eq_object o_n t.null) (t.member o_n s_tnode)) ∷
    known w_wf (t.all (t.implies (t.member v0 s_tnode) (t.or (t.eq_object (t.read_object f_tnode_left v0) t.null) (t.member (t.read_object f_tnode_left v0) s_tnode)))) ∷
    known w_wf (t.all (t.implies (t.member v0 s_tnode) (t.or (t.eq_object (t.read_object f_tnode_right v0) t.null) (t.member (t.read_object f_tnode_right v0) s_tnode)))) ∷
    known w_wf (t.all (t.implies (t.negation (t.member v0 s_tnode)) (t.eq_object (t.read_object f_tnode_left v0) t.null))) ∷
    known w_wf (t.all (t.implies (t.negation (t.member v0 s_tnode)) (t.eq_object (t.read_object f_tnode_right v0) t.null))) ∷
    known w_pre (t.member o_p (t.compr (t.and (t.negation (t.eq_object v0 t.null)) (t.reach (t.more f_tnode_left (t.more f_tnode_right t.none)) o_t_root v0)))) ∷
    known w_pre (t.eq_object (t.read_object f_tnode_left o_p) t.null) ∷
    known w_pre (t.negation (t.eq_object o_n t.null)) ∷
    known w_pre (t.negation (t.member o_n (t.compr (t.and (t.negation (t.eq_object v0 t.null)) (t.reach (t.more f_tnode_left (t.more f_tnode_right t.none)) o_t_root v0))))) ∷
    known w_pre (t.eq_object (t.read_object f_tnode_left o_n) t.null) ∷
    known w_pre (t.eq_object (t.read_object f_tnode_right o_n) t.null) ∷
    known w_pre (t.all (t.and (t.negation (t.eq_object (t.read_object f_tnode_left v0) o_n)) (t.negation (t.eq_object (t.read_object f_tnode_right v0) o_n)))) ∷
    fact (t.tree (t.more f_tnode_left (t.more f_tnode_right t.none))) ∷
    fact (t.or (t.eq_object o_t_root t.null) (t.all (t.and (t.negation (t.eq_object (t.read_object f_tnode_left v0) o_t_root)) (t.negation (t.eq_object (t.read_object f_tnode_right v0) o_t_root))))) ∷ []) (t.eq_set (t.compr (t.and (t.negation (t.eq_object v0 t.null)) (t.reach (t.more (t.update f_tnode_left o_p (t.of_object o_n)) (t.more f_tnode_right t.none)) o_t_root v0))) (t.union (t.compr (t.and (t.negation (t.eq_object v0 t.null)) (t.reach (t.more f_tnode_left (t.more f_tnode_right t.none)) o_t_root v0))) (t.single o_n)))) ≡
    sequent q [] ((known w_wf (t.all (t.iff (t.member v0 s_alloc) (t.or (t.or (t.member v0 s_tnode) (t.member v0 s_t)) (t.member v0 s_object)))) ∷
    known w_wf (t.all (t.negation (t.and (t.member v0 s_tnode) (t.member v0 s_t)))) ∷
    known w_wf (t.all (t.negation (t.and (t.member v0 s_tnode) (t.member v0 s_object)))) ∷
    known w_wf (t.all (t.negation (t.and (t.member v0 s_t) (t.member v0 s_object)))) ∷
    known w_wf (t.negation (t.member t.null s_alloc)) ∷
    known w_wf (t.or (t.eq_object o_t_root t.null) (t.member o_t_root s_tnode)) ∷
    known w_wf (t.or (t.eq_object o_p t.null) (t.member o_p s_tnode)) ∷
    known w_wf (t.or (t.eq_object o_n t.null) (t.member o_n s_tnode)) ∷
    known w_wf (t.all (t.implies (t.member v0 s_tnode) (t.or (t.eq_object (t.read_object f_tnode_left v0) t.null) (t.member (t.read_object f_tnode_left v0) s_tnode)))) ∷
    known w_wf (t.all (t.implies (t.member v0 s_tnode) (t.or (t.eq_object (t.read_object f_tnode_right v0) t.null) (t.member (t.read_object f_tnode_right v0) s_tnode)))) ∷
    known w_wf (t.all (t.implies (t.negation (t.member v0 s_tnode)) (t.eq_object (t.read_object f_tnode_left v0) t.null))) ∷
    known w_wf (t.all (t.implies (t.negation (t.member v0 s_tnode)) (t.eq_object (t.read_object f_tnode_right v0) t.null))) ∷
    known w_pre (t.and (t.negation (t.eq_object o_p t.null)) (t.reach (t.more f_tnode_left (t.more f_tnode_right t.none)) o_t_root o_p)) ∷
    known w_pre (t.eq_object (t.read_object f_tnode_left o_p) t.null) ∷
    known w_pre (t.negation (t.eq_object o_n t.null)) ∷
    known w_pre (t.negation (t.and (t.negation (t.eq_object o_n t.null)) (t.reach (t.more f_tnode_left (t.more f_tnode_right t.none)) o_t_root o_n))) ∷
    known w_pre (t.eq_object (t.read_object f_tnode_left o_n) t.null) ∷
    known w_pre (t.eq_object (t.read_object f_tnode_right o_n) t.null) ∷
    known w_pre (t.all (t.and (t.negation (t.eq_object (t.read_object f_tnode_left v0) o_n)) (t.negation (t.eq_object (t.read_object f_tnode_right v0) o_n)))) ∷
    fact (t.tree (t.more f_tnode_left (t.more f_tnode_right t.none))) ∷
    fact (t.or (t.eq_object o_t_root t.null) (t.all (t.and (t.negation (t.eq_object (t.read_object f_tnode_left v0) o_t_root)) (t.negation (t.eq_object (t.read_object f_tnode_right v0) o_t_root))))) ∷
    fact (t.all (t.and (t.implies (t.eq_object v0 o_p) (t.eq_object (t.read_object f_tnode_left_1 v0) o_n)) (t.implies (t.negation (t.eq_object v0 o_p)) (t.eq_object (t.read_object f_tnode_left_1 v0) (t.read_object f_tnode_left v0))))) ∷ []) ++
    (axioms (f_tnode_left ∷ f_tnode_right ∷ [])) ++
    (axioms (f_tnode_left_1 ∷ f_tnode_right ∷ [])) ++
    (fact (t.implies (t.and (t.tree (t.more f_tnode_left (t.more f_tnode_right t.none))) (t.and (t.and (t.eq_object (t.read_object f_tnode_left t.null) t.null) (t.eq_object (t.read_object f_tnode_right t.null) t.null)) (t.negation (t.eq_object o_p t.null)))) (t.all (t.all (t.implies (t.negation (t.eq_object v0 t.null)) (t.iff (t.reach (t.more f_tnode_left_1 (t.more f_tnode_right t.none)) v1 v0) (t.or (t.and (t.reach (t.more f_tnode_left (t.more f_tnode_right t.none)) v1 v0) (t.negation (t.and (t.negation (t.eq_object (t.read_object f_tnode_left o_p) t.null)) (t.and (t.reach (t.more f_tnode_left (t.more f_tnode_right t.none)) v1 o_p) (t.reach (t.more f_tnode_left (t.more f_tnode_right t.none)) (t.read_object f_tnode_left o_p) v0))))) (t.and (t.reach (t.more f_tnode_left (t.more f_tnode_right t.none)) v1 o_p) (t.and (t.negation (t.eq_object o_n t.null)) (t.and (t.reach (t.more f_tnode_left (t.more f_tnode_right t.none)) o_n v0) (t.negation (t.and (t.negation (t.eq_object (t.read_object f_tnode_left o_p) t.null)) (t.and (t.reach (t.more f_tnode_left (t.more f_tnode_right t.none)) o_n o_p) (t.reach (t.more f_tnode_left (t.more f_tnode_right t.none)) (t.read_object f_tnode_left o_p) v0))))))))))))) ∷ [])) (t.all (t.iff (t.and (t.negation (t.eq_object v0 t.null)) (t.reach (t.more f_tnode_left_1 (t.more f_tnode_right t.none)) o_t_root v0)) (t.or (t.and (t.negation (t.eq_object v0 t.null)) (t.reach (t.more f_tnode_left (t.more f_tnode_right t.none)) o_t_root v0)) (t.eq_object v0 o_n))))

with_derived : (q : MethodId) → row_12 q
unfolding local_of eliminate derived names_once constrained_by constraint_in is_variable all_steps dropped without_field_value turned built_term built_int built_set built_field built_value built_formula built_fields turn_after turn_behind term_parts int_parts set_parts field_parts value_parts formula_parts fields_parts is_whole_update is_closed_term is_closed_int is_closed_set is_closed_field is_closed_value is_closed_formula is_closed_fields text_under text_of named object_or number_or truth_or set_or field_or rewritten_term rewritten_int rewritten_set rewritten_field rewritten_value rewritten_formula rewritten_fields update_fact described without_repeats place_in named_in name_equal is_in body as_comprehension relation sets_opened mapped_term mapped_int mapped_set mapped_field mapped_value mapped_formula mapped_fields is_simple is_foreign holds_foreign two_ways iffs_opened instead_of all_of ex_of mark_of cut_once cut negation_of and_before and_of or_before or_of implies_before implies_of iff_before iff_of is_name are_one_name are_different_names has_axioms place_of same_list change led_from lists_once fields_of list_of past related_term related_int related_set related_field related_value related_formula related_fields bound_with free_object_with null_with read_object_with const_with free_number_with read_number_with add_with sub_with neg_with scale_with card_with free_set_with read_set_with empty_with univ_with single_with union_with inter_with diff_with compl_with compr_with free_field_with update_with of_object_with of_number_with of_truth_with of_set_with of_field_with true_formula_with false_formula_with free_truth_with read_truth_with negation_with and_with or_with implies_with iff_with all_with ex_with eq_object_with eq_number_with eq_set_with less_with less_equal_with divides_with member_with subset_with reach_with tree_with mark_with none_with more_with at_turn step_by first_for without_first is_of is_listed_in is_listed goes_along is_apart other_than formula_passes term_passes field_passes set_passes fields_passes eliminated atom_exchanged exchanged quantified varied_term terms_once is_read holds_read term_reads set_reads field_reads fields_reads formula_reads is_named
with_derived q = refl

rows : (q : MethodId) → row_1 q × (row_2 q × (row_3 q × (row_4 q × (row_5 q × (row_6 q × (row_7 q × (row_8 q × (row_9 q × (row_10 q × (row_11 q × (row_12 q × row_13 q)))))))))))
unfolding local_of eliminate derived names_once constrained_by constraint_in is_variable all_steps dropped without_field_value turned built_term built_int built_set built_field built_value built_formula built_fields turn_after turn_behind term_parts int_parts set_parts field_parts value_parts formula_parts fields_parts is_whole_update is_closed_term is_closed_int is_closed_set is_closed_field is_closed_value is_closed_formula is_closed_fields text_under text_of named object_or number_or truth_or set_or field_or rewritten_term rewritten_int rewritten_set rewritten_field rewritten_value rewritten_formula rewritten_fields update_fact described without_repeats place_in named_in name_equal is_in body as_comprehension relation sets_opened mapped_term mapped_int mapped_set mapped_field mapped_value mapped_formula mapped_fields is_simple is_foreign holds_foreign two_ways iffs_opened instead_of all_of ex_of mark_of cut_once cut negation_of and_before and_of or_before or_of implies_before implies_of iff_before iff_of is_name are_one_name are_different_names has_axioms place_of same_list change led_from lists_once fields_of list_of past related_term related_int related_set related_field related_value related_formula related_fields bound_with free_object_with null_with read_object_with const_with free_number_with read_number_with add_with sub_with neg_with scale_with card_with free_set_with read_set_with empty_with univ_with single_with union_with inter_with diff_with compl_with compr_with free_field_with update_with of_object_with of_number_with of_truth_with of_set_with of_field_with true_formula_with false_formula_with free_truth_with read_truth_with negation_with and_with or_with implies_with iff_with all_with ex_with eq_object_with eq_number_with eq_set_with less_with less_equal_with divides_with member_with subset_with reach_with tree_with mark_with none_with more_with
rows q = (refl, (refl, (refl, (refl, (refl, (refl, (refl, (refl, (refl, (refl, (refl, (with_derived q, refl))))))))))))

abbrev small_1 : MethodId → Type 0
small_1 q =
    local_of (sequent q [] (fact (t.subset (t.diff (t.read_set f_s (t.read_object (t.update f_g o_b (t.of_object o_b)) t.null)) s_b) t.univ) ∷
    fact (t.reach (t.more f_f (t.more f_f t.none)) t.null o_c) ∷ []) (t.reach (t.more f_g (t.more f_g t.none)) t.null (t.read_object f_h o_a))) ≡
    sequent q [] (fact t.true_formula ∷
    fact (t.reach (t.more f_f (t.more f_f t.none)) t.null o_c) ∷
    fact (t.all (t.and (t.implies (t.eq_object v0 o_b) (t.eq_object (t.read_object f_g_1 v0) o_b)) (t.implies (t.negation (t.eq_object v0 o_b)) (t.eq_object (t.read_object f_g_1 v0) (t.read_object f_g v0))))) ∷ []) (t.reach (t.more f_g (t.more f_g t.none)) t.null (t.read_object f_h o_a))

abbrev small_2 : MethodId → Type 0
small_2 q =
    local_of (sequent q [] (fact p_p ∷
    fact (t.and (t.all (t.less (t.card (t.read_set f_s v0)) (t.read_number f_k o_a))) (t.and (t.eq_number (t.add n_j (t.const (pos 1))) (t.read_number f_k o_a)) (t.eq_object t.null (t.read_object (t.update f_h o_c (t.of_object o_b)) o_a)))) ∷ []) (t.eq_number (t.add n_j (t.const (pos 1))) n_i)) ≡
    sequent q [] (fact p_p ∷
    fact (t.eq_object t.null (t.read_object f_h_1 o_a)) ∷
    fact (t.all (t.and (t.implies (t.eq_object v0 o_c) (t.eq_object (t.read_object f_h_1 v0) o_b)) (t.implies (t.negation (t.eq_object v0 o_c)) (t.eq_object (t.read_object f_h_1 v0) (t.read_object f_h v0))))) ∷ []) t.false_formula

abbrev small_3 : MethodId → Type 0
small_3 q =
    local_of (sequent q [] (fact (t.member o_b (t.diff (t.single t.null) (t.union s_a s_a))) ∷ []) (t.read_truth (t.update f_m o_c (t.of_truth (t.eq_object o_a (t.read_object f_f o_b)))) o_c)) ≡
    sequent q [] (fact (t.and (t.eq_object o_b t.null) (t.negation (t.or (t.member o_b s_a) (t.member o_b s_a)))) ∷
    fact (t.all (t.and (t.implies (t.eq_object v0 o_c) (t.iff (t.read_truth f_m_1 v0) (t.eq_object o_a (t.read_object f_f o_b)))) (t.implies (t.negation (t.eq_object v0 o_c)) (t.iff (t.read_truth f_m_1 v0) (t.read_truth f_m v0))))) ∷ []) (t.read_truth f_m_1 o_c)

abbrev small_4 : MethodId → Type 0
small_4 q =
    local_of (sequent q [] (fact (t.eq_object o_c o_b) ∷ []) (t.or (t.all (t.eq_object (t.read_object (t.update f_g o_a (t.of_object o_b)) o_c) v0)) (t.eq_object o_c (t.read_object f_h o_c)))) ≡
    sequent q [] (fact (t.eq_object o_c o_b) ∷
    fact (t.all (t.and (t.implies (t.eq_object v0 o_a) (t.eq_object (t.read_object f_g_1 v0) o_b)) (t.implies (t.negation (t.eq_object v0 o_a)) (t.eq_object (t.read_object f_g_1 v0) (t.read_object f_g v0))))) ∷ []) (t.or (t.all (t.eq_object (t.read_object f_g_1 o_c) v0)) (t.eq_object o_c (t.read_object f_h o_c)))

abbrev small_5 : MethodId → Type 0
small_5 q =
    local_of (sequent q [] [] (t.implies (t.and (t.eq_object (t.read_object (t.update f_h o_a (t.of_object (t.read_object f_f o_b))) o_a) o_c) p_q) (t.subset t.univ (t.compr (t.eq_set (t.single o_a) (t.single v0)))))) ≡
    sequent q [] (fact (t.all (t.and (t.implies (t.eq_object v0 o_a) (t.eq_object (t.read_object f_h_1 v0) (t.read_object f_f o_b))) (t.implies (t.negation (t.eq_object v0 o_a)) (t.eq_object (t.read_object f_h_1 v0) (t.read_object f_h v0))))) ∷ []) (t.implies (t.and (t.eq_object (t.read_object f_h_1 o_a) o_c) p_q) (t.all (t.all (t.iff (t.eq_object v0 o_a) (t.eq_object v0 v1)))))

abbrev small_6 : MethodId → Type 0
small_6 q =
    local_of (sequent q [] (fact (t.ex (t.iff (t.subset s_b s_a) (t.read_truth (t.update f_m t.null (t.of_truth (t.less n_i (t.const (pos 1))))) t.null))) ∷ []) (t.or (t.iff (t.eq_object o_b o_b) (t.member o_c s_a)) (t.eq_object o_c o_c))) ≡
    sequent q [] (fact (t.ex (t.iff (t.all (t.implies (t.member v0 s_b) (t.member v0 s_a))) (t.read_truth f_m_1 t.null))) ∷
    fact (t.all (t.implies (t.negation (t.eq_object v0 t.null)) (t.iff (t.read_truth f_m_1 v0) (t.read_truth f_m v0)))) ∷ []) (t.or (t.iff (t.eq_object o_b o_b) (t.member o_c s_a)) (t.eq_object o_c o_c))

abbrev small_7 : MethodId → Type 0
small_7 q =
    local_of (sequent q [] (fact (t.or (t.less (t.add n_j (t.const (pos 1))) (t.const (pos 0))) (t.negation (t.eq_number (t.read_number f_k o_b) (t.read_number (t.update f_k o_b (t.of_number (t.const (pos 0)))) o_c)))) ∷ []) (t.and (t.all (t.less (t.const (pos 1)) (t.read_number f_k v0))) (t.reach (t.more f_h t.none) (t.read_object f_f o_a) o_b))) ≡
    sequent q [] (fact t.true_formula ∷
    fact (t.all (t.and (t.implies (t.eq_object v0 o_b) (t.eq_number (t.read_number f_k_1 v0) (t.const (pos 0)))) (t.implies (t.negation (t.eq_object v0 o_b)) (t.eq_number (t.read_number f_k_1 v0) (t.read_number f_k v0))))) ∷ []) t.false_formula

abbrev small_8 : MethodId → Type 0
small_8 q =
    local_of (sequent q [] (fact (t.ex (t.ex p_p)) ∷ []) (t.or (t.read_truth (t.update f_m o_a (t.of_truth (t.read_truth f_m o_b))) o_a) (t.less (t.const (pos 1)) (t.read_number f_k o_a)))) ≡
    sequent q [] (fact (t.ex (t.ex p_p)) ∷
    fact (t.all (t.and (t.implies (t.eq_object v0 o_a) (t.iff (t.read_truth f_m_1 v0) (t.read_truth f_m o_b))) (t.implies (t.negation (t.eq_object v0 o_a)) (t.iff (t.read_truth f_m_1 v0) (t.read_truth f_m v0))))) ∷ []) (t.read_truth f_m_1 o_a)

abbrev small_9 : MethodId → Type 0
small_9 q =
    local_of (sequent q [] (fact (t.ex (t.eq_object (t.read_object f_g (t.read_object (t.update f_h o_c (t.of_object o_a)) v0)) v0)) ∷ []) (t.eq_object o_a t.null)) ≡
    sequent q [] (fact (t.ex (t.eq_object (t.read_object f_g (t.read_object f_h_1 v0)) v0)) ∷
    fact (t.all (t.and (t.implies (t.eq_object v0 o_c) (t.eq_object (t.read_object f_h_1 v0) o_a)) (t.implies (t.negation (t.eq_object v0 o_c)) (t.eq_object (t.read_object f_h_1 v0) (t.read_object f_h v0))))) ∷ []) (t.eq_object o_a t.null)

abbrev small_10 : MethodId → Type 0
small_10 q =
    local_of (sequent q [] (fact (t.and (t.eq_object o_c o_c) p_p) ∷
    fact (t.all (t.and (t.read_truth (t.update f_m v0 (t.of_truth (t.eq_object t.null (t.read_object f_h o_b)))) o_a) (t.less (t.card (t.read_set f_s o_b)) n_i))) ∷ []) (t.all (t.eq_number n_i (t.read_number f_k v0)))) ≡
    sequent q [] (fact (t.and (t.eq_object o_c o_c) p_p) ∷
    fact t.true_formula ∷ []) (t.all (t.eq_number n_i (t.read_number f_k v0)))

abbrev small_11 : MethodId → Type 0
small_11 q =
    local_of (sequent q [] [] (t.eq_object o_b (t.read_object (t.update f_g (t.read_object f_h o_c) (t.of_object t.null)) o_b))) ≡
    sequent q [] (fact (t.all (t.and (t.implies (t.eq_object v0 (t.read_object f_h o_c)) (t.eq_object (t.read_object f_g_1 v0) t.null)) (t.implies (t.negation (t.eq_object v0 (t.read_object f_h o_c))) (t.eq_object (t.read_object f_g_1 v0) (t.read_object f_g v0))))) ∷ []) (t.eq_object o_b (t.read_object f_g_1 o_b))

abbrev small_12 : MethodId → Type 0
small_12 q =
    local_of (sequent q [] (fact (t.and (t.and (t.eq_object o_a o_c) (t.eq_set s_b (t.read_set f_s o_a))) (t.eq_set s_a t.univ)) ∷ []) (t.all (t.and (t.read_truth (t.update f_m t.null (t.of_truth (t.eq_set s_b (t.read_set f_s v0)))) t.null) (t.eq_object v0 t.null)))) ≡
    sequent q [] (fact (t.and (t.and (t.eq_object o_a o_c) (t.all (t.iff (t.member v0 s_b) (t.member v0 (t.read_set f_s o_a))))) (t.all (t.member v0 s_a))) ∷ []) t.false_formula

abbrev small_13 : MethodId → Type 0
small_13 q =
    local_of (sequent q [] [] (t.less (t.read_number f_k (t.read_object (t.update f_h o_a (t.of_object (t.read_object f_h o_b))) (t.read_object f_f o_b))) n_i)) ≡
    sequent q [] (fact (t.all (t.and (t.implies (t.eq_object v0 o_a) (t.eq_object (t.read_object f_h_1 v0) (t.read_object f_h o_b))) (t.implies (t.negation (t.eq_object v0 o_a)) (t.eq_object (t.read_object f_h_1 v0) (t.read_object f_h v0))))) ∷ []) t.false_formula

abbrev small_14 : MethodId → Type 0
small_14 q =
    local_of (sequent q [] [] (t.negation (t.read_truth (t.update f_m (t.read_object f_g o_c) (t.of_truth (t.less (t.add n_j (t.const (pos 1))) (t.card (t.union s_b s_b))))) (t.read_object f_f o_c)))) ≡
    sequent q [] (fact (t.all (t.implies (t.negation (t.eq_object v0 (t.read_object f_g o_c))) (t.iff (t.read_truth f_m_1 v0) (t.read_truth f_m v0)))) ∷ []) (t.negation (t.read_truth f_m_1 (t.read_object f_f o_c)))

abbrev small_15 : MethodId → Type 0
small_15 q =
    local_of (sequent q [] (fact (t.ex (t.less (t.const (pos 1)) (t.add n_j (t.const (pos 1))))) ∷ []) (t.eq_number (t.read_number (t.update f_k t.null (t.of_number (t.const (pos 1)))) o_a) n_i)) ≡
    sequent q [] (fact t.true_formula ∷
    fact (t.all (t.and (t.implies (t.eq_object v0 t.null) (t.eq_number (t.read_number f_k_1 v0) (t.const (pos 1)))) (t.implies (t.negation (t.eq_object v0 t.null)) (t.eq_number (t.read_number f_k_1 v0) (t.read_number f_k v0))))) ∷ []) (t.eq_number (t.read_number f_k_1 o_a) n_i)

abbrev small_16 : MethodId → Type 0
small_16 q =
    local_of (sequent q [] (fact p_q ∷ []) (t.and (t.ex (t.eq_set s_b s_b)) (t.ex (t.read_truth (t.update f_m v0 (t.of_truth (t.eq_number (t.read_number (t.update f_k (t.read_object (t.update f_f t.null (t.of_object v0)) (t.read_object (t.update f_f v0 (t.of_object v0)) (t.read_object (t.update f_g v0 (t.of_object o_b)) v0))) (t.of_number (t.const (pos 1)))) v0) n_i))) o_a)))) ≡
    sequent q [] (fact p_q ∷ []) t.false_formula

abbrev small_17 : MethodId → Type 0
small_17 q =
    local_of (sequent q [] [] (t.eq_number (t.card s_a) (t.read_number (t.update f_k o_c (t.of_number (t.const (pos 0)))) o_a))) ≡
    sequent q [] (fact (t.all (t.and (t.implies (t.eq_object v0 o_c) (t.eq_number (t.read_number f_k_1 v0) (t.const (pos 0)))) (t.implies (t.negation (t.eq_object v0 o_c)) (t.eq_number (t.read_number f_k_1 v0) (t.read_number f_k v0))))) ∷ []) t.false_formula

abbrev small_18 : MethodId → Type 0
small_18 q =
    local_of (sequent q [] [] (t.read_truth (t.update f_m t.null (t.of_truth (t.eq_object t.null o_c))) o_b)) ≡
    sequent q [] (fact (t.all (t.and (t.implies (t.eq_object v0 t.null) (t.iff (t.read_truth f_m_1 v0) (t.eq_object t.null o_c))) (t.implies (t.negation (t.eq_object v0 t.null)) (t.iff (t.read_truth f_m_1 v0) (t.read_truth f_m v0))))) ∷ []) (t.read_truth f_m_1 o_b)

abbrev small_19 : MethodId → Type 0
small_19 q =
    local_of (sequent q [] [] (t.all (t.implies (t.eq_number (t.const (pos 0)) n_i) (t.read_truth (t.update f_m (t.read_object f_g v0) (t.of_truth (t.read_truth f_m o_a))) v0)))) ≡
    sequent q [] [] (t.all (t.negation (t.eq_number (t.const (pos 0)) n_i)))

abbrev small_20 : MethodId → Type 0
small_20 q =
    local_of (sequent q [] [] (t.ex (t.and (t.eq_object t.null v0) (t.eq_object (t.read_object (t.update f_g v0 (t.of_object o_b)) o_b) v0)))) ≡
    sequent q [] [] t.false_formula

abbrev small_21 : MethodId → Type 0
small_21 q =
    local_of (sequent q [] (fact (t.member (t.read_object f_h t.null) (t.read_set f_s o_a)) ∷
    fact (t.eq_set (t.read_set f_s o_b) s_b) ∷ []) (t.implies (t.less (t.read_number f_k o_b) (t.read_number f_k (t.read_object f_f o_b))) (t.implies (t.eq_object o_c o_a) (t.eq_set (t.read_set f_s o_c) s_b)))) ≡
    sequent q [] (fact (t.member (t.read_object f_h t.null) (t.read_set f_s o_a)) ∷
    fact (t.all (t.iff (t.member v0 (t.read_set f_s o_b)) (t.member v0 s_b))) ∷ []) (t.implies (t.eq_object o_c o_a) (t.all (t.iff (t.member v0 (t.read_set f_s o_c)) (t.member v0 s_b))))

abbrev small_22 : MethodId → Type 0
small_22 q =
    local_of (sequent q [] (fact (t.and (t.and p_q (t.eq_set s_b s_a)) (t.negation (t.subset (t.read_set f_s o_b) (t.read_set f_s o_a)))) ∷
    fact (t.subset (t.inter s_b s_b) (t.inter s_b (t.compr (t.eq_object v0 (t.read_object f_h v0))))) ∷ []) p_p) ≡
    sequent q [] (fact (t.and (t.and p_q (t.all (t.iff (t.member v0 s_b) (t.member v0 s_a)))) (t.negation (t.all (t.implies (t.member v0 (t.read_set f_s o_b)) (t.member v0 (t.read_set f_s o_a)))))) ∷
    fact (t.all (t.implies (t.and (t.member v0 s_b) (t.member v0 s_b)) (t.and (t.member v0 s_b) (t.eq_object v0 (t.read_object f_h v0))))) ∷ []) p_p

abbrev small_23 : MethodId → Type 0
small_23 q =
    local_of (sequent q [] (fact (t.eq_set s_a (t.union s_a s_b)) ∷
    fact (t.and (t.eq_object (t.read_object f_f t.null) t.null) (t.subset t.univ (t.read_set f_s o_b))) ∷ []) (t.or (t.all (t.eq_number n_i (t.read_number f_k v0))) (t.negation (t.read_truth f_m o_a)))) ≡
    sequent q [] (fact (t.all (t.iff (t.member v0 s_a) (t.or (t.member v0 s_a) (t.member v0 s_b)))) ∷
    fact (t.and (t.eq_object (t.read_object f_f t.null) t.null) (t.all (t.member v0 (t.read_set f_s o_b)))) ∷ []) (t.or (t.all (t.eq_number n_i (t.read_number f_k v0))) (t.negation (t.read_truth f_m o_a)))

abbrev small_24 : MethodId → Type 0
small_24 q =
    local_of (sequent q [] (fact (t.ex (t.eq_object v0 v0)) ∷
    fact (t.or (t.eq_object o_c (t.read_object f_g o_a)) (t.implies (t.subset (t.single (t.read_object f_h o_c)) s_b) (t.eq_object o_a o_c))) ∷ []) (t.read_truth f_m o_b)) ≡
    sequent q [] (fact (t.ex (t.eq_object v0 v0)) ∷
    fact (t.or (t.eq_object o_c (t.read_object f_g o_a)) (t.implies (t.all (t.implies (t.eq_object v0 (t.read_object f_h o_c)) (t.member v0 s_b))) (t.eq_object o_a o_c))) ∷ []) (t.read_truth f_m o_b)

abbrev small_25 : MethodId → Type 0
small_25 q =
    local_of (sequent q [] (fact (t.subset (t.inter (t.read_set f_s t.null) s_a) (t.compl (t.single o_b))) ∷
    fact (t.and (t.all (t.eq_number (t.card (t.compl (t.read_set f_s o_b))) (t.const (pos 1)))) (t.and (t.read_truth f_m o_c) p_q)) ∷ []) (t.and (t.and (t.less (t.const (pos 0)) n_i) (t.reach (t.more f_f t.none) o_a o_b)) p_p)) ≡
    sequent q [] (fact (t.all (t.implies (t.and (t.member v0 (t.read_set f_s t.null)) (t.member v0 s_a)) (t.negation (t.eq_object v0 o_b)))) ∷
    fact (t.and (t.read_truth f_m o_c) p_q) ∷ []) t.false_formula

abbrev small_26 : MethodId → Type 0
small_26 q =
    local_of (sequent q [] (fact (t.and (t.eq_number n_i (t.const (pos 0))) (t.negation (t.less (t.card (t.compr (t.subset (t.read_set f_s o_a) (t.single o_b)))) (t.read_number f_k o_a)))) ∷
    fact (t.member o_b (t.compr (t.implies (t.eq_set s_b (t.single (t.read_object f_f o_b))) (t.eq_object v0 t.null)))) ∷ []) (t.all (t.negation (t.eq_object t.null v0)))) ≡
    sequent q [] (fact (t.eq_number n_i (t.const (pos 0))) ∷
    fact (t.implies (t.all (t.iff (t.member v0 s_b) (t.eq_object v0 (t.read_object f_f o_b)))) (t.eq_object o_b t.null)) ∷ []) (t.all (t.negation (t.eq_object t.null v0)))

abbrev small_27 : MethodId → Type 0
small_27 q =
    local_of (sequent q [] (fact (t.all (t.iff (t.subset s_a (t.read_set f_s v0)) (t.read_truth f_m (t.read_object f_f (t.read_object f_g v0))))) ∷
    fact (t.eq_object o_c o_b) ∷ []) (t.all (t.and (t.eq_object o_c t.null) p_p))) ≡
    sequent q [] (fact (t.all (t.iff (t.all (t.implies (t.member v0 s_a) (t.member v0 (t.read_set f_s v1)))) (t.read_truth f_m (t.read_object f_f (t.read_object f_g v0))))) ∷
    fact (t.eq_object o_c o_b) ∷ []) (t.all (t.and (t.eq_object o_c t.null) p_p))

abbrev small_28 : MethodId → Type 0
small_28 q =
    local_of (sequent q [] (fact (t.implies (t.subset t.empty (t.diff (t.read_set f_s o_b) (t.read_set f_s o_c))) (t.eq_set (t.union (t.read_set f_s o_a) s_b) (t.single o_c))) ∷
    fact (t.eq_object o_b o_b) ∷ []) (t.eq_object o_b o_a)) ≡
    sequent q [] (fact (t.all (t.iff (t.or (t.member v0 (t.read_set f_s o_a)) (t.member v0 s_b)) (t.eq_object v0 o_c))) ∷
    fact (t.eq_object o_b o_b) ∷ []) (t.eq_object o_b o_a)

abbrev small_29 : MethodId → Type 0
small_29 q =
    local_of (sequent q [] (fact (t.subset (t.read_set f_s o_a) s_a) ∷
    fact (t.eq_object o_b o_a) ∷ []) (t.member o_c (t.diff s_a (t.union (t.single t.null) s_b)))) ≡
    sequent q [] (fact (t.all (t.implies (t.member v0 (t.read_set f_s o_a)) (t.member v0 s_a))) ∷
    fact (t.eq_object o_b o_a) ∷ []) (t.and (t.member o_c s_a) (t.negation (t.or (t.eq_object o_c t.null) (t.member o_c s_b))))

abbrev small_30 : MethodId → Type 0
small_30 q =
    local_of (sequent q [] (fact (t.implies (t.ex (t.eq_number n_i (t.const (pos 1)))) (t.eq_set (t.read_set f_s o_c) (t.read_set f_s o_c))) ∷ []) (t.and (t.negation (t.eq_set (t.read_set f_s o_b) s_b)) (t.member t.null (t.compr (t.eq_number (t.read_number f_k t.null) (t.card (t.compl s_a))))))) ≡
    sequent q [] (fact (t.implies (t.ex (t.eq_number n_i (t.const (pos 1)))) (t.all (t.iff (t.member v0 (t.read_set f_s o_c)) (t.member v0 (t.read_set f_s o_c))))) ∷ []) t.false_formula

abbrev small_31 : MethodId → Type 0
small_31 q =
    local_of (sequent q [] (fact (t.iff (t.iff (t.eq_set (t.single o_c) s_b) p_q) (t.iff p_p (t.eq_number (t.card (t.union (t.read_set f_s o_a) s_b)) (t.add n_j (t.const (pos 1)))))) ∷
    fact (t.eq_object t.null o_a) ∷ []) p_p) ≡
    sequent q [] (fact (t.implies (t.and (t.negation p_p) p_p) (t.iff (t.all (t.iff (t.eq_object v0 o_c) (t.member v0 s_b))) p_q)) ∷
    fact (t.eq_object t.null o_a) ∷ []) p_p

abbrev small_32 : MethodId → Type 0
small_32 q =
    local_of (sequent q [] (fact (t.subset s_b (t.inter (t.read_set f_s o_b) (t.inter s_a (t.single o_c)))) ∷ []) (t.eq_set s_b (t.compl (t.read_set f_s o_c)))) ≡
    sequent q [] (fact (t.all (t.implies (t.member v0 s_b) (t.and (t.member v0 (t.read_set f_s o_b)) (t.and (t.member v0 s_a) (t.eq_object v0 o_c))))) ∷ []) (t.all (t.iff (t.member v0 s_b) (t.negation (t.member v0 (t.read_set f_s o_c)))))

abbrev small_33 : MethodId → Type 0
small_33 q =
    local_of (sequent q [] (fact (t.and (t.negation (t.read_truth f_m t.null)) (t.eq_object o_a o_c)) ∷ []) (t.iff (t.all (t.eq_object v0 (t.read_object f_f o_c))) (t.eq_object (t.read_object f_g o_c) o_c))) ≡
    sequent q [] (fact (t.and (t.negation (t.read_truth f_m t.null)) (t.eq_object o_a o_c)) ∷ []) (t.iff (t.all (t.eq_object v0 (t.read_object f_f o_c))) (t.eq_object (t.read_object f_g o_c) o_c))

abbrev small_34 : MethodId → Type 0
small_34 q =
    local_of (sequent q [] (fact (t.subset (t.union (t.single o_c) s_b) (t.inter s_a (t.diff (t.read_set f_s t.null) (t.read_set f_s o_c)))) ∷ []) (t.negation (t.eq_object o_b t.null))) ≡
    sequent q [] (fact (t.all (t.implies (t.or (t.eq_object v0 o_c) (t.member v0 s_b)) (t.and (t.member v0 s_a) (t.and (t.member v0 (t.read_set f_s t.null)) (t.negation (t.member v0 (t.read_set f_s o_c))))))) ∷ []) (t.negation (t.eq_object o_b t.null))

smalls : (q : MethodId) → small_1 q × (small_2 q × (small_3 q × (small_4 q × (small_5 q × (small_6 q × (small_7 q × (small_8 q × (small_9 q × (small_10 q × (small_11 q × (small_12 q × (small_13 q × (small_14 q × (small_15 q × (small_16 q × (small_17 q × (small_18 q × (small_19 q × (small_20 q × (small_21 q × (small_22 q × (small_23 q × (small_24 q × (small_25 q × (small_26 q × (small_27 q × (small_28 q × (small_29 q × (small_30 q × (small_31 q × (small_32 q × (small_33 q × small_34 q))))))))))))))))))))))))))))))))
unfolding local_of eliminate derived names_once constrained_by constraint_in is_variable all_steps dropped without_field_value turned built_term built_int built_set built_field built_value built_formula built_fields turn_after turn_behind term_parts int_parts set_parts field_parts value_parts formula_parts fields_parts is_whole_update is_closed_term is_closed_int is_closed_set is_closed_field is_closed_value is_closed_formula is_closed_fields text_under text_of named object_or number_or truth_or set_or field_or rewritten_term rewritten_int rewritten_set rewritten_field rewritten_value rewritten_formula rewritten_fields update_fact described without_repeats place_in named_in name_equal is_in body as_comprehension relation sets_opened mapped_term mapped_int mapped_set mapped_field mapped_value mapped_formula mapped_fields is_simple is_foreign holds_foreign two_ways iffs_opened instead_of all_of ex_of mark_of cut_once cut negation_of and_before and_of or_before or_of implies_before implies_of iff_before iff_of is_name are_one_name are_different_names has_axioms place_of same_list change led_from lists_once fields_of list_of past related_term related_int related_set related_field related_value related_formula related_fields bound_with free_object_with null_with read_object_with const_with free_number_with read_number_with add_with sub_with neg_with scale_with card_with free_set_with read_set_with empty_with univ_with single_with union_with inter_with diff_with compl_with compr_with free_field_with update_with of_object_with of_number_with of_truth_with of_set_with of_field_with true_formula_with false_formula_with free_truth_with read_truth_with negation_with and_with or_with implies_with iff_with all_with ex_with eq_object_with eq_number_with eq_set_with less_with less_equal_with divides_with member_with subset_with reach_with tree_with mark_with none_with more_with
smalls q = (refl, (refl, (refl, (refl, (refl, (refl, (refl, (refl, (refl, (refl, (refl, (refl, (refl, (refl, (refl, (refl, (refl, (refl, (refl, (refl, (refl, (refl, (refl, (refl, (refl, (refl, (refl, (refl, (refl, (refl, (refl, (refl, (refl, refl)))))))))))))))))))))))))))))))))
