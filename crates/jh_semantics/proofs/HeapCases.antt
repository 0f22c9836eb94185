-- Heaps as lists, and runs from them.
use Rattle.std.proofs.Common.{◌≡◌, refl, pos, Bool, true, false, [], ◌∷◌, Some, None, codes}
use Rattle.jh_form.specs.Passing.{name_equal}
use Rattle.jh_form.specs.Meaning.{truth}
use Rattle.jh_rules.specs.Words.{halves}
use Rattle.jh_rules.specs.Names.{first_named, class_from, def_in, states_from}
use Rattle.jh_rules.specs.Scopes.{with_all_declared, declared, all_declared, labels_in, all_labels_in, declare_all}
use Rattle.jh_rules.specs.Exprs.{expr_type, arguments}
use Rattle.jh_vars.specs.Written.{method_in, front_before, rest_behind, merged}
use Rattle.jh_vars.specs.Resolved.{resolved, bound_as}
use Rattle.jh_vars.specs.Statements.{inner_statements, all_statements}
use Rattle.jh_vars.specs.Opened.{meant, in_method, in_class, in_classes, found_in}
use Rattle.jh_arena.specs.jh_boxed.Mapped.{mapped_value, mapped_term}
use Rattle.jh_vars.specs.state_names.States.{class_sets, members}
use Rattle.jh_semantics.specs.State.{shown}
use Rattle.jh_semantics.specs.WellFormed.{well_formed}
use Rattle.jh_semantics.specs.Progress.{null_dereferenced}
use Rattle.jh_semantics.specs.Lowered.{expr_code}
use Rattle.jh_semantics.specs.LoweredStmts.{stmt_code}
use Rattle.jh_semantics.specs.LoweredProgram.{program_of}
use Rattle.jh_semantics.specs.Heaps.{Heap, Args, IsHeap, object, number, truth_value, answered, ended, state_of, heap_of, run_of_heap}
use Rattle.jh_semantics.proofs.Sources.{callee, nodes}

-- universe 3, class Node 1 2, static Node.top 1, field Node.next 1 2
abbrev two_nodes : Bool → Bool → Heap
two_nodes first second = record {
  greatest = 3;
  classes = (1 ∷ 2 ∷ []) ∷ [] ∷ [];
  statics = object 1 ∷ [];
  fields = (object 0 ∷ object 2 ∷ object 0 ∷ object 0 ∷ []) ∷ (truth_value false ∷ truth_value first ∷ truth_value second ∷ truth_value false ∷ []) ∷ [];
}

abbrev no_args : Args
no_args = record { this = None; values = [] }

-- the state that it lists is this heap again
listed-again : heap_of (program_of nodes) (state_of (program_of nodes) (two_nodes false true)) ≡ two_nodes false true
unfolding halves first_named class_from def_in method_in states_from declared all_declared labels_in all_labels_in with_all_declared declare_all expr_type arguments front_before rest_behind merged resolved bound_as mapped_value mapped_term meant inner_statements all_statements in_method in_class in_classes found_in class_sets members expr_code stmt_code name_equal
listed-again = refl

is-a-heap : IsHeap (program_of nodes) (two_nodes false true)
unfolding halves first_named class_from def_in method_in states_from declared all_declared labels_in all_labels_in with_all_declared declare_all expr_type arguments front_before rest_behind merged resolved bound_as mapped_value mapped_term meant inner_statements all_statements in_method in_class in_classes found_in class_sets members expr_code stmt_code name_equal
is-a-heap = record { class_count = refl; objects = refl; statics_fit = (refl, tt); fields_fit = (record { size = refl; cells_fit = refl }, (record { size = refl; cells_fit = refl }, tt)); is_well_formed = refl }

-- a node that has no class may have no fields but defaults
abbrev stray : Heap
stray = record (two_nodes false true) { classes = (1 ∷ []) ∷ [] ∷ [] }

stray-is-not-well-formed : truth (well_formed (program_of nodes) [] None) (shown (state_of (program_of nodes) stray) (state_of (program_of nodes) stray)) [] ≡ false
unfolding halves first_named class_from def_in method_in states_from declared all_declared labels_in all_labels_in with_all_declared declare_all expr_type arguments front_before rest_behind merged resolved bound_as mapped_value mapped_term meant inner_statements all_statements in_method in_class in_classes found_in class_sets members expr_code stmt_code name_equal
stray-is-not-well-formed = refl

mark-marks : run_of_heap (program_of nodes) (callee (codes "mark")) (two_nodes false false) (record { this = Some 1; values = [] }) 7 ≡ answered (two_nodes true true) None
unfolding halves first_named class_from def_in method_in states_from declared all_declared labels_in all_labels_in with_all_declared declare_all expr_type arguments front_before rest_behind merged resolved bound_as mapped_value mapped_term meant inner_statements all_statements in_method in_class in_classes found_in class_sets members expr_code stmt_code name_equal
mark-marks = refl

count-counts : run_of_heap (program_of nodes) (callee (codes "count")) (two_nodes false false) (record { this = None; values = object 1 ∷ [] }) 13 ≡ answered (two_nodes false false) (Some (number (pos 4)))
unfolding halves first_named class_from def_in method_in states_from declared all_declared labels_in all_labels_in with_all_declared declare_all expr_type arguments front_before rest_behind merged resolved bound_as mapped_value mapped_term meant inner_statements all_statements in_method in_class in_classes found_in class_sets members expr_code stmt_code name_equal
count-counts = refl

second-stops : run_of_heap (program_of nodes) (callee (codes "second")) (record (two_nodes false false) { statics = object 0 ∷ [] }) no_args 9 ≡ ended (null_dereferenced (record { line = 6; column = 33 }))
unfolding halves first_named class_from def_in method_in states_from declared all_declared labels_in all_labels_in with_all_declared declare_all expr_type arguments front_before rest_behind merged resolved bound_as mapped_value mapped_term meant inner_statements all_statements in_method in_class in_classes found_in class_sets members expr_code stmt_code name_equal
second-stops = refl
