-- That a source is sound can fail: two sources that are not, each with the state from which a run of it ends badly.
use Rattle.std.proofs.Common.{◌≡◌, refl, sym, subst, ℕ, ◌<◌, ◌==◌, ◌&&◌, ◌||◌, arith, Bool, true, false, if◌then◌else◌, List, [], None, Some, codes}
use Rattle.std.proofs.lemmas.Bool.{true≢false}
use Rattle.std.proofs.lemmas.Bool.Decides.{nat_tests}
use Rattle.std.specs.List.{Contains}
use Rattle.jh_name.specs.declared.naming.Name.{Name}
use Rattle.jh_name.specs.declared.place.Kind.TheVariants as k
use Rattle.jh_form.specs.Passing.{name_equal}
use Rattle.jh_form.specs.Meaning.{truth}
use Rattle.jh_rules.specs.declared.types.Ty.TheVariants as ty
use Rattle.jh_rules.specs.Words.{halves}
use Rattle.jh_rules.specs.Names.{first_named, class_from, def_in, states_from}
use Rattle.jh_rules.specs.Scopes.{with_all_declared, declared, all_declared, labels_in, all_labels_in, declare_all}
use Rattle.jh_rules.specs.Exprs.{expr_type, arguments}
use Rattle.jh_vars.specs.States as States
use Rattle.jh_vars.specs.Written.{method_in, Written, front_before, rest_behind, merged, Names, plainly, through}
use Rattle.jh_vars.specs.Resolved.{resolved, bound_as}
use Rattle.jh_vars.specs.Statements.{inner_statements, all_statements}
use Rattle.jh_vars.specs.Opened.{meant, in_method, in_class, in_classes, found_in}
use Rattle.jh_arena.specs.jh_boxed.Mapped.{mapped_value, mapped_term}
use Rattle.jh_vars.specs.state_names.States.{class_sets, members}
use Rattle.jh_semantics.specs.Program.{Member}
use Rattle.jh_semantics.specs.State.{State, IsWhole, named, shown}
use Rattle.jh_semantics.specs.WellFormed.{well_formed}
use Rattle.jh_semantics.specs.Entry.{Entry}
use Rattle.jh_semantics.specs.Lowered.{expr_code}
use Rattle.jh_semantics.specs.LoweredStmts.{stmt_code}
use Rattle.jh_semantics.specs.LoweredProgram.{program_of, method_code, IsSound}
use Rattle.jh_semantics.proofs.Cases.{chain}
use Rattle.jh_semantics.proofs.Sources.{callee, swap_part, swap, two, second_part, nodes}

-- states whose sets and fields are those of the chain
chain-set : (b : Bool) (a : ℕ) → (if b then ((a == 1) || (a == 2)) else false) ≡ true → a < 4
chain-set true a h = grind (arith, nat_tests)
chain-set false a h = absurd (true≢false (sym h))

two-or-none : (b : Bool) → (if b then 2 else 0) < 4
two-or-none true = omega arith
two-or-none false = omega arith

two-is-not-one : ◌≡◌ {A = ℕ} 2 1 → ⊥
two-is-not-one e = omega (e, arith)

one-two-or-none : (b c : Bool) → (if b then 1 else (if c then 2 else 0)) < 4
one-two-or-none true c = omega arith
one-two-or-none false true = omega arith
one-two-or-none false false = omega arith

chain-whole : (object : Name → ℕ) → ((x : Name) → object x < 4) → IsWhole (record chain { object = object })
chain-whole object h = record {
  objects = record { object = h; field = λ x a i. two-or-none (name_equal x (named (codes "Node.next")) && (a == 1)) };
  sets = λ x a i. chain-set (name_equal x (named (codes "alloc")) || name_equal x (named (codes "Node"))) a i;
  members = λ x a b i g. absurd (true≢false (sym g));
}

-- `second` of the source with nodes dereferences null where there is no top.
abbrev no_top : State
no_top = record chain { object = λ x. 0 }

second-may-run : Entry (program_of nodes) (method_code nodes 0 second_part) no_top 0 []
unfolding halves first_named class_from def_in method_in states_from declared all_declared labels_in all_labels_in with_all_declared declare_all expr_type arguments front_before rest_behind merged resolved bound_as mapped_value mapped_term meant inner_statements all_statements in_method in_class in_classes found_in class_sets members expr_code stmt_code name_equal
second-may-run = record {
  whole = chain-whole (λ x. 0) (λ x. omega arith);
  well_formed = refl;
  this_lies = refl;
  arguments = tt;
  requires = refl;
  invariants = tt;
}

nodes-is-unsound : IsSound nodes → ⊥
unfolding halves first_named class_from def_in method_in states_from declared all_declared labels_in all_labels_in with_all_declared declare_all expr_type arguments front_before rest_behind merged resolved bound_as mapped_value mapped_term meant inner_statements all_statements in_method in_class in_classes found_in class_sets members expr_code stmt_code name_equal
nodes-is-unsound sound = sound (callee (codes "second")) (method_code nodes 0 second_part) refl no_top 0 [] second-may-run [] 2

-- `swap` changes a, which it doesn't name in `modifies`: of the plain objects 1 and 2 it puts 2 there for 1.
abbrev plain_two : State
plain_two = record two { set = λ x a. if name_equal x (named (codes "alloc")) || name_equal x (named (codes "Object")) then ((a == 1) || (a == 2)) else false }

swap-may-run : Entry (program_of swap) (method_code swap 0 swap_part) plain_two 0 []
unfolding halves first_named class_from def_in method_in states_from declared all_declared labels_in all_labels_in with_all_declared declare_all expr_type arguments front_before rest_behind merged resolved bound_as mapped_value mapped_term meant inner_statements all_statements in_method in_class in_classes found_in class_sets members expr_code stmt_code name_equal
swap-may-run = record {
  whole = record {
    objects = record {
      object = λ x. one-two-or-none (name_equal x (named (codes "A.a"))) (name_equal x (named (codes "A.b")));
      field = λ x a i. two-or-none (name_equal x (named (codes "Node.next")) && (a == 1));
    };
    sets = λ x a i. chain-set (name_equal x (named (codes "alloc")) || name_equal x (named (codes "Object"))) a i;
    members = λ x a b i g. absurd (true≢false (sym g));
  };
  well_formed = refl;
  this_lies = refl;
  arguments = tt;
  requires = refl;
  invariants = tt;
}

-- in the state of the nodes it may not run: they are no objects of its classes
swap-wants-its-objects : truth (well_formed (program_of swap) [] None) (shown two two) [] ≡ false
unfolding halves first_named class_from def_in method_in states_from declared all_declared labels_in all_labels_in with_all_declared declare_all expr_type arguments front_before rest_behind merged resolved bound_as mapped_value mapped_term meant inner_statements all_statements in_method in_class in_classes found_in class_sets members expr_code stmt_code name_equal
swap-wants-its-objects = refl

nothing-in-it : {X : Type 0} (x : X) → Contains [] x → ⊥
nothing-in-it x h = omega (h.1, arith)

nothing-named : (xs : List States.State) (w : Written) → xs ≡ [] → Names swap xs w → ⊥
nothing-named xs w e (plainly named x h d) = nothing-in-it x (subst (λ ys. Contains ys x) e h)
nothing-named xs w e (through named x y h f r d) = nothing-in-it x (subst (λ ys. Contains ys x) e h)

abbrev static_a : Member
static_a = record { text = codes "A.a"; class = codes "A"; kind = k.Obj; is_static = true; type = Some ty.Object }

swap-has-a : Contains (program_of swap).members static_a
unfolding halves first_named class_from def_in method_in states_from declared all_declared labels_in all_labels_in with_all_declared declare_all expr_type arguments front_before rest_behind merged resolved bound_as mapped_value mapped_term meant inner_statements all_statements in_method in_class in_classes found_in class_sets members expr_code stmt_code name_equal
swap-has-a = (0, omega arith, refl)

swap-is-unsound : IsSound swap → ⊥
unfolding halves first_named class_from def_in method_in states_from declared all_declared labels_in all_labels_in with_all_declared declare_all expr_type arguments front_before rest_behind merged resolved bound_as mapped_value mapped_term meant inner_statements all_statements in_method in_class in_classes found_in class_sets members expr_code stmt_code name_equal
swap-is-unsound sound = two-is-not-one
    ((sound (callee (codes "swap")) (method_code swap 0 swap_part) refl plain_two 0 [] swap-may-run [] 4).frame.members static_a swap-has-a (λ m. nothing-named [] m.state refl m.is_named))
