-- Two sources as programs of runs, and what they do: from the syntax tree to the end of a run, worked by hand and proved by computing.
use Rattle.std.proofs.Common.{◌≡◌, refl, ℕ, pos, Bool, true, false, if◌then◌else◌, List, [], ◌∷◌, Option, Some, None, option_map, codes}
use Rattle.jh_name.specs.declared.place.Place.{Place}
use Rattle.jh_name.specs.declared.place.Kind.TheVariants as k
use Rattle.jh_ast.specs.declared.word.Word.{Word}
use Rattle.jh_ast.specs.declared.word.JType.{JType}
use Rattle.jh_ast.specs.declared.word.JType.TheVariants as j
use Rattle.jh_ast.specs.declared.word.Param.{Param}
use Rattle.jh_ast.specs.declared.expr.Op.TheVariants as op
use Rattle.jh_ast.specs.Exprs.{ExprTree}
use Rattle.jh_ast.specs.Exprs as e
use Rattle.jh_ast.specs.Forms.{FormTree, SpecPart, LabelledPart}
use Rattle.jh_ast.specs.Forms as f
use Rattle.jh_ast.specs.Stmts.{StmtTree, StmtTrees, CallTree}
use Rattle.jh_ast.specs.Stmts as s
use Rattle.jh_ast.specs.Programs.{ProgramTree, FieldPart, MethodPart}
use Rattle.jh_form.specs.Tree as t
use Rattle.jh_form.specs.Passing.{name_equal}
use Rattle.jh_form.specs.Meaning.{an_object, a_number}
use Rattle.jh_rules.specs.declared.types.Ty.TheVariants as ty
use Rattle.jh_rules.specs.Words.{halves}
use Rattle.jh_rules.specs.Names.{first_named, class_from, def_in, states_from}
use Rattle.jh_rules.specs.Scopes.{with_all_declared, declared, all_declared, labels_in, all_labels_in, declare_all}
use Rattle.jh_rules.specs.Exprs.{expr_type, arguments}
use Rattle.jh_vars.specs.Written.{method_in, Callee, front_before, rest_behind, merged}
use Rattle.jh_vars.specs.Resolved.{resolved, bound_as}
use Rattle.jh_vars.specs.Statements.{inner_statements, all_statements}
use Rattle.jh_vars.specs.Opened.{meant, in_method, in_class, in_classes, found_in}
use Rattle.jh_arena.specs.jh_boxed.Mapped.{mapped_value, mapped_term}
use Rattle.jh_vars.specs.state_names.States.{class_sets, members}
use Rattle.jh_semantics.specs.Code.{Text, Stmts}
use Rattle.jh_semantics.specs.Code as c
use Rattle.jh_semantics.specs.Program.{Method}
use Rattle.jh_semantics.specs.State.{State, named}
use Rattle.jh_semantics.specs.Progress.{Outcome, stopped, null_dereferenced, steps_out}
use Rattle.jh_semantics.specs.Execution.{run}
use Rattle.jh_semantics.specs.Lowered.{expr_code}
use Rattle.jh_semantics.specs.LoweredStmts.{stmt_code}
use Rattle.jh_semantics.specs.LoweredProgram.{program_of}
use Rattle.jh_semantics.proofs.Cases.{at, chain, object_after, seen_after, result_after}

abbrev pub word : List ℕ → ℕ → ℕ → Word
word x l n = record { text = record { text = x; turn = 0 }; place = at l n }

abbrev name : List ℕ → ℕ → ℕ → ExprTree
name x l n = e.name (at l n) (word x l n)

abbrev pub spec : Place → ℕ → FormTree → SpecPart
spec p n a = record { place = p; number = n; form = a }

abbrev pub param : Word → JType → Param
param w x = record { name = w; jtype = x }

abbrev pub field : Word → JType → Bool → FieldPart
field w x fixed = record { name = w; jtype = x; fixed = fixed; init = None }

abbrev method : Word → Bool → JType → List Param → StmtTrees → MethodPart
method w fixed result params body =
    record { name = w; is_public = false; fixed = fixed; result = result; params = params; pre = None; modifies = []; post = None; body = body; end = at 99 1 }

abbrev pub callee : List ℕ → Callee
callee x = record { class = 0; name = x }

-- class A {
--   static Object a; static Object b;
--   static void swap() { Object t = a; a = b; b = t; }
-- }
abbrev object : ℕ → ℕ → JType
object l n = j.Class (word (codes "Object") l n)

abbrev pub swap_part : MethodPart
swap_part = method (word (codes "swap") 3 15) true j.Void [] (
    s.more (s.local (at 3 24) (param (word (codes "t") 3 31) (object 3 24)) (Some (s.value (name (codes "a") 3 35))))
    (s.more (s.assign (at 3 38) (name (codes "a") 3 38) (s.value (name (codes "b") 3 42)))
    (s.more (s.assign (at 3 45) (name (codes "b") 3 45) (s.value (name (codes "t") 3 49))) s.none)))

abbrev pub swap : ProgramTree
swap = record {
  classes = record {
    name = word (codes "A") 1 7;
    fields = field (word (codes "a") 2 17) (object 2 10) true ∷ field (word (codes "b") 2 34) (object 2 27) true ∷ [];
    methods = swap_part ∷ [];
    vars = [];
    defs = [];
    invariants = [];
  } ∷ [];
}

abbrev pub body_of : Option Method → Option Stmts
body_of m = option_map (λ (x : Method). x.body) m

swap-is : body_of ((program_of swap).method (callee (codes "swap"))) ≡ Some (
    c.more (c.assign (c.to_new (record { text = codes "t"; type = ty.Object })) (c.an_object (c.object (codes "A.a"))))
    (c.more (c.assign (c.to_name (codes "A.a")) (c.an_object (c.object (codes "A.b"))))
    (c.more (c.assign (c.to_name (codes "A.b")) (c.an_object (c.object (codes "t")))) c.none)))
unfolding halves first_named class_from def_in method_in declared labels_in with_all_declared declare_all expr_type expr_code stmt_code
swap-is = refl

swap-has : (program_of swap).members ≡
    record { text = codes "A.a"; class = codes "A"; kind = k.Obj; is_static = true; type = Some ty.Object }
    ∷ record { text = codes "A.b"; class = codes "A"; kind = k.Obj; is_static = true; type = Some ty.Object } ∷ []
unfolding halves first_named class_from def_in front_before rest_behind merged class_sets members
swap-has = refl

-- a is 1 and b is 2
abbrev pub two : State
two = record chain { object = λ x. if name_equal x (named (codes "A.a")) then 1 else (if name_equal x (named (codes "A.b")) then 2 else 0) }

abbrev swapped : ℕ → Outcome
swapped steps = run (program_of swap) (callee (codes "swap")) two 0 [] [] steps

swap-gives-a : object_after (swapped 4) (codes "A.a") ≡ Some 2
unfolding halves first_named class_from def_in method_in declared labels_in with_all_declared declare_all expr_type expr_code stmt_code name_equal
swap-gives-a = refl

swap-gives-b : object_after (swapped 4) (codes "A.b") ≡ Some 1
unfolding halves first_named class_from def_in method_in declared labels_in with_all_declared declare_all expr_type expr_code stmt_code name_equal
swap-gives-b = refl

swap-wants-four-steps : swapped 3 ≡ stopped steps_out
unfolding halves first_named class_from def_in method_in declared labels_in with_all_declared declare_all expr_type expr_code stmt_code name_equal
swap-wants-four-steps = refl

-- class Node {
--   static Node top; Node next;
--   /*: public ghost specvar seen :: bool; */
--   void mark() { /*: seen := "True" */ if (next != null && next != this) next.mark(); }
--   static int count(Node x) { int k; Node y = x; while (y != null) { y = y.next; k = k + 1; } return 2 * k; }
--   static Node second() { return Node.top.next; }
-- }
abbrev node_type : ℕ → ℕ → JType
node_type l n = j.Class (word (codes "Node") l n)

abbrev not_null : Place → ExprTree → Place → ExprTree
not_null p a q = e.binary p op.NotEqual a (e.null q)

abbrev mark_body : StmtTrees
mark_body =
    s.more (s.ghost (at 4 21) (spec (at 4 21) 0 (f.name (at 4 21) (word (codes "seen") 4 21))) (spec (at 4 29) 1 (f.yes (at 4 30))))
    (s.more (s.branch (at 4 39)
    (e.binary (at 4 43) op.And (not_null (at 4 43) (name (codes "next") 4 43) (at 4 51)) (e.binary (at 4 59) op.NotEqual (name (codes "next") 4 59) (e.this (at 4 67))))
    (s.call (at 4 73) (record { receiver = Some (name (codes "next") 4 73); method = word (codes "mark") 4 78; args = [] })) s.none) s.none)

abbrev turn_body : StmtTrees
turn_body =
    s.more (s.assign (at 5 69) (name (codes "y") 5 69) (s.value (e.member (at 5 73) (name (codes "y") 5 73) (word (codes "next") 5 75))))
    (s.more (s.assign (at 5 81) (name (codes "k") 5 81) (s.value (e.binary (at 5 85) op.Add (name (codes "k") 5 85) (e.number (at 5 89) (pos 1))))) s.none)

abbrev count_body : StmtTrees
count_body =
    s.more (s.local (at 5 30) (param (word (codes "k") 5 34) j.Int) None)
    (s.more (s.local (at 5 37) (param (word (codes "y") 5 42) (node_type 5 37)) (Some (s.value (name (codes "x") 5 46))))
    (s.more (s.loop (at 5 49) [] (not_null (at 5 56) (name (codes "y") 5 56) (at 5 61)) (s.block (at 5 67) turn_body))
    (s.more (s.return (at 5 94) (Some (e.binary (at 5 101) op.Mul (e.number (at 5 101) (pos 2)) (name (codes "k") 5 105)))) s.none)))

abbrev second_body : StmtTrees
second_body = s.more (s.return (at 6 26) (Some (e.member (at 6 33) (e.member (at 6 33) (name (codes "Node") 6 33) (word (codes "top") 6 38)) (word (codes "next") 6 42)))) s.none

abbrev pub second_part : MethodPart
second_part = method (word (codes "second") 6 15) true (node_type 6 10) [] second_body

abbrev pub nodes : ProgramTree
nodes = record {
  classes = record {
    name = word (codes "Node") 1 7;
    fields = field (word (codes "top") 2 15) (node_type 2 10) true ∷ field (word (codes "next") 2 25) (node_type 2 20) false ∷ [];
    methods =
        method (word (codes "mark") 4 8) false j.Void [] mark_body
        ∷ method (word (codes "count") 5 14) true j.Int (param (word (codes "x") 5 25) (node_type 5 20) ∷ []) count_body
        ∷ second_part ∷ [];
    vars = record { name = word (codes "seen") 3 28; kind = k.Bool; fixed = false; is_ghost = true; init = None } ∷ [];
    defs = [];
    invariants = [];
  } ∷ [];
}

nodes-has : (program_of nodes).members ≡
    record { text = codes "Node.top"; class = codes "Node"; kind = k.Obj; is_static = true; type = Some (ty.Class 0) }
    ∷ record { text = codes "Node.next"; class = codes "Node"; kind = k.Obj; is_static = false; type = Some (ty.Class 0) }
    ∷ record { text = codes "Node.seen"; class = codes "Node"; kind = k.Bool; is_static = false; type = None } ∷ []
unfolding halves first_named class_from def_in method_in states_from declared all_declared labels_in all_labels_in with_all_declared declare_all expr_type arguments front_before rest_behind merged resolved bound_as mapped_value mapped_term meant inner_statements all_statements in_method in_class in_classes found_in class_sets members expr_code stmt_code name_equal
nodes-has = refl

second-is : body_of ((program_of nodes).method (callee (codes "second"))) ≡ Some (
    c.more (c.return_value (c.an_object (c.read_object (codes "Node.next") (c.object (codes "Node.top")) (at 6 33)))) c.none)
unfolding halves first_named class_from def_in method_in states_from declared all_declared labels_in all_labels_in with_all_declared declare_all expr_type arguments front_before rest_behind merged resolved bound_as mapped_value mapped_term meant inner_statements all_statements in_method in_class in_classes found_in class_sets members expr_code stmt_code name_equal
second-is = refl

mark-is : body_of ((program_of nodes).method (callee (codes "mark"))) ≡ Some (
    c.more (c.ghost_at (at 4 21) (codes "Node") (codes "Node.seen") (t.free_object (named (codes "this"))) (at 4 29) (t.of_truth t.true_formula))
    (c.more (c.branch (at 4 39)
    (c.both (c.negation (c.same_object (c.read_object (codes "Node.next") c.this (at 4 43)) c.null)) (c.negation (c.same_object (c.read_object (codes "Node.next") c.this (at 4 59)) c.this)))
    (c.call (at 4 73) c.nowhere (Some (c.read_object (codes "Node.next") c.this (at 4 73))) (at 4 73) (callee (codes "mark")) []) c.none) c.none))
unfolding halves first_named class_from def_in method_in states_from declared all_declared labels_in all_labels_in with_all_declared declare_all expr_type arguments front_before rest_behind merged resolved bound_as mapped_value mapped_term meant inner_statements all_statements in_method in_class in_classes found_in class_sets members expr_code stmt_code name_equal
mark-is = refl

-- the nodes are 1 and 2, and `next` leads from 1 to 2
abbrev marked : ℕ → Outcome
marked steps = run (program_of nodes) (callee (codes "mark")) chain 1 [] [] steps

mark-sees-the-second : seen_after (marked 7) 2 ≡ Some true
unfolding halves first_named class_from def_in method_in states_from declared all_declared labels_in all_labels_in with_all_declared declare_all expr_type arguments front_before rest_behind merged resolved bound_as mapped_value mapped_term meant inner_statements all_statements in_method in_class in_classes found_in class_sets members expr_code stmt_code name_equal
mark-sees-the-second = refl

mark-sees-the-first : seen_after (marked 7) 1 ≡ Some true
unfolding halves first_named class_from def_in method_in states_from declared all_declared labels_in all_labels_in with_all_declared declare_all expr_type arguments front_before rest_behind merged resolved bound_as mapped_value mapped_term meant inner_statements all_statements in_method in_class in_classes found_in class_sets members expr_code stmt_code name_equal
mark-sees-the-first = refl

mark-wants-seven-steps : marked 6 ≡ stopped steps_out
unfolding halves first_named class_from def_in method_in states_from declared all_declared labels_in all_labels_in with_all_declared declare_all expr_type arguments front_before rest_behind merged resolved bound_as mapped_value mapped_term meant inner_statements all_statements in_method in_class in_classes found_in class_sets members expr_code stmt_code name_equal
mark-wants-seven-steps = refl

count-is-four : result_after (run (program_of nodes) (callee (codes "count")) chain 0 (an_object 1 ∷ []) [] 13) ≡ Some (Some (a_number (pos 4)))
unfolding halves first_named class_from def_in method_in states_from declared all_declared labels_in all_labels_in with_all_declared declare_all expr_type arguments front_before rest_behind merged resolved bound_as mapped_value mapped_term meant inner_statements all_statements in_method in_class in_classes found_in class_sets members expr_code stmt_code name_equal
count-is-four = refl

second-is-two : result_after (run (program_of nodes) (callee (codes "second")) chain 0 [] [] 2) ≡ Some (Some (an_object 2))
unfolding halves first_named class_from def_in method_in states_from declared all_declared labels_in all_labels_in with_all_declared declare_all expr_type arguments front_before rest_behind merged resolved bound_as mapped_value mapped_term meant inner_statements all_statements in_method in_class in_classes found_in class_sets members expr_code stmt_code name_equal
second-is-two = refl

second-of-none : run (program_of nodes) (callee (codes "second")) (record chain { object = λ x. 0 }) 0 [] [] 2 ≡ stopped (null_dereferenced (at 6 33))
unfolding halves first_named class_from def_in method_in states_from declared all_declared labels_in all_labels_in with_all_declared declare_all expr_type arguments front_before rest_behind merged resolved bound_as mapped_value mapped_term meant inner_statements all_statements in_method in_class in_classes found_in class_sets members expr_code stmt_code name_equal
second-of-none = refl
