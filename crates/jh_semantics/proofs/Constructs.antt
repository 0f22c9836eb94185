-- A source with each construct of the language, and the code that it is, worked by hand.
use Rattle.std.proofs.Common.{◌≡◌, refl, ℕ, pos, negsuc, true, false, [], ◌∷◌, Some, None, codes}
use Rattle.jh_name.specs.declared.place.Kind.TheVariants as k
use Rattle.jh_ast.specs.declared.word.JType.TheVariants as j
use Rattle.jh_ast.specs.declared.expr.Op.TheVariants as op
use Rattle.jh_ast.specs.declared.spec.SpecOp.TheVariants as sop
use Rattle.jh_ast.specs.Exprs as e
use Rattle.jh_ast.specs.Forms as f
use Rattle.jh_ast.specs.Stmts as s
use Rattle.jh_ast.specs.Programs.{ProgramTree}
use Rattle.jh_form.specs.Tree.{TermTree}
use Rattle.jh_form.specs.Tree as t
use Rattle.jh_rules.specs.declared.types.Ty.{Ty}
use Rattle.jh_rules.specs.declared.types.Ty.TheVariants as ty
use Rattle.jh_rules.specs.Words.{halves}
use Rattle.jh_rules.specs.Names.{first_named, class_from, def_in, states_from}
use Rattle.jh_rules.specs.Scopes.{with_all_declared, declared, all_declared, labels_in, all_labels_in, declare_all}
use Rattle.jh_rules.specs.Exprs.{expr_type, arguments}
use Rattle.jh_rules.specs.Formulas.{equations}
use Rattle.jh_vars.specs.Written.{method_in, Callee, front_before, rest_behind, merged}
use Rattle.jh_vars.specs.Resolved.{own, resolved, union_of, bound_as, field_list, quantified}
use Rattle.jh_vars.specs.Statements.{inner_statements, all_statements}
use Rattle.jh_vars.specs.Opened.{meant, uses_this, one_uses_this, in_method, in_class, in_classes, found_in}
use Rattle.jh_arena.specs.jh_boxed.Mapped.{mapped_value, mapped_term}
use Rattle.jh_vars.specs.state_names.States.{class_sets, members}
use Rattle.jh_semantics.specs.Code.{Text, ObjectCode, NumberCode, TruthCode, Local, Stmt, Stmts}
use Rattle.jh_semantics.specs.Code as c
use Rattle.jh_semantics.specs.Lowered.{expr_code}
use Rattle.jh_semantics.specs.LoweredStmts.{stmt_code}
use Rattle.jh_semantics.specs.LoweredProgram.{program_of}
use Rattle.jh_semantics.proofs.Cases.{at}
use Rattle.jh_semantics.proofs.Sources.{word, spec, param, field, callee, body_of}

-- class A {
--   static int n; static boolean b; static A top;
--   int k; boolean t; A next; Object o;
--   /*: public ghost specvar g :: obj; public static ghost specvar s :: objset; public ghost specvar i :: int;
--       specvar d :: bool; vardefs "d == next = null"; invariant Up: "0 <= n"; invariant "k = 0"; */
--   public int exprs(A p, int q) {
--     n = 1 + q - k; n = -q * 2; n = -3 * q; n = 2 * 3; n = B.m + p.next.k;
--     b = !t && (q < n || q <= 1) == true; b = q > 2 != (q >= 3); b = p == null; b = (this).next != o;
--     return k;
--   }
--   void targets(A p) {
--     A x; int y; boolean z; Object v = p; x = p; top = new A(); B.m = 2; k = 4; p.next.t = true; next = p; this.o = new Object();
--     ; { B w = B.make(p, 1); } run(); p.next.run(); y = exprs(x, y);
--     if (z) run(); else return; while /*: inv I: "n = old n" inv "x = null" */ (b) { } return;
--   }
--   private void run() /*: requires "n = 0" modifies d ensures "n = old n & d" */ {
--     /*: assert L: "d" from pre, Up; note "g = null"; g := "next"; s := "{this} Un {}"; "top..i" := "n + 1"; "next..g" := "null" */
--   }
-- }
-- class B { static int m; static B make(A a, int c) { return null; } }
abbrev each : ProgramTree
each = record { classes = ((record { name = (word (codes "A") 1 7); fields = ((field (word (codes "n") 2 14) j.Int true) ∷ (field (word (codes "b") 2 32) j.Boolean true) ∷ (field (word (codes "top") 2 44) (j.Class (word (codes "A") 2 42)) true) ∷ (field (word (codes "k") 3 7) j.Int false) ∷ (field (word (codes "t") 3 18) j.Boolean false) ∷ (field (word (codes "next") 3 23) (j.Class (word (codes "A") 3 21)) false) ∷ (field (word (codes "o") 3 36) (j.Class (word (codes "Object") 3 29)) false) ∷ []); methods = ((record { name = (word (codes "exprs") 6 14); is_public = true; fixed = false; result = j.Int; params = ((param (word (codes "p") 6 22) (j.Class (word (codes "A") 6 20))) ∷ (param (word (codes "q") 6 29) j.Int) ∷ []); pre = None; modifies = []; post = None; body = (s.more (s.assign (at 7 5) (e.name (at 7 5) (word (codes "n") 7 5)) (s.value (e.binary (at 7 9) op.Sub (e.binary (at 7 9) op.Add (e.number (at 7 9) (pos 1)) (e.name (at 7 13) (word (codes "q") 7 13))) (e.name (at 7 17) (word (codes "k") 7 17))))) (s.more (s.assign (at 7 20) (e.name (at 7 20) (word (codes "n") 7 20)) (s.value (e.binary (at 7 24) op.Mul (e.minus (at 7 24) (e.name (at 7 25) (word (codes "q") 7 25))) (e.number (at 7 29) (pos 2))))) (s.more (s.assign (at 7 32) (e.name (at 7 32) (word (codes "n") 7 32)) (s.value (e.binary (at 7 36) op.Mul (e.minus (at 7 36) (e.number (at 7 37) (pos 3))) (e.name (at 7 41) (word (codes "q") 7 41))))) (s.more (s.assign (at 7 44) (e.name (at 7 44) (word (codes "n") 7 44)) (s.value (e.binary (at 7 48) op.Mul (e.number (at 7 48) (pos 2)) (e.number (at 7 52) (pos 3))))) (s.more (s.assign (at 7 55) (e.name (at 7 55) (word (codes "n") 7 55)) (s.value (e.binary (at 7 59) op.Add (e.member (at 7 59) (e.name (at 7 59) (word (codes "B") 7 59)) (word (codes "m") 7 61)) (e.member (at 7 65) (e.member (at 7 65) (e.name (at 7 65) (word (codes "p") 7 65)) (word (codes "next") 7 67)) (word (codes "k") 7 72))))) (s.more (s.assign (at 8 5) (e.name (at 8 5) (word (codes "b") 8 5)) (s.value (e.binary (at 8 9) op.And (e.negation (at 8 9) (e.name (at 8 10) (word (codes "t") 8 10))) (e.binary (at 8 15) op.Equal (e.binary (at 8 15) op.Or (e.binary (at 8 16) op.Less (e.name (at 8 16) (word (codes "q") 8 16)) (e.name (at 8 20) (word (codes "n") 8 20))) (e.binary (at 8 25) op.LessEq (e.name (at 8 25) (word (codes "q") 8 25)) (e.number (at 8 30) (pos 1)))) (e.yes (at 8 36)))))) (s.more (s.assign (at 8 42) (e.name (at 8 42) (word (codes "b") 8 42)) (s.value (e.binary (at 8 46) op.NotEqual (e.binary (at 8 46) op.Greater (e.name (at 8 46) (word (codes "q") 8 46)) (e.number (at 8 50) (pos 2))) (e.binary (at 8 55) op.GreaterEq (e.name (at 8 56) (word (codes "q") 8 56)) (e.number (at 8 61) (pos 3)))))) (s.more (s.assign (at 8 65) (e.name (at 8 65) (word (codes "b") 8 65)) (s.value (e.binary (at 8 69) op.Equal (e.name (at 8 69) (word (codes "p") 8 69)) (e.null (at 8 74))))) (s.more (s.assign (at 8 80) (e.name (at 8 80) (word (codes "b") 8 80)) (s.value (e.binary (at 8 84) op.NotEqual (e.member (at 8 84) (e.this (at 8 84)) (word (codes "next") 8 91)) (e.name (at 8 99) (word (codes "o") 8 99))))) (s.more (s.return (at 9 5) (Some (e.name (at 9 12) (word (codes "k") 9 12)))) s.none)))))))))); end = (at 10 3) }) ∷ (record { name = (word (codes "targets") 11 8); is_public = false; fixed = false; result = j.Void; params = ((param (word (codes "p") 11 18) (j.Class (word (codes "A") 11 16))) ∷ []); pre = None; modifies = []; post = None; body = (s.more (s.local (at 12 5) (param (word (codes "x") 12 7) (j.Class (word (codes "A") 12 5))) None) (s.more (s.local (at 12 10) (param (word (codes "y") 12 14) j.Int) None) (s.more (s.local (at 12 17) (param (word (codes "z") 12 25) j.Boolean) None) (s.more (s.local (at 12 28) (param (word (codes "v") 12 35) (j.Class (word (codes "Object") 12 28))) (Some (s.value (e.name (at 12 39) (word (codes "p") 12 39))))) (s.more (s.assign (at 12 42) (e.name (at 12 42) (word (codes "x") 12 42)) (s.value (e.name (at 12 46) (word (codes "p") 12 46)))) (s.more (s.assign (at 12 49) (e.name (at 12 49) (word (codes "top") 12 49)) (s.new (word (codes "A") 12 59))) (s.more (s.assign (at 12 64) (e.member (at 12 64) (e.name (at 12 64) (word (codes "B") 12 64)) (word (codes "m") 12 66)) (s.value (e.number (at 12 70) (pos 2)))) (s.more (s.assign (at 12 73) (e.name (at 12 73) (word (codes "k") 12 73)) (s.value (e.number (at 12 77) (pos 4)))) (s.more (s.assign (at 12 80) (e.member (at 12 80) (e.member (at 12 80) (e.name (at 12 80) (word (codes "p") 12 80)) (word (codes "next") 12 82)) (word (codes "t") 12 87)) (s.value (e.yes (at 12 91)))) (s.more (s.assign (at 12 97) (e.name (at 12 97) (word (codes "next") 12 97)) (s.value (e.name (at 12 104) (word (codes "p") 12 104)))) (s.more (s.assign (at 12 107) (e.member (at 12 107) (e.this (at 12 107)) (word (codes "o") 12 112)) (s.new (word (codes "Object") 12 120))) (s.more (s.empty (at 13 5)) (s.more (s.block (at 13 7) (s.more (s.local (at 13 9) (param (word (codes "w") 13 11) (j.Class (word (codes "B") 13 9))) (Some (s.result_of (record { receiver = (Some (e.name (at 13 15) (word (codes "B") 13 15))); method = (word (codes "make") 13 17); args = ((e.name (at 13 22) (word (codes "p") 13 22)) ∷ (e.number (at 13 25) (pos 1)) ∷ []) })))) s.none)) (s.more (s.call (at 13 31) (record { receiver = None; method = (word (codes "run") 13 31); args = [] })) (s.more (s.call (at 13 38) (record { receiver = (Some (e.member (at 13 38) (e.name (at 13 38) (word (codes "p") 13 38)) (word (codes "next") 13 40))); method = (word (codes "run") 13 45); args = [] })) (s.more (s.assign (at 13 52) (e.name (at 13 52) (word (codes "y") 13 52)) (s.result_of (record { receiver = None; method = (word (codes "exprs") 13 56); args = ((e.name (at 13 62) (word (codes "x") 13 62)) ∷ (e.name (at 13 65) (word (codes "y") 13 65)) ∷ []) }))) (s.more (s.branch (at 14 5) (e.name (at 14 9) (word (codes "z") 14 9)) (s.call (at 14 12) (record { receiver = None; method = (word (codes "run") 14 12); args = [] })) (s.more (s.return (at 14 24) None) s.none)) (s.more (s.loop (at 14 32) ((record { label = (Some (word (codes "I") 14 46)); spec = (spec (at 14 49) 3 (f.binary (at 14 50) sop.Equal (f.name (at 14 50) (word (codes "n") 14 50)) (f.old (at 14 54) (f.name (at 14 58) (word (codes "n") 14 58))))); from = [] }) ∷ (record { label = None; spec = (spec (at 14 65) 4 (f.binary (at 14 66) sop.Equal (f.name (at 14 66) (word (codes "x") 14 66)) (f.null (at 14 70)))); from = [] }) ∷ []) (e.name (at 14 80) (word (codes "b") 14 80)) (s.block (at 14 83) s.none)) (s.more (s.return (at 14 87) None) s.none))))))))))))))))))); end = (at 15 3) }) ∷ (record { name = (word (codes "run") 16 16); is_public = false; fixed = false; result = j.Void; params = []; pre = (Some (spec (at 16 35) 5 (f.binary (at 16 36) sop.Equal (f.name (at 16 36) (word (codes "n") 16 36)) (f.number (at 16 40) (pos 0))))); modifies = ((word (codes "d") 16 52) ∷ []); post = (Some (spec (at 16 62) 6 (f.binary (at 16 63) sop.And (f.binary (at 16 63) sop.Equal (f.name (at 16 63) (word (codes "n") 16 63)) (f.old (at 16 67) (f.name (at 16 71) (word (codes "n") 16 71)))) (f.name (at 16 75) (word (codes "d") 16 75))))); body = (s.more (s.assert (at 17 9) (record { label = (Some (word (codes "L") 17 16)); spec = (spec (at 17 19) 7 (f.name (at 17 20) (word (codes "d") 17 20))); from = ((word (codes "pre") 17 28) ∷ (word (codes "Up") 17 33) ∷ []) })) (s.more (s.note (at 17 37) (record { label = None; spec = (spec (at 17 42) 8 (f.binary (at 17 43) sop.Equal (f.name (at 17 43) (word (codes "g") 17 43)) (f.null (at 17 47)))); from = [] })) (s.more (s.ghost (at 17 54) (spec (at 17 54) 9 (f.name (at 17 54) (word (codes "g") 17 54))) (spec (at 17 59) 10 (f.name (at 17 60) (word (codes "next") 17 60)))) (s.more (s.ghost (at 17 67) (spec (at 17 67) 11 (f.name (at 17 67) (word (codes "s") 17 67))) (spec (at 17 72) 12 (f.binary (at 17 73) sop.Union (f.braces (at 17 73) (f.more (f.name (at 17 74) (word (codes "this") 17 74)) f.none)) (f.braces (at 17 83) f.none)))) (s.more (s.ghost (at 17 88) (spec (at 17 88) 13 (f.member (at 17 89) (f.name (at 17 89) (word (codes "top") 17 89)) (word (codes "i") 17 94))) (spec (at 17 100) 14 (f.binary (at 17 101) sop.Add (f.name (at 17 101) (word (codes "n") 17 101)) (f.number (at 17 105) (pos 1))))) (s.more (s.ghost (at 17 109) (spec (at 17 109) 15 (f.member (at 17 110) (f.name (at 17 110) (word (codes "next") 17 110)) (word (codes "g") 17 116))) (spec (at 17 122) 16 (f.null (at 17 123)))) s.none)))))); end = (at 18 3) }) ∷ []); vars = ((record { name = (word (codes "g") 4 28); kind = k.Obj; fixed = false; is_ghost = true; init = None }) ∷ (record { name = (word (codes "s") 4 66); kind = k.Set; fixed = true; is_ghost = true; init = None }) ∷ (record { name = (word (codes "i") 4 100); kind = k.Int; fixed = false; is_ghost = true; init = None }) ∷ (record { name = (word (codes "d") 5 15); kind = k.Bool; fixed = false; is_ghost = false; init = None }) ∷ []); defs = ((record { name = (word (codes "d") 5 35); spec = (spec (at 5 34) 0 (f.binary (at 5 40) sop.Equal (f.name (at 5 40) (word (codes "next") 5 40)) (f.null (at 5 47)))) }) ∷ []); invariants = ((record { label = (Some (word (codes "Up") 5 64)); spec = (spec (at 5 68) 1 (f.binary (at 5 69) sop.LessEq (f.number (at 5 69) (pos 0)) (f.name (at 5 74) (word (codes "n") 5 74)))); from = [] }) ∷ (record { label = None; spec = (spec (at 5 88) 2 (f.binary (at 5 89) sop.Equal (f.name (at 5 89) (word (codes "k") 5 89)) (f.number (at 5 93) (pos 0)))); from = [] }) ∷ []) }) ∷ (record { name = (word (codes "B") 20 7); fields = ((field (word (codes "m") 20 22) j.Int true) ∷ []); methods = ((record { name = (word (codes "make") 20 34); is_public = false; fixed = true; result = (j.Class (word (codes "B") 20 32)); params = ((param (word (codes "a") 20 41) (j.Class (word (codes "A") 20 39))) ∷ (param (word (codes "c") 20 48) j.Int) ∷ []); pre = None; modifies = []; post = None; body = (s.more (s.return (at 20 53) (Some (e.null (at 20 60)))) s.none); end = (at 20 66) }) ∷ []); vars = []; defs = []; invariants = [] }) ∷ []) }

infixr 5 ◌then◌
abbrev ◌then◌ : Stmt → Stmts → Stmts
s then ss = c.more s ss

abbrev set_number : NumberCode → Stmt
set_number a = c.assign (c.to_name (codes "A.n")) (c.a_number a)

abbrev set_truth : TruthCode → Stmt
set_truth a = c.assign (c.to_name (codes "A.b")) (c.a_truth a)

abbrev q : NumberCode
q = c.number (codes "q")

abbrev p : ObjectCode
p = c.object (codes "p")

abbrev int : ℕ → NumberCode
int n = c.const (pos n)

exprs-is : body_of ((program_of each).method (callee (codes "exprs"))) ≡ Some (
    set_number (c.sub (at 7 9) (c.add (at 7 9) (int 1) q) (c.read_number (codes "A.k") c.this (at 7 17)))
    then set_number (c.times (at 7 24) (pos 2) (c.minus (at 7 24) q))
    then set_number (c.times (at 7 36) (negsuc 2) q)
    then set_number (c.times (at 7 48) (pos 2) (int 3))
    then set_number (c.add (at 7 59) (c.number (codes "B.m")) (c.read_number (codes "A.k") (c.read_object (codes "A.next") p (at 7 65)) (at 7 65)))
    then set_truth (c.both (c.negation (c.read_truth (codes "A.t") c.this (at 8 10))) (c.same_truth (c.either (c.less q (c.number (codes "A.n"))) (c.less_equal q (int 1))) (c.literal true)))
    then set_truth (c.negation (c.same_truth (c.greater q (int 2)) (c.greater_equal q (int 3))))
    then set_truth (c.same_object p c.null)
    then set_truth (c.negation (c.same_object (c.read_object (codes "A.next") c.this (at 8 84)) (c.read_object (codes "A.o") c.this (at 8 99))))
    then c.return_value (c.a_number (c.read_number (codes "A.k") c.this (at 9 12)))
    then c.none)
unfolding halves first_named class_from def_in method_in states_from declared all_declared labels_in all_labels_in with_all_declared declare_all equations expr_type arguments front_before rest_behind merged resolved union_of bound_as field_list quantified mapped_value mapped_term meant uses_this one_uses_this inner_statements all_statements in_method in_class in_classes found_in class_sets members expr_code stmt_code
exprs-is = refl

abbrev local : Text → Ty → Local
local x type = record { text = x; type = type }

abbrev callee_in : ℕ → Text → Callee
callee_in n x = record { class = n; name = x }

abbrev this_term : TermTree
this_term = t.free_object (own (codes "this") 0)

targets-is : body_of ((program_of each).method (callee (codes "targets"))) ≡ Some (
    c.assign (c.to_new (local (codes "x") (ty.Class 0))) (c.an_object c.null)
    then c.assign (c.to_new (local (codes "y") ty.Int)) (c.a_number (int 0))
    then c.assign (c.to_new (local (codes "z") ty.Boolean)) (c.a_truth (c.literal false))
    then c.assign (c.to_new (local (codes "v") ty.Object)) (c.an_object p)
    then c.assign (c.to_name (codes "x")) (c.an_object p)
    then c.new_object (at 12 49) (c.to_name (codes "A.top")) (codes "A")
    then c.assign (c.to_name (codes "B.m")) (c.a_number (int 2))
    then c.assign (c.to_field (codes "A.k") c.this (at 12 73)) (c.a_number (int 4))
    then c.assign (c.to_field (codes "A.t") (c.read_object (codes "A.next") p (at 12 80)) (at 12 80)) (c.a_truth (c.literal true))
    then c.assign (c.to_field (codes "A.next") c.this (at 12 97)) (c.an_object p)
    then c.new_object (at 12 107) (c.to_field (codes "A.o") c.this (at 12 107)) (codes "Object")
    then c.empty
    then c.block (c.call (at 13 9) (c.to_new (local (codes "w") (ty.Class 1))) None (at 13 15) (callee_in 1 (codes "make")) (c.an_object p ∷ c.a_number (int 1) ∷ []) then c.none)
    then c.call (at 13 31) c.nowhere (Some c.this) (at 13 31) (callee_in 0 (codes "run")) []
    then c.call (at 13 38) c.nowhere (Some (c.read_object (codes "A.next") p (at 13 38))) (at 13 38) (callee_in 0 (codes "run")) []
    then c.call (at 13 52) (c.to_name (codes "y")) (Some c.this) (at 13 56) (callee_in 0 (codes "exprs")) (c.an_object (c.object (codes "x")) ∷ c.a_number (c.number (codes "y")) ∷ [])
    then c.branch (at 14 5) (c.truth (codes "z")) (c.call (at 14 12) c.nowhere (Some c.this) (at 14 12) (callee_in 0 (codes "run")) []) (c.return_nothing then c.none)
    then c.loop (at 14 32) (
    record { label = Some (own (codes "I") 0); place = at 14 49; from = []; formula = t.eq_number (t.free_number (own (codes "A.n") 0)) (t.free_number (own (codes "A.n") 1)) }
    ∷ record { label = None; place = at 14 65; from = []; formula = t.eq_object (t.free_object (own (codes "x") 0)) t.null } ∷ []) (c.truth (codes "A.b")) (c.block c.none)
    then c.return_nothing
    then c.none)
unfolding halves first_named class_from def_in method_in states_from declared all_declared labels_in all_labels_in with_all_declared declare_all equations expr_type arguments front_before rest_behind merged resolved union_of bound_as field_list quantified mapped_value mapped_term meant uses_this one_uses_this inner_statements all_statements in_method in_class in_classes found_in class_sets members expr_code stmt_code
targets-is = refl

abbrev next_of_this : TermTree
next_of_this = t.read_object (t.free_field (own (codes "A.next") 0)) this_term

run-is : (program_of each).method (callee (codes "run")) ≡ Some (record {
  place = at 16 16;
  is_public = false;
  this = Some 0;
  params = [];
  result = ty.Void;
  requires = Some (record { label = None; place = at 16 35; from = []; formula = t.eq_number (t.free_number (own (codes "A.n") 0)) (t.const (pos 0)) });
  ensures = Some (record { label = None; place = at 16 62; from = []; formula = t.and (t.eq_number (t.free_number (own (codes "A.n") 0)) (t.free_number (own (codes "A.n") 1))) (t.eq_object next_of_this t.null) });
  body =
      c.assert (record { label = Some (own (codes "L") 0); place = at 17 19; from = own (codes "pre") 0 ∷ own (codes "Up") 0 ∷ []; formula = t.eq_object next_of_this t.null })
      then c.note (record { label = None; place = at 17 42; from = []; formula = t.eq_object (t.read_object (t.free_field (own (codes "A.g") 0)) this_term) t.null })
      then c.ghost_at (at 17 54) (codes "A") (codes "A.g") this_term (at 17 59) (t.of_object next_of_this)
      then c.ghost (codes "A.s") (at 17 72) (t.of_set (t.union (t.single this_term) t.empty))
      then c.ghost_at (at 17 88) (codes "A") (codes "A.i") (t.free_object (own (codes "A.top") 0)) (at 17 100) (t.of_number (t.add (t.free_number (own (codes "A.n") 0)) (t.const (pos 1))))
      then c.ghost_at (at 17 109) (codes "A") (codes "A.g") next_of_this (at 17 122) (t.of_object t.null)
      then c.none;
})
unfolding halves first_named class_from def_in method_in states_from declared all_declared labels_in all_labels_in with_all_declared declare_all equations expr_type arguments front_before rest_behind merged resolved union_of bound_as field_list quantified mapped_value mapped_term meant uses_this one_uses_this inner_statements all_statements in_method in_class in_classes found_in class_sets members expr_code stmt_code
run-is = refl

-- an invariant that uses `this` speaks of every object of its class
invariants-are : (program_of each).invariants ≡
    record { label = Some (own (codes "Up") 0); place = at 5 68; from = []; formula = t.less_equal (t.const (pos 0)) (t.free_number (own (codes "A.n") 0)) }
    ∷ record { label = None; place = at 5 88; from = []; formula = t.all (t.implies (t.member (t.bound 0) (t.free_set (own (codes "A") 0))) (t.eq_number (t.read_number (t.free_field (own (codes "A.k") 0)) (t.bound 0)) (t.const (pos 0)))) } ∷ []
unfolding halves first_named class_from def_in method_in states_from declared all_declared labels_in all_labels_in with_all_declared declare_all equations expr_type arguments front_before rest_behind merged resolved union_of bound_as field_list quantified mapped_value mapped_term meant uses_this one_uses_this inner_statements all_statements in_method in_class in_classes found_in class_sets members expr_code stmt_code
invariants-are = refl

classes-are : (program_of each).classes ≡ codes "A" ∷ codes "B" ∷ []
classes-are = refl

-- statics, fields and ghost variables as they stand in the text, class by class; the variable that is defined is none of the state
members-are : (program_of each).members ≡
    record { text = codes "A.n"; class = codes "A"; kind = k.Int; is_static = true; type = Some ty.Int }
    ∷ record { text = codes "A.b"; class = codes "A"; kind = k.Bool; is_static = true; type = Some ty.Boolean }
    ∷ record { text = codes "A.top"; class = codes "A"; kind = k.Obj; is_static = true; type = Some (ty.Class 0) }
    ∷ record { text = codes "A.k"; class = codes "A"; kind = k.Int; is_static = false; type = Some ty.Int }
    ∷ record { text = codes "A.t"; class = codes "A"; kind = k.Bool; is_static = false; type = Some ty.Boolean }
    ∷ record { text = codes "A.next"; class = codes "A"; kind = k.Obj; is_static = false; type = Some (ty.Class 0) }
    ∷ record { text = codes "A.o"; class = codes "A"; kind = k.Obj; is_static = false; type = Some ty.Object }
    ∷ record { text = codes "A.g"; class = codes "A"; kind = k.Obj; is_static = false; type = None }
    ∷ record { text = codes "A.s"; class = codes "A"; kind = k.Set; is_static = true; type = None }
    ∷ record { text = codes "A.i"; class = codes "A"; kind = k.Int; is_static = false; type = None }
    ∷ record { text = codes "B.m"; class = codes "B"; kind = k.Int; is_static = true; type = Some ty.Int } ∷ []
unfolding halves first_named class_from def_in method_in states_from declared all_declared labels_in all_labels_in with_all_declared declare_all equations expr_type arguments front_before rest_behind merged resolved union_of bound_as field_list quantified mapped_value mapped_term meant uses_this one_uses_this inner_statements all_statements in_method in_class in_classes found_in class_sets members expr_code stmt_code
members-are = refl
