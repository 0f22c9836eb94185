-- What small sources read, name, assign and call, by the definitions.
use Rattle.std.proofs.Common.{◌≡◌, refl, sym, ℕ, zero, suc, ◌<◌, pos, Bool, true, false, List, [], ◌∷◌, length, subst, Option, Some, None, codes, arith}
use Rattle.std.specs.List.{Contains}
use Rattle.jh_name.specs.declared.naming.Name.{Name}
use Rattle.jh_name.specs.declared.place.Place.{Place}
use Rattle.jh_name.specs.declared.place.Kind.{Kind}
use Rattle.jh_name.specs.declared.place.Kind.TheVariants as k
use Rattle.jh_ast.specs.declared.word.Word.{Word}
use Rattle.jh_ast.specs.declared.word.JType.{JType}
use Rattle.jh_ast.specs.declared.word.JType.TheVariants as j
use Rattle.jh_ast.specs.declared.word.Param.{Param}
use Rattle.jh_ast.specs.declared.expr.Op.TheVariants as op
use Rattle.jh_ast.specs.declared.spec.SpecOp.TheVariants as sop
use Rattle.jh_ast.specs.Exprs.{ExprTree}
use Rattle.jh_ast.specs.Exprs as e
use Rattle.jh_ast.specs.Forms.{FormTree, SpecPart, LabelledPart}
use Rattle.jh_ast.specs.Forms as f
use Rattle.jh_ast.specs.Stmts.{StmtTrees, CallTree}
use Rattle.jh_ast.specs.Stmts as s
use Rattle.jh_ast.specs.Programs.{ProgramTree, ClassPart, FieldPart, VarPart, DefPart, MethodPart}
use Rattle.jh_rules.specs.Words.{halves}
use Rattle.jh_rules.specs.Names.{first_named, class_from, def_in, states_from}
use Rattle.jh_rules.specs.Scopes.{with_all_declared, declared, all_declared, labels_in, all_labels_in, declare_all}
use Rattle.jh_rules.specs.Exprs.{expr_type}
use Rattle.jh_rules.specs.Formulas.{equations}
use Rattle.jh_vars.specs.States.{State, Variable, variable_of}
use Rattle.jh_vars.specs.Statements.{inner_statements, all_statements}
use Rattle.jh_vars.specs.Reading.{reads, all_read, definition_reads, variables_from, variables, Reads, IsCyclic, IsFirstCyclic}
use Rattle.jh_vars.specs.Reading as reading
use Rattle.jh_vars.specs.Written.{Written, Callee, method_in, front_before, rest_behind, merged, members_in_order, class_sets, own_writes, own_calls, all_state, state_names, MayWrite, Names, named_by}
use Rattle.jh_vars.specs.Written as w

abbrev at : ℕ → ℕ → Place
at l c = record { line = l; column = c }

abbrev word : List ℕ → ℕ → ℕ → Word
word t l c = record { text = record { text = t; turn = 0 }; place = at l c }

abbrev spec : Place → ℕ → FormTree → SpecPart
spec p n a = record { place = p; number = n; form = a }

abbrev labelled : Option Word → SpecPart → List Word → LabelledPart
labelled n a ws = record { label = n; spec = a; from = ws }

abbrev param : Word → JType → Param
param w t = record { name = w; jtype = t }

abbrev call : Option ExprTree → Word → List ExprTree → CallTree
call r m es = record { receiver = r; method = m; args = es }

abbrev field : Word → JType → Bool → Option ExprTree → FieldPart
field w t x i = record { name = w; jtype = t; fixed = x; init = i }

abbrev var : Word → Kind → Bool → Bool → Option SpecPart → VarPart
var w t x g i = record { name = w; kind = t; fixed = x; is_ghost = g; init = i }

abbrev def : Word → SpecPart → DefPart
def w a = record { name = w; spec = a }

abbrev method : Word → Bool → Bool → JType → List Param → Option SpecPart → List Word → Option SpecPart → StmtTrees → Place → MethodPart
method w u x r ps pre ms post b q = record { name = w; is_public = u; fixed = x; result = r; params = ps; pre = pre; modifies = ms; post = post; body = b; end = q }

abbrev class : Word → List FieldPart → List MethodPart → List VarPart → List DefPart → List LabelledPart → ClassPart
class w fs ms vs ds is = record { name = w; fields = fs; methods = ms; vars = vs; defs = ds; invariants = is }

abbrev own : List ℕ → Name
own x = record { text = x; turn = 0 }

-- class A { private int n; private static A top; /*: public ghost specvar g :: bool; specvar d :: bool; vardefs "d == n = 0 & e"; specvar e :: bool; vardefs "e == next ~= null"; */ private A next; public void m(A p) /*: modifies d, g */ { n = 1; p.next = new A(); //: g := "True"; k(); } private static void k() { top = null; Object o = new Object(); } public static void z() { while (top != null) { A q; q.m(q); } } } class B { static int s; }
abbrev methods : ProgramTree
methods = record { classes = ((class (word (codes "A") 1 7) ((field (word (codes "n") 2 15) j.Int false None) ∷ (field (word (codes "top") 3 20) (j.Class (word (codes "A") 3 18)) true None) ∷ (field (word (codes "next") 5 13) (j.Class (word (codes "A") 5 11)) false None) ∷ []) ((method (word (codes "m") 6 15) true false j.Void ((param (word (codes "p") 6 19) (j.Class (word (codes "A") 6 17))) ∷ []) None ((word (codes "d") 6 35) ∷ (word (codes "g") 6 38) ∷ []) None (s.more (s.assign (at 6 45) (e.name (at 6 45) (word (codes "n") 6 45)) (s.value (e.number (at 6 49) (pos 1)))) (s.more (s.assign (at 6 52) (e.member (at 6 52) (e.name (at 6 52) (word (codes "p") 6 52)) (word (codes "next") 6 54)) (s.new (word (codes "A") 6 65))) (s.more (s.ghost (at 6 74) (spec (at 6 74) 2 (f.name (at 6 74) (word (codes "g") 6 74))) (spec (at 6 79) 3 (f.yes (at 6 80)))) (s.more (s.call (at 7 5) (call None (word (codes "k") 7 5) [])) s.none)))) (at 7 10)) ∷ (method (word (codes "k") 8 23) false true j.Void [] None [] None (s.more (s.assign (at 8 29) (e.name (at 8 29) (word (codes "top") 8 29)) (s.value (e.null (at 8 35)))) (s.more (s.local (at 8 41) (param (word (codes "o") 8 48) (j.Class (word (codes "Object") 8 41))) (Some (s.new (word (codes "Object") 8 56)))) s.none)) (at 8 66)) ∷ (method (word (codes "z") 9 22) true true j.Void [] None [] None (s.more (s.loop (at 9 28) [] (e.binary (at 9 35) op.NotEqual (e.name (at 9 35) (word (codes "top") 9 35)) (e.null (at 9 42))) (s.block (at 9 48) (s.more (s.local (at 9 50) (param (word (codes "q") 9 52) (j.Class (word (codes "A") 9 50))) None) (s.more (s.call (at 9 55) (call (Some (e.name (at 9 55) (word (codes "q") 9 55))) (word (codes "m") 9 57) ((e.name (at 9 59) (word (codes "q") 9 59)) ∷ []))) s.none)))) s.none) (at 9 65)) ∷ []) ((var (word (codes "g") 4 28) k.Bool false true None) ∷ (var (word (codes "d") 4 47) k.Bool false false None) ∷ (var (word (codes "e") 4 92) k.Bool false false None) ∷ []) ((def (word (codes "d") 4 67) (spec (at 4 66) 0 (f.binary (at 4 72) sop.And (f.binary (at 4 72) sop.Equal (f.name (at 4 72) (word (codes "n") 4 72)) (f.number (at 4 76) (pos 0))) (f.name (at 4 80) (word (codes "e") 4 80))))) ∷ (def (word (codes "e") 4 112) (spec (at 4 111) 1 (f.binary (at 4 117) sop.NotEqual (f.name (at 4 117) (word (codes "next") 4 117)) (f.null (at 4 125))))) ∷ []) []) ∷ (class (word (codes "B") 11 7) ((field (word (codes "s") 11 22) j.Int true None) ∷ []) [] [] [] []) ∷ []) }

abbrev callee : List ℕ → Callee
callee x = record { class = 0; name = x }

names-of : state_names methods ≡ own (codes "alloc") ∷ own (codes "A") ∷ own (codes "B") ∷ own (codes "Object") ∷ own (codes "A.n") ∷ own (codes "A.top") ∷ own (codes "A.g") ∷ own (codes "A.next") ∷ own (codes "B.s") ∷ []
unfolding halves first_named class_from def_in method_in states_from declared all_declared labels_in all_labels_in with_all_declared declare_all equations expr_type reads all_read inner_statements all_statements front_before rest_behind merged members_in_order class_sets variables_from
names-of = refl

writes-m : own_writes methods (callee (codes "m")) ≡ w.state 0 (codes "n") ∷ w.state 0 (codes "next") ∷ w.allocated ∷ w.objects 0 ∷ w.state 0 (codes "g") ∷ []
unfolding halves first_named class_from def_in method_in states_from declared all_declared labels_in all_labels_in with_all_declared declare_all equations expr_type reads all_read inner_statements all_statements front_before rest_behind merged members_in_order class_sets variables_from
writes-m = refl

calls-m : own_calls methods (callee (codes "m")) ≡ callee (codes "k") ∷ []
unfolding halves first_named class_from def_in method_in states_from declared all_declared labels_in all_labels_in with_all_declared declare_all equations expr_type reads all_read inner_statements all_statements front_before rest_behind merged members_in_order class_sets variables_from
calls-m = refl

writes-k : own_writes methods (callee (codes "k")) ≡ w.state 0 (codes "top") ∷ w.allocated ∷ w.plain_objects ∷ []
unfolding halves first_named class_from def_in method_in states_from declared all_declared labels_in all_labels_in with_all_declared declare_all equations expr_type reads all_read inner_statements all_statements front_before rest_behind merged members_in_order class_sets variables_from
writes-k = refl

calls-k : own_calls methods (callee (codes "k")) ≡ []
unfolding halves first_named class_from def_in method_in states_from declared all_declared labels_in all_labels_in with_all_declared declare_all equations expr_type reads all_read inner_statements all_statements front_before rest_behind merged members_in_order class_sets variables_from
calls-k = refl

writes-z : own_writes methods (callee (codes "z")) ≡ []
unfolding halves first_named class_from def_in method_in states_from declared all_declared labels_in all_labels_in with_all_declared declare_all equations expr_type reads all_read inner_statements all_statements front_before rest_behind merged members_in_order class_sets variables_from
writes-z = refl

calls-z : own_calls methods (callee (codes "z")) ≡ callee (codes "m") ∷ []
unfolding halves first_named class_from def_in method_in states_from declared all_declared labels_in all_labels_in with_all_declared declare_all equations expr_type reads all_read inner_statements all_statements front_before rest_behind merged members_in_order class_sets variables_from
calls-z = refl

first-of : {X : Type 0} (xs : List X) (x : X) (rest : List X) → xs ≡ x ∷ rest → Contains xs x
first-of {X} xs x rest e = subst (λ (ys : List X). Contains ys x) (sym e) (0, omega arith, refl)

-- what a callee's callee writes
writes-through : MayWrite methods (callee (codes "z")) (w.state 0 (codes "top"))
writes-through =
    w.called (callee (codes "z")) (callee (codes "m")) _ (first-of _ _ _ calls-z)
    (w.called (callee (codes "m")) (callee (codes "k")) _ (first-of _ _ _ calls-m) (w.directly (callee (codes "k")) _ (first-of _ _ _ writes-k)))

none-in : {X : Type 0} (xs : List X) (x : X) → xs ≡ [] → Contains xs x → ⊥
none-in {X} xs x e h = let n : h.0 < 0 = subst (λ (ys : List X). h.0 < length ys) e h.1 in omega arith

not-first : {X : Type 0} (xs : List X) (x y : X) → xs ≡ y ∷ [] → Contains xs x → x ≡ y
not-first {X} xs x y e h = at-one (subst (λ (ys : List X). Contains ys x) e h)
  where
    at-one : Contains (y ∷ []) x → x ≡ y
    at-one (zero, lt, is) = sym is
    at-one (suc k, lt, is) = absurd (omega arith)

-- and nothing else: k writes no field
not-written : MayWrite methods (callee (codes "k")) (w.state 0 (codes "n")) → ⊥
not-written h = of-k (callee (codes "k")) (w.state 0 (codes "n")) refl h refl
  where
    in-k : (xs : List Written) → xs ≡ w.state 0 (codes "top") ∷ w.allocated ∷ w.plain_objects ∷ [] → Contains xs (w.state 0 (codes "n")) → ⊥
    in-k xs e h = at-three (subst (λ (ys : List Written). Contains ys (w.state 0 (codes "n"))) e h)
      where
        at-three : Contains (w.state 0 (codes "top") ∷ w.allocated ∷ w.plain_objects ∷ []) (w.state 0 (codes "n")) → ⊥
        at-three (zero, lt, is) = cc
        at-three (suc zero, lt, is) = cc
        at-three (suc (suc zero), lt, is) = cc
        at-three (suc (suc (suc k)), lt, is) = omega arith

    of-k : (m : Callee) (x : Written) → m ≡ callee (codes "k") → MayWrite methods m x → x ≡ w.state 0 (codes "n") → ⊥
    of-k m x e (w.directly _ _ c) f = in-k (own_writes methods (callee (codes "k"))) writes-k (subst (λ (y : Written). Contains (own_writes methods (callee (codes "k"))) y) f (subst (λ (n : Callee). Contains (own_writes methods n) x) e c))
    of-k m x e (w.called _ n _ c r) f = none-in (own_calls methods (callee (codes "k"))) n calls-k (subst (λ (i : Callee). Contains (own_calls methods i) n) e c)

abbrev state-of : List ℕ → Option Kind → Bool → Bool → Bool → Bool → State
state-of x kind fixed variable ghost defined = record { entry = record { class = 0; kind = kind; fixed = fixed; is_variable = variable; is_ghost = ghost; is_defined = defined }; name = x }

abbrev of-d : State
of-d = state-of (codes "d") (Some k.Bool) false true false true

abbrev of-e : State
of-e = state-of (codes "e") (Some k.Bool) false true false true

abbrev of-g : State
of-g = state-of (codes "g") (Some k.Bool) false true true false

abbrev of-n : State
of-n = state-of (codes "n") (Some k.Int) false false false false

abbrev of-next : State
of-next = state-of (codes "next") (Some k.Obj) false false false false

abbrev called-a : List ℕ → Variable
called-a x = record { class = 0; name = x }

variables-of : variables methods ≡ called-a (codes "g") ∷ called-a (codes "d") ∷ called-a (codes "e") ∷ []
unfolding halves first_named class_from def_in method_in states_from declared all_declared labels_in all_labels_in with_all_declared declare_all equations expr_type reads all_read inner_statements all_statements front_before rest_behind merged members_in_order class_sets variables_from
variables-of = refl

reads-d : definition_reads methods (variable_of of-d) ≡ of-n ∷ of-e ∷ []
unfolding halves first_named class_from def_in method_in states_from declared all_declared labels_in all_labels_in with_all_declared declare_all equations expr_type reads all_read inner_statements all_statements front_before rest_behind merged members_in_order class_sets variables_from
reads-d = refl

reads-e : definition_reads methods (variable_of of-e) ≡ of-next ∷ []
unfolding halves first_named class_from def_in method_in states_from declared all_declared labels_in all_labels_in with_all_declared declare_all equations expr_type reads all_read inner_statements all_statements front_before rest_behind merged members_in_order class_sets variables_from
reads-e = refl

second-of : {X : Type 0} (xs : List X) (x y : X) (rest : List X) → xs ≡ y ∷ x ∷ rest → Contains xs x
second-of {X} xs x y rest e = subst (λ (ys : List X). Contains ys x) (sym e) (1, omega arith, refl)

-- d reads a field through e
reads-through : Reads methods (variable_of of-d) of-next
reads-through = reading.through (variable_of of-d) of-e of-next (second-of _ _ _ _ reads-d) (reading.directly (variable_of of-e) of-next (first-of _ _ _ reads-e))

modifies-m : named_by methods 0 (record { name = word (codes "m") 6 15; is_public = true; fixed = false; result = j.Void; params = []; pre = None; modifies = word (codes "d") 6 35 ∷ word (codes "g") 6 38 ∷ []; post = None; body = s.none; end = at 7 10 }) ≡ of-d ∷ of-g ∷ []
unfolding halves first_named class_from def_in method_in states_from declared all_declared labels_in all_labels_in with_all_declared declare_all equations expr_type reads all_read inner_statements all_statements front_before rest_behind merged members_in_order class_sets variables_from
modifies-m = refl

-- `modifies d, g` names a field that d reads through e, and g
names-field : Names methods (of-d ∷ of-g ∷ []) (w.state 0 (codes "next"))
names-field = w.through (of-d ∷ of-g ∷ []) of-d of-next (0, omega arith, refl) refl reads-through refl

names-ghost : Names methods (of-d ∷ of-g ∷ []) (w.state 0 (codes "g"))
names-ghost = w.plainly (of-d ∷ of-g ∷ []) of-g (1, omega arith, refl) refl

-- class C { static int x; /*: static specvar u :: int; vardefs "u == v + x"; static specvar v :: int; vardefs "v == w"; static specvar w :: int; vardefs "w == v"; */ }
abbrev cyclic : ProgramTree
cyclic = record { classes = ((class (word (codes "C") 1 7) ((field (word (codes "x") 2 14) j.Int true None) ∷ []) [] ((var (word (codes "u") 3 22) k.Int true false None) ∷ (var (word (codes "v") 3 69) k.Int true false None) ∷ (var (word (codes "w") 3 112) k.Int true false None) ∷ []) ((def (word (codes "u") 3 41) (spec (at 3 40) 0 (f.binary (at 3 46) sop.Add (f.name (at 3 46) (word (codes "v") 3 46)) (f.name (at 3 50) (word (codes "x") 3 50))))) ∷ (def (word (codes "v") 3 88) (spec (at 3 87) 1 (f.name (at 3 93) (word (codes "w") 3 93)))) ∷ (def (word (codes "w") 3 131) (spec (at 3 130) 2 (f.name (at 3 136) (word (codes "v") 3 136)))) ∷ []) []) ∷ []) }

abbrev of-v : State
of-v = state-of (codes "v") (Some k.Int) true true false true

abbrev of-w : State
of-w = state-of (codes "w") (Some k.Int) true true false true

cyclic-variables : variables cyclic ≡ called-a (codes "u") ∷ called-a (codes "v") ∷ called-a (codes "w") ∷ []
unfolding halves first_named class_from def_in method_in states_from declared all_declared labels_in all_labels_in with_all_declared declare_all equations expr_type reads all_read inner_statements all_statements front_before rest_behind merged members_in_order class_sets variables_from
cyclic-variables = refl

reads-v : definition_reads cyclic (variable_of of-v) ≡ of-w ∷ []
unfolding halves first_named class_from def_in method_in states_from declared all_declared labels_in all_labels_in with_all_declared declare_all equations expr_type reads all_read inner_statements all_statements front_before rest_behind merged members_in_order class_sets variables_from
reads-v = refl

reads-w : definition_reads cyclic (variable_of of-w) ≡ of-v ∷ []
unfolding halves first_named class_from def_in method_in states_from declared all_declared labels_in all_labels_in with_all_declared declare_all equations expr_type reads all_read inner_statements all_statements front_before rest_behind merged members_in_order class_sets variables_from
reads-w = refl

v-is-cyclic : IsCyclic cyclic (variable_of of-v)
v-is-cyclic = record {
  read = of-v;
  itself = refl;
  reads = reading.through (variable_of of-v) of-w of-v (first-of _ _ _ reads-v) (reading.directly (variable_of of-w) of-v (first-of _ _ _ reads-w));
}
