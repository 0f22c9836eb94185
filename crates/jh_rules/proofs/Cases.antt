-- Each rule broken by a small source, with the place, and beside it a source that breaks none.
use Rattle.std.proofs.Common.{◌≡◌, refl, ℕ, pos, Bool, true, false, List, [], ◌∷◌, Option, Some, None, codes}
use Rattle.jh_ast.specs.jh_name.declared.place.Place.{Place}
use Rattle.jh_ast.specs.jh_name.declared.place.Kind.{Kind}
use Rattle.jh_ast.specs.jh_name.declared.place.Kind.TheVariants as k
use Rattle.jh_ast.specs.declared.word.Word.{Word}
use Rattle.jh_ast.specs.declared.word.JType.{JType}
use Rattle.jh_ast.specs.declared.word.JType.TheVariants as j
use Rattle.jh_ast.specs.declared.word.Param.{Param}
use Rattle.jh_ast.specs.declared.expr.Op.TheVariants as op
use Rattle.jh_ast.specs.declared.spec.SpecOp.TheVariants as sop
use Rattle.jh_ast.specs.Exprs.{ExprTree}
use Rattle.jh_ast.specs.Exprs as e
use Rattle.jh_ast.specs.Forms.{FormTree, SpecPart, LabelledPart}
use Rattle.jh_ast.specs.Forms as f
use Rattle.jh_ast.specs.Stmts.{StmtTrees, CallTree}
use Rattle.jh_ast.specs.Stmts as s
use Rattle.jh_ast.specs.Programs.{ClassPart, FieldPart, VarPart, DefPart, MethodPart}
use Rattle.jh_rules.specs.declared.fault.Fault.{Fault}
use Rattle.jh_rules.specs.Breaks.{faults_of}
use Rattle.jh_rules.specs.Found.{least, is_less}
use Rattle.jh_rules.specs.Words.{halves}
use Rattle.jh_rules.specs.Names.{first_named, class_from, def_in, states_from}
use Rattle.jh_rules.specs.Faults.{each}
use Rattle.jh_rules.specs.Scopes.{with_all_declared, declared, all_declared, labels_in, all_labels_in, declare_all, count, all_counted, is_closed, ends_closed, is_closed_part}
use Rattle.jh_rules.specs.Rules.{has_twice}
use Rattle.jh_rules.specs.Formulas.{equations, form_kind, form_kinds}
use Rattle.jh_rules.specs.Exprs.{expr_type, arguments}
use Rattle.jh_rules.specs.Statements.{stmt_faults, all_faults, param_faults, method_faults, class_faults, classes_faults}

abbrev at : ℕ → ℕ → Place
at l c = record { line = l; column = c }

abbrev word : List ℕ → ℕ → ℕ → Word
word t l c = record { text = record { text = t; turn = 0 }; place = at l c }

abbrev spec : Place → ℕ → FormTree → SpecPart
spec p n a = record { place = p; number = n; form = a }

abbrev labelled : Option Word → SpecPart → List Word → LabelledPart
labelled n a ws = record { label = n; spec = a; from = ws }

abbrev param : Word → JType → Param
param w t = record { name = w; jtype = t }

abbrev call : Option ExprTree → Word → List ExprTree → CallTree
call r m es = record { receiver = r; method = m; args = es }

abbrev field : Word → JType → Bool → Option ExprTree → FieldPart
field w t x i = record { name = w; jtype = t; fixed = x; init = i }

abbrev var : Word → Kind → Bool → Bool → Option SpecPart → VarPart
var w t x g i = record { name = w; kind = t; fixed = x; is_ghost = g; init = i }

abbrev def : Word → SpecPart → DefPart
def w a = record { name = w; spec = a }

abbrev method : Word → Bool → Bool → JType → List Param → Option SpecPart → List Word → Option SpecPart → StmtTrees → Place → MethodPart
method w u x r ps pre ms post b q = record { name = w; is_public = u; fixed = x; result = r; params = ps; pre = pre; modifies = ms; post = post; body = b; end = q }

abbrev class : Word → List FieldPart → List MethodPart → List VarPart → List DefPart → List LabelledPart → ClassPart
class w fs ms vs ds is = record { name = w; fields = fs; methods = ms; vars = vs; defs = ds; invariants = is }

abbrev answer : List ClassPart → Option Fault
answer cs = least (faults_of (record { classes = cs }))

abbrev broken : ℕ → ℕ → ℕ → Option Fault
broken r l c = Some (record { place = at l c; rule = r })

-- class Object { }
broken-1 : answer ((class (word (codes "Object") 1 7) [] [] [] [] []) ∷ []) ≡ broken 1 1 7
unfolding halves first_named class_from def_in states_from each with_all_declared declared all_declared labels_in all_labels_in declare_all count all_counted is_closed ends_closed is_closed_part has_twice equations expr_type arguments form_kind form_kinds stmt_faults all_faults param_faults method_faults class_faults classes_faults least is_less
broken-1 = refl

-- class Objects { }
kept-1 : answer ((class (word (codes "Objects") 1 7) [] [] [] [] []) ∷ []) ≡ None
unfolding halves first_named class_from def_in states_from each with_all_declared declared all_declared labels_in all_labels_in declare_all count all_counted is_closed ends_closed is_closed_part has_twice equations expr_type arguments form_kind form_kinds stmt_faults all_faults param_faults method_faults class_faults classes_faults least is_less
kept-1 = refl

-- class A { /*: ghost specvar f :: int; */ int f; }
broken-2 : answer ((class (word (codes "A") 1 7) ((field (word (codes "f") 1 46) j.Int false None) ∷ []) [] ((var (word (codes "f") 1 29) k.Int false true None) ∷ []) [] []) ∷ []) ≡ broken 2 1 46
unfolding halves first_named class_from def_in states_from each with_all_declared declared all_declared labels_in all_labels_in declare_all count all_counted is_closed ends_closed is_closed_part has_twice equations expr_type arguments form_kind form_kinds stmt_faults all_faults param_faults method_faults class_faults classes_faults least is_less
broken-2 = refl

-- class A { /*: ghost specvar f :: int; */ int g; }
kept-2 : answer ((class (word (codes "A") 1 7) ((field (word (codes "g") 1 46) j.Int false None) ∷ []) [] ((var (word (codes "f") 1 29) k.Int false true None) ∷ []) [] []) ∷ []) ≡ None
unfolding halves first_named class_from def_in states_from each with_all_declared declared all_declared labels_in all_labels_in declare_all count all_counted is_closed ends_closed is_closed_part has_twice equations expr_type arguments form_kind form_kinds stmt_faults all_faults param_faults method_faults class_faults classes_faults least is_less
kept-2 = refl

-- class A { /*: invariant a: "True"; invariant a: "True"; */ }
broken-3 : answer ((class (word (codes "A") 1 7) [] [] [] [] ((labelled (Some (word (codes "a") 1 25)) (spec (at 1 28) 0 (f.yes (at 1 29))) []) ∷ (labelled (Some (word (codes "a") 1 46)) (spec (at 1 49) 1 (f.yes (at 1 50))) []) ∷ [])) ∷ []) ≡ broken 3 1 46
unfolding halves first_named class_from def_in states_from each with_all_declared declared all_declared labels_in all_labels_in declare_all count all_counted is_closed ends_closed is_closed_part has_twice equations expr_type arguments form_kind form_kinds stmt_faults all_faults param_faults method_faults class_faults classes_faults least is_less
broken-3 = refl

-- class A { /*: invariant a: "True"; invariant b: "True"; */ }
kept-3 : answer ((class (word (codes "A") 1 7) [] [] [] [] ((labelled (Some (word (codes "a") 1 25)) (spec (at 1 28) 0 (f.yes (at 1 29))) []) ∷ (labelled (Some (word (codes "b") 1 46)) (spec (at 1 49) 1 (f.yes (at 1 50))) []) ∷ [])) ∷ []) ≡ None
unfolding halves first_named class_from def_in states_from each with_all_declared declared all_declared labels_in all_labels_in declare_all count all_counted is_closed ends_closed is_closed_part has_twice equations expr_type arguments form_kind form_kinds stmt_faults all_faults param_faults method_faults class_faults classes_faults least is_less
kept-3 = refl

-- class A { B b; }
broken-4 : answer ((class (word (codes "A") 1 7) ((field (word (codes "b") 1 13) (j.Class (word (codes "B") 1 11)) false None) ∷ []) [] [] [] []) ∷ []) ≡ broken 4 1 11
unfolding halves first_named class_from def_in states_from each with_all_declared declared all_declared labels_in all_labels_in declare_all count all_counted is_closed ends_closed is_closed_part has_twice equations expr_type arguments form_kind form_kinds stmt_faults all_faults param_faults method_faults class_faults classes_faults least is_less
broken-4 = refl

-- class A { A b; Object c; }
kept-4 : answer ((class (word (codes "A") 1 7) ((field (word (codes "b") 1 13) (j.Class (word (codes "A") 1 11)) false None) ∷ (field (word (codes "c") 1 23) (j.Class (word (codes "Object") 1 16)) false None) ∷ []) [] [] [] []) ∷ []) ≡ None
unfolding halves first_named class_from def_in states_from each with_all_declared declared all_declared labels_in all_labels_in declare_all count all_counted is_closed ends_closed is_closed_part has_twice equations expr_type arguments form_kind form_kinds stmt_faults all_faults param_faults method_faults class_faults classes_faults least is_less
kept-4 = refl

-- class A { void m(int a) { int a; } }
broken-5 : answer ((class (word (codes "A") 1 7) [] ((method (word (codes "m") 1 16) false false j.Void ((param (word (codes "a") 1 22) j.Int) ∷ []) None [] None (s.more (s.local (at 1 27) (param (word (codes "a") 1 31) j.Int) None) s.none) (at 1 34)) ∷ []) [] [] []) ∷ []) ≡ broken 5 1 31
unfolding halves first_named class_from def_in states_from each with_all_declared declared all_declared labels_in all_labels_in declare_all count all_counted is_closed ends_closed is_closed_part has_twice equations expr_type arguments form_kind form_kinds stmt_faults all_faults param_faults method_faults class_faults classes_faults least is_less
broken-5 = refl

-- class A { void m(int a) { { int b; } { int b; } } }
kept-5 : answer ((class (word (codes "A") 1 7) [] ((method (word (codes "m") 1 16) false false j.Void ((param (word (codes "a") 1 22) j.Int) ∷ []) None [] None (s.more (s.block (at 1 27) (s.more (s.local (at 1 29) (param (word (codes "b") 1 33) j.Int) None) s.none)) (s.more (s.block (at 1 38) (s.more (s.local (at 1 40) (param (word (codes "b") 1 44) j.Int) None) s.none)) s.none)) (at 1 49)) ∷ []) [] [] []) ∷ []) ≡ None
unfolding halves first_named class_from def_in states_from each with_all_declared declared all_declared labels_in all_labels_in declare_all count all_counted is_closed ends_closed is_closed_part has_twice equations expr_type arguments form_kind form_kinds stmt_faults all_faults param_faults method_faults class_faults classes_faults least is_less
kept-5 = refl

-- class A { int result; }
broken-6 : answer ((class (word (codes "A") 1 7) ((field (word (codes "result") 1 15) j.Int false None) ∷ []) [] [] [] []) ∷ []) ≡ broken 6 1 15
unfolding halves first_named class_from def_in states_from each with_all_declared declared all_declared labels_in all_labels_in declare_all count all_counted is_closed ends_closed is_closed_part has_twice equations expr_type arguments form_kind form_kinds stmt_faults all_faults param_faults method_faults class_faults classes_faults least is_less
broken-6 = refl

-- class A { int results; }
kept-6 : answer ((class (word (codes "A") 1 7) ((field (word (codes "results") 1 15) j.Int false None) ∷ []) [] [] [] []) ∷ []) ≡ None
unfolding halves first_named class_from def_in states_from each with_all_declared declared all_declared labels_in all_labels_in declare_all count all_counted is_closed ends_closed is_closed_part has_twice equations expr_type arguments form_kind form_kinds stmt_faults all_faults param_faults method_faults class_faults classes_faults least is_less
kept-6 = refl

-- class A { /*: ghost specvar a :: int = "1"; */ }
broken-7 : answer ((class (word (codes "A") 1 7) [] [] ((var (word (codes "a") 1 29) k.Int false true (Some (spec (at 1 40) 0 (f.number (at 1 41) (pos 1))))) ∷ []) [] []) ∷ []) ≡ broken 7 1 40
unfolding halves first_named class_from def_in states_from each with_all_declared declared all_declared labels_in all_labels_in declare_all count all_counted is_closed ends_closed is_closed_part has_twice equations expr_type arguments form_kind form_kinds stmt_faults all_faults param_faults method_faults class_faults classes_faults least is_less
broken-7 = refl

-- class A { /*: ghost specvar a :: int = "0"; */ }
kept-7 : answer ((class (word (codes "A") 1 7) [] [] ((var (word (codes "a") 1 29) k.Int false true (Some (spec (at 1 40) 0 (f.number (at 1 41) (pos 0))))) ∷ []) [] []) ∷ []) ≡ None
unfolding halves first_named class_from def_in states_from each with_all_declared declared all_declared labels_in all_labels_in declare_all count all_counted is_closed ends_closed is_closed_part has_twice equations expr_type arguments form_kind form_kinds stmt_faults all_faults param_faults method_faults class_faults classes_faults least is_less
kept-7 = refl

-- class A { int n; /*: vardefs "n == 1"; */ }
broken-8 : answer ((class (word (codes "A") 1 7) ((field (word (codes "n") 1 15) j.Int false None) ∷ []) [] [] ((def (word (codes "n") 1 31) (spec (at 1 30) 0 (f.number (at 1 36) (pos 1)))) ∷ []) []) ∷ []) ≡ broken 8 1 31
unfolding halves first_named class_from def_in states_from each with_all_declared declared all_declared labels_in all_labels_in declare_all count all_counted is_closed ends_closed is_closed_part has_twice equations expr_type arguments form_kind form_kinds stmt_faults all_faults param_faults method_faults class_faults classes_faults least is_less
broken-8 = refl

-- class A { /*: specvar n :: int; vardefs "n == 1"; */ }
kept-8 : answer ((class (word (codes "A") 1 7) [] [] ((var (word (codes "n") 1 23) k.Int false false None) ∷ []) ((def (word (codes "n") 1 42) (spec (at 1 41) 0 (f.number (at 1 47) (pos 1)))) ∷ []) []) ∷ []) ≡ None
unfolding halves first_named class_from def_in states_from each with_all_declared declared all_declared labels_in all_labels_in declare_all count all_counted is_closed ends_closed is_closed_part has_twice equations expr_type arguments form_kind form_kinds stmt_faults all_faults param_faults method_faults class_faults classes_faults least is_less
kept-8 = refl

-- class A { /*: specvar n :: int; */ }
broken-9 : answer ((class (word (codes "A") 1 7) [] [] ((var (word (codes "n") 1 23) k.Int false false None) ∷ []) [] []) ∷ []) ≡ broken 9 1 23
unfolding halves first_named class_from def_in states_from each with_all_declared declared all_declared labels_in all_labels_in declare_all count all_counted is_closed ends_closed is_closed_part has_twice equations expr_type arguments form_kind form_kinds stmt_faults all_faults param_faults method_faults class_faults classes_faults least is_less
broken-9 = refl

-- class A { /*: ghost specvar n :: int; */ }
kept-9 : answer ((class (word (codes "A") 1 7) [] [] ((var (word (codes "n") 1 29) k.Int false true None) ∷ []) [] []) ∷ []) ≡ None
unfolding halves first_named class_from def_in states_from each with_all_declared declared all_declared labels_in all_labels_in declare_all count all_counted is_closed ends_closed is_closed_part has_twice equations expr_type arguments form_kind form_kinds stmt_faults all_faults param_faults method_faults class_faults classes_faults least is_less
kept-9 = refl

-- class A { /*: specvar n :: int; vardefs "n == null"; */ }
broken-10 : answer ((class (word (codes "A") 1 7) [] [] ((var (word (codes "n") 1 23) k.Int false false None) ∷ []) ((def (word (codes "n") 1 42) (spec (at 1 41) 0 (f.null (at 1 47)))) ∷ []) []) ∷ []) ≡ broken 10 1 41
unfolding halves first_named class_from def_in states_from each with_all_declared declared all_declared labels_in all_labels_in declare_all count all_counted is_closed ends_closed is_closed_part has_twice equations expr_type arguments form_kind form_kinds stmt_faults all_faults param_faults method_faults class_faults classes_faults least is_less
broken-10 = refl

-- class A { /*: specvar n :: obj; vardefs "n == null"; */ }
kept-10 : answer ((class (word (codes "A") 1 7) [] [] ((var (word (codes "n") 1 23) k.Obj false false None) ∷ []) ((def (word (codes "n") 1 42) (spec (at 1 41) 0 (f.null (at 1 47)))) ∷ []) []) ∷ []) ≡ None
unfolding halves first_named class_from def_in states_from each with_all_declared declared all_declared labels_in all_labels_in declare_all count all_counted is_closed ends_closed is_closed_part has_twice equations expr_type arguments form_kind form_kinds stmt_faults all_faults param_faults method_faults class_faults classes_faults least is_less
kept-10 = refl

-- class A { /*: invariant "null"; */ }
broken-11 : answer ((class (word (codes "A") 1 7) [] [] [] [] ((labelled None (spec (at 1 25) 0 (f.null (at 1 26))) []) ∷ [])) ∷ []) ≡ broken 11 1 25
unfolding halves first_named class_from def_in states_from each with_all_declared declared all_declared labels_in all_labels_in declare_all count all_counted is_closed ends_closed is_closed_part has_twice equations expr_type arguments form_kind form_kinds stmt_faults all_faults param_faults method_faults class_faults classes_faults least is_less
broken-11 = refl

-- class A { /*: invariant "True"; */ }
kept-11 : answer ((class (word (codes "A") 1 7) [] [] [] [] ((labelled None (spec (at 1 25) 0 (f.yes (at 1 26))) []) ∷ [])) ∷ []) ≡ None
unfolding halves first_named class_from def_in states_from each with_all_declared declared all_declared labels_in all_labels_in declare_all count all_counted is_closed ends_closed is_closed_part has_twice equations expr_type arguments form_kind form_kinds stmt_faults all_faults param_faults method_faults class_faults classes_faults least is_less
kept-11 = refl

-- class A { void m() /*: modifies alloc */ { } }
broken-12 : answer ((class (word (codes "A") 1 7) [] ((method (word (codes "m") 1 16) false false j.Void [] None ((word (codes "alloc") 1 33) ∷ []) None s.none (at 1 44)) ∷ []) [] [] []) ∷ []) ≡ broken 12 1 33
unfolding halves first_named class_from def_in states_from each with_all_declared declared all_declared labels_in all_labels_in declare_all count all_counted is_closed ends_closed is_closed_part has_twice equations expr_type arguments form_kind form_kinds stmt_faults all_faults param_faults method_faults class_faults classes_faults least is_less
broken-12 = refl

-- class A { int f; void m() /*: modifies f */ { } }
kept-12 : answer ((class (word (codes "A") 1 7) ((field (word (codes "f") 1 15) j.Int false None) ∷ []) ((method (word (codes "m") 1 23) false false j.Void [] None ((word (codes "f") 1 40) ∷ []) None s.none (at 1 47)) ∷ []) [] [] []) ∷ []) ≡ None
unfolding halves first_named class_from def_in states_from each with_all_declared declared all_declared labels_in all_labels_in declare_all count all_counted is_closed ends_closed is_closed_part has_twice equations expr_type arguments form_kind form_kinds stmt_faults all_faults param_faults method_faults class_faults classes_faults least is_less
kept-12 = refl

-- class A { void m() { int a = b; } }
broken-13 : answer ((class (word (codes "A") 1 7) [] ((method (word (codes "m") 1 16) false false j.Void [] None [] None (s.more (s.local (at 1 22) (param (word (codes "a") 1 26) j.Int) (Some (s.value (e.name (at 1 30) (word (codes "b") 1 30))))) s.none) (at 1 33)) ∷ []) [] [] []) ∷ []) ≡ broken 13 1 30
unfolding halves first_named class_from def_in states_from each with_all_declared declared all_declared labels_in all_labels_in declare_all count all_counted is_closed ends_closed is_closed_part has_twice equations expr_type arguments form_kind form_kinds stmt_faults all_faults param_faults method_faults class_faults classes_faults least is_less
broken-13 = refl

-- class A { int b; void m() { int a = b; } }
kept-13 : answer ((class (word (codes "A") 1 7) ((field (word (codes "b") 1 15) j.Int false None) ∷ []) ((method (word (codes "m") 1 23) false false j.Void [] None [] None (s.more (s.local (at 1 29) (param (word (codes "a") 1 33) j.Int) (Some (s.value (e.name (at 1 37) (word (codes "b") 1 37))))) s.none) (at 1 40)) ∷ []) [] [] []) ∷ []) ≡ None
unfolding halves first_named class_from def_in states_from each with_all_declared declared all_declared labels_in all_labels_in declare_all count all_counted is_closed ends_closed is_closed_part has_twice equations expr_type arguments form_kind form_kinds stmt_faults all_faults param_faults method_faults class_faults classes_faults least is_less
kept-13 = refl

-- class A { static A m() { return this; } }
broken-14 : answer ((class (word (codes "A") 1 7) [] ((method (word (codes "m") 1 20) false true (j.Class (word (codes "A") 1 18)) [] None [] None (s.more (s.return (at 1 26) (Some (e.this (at 1 33)))) s.none) (at 1 39)) ∷ []) [] [] []) ∷ []) ≡ broken 14 1 33
unfolding halves first_named class_from def_in states_from each with_all_declared declared all_declared labels_in all_labels_in declare_all count all_counted is_closed ends_closed is_closed_part has_twice equations expr_type arguments form_kind form_kinds stmt_faults all_faults param_faults method_faults class_faults classes_faults least is_less
broken-14 = refl

-- class A { A m() { return this; } }
kept-14 : answer ((class (word (codes "A") 1 7) [] ((method (word (codes "m") 1 13) false false (j.Class (word (codes "A") 1 11)) [] None [] None (s.more (s.return (at 1 19) (Some (e.this (at 1 26)))) s.none) (at 1 32)) ∷ []) [] [] []) ∷ []) ≡ None
unfolding halves first_named class_from def_in states_from each with_all_declared declared all_declared labels_in all_labels_in declare_all count all_counted is_closed ends_closed is_closed_part has_twice equations expr_type arguments form_kind form_kinds stmt_faults all_faults param_faults method_faults class_faults classes_faults least is_less
kept-14 = refl

-- class A { int f; static void m(A a) { a.f = a.g; } }
broken-15 : answer ((class (word (codes "A") 1 7) ((field (word (codes "f") 1 15) j.Int false None) ∷ []) ((method (word (codes "m") 1 30) false true j.Void ((param (word (codes "a") 1 34) (j.Class (word (codes "A") 1 32))) ∷ []) None [] None (s.more (s.assign (at 1 39) (e.member (at 1 39) (e.name (at 1 39) (word (codes "a") 1 39)) (word (codes "f") 1 41)) (s.value (e.member (at 1 45) (e.name (at 1 45) (word (codes "a") 1 45)) (word (codes "g") 1 47)))) s.none) (at 1 50)) ∷ []) [] [] []) ∷ []) ≡ broken 15 1 45
unfolding halves first_named class_from def_in states_from each with_all_declared declared all_declared labels_in all_labels_in declare_all count all_counted is_closed ends_closed is_closed_part has_twice equations expr_type arguments form_kind form_kinds stmt_faults all_faults param_faults method_faults class_faults classes_faults least is_less
broken-15 = refl

-- class A { int f; int g; static void m(A a) { a.f = a.g; } }
kept-15 : answer ((class (word (codes "A") 1 7) ((field (word (codes "f") 1 15) j.Int false None) ∷ (field (word (codes "g") 1 22) j.Int false None) ∷ []) ((method (word (codes "m") 1 37) false true j.Void ((param (word (codes "a") 1 41) (j.Class (word (codes "A") 1 39))) ∷ []) None [] None (s.more (s.assign (at 1 46) (e.member (at 1 46) (e.name (at 1 46) (word (codes "a") 1 46)) (word (codes "f") 1 48)) (s.value (e.member (at 1 52) (e.name (at 1 52) (word (codes "a") 1 52)) (word (codes "g") 1 54)))) s.none) (at 1 57)) ∷ []) [] [] []) ∷ []) ≡ None
unfolding halves first_named class_from def_in states_from each with_all_declared declared all_declared labels_in all_labels_in declare_all count all_counted is_closed ends_closed is_closed_part has_twice equations expr_type arguments form_kind form_kinds stmt_faults all_faults param_faults method_faults class_faults classes_faults least is_less
kept-15 = refl

-- class A { static int n; static void m() { n = null; } }
broken-16 : answer ((class (word (codes "A") 1 7) ((field (word (codes "n") 1 22) j.Int true None) ∷ []) ((method (word (codes "m") 1 37) false true j.Void [] None [] None (s.more (s.assign (at 1 43) (e.name (at 1 43) (word (codes "n") 1 43)) (s.value (e.null (at 1 47)))) s.none) (at 1 53)) ∷ []) [] [] []) ∷ []) ≡ broken 16 1 47
unfolding halves first_named class_from def_in states_from each with_all_declared declared all_declared labels_in all_labels_in declare_all count all_counted is_closed ends_closed is_closed_part has_twice equations expr_type arguments form_kind form_kinds stmt_faults all_faults param_faults method_faults class_faults classes_faults least is_less
broken-16 = refl

-- class A { static A n; static void m() { n = null; } }
kept-16 : answer ((class (word (codes "A") 1 7) ((field (word (codes "n") 1 20) (j.Class (word (codes "A") 1 18)) true None) ∷ []) ((method (word (codes "m") 1 35) false true j.Void [] None [] None (s.more (s.assign (at 1 41) (e.name (at 1 41) (word (codes "n") 1 41)) (s.value (e.null (at 1 45)))) s.none) (at 1 51)) ∷ []) [] [] []) ∷ []) ≡ None
unfolding halves first_named class_from def_in states_from each with_all_declared declared all_declared labels_in all_labels_in declare_all count all_counted is_closed ends_closed is_closed_part has_twice equations expr_type arguments form_kind form_kinds stmt_faults all_faults param_faults method_faults class_faults classes_faults least is_less
kept-16 = refl

-- class A { void m(int a) { a = 1; } }
broken-17 : answer ((class (word (codes "A") 1 7) [] ((method (word (codes "m") 1 16) false false j.Void ((param (word (codes "a") 1 22) j.Int) ∷ []) None [] None (s.more (s.assign (at 1 27) (e.name (at 1 27) (word (codes "a") 1 27)) (s.value (e.number (at 1 31) (pos 1)))) s.none) (at 1 34)) ∷ []) [] [] []) ∷ []) ≡ broken 17 1 27
unfolding halves first_named class_from def_in states_from each with_all_declared declared all_declared labels_in all_labels_in declare_all count all_counted is_closed ends_closed is_closed_part has_twice equations expr_type arguments form_kind form_kinds stmt_faults all_faults param_faults method_faults class_faults classes_faults least is_less
broken-17 = refl

-- class A { void m(int a) { int b; b = a; } }
kept-17 : answer ((class (word (codes "A") 1 7) [] ((method (word (codes "m") 1 16) false false j.Void ((param (word (codes "a") 1 22) j.Int) ∷ []) None [] None (s.more (s.local (at 1 27) (param (word (codes "b") 1 31) j.Int) None) (s.more (s.assign (at 1 34) (e.name (at 1 34) (word (codes "b") 1 34)) (s.value (e.name (at 1 38) (word (codes "a") 1 38)))) s.none)) (at 1 41)) ∷ []) [] [] []) ∷ []) ≡ None
unfolding halves first_named class_from def_in states_from each with_all_declared declared all_declared labels_in all_labels_in declare_all count all_counted is_closed ends_closed is_closed_part has_twice equations expr_type arguments form_kind form_kinds stmt_faults all_faults param_faults method_faults class_faults classes_faults least is_less
kept-17 = refl

-- class A { void m() { int a = -true; } }
broken-18 : answer ((class (word (codes "A") 1 7) [] ((method (word (codes "m") 1 16) false false j.Void [] None [] None (s.more (s.local (at 1 22) (param (word (codes "a") 1 26) j.Int) (Some (s.value (e.minus (at 1 30) (e.yes (at 1 31)))))) s.none) (at 1 37)) ∷ []) [] [] []) ∷ []) ≡ broken 18 1 31
unfolding halves first_named class_from def_in states_from each with_all_declared declared all_declared labels_in all_labels_in declare_all count all_counted is_closed ends_closed is_closed_part has_twice equations expr_type arguments form_kind form_kinds stmt_faults all_faults param_faults method_faults class_faults classes_faults least is_less
broken-18 = refl

-- class A { void m() { int a = -1; } }
kept-18 : answer ((class (word (codes "A") 1 7) [] ((method (word (codes "m") 1 16) false false j.Void [] None [] None (s.more (s.local (at 1 22) (param (word (codes "a") 1 26) j.Int) (Some (s.value (e.minus (at 1 30) (e.number (at 1 31) (pos 1)))))) s.none) (at 1 34)) ∷ []) [] [] []) ∷ []) ≡ None
unfolding halves first_named class_from def_in states_from each with_all_declared declared all_declared labels_in all_labels_in declare_all count all_counted is_closed ends_closed is_closed_part has_twice equations expr_type arguments form_kind form_kinds stmt_faults all_faults param_faults method_faults class_faults classes_faults least is_less
kept-18 = refl

-- class A { void m(int a) { int b = 1 + a * a; } }
broken-19 : answer ((class (word (codes "A") 1 7) [] ((method (word (codes "m") 1 16) false false j.Void ((param (word (codes "a") 1 22) j.Int) ∷ []) None [] None (s.more (s.local (at 1 27) (param (word (codes "b") 1 31) j.Int) (Some (s.value (e.binary (at 1 35) op.Add (e.number (at 1 35) (pos 1)) (e.binary (at 1 39) op.Mul (e.name (at 1 39) (word (codes "a") 1 39)) (e.name (at 1 43) (word (codes "a") 1 43))))))) s.none) (at 1 46)) ∷ []) [] [] []) ∷ []) ≡ broken 19 1 39
unfolding halves first_named class_from def_in states_from each with_all_declared declared all_declared labels_in all_labels_in declare_all count all_counted is_closed ends_closed is_closed_part has_twice equations expr_type arguments form_kind form_kinds stmt_faults all_faults param_faults method_faults class_faults classes_faults least is_less
broken-19 = refl

-- class A { void m(int a) { int b = 1 + a * -2; } }
kept-19 : answer ((class (word (codes "A") 1 7) [] ((method (word (codes "m") 1 16) false false j.Void ((param (word (codes "a") 1 22) j.Int) ∷ []) None [] None (s.more (s.local (at 1 27) (param (word (codes "b") 1 31) j.Int) (Some (s.value (e.binary (at 1 35) op.Add (e.number (at 1 35) (pos 1)) (e.binary (at 1 39) op.Mul (e.name (at 1 39) (word (codes "a") 1 39)) (e.minus (at 1 43) (e.number (at 1 44) (pos 2)))))))) s.none) (at 1 47)) ∷ []) [] [] []) ∷ []) ≡ None
unfolding halves first_named class_from def_in states_from each with_all_declared declared all_declared labels_in all_labels_in declare_all count all_counted is_closed ends_closed is_closed_part has_twice equations expr_type arguments form_kind form_kinds stmt_faults all_faults param_faults method_faults class_faults classes_faults least is_less
kept-19 = refl

-- class A { void m() { if (1) { } } }
broken-20 : answer ((class (word (codes "A") 1 7) [] ((method (word (codes "m") 1 16) false false j.Void [] None [] None (s.more (s.branch (at 1 22) (e.number (at 1 26) (pos 1)) (s.block (at 1 29) s.none) s.none) s.none) (at 1 33)) ∷ []) [] [] []) ∷ []) ≡ broken 20 1 26
unfolding halves first_named class_from def_in states_from each with_all_declared declared all_declared labels_in all_labels_in declare_all count all_counted is_closed ends_closed is_closed_part has_twice equations expr_type arguments form_kind form_kinds stmt_faults all_faults param_faults method_faults class_faults classes_faults least is_less
broken-20 = refl

-- class A { void m() { if (!true) { } } }
kept-20 : answer ((class (word (codes "A") 1 7) [] ((method (word (codes "m") 1 16) false false j.Void [] None [] None (s.more (s.branch (at 1 22) (e.negation (at 1 26) (e.yes (at 1 27))) (s.block (at 1 33) s.none) s.none) s.none) (at 1 37)) ∷ []) [] [] []) ∷ []) ≡ None
unfolding halves first_named class_from def_in states_from each with_all_declared declared all_declared labels_in all_labels_in declare_all count all_counted is_closed ends_closed is_closed_part has_twice equations expr_type arguments form_kind form_kinds stmt_faults all_faults param_faults method_faults class_faults classes_faults least is_less
kept-20 = refl

-- class A { void m(A a) { boolean b = a == 1; } }
broken-21 : answer ((class (word (codes "A") 1 7) [] ((method (word (codes "m") 1 16) false false j.Void ((param (word (codes "a") 1 20) (j.Class (word (codes "A") 1 18))) ∷ []) None [] None (s.more (s.local (at 1 25) (param (word (codes "b") 1 33) j.Boolean) (Some (s.value (e.binary (at 1 37) op.Equal (e.name (at 1 37) (word (codes "a") 1 37)) (e.number (at 1 42) (pos 1)))))) s.none) (at 1 45)) ∷ []) [] [] []) ∷ []) ≡ broken 21 1 37
unfolding halves first_named class_from def_in states_from each with_all_declared declared all_declared labels_in all_labels_in declare_all count all_counted is_closed ends_closed is_closed_part has_twice equations expr_type arguments form_kind form_kinds stmt_faults all_faults param_faults method_faults class_faults classes_faults least is_less
broken-21 = refl

-- class A { void m(A a) { boolean b = a == null; } }
kept-21 : answer ((class (word (codes "A") 1 7) [] ((method (word (codes "m") 1 16) false false j.Void ((param (word (codes "a") 1 20) (j.Class (word (codes "A") 1 18))) ∷ []) None [] None (s.more (s.local (at 1 25) (param (word (codes "b") 1 33) j.Boolean) (Some (s.value (e.binary (at 1 37) op.Equal (e.name (at 1 37) (word (codes "a") 1 37)) (e.null (at 1 42)))))) s.none) (at 1 48)) ∷ []) [] [] []) ∷ []) ≡ None
unfolding halves first_named class_from def_in states_from each with_all_declared declared all_declared labels_in all_labels_in declare_all count all_counted is_closed ends_closed is_closed_part has_twice equations expr_type arguments form_kind form_kinds stmt_faults all_faults param_faults method_faults class_faults classes_faults least is_less
kept-21 = refl

-- class A { void m() { n(); } }
broken-22 : answer ((class (word (codes "A") 1 7) [] ((method (word (codes "m") 1 16) false false j.Void [] None [] None (s.more (s.call (at 1 22) (call None (word (codes "n") 1 22) [])) s.none) (at 1 27)) ∷ []) [] [] []) ∷ []) ≡ broken 22 1 22
unfolding halves first_named class_from def_in states_from each with_all_declared declared all_declared labels_in all_labels_in declare_all count all_counted is_closed ends_closed is_closed_part has_twice equations expr_type arguments form_kind form_kinds stmt_faults all_faults param_faults method_faults class_faults classes_faults least is_less
broken-22 = refl

-- class A { void m() { m(); A.n(); } static void n() { } }
kept-22 : answer ((class (word (codes "A") 1 7) [] ((method (word (codes "m") 1 16) false false j.Void [] None [] None (s.more (s.call (at 1 22) (call None (word (codes "m") 1 22) [])) (s.more (s.call (at 1 27) (call (Some (e.name (at 1 27) (word (codes "A") 1 27))) (word (codes "n") 1 29) [])) s.none)) (at 1 34)) ∷ (method (word (codes "n") 1 48) false true j.Void [] None [] None s.none (at 1 54)) ∷ []) [] [] []) ∷ []) ≡ None
unfolding halves first_named class_from def_in states_from each with_all_declared declared all_declared labels_in all_labels_in declare_all count all_counted is_closed ends_closed is_closed_part has_twice equations expr_type arguments form_kind form_kinds stmt_faults all_faults param_faults method_faults class_faults classes_faults least is_less
kept-22 = refl

-- class A { static void n(int a) { } static void m() { n(); } }
broken-23 : answer ((class (word (codes "A") 1 7) [] ((method (word (codes "n") 1 23) false true j.Void ((param (word (codes "a") 1 29) j.Int) ∷ []) None [] None s.none (at 1 34)) ∷ (method (word (codes "m") 1 48) false true j.Void [] None [] None (s.more (s.call (at 1 54) (call None (word (codes "n") 1 54) [])) s.none) (at 1 59)) ∷ []) [] [] []) ∷ []) ≡ broken 23 1 54
unfolding halves first_named class_from def_in states_from each with_all_declared declared all_declared labels_in all_labels_in declare_all count all_counted is_closed ends_closed is_closed_part has_twice equations expr_type arguments form_kind form_kinds stmt_faults all_faults param_faults method_faults class_faults classes_faults least is_less
broken-23 = refl

-- class A { static void n(int a) { } static void m() { n(1); } }
kept-23 : answer ((class (word (codes "A") 1 7) [] ((method (word (codes "n") 1 23) false true j.Void ((param (word (codes "a") 1 29) j.Int) ∷ []) None [] None s.none (at 1 34)) ∷ (method (word (codes "m") 1 48) false true j.Void [] None [] None (s.more (s.call (at 1 54) (call None (word (codes "n") 1 54) ((e.number (at 1 56) (pos 1)) ∷ []))) s.none) (at 1 60)) ∷ []) [] [] []) ∷ []) ≡ None
unfolding halves first_named class_from def_in states_from each with_all_declared declared all_declared labels_in all_labels_in declare_all count all_counted is_closed ends_closed is_closed_part has_twice equations expr_type arguments form_kind form_kinds stmt_faults all_faults param_faults method_faults class_faults classes_faults least is_less
kept-23 = refl

-- class A { static int m() { return; } }
broken-24 : answer ((class (word (codes "A") 1 7) [] ((method (word (codes "m") 1 22) false true j.Int [] None [] None (s.more (s.return (at 1 28) None) s.none) (at 1 36)) ∷ []) [] [] []) ∷ []) ≡ broken 24 1 28
unfolding halves first_named class_from def_in states_from each with_all_declared declared all_declared labels_in all_labels_in declare_all count all_counted is_closed ends_closed is_closed_part has_twice equations expr_type arguments form_kind form_kinds stmt_faults all_faults param_faults method_faults class_faults classes_faults least is_less
broken-24 = refl

-- class A { static int m() { return 1; } static void n() { return; } }
kept-24 : answer ((class (word (codes "A") 1 7) [] ((method (word (codes "m") 1 22) false true j.Int [] None [] None (s.more (s.return (at 1 28) (Some (e.number (at 1 35) (pos 1)))) s.none) (at 1 38)) ∷ (method (word (codes "n") 1 52) false true j.Void [] None [] None (s.more (s.return (at 1 58) None) s.none) (at 1 66)) ∷ []) [] [] []) ∷ []) ≡ None
unfolding halves first_named class_from def_in states_from each with_all_declared declared all_declared labels_in all_labels_in declare_all count all_counted is_closed ends_closed is_closed_part has_twice equations expr_type arguments form_kind form_kinds stmt_faults all_faults param_faults method_faults class_faults classes_faults least is_less
kept-24 = refl

-- class A { static int m() { } }
broken-25 : answer ((class (word (codes "A") 1 7) [] ((method (word (codes "m") 1 22) false true j.Int [] None [] None s.none (at 1 28)) ∷ []) [] [] []) ∷ []) ≡ broken 25 1 28
unfolding halves first_named class_from def_in states_from each with_all_declared declared all_declared labels_in all_labels_in declare_all count all_counted is_closed ends_closed is_closed_part has_twice equations expr_type arguments form_kind form_kinds stmt_faults all_faults param_faults method_faults class_faults classes_faults least is_less
broken-25 = refl

-- class A { static int m(boolean b) { if (b) return 1; else { return 2; } } }
kept-25 : answer ((class (word (codes "A") 1 7) [] ((method (word (codes "m") 1 22) false true j.Int ((param (word (codes "b") 1 32) j.Boolean) ∷ []) None [] None (s.more (s.branch (at 1 37) (e.name (at 1 41) (word (codes "b") 1 41)) (s.return (at 1 44) (Some (e.number (at 1 51) (pos 1)))) (s.more (s.block (at 1 59) (s.more (s.return (at 1 61) (Some (e.number (at 1 68) (pos 2)))) s.none)) s.none)) s.none) (at 1 73)) ∷ []) [] [] []) ∷ []) ≡ None
unfolding halves first_named class_from def_in states_from each with_all_declared declared all_declared labels_in all_labels_in declare_all count all_counted is_closed ends_closed is_closed_part has_twice equations expr_type arguments form_kind form_kinds stmt_faults all_faults param_faults method_faults class_faults classes_faults least is_less
kept-25 = refl

-- class A { static void m() { Object a = new B(); } }
broken-26 : answer ((class (word (codes "A") 1 7) [] ((method (word (codes "m") 1 23) false true j.Void [] None [] None (s.more (s.local (at 1 29) (param (word (codes "a") 1 36) (j.Class (word (codes "Object") 1 29))) (Some (s.new (word (codes "B") 1 44)))) s.none) (at 1 49)) ∷ []) [] [] []) ∷ []) ≡ broken 26 1 44
unfolding halves first_named class_from def_in states_from each with_all_declared declared all_declared labels_in all_labels_in declare_all count all_counted is_closed ends_closed is_closed_part has_twice equations expr_type arguments form_kind form_kinds stmt_faults all_faults param_faults method_faults class_faults classes_faults least is_less
broken-26 = refl

-- class A { static void m() { Object a = new A(); } }
kept-26 : answer ((class (word (codes "A") 1 7) [] ((method (word (codes "m") 1 23) false true j.Void [] None [] None (s.more (s.local (at 1 29) (param (word (codes "a") 1 36) (j.Class (word (codes "Object") 1 29))) (Some (s.new (word (codes "A") 1 44)))) s.none) (at 1 49)) ∷ []) [] [] []) ∷ []) ≡ None
unfolding halves first_named class_from def_in states_from each with_all_declared declared all_declared labels_in all_labels_in declare_all count all_counted is_closed ends_closed is_closed_part has_twice equations expr_type arguments form_kind form_kinds stmt_faults all_faults param_faults method_faults class_faults classes_faults least is_less
kept-26 = refl

-- class A { /*: invariant "x = null"; */ }
broken-27 : answer ((class (word (codes "A") 1 7) [] [] [] [] ((labelled None (spec (at 1 25) 0 (f.binary (at 1 26) sop.Equal (f.name (at 1 26) (word (codes "x") 1 26)) (f.null (at 1 30)))) []) ∷ [])) ∷ []) ≡ broken 27 1 26
unfolding halves first_named class_from def_in states_from each with_all_declared declared all_declared labels_in all_labels_in declare_all count all_counted is_closed ends_closed is_closed_part has_twice equations expr_type arguments form_kind form_kinds stmt_faults all_faults param_faults method_faults class_faults classes_faults least is_less
broken-27 = refl

-- class A { static A x; /*: invariant "x = null"; */ }
kept-27 : answer ((class (word (codes "A") 1 7) ((field (word (codes "x") 1 20) (j.Class (word (codes "A") 1 18)) true None) ∷ []) [] [] [] ((labelled None (spec (at 1 37) 0 (f.binary (at 1 38) sop.Equal (f.name (at 1 38) (word (codes "x") 1 38)) (f.null (at 1 42)))) []) ∷ [])) ∷ []) ≡ None
unfolding halves first_named class_from def_in states_from each with_all_declared declared all_declared labels_in all_labels_in declare_all count all_counted is_closed ends_closed is_closed_part has_twice equations expr_type arguments form_kind form_kinds stmt_faults all_faults param_faults method_faults class_faults classes_faults least is_less
kept-27 = refl

-- class A { /*: invariant "~ 1"; */ }
broken-28 : answer ((class (word (codes "A") 1 7) [] [] [] [] ((labelled None (spec (at 1 25) 0 (f.negation (at 1 26) (f.number (at 1 28) (pos 1)))) []) ∷ [])) ∷ []) ≡ broken 28 1 28
unfolding halves first_named class_from def_in states_from each with_all_declared declared all_declared labels_in all_labels_in declare_all count all_counted is_closed ends_closed is_closed_part has_twice equations expr_type arguments form_kind form_kinds stmt_faults all_faults param_faults method_faults class_faults classes_faults least is_less
broken-28 = refl

-- class A { /*: invariant "~ (1 = 2)"; */ }
kept-28 : answer ((class (word (codes "A") 1 7) [] [] [] [] ((labelled None (spec (at 1 25) 0 (f.negation (at 1 26) (f.binary (at 1 28) sop.Equal (f.number (at 1 29) (pos 1)) (f.number (at 1 33) (pos 2))))) []) ∷ [])) ∷ []) ≡ None
unfolding halves first_named class_from def_in states_from each with_all_declared declared all_declared labels_in all_labels_in declare_all count all_counted is_closed ends_closed is_closed_part has_twice equations expr_type arguments form_kind form_kinds stmt_faults all_faults param_faults method_faults class_faults classes_faults least is_less
kept-28 = refl

-- class A { int f; /*: invariant "0 dvd f"; */ }
broken-29 : answer ((class (word (codes "A") 1 7) ((field (word (codes "f") 1 15) j.Int false None) ∷ []) [] [] [] ((labelled None (spec (at 1 32) 0 (f.dvd (at 1 33) (pos 0) (f.name (at 1 39) (word (codes "f") 1 39)))) []) ∷ [])) ∷ []) ≡ broken 29 1 33
unfolding halves first_named class_from def_in states_from each with_all_declared declared all_declared labels_in all_labels_in declare_all count all_counted is_closed ends_closed is_closed_part has_twice equations expr_type arguments form_kind form_kinds stmt_faults all_faults param_faults method_faults class_faults classes_faults least is_less
broken-29 = refl

-- class A { int f; /*: invariant "2 dvd 3 * f"; */ }
kept-29 : answer ((class (word (codes "A") 1 7) ((field (word (codes "f") 1 15) j.Int false None) ∷ []) [] [] [] ((labelled None (spec (at 1 32) 0 (f.dvd (at 1 33) (pos 2) (f.binary (at 1 39) sop.Mul (f.number (at 1 39) (pos 3)) (f.name (at 1 43) (word (codes "f") 1 43))))) []) ∷ [])) ∷ []) ≡ None
unfolding halves first_named class_from def_in states_from each with_all_declared declared all_declared labels_in all_labels_in declare_all count all_counted is_closed ends_closed is_closed_part has_twice equations expr_type arguments form_kind form_kinds stmt_faults all_faults param_faults method_faults class_faults classes_faults least is_less
kept-29 = refl

-- class A { int f; /*: invariant "tree [f]"; */ }
broken-30 : answer ((class (word (codes "A") 1 7) ((field (word (codes "f") 1 15) j.Int false None) ∷ []) [] [] [] ((labelled None (spec (at 1 32) 0 (f.tree (at 1 33) ((word (codes "f") 1 39) ∷ []))) []) ∷ [])) ∷ []) ≡ broken 30 1 39
unfolding halves first_named class_from def_in states_from each with_all_declared declared all_declared labels_in all_labels_in declare_all count all_counted is_closed ends_closed is_closed_part has_twice equations expr_type arguments form_kind form_kinds stmt_faults all_faults param_faults method_faults class_faults classes_faults least is_less
broken-30 = refl

-- class A { A f; A g; /*: invariant "tree [f, g] & rtrancl_pt (% u v. u..f = v | u..g = v) this this"; */ }
kept-30 : answer ((class (word (codes "A") 1 7) ((field (word (codes "f") 1 13) (j.Class (word (codes "A") 1 11)) false None) ∷ (field (word (codes "g") 1 18) (j.Class (word (codes "A") 1 16)) false None) ∷ []) [] [] [] ((labelled None (spec (at 1 35) 0 (f.binary (at 1 36) sop.And (f.tree (at 1 36) ((word (codes "f") 1 42) ∷ (word (codes "g") 1 45) ∷ [])) (f.rtrancl (at 1 50) (word (codes "u") 1 64) (word (codes "v") 1 66) (f.binary (at 1 69) sop.Or (f.binary (at 1 69) sop.Equal (f.member (at 1 69) (f.name (at 1 69) (word (codes "u") 1 69)) (word (codes "f") 1 72)) (f.name (at 1 76) (word (codes "v") 1 76))) (f.binary (at 1 80) sop.Equal (f.member (at 1 80) (f.name (at 1 80) (word (codes "u") 1 80)) (word (codes "g") 1 83)) (f.name (at 1 87) (word (codes "v") 1 87)))) (f.name (at 1 90) (word (codes "this") 1 90)) (f.name (at 1 95) (word (codes "this") 1 95))))) []) ∷ [])) ∷ []) ≡ None
unfolding halves first_named class_from def_in states_from each with_all_declared declared all_declared labels_in all_labels_in declare_all count all_counted is_closed ends_closed is_closed_part has_twice equations expr_type arguments form_kind form_kinds stmt_faults all_faults param_faults method_faults class_faults classes_faults least is_less
kept-30 = refl

-- class A { static void m() /*: ensures "result = 1" */ { } }
broken-31 : answer ((class (word (codes "A") 1 7) [] ((method (word (codes "m") 1 23) false true j.Void [] None [] (Some (spec (at 1 39) 0 (f.binary (at 1 40) sop.Equal (f.name (at 1 40) (word (codes "result") 1 40)) (f.number (at 1 49) (pos 1))))) s.none (at 1 57)) ∷ []) [] [] []) ∷ []) ≡ broken 31 1 40
unfolding halves first_named class_from def_in states_from each with_all_declared declared all_declared labels_in all_labels_in declare_all count all_counted is_closed ends_closed is_closed_part has_twice equations expr_type arguments form_kind form_kinds stmt_faults all_faults param_faults method_faults class_faults classes_faults least is_less
broken-31 = refl

-- class A { static int m() /*: ensures "result = 1" */ { return 1; } }
kept-31 : answer ((class (word (codes "A") 1 7) [] ((method (word (codes "m") 1 22) false true j.Int [] None [] (Some (spec (at 1 38) 0 (f.binary (at 1 39) sop.Equal (f.name (at 1 39) (word (codes "result") 1 39)) (f.number (at 1 48) (pos 1))))) (s.more (s.return (at 1 56) (Some (e.number (at 1 63) (pos 1)))) s.none) (at 1 66)) ∷ []) [] [] []) ∷ []) ≡ None
unfolding halves first_named class_from def_in states_from each with_all_declared declared all_declared labels_in all_labels_in declare_all count all_counted is_closed ends_closed is_closed_part has_twice equations expr_type arguments form_kind form_kinds stmt_faults all_faults param_faults method_faults class_faults classes_faults least is_less
kept-31 = refl

-- class A { A f; /*: invariant "tree [f, f]"; */ }
lists-1 : answer ((class (word (codes "A") 1 7) ((field (word (codes "f") 1 13) (j.Class (word (codes "A") 1 11)) false None) ∷ []) [] [] [] ((labelled None (spec (at 1 30) 0 (f.tree (at 1 31) ((word (codes "f") 1 37) ∷ (word (codes "f") 1 40) ∷ []))) []) ∷ [])) ∷ []) ≡ broken 30 1 31
unfolding halves first_named class_from def_in states_from each with_all_declared declared all_declared labels_in all_labels_in declare_all count all_counted is_closed ends_closed is_closed_part has_twice equations expr_type arguments form_kind form_kinds stmt_faults all_faults param_faults method_faults class_faults classes_faults least is_less
lists-1 = refl

-- class A { A f; A g; A h; A i; A j; /*: invariant "tree [f, g, h, i, j]"; */ }
lists-2 : answer ((class (word (codes "A") 1 7) ((field (word (codes "f") 1 13) (j.Class (word (codes "A") 1 11)) false None) ∷ (field (word (codes "g") 1 18) (j.Class (word (codes "A") 1 16)) false None) ∷ (field (word (codes "h") 1 23) (j.Class (word (codes "A") 1 21)) false None) ∷ (field (word (codes "i") 1 28) (j.Class (word (codes "A") 1 26)) false None) ∷ (field (word (codes "j") 1 33) (j.Class (word (codes "A") 1 31)) false None) ∷ []) [] [] [] ((labelled None (spec (at 1 50) 0 (f.tree (at 1 51) ((word (codes "f") 1 57) ∷ (word (codes "g") 1 60) ∷ (word (codes "h") 1 63) ∷ (word (codes "i") 1 66) ∷ (word (codes "j") 1 69) ∷ []))) []) ∷ [])) ∷ []) ≡ broken 30 1 51
unfolding halves first_named class_from def_in states_from each with_all_declared declared all_declared labels_in all_labels_in declare_all count all_counted is_closed ends_closed is_closed_part has_twice equations expr_type arguments form_kind form_kinds stmt_faults all_faults param_faults method_faults class_faults classes_faults least is_less
lists-2 = refl

-- class A { A f; /*: invariant "rtrancl_pt (% u u. u..f = u) this this"; */ }
lists-3 : answer ((class (word (codes "A") 1 7) ((field (word (codes "f") 1 13) (j.Class (word (codes "A") 1 11)) false None) ∷ []) [] [] [] ((labelled None (spec (at 1 30) 0 (f.rtrancl (at 1 31) (word (codes "u") 1 45) (word (codes "u") 1 47) (f.binary (at 1 50) sop.Equal (f.member (at 1 50) (f.name (at 1 50) (word (codes "u") 1 50)) (word (codes "f") 1 53)) (f.name (at 1 57) (word (codes "u") 1 57))) (f.name (at 1 60) (word (codes "this") 1 60)) (f.name (at 1 65) (word (codes "this") 1 65)))) []) ∷ [])) ∷ []) ≡ broken 30 1 31
unfolding halves first_named class_from def_in states_from each with_all_declared declared all_declared labels_in all_labels_in declare_all count all_counted is_closed ends_closed is_closed_part has_twice equations expr_type arguments form_kind form_kinds stmt_faults all_faults param_faults method_faults class_faults classes_faults least is_less
lists-3 = refl
