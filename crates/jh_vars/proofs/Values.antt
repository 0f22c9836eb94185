-- Values of formulas of small sources, by the definitions.
use Rattle.std.proofs.Common.{◌≡◌, refl, ℕ, pos, Bool, true, false, List, [], ◌∷◌, Option, Some, None, codes}
use Rattle.jh_name.specs.declared.naming.Name.{Name}
use Rattle.jh_name.specs.declared.place.Place.{Place}
use Rattle.jh_name.specs.declared.place.Kind.{Kind}
use Rattle.jh_name.specs.declared.place.Kind.TheVariants as k
use Rattle.jh_ast.specs.declared.word.Word.{Word}
use Rattle.jh_ast.specs.declared.word.JType.{JType}
use Rattle.jh_ast.specs.declared.word.JType.TheVariants as j
use Rattle.jh_ast.specs.declared.word.Param.{Param}
use Rattle.jh_ast.specs.declared.expr.Op.TheVariants as op
use Rattle.jh_ast.specs.declared.spec.SpecOp.TheVariants as sop
use Rattle.jh_ast.specs.Exprs.{ExprTree}
use Rattle.jh_ast.specs.Exprs as e
use Rattle.jh_ast.specs.Forms.{FormTree, SpecPart, LabelledPart}
use Rattle.jh_ast.specs.Forms as f
use Rattle.jh_ast.specs.Stmts.{StmtTrees, CallTree}
use Rattle.jh_ast.specs.Stmts as s
use Rattle.jh_ast.specs.Programs.{ClassPart, FieldPart, VarPart, DefPart, MethodPart}
use Rattle.jh_rules.specs.Words.{halves}
use Rattle.jh_rules.specs.Names.{first_named, class_from, def_in, states_from}
use Rattle.jh_rules.specs.Scopes.{with_all_declared, declared, all_declared, labels_in, all_labels_in, declare_all}
use Rattle.jh_rules.specs.Formulas.{equations}
use Rattle.jh_boxed.specs.jh_form.Tree.{ValueTree, TermTree, IntTree, SetTree, FieldTree, FormulaTree, FieldTrees}
use Rattle.jh_boxed.specs.jh_form.Tree as t
use Rattle.jh_boxed.specs.Mapped.{mapped_term, mapped_int, mapped_set, mapped_field, mapped_value, mapped_formula, mapped_fields}
use Rattle.jh_vars.specs.Resolved.{bound_as, plain_literal, literal, quantified, field_list, resolved, union_of}
use Rattle.jh_vars.specs.Statements.{inner_statements, all_statements}
use Rattle.jh_vars.specs.Opened.{meant, uses_this, one_uses_this, in_method, in_class, in_classes, found_in, opened}

abbrev at : ℕ → ℕ → Place
at l c = record { line = l; column = c }

abbrev word : List ℕ → ℕ → ℕ → Word
word t l c = record { text = record { text = t; turn = 0 }; place = at l c }

abbrev spec : Place → ℕ → FormTree → SpecPart
spec p n a = record { place = p; number = n; form = a }

abbrev labelled : Option Word → SpecPart → List Word → LabelledPart
labelled n a ws = record { label = n; spec = a; from = ws }

abbrev param : Word → JType → Param
param w t = record { name = w; jtype = t }

abbrev call : Option ExprTree → Word → List ExprTree → CallTree
call r m es = record { receiver = r; method = m; args = es }

abbrev field : Word → JType → Bool → Option ExprTree → FieldPart
field w t x i = record { name = w; jtype = t; fixed = x; init = i }

abbrev var : Word → Kind → Bool → Bool → Option SpecPart → VarPart
var w t x g i = record { name = w; kind = t; fixed = x; is_ghost = g; init = i }

abbrev def : Word → SpecPart → DefPart
def w a = record { name = w; spec = a }

abbrev method : Word → Bool → Bool → JType → List Param → Option SpecPart → List Word → Option SpecPart → StmtTrees → Place → MethodPart
method w u x r ps pre ms post b q = record { name = w; is_public = u; fixed = x; result = r; params = ps; pre = pre; modifies = ms; post = post; body = b; end = q }

abbrev class : Word → List FieldPart → List MethodPart → List VarPart → List DefPart → List LabelledPart → ClassPart
class w fs ms vs ds is = record { name = w; fields = fs; methods = ms; vars = vs; defs = ds; invariants = is }

abbrev own : List ℕ → ℕ → Name
own x n = record { text = x; turn = n }

-- class N { private N next; private int size; private static N first; private static int total; /*: specvar big :: bool; vardefs "big == 3 < size & (EX y. y ~= this & y..next = this)"; specvar far :: obj; vardefs "far == next..next"; static specvar content :: objset; vardefs "content == {x. x : N & (EX z. z..big & z..far = x)}"; public static ghost specvar g :: int = "0"; invariant one: "big | size = - 1"; invariant two: "tree [N.next]"; invariant three: "ALL x y. x ~= y --> rtrancl_pt (% u v. u..next = v) x y | {x, y, null} <= content Un {} - {this}"; */ public int m(N p, int k) /*: requires "p ~= null & p..big" modifies content ensures "result = old (size + k) & old content = content & (ALL q. q..far = old (q..far) | q : Object) & 2 * size >= card content & 3 dvd total" */ { int j = 1; while /*: inv i: "j <= k & old big" */ (j < k) { //: note lab: "EX w. w = p & w..big"; j = j + 1; } //: g := "g + size * 2"; return j; } }
abbrev source_0 : List ClassPart
source_0 = ((class (word (codes "N") 1 7) ((field (word (codes "next") 2 13) (j.Class (word (codes "N") 2 11)) false None) ∷ (field (word (codes "size") 3 15) j.Int false None) ∷ (field (word (codes "first") 4 20) (j.Class (word (codes "N") 4 18)) true None) ∷ (field (word (codes "total") 5 22) j.Int true None) ∷ []) ((method (word (codes "m") 13 14) true false j.Int ((param (word (codes "p") 13 18) (j.Class (word (codes "N") 13 16))) ∷ (param (word (codes "k") 13 25) j.Int) ∷ []) (Some (spec (at 13 41) 7 (f.binary (at 13 42) sop.And (f.binary (at 13 42) sop.NotEqual (f.name (at 13 42) (word (codes "p") 13 42)) (f.null (at 13 47))) (f.member (at 13 54) (f.name (at 13 54) (word (codes "p") 13 54)) (word (codes "big") 13 57))))) ((word (codes "content") 13 71) ∷ []) (Some (spec (at 13 87) 8 (f.binary (at 13 88) sop.And (f.binary (at 13 88) sop.Equal (f.name (at 13 88) (word (codes "result") 13 88)) (f.old (at 13 97) (f.binary (at 13 101) sop.Add (f.name (at 13 102) (word (codes "size") 13 102)) (f.name (at 13 109) (word (codes "k") 13 109))))) (f.binary (at 13 114) sop.And (f.binary (at 13 114) sop.Equal (f.old (at 13 114) (f.name (at 13 118) (word (codes "content") 13 118))) (f.name (at 13 128) (word (codes "content") 13 128))) (f.binary (at 13 138) sop.And (f.all (at 13 138) ((word (codes "q") 13 143) ∷ []) (f.binary (at 13 146) sop.Or (f.binary (at 13 146) sop.Equal (f.member (at 13 146) (f.name (at 13 146) (word (codes "q") 13 146)) (word (codes "far") 13 149)) (f.old (at 13 155) (f.member (at 13 159) (f.name (at 13 160) (word (codes "q") 13 160)) (word (codes "far") 13 163)))) (f.binary (at 13 170) sop.Elem (f.name (at 13 170) (word (codes "q") 13 170)) (f.name (at 13 174) (word (codes "Object") 13 174))))) (f.binary (at 13 184) sop.And (f.binary (at 13 184) sop.GreaterEq (f.binary (at 13 184) sop.Mul (f.number (at 13 184) (pos 2)) (f.name (at 13 188) (word (codes "size") 13 188))) (f.card (at 13 196) (f.name (at 13 201) (word (codes "content") 13 201)))) (f.dvd (at 13 211) (pos 3) (f.name (at 13 217) (word (codes "total") 13 217))))))))) (s.more (s.local (at 14 5) (param (word (codes "j") 14 9) j.Int) (Some (s.value (e.number (at 14 13) (pos 1))))) (s.more (s.loop (at 15 5) ((labelled (Some (word (codes "i") 15 19)) (spec (at 15 22) 9 (f.binary (at 15 23) sop.And (f.binary (at 15 23) sop.LessEq (f.name (at 15 23) (word (codes "j") 15 23)) (f.name (at 15 28) (word (codes "k") 15 28))) (f.old (at 15 32) (f.name (at 15 36) (word (codes "big") 15 36))))) []) ∷ []) (e.binary (at 15 45) op.Less (e.name (at 15 45) (word (codes "j") 15 45)) (e.name (at 15 49) (word (codes "k") 15 49))) (s.block (at 15 52) (s.more (s.note (at 15 58) (labelled (Some (word (codes "lab") 15 63)) (spec (at 15 68) 10 (f.ex (at 15 69) ((word (codes "w") 15 72) ∷ []) (f.binary (at 15 75) sop.And (f.binary (at 15 75) sop.Equal (f.name (at 15 75) (word (codes "w") 15 75)) (f.name (at 15 79) (word (codes "p") 15 79))) (f.member (at 15 83) (f.name (at 15 83) (word (codes "w") 15 83)) (word (codes "big") 15 86))))) [])) (s.more (s.assign (at 16 7) (e.name (at 16 7) (word (codes "j") 16 7)) (s.value (e.binary (at 16 11) op.Add (e.name (at 16 11) (word (codes "j") 16 11)) (e.number (at 16 15) (pos 1))))) s.none)))) (s.more (s.ghost (at 17 9) (spec (at 17 9) 11 (f.name (at 17 9) (word (codes "g") 17 9))) (spec (at 17 14) 12 (f.binary (at 17 15) sop.Add (f.name (at 17 15) (word (codes "g") 17 15)) (f.binary (at 17 19) sop.Mul (f.name (at 17 19) (word (codes "size") 17 19)) (f.number (at 17 26) (pos 2)))))) (s.more (s.return (at 18 5) (Some (e.name (at 18 12) (word (codes "j") 18 12)))) s.none)))) (at 19 3)) ∷ []) ((var (word (codes "big") 6 15) k.Bool false false None) ∷ (var (word (codes "far") 7 15) k.Obj false false None) ∷ (var (word (codes "content") 8 22) k.Set true false None) ∷ (var (word (codes "g") 9 35) k.Int true true (Some (spec (at 9 46) 3 (f.number (at 9 47) (pos 0))))) ∷ []) ((def (word (codes "big") 6 37) (spec (at 6 36) 0 (f.binary (at 6 44) sop.And (f.binary (at 6 44) sop.Less (f.number (at 6 44) (pos 3)) (f.name (at 6 48) (word (codes "size") 6 48))) (f.ex (at 6 55) ((word (codes "y") 6 59) ∷ []) (f.binary (at 6 62) sop.And (f.binary (at 6 62) sop.NotEqual (f.name (at 6 62) (word (codes "y") 6 62)) (f.name (at 6 67) (word (codes "this") 6 67))) (f.binary (at 6 74) sop.Equal (f.member (at 6 74) (f.name (at 6 74) (word (codes "y") 6 74)) (word (codes "next") 6 77)) (f.name (at 6 84) (word (codes "this") 6 84)))))))) ∷ (def (word (codes "far") 7 36) (spec (at 7 35) 1 (f.member (at 7 43) (f.name (at 7 43) (word (codes "next") 7 43)) (word (codes "next") 7 49)))) ∷ (def (word (codes "content") 8 50) (spec (at 8 49) 2 (f.compr (at 8 61) (word (codes "x") 8 62) (f.binary (at 8 65) sop.And (f.binary (at 8 65) sop.Elem (f.name (at 8 65) (word (codes "x") 8 65)) (f.name (at 8 69) (word (codes "N") 8 69))) (f.ex (at 8 73) ((word (codes "z") 8 77) ∷ []) (f.binary (at 8 80) sop.And (f.member (at 8 80) (f.name (at 8 80) (word (codes "z") 8 80)) (word (codes "big") 8 83)) (f.binary (at 8 89) sop.Equal (f.member (at 8 89) (f.name (at 8 89) (word (codes "z") 8 89)) (word (codes "far") 8 92)) (f.name (at 8 98) (word (codes "x") 8 98))))))))) ∷ []) ((labelled (Some (word (codes "one") 10 17)) (spec (at 10 22) 4 (f.binary (at 10 23) sop.Or (f.name (at 10 23) (word (codes "big") 10 23)) (f.binary (at 10 29) sop.Equal (f.name (at 10 29) (word (codes "size") 10 29)) (f.minus (at 10 36) (f.number (at 10 38) (pos 1)))))) []) ∷ (labelled (Some (word (codes "two") 11 17)) (spec (at 11 22) 5 (f.tree (at 11 23) ((word (codes "N.next") 11 29) ∷ []))) []) ∷ (labelled (Some (word (codes "three") 12 17)) (spec (at 12 24) 6 (f.all (at 12 25) ((word (codes "x") 12 29) ∷ (word (codes "y") 12 31) ∷ []) (f.binary (at 12 34) sop.Implies (f.binary (at 12 34) sop.NotEqual (f.name (at 12 34) (word (codes "x") 12 34)) (f.name (at 12 39) (word (codes "y") 12 39))) (f.binary (at 12 45) sop.Or (f.rtrancl (at 12 45) (word (codes "u") 12 59) (word (codes "v") 12 61) (f.binary (at 12 64) sop.Equal (f.member (at 12 64) (f.name (at 12 64) (word (codes "u") 12 64)) (word (codes "next") 12 67)) (f.name (at 12 74) (word (codes "v") 12 74))) (f.name (at 12 77) (word (codes "x") 12 77)) (f.name (at 12 79) (word (codes "y") 12 79))) (f.binary (at 12 83) sop.LessEq (f.braces (at 12 83) (f.more (f.name (at 12 84) (word (codes "x") 12 84)) (f.more (f.name (at 12 87) (word (codes "y") 12 87)) (f.more (f.null (at 12 90)) f.none)))) (f.binary (at 12 99) sop.Sub (f.binary (at 12 99) sop.Union (f.name (at 12 99) (word (codes "content") 12 99)) (f.braces (at 12 110) f.none)) (f.braces (at 12 115) (f.more (f.name (at 12 116) (word (codes "this") 12 116)) f.none)))))))) []) ∷ [])) ∷ [])

value_1 : opened (record { classes = source_0 }) 0 ≡ Some (t.of_truth (t.and (t.less (t.const (pos 3)) (t.read_number (t.free_field (own (codes "N.size") 0)) (t.free_object (own (codes "this") 0)))) (t.ex (t.and (t.negation (t.eq_object (t.bound 0) (t.free_object (own (codes "this") 0)))) (t.eq_object (t.read_object (t.free_field (own (codes "N.next") 0)) (t.bound 0)) (t.free_object (own (codes "this") 0)))))))
unfolding mapped_term mapped_int mapped_set mapped_field mapped_value mapped_formula mapped_fields halves first_named class_from def_in states_from declared all_declared labels_in all_labels_in with_all_declared declare_all equations bound_as plain_literal literal quantified field_list resolved union_of meant uses_this one_uses_this inner_statements all_statements in_method in_class in_classes found_in
value_1 = refl

value_2 : opened (record { classes = source_0 }) 1 ≡ Some (t.of_object (t.read_object (t.free_field (own (codes "N.next") 0)) (t.read_object (t.free_field (own (codes "N.next") 0)) (t.free_object (own (codes "this") 0)))))
unfolding mapped_term mapped_int mapped_set mapped_field mapped_value mapped_formula mapped_fields halves first_named class_from def_in states_from declared all_declared labels_in all_labels_in with_all_declared declare_all equations bound_as plain_literal literal quantified field_list resolved union_of meant uses_this one_uses_this inner_statements all_statements in_method in_class in_classes found_in
value_2 = refl

value_3 : opened (record { classes = source_0 }) 2 ≡ Some (t.of_set (t.compr (t.and (t.member (t.bound 0) (t.free_set (own (codes "N") 0))) (t.ex (t.and (t.and (t.less (t.const (pos 3)) (t.read_number (t.free_field (own (codes "N.size") 0)) (t.bound 0))) (t.ex (t.and (t.negation (t.eq_object (t.bound 0) (t.bound 1))) (t.eq_object (t.read_object (t.free_field (own (codes "N.next") 0)) (t.bound 0)) (t.bound 1))))) (t.eq_object (t.read_object (t.free_field (own (codes "N.next") 0)) (t.read_object (t.free_field (own (codes "N.next") 0)) (t.bound 0))) (t.bound 1)))))))
unfolding mapped_term mapped_int mapped_set mapped_field mapped_value mapped_formula mapped_fields halves first_named class_from def_in states_from declared all_declared labels_in all_labels_in with_all_declared declare_all equations bound_as plain_literal literal quantified field_list resolved union_of meant uses_this one_uses_this inner_statements all_statements in_method in_class in_classes found_in
value_3 = refl

value_4 : opened (record { classes = source_0 }) 3 ≡ Some (t.of_number (t.const (pos 0)))
unfolding mapped_term mapped_int mapped_set mapped_field mapped_value mapped_formula mapped_fields halves first_named class_from def_in states_from declared all_declared labels_in all_labels_in with_all_declared declare_all equations bound_as plain_literal literal quantified field_list resolved union_of meant uses_this one_uses_this inner_statements all_statements in_method in_class in_classes found_in
value_4 = refl

value_5 : opened (record { classes = source_0 }) 4 ≡ Some (t.of_truth (t.all (t.implies (t.member (t.bound 0) (t.free_set (own (codes "N") 0))) (t.or (t.and (t.less (t.const (pos 3)) (t.read_number (t.free_field (own (codes "N.size") 0)) (t.bound 0))) (t.ex (t.and (t.negation (t.eq_object (t.bound 0) (t.bound 1))) (t.eq_object (t.read_object (t.free_field (own (codes "N.next") 0)) (t.bound 0)) (t.bound 1))))) (t.eq_number (t.read_number (t.free_field (own (codes "N.size") 0)) (t.bound 0)) (t.neg (t.const (pos 1))))))))
unfolding mapped_term mapped_int mapped_set mapped_field mapped_value mapped_formula mapped_fields halves first_named class_from def_in states_from declared all_declared labels_in all_labels_in with_all_declared declare_all equations bound_as plain_literal literal quantified field_list resolved union_of meant uses_this one_uses_this inner_statements all_statements in_method in_class in_classes found_in
value_5 = refl

value_6 : opened (record { classes = source_0 }) 5 ≡ Some (t.of_truth (t.tree (t.more (t.free_field (own (codes "N.next") 0)) t.none)))
unfolding mapped_term mapped_int mapped_set mapped_field mapped_value mapped_formula mapped_fields halves first_named class_from def_in states_from declared all_declared labels_in all_labels_in with_all_declared declare_all equations bound_as plain_literal literal quantified field_list resolved union_of meant uses_this one_uses_this inner_statements all_statements in_method in_class in_classes found_in
value_6 = refl

value_7 : opened (record { classes = source_0 }) 6 ≡ Some (t.of_truth (t.all (t.implies (t.member (t.bound 0) (t.free_set (own (codes "N") 0))) (t.all (t.all (t.implies (t.negation (t.eq_object (t.bound 1) (t.bound 0))) (t.or (t.reach (t.more (t.free_field (own (codes "N.next") 0)) t.none) (t.bound 1) (t.bound 0)) (t.subset (t.union (t.union (t.single (t.bound 1)) (t.single (t.bound 0))) (t.single t.null)) (t.diff (t.union (t.compr (t.and (t.member (t.bound 0) (t.free_set (own (codes "N") 0))) (t.ex (t.and (t.and (t.less (t.const (pos 3)) (t.read_number (t.free_field (own (codes "N.size") 0)) (t.bound 0))) (t.ex (t.and (t.negation (t.eq_object (t.bound 0) (t.bound 1))) (t.eq_object (t.read_object (t.free_field (own (codes "N.next") 0)) (t.bound 0)) (t.bound 1))))) (t.eq_object (t.read_object (t.free_field (own (codes "N.next") 0)) (t.read_object (t.free_field (own (codes "N.next") 0)) (t.bound 0))) (t.bound 1)))))) t.empty) (t.single (t.bound 2)))))))))))
unfolding mapped_term mapped_int mapped_set mapped_field mapped_value mapped_formula mapped_fields halves first_named class_from def_in states_from declared all_declared labels_in all_labels_in with_all_declared declare_all equations bound_as plain_literal literal quantified field_list resolved union_of meant uses_this one_uses_this inner_statements all_statements in_method in_class in_classes found_in
value_7 = refl

value_8 : opened (record { classes = source_0 }) 7 ≡ Some (t.of_truth (t.and (t.negation (t.eq_object (t.free_object (own (codes "p") 0)) t.null)) (t.and (t.less (t.const (pos 3)) (t.read_number (t.free_field (own (codes "N.size") 0)) (t.free_object (own (codes "p") 0)))) (t.ex (t.and (t.negation (t.eq_object (t.bound 0) (t.free_object (own (codes "p") 0)))) (t.eq_object (t.read_object (t.free_field (own (codes "N.next") 0)) (t.bound 0)) (t.free_object (own (codes "p") 0))))))))
unfolding mapped_term mapped_int mapped_set mapped_field mapped_value mapped_formula mapped_fields halves first_named class_from def_in states_from declared all_declared labels_in all_labels_in with_all_declared declare_all equations bound_as plain_literal literal quantified field_list resolved union_of meant uses_this one_uses_this inner_statements all_statements in_method in_class in_classes found_in
value_8 = refl

value_9 : opened (record { classes = source_0 }) 8 ≡ Some (t.of_truth (t.and (t.eq_number (t.free_number (own (codes "result") 0)) (t.add (t.read_number (t.free_field (own (codes "N.size") 1)) (t.free_object (own (codes "this") 0))) (t.free_number (own (codes "k") 0)))) (t.and (t.eq_set (t.compr (t.and (t.member (t.bound 0) (t.free_set (own (codes "N") 1))) (t.ex (t.and (t.and (t.less (t.const (pos 3)) (t.read_number (t.free_field (own (codes "N.size") 1)) (t.bound 0))) (t.ex (t.and (t.negation (t.eq_object (t.bound 0) (t.bound 1))) (t.eq_object (t.read_object (t.free_field (own (codes "N.next") 1)) (t.bound 0)) (t.bound 1))))) (t.eq_object (t.read_object (t.free_field (own (codes "N.next") 1)) (t.read_object (t.free_field (own (codes "N.next") 1)) (t.bound 0))) (t.bound 1)))))) (t.compr (t.and (t.member (t.bound 0) (t.free_set (own (codes "N") 0))) (t.ex (t.and (t.and (t.less (t.const (pos 3)) (t.read_number (t.free_field (own (codes "N.size") 0)) (t.bound 0))) (t.ex (t.and (t.negation (t.eq_object (t.bound 0) (t.bound 1))) (t.eq_object (t.read_object (t.free_field (own (codes "N.next") 0)) (t.bound 0)) (t.bound 1))))) (t.eq_object (t.read_object (t.free_field (own (codes "N.next") 0)) (t.read_object (t.free_field (own (codes "N.next") 0)) (t.bound 0))) (t.bound 1))))))) (t.and (t.all (t.or (t.eq_object (t.read_object (t.free_field (own (codes "N.next") 0)) (t.read_object (t.free_field (own (codes "N.next") 0)) (t.bound 0))) (t.read_object (t.free_field (own (codes "N.next") 1)) (t.read_object (t.free_field (own (codes "N.next") 1)) (t.bound 0)))) (t.member (t.bound 0) (t.free_set (own (codes "alloc") 0))))) (t.and (t.less_equal (t.card (t.compr (t.and (t.member (t.bound 0) (t.free_set (own (codes "N") 0))) (t.ex (t.and (t.and (t.less (t.const (pos 3)) (t.read_number (t.free_field (own (codes "N.size") 0)) (t.bound 0))) (t.ex (t.and (t.negation (t.eq_object (t.bound 0) (t.bound 1))) (t.eq_object (t.read_object (t.free_field (own (codes "N.next") 0)) (t.bound 0)) (t.bound 1))))) (t.eq_object (t.read_object (t.free_field (own (codes "N.next") 0)) (t.read_object (t.free_field (own (codes "N.next") 0)) (t.bound 0))) (t.bound 1))))))) (t.scale (pos 2) (t.read_number (t.free_field (own (codes "N.size") 0)) (t.free_object (own (codes "this") 0))))) (t.divides (pos 3) (t.free_number (own (codes "N.total") 0))))))))
unfolding mapped_term mapped_int mapped_set mapped_field mapped_value mapped_formula mapped_fields halves first_named class_from def_in states_from declared all_declared labels_in all_labels_in with_all_declared declare_all equations bound_as plain_literal literal quantified field_list resolved union_of meant uses_this one_uses_this inner_statements all_statements in_method in_class in_classes found_in
value_9 = refl

value_10 : opened (record { classes = source_0 }) 9 ≡ Some (t.of_truth (t.and (t.less_equal (t.free_number (own (codes "j") 0)) (t.free_number (own (codes "k") 0))) (t.and (t.less (t.const (pos 3)) (t.read_number (t.free_field (own (codes "N.size") 1)) (t.free_object (own (codes "this") 0)))) (t.ex (t.and (t.negation (t.eq_object (t.bound 0) (t.free_object (own (codes "this") 0)))) (t.eq_object (t.read_object (t.free_field (own (codes "N.next") 1)) (t.bound 0)) (t.free_object (own (codes "this") 0))))))))
unfolding mapped_term mapped_int mapped_set mapped_field mapped_value mapped_formula mapped_fields halves first_named class_from def_in states_from declared all_declared labels_in all_labels_in with_all_declared declare_all equations bound_as plain_literal literal quantified field_list resolved union_of meant uses_this one_uses_this inner_statements all_statements in_method in_class in_classes found_in
value_10 = refl

value_11 : opened (record { classes = source_0 }) 10 ≡ Some (t.of_truth (t.ex (t.and (t.eq_object (t.bound 0) (t.free_object (own (codes "p") 0))) (t.and (t.less (t.const (pos 3)) (t.read_number (t.free_field (own (codes "N.size") 0)) (t.bound 0))) (t.ex (t.and (t.negation (t.eq_object (t.bound 0) (t.bound 1))) (t.eq_object (t.read_object (t.free_field (own (codes "N.next") 0)) (t.bound 0)) (t.bound 1))))))))
unfolding mapped_term mapped_int mapped_set mapped_field mapped_value mapped_formula mapped_fields halves first_named class_from def_in states_from declared all_declared labels_in all_labels_in with_all_declared declare_all equations bound_as plain_literal literal quantified field_list resolved union_of meant uses_this one_uses_this inner_statements all_statements in_method in_class in_classes found_in
value_11 = refl

value_12 : opened (record { classes = source_0 }) 11 ≡ Some (t.of_number (t.free_number (own (codes "N.g") 0)))
unfolding mapped_term mapped_int mapped_set mapped_field mapped_value mapped_formula mapped_fields halves first_named class_from def_in states_from declared all_declared labels_in all_labels_in with_all_declared declare_all equations bound_as plain_literal literal quantified field_list resolved union_of meant uses_this one_uses_this inner_statements all_statements in_method in_class in_classes found_in
value_12 = refl

value_13 : opened (record { classes = source_0 }) 12 ≡ Some (t.of_number (t.add (t.free_number (own (codes "N.g") 0)) (t.scale (pos 2) (t.read_number (t.free_field (own (codes "N.size") 0)) (t.free_object (own (codes "this") 0))))))
unfolding mapped_term mapped_int mapped_set mapped_field mapped_value mapped_formula mapped_fields halves first_named class_from def_in states_from declared all_declared labels_in all_labels_in with_all_declared declare_all equations bound_as plain_literal literal quantified field_list resolved union_of meant uses_this one_uses_this inner_statements all_statements in_method in_class in_classes found_in
value_13 = refl

-- class A { private int n; private static A top; /*: public ghost specvar g :: bool; specvar d :: bool; vardefs "d == n = 0 & e"; specvar e :: bool; vardefs "e == next ~= null"; */ private A next; public void m(A p) /*: modifies d, g */ { n = 1; p.next = new A(); //: g := "True"; k(); } private static void k() { top = null; Object o = new Object(); } public static void z() { while (top != null) { A q; q.m(q); } } } class B { static int s; }
abbrev source_1 : List ClassPart
source_1 = ((class (word (codes "A") 1 7) ((field (word (codes "n") 2 15) j.Int false None) ∷ (field (word (codes "top") 3 20) (j.Class (word (codes "A") 3 18)) true None) ∷ (field (word (codes "next") 5 13) (j.Class (word (codes "A") 5 11)) false None) ∷ []) ((method (word (codes "m") 6 15) true false j.Void ((param (word (codes "p") 6 19) (j.Class (word (codes "A") 6 17))) ∷ []) None ((word (codes "d") 6 35) ∷ (word (codes "g") 6 38) ∷ []) None (s.more (s.assign (at 6 45) (e.name (at 6 45) (word (codes "n") 6 45)) (s.value (e.number (at 6 49) (pos 1)))) (s.more (s.assign (at 6 52) (e.member (at 6 52) (e.name (at 6 52) (word (codes "p") 6 52)) (word (codes "next") 6 54)) (s.new (word (codes "A") 6 65))) (s.more (s.ghost (at 6 74) (spec (at 6 74) 2 (f.name (at 6 74) (word (codes "g") 6 74))) (spec (at 6 79) 3 (f.yes (at 6 80)))) (s.more (s.call (at 7 5) (call None (word (codes "k") 7 5) [])) s.none)))) (at 7 10)) ∷ (method (word (codes "k") 8 23) false true j.Void [] None [] None (s.more (s.assign (at 8 29) (e.name (at 8 29) (word (codes "top") 8 29)) (s.value (e.null (at 8 35)))) (s.more (s.local (at 8 41) (param (word (codes "o") 8 48) (j.Class (word (codes "Object") 8 41))) (Some (s.new (word (codes "Object") 8 56)))) s.none)) (at 8 66)) ∷ (method (word (codes "z") 9 22) true true j.Void [] None [] None (s.more (s.loop (at 9 28) [] (e.binary (at 9 35) op.NotEqual (e.name (at 9 35) (word (codes "top") 9 35)) (e.null (at 9 42))) (s.block (at 9 48) (s.more (s.local (at 9 50) (param (word (codes "q") 9 52) (j.Class (word (codes "A") 9 50))) None) (s.more (s.call (at 9 55) (call (Some (e.name (at 9 55) (word (codes "q") 9 55))) (word (codes "m") 9 57) ((e.name (at 9 59) (word (codes "q") 9 59)) ∷ []))) s.none)))) s.none) (at 9 65)) ∷ []) ((var (word (codes "g") 4 28) k.Bool false true None) ∷ (var (word (codes "d") 4 47) k.Bool false false None) ∷ (var (word (codes "e") 4 92) k.Bool false false None) ∷ []) ((def (word (codes "d") 4 67) (spec (at 4 66) 0 (f.binary (at 4 72) sop.And (f.binary (at 4 72) sop.Equal (f.name (at 4 72) (word (codes "n") 4 72)) (f.number (at 4 76) (pos 0))) (f.name (at 4 80) (word (codes "e") 4 80))))) ∷ (def (word (codes "e") 4 112) (spec (at 4 111) 1 (f.binary (at 4 117) sop.NotEqual (f.name (at 4 117) (word (codes "next") 4 117)) (f.null (at 4 125))))) ∷ []) []) ∷ (class (word (codes "B") 11 7) ((field (word (codes "s") 11 22) j.Int true None) ∷ []) [] [] [] []) ∷ [])

value_14 : opened (record { classes = source_1 }) 0 ≡ Some (t.of_truth (t.and (t.eq_number (t.read_number (t.free_field (own (codes "A.n") 0)) (t.free_object (own (codes "this") 0))) (t.const (pos 0))) (t.negation (t.eq_object (t.read_object (t.free_field (own (codes "A.next") 0)) (t.free_object (own (codes "this") 0))) t.null))))
unfolding mapped_term mapped_int mapped_set mapped_field mapped_value mapped_formula mapped_fields halves first_named class_from def_in states_from declared all_declared labels_in all_labels_in with_all_declared declare_all equations bound_as plain_literal literal quantified field_list resolved union_of meant uses_this one_uses_this inner_statements all_statements in_method in_class in_classes found_in
value_14 = refl

value_15 : opened (record { classes = source_1 }) 1 ≡ Some (t.of_truth (t.negation (t.eq_object (t.read_object (t.free_field (own (codes "A.next") 0)) (t.free_object (own (codes "this") 0))) t.null)))
unfolding mapped_term mapped_int mapped_set mapped_field mapped_value mapped_formula mapped_fields halves first_named class_from def_in states_from declared all_declared labels_in all_labels_in with_all_declared declare_all equations bound_as plain_literal literal quantified field_list resolved union_of meant uses_this one_uses_this inner_statements all_statements in_method in_class in_classes found_in
value_15 = refl

value_16 : opened (record { classes = source_1 }) 2 ≡ Some (t.of_truth (t.read_truth (t.free_field (own (codes "A.g") 0)) (t.free_object (own (codes "this") 0))))
unfolding mapped_term mapped_int mapped_set mapped_field mapped_value mapped_formula mapped_fields halves first_named class_from def_in states_from declared all_declared labels_in all_labels_in with_all_declared declare_all equations bound_as plain_literal literal quantified field_list resolved union_of meant uses_this one_uses_this inner_statements all_statements in_method in_class in_classes found_in
value_16 = refl

value_17 : opened (record { classes = source_1 }) 3 ≡ Some (t.of_truth t.true_formula)
unfolding mapped_term mapped_int mapped_set mapped_field mapped_value mapped_formula mapped_fields halves first_named class_from def_in states_from declared all_declared labels_in all_labels_in with_all_declared declare_all equations bound_as plain_literal literal quantified field_list resolved union_of meant uses_this one_uses_this inner_statements all_statements in_method in_class in_classes found_in
value_17 = refl
