-- What the readers of members and classes answer, seen as trees.
use Rattle.std.specs.Prelude.{ℕ, List, [], ◌∷◌, ◌++◌, map, Option, option_map, Some, Result}
use Rattle.std.specs.List.{flat_map}
use Rattle.std.specs.declared.alloc.Global.{Global}
use Rattle.std.specs.declared.vec.Vec.{Vec}
use Rattle.jh_ast.specs.declared.expr.Expr.{Expr}
use Rattle.jh_ast.specs.declared.program.Class.{Class}
use Rattle.jh_ast.specs.declared.program.Field.{Field}
use Rattle.jh_ast.specs.declared.program.Method.{Method}
use Rattle.jh_ast.specs.declared.stmt.Stmt.{Stmt}
use Rattle.jh_ast.specs.declared.spec.Spec.{Spec}
use Rattle.jh_ast.specs.declared.word.Param.{Param}
use Rattle.jh_ast.specs.declared.word.Word.{Word}
use Rattle.jh_ast.specs.Bare.{expr_tree, spec_part, labelled_part, stmt_trees, field_part, var_part, def_part, method_part, class_part}
use Rattle.jh_ast.specs.Exprs.{ExprTree}
use Rattle.jh_ast.specs.Forms.{SpecPart}
use Rattle.jh_ast.specs.Programs.{FieldPart, MethodPart, ClassPart}
use Rattle.jh_ast.specs.Stmts.{StmtTrees}
use Rattle.jh_operators.specs.declared.lookahead.error.ReadError.{ReadError}
use Rattle.jh_operators.specs.lookahead.Answers.{Gives}
use Rattle.jh_operators.specs.lookahead.Choices.{and_then}
use Rattle.jh_operators.specs.lookahead.Lists.{Found}
use Rattle.jh_spec.specs.parser.Parts.{ItemTree}
use Rattle.jh_lex.specs.declared.lexer.symbol.Symbol.{Symbol}
use Rattle.jh_parse.specs.declared.programs.draft.Draft.{Draft}
use Rattle.jh_parse.specs.programs.Members.{MemberTree, fields_of, methods_of, items_of, variables_of, definitions_of, invariants_of}

-- a thing and the place after it
abbrev pub GivesInit : Option (Option ExprTree × ℕ) → Result (Option Expr × ℕ) ReadError → Type 0
GivesInit wanted result = Gives (λ r. (option_map expr_tree r.0, r.1)) wanted result

abbrev pub GivesField : Option (FieldPart × ℕ) → Result (Field × ℕ) ReadError → Type 0
GivesField wanted result = Gives (λ r. (field_part r.0, r.1)) wanted result

abbrev pub GivesFields : Option (List FieldPart × ℕ) → Result (Vec Field Global × ℕ) ReadError → Type 0
GivesFields wanted result = Gives (λ r. (map field_part r.0.items, r.1)) wanted result

abbrev pub GivesParameters : Option (List Param × ℕ) → Result (Vec Param Global × ℕ) ReadError → Type 0
GivesParameters wanted result = Gives (λ r. (r.0.items, r.1)) wanted result

abbrev pub GivesSignature : Option ((Word × List Param) × ℕ) → Result ((Word × Vec Param Global) × ℕ) ReadError → Type 0
GivesSignature wanted result = Gives (λ r. ((r.0.0, r.0.1.items), r.1)) wanted result

-- a thing, the place after it and the number after its formulas
abbrev pub GivesObligations : Option (Found ((Option SpecPart × List Word × Option SpecPart) × StmtTrees)) → Result (((Option Spec × Vec Word Global × Option Spec) × Vec Stmt Global) × ℕ × ℕ) ReadError → Type 0
GivesObligations wanted result = Gives (λ r. (((option_map spec_part r.0.0.0, r.0.0.1.items, option_map spec_part r.0.0.2), stmt_trees r.0.1.items), r.1, r.2)) wanted result

abbrev pub GivesMethod : Option (Found MethodPart) → Result (Method × ℕ × ℕ) ReadError → Type 0
GivesMethod wanted result = Gives (λ r. (method_part r.0, r.1, r.2)) wanted result

abbrev pub GivesClass : Option (Found ClassPart) → Result (Class × ℕ × ℕ) ReadError → Type 0
GivesClass wanted result = Gives (λ r. (class_part r.0, r.1, r.2)) wanted result

-- the class as far as it is read
abbrev pub draft_tree : Draft → ClassPart
draft_tree d = record {
  name = d.name;
  fields = map field_part d.fields.items;
  methods = map method_part d.methods.items;
  vars = map var_part d.vars.items;
  defs = map def_part d.defs.items;
  invariants = map labelled_part d.invariants.items;
}

-- a class with what a specification declares, after what it has
abbrev pub with_items : ClassPart → List ItemTree → ClassPart
with_items c xs = record {
  name = c.name;
  fields = c.fields;
  methods = c.methods;
  vars = c.vars ++ flat_map variables_of xs;
  defs = c.defs ++ flat_map definitions_of xs;
  invariants = c.invariants ++ flat_map invariants_of xs;
}

-- a class with more members, after what it has
abbrev pub with_members : ClassPart → List MemberTree → ClassPart
with_members c xs = record {
  name = c.name;
  fields = c.fields ++ flat_map fields_of xs;
  methods = c.methods ++ flat_map methods_of xs;
  vars = c.vars ++ flat_map variables_of (flat_map items_of xs);
  defs = c.defs ++ flat_map definitions_of (flat_map items_of xs);
  invariants = c.invariants ++ flat_map invariants_of (flat_map items_of xs);
}

-- a class with the member that is read
abbrev pub after_member : ClassPart → Option (Found MemberTree) → Option (Found ClassPart)
after_member c read = and_then {B = Found ClassPart} read (λ r. Some (with_members c (r.0 ∷ []), r.1, r.2))

-- the answer is the place after a member and the number after its formulas; the class then has the member
abbrev pub GivesMember : ClassPart → ClassPart → Option (Found MemberTree) → Result (ℕ × ℕ) ReadError → Type 0
GivesMember old new wanted result = Gives (λ r. (new, r.0, r.1)) (after_member old wanted) result

-- the same of all members up to a closing brace
abbrev pub after_members : ClassPart → Option (Found (List MemberTree)) → Option (Found ClassPart)
after_members c read = and_then {B = Found ClassPart} read (λ r. Some (with_members c r.0, r.1, r.2))

abbrev pub GivesMembers : ClassPart → ClassPart → Option (Found (List MemberTree)) → Result (ℕ × ℕ) ReadError → Type 0
GivesMembers old new wanted result = Gives (λ r. (new, r.0, r.1)) (after_members old wanted) result

-- the answer is the modifiers before a class and the place after one more of what may stand there, where more does
abbrev pub GivesHead : List Symbol → Option (Option (List Symbol × ℕ)) → Result (Option ℕ) ReadError → Type 0
GivesHead seen wanted result = Gives (λ (next : Option ℕ). option_map (λ j. (seen, j)) next) wanted result

abbrev pub GivesClasses : Option (Found (List ClassPart)) → Result (Vec Class Global × ℕ × ℕ) ReadError → Type 0
GivesClasses wanted result = Gives (λ r. (map class_part r.0.items, r.1, r.2)) wanted result
