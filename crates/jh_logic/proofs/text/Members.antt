-- Members, classes and programs of a source: their parts, the numbers of their formulas, and so the shape of a source.
use Rattle.std.proofs.Common.{◌≡◌, ◌≢◌, refl, sym, ap, subst, ◌∙◌, ℕ, ◌+◌, Bool, true, ◌&&◌, List, [], ◌∷◌, ◌++◌, Option}
use Rattle.std.specs.Prelude.{◌==◌}
use Rattle.std.specs.List.{Contains, flat_map, list_all}
use Rattle.std.proofs.lemmas.Grind.{flat_map-append}
use Rattle.jh_lex.specs.lexer.Modes.{mode_at}
use Rattle.jh_lex.specs.lexer.Shapes.{HasShape}
use Rattle.jh_lex.specs.declared.lexer.mode.Mode.TheVariants as mode
use Rattle.jh_lex.specs.declared.lexer.symbol.Symbol.{Symbol}
use Rattle.jh_lex.specs.declared.lexer.symbol.Symbol.TheVariants as symbol
use Rattle.jh_lex.specs.declared.lexer.token.Token.{Token}
use Rattle.jh_ast.specs.declared.word.Word.{Word}
use Rattle.jh_ast.specs.declared.word.JType.{JType}
use Rattle.jh_ast.specs.declared.word.Param.{Param}
use Rattle.jh_ast.specs.Exprs.{ExprTree}
use Rattle.jh_ast.specs.Forms.{SpecPart, LabelledPart}
use Rattle.jh_ast.specs.Programs.{FieldPart, VarPart, DefPart, MethodPart, ClassPart}
use Rattle.jh_rules.specs.Words.{text_of}
use Rattle.jh_rules.specs.Shape.{Parts, ◌and◌, nothing, of_words, of_type, of_declared, of_param, type_words, expr_parts, spec_parts, labelled_parts, some_parts, all_parts, stmts_parts, field_parts, method_parts, var_parts, def_parts, class_parts, program_parts, may_be_declared, is_not_negative, is_not_void, may_be_assigned}
use Rattle.jh_operators.specs.lookahead.Lists.{Many, none, more}
use Rattle.jh_spec.specs.parser.Parts.{ItemTree, Item}
use Rattle.jh_spec.specs.parser.Parts as part
use Rattle.jh_parse.specs.programs.Literals.{Literal}
use Rattle.jh_parse.specs.programs.Literals as literal
use Rattle.jh_parse.specs.programs.Separated.{Separated}
use Rattle.jh_parse.specs.programs.Separated as separated
use Rattle.jh_parse.specs.programs.Members.{One, Fields, Result, Parameter, Parameters, Promised, Method, Member, MemberTree, Heads, Class, Spells, of_fields, of_method, of_items, fields_of, methods_of, items_of, variables_of, definitions_of, invariants_of, class_of}
use Rattle.jh_parse.specs.programs.Members as grammar
use Rattle.jh_logic.proofs.source.Lists.{has-first, has-later}
use Rattle.jh_logic.specs.text.Laws.{SpelledHasShape}
use Rattle.jh_logic.proofs.text.Tokens.{code-plain, symbol-mode, word-mode, word-fine, number-mode}
use Rattle.jh_logic.proofs.text.Goodness.{times, times-append, once-same, different, good-and, Plain, plain-none, plain-and, plain-words, plain-literal, plain-declared, plain-each, plain-no, Fine, fine-plain, fine-and, then-fine}
use Rattle.jh_logic.proofs.text.Formulas.{AreFirst, none-first}
use Rattle.jh_logic.proofs.text.Expressions.{two}
use Rattle.jh_logic.proofs.text.Specifications as specification
use Rattle.jh_logic.proofs.text.Specifications.{Same, Promises, item_parts, allowed-mode, modifiers-mode}
use Rattle.jh_logic.proofs.text.Statements as statement
use Rattle.jh_logic.proofs.text.Statements.{Types}
use Rattle.jh_logic.proofs.text.ByKind.{Kinds, count, kinds-none, kinds-and, only-fields, only-method, only-var, only-def, only-invariant}

-- the kinds of an item
item-kinds : {n m : ℕ} (x : ItemTree) → Fine n m (item_parts x) → Kinds n m [] [] (variables_of x) (definitions_of x) (invariants_of x)
item-kinds (part.variable v) f = only-var v f
item-kinds (part.definition d) f = only-def d f
item-kinds (part.invariant l) f = only-invariant l f

-- the kinds of a member, and of several
abbrev MemberKinds : ℕ → ℕ → MemberTree → Type 0
MemberKinds n m x = Kinds n m (fields_of x) (methods_of x) (flat_map variables_of (items_of x)) (flat_map definitions_of (items_of x)) (flat_map invariants_of (items_of x))

abbrev MembersKinds : ℕ → ℕ → List MemberTree → Type 0
MembersKinds n m xs = Kinds n m (flat_map fields_of xs) (flat_map methods_of xs) (flat_map variables_of (flat_map items_of xs)) (flat_map definitions_of (flat_map items_of xs)) (flat_map invariants_of (flat_map items_of xs))

more-kinds : {n k m : ℕ} (x : MemberTree) (xs : List MemberTree) → MemberKinds n k x → MembersKinds k m xs → MembersKinds n m (x ∷ xs)
more-kinds {n = n} {m = m} x xs a b =
    subst (λ (vs : List VarPart). Kinds n m (fields_of x ++ flat_map fields_of xs) (methods_of x ++ flat_map methods_of xs) vs (flat_map definitions_of (items_of x ++ flat_map items_of xs)) (flat_map invariants_of (items_of x ++ flat_map items_of xs)))
    (sym (flat_map-append variables_of (items_of x) (flat_map items_of xs)))
    (subst (λ (ds : List DefPart). Kinds n m (fields_of x ++ flat_map fields_of xs) (methods_of x ++ flat_map methods_of xs) (flat_map variables_of (items_of x) ++ flat_map variables_of (flat_map items_of xs)) ds (flat_map invariants_of (items_of x ++ flat_map items_of xs)))
    (sym (flat_map-append definitions_of (items_of x) (flat_map items_of xs)))
    (subst (λ (is : List LabelledPart). Kinds n m (fields_of x ++ flat_map fields_of xs) (methods_of x ++ flat_map methods_of xs) (flat_map variables_of (items_of x) ++ flat_map variables_of (flat_map items_of xs)) (flat_map definitions_of (items_of x) ++ flat_map definitions_of (flat_map items_of xs)) is)
    (sym (flat_map-append invariants_of (items_of x) (flat_map items_of xs)))
    (kinds-and a b)))

-- the parts of a class
class-fine : {n m : ℕ} (w : Word) (xs : List MemberTree) → Plain (of_declared w) → MembersKinds n m xs → Fine n m (class_parts (class_of w xs))
class-fine w xs p k =
    let c : ClassPart = class_of w xs in
    record {
      good = good-and (of_declared w) _ p.good (good-and (all_parts field_parts c.fields) _ k.fields (good-and (all_parts method_parts c.methods) _ k.methods
          (good-and (all_parts var_parts c.vars) _ k.vars (good-and (all_parts def_parts c.defs) (all_parts labelled_parts c.invariants) k.defs k.invariants))));
      once = once-same
          (λ j. count j field_parts c.fields + (count j method_parts c.methods + (count j var_parts c.vars + (count j def_parts c.defs + count j labelled_parts c.invariants))))
          (λ j. times j (class_parts c).numbers)
          (λ j. sym (
          times-append j (all_parts field_parts c.fields).numbers ((all_parts method_parts c.methods).numbers ++ ((all_parts var_parts c.vars).numbers ++ ((all_parts def_parts c.defs).numbers ++ (all_parts labelled_parts c.invariants).numbers)))
          ∙ ap (λ n. count j field_parts c.fields + n) (times-append j (all_parts method_parts c.methods).numbers ((all_parts var_parts c.vars).numbers ++ ((all_parts def_parts c.defs).numbers ++ (all_parts labelled_parts c.invariants).numbers))
          ∙ ap (λ n. count j method_parts c.methods + n) (times-append j (all_parts var_parts c.vars).numbers ((all_parts def_parts c.defs).numbers ++ (all_parts labelled_parts c.invariants).numbers)
          ∙ ap (λ n. count j var_parts c.vars + n) (times-append j (all_parts def_parts c.defs).numbers (all_parts labelled_parts c.invariants).numbers)))))
          k.once;
    }

module _ (ts : List Token) (fits : HasShape ts) where
  abbrev At : ℕ → Type 0
  At i = mode_at ts i ≢ mode.Formula

  literal-fine : {i : ℕ} {a : ExprTree} → Literal ts i a → Same ts i (i + 1) × Plain (expr_parts a)
  unfolding expr_parts
  literal-fine {i = i} (literal.null h) = (symbol-mode ts i symbol.Null h, plain-none)
  literal-fine {i = i} (literal.yes h) = (symbol-mode ts i symbol.True h, plain-none)
  literal-fine {i = i} (literal.no h) = (symbol-mode ts i symbol.False h, plain-none)
  literal-fine {i = i} (literal.number {z = z} h) = let x = number-mode ts fits i z h in (x.0, plain-literal z x.1)

  one : {t : JType} {fixed : Bool} {i j : ℕ} {x : FieldPart} → One ts t fixed i x j → At i → Types ts fits t → Same ts i j × Plain (field_parts x)
  one {t = t} {i = i} (grammar.plain {w = w} h) plain type =
      let x = statement.declares ts fits i i t w plain (refl, type) h in
      (x.0, subst Plain (statement.grouped (of_type t) (of_declared w) nothing) (plain-and (of_param (record { name = w; jtype = t })) nothing x.1 plain-none))
  one {t = t} {i = i} (grammar.initial {w = w} {e = e} h q l) plain type =
      let x = statement.declares ts fits i i t w plain (refl, type) h in
      let y = literal-fine l in
      (y.0 ∙ symbol-mode ts (i + 1) symbol.Equal q ∙ x.0, subst Plain (statement.grouped (of_type t) (of_declared w) (expr_parts e)) (plain-and (of_param (record { name = w; jtype = t })) (expr_parts e) x.1 y.1))

  -- things with commas between them
  commas : {A : Type 0} {One : ℕ → A → ℕ → Type 0} (parts : A → Parts) → ((i j : ℕ) (x : A) → One i x j → At i → Same ts i j × Plain (parts x)) → {i j : ℕ} {xs : List A} → Separated ts One i xs j → At i → Same ts i j × Plain (all_parts parts xs)
  commas parts each {i = i} (separated.last {j = j} {x = x} p) plain = let a = each i j x p plain in (a.0, plain-each parts x [] a.1 (plain-no parts))
  commas parts each {i = i} (separated.further {j = j} {x = x} {xs = xs} p c q) plain =
      let a = each i j x p plain in
      let before = symbol-mode ts j symbol.Comma c ∙ a.0 in
      let rest = commas parts each q (λ e. plain (sym before ∙ e)) in
      (rest.0 ∙ before, plain-each parts x xs a.1 rest.1)

  fields : {i j : ℕ} {fs : List FieldPart} → Fields ts i fs j → At i → Same ts i j × Plain (all_parts field_parts fs)
  fields (grammar.fields {a = a} {j = j} ms t p s) plain =
      let first = modifiers-mode ts ms in
      let x = statement.typed ts fits t in
      let y = commas field_parts (λ i j f q h. one q h x.1) p (λ e. plain (sym (x.0 ∙ first) ∙ e)) in
      (symbol-mode ts j symbol.Semicolon s ∙ y.0 ∙ x.0 ∙ first, y.1)

  result : {i j : ℕ} {t : JType} → Result ts i t j → Same ts i j × AreFirst (type_words t)
  result {i = i} (grammar.nothing h) = (symbol-mode ts i symbol.Void h, none-first)
  result (grammar.something p) = let x = statement.typed ts fits p in (x.0, x.1.1)

  parameter : {i j : ℕ} {d : Param} → Parameter ts i d j → At i → Same ts i j × Plain (of_param d)
  parameter {i = i} (grammar.parameter {j = j} {t = t} {w = w} p h) plain = statement.declares ts fits i j t w plain (statement.typed ts fits p) h

  parameters : {i j : ℕ} {ds : List Param} → Parameters ts i ds j → At i → Same ts i j × Plain (all_parts of_param ds)
  parameters {i = i} (grammar.no_parameters o c) plain = (ap (mode_at ts) (two i) ∙ symbol-mode ts (i + 1) symbol.RightParenthesis c ∙ symbol-mode ts i symbol.LeftParenthesis o, plain-no of_param)
  parameters {i = i} (grammar.some_parameters {j = j} o p c) plain =
      let first = symbol-mode ts i symbol.LeftParenthesis o in
      let x = commas of_param (λ i j d q h. parameter q h) p (λ e. plain (sym first ∙ e)) in
      (symbol-mode ts j symbol.RightParenthesis c ∙ x.0 ∙ first, x.1)

  promised : {n i j m : ℕ} {pre post : Option SpecPart} {ws : List Word} → Promised ts n i pre ws post j m → Same ts i j × Promises ts fits n m pre ws post
  promised {n = n} grammar.no_contract = (refl, record { between = n; before = fine-plain n nothing plain-none; names = plain-words [] none-first; after = fine-plain n nothing plain-none })
  promised {i = i} (grammar.a_contract {j = j} o p) = ((statement.spoken ts fits i j o p.1).0, specification.contract ts fits p.0)

  method : {n i j m : ℕ} {x : MethodPart} → Method ts n i x j m → At i → Same ts i j × Fine n m (method_parts x)
  method {n = n} {i = i} (grammar.method {a = a} {b = b} {c = c} {d = d} {j = j} {k = k} {t = t} {w = w} {ps = ps} {pre = pre} {post = post} {ws = ws} {ss = ss} ms r h p q inner) plain =
      let first = modifiers-mode ts ms in
      let x = result r in
      let at-name = x.0 ∙ first in
      let y = word-mode ts fits b w h in
      let z = parameters p (λ e. plain (sym (y.0 ∙ at-name) ∙ e)) in
      let u = promised q in
      let before = u.0 ∙ z.0 ∙ y.0 ∙ at-name in
      let v = statement.body ts fits inner (λ e. plain (sym before ∙ e)) in (
        v.0 ∙ before,
        then-fine (of_words (type_words t)) _ (plain-words (type_words t) x.1)
            (then-fine (of_declared w) _ (plain-declared w y.1 (word-fine ts fits b w h (λ e. plain (sym at-name ∙ e))))
            (then-fine (all_parts of_param ps) _ z.1
            (fine-and (some_parts spec_parts pre) (of_words ws and some_parts spec_parts post and stmts_parts ss) u.1.before
            (then-fine (of_words ws) (some_parts spec_parts post and stmts_parts ss) u.1.names
            (fine-and (some_parts spec_parts post) (stmts_parts ss) u.1.after v.1))))),
      )

  items : {n i j m : ℕ} {xs : List ItemTree} → Many (Item ts) n i xs j m → At i → Same ts i j × Kinds n m [] [] (flat_map variables_of xs) (flat_map definitions_of xs) (flat_map invariants_of xs)
  items {n = n} none plain = (refl, kinds-none n)
  items (more {x = x} {xs = xs} p q) plain =
      let a = specification.item ts fits p plain in
      let rest = items q (λ e. plain (sym a.0 ∙ e)) in
      (rest.0 ∙ a.0, kinds-and (item-kinds x a.1) rest.1)

  member : {n i j m : ℕ} {x : MemberTree} → Member ts n i x j m → At i → Same ts i j × MemberKinds n m x
  member {n = n} (grammar.a_field {fs = fs} p) plain = let x = fields p plain in (x.0, only-fields fs (fine-plain n (all_parts field_parts fs) x.1))
  member (grammar.a_method {x = x} p) plain = let y = method p plain in (y.0, only-method x y.1)
  member {i = i} (grammar.some_items {j = j} o p) plain = let x = statement.spoken ts fits i j o p.1 in (x.0, (items p.0 x.1).1)

  members : {n i j m : ℕ} {xs : List MemberTree} → Many (Member ts) n i xs j m → At i → Same ts i j × MembersKinds n m xs
  members {n = n} none plain = (refl, kinds-none n)
  members (more {x = x} {xs = xs} p q) plain =
      let a = member p plain in
      let rest = members q (λ e. plain (sym a.0 ∙ e)) in
      (rest.0 ∙ a.0, more-kinds x xs a.1 rest.1)

  heads : {seen : List Symbol} {i j : ℕ} → Heads ts seen i j → Same ts i j
  heads grammar.no_head = refl
  heads {i = i} (grammar.a_modifier {s = s} h n p) = heads p ∙ allowed-mode ts grammar.of_classes i s h
  heads {i = i} (grammar.a_claim {j = j} o c p) = heads p ∙ (statement.spoken ts fits i j o c.3).0

  class : {n i j m : ℕ} {c : ClassPart} → Class ts n i c j m → At i → Same ts i j × Fine n m (class_parts c)
  class {i = i} (grammar.class {a = a} {j = j} {w = w} {xs = xs} h s g o p c) plain =
      let at-name = symbol-mode ts a symbol.Class s ∙ heads h in
      let x = word-mode ts fits (a + 1) w g in
      let inside = symbol-mode ts (a + 1 + 1) symbol.LeftBrace o ∙ x.0 ∙ at-name in
      let y = members p (λ e. plain (sym inside ∙ e)) in
      (symbol-mode ts j symbol.RightBrace c ∙ y.0 ∙ inside, class-fine w xs (plain-declared w x.1 (word-fine ts fits (a + 1) w g (λ e. plain (sym at-name ∙ e)))) y.1)

-- what is so of each of a list is tested of all
all-of : {A : Type 0} (test : A → Bool) (xs : List A) → ((x : A) → Contains xs x → test x ≡ true) → list_all test xs ≡ true
all-of test [] h = refl
all-of test (x ∷ xs) h = λ i. h x (has-first x xs) i && all-of test xs (λ y k. h y (has-later x xs y k)) i

pub has-shape : SpelledHasShape
has-shape ts p fits (grammar.program {m = m} {cs = cs} q end long) =
    let all = (specification.many ts class_parts (λ n i j m x c plain. class ts fits c plain) q code-plain).1 in
    record {
      turns = all-of (λ (w : Word). w.text.turn == 0) (program_parts p).words (λ w i. ap (λ n. n == 0) (all.good.words w i));
      numbers = different (program_parts p).numbers all.once.once;
      literals = all-of is_not_negative (program_parts p).literals all.good.literals;
      declared = all-of (λ w. may_be_declared (text_of w)) (program_parts p).declared all.good.declared;
      types = all-of is_not_void (program_parts p).types all.good.types;
      targets = all-of may_be_assigned (program_parts p).targets all.good.targets;
    }
