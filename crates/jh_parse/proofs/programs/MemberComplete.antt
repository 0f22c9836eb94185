-- What is spelled as a program is read.
use Rattle.std.proofs.Common.{◌≡◌, ℕ, zero, suc, ◌+◌, ◌<◌, ◌≤◌, Bool, true, false, List, [], ◌∷◌, length, refl, sym, ◌∙◌, arith}
use Rattle.std.proofs.lemmas.Bool.{eqb-false, or_right}
use Rattle.std.specs.Prelude.{Option, None, Some, ◌==◌, ◌||◌}
use Rattle.std.specs.List.{list_any}
use Rattle.jh_lex.specs.declared.lexer.symbol.Symbol.{Symbol}
use Rattle.jh_lex.specs.declared.lexer.symbol.Symbol.TheVariants as symbol
use Rattle.jh_lex.specs.declared.lexer.token.Token.{Token}
use Rattle.jh_ast.specs.declared.word.Word.{Word}
use Rattle.jh_ast.specs.declared.word.JType.{JType}
use Rattle.jh_ast.specs.declared.word.JType.TheVariants as jtype
use Rattle.jh_ast.specs.declared.word.Param.{Param}
use Rattle.jh_ast.specs.Stmts.{StmtTrees}
use Rattle.jh_ast.specs.Forms.{SpecPart}
use Rattle.jh_ast.specs.Programs.{FieldPart, MethodPart, ClassPart, ProgramTree}
use Rattle.jh_operators.specs.lookahead.Choices.{choose}
use Rattle.jh_operators.specs.lookahead.Lists.{Found, Many}
use Rattle.jh_operators.specs.lookahead.Modifiers.{Modifiers, ModifiersAfter, allowed_at, has}
use Rattle.jh_operators.specs.lookahead.Modifiers as modifier
use Rattle.jh_operators.specs.lookahead.Standing.{Is, is_at, is_end_at, is_spec_open_at, kind_at, place_at, word_at}
use Rattle.jh_operators.proofs.lookahead.Facts.{kinds-apart, other, within, kind-within}
use Rattle.jh_operators.proofs.lookahead.Lists.{many-complete, many-forward}
use Rattle.jh_operators.proofs.lookahead.Modified.{modifiers-complete, modifiers-end}
use Rattle.jh_operators.proofs.lookahead.Options.{Holds, nothing, found, choose_holds, of_found, then_is, choose_on, choose_off, given_on, given_off, behind_on, some_one}
use Rattle.jh_spec.specs.parser.Parts as part
use Rattle.jh_spec.proofs.parser.PartComplete.{items-complete, contracted-complete, claimed-complete}
use Rattle.jh_parse.specs.programs.Members.{of_members, of_classes, One, Fields, Result, Parameter, Parameters, Promised, Method, MemberTree, of_fields, of_method, of_items, Member, Heads, Class, Spells, class_of}
use Rattle.jh_parse.specs.programs.Members as member
use Rattle.jh_parse.specs.statements.Reading as stmts
use Rattle.jh_parse.specs.programs.MemberReading.{Head, init_at, one_at, fields_at, parameters_at, promised_at, signature_at, obligations_at, method_at, methods_at, typed_at, flags_at, modified_at, declares_at, member_at, head_at, heads_at, members_at, class_at, classes_at, program_at}
use Rattle.jh_parse.specs.programs.Separated.{Separated, last, further}
use Rattle.jh_parse.specs.statements.Statements.{Typed, Body}
use Rattle.jh_parse.specs.statements.Statements as grammar
use Rattle.jh_parse.proofs.programs.Beginnings.{of_kind, not_kind, of_type, type-start}
use Rattle.jh_parse.proofs.programs.Literals.{literal-complete}
use Rattle.jh_parse.proofs.programs.Commas.{separated-complete, separated-end}
use Rattle.jh_parse.proofs.programs.PartEnds as partend
use Rattle.jh_parse.proofs.statements.Complete.{typed-complete, body_at-complete}
use Rattle.jh_parse.proofs.statements.Ends.{typed-end, body-end}

-- with which tokens a member, a class and what follows modifiers begin
abbrev pub of_member : ℕ → Bool
of_member m = list_any (λ x. x == m) (34 ∷ 35 ∷ 36 ∷ 37 ∷ 38 ∷ 39 ∷ 40 ∷ 41 ∷ 75 ∷ [])

abbrev pub of_result : ℕ → Bool
of_result m = list_any (λ x. x == m) (39 ∷ 40 ∷ 41 ∷ 75 ∷ [])

equal_on : (m n : ℕ) → m ≡ n → (m == n) ≡ true
equal_on m n h = by_test (m == n) refl where
  by_test : (b : Bool) → (m == n) ≡ b → b ≡ true
  by_test true e = refl
  by_test false e = absurd (eqb-false m n e h)

module _ (ts : List Token) where
  one-end : {t : JType} {fixed : Bool} {i j : ℕ} {x : FieldPart} → One ts t fixed i x j → i < j
  one-end (member.plain e) = omega arith
  one-end (member.initial e s p) = omega arith

  one-complete : {t : JType} {fixed : Bool} {i j : ℕ} {x : FieldPart} → One ts t fixed i x j → is_at ts j symbol.Equal ≡ false → one_at ts t fixed i ≡ Some (x, j)
  unfolding one_at init_at
  one-complete (member.plain e) stop = then_is _ e (then_is _ (choose_off _ stop refl) refl)
  one-complete (member.initial e s p) stop = then_is _ e (then_is _ (choose_on _ s (then_is _ (literal-complete ts p) refl)) refl)

  fields-complete : {t : JType} {fixed : Bool} {i j : ℕ} {fs : List FieldPart} → Separated ts (One ts t fixed) i fs j → Is ts j symbol.Semicolon → fields_at ts t fixed i ≡ Some (fs, j + 1)
  unfolding fields_at
  fields-complete {t = t} {fixed = fixed} {j = j} p d = then_is _ (separated-complete ts (One ts t fixed) (one_at ts t fixed) (λ k. is_at ts k symbol.Equal ≡ false) (λ a b x q. one-end q) (λ k e. other ts k symbol.Comma symbol.Equal e refl) (λ a b x q f. one-complete q f)
      (length ts) p (other ts j symbol.Semicolon symbol.Equal d refl) (other ts j symbol.Semicolon symbol.Comma d refl) (omega (arith, within ts j symbol.Semicolon refl d))) (then_is _ (behind_on ts j symbol.Semicolon d) refl)

  parameter-end : {i j : ℕ} {x : Param} → Parameter ts i x j → i < j
  parameter-end (member.parameter p e) = omega (arith, typed-end ts p)

  parameter-complete : {i j : ℕ} {x : Param} → Parameter ts i x j → stmts.declared_at ts i ≡ Some (x, j)
  unfolding stmts.declared_at
  parameter-complete (member.parameter p e) = then_is _ (typed-complete ts p) (then_is _ e refl)

  parameter-not : {i j : ℕ} {x : Param} → Parameter ts i x j → is_at ts i symbol.RightParenthesis ≡ false
  parameter-not {i = i} (member.parameter p e) = not_kind ts i 3 of_type (type-start ts p) refl

  separated_not : {i j : ℕ} {ps : List Param} → Separated ts (Parameter ts) i ps j → is_at ts i symbol.RightParenthesis ≡ false
  separated_not (last p) = parameter-not p
  separated_not (further p c q) = parameter-not p

  parameters-complete : {i j : ℕ} {ps : List Param} → Parameters ts i ps j → parameters_at ts i ≡ Some (ps, j)
  unfolding parameters_at
  parameters-complete {i = i} (member.no_parameters o c) = then_is _ (behind_on ts i symbol.LeftParenthesis o) (choose_on _ c refl)
  parameters-complete {i = i} (member.some_parameters {j = j} o p c) = then_is _ (behind_on ts i symbol.LeftParenthesis o) (choose_off _ (separated_not p) (then_is _
      (separated-complete ts (Parameter ts) (stmts.declared_at ts) (λ k. Unit {0}) (λ a b x q. parameter-end q) (λ k e. tt) (λ a b x q f. parameter-complete q) (length ts) p tt (other ts j symbol.RightParenthesis symbol.Comma c refl) (omega (arith, within ts j symbol.RightParenthesis refl c)))
      (then_is _ (behind_on ts j symbol.RightParenthesis c) refl)))

  parameters-end : {i j : ℕ} {ps : List Param} → Parameters ts i ps j → i < j
  parameters-end (member.no_parameters o c) = omega arith
  parameters-end (member.some_parameters o p c) = omega (arith, separated-end ts (Parameter ts) (stmts.declared_at ts) (λ k. Unit {0}) (λ a b x q. parameter-end q) (λ k e. tt) (λ a b x q f. parameter-complete q) p)

  parameters-open : {i j : ℕ} {ps : List Param} → Parameters ts i ps j → Is ts i symbol.LeftParenthesis
  parameters-open (member.no_parameters o c) = o
  parameters-open (member.some_parameters o p c) = o

  promised-complete : {n i j m : ℕ} {pre post : Option SpecPart} {ws : List Word} → Promised ts n i pre ws post j m → is_spec_open_at ts j ≡ false → promised_at ts n i ≡ Some ((pre, ws, post), j, m)
  unfolding promised_at
  promised-complete member.no_contract e = choose_off _ e refl
  promised-complete (member.a_contract o p) e = choose_on _ o (then_is _ (contracted-complete ts p) refl)

  promised-end : {n i j m : ℕ} {pre post : Option SpecPart} {ws : List Word} → Promised ts n i pre ws post j m → i ≤ j
  promised-end member.no_contract = omega arith
  promised-end (member.a_contract o p) = omega (arith, partend.contracted-end ts p)

  -- what follows modifiers is none
  none_allowed : (i : ℕ) → of_result (kind_at ts i) ≡ true → allowed_at ts of_members i ≡ None
  unfolding allowed_at
  none_allowed i h = choose_off _ (not_kind ts i 34 of_result h refl) (choose_off _ (not_kind ts i 35 of_result h refl) (choose_off _ (not_kind ts i 36 of_result h refl) (choose_off _ (not_kind ts i 37 of_result h refl) (choose_off _ (not_kind ts i 38 of_result h refl) refl))))

  allowed_is : (i : ℕ) → Holds (λ s. of_member (kind_at ts i) ≡ true) (allowed_at ts of_members i)
  unfolding allowed_at
  allowed_is i = choose_holds (λ e. found (of_kind ts i 34 of_member e refl)) (λ _. choose_holds (λ e. found (of_kind ts i 35 of_member e refl)) (λ _. choose_holds (λ e. found (of_kind ts i 36 of_member e refl)) (λ _.
      choose_holds (λ e. found (of_kind ts i 37 of_member e refl)) (λ _. choose_holds (λ e. found (of_kind ts i 38 of_member e refl)) (λ _. nothing)))))

  typed_result : {i j : ℕ} {t : JType} → Typed ts i t j → of_result (kind_at ts i) ≡ true
  typed_result {i = i} p = wider (39 == kind_at ts i) (of_type (kind_at ts i)) (type-start ts p) where
    wider : (a b : Bool) → b ≡ true → (a || b) ≡ true
    wider true b h = refl
    wider false b h = h

  result-start : {i j : ℕ} {t : JType} → Result ts i t j → of_result (kind_at ts i) ≡ true
  result-start {i = i} (member.nothing e) = of_kind ts i 39 of_result e refl
  result-start (member.something p) = typed_result p

  modified-start : {seen ms : List Symbol} {i a : ℕ} → ModifiersAfter ts of_members seen i ms a → of_member (kind_at ts a) ≡ true → of_member (kind_at ts i) ≡ true
  modified-start modifier.no_more h = h
  modified-start {i = i} (modifier.one_more {s = s} e new p) h = of_found (allowed_is i) s e

  of_both : (m : ℕ) → of_result m ≡ true → of_member m ≡ true
  of_both m h = or_right (34 == m) _ (or_right (35 == m) _ (or_right (36 == m) _ (or_right (37 == m) _ (or_right (38 == m) _ h))))

  -- a member that begins with modifiers, from what is read after them
  modified-complete : (n i : ℕ) {a : ℕ} {ms : List Symbol} {r : Found MemberTree} → Modifiers ts of_members i ms a → of_result (kind_at ts a) ≡ true → a < length ts
      → choose (is_at ts a symbol.Void) (methods_at ts (record { is_public = has ms symbol.Public; fixed = has ms symbol.Static; jtype = jtype.Void }) n (a + 1)) (typed_at ts (has ms symbol.Public) (has ms symbol.Static) n a) ≡ Some r
      → member_at ts n i ≡ Some r
  unfolding member_at modified_at flags_at
  modified-complete n i {a = a} {ms = ms} p h small e = choose_off _ (not_kind ts i 78 of_member (modified-start p (of_both (kind_at ts a) h)) refl)
      (then_is _ (then_is _ (modifiers-complete ts of_members (suc (length ts)) i a ms p (none_allowed a h) (omega (arith, modifiers-end p, small))) refl) e)

  body_opens : {n i j m : ℕ} {ss : StmtTrees} → Body ts n i ss j m → is_spec_open_at ts i ≡ false
  body_opens {i = i} (grammar.body o p c) = kinds-apart ts i _ 78 o refl

  methods-complete : (n b : ℕ) {c d j k m : ℕ} (h : Head) {w : Word} {ps : List Param} {pre post : Option SpecPart} {ws : List Word} {ss : StmtTrees} → word_at ts b ≡ Some w → Parameters ts (b + 1) ps c → Promised ts n c pre ws post d k → Body ts k d ss j m
      → methods_at ts h n b ≡ Some (of_method (record { name = w; is_public = h.is_public; fixed = h.fixed; result = h.jtype; params = ps; pre = pre; modifies = ws; post = post; body = ss; end = place_at ts j }), j + 1, m)
  unfolding methods_at method_at signature_at obligations_at
  methods-complete n b h e p q s = then_is _ (then_is _ (then_is _ e (then_is _ (parameters-complete p) refl))
      (then_is _ (then_is _ (promised-complete q (body_opens s)) (then_is _ (body_at-complete ts s) refl)) refl)) refl

  separated_one-end : {t : JType} {fixed : Bool} {i j : ℕ} {fs : List FieldPart} → Separated ts (One ts t fixed) i fs j → i < j
  separated_one-end (last p) = one-end p
  separated_one-end (further p c q) = omega (arith, one-end p, separated_one-end q)

  -- no bracket stands behind the name of a field
  first_next : {t : JType} {fixed : Bool} {i j : ℕ} {x : FieldPart} → One ts t fixed i x j → is_at ts j symbol.LeftParenthesis ≡ false → is_at ts (i + 1) symbol.LeftParenthesis ≡ false
  first_next (member.plain e) h = h
  first_next {i = i} (member.initial e s p) h = other ts (i + 1) symbol.Equal symbol.LeftParenthesis s refl

  one-next : {t : JType} {fixed : Bool} {i j : ℕ} {fs : List FieldPart} → Separated ts (One ts t fixed) i fs j → is_at ts j symbol.LeftParenthesis ≡ false → is_at ts (i + 1) symbol.LeftParenthesis ≡ false
  one-next (last p) h = first_next p h
  one-next (further {j = j} p c q) h = first_next p (other ts j symbol.Comma symbol.LeftParenthesis c refl)

  items_read : (n i : ℕ) {j m : ℕ} {xs : List part.ItemTree} → is_spec_open_at ts i ≡ true → part.Items ts n (i + 1) xs j m → member_at ts n i ≡ Some (of_items xs, j + 1, m)
  unfolding member_at declares_at
  items_read n i o p = choose_on _ o (then_is _ (items-complete ts p) refl)

  member-complete : (n i j m : ℕ) (x : MemberTree) → Member ts n i x j m → member_at ts n i ≡ Some (x, j, m)
  unfolding typed_at
  member-complete n i j m x (member.a_field (member.fields {a = a} {b = b} {ms = ms} {t = t} p q r d)) = modified-complete n i p (typed_result q) (omega (arith, typed-end ts q, separated_one-end r, within ts _ symbol.Semicolon refl d))
      (choose_off _ (not_kind ts a 39 of_type (type-start ts q) refl) (then_is _ (typed-complete ts q) (choose_off _ (one-next r (kinds-apart ts _ _ 2 d refl)) (then_is _ (fields-complete r d) refl))))
  member-complete n i j m x (member.a_method (member.method {a = a} {b = b} {ms = ms} p (member.nothing s) e q r u)) = modified-complete n i p (of_kind ts a 39 of_result s refl) (within ts a symbol.Void refl s) (choose_on _ s (methods-complete n (a + 1) _ e q r u))
  member-complete n i j m x (member.a_method (member.method {a = a} {b = b} {ms = ms} p (member.something t) e q r u)) = modified-complete n i p (typed_result t) (omega (arith, typed-end ts t, within ts (b + 1) symbol.LeftParenthesis refl (parameters-open q)))
      (choose_off _ (not_kind ts a 39 of_type (type-start ts t) refl) (then_is _ (typed-complete ts t) (choose_on _ (parameters-open q) (methods-complete n b _ e q r u))))
  member-complete n i j m x (member.some_items o p) = items_read n i o p

  method-forward : {n i j m : ℕ} {x : MethodPart} → Method ts n i x j m → i < j
  method-forward (member.method p (member.nothing s) e q r u) = omega (arith, modifiers-end p, parameters-end q, promised-end r, body-end ts u)
  method-forward (member.method p (member.something t) e q r u) = omega (arith, modifiers-end p, typed-end ts t, parameters-end q, promised-end r, body-end ts u)

  member-begins : (n i j m : ℕ) (x : MemberTree) → Member ts n i x j m → (is_at ts i symbol.RightBrace ≡ false) × (i < j) × Unit {0}
  member-begins n i j m x (member.a_field (member.fields {a = a} p q r d)) = (not_kind ts i 1 of_member (modified-start p (of_both (kind_at ts a) (typed_result q))) refl, omega (arith, modifiers-end p, typed-end ts q, separated_one-end r), tt)
  member-begins n i j m x (member.a_method (member.method {a = a} p t e q r u)) = (not_kind ts i 1 of_member (modified-start p (of_both (kind_at ts a) (result-start t))) refl, method-forward (member.method p t e q r u), tt)
  member-begins n i j m x (member.some_items o p) = (kinds-apart ts i 78 1 o refl, omega (arith, partend.items-end ts p), tt)

  members-complete : {n i j m : ℕ} {xs : List MemberTree} → Many (Member ts) n i xs j m → Is ts j symbol.RightBrace → members_at ts n i ≡ Some (xs, j, m)
  unfolding members_at
  members-complete {j = j} p c = many-complete (Member ts) (λ k. is_at ts k symbol.RightBrace) (member_at ts) (λ _. Unit {0}) member-begins (λ _ _. tt) (λ n i j m x q _. member-complete n i j m x q) (length ts) p c (omega (arith, within ts j symbol.RightBrace refl c))

  members-forward : {n i j m : ℕ} {xs : List MemberTree} → Many (Member ts) n i xs j m → i ≤ j
  members-forward p = many-forward (Member ts) (λ k. is_at ts k symbol.RightBrace) (member_at ts) (λ _. Unit {0}) member-begins (λ _ _. tt) (λ n i j m x q _. member-complete n i j m x q) p

  -- what stands before `class`
  no_head_there : (a : ℕ) → Is ts a symbol.Class → allowed_at ts of_classes a ≡ None
  unfolding allowed_at
  no_head_there a s = choose_off _ (other ts a symbol.Class symbol.Public s refl) (choose_off _ (other ts a symbol.Class symbol.Final s refl) refl)

  not_allowed : (i : ℕ) → is_spec_open_at ts i ≡ true → allowed_at ts of_classes i ≡ None
  unfolding allowed_at
  not_allowed i o = choose_off _ (kinds-apart ts i 78 _ o refl) (choose_off _ (kinds-apart ts i 78 _ o refl) refl)

  heads-end : {seen : List Symbol} {i a : ℕ} → Heads ts seen i a → i ≤ a
  heads-end member.no_head = omega arith
  heads-end (member.a_modifier e new p) = omega (arith, heads-end p)
  heads-end (member.a_claim o p q) = omega (arith, p.2, heads-end q)

  heads-complete : (k : ℕ) {seen : List Symbol} {i a : ℕ} → Heads ts seen i a → Is ts a symbol.Class → a < i + k → heads_at ts k seen i ≡ Some a
  unfolding heads_at head_at
  heads-complete zero p s h = absurd (omega (arith, h, heads-end p))
  heads-complete (suc k) {a = a} member.no_head s h = then_is _ (given_off _ (no_head_there a s) (choose_off _ (kinds-apart ts a _ 78 s refl) refl)) (given_off _ refl refl)
  heads-complete (suc k) (member.a_modifier e new p) s h = then_is _ (given_on _ _ e (choose_off _ new refl)) (given_on _ _ refl (heads-complete k p s (omega (arith, h))))
  heads-complete (suc k) {i = i} (member.a_claim {j = j} {w = w} o p q) s h = then_is _ (given_off _ (not_allowed i o) (choose_on _ o (then_is _ (claimed-complete ts (i + 1) j w p) refl))) (given_on _ _ refl (heads-complete k q s (omega (arith, h, p.2))))

  allowed_head : (i : ℕ) → Holds (λ s. is_end_at ts i ≡ false) (allowed_at ts of_classes i)
  unfolding allowed_at
  allowed_head i = choose_holds (λ e. found (kinds-apart ts i _ 82 e refl)) (λ _. choose_holds (λ e. found (kinds-apart ts i _ 82 e refl)) (λ _. nothing))

  heads-start : {seen : List Symbol} {i a : ℕ} → Heads ts seen i a → Is ts a symbol.Class → is_end_at ts i ≡ false
  heads-start {i = i} member.no_head s = kinds-apart ts i _ 82 s refl
  heads-start {i = i} (member.a_modifier {s = x} e new p) s = of_found (allowed_head i) x e
  heads-start {i = i} (member.a_claim o p q) s = kinds-apart ts i 78 82 o refl

  class-complete : (n i j m : ℕ) (x : ClassPart) → Class ts n i x j m → class_at ts n i ≡ Some (x, j, m)
  unfolding class_at
  class-complete n i j m x (member.class {a = a} p s e o q c) = then_is _ (heads-complete (suc (length ts)) p s (omega (arith, within ts a symbol.Class refl s))) (then_is _ (behind_on ts a symbol.Class s) (then_is _ e
      (then_is _ (behind_on ts (a + 1 + 1) symbol.LeftBrace o) (then_is _ (members-complete q c) refl))))

  class-begins : (n i j m : ℕ) (x : ClassPart) → Class ts n i x j m → (is_end_at ts i ≡ false) × (i < j) × Unit {0}
  class-begins n i j m x (member.class p s e o q c) = (heads-start p s, omega (arith, heads-end p, members-forward q), tt)

  -- what is spelled as a program is read
  pub program-complete : (p : ProgramTree) → Spells ts p → program_at ts ≡ Some p
  unfolding program_at classes_at
  program-complete p (member.program {j = j} q e h) = then_is _ (many-complete (Class ts) (is_end_at ts) (class_at ts) (λ _. Unit {0}) class-begins (λ _ _. tt) (λ n i j m x r _. class-complete n i j m x r) (length ts) q e (omega (arith, kind-within ts j 82 refl e)))
      (choose_on _ (equal_on (length ts) (j + 1) h) refl)

-- a list of tokens spells at most one program
pub at_most_one_program : (ts : List Token) (p q : ProgramTree) → Spells ts p → Spells ts q → p ≡ q
at_most_one_program ts p q a b = some_one (sym (program-complete ts p a) ∙ program-complete ts q b)
