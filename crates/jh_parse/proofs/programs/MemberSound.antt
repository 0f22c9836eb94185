-- What is read as a program is spelled.
use Rattle.std.proofs.Common.{◌≡◌, ℕ, zero, suc, ◌+◌, Bool, List, [], length, refl}
use Rattle.std.proofs.lemmas.Bool.{eqb-true}
use Rattle.jh_lex.specs.declared.lexer.symbol.Symbol.{Symbol}
use Rattle.jh_lex.specs.declared.lexer.symbol.Symbol.TheVariants as symbol
use Rattle.jh_lex.specs.declared.lexer.token.Token.{Token}
use Rattle.jh_ast.specs.declared.word.JType.{JType}
use Rattle.jh_ast.specs.declared.word.JType.TheVariants as jtype
use Rattle.std.specs.Prelude.{Option, None, Some}
use Rattle.jh_operators.specs.lookahead.Choices.{choose, given}
use Rattle.jh_operators.specs.lookahead.Modifiers.{Modifiers, has}
use Rattle.jh_operators.specs.lookahead.Standing.{is_at, is_end_at, word_at}
use Rattle.jh_operators.proofs.lookahead.Lists.{many-sound}
use Rattle.jh_operators.proofs.lookahead.Modified.{weaker, modifiers-sound}
use Rattle.jh_operators.proofs.lookahead.Options.{Holds, nothing, found, then_holds, then_found, choose_holds, given_holds, behind_holds}
use Rattle.jh_spec.proofs.parser.PartSound.{items-sound, contracted-sound, claimed-sound}
use Rattle.jh_parse.specs.programs.Members.{of_members, of_classes, One, Fields, Result, Parameter, Parameters, Promised, Method, MemberTree, of_fields, of_method, of_items, Member, Heads, Class, Spells}
use Rattle.jh_parse.specs.programs.Members as member
use Rattle.jh_parse.specs.statements.Reading as stmts
use Rattle.jh_parse.specs.programs.MemberReading.{init_at, one_at, fields_at, parameters_at, promised_at, signature_at, obligations_at, method_at, methods_at, typed_at, flags_at, modified_at, declares_at, member_at, head_at, heads_at, members_at, class_at, classes_at, program_at}
use Rattle.jh_parse.specs.statements.Statements.{Typed, Body}
use Rattle.jh_parse.proofs.programs.Commas.{separated-sound}
use Rattle.jh_parse.proofs.programs.Literals.{literal-is}
use Rattle.jh_parse.proofs.statements.Sound.{typed-sound, body_at-sound}

-- what is read as a type is one
type_is : (ts : List Token) (i : ℕ) → Holds (λ r. Typed ts i r.0 r.1) (stmts.typed_at ts i)
type_is ts i = typed-sound ts i

module _ (ts : List Token) where
  one-sound : (t : JType) (fixed : Bool) (i : ℕ) → Holds (λ r. One ts t fixed i r.0 r.1) (one_at ts t fixed i)
  unfolding one_at init_at
  one-sound t fixed i = then_found (λ w e. then_holds {P = λ x. One ts t fixed i (record { name = w; jtype = t; fixed = fixed; init = x.0 }) x.1}
      (choose_holds (λ s. then_found (λ a h. found (member.initial e s (literal-is ts (i + 1 + 1) a h)))) (λ _. found (member.plain e))) (λ x p. found p))

  fields-sound : (i a b : ℕ) (ms : List Symbol) (t : JType) → Modifiers ts of_members i ms a → Typed ts a t b → Holds (λ r. Fields ts i r.0 r.1) (fields_at ts t (has ms symbol.Static) b)
  unfolding fields_at
  fields-sound i a b ms t p q = then_holds (separated-sound ts (One ts t (has ms symbol.Static)) (one_at ts t (has ms symbol.Static)) (one-sound t (has ms symbol.Static)) (length ts) b) (λ fs r. behind_holds ts fs.1 symbol.Semicolon _ _ (λ d. found (member.fields p q r d)))

  parameter-sound : (i : ℕ) → Holds (λ r. Parameter ts i r.0 r.1) (stmts.declared_at ts i)
  unfolding stmts.declared_at
  parameter-sound i = then_holds (type_is ts i) (λ t p. then_found (λ w e. found (member.parameter p e)))

  parameters-sound : (i : ℕ) → Holds (λ r. Parameters ts i r.0 r.1) (parameters_at ts i)
  unfolding parameters_at
  parameters-sound i = behind_holds ts i symbol.LeftParenthesis _ _ (λ o. choose_holds (λ c. found (member.no_parameters o c))
      (λ _. then_holds (separated-sound ts (Parameter ts) (stmts.declared_at ts) parameter-sound (length ts) (i + 1)) (λ ps p. behind_holds ts ps.1 symbol.RightParenthesis _ _ (λ c. found (member.some_parameters o p c)))))

  promised-sound : (n i : ℕ) → Holds (λ r. Promised ts n i r.0.0 r.0.1 r.0.2 r.1 r.2) (promised_at ts n i)
  unfolding promised_at
  promised-sound n i = choose_holds (λ o. then_holds (contracted-sound ts n (i + 1)) (λ c p. found (member.a_contract o p))) (λ _. found member.no_contract)

  methods-sound : (n i a b : ℕ) (ms : List Symbol) (t : JType) → Modifiers ts of_members i ms a → Result ts a t b → Holds (λ r. Member ts n i r.0 r.1 r.2) (methods_at ts (record { is_public = has ms symbol.Public; fixed = has ms symbol.Static; jtype = t }) n b)
  unfolding methods_at method_at signature_at obligations_at
  methods-sound n i a b ms t p q = then_holds {P = λ x. Method ts n i x.0 x.1 x.2}
      (then_holds {P = λ s. (word_at ts b ≡ Some s.0.0) × Parameters ts (b + 1) s.0.1 s.1} (then_found (λ w e. then_holds (parameters-sound (b + 1)) (λ ps r. found (e, r)))) (λ s e.
      then_holds {P = λ x. (d : ℕ) × (k : ℕ) × Promised ts n s.1 x.0.0.0 x.0.0.1 x.0.0.2 d k × Body ts k d x.0.1 x.1 x.2} (then_holds (promised-sound n s.1) (λ c r. then_holds (body_at-sound ts c.2 c.1) (λ ss u. found (c.1, c.2, r, u)))) (λ x h.
      found (member.method p q e.0 e.1 h.2 h.3)))) (λ x p. found (member.a_method p))

  with_type-sound : (n i a : ℕ) (ms : List Symbol) → Modifiers ts of_members i ms a → Holds (λ r. Member ts n i r.0 r.1 r.2) (typed_at ts (has ms symbol.Public) (has ms symbol.Static) n a)
  unfolding typed_at
  with_type-sound n i a ms p = then_holds (type_is ts a) (λ t q. choose_holds (λ _. methods-sound n i a t.1 ms t.0 p (member.something q)) (λ _. then_holds (fields-sound i a t.1 ms t.0 p q) (λ fs r. found (member.a_field r))))

  -- the modifiers of which the two are read
  abbrev Flags : ℕ → ((Bool × Bool) × ℕ) → Type 0
  Flags i f = (ms : List Symbol) × Modifiers ts of_members i ms f.1 × ◌≡◌ {A = Bool × Bool} f.0 (has ms symbol.Public, has ms symbol.Static)

  flags-sound : (i : ℕ) → Holds (λ f. Flags i f) (flags_at ts i)
  unfolding flags_at
  flags-sound i = then_holds (modifiers-sound ts of_members (suc (length ts)) i) (λ ms p. found {x = ((has ms.0 symbol.Public, has ms.0 symbol.Static), ms.1)} (ms.0, p, refl))

  modified-sound : (n i : ℕ) → Holds (λ r. Member ts n i r.0 r.1 r.2) (modified_at ts n i)
  unfolding modified_at
  modified-sound n i = then_holds (flags-sound i) (λ f h. from f.0 f.1 h.0 h.1 h.2) where
    from : (f : Bool × Bool) (a : ℕ) (ms : List Symbol) → Modifiers ts of_members i ms a → f ≡ (has ms symbol.Public, has ms symbol.Static)
        → Holds (λ r. Member ts n i r.0 r.1 r.2) (choose (is_at ts a symbol.Void) (methods_at ts (record { is_public = f.0; fixed = f.1; jtype = jtype.Void }) n (a + 1)) (typed_at ts f.0 f.1 n a))
    from f a ms p e = rw e (choose_holds (λ s. methods-sound n i a (a + 1) ms _ p (member.nothing s)) (λ _. with_type-sound n i a ms p))

  member-sound : (n i : ℕ) → Holds (λ r. Member ts n i r.0 r.1 r.2) (member_at ts n i)
  unfolding member_at declares_at
  member-sound n i = choose_holds (λ o. then_holds (items-sound ts n (i + 1)) (λ xs p. found (member.some_items o p))) (λ _. modified-sound n i)

  -- one step further before `class`
  abbrev Steps : List Symbol → ℕ → Option (List Symbol × ℕ) → Type 0
  Steps seen i None = Unit {0}
  Steps seen i (Some s) = (j : ℕ) → Heads ts s.0 s.1 j → Heads ts seen i j

  head-sound : (seen : List Symbol) (i : ℕ) → Holds (λ h. Steps seen i h) (head_at ts seen i)
  unfolding head_at
  head-sound seen i = given_holds (λ s e. choose_holds (λ _. nothing) (λ new. found (λ j p. member.a_modifier e new p)))
      (λ _. choose_holds (λ o. then_holds (claimed-sound ts (i + 1)) (λ c p. found (λ j q. member.a_claim o p q))) (λ _. found tt))

  heads-sound : (k : ℕ) (seen : List Symbol) (i : ℕ) → Holds (λ j. Heads ts seen i j) (heads_at ts k seen i)
  unfolding heads_at given
  heads-sound zero seen i = nothing
  heads-sound (suc k) seen i = then_holds (head-sound seen i) (λ h p. on (λ s. heads-sound k s.0 s.1) h p) where
    on : ((s : List Symbol × ℕ) → Holds (λ j. Heads ts s.0 s.1 j) (heads_at ts k s.0 s.1)) → (h : Option (List Symbol × ℕ)) → Steps seen i h → Holds (λ j. Heads ts seen i j) (given h (λ s. heads_at ts k s.0 s.1) (Some i))
    on further None p = found member.no_head
    on further (Some s) p = weaker (further s) p

  class-sound : (n i : ℕ) → Holds (λ r. Class ts n i r.0 r.1 r.2) (class_at ts n i)
  unfolding class_at members_at
  class-sound n i = then_holds (heads-sound (suc (length ts)) [] i) (λ a p. behind_holds ts a symbol.Class _ _ (λ s. then_found (λ w e. behind_holds ts (a + 1 + 1) symbol.LeftBrace _ _ (λ o.
      then_holds (many-sound (Member ts) (λ k. is_at ts k symbol.RightBrace) (member_at ts) member-sound (length ts) n (a + 1 + 1 + 1)) (λ xs q. found (member.class p s e o q.0 q.1))))))

  -- what is read as a program is spelled
  pub program-sound : Holds (λ p. Spells ts p) (program_at ts)
  unfolding program_at classes_at
  program-sound = then_holds (many-sound (Class ts) (is_end_at ts) (class_at ts) class-sound (length ts) 0 0) (λ cs p. choose_holds (λ e. found (member.program p.0 p.1 (eqb-true (length ts) (cs.1 + 1) e))) (λ _. nothing))
