-- What is read of a specification stands there.
use Rattle.std.proofs.Common.{◌≡◌, ℕ, zero, suc, ◌+◌, Bool, true, false, List, [], ◌∷◌, length, refl, sym, subst, ◌∙◌}
use Rattle.std.proofs.lemmas.Bool.{and_parts}
use Rattle.std.specs.Prelude.{Option, Some, ◌==◌, ◌||◌, codes}
use Rattle.jh_lex.specs.declared.lexer.symbol.Symbol.{Symbol}
use Rattle.jh_lex.specs.declared.lexer.symbol.Symbol.TheVariants as symbol
use Rattle.jh_lex.specs.declared.lexer.token.Token.{Token}
use Rattle.jh_ast.specs.declared.word.Word.{Word}
use Rattle.jh_ast.specs.Forms.{SpecPart}
use Rattle.jh_operators.specs.lookahead.Choices.{choose}
use Rattle.jh_operators.specs.lookahead.Modifiers.{Modifiers, has}
use Rattle.jh_operators.specs.lookahead.Standing.{Is, kind_at, is_qualified_at, is_at, is_word_at, is_spec_close_at, is_quote_open_at, is_plain_word_at, word_at}
use Rattle.jh_operators.proofs.lookahead.Facts.{kinds-apart}
use Rattle.jh_operators.proofs.lookahead.Lists.{many-sound}
use Rattle.jh_operators.proofs.lookahead.Modified.{modifiers-sound}
use Rattle.jh_operators.proofs.lookahead.Options.{Holds, nothing, found, then_holds, then_found, choose_holds, behind_holds}
use Rattle.jh_spec.specs.parser.Parts.{ItemTree, Quoted, Label, MaybeSemicolon, Clause, ModifiesItem, ModifiesItems, Modifies, Contract, SpecType, Declared, Visibility, Defined, Labelled, Item, LoopItem, FromWords, From, Spoken, Target, Statement, Items, Loop, Statements, Contracted, Claimed, Part, of_variables}
use Rattle.jh_spec.specs.parser.Parts as part
use Rattle.jh_spec.specs.parser.PartReading.{quoted_at, label_at, semicolon_at, clause_at, modifies_item_at, separated_at, words_after, ensured_at, promised_at, kind_of_at, declared_at, flags_at, variable_at, defined_at, definition_at, labelled_at, named_at, invariant_at, item_at, loop_item_at, word_reader, spoken_at, target_at, ghost_at, said_at, statement_at, items_at, loop_at, statements_at, contracted_at, claimed_at, begins_contract_at, begins_statement_at, part_at}
use Rattle.jh_spec.specs.parser.Reading.{inside}
use Rattle.jh_spec.proofs.parser.Sound.{formula-sound, postfix-sound, inside-sound}

module _ (ts : List Token) where
  quoted-sound : (n i : ℕ) → Holds (λ r. Quoted ts n i r.0 r.1) (quoted_at ts n i)
  unfolding quoted_at
  quoted-sound n i = choose_holds (λ o. then_holds (formula-sound ts (i + 1)) (λ t p. found (part.quoted o p))) (λ _. nothing)

  label-sound : (i : ℕ) → Holds (λ r. Label ts i r.0 r.1) (label_at ts i)
  unfolding label_at
  label-sound i = choose_holds (λ e. then_found (λ w h. found (part.labelled h (and_parts (is_plain_word_at ts i) (is_at ts (i + 1) symbol.Colon) e).1))) (λ _. found part.unlabelled)

  semicolon-sound : (i : ℕ) → MaybeSemicolon ts i (semicolon_at ts i)
  unfolding semicolon_at choose
  semicolon-sound i = by_test (is_at ts i symbol.Semicolon) refl where
    by_test : (b : Bool) → is_at ts i symbol.Semicolon ≡ b → MaybeSemicolon ts i (choose b (i + 1) i)
    by_test true e = part.with e
    by_test false e = part.without

  clause-sound : (s : Symbol) (n i : ℕ) → Holds (λ r. Clause ts s n i r.0 r.1 r.2) (clause_at ts s n i)
  unfolding clause_at
  clause-sound s n i = choose_holds (λ e. then_holds (quoted-sound n (i + 1)) (λ q p. found (part.present e p))) (λ _. found part.absent)

  modifies_item-sound : (i : ℕ) → Holds (λ r. ModifiesItem ts i r.0 r.1) (modifies_item_at ts i)
  unfolding modifies_item_at
  modifies_item-sound i = choose_holds (λ o. then_found (λ w e. choose_holds (λ c. found (part.in_quotes o e c)) (λ _. nothing))) (λ _. then_found (λ w e. found (part.plain e)))

  modifies_items-sound : (k i : ℕ) → Holds (λ r. ModifiesItems ts i r.0 r.1) (separated_at ts (modifies_item_at ts) k i)
  unfolding separated_at
  modifies_items-sound zero i = nothing
  modifies_items-sound (suc k) i = then_holds (modifies_item-sound i) (λ w p. choose_holds (λ c. then_holds (modifies_items-sound k (w.1 + 1)) (λ r q. found (part.more_items p c q))) (λ _. found (part.last_item p)))

  modifies-sound : (i : ℕ) → Holds (λ r. Modifies ts i r.0 r.1) (words_after ts symbol.Modifies (modifies_item_at ts) i)
  unfolding words_after
  modifies-sound i = choose_holds (λ e. holds_by (modifies_items-sound (length ts) (i + 1)) (λ r p. part.modifies e p)) (λ _. found part.modifies_nothing) where
    holds_by : {A : Type 0} {P Q : A → Type 0} {o : Option A} → Holds P o → ((x : A) → P x → Q x) → Holds Q o
    holds_by nothing go = nothing
    holds_by (found p) go = found (go _ p)

  kind-sound : (i : ℕ) → Holds (λ r. SpecType ts i r.0 r.1) (kind_of_at ts i)
  unfolding kind_of_at
  kind-sound i = choose_holds (λ e. found (part.an_object e)) (λ _. choose_holds (λ e. found (part.an_integer e)) (λ _. choose_holds (λ e. found (part.a_truth e)) (λ _. choose_holds (λ e. found (part.a_set e)) (λ _.
      choose_holds (λ e. let a = and_parts (is_quote_open_at ts i) _ e in let b = and_parts (is_word_at ts (i + 1) (codes "obj")) _ a.1 in let c = and_parts (is_word_at ts (i + 2) (codes "set")) _ b.1 in found (part.a_set_in_quotes a.0 b.0 c.0 c.1)) (λ _. nothing)))))

  declared-sound : (i : ℕ) → Holds (λ r. Declared ts i r.0.0 r.0.1 r.1) (declared_at ts i)
  unfolding declared_at
  declared-sound i = then_found (λ w e. behind_holds ts (i + 1) symbol.ColonColon _ _ (λ c. then_holds (kind-sound (i + 2)) (λ k p. found (part.declared e c p))))

  variable-sound : (n i : ℕ) → Holds (λ r. Item ts n i r.0 r.1 r.2) (variable_at ts n i)
  unfolding variable_at flags_at
  variable-sound n i = then_holds (then_holds {Q = λ f. (ms : List Symbol) × Modifiers ts of_variables i ms f.1 × (f.0.0 ≡ has ms symbol.Static) × (f.0.1 ≡ has ms symbol.Ghost)} (modifiers-sound ts of_variables (suc (length ts)) i) (λ ms p. found (ms.0, p, refl, refl)))
      (λ f p. behind_holds ts f.1 symbol.Specvar _ _ (λ s. then_holds (declared-sound (f.1 + 1)) (λ d q. then_holds (clause-sound symbol.Equal n d.1) (λ init r. behind_holds ts init.1 symbol.Semicolon _ _ (λ e.
      found (subst (λ (x : Bool × Bool). Item ts n i (part.variable (record { name = d.0.0; kind = d.0.1; fixed = x.0; is_ghost = x.1; init = init.0 })) (init.1 + 1) init.2) (λ k. (sym p.2 k, sym p.3 k)) (part.a_variable p.1 s q r e)))))))

  defined-sound : (n i : ℕ) → Holds (λ r. Defined ts n i r.0.0 r.0.1 r.1) (defined_at ts n i)
  unfolding defined_at
  defined-sound n i = choose_holds (λ o. then_found (λ w e. behind_holds ts (i + 2) symbol.EqualEqual _ _ (λ q. then_holds (formula-sound ts (i + 3)) (λ t p. found (part.defined o e q p))))) (λ _. nothing)

  definition-sound : (n i : ℕ) → Is ts i symbol.Vardefs → Holds (λ r. Item ts n i r.0 r.1 r.2) (definition_at ts n i)
  unfolding definition_at
  definition-sound n i v = then_holds (defined-sound n (i + 1)) (λ d p. behind_holds ts d.1 symbol.Semicolon _ _ (λ e. found (part.a_definition v p e)))

  labelled-sound : (n i : ℕ) → Holds (λ r. Labelled ts n i r.0 r.1) (labelled_at ts n i)
  unfolding labelled_at
  labelled-sound n i = then_holds (label-sound i) (λ l p. then_holds (quoted-sound n l.1) (λ q r. found (part.labelled_formula p r)))

  invariant-sound : (n i a : ℕ) → Visibility ts i a → Is ts a symbol.Invariant → Holds (λ r. Item ts n i r.0 r.1 r.2) (invariant_at ts n a)
  unfolding invariant_at
  invariant-sound n i a v s = then_holds (labelled-sound n (a + 1)) (λ l p. behind_holds ts l.1 symbol.Semicolon _ _ (λ d. found (part.an_invariant v s p d)))

  seen : (i : ℕ) (a b : Bool) → is_at ts i symbol.Public ≡ a → is_at ts i symbol.Private ≡ b → (a || b) ≡ true → Visibility ts i (i + 1)
  seen i true b e f h = part.for_all e
  seen i false b e f h = part.for_class (f ∙ h)

  item-sound : (n i : ℕ) → Holds (λ r. Item ts n i r.0 r.1 r.2) (item_at ts n i)
  unfolding item_at
  item-sound n i = choose_holds (λ v. definition-sound n i v) (λ _. choose_holds (λ s. invariant-sound n i i part.unsaid s) (λ _.
      choose_holds (λ e. let p = and_parts (is_at ts i symbol.Public || is_at ts i symbol.Private) (is_at ts (i + 1) symbol.Invariant) e in invariant-sound n i (i + 1) (seen i _ _ refl refl p.0) p.1) (λ _. variable-sound n i)))

  loop_item-sound : (n i : ℕ) → Holds (λ r. LoopItem ts n i r.0 r.1 r.2) (loop_item_at ts n i)
  unfolding loop_item_at
  loop_item-sound n i = behind_holds ts i symbol.Inv _ _ (λ s. then_holds (labelled-sound n (i + 1)) (λ l p. found (part.loop_item s p (semicolon-sound l.1))))

  from_words-sound : (k i : ℕ) → Holds (λ r. FromWords ts i r.0 r.1) (separated_at ts (word_reader ts) k i)
  unfolding separated_at
  from_words-sound zero i = nothing
  from_words-sound (suc k) i = then_holds (word-sound i) (λ w p. choose_holds (λ c. then_holds (from_words-sound k (w.1 + 1)) (λ r q. found (one_more i w.0 w.1 r.0 r.1 p c q))) (λ _. found (only i w.0 w.1 p))) where
    word-sound : (i : ℕ) → Holds (λ r. (word_at ts i ≡ Some r.0) × (r.1 ≡ i + 1)) (word_reader ts i)
    word-sound i = then_found (λ w e. found (e, refl))

    only : (i : ℕ) (w : Word) (j : ℕ) → (word_at ts i ≡ Some w) × (j ≡ i + 1) → FromWords ts i (w ∷ []) j
    only i w j p = subst (λ k. FromWords ts i (w ∷ []) k) (sym p.1) (part.last_word p.0)

    one_more : (i : ℕ) (w : Word) (j : ℕ) (ws : List Word) (k : ℕ) → (word_at ts i ≡ Some w) × (j ≡ i + 1) → Is ts j symbol.Comma → FromWords ts (j + 1) ws k → FromWords ts i (w ∷ ws) k
    one_more i w j ws k p c q = part.more_words p.0 (subst (λ x. Is ts x symbol.Comma) p.1 c) (subst (λ x. FromWords ts (x + 1) ws k) p.1 q)

  from-sound : (i : ℕ) → Holds (λ r. From ts i r.0 r.1) (words_after ts symbol.From (word_reader ts) i)
  unfolding words_after
  from-sound i = choose_holds (λ e. holds_by (from_words-sound (length ts) (i + 1)) (λ r p. part.from_words e p)) (λ _. found part.from_all) where
    holds_by : {A : Type 0} {P Q : A → Type 0} {o : Option A} → Holds P o → ((x : A) → P x → Q x) → Holds Q o
    holds_by nothing go = nothing
    holds_by (found p) go = found (go _ p)

  spoken-sound : (n i : ℕ) → Holds (λ r. Spoken ts n i r.0 r.1) (spoken_at ts n i)
  unfolding spoken_at
  spoken-sound n i = then_holds (label-sound i) (λ l p. then_holds (quoted-sound n l.1) (λ q r. then_holds (from-sound q.1) (λ ws s. found (part.spoken p r s))))

  target-sound : (n i : ℕ) → Holds (λ r. Target ts n i r.0 r.1) (target_at ts n i)
  unfolding target_at named_at
  target-sound n i = choose_holds (λ o. then_holds (postfix-sound ts (inside ts (length ts)) (inside-sound ts (length ts)) (i + 1)) (λ t p. choose_holds (λ c. found (part.a_read o p c)) (λ _. nothing))) (λ _. then_found (λ w e. found (part.a_name e)))

  ghost-sound : (n i : ℕ) → Holds (λ r. Statement ts n i r.0 r.1 r.2) (ghost_at ts n i)
  unfolding ghost_at
  ghost-sound n i = then_holds (target-sound n i) (λ v p. behind_holds ts v.1 symbol.ColonEqual _ _ (λ s. then_holds (quoted-sound (n + 1) (v.1 + 1)) (λ q r. found (part.a_ghost p s r (semicolon-sound q.1)))))

  statement-sound : (n i : ℕ) → Holds (λ r. Statement ts n i r.0 r.1 r.2) (statement_at ts n i)
  unfolding statement_at said_at
  statement-sound n i = choose_holds (λ e. then_holds (spoken-sound n (i + 1)) (λ l p. found (part.an_assert e p (semicolon-sound l.1)))) (λ _.
      choose_holds (λ e. then_holds (spoken-sound n (i + 1)) (λ l p. found (part.a_note e p (semicolon-sound l.1)))) (λ _. ghost-sound n i))

  pub items-sound : (n i : ℕ) → Holds (λ r. Items ts n i r.0 r.1 r.2) (items_at ts n i)
  items-sound n i = many-sound (Item ts) (is_spec_close_at ts) (item_at ts) item-sound (length ts) n i

  pub loop-sound : (n i : ℕ) → Holds (λ r. Loop ts n i r.0 r.1 r.2) (loop_at ts n i)
  loop-sound n i = many-sound (LoopItem ts) (is_spec_close_at ts) (loop_item_at ts) loop_item-sound (length ts) n i

  pub statements-sound : (n i : ℕ) → Holds (λ r. Statements ts n i r.0 r.1 r.2) (statements_at ts n i)
  statements-sound n i = many-sound (Statement ts) (is_spec_close_at ts) (statement_at ts) statement-sound (length ts) n i

  ensured-sound : (n i : ℕ) → Holds (λ r. Clause ts symbol.Ensures n i r.0 r.1 r.2 × (is_spec_close_at ts r.1 ≡ true)) (ensured_at ts n i)
  unfolding ensured_at
  ensured-sound n i = then_holds (clause-sound symbol.Ensures n i) (λ c p. choose_holds (λ e. found (p, e)) (λ _. nothing))

  -- what stands after the first clause of a contract
  record Promise (n i : ℕ) (ws : List Word) (post : Option SpecPart) (j m : ℕ) : Type 0 where
    after : ℕ
    modifies : Modifies ts i ws after
    ensures : Clause ts symbol.Ensures n after post j m
    closes : is_spec_close_at ts j ≡ true

  promised-sound : (n i : ℕ) → Holds (λ r. Promise n i r.0.0 r.0.1 r.1 r.2) (promised_at ts n i)
  unfolding promised_at
  promised-sound n i = then_holds (modifies-sound i) (λ ws q. then_holds (ensured-sound n ws.1) (λ post r. found (record { after = ws.1; modifies = q; ensures = r.0; closes = r.1 })))

  pub contracted-sound : (n i : ℕ) → Holds (λ r. Contracted ts n i r.0.0 r.0.1 r.0.2 r.1 r.2) (contracted_at ts n i)
  unfolding contracted_at
  contracted-sound n i = then_holds (clause-sound symbol.Requires n i) (λ pre p. then_holds (promised-sound pre.2 pre.1) (λ r q. found (part.contract_of p q.modifies q.ensures, q.closes)))

  pub claimed-sound : (i : ℕ) → Holds (λ r. Claimed ts i r.0 r.1) (claimed_at ts i)
  unfolding claimed_at
  claimed-sound i = behind_holds ts i symbol.ClaimedBy _ _ (λ s. then_found (λ w e. choose_holds (λ c. found (s, e, refl, c)) (λ _. nothing)))

  closes_or : (i : ℕ) (m : ℕ) → (kind_at ts i == m) ≡ true → (m == 79) ≡ false → is_spec_close_at ts i ≡ false
  closes_or i m e d = kinds-apart ts i m 79 e d

  contract_open : (i : ℕ) → begins_contract_at ts i ≡ true → is_spec_close_at ts i ≡ false
  contract_open i e = by_first (is_at ts i symbol.Requires) (is_at ts i symbol.Modifies) refl refl e where
    by_first : (a b : Bool) → is_at ts i symbol.Requires ≡ a → is_at ts i symbol.Modifies ≡ b → (a || (b || is_at ts i symbol.Ensures)) ≡ true → is_spec_close_at ts i ≡ false
    by_first true b p q h = closes_or i _ p refl
    by_first false true p q h = closes_or i _ q refl
    by_first false false p q h = closes_or i _ h refl

  statement_open : (i : ℕ) → begins_statement_at ts i ≡ true → is_spec_close_at ts i ≡ false
  statement_open i e = by_first (is_at ts i symbol.Assert) (is_at ts i symbol.Note) (is_plain_word_at ts i) (is_qualified_at ts i) refl refl refl refl e where
    by_first : (a b c d : Bool) → is_at ts i symbol.Assert ≡ a → is_at ts i symbol.Note ≡ b → is_plain_word_at ts i ≡ c → is_qualified_at ts i ≡ d → ((a || b) || ((c || d) || is_quote_open_at ts i)) ≡ true → is_spec_close_at ts i ≡ false
    by_first true b c d p q r t h = closes_or i _ p refl
    by_first false true c d p q r t h = closes_or i _ q refl
    by_first false false true d p q r t h = closes_or i 75 r refl
    by_first false false false true p q r t h = closes_or i 76 t refl
    by_first false false false false p q r t h = closes_or i 80 h refl

  pub part-sound : (i : ℕ) → Holds (λ r. Part ts i r.0 r.1) (part_at ts i)
  unfolding part_at
  part-sound i = choose_holds (λ _. then_holds (claimed-sound i) (λ w p. found (part.a_claim p))) (λ _.
      choose_holds (λ b. then_holds (contracted-sound 0 i) (λ c p. found (part.a_contract (contract_open i b) p))) (λ _.
      choose_holds (λ b. then_holds (loop-sound 0 i) (λ r p. found (part.some_invariants (closes_or i _ b refl) p))) (λ _.
      choose_holds (λ b. then_holds (statements-sound 0 i) (λ r p. found (part.some_statements (statement_open i b) p))) (λ _.
      then_holds (items-sound 0 i) (λ r p. found (part.some_items p))))))
