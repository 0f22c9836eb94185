-- What stands there of a specification is read.
use Rattle.std.proofs.Common.{◌∙◌, ◌≡◌, ℕ, zero, suc, ◌+◌, ◌<◌, ◌≤◌, Bool, true, false, List, length, refl, ap, sym, subst, arith}
use Rattle.std.proofs.lemmas.Bool.{false≢true, and_from, or_right}
use Rattle.std.specs.Prelude.{Option, None, Some, ◌==◌, ◌&&◌, ◌||◌, codes}
use Rattle.jh_name.specs.declared.place.Kind.{Kind}
use Rattle.jh_lex.specs.lexer.Numbers.{symbol_number}
use Rattle.jh_lex.specs.declared.lexer.symbol.Symbol.{Symbol}
use Rattle.jh_lex.specs.declared.lexer.symbol.Symbol.TheVariants as symbol
use Rattle.jh_lex.specs.declared.lexer.token.Token.{Token}
use Rattle.jh_ast.specs.declared.word.Word.{Word}
use Rattle.jh_ast.specs.Forms.{SpecPart, LabelledPart}
use Rattle.jh_ast.specs.Stmts.{StmtTree}
use Rattle.jh_ast.specs.Stmts as stmt
use Rattle.jh_operators.specs.lookahead.Lists as list
use Rattle.jh_operators.specs.lookahead.Lists.{Many}
use Rattle.jh_operators.specs.lookahead.Modifiers.{has, ModifiersAfter, Modifiers, allowed_at}
use Rattle.jh_operators.specs.lookahead.Modifiers as modifier
use Rattle.jh_operators.specs.lookahead.Standing.{is_name_at, Is, kind_at, is_at, is_spec_close_at, is_quote_open_at, place_at}
use Rattle.jh_operators.proofs.lookahead.Facts.{kinds-apart, within, kind-within, word-kind, name-kind, name-other}
use Rattle.jh_operators.proofs.lookahead.Lists.{many-complete}
use Rattle.jh_operators.proofs.lookahead.Modified.{modifiers-complete, modifiers-end}
use Rattle.jh_operators.proofs.lookahead.Options.{Holds, nothing, found, choose_holds, of_found, then_is, choose_on, choose_off, behind_on}
use Rattle.jh_operators.proofs.lookahead.Words.{text-kind, text-other, kind-no_text}
use Rattle.jh_spec.specs.parser.Parts.{ItemTree, Quoted, Label, MaybeSemicolon, Clause, ModifiesItem, ModifiesItems, Modifies, Contract, SpecType, Declared, Visibility, Defined, Labelled, Item, LoopItem, FromWords, From, Spoken, Target, Statement, Items, Loop, Statements, Contracted, Claimed, Part, PartTree, of_variables}
use Rattle.jh_spec.specs.parser.Parts as part
use Rattle.jh_spec.specs.parser.PartReading.{quoted_at, label_at, semicolon_at, clause_at, modifies_item_at, separated_at, words_after, ensured_at, promised_at, kind_of_at, declared_at, flags_at, variable_at, defined_at, definition_at, labelled_at, named_at, invariant_at, is_seen_invariant_at, item_at, loop_item_at, word_reader, spoken_at, target_at, ghost_at, said_at, statement_at, items_at, loop_at, statements_at, contracted_at, claimed_at, begins_contract_at, begins_statement_at, part_at}
use Rattle.jh_spec.proofs.parser.Ends.{operand-end, postfix-end}
use Rattle.jh_spec.proofs.parser.Complete.{formula-complete, postfix-complete}
use Rattle.jh_spec.proofs.parser.Facts.{quote-rank}

module _ (ts : List Token) where
  -- ---- where the parts end, and with what they begin
  pub quoted-end : {n i j : ℕ} {q : SpecPart} → Quoted ts n i q j → i < j
  quoted-end (part.quoted o p) = omega (arith, operand-end ts p.formula)

  quoted-opens : {n i j : ℕ} {q : SpecPart} → Quoted ts n i q j → is_quote_open_at ts i ≡ true
  quoted-opens (part.quoted o p) = o

  pub label-end : {i j : ℕ} {l : Option Word} → Label ts i l j → i ≤ j
  label-end part.unlabelled = omega arith
  label-end (part.labelled w c) = omega arith

  pub semicolon-end : {i j : ℕ} → MaybeSemicolon ts i j → i ≤ j
  semicolon-end part.without = omega arith
  semicolon-end (part.with s) = omega arith

  semicolon-not : {i j : ℕ} (u : ℕ) → (symbol_number symbol.Semicolon == u) ≡ false → MaybeSemicolon ts i j → (kind_at ts j == u) ≡ false → (kind_at ts i == u) ≡ false
  semicolon-not u d part.without e = e
  semicolon-not {i = i} u d (part.with s) e = kinds-apart ts i _ u s d

  clause-end : {s : Symbol} {n i j m : ℕ} {o : Option SpecPart} → Clause ts s n i o j m → i ≤ j
  clause-end part.absent = omega arith
  clause-end (part.present s q) = omega (arith, quoted-end q)

  clause-not : {s : Symbol} {n i j m : ℕ} {o : Option SpecPart} (u : ℕ) → (symbol_number s == u) ≡ false → Clause ts s n i o j m → (kind_at ts j == u) ≡ false → (kind_at ts i == u) ≡ false
  clause-not u d part.absent e = e
  clause-not {i = i} u d (part.present s q) e = kinds-apart ts i _ u s d

  item_end : {i j : ℕ} {w : Word} → ModifiesItem ts i w j → i < j
  item_end (part.plain e) = omega arith
  item_end (part.in_quotes o e c) = omega arith

  items_end : {i j : ℕ} {ws : List Word} → ModifiesItems ts i ws j → i < j
  items_end (part.last_item p) = item_end p
  items_end (part.more_items p c q) = omega (arith, item_end p, items_end q)

  modifies-not : {i j : ℕ} {ws : List Word} (u : ℕ) → (symbol_number symbol.Modifies == u) ≡ false → Modifies ts i ws j → (kind_at ts j == u) ≡ false → (kind_at ts i == u) ≡ false
  modifies-not u d part.modifies_nothing e = e
  modifies-not {i = i} u d (part.modifies s p) e = kinds-apart ts i _ u s d

  pub from_words-end : {i j : ℕ} {ws : List Word} → FromWords ts i ws j → i < j
  from_words-end (part.last_word e) = omega arith
  from_words-end (part.more_words e c p) = omega (arith, from_words-end p)

  from-not : {i j : ℕ} {ws : List Word} (u : ℕ) → (symbol_number symbol.From == u) ≡ false → From ts i ws j → (kind_at ts j == u) ≡ false → (kind_at ts i == u) ≡ false
  from-not u d part.from_all e = e
  from-not {i = i} u d (part.from_words s p) e = kinds-apart ts i _ u s d

  pub from-end : {i j : ℕ} {ws : List Word} → From ts i ws j → i ≤ j
  from-end part.from_all = omega arith
  from-end (part.from_words s p) = omega (arith, from_words-end p)

  pub spoken-end : {n i j : ℕ} {l : LabelledPart} → Spoken ts n i l j → i < j
  spoken-end (part.spoken l q w) = omega (arith, label-end l, quoted-end q, from-end w)

  -- ---- what is read
  quoted-complete : {n i j : ℕ} {q : SpecPart} → Quoted ts n i q j → quoted_at ts n i ≡ Some (q, j)
  unfolding quoted_at
  quoted-complete {i = i} (part.quoted {j = j} {t = t} o p) = choose_on _ o (then_is _ (formula-complete ts (i + 1) j t p) refl)

  label-complete : {i j : ℕ} {l : Option Word} → Label ts i l j → is_quote_open_at ts j ≡ true → label_at ts i ≡ Some (l, j)
  unfolding label_at
  label-complete {i = i} part.unlabelled o = choose_off _ (ap (λ b. b && is_at ts (i + 1) symbol.Colon) (kinds-apart ts i 80 75 o refl)) refl
  label-complete {i = i} (part.labelled {w = w} e c) o = choose_on _ (and_from _ _ (word-kind ts i w e) c) (then_is _ e refl)

  semicolon-complete : {i j : ℕ} → MaybeSemicolon ts i j → is_at ts j symbol.Semicolon ≡ false → semicolon_at ts i ≡ j
  unfolding semicolon_at
  semicolon-complete part.without e = choose_off _ e refl
  semicolon-complete (part.with s) e = choose_on _ s refl

  clause-complete : {s : Symbol} {n i j m : ℕ} {o : Option SpecPart} → Clause ts s n i o j m → is_at ts j s ≡ false → clause_at ts s n i ≡ Some (o, j, m)
  unfolding clause_at
  clause-complete part.absent e = choose_off _ e refl
  clause-complete (part.present s q) e = choose_on _ s (then_is _ (quoted-complete q) refl)

  item-complete_ : {i j : ℕ} {w : Word} → ModifiesItem ts i w j → modifies_item_at ts i ≡ Some (w, j)
  unfolding modifies_item_at
  item-complete_ {i = i} (part.plain {w = w} e) = choose_off _ (name-other ts i 80 w e refl refl) (then_is _ e refl)
  item-complete_ (part.in_quotes o e c) = choose_on _ o (then_is _ e (choose_on _ c refl))

  modifies_items-complete : (k : ℕ) {i j : ℕ} {ws : List Word} → ModifiesItems ts i ws j → is_at ts j symbol.Comma ≡ false → j < i + k → separated_at ts (modifies_item_at ts) k i ≡ Some (ws, j)
  unfolding separated_at
  modifies_items-complete zero p stop h = absurd (omega (arith, h, items_end p))
  modifies_items-complete (suc k) (part.last_item p) stop h = then_is _ (item-complete_ p) (choose_off _ stop refl)
  modifies_items-complete (suc k) (part.more_items p c q) stop h = then_is _ (item-complete_ p) (choose_on _ c (then_is _ (modifies_items-complete k q stop (omega (arith, h, item_end p))) refl))

  modifies-complete : {i j : ℕ} {ws : List Word} → Modifies ts i ws j → is_at ts j symbol.Modifies ≡ false → is_at ts j symbol.Comma ≡ false → j < length ts → words_after ts symbol.Modifies (modifies_item_at ts) i ≡ Some (ws, j)
  unfolding words_after
  modifies-complete part.modifies_nothing e f h = choose_off _ e refl
  modifies-complete (part.modifies s p) e f h = choose_on _ s (modifies_items-complete (length ts) p f (omega (arith, h)))

  kind-complete : {i j : ℕ} {k : Kind} → SpecType ts i k j → kind_of_at ts i ≡ Some (k, j)
  unfolding kind_of_at
  kind-complete (part.an_object e) = choose_on _ e refl
  kind-complete {i = i} (part.an_integer e) = choose_off _ (kind-no_text ts i _ (codes "obj") e refl) (choose_on _ e refl)
  kind-complete {i = i} (part.a_truth e) = choose_off _ (text-other ts i (codes "bool") (codes "obj") e refl) (choose_off _ (kinds-apart ts i 75 _ (text-kind ts i (codes "bool") e) refl) (choose_on _ e refl))
  kind-complete {i = i} (part.a_set e) = choose_off _ (text-other ts i (codes "objset") (codes "obj") e refl) (choose_off _ (kinds-apart ts i 75 _ (text-kind ts i (codes "objset") e) refl) (choose_off _ (text-other ts i (codes "objset") (codes "bool") e refl) (choose_on _ e refl)))
  kind-complete {i = i} (part.a_set_in_quotes o a b c) = choose_off _ (kind-no_text ts i 80 (codes "obj") o refl) (choose_off _ (kinds-apart ts i 80 _ o refl) (choose_off _ (kind-no_text ts i 80 (codes "bool") o refl) (choose_off _ (kind-no_text ts i 80 (codes "objset") o refl)
      (choose_on _ (and_from _ _ o (and_from _ _ a (and_from _ _ b c))) refl))))

  kind-end : {i j : ℕ} {k : Kind} → SpecType ts i k j → i < j
  kind-end (part.an_object e) = omega arith
  kind-end (part.an_integer e) = omega arith
  kind-end (part.a_truth e) = omega arith
  kind-end (part.a_set e) = omega arith
  kind-end (part.a_set_in_quotes o a b c) = omega arith

  -- no other symbol stands where a modifier of variables does
  allowed_not : (u i : ℕ) → (symbol_number symbol.Public == u) ≡ false → (symbol_number symbol.Private == u) ≡ false → (symbol_number symbol.Static == u) ≡ false → (symbol_number symbol.Ghost == u) ≡ false → Holds (λ s. (kind_at ts i == u) ≡ false) (allowed_at ts of_variables i)
  unfolding allowed_at
  allowed_not u i a b c d = choose_holds (λ e. found (kinds-apart ts i _ u e a)) (λ _. choose_holds (λ e. found (kinds-apart ts i _ u e b)) (λ _. choose_holds (λ e. found (kinds-apart ts i _ u e c)) (λ _. choose_holds (λ e. found (kinds-apart ts i _ u e d)) (λ _. nothing))))

  modified_not : {seen ms : List Symbol} {i j : ℕ} (u : ℕ) → (symbol_number symbol.Public == u) ≡ false → (symbol_number symbol.Private == u) ≡ false → (symbol_number symbol.Static == u) ≡ false → (symbol_number symbol.Ghost == u) ≡ false → (symbol_number symbol.Specvar == u) ≡ false
      → ModifiersAfter ts of_variables seen i ms j → Is ts j symbol.Specvar → (kind_at ts i == u) ≡ false
  modified_not {i = i} u a b c d f modifier.no_more s = kinds-apart ts i _ u s f
  modified_not {i = i} u a b c d f (modifier.one_more {s = x} e new p) s = of_found (allowed_not u i a b c d) x e

  none_allowed : (i : ℕ) → Is ts i symbol.Specvar → allowed_at ts of_variables i ≡ None
  unfolding allowed_at
  none_allowed i s = choose_off _ (kinds-apart ts i _ _ s refl) (choose_off _ (kinds-apart ts i _ _ s refl) (choose_off _ (kinds-apart ts i _ _ s refl) (choose_off _ (kinds-apart ts i _ _ s refl) refl)))

  not_seen : {seen ms : List Symbol} {i j : ℕ} → ModifiersAfter ts of_variables seen i ms j → Is ts j symbol.Specvar → is_seen_invariant_at ts i ≡ false
  not_seen {i = i} modifier.no_more s = ap (λ b. b && is_at ts (i + 1) symbol.Invariant) (λ k. kinds-apart ts i _ (symbol_number symbol.Public) s refl k || kinds-apart ts i _ (symbol_number symbol.Private) s refl k)
  not_seen {i = i} (modifier.one_more e new p) s = second_false _ _ (modified_not (symbol_number symbol.Invariant) refl refl refl refl refl p s) where
    second_false : (a b : Bool) → b ≡ false → (a && b) ≡ false
    second_false true b h = h
    second_false false b h = refl

  declared-end : {i j : ℕ} {w : Word} {k : Kind} → Declared ts i w k j → i < j
  declared-end (part.declared e c p) = omega (arith, kind-end p)

  declared-complete : {i j : ℕ} {w : Word} {k : Kind} → Declared ts i w k j → declared_at ts i ≡ Some ((w, k), j)
  unfolding declared_at
  declared-complete {i = i} (part.declared e c p) = then_is _ e (then_is _ (behind_on ts (i + 1) symbol.ColonColon c) (then_is _ (kind-complete p) refl))

  variable-complete : {n i j m a b : ℕ} {ms : List Symbol} {w : Word} {k : Kind} {init : Option SpecPart} → Modifiers ts of_variables i ms a → Is ts a symbol.Specvar → Declared ts (a + 1) w k b → Clause ts symbol.Equal n b init j m → Is ts j symbol.Semicolon
      → variable_at ts n i ≡ Some (part.variable (record { name = w; kind = k; fixed = has ms symbol.Static; is_ghost = has ms symbol.Ghost; init = init }), j + 1, m)
  unfolding variable_at flags_at
  variable-complete {i = i} {j = j} {a = a} {ms = ms} p s q r d = then_is _ (then_is _ (modifiers-complete ts of_variables (suc (length ts)) i a ms p (none_allowed a s) (omega (arith, modifiers-end p, within ts a symbol.Specvar refl s))) refl)
      (then_is _ (behind_on ts a symbol.Specvar s) (then_is _ (declared-complete q) (then_is _ (clause-complete r (kinds-apart ts j _ _ d refl)) (then_is _ (behind_on ts j symbol.Semicolon d) refl))))

  defined-end : {n i j : ℕ} {w : Word} {q : SpecPart} → Defined ts n i w q j → i < j
  defined-end (part.defined o e q p) = omega (arith, operand-end ts p.formula)

  defined-complete : {n i j : ℕ} {w : Word} {q : SpecPart} → Defined ts n i w q j → defined_at ts n i ≡ Some ((w, q), j)
  unfolding defined_at
  defined-complete {i = i} (part.defined {j = k} {t = t} o e q p) = choose_on _ o (then_is _ e (then_is _ (behind_on ts (i + 2) symbol.EqualEqual q) (then_is _ (formula-complete ts (i + 3) k t p) refl)))

  pub labelled-end : {n i j : ℕ} {l : LabelledPart} → Labelled ts n i l j → i < j
  labelled-end (part.labelled_formula p q) = omega (arith, label-end p, quoted-end q)

  labelled-complete : {n i j : ℕ} {l : LabelledPart} → Labelled ts n i l j → labelled_at ts n i ≡ Some (l, j)
  unfolding labelled_at
  labelled-complete (part.labelled_formula p q) = then_is _ (label-complete p (quoted-opens q)) (then_is _ (quoted-complete q) refl)

  invariant-complete : (n a j : ℕ) (l : LabelledPart) → Labelled ts n (a + 1) l j → Is ts j symbol.Semicolon → invariant_at ts n a ≡ Some (part.invariant l, j + 1, n + 1)
  unfolding invariant_at
  invariant-complete n a j l p d = then_is _ (labelled-complete p) (then_is _ (behind_on ts j symbol.Semicolon d) refl)

  item-complete : (n i j m : ℕ) (x : ItemTree) → Item ts n i x j m → item_at ts n i ≡ Some (x, j, m)
  unfolding item_at definition_at
  item-complete n i j m x (part.a_variable {a = a} p s q r d) = choose_off _ (modified_not (symbol_number symbol.Vardefs) refl refl refl refl refl p s) (choose_off _ (modified_not (symbol_number symbol.Invariant) refl refl refl refl refl p s) (choose_off _ (not_seen p s) (variable-complete p s q r d)))
  item-complete n i j m x (part.a_definition {j = k} v p d) = choose_on _ v (then_is _ (defined-complete p) (then_is _ (behind_on ts k symbol.Semicolon d) refl))
  item-complete n i j m x (part.an_invariant part.unsaid s p d) = choose_off _ (kinds-apart ts i _ _ s refl) (choose_on _ s (invariant-complete n _ _ _ p d))
  item-complete n i j m x (part.an_invariant (part.for_all v) s p d) = choose_off _ (kinds-apart ts i _ _ v refl) (choose_off _ (kinds-apart ts i _ _ v refl) (choose_on _ (and_from _ _ (ap (λ b. b || is_at ts i symbol.Private) v) s) (invariant-complete n _ _ _ p d)))
  item-complete n i j m x (part.an_invariant (part.for_class v) s p d) = choose_off _ (kinds-apart ts i _ _ v refl) (choose_off _ (kinds-apart ts i _ _ v refl) (choose_on _ (and_from _ _ (or_right _ _ v) s) (invariant-complete n _ _ _ p d)))

  modifiers-forward : {seen ms : List Symbol} {i j : ℕ} → ModifiersAfter ts of_variables seen i ms j → i ≤ j
  modifiers-forward p = omega (arith, modifiers-end p)

  item-end : (n i j m : ℕ) (x : ItemTree) → Item ts n i x j m → i < j
  item-end n i j m x (part.a_variable p s q r d) = omega (arith, modifiers-forward p, declared-end q, clause-end r)
  item-end n i j m x (part.a_definition v p d) = omega (arith, defined-end p)
  item-end n i j m x (part.an_invariant part.unsaid s p d) = omega (arith, labelled-end p)
  item-end n i j m x (part.an_invariant (part.for_all v) s p d) = omega (arith, labelled-end p)
  item-end n i j m x (part.an_invariant (part.for_class v) s p d) = omega (arith, labelled-end p)

  item-opens : (n i j m : ℕ) (x : ItemTree) → Item ts n i x j m → is_spec_close_at ts i ≡ false
  item-opens n i j m x (part.a_variable p s q r d) = modified_not 79 refl refl refl refl refl p s
  item-opens n i j m x (part.a_definition v p d) = kinds-apart ts i _ 79 v refl
  item-opens n i j m x (part.an_invariant part.unsaid s p d) = kinds-apart ts i _ 79 s refl
  item-opens n i j m x (part.an_invariant (part.for_all v) s p d) = kinds-apart ts i _ 79 v refl
  item-opens n i j m x (part.an_invariant (part.for_class v) s p d) = kinds-apart ts i _ 79 v refl

  pub items-complete : {n i j m : ℕ} {xs : List ItemTree} → Items ts n i xs j m → items_at ts n i ≡ Some (xs, j, m)
  items-complete {j = j} p = many-complete (Item ts) (is_spec_close_at ts) (item_at ts) (λ _. Unit {0}) (λ n i j m x q. (item-opens n i j m x q, item-end n i j m x q, tt)) (λ _ _. tt) (λ n i j m x q _. item-complete n i j m x q) (length ts) p.0 p.1 (omega (arith, kind-within ts j 79 refl p.1))

  loop_item-complete : (n i j m : ℕ) (x : LabelledPart) → LoopItem ts n i x j m → is_at ts j symbol.Semicolon ≡ false → loop_item_at ts n i ≡ Some (x, j, m)
  unfolding loop_item_at
  loop_item-complete n i j m x (part.loop_item {l = l} s p d) stop = then_is _ (behind_on ts i symbol.Inv s) (then_is _ (labelled-complete p) (ap (λ k. Some (l, k, n + 1)) (semicolon-complete d stop)))

  loop_item-begins : (n i j m : ℕ) (x : LabelledPart) → LoopItem ts n i x j m → (is_spec_close_at ts i ≡ false) × (i < j) × (is_at ts i symbol.Semicolon ≡ false)
  loop_item-begins n i j m x (part.loop_item s p d) = (kinds-apart ts i _ 79 s refl, omega (arith, labelled-end p, semicolon-end d), kinds-apart ts i _ _ s refl)

  pub loop-complete : {n i j m : ℕ} {xs : List LabelledPart} → Loop ts n i xs j m → loop_at ts n i ≡ Some (xs, j, m)
  loop-complete {j = j} p = many-complete (LoopItem ts) (is_spec_close_at ts) (loop_item_at ts) (λ i. is_at ts i symbol.Semicolon ≡ false) loop_item-begins (λ i e. kinds-apart ts i 79 _ e refl) loop_item-complete (length ts) p.0 p.1 (omega (arith, kind-within ts j 79 refl p.1))

  from_words-complete : (k : ℕ) {i j : ℕ} {ws : List Word} → FromWords ts i ws j → is_at ts j symbol.Comma ≡ false → j < i + k → separated_at ts (word_reader ts) k i ≡ Some (ws, j)
  unfolding separated_at
  from_words-complete zero p stop h = absurd (omega (arith, h, from_words-end p))
  from_words-complete (suc k) (part.last_word e) stop h = then_is _ (then_is _ e refl) (choose_off _ stop refl)
  from_words-complete (suc k) (part.more_words e c p) stop h = then_is _ (then_is _ e refl) (choose_on _ c (then_is _ (from_words-complete k p stop (omega (arith, h))) refl))

  from-complete : {i j : ℕ} {ws : List Word} → From ts i ws j → is_at ts j symbol.From ≡ false → is_at ts j symbol.Comma ≡ false → j < length ts → words_after ts symbol.From (word_reader ts) i ≡ Some (ws, j)
  unfolding words_after
  from-complete part.from_all e f h = choose_off _ e refl
  from-complete (part.from_words s p) e f h = choose_on _ s (from_words-complete (length ts) p f (omega (arith, h)))

  spoken-complete : {n i j : ℕ} {l : LabelledPart} → Spoken ts n i l j → is_at ts j symbol.From ≡ false → is_at ts j symbol.Comma ≡ false → j < length ts → spoken_at ts n i ≡ Some (l, j)
  unfolding spoken_at
  spoken-complete (part.spoken p q r) e f h = then_is _ (label-complete p (quoted-opens q)) (then_is _ (quoted-complete q) (then_is _ (from-complete r e f h) refl))

  target-complete : {n i j : ℕ} {v : SpecPart} → Target ts n i v j → target_at ts n i ≡ Some (v, j)
  unfolding target_at named_at
  target-complete {i = i} (part.a_name {w = w} e) = choose_off _ (name-other ts i 80 w e refl refl) (then_is _ e refl)
  target-complete {i = i} (part.a_read {j = j} o p c) = choose_on _ o (then_is _ (postfix-complete ts p (omega (arith, quote-rank ts j c)) (length ts) (omega arith) (omega (arith, kind-within ts j 81 refl c))) (choose_on _ c refl))

  pub target-end : {n i j : ℕ} {v : SpecPart} → Target ts n i v j → i < j
  target-end (part.a_name e) = omega arith
  target-end (part.a_read o p c) = omega (arith, postfix-end ts p)

  target-not : {n i j : ℕ} {v : SpecPart} (u : ℕ) → (75 == u) ≡ false → (76 == u) ≡ false → (80 == u) ≡ false → Target ts n i v j → (kind_at ts i == u) ≡ false
  target-not {i = i} u a b c (part.a_name {w = w} e) = name-other ts i u w e a b
  target-not {i = i} u a b c (part.a_read o p d) = kinds-apart ts i 80 u o c

  -- what may follow a statement
  record After (i : ℕ) : Type 0 where
    semicolon : is_at ts i symbol.Semicolon ≡ false
    from : is_at ts i symbol.From ≡ false
    comma : is_at ts i symbol.Comma ≡ false
    inside : i < length ts

  statement-complete : (n i j m : ℕ) (x : StmtTree) → Statement ts n i x j m → After j → statement_at ts n i ≡ Some (x, j, m)
  unfolding statement_at said_at ghost_at
  statement-complete n i j m x (part.an_assert {l = l} s p d) f = choose_on _ s (then_is _ (spoken-complete p (semicolon-not _ refl d f.from) (semicolon-not _ refl d f.comma) (omega (arith, semicolon-end d, f.inside))) (ap (λ k. Some (stmt.assert (place_at ts i) l, k, n + 1)) (semicolon-complete d f.semicolon)))
  statement-complete n i j m x (part.a_note {l = l} s p d) f = choose_off _ (kinds-apart ts i _ _ s refl) (choose_on _ s (then_is _ (spoken-complete p (semicolon-not _ refl d f.from) (semicolon-not _ refl d f.comma) (omega (arith, semicolon-end d, f.inside))) (ap (λ k. Some (stmt.note (place_at ts i) l, k, n + 1)) (semicolon-complete d f.semicolon))))
  statement-complete n i j m x (part.a_ghost {a = a} {v = v} {q = q} p s r d) f = choose_off _ (target-not _ refl refl refl p) (choose_off _ (target-not _ refl refl refl p) (then_is _ (target-complete p) (then_is _ (behind_on ts a symbol.ColonEqual s) (then_is _ (quoted-complete r) (ap (λ k. Some (stmt.ghost (place_at ts i) v q, k, n + 1 + 1)) (semicolon-complete d f.semicolon))))))

  statement-begins : (n i j m : ℕ) (x : StmtTree) → Statement ts n i x j m → (is_spec_close_at ts i ≡ false) × (i < j) × After i
  statement-begins n i j m x (part.an_assert s p d) = (kinds-apart ts i _ 79 s refl, omega (arith, spoken-end p, semicolon-end d), record { semicolon = kinds-apart ts i _ _ s refl; from = kinds-apart ts i _ _ s refl; comma = kinds-apart ts i _ _ s refl; inside = within ts i symbol.Assert refl s })
  statement-begins n i j m x (part.a_note s p d) = (kinds-apart ts i _ 79 s refl, omega (arith, spoken-end p, semicolon-end d), record { semicolon = kinds-apart ts i _ _ s refl; from = kinds-apart ts i _ _ s refl; comma = kinds-apart ts i _ _ s refl; inside = within ts i symbol.Note refl s })
  statement-begins n i j m x (part.a_ghost {a = a} p s r d) = (target-not 79 refl refl refl p, omega (arith, target-end p, quoted-end r, semicolon-end d), record { semicolon = target-not _ refl refl refl p; from = target-not _ refl refl refl p; comma = target-not _ refl refl refl p; inside = omega (arith, target-end p, within ts a symbol.ColonEqual refl s) })

  pub statements-complete : {n i j m : ℕ} {xs : List StmtTree} → Statements ts n i xs j m → statements_at ts n i ≡ Some (xs, j, m)
  statements-complete {j = j} p = many-complete (Statement ts) (is_spec_close_at ts) (statement_at ts) After statement-begins (λ i e. record { semicolon = kinds-apart ts i 79 _ e refl; from = kinds-apart ts i 79 _ e refl; comma = kinds-apart ts i 79 _ e refl; inside = kind-within ts i 79 refl e }) statement-complete (length ts) p.0 p.1 (omega (arith, kind-within ts j 79 refl p.1))

  pub contracted-complete : {n i j m : ℕ} {pre post : Option SpecPart} {ws : List Word} → Contracted ts n i pre ws post j m → contracted_at ts n i ≡ Some ((pre, ws, post), j, m)
  unfolding contracted_at promised_at ensured_at
  contracted-complete {j = j} (part.contract_of p q r, c) = then_is _ (clause-complete p (modifies-not _ refl q (clause-not _ refl r (kinds-apart ts j 79 _ c refl))))
      (then_is _ (then_is _ (modifies-complete q (clause-not _ refl r (kinds-apart ts j 79 _ c refl)) (clause-not _ refl r (kinds-apart ts j 79 _ c refl)) (omega (arith, clause-end r, kind-within ts j 79 refl c)))
      (then_is _ (then_is _ (clause-complete r (kinds-apart ts j 79 _ c refl)) (choose_on _ c refl)) refl)) refl)

  pub claimed-complete : (i j : ℕ) (w : Word) → Claimed ts i w j → claimed_at ts i ≡ Some (w, j)
  unfolding claimed_at
  claimed-complete i j w p = then_is _ (behind_on ts i symbol.ClaimedBy p.0) (then_is _ p.1 (choose_on _ (subst (λ k. is_spec_close_at ts k ≡ true) p.2 p.3) (ap (λ k. Some (w, k)) (sym p.2))))

  -- ---- whole parts
  item-not : (u n i j m : ℕ) (x : ItemTree) → (symbol_number symbol.Public == u) ≡ false → (symbol_number symbol.Private == u) ≡ false → (symbol_number symbol.Static == u) ≡ false → (symbol_number symbol.Ghost == u) ≡ false → (symbol_number symbol.Specvar == u) ≡ false → (symbol_number symbol.Vardefs == u) ≡ false → (symbol_number symbol.Invariant == u) ≡ false → Item ts n i x j m → (kind_at ts i == u) ≡ false
  item-not u n i j m x a b c d e f g (part.a_variable p s q r t) = modified_not u a b c d e p s
  item-not u n i j m x a b c d e f g (part.a_definition v p t) = kinds-apart ts i _ u v f
  item-not u n i j m x a b c d e f g (part.an_invariant part.unsaid s p t) = kinds-apart ts i _ u s g
  item-not u n i j m x a b c d e f g (part.an_invariant (part.for_all v) s p t) = kinds-apart ts i _ u v a
  item-not u n i j m x a b c d e f g (part.an_invariant (part.for_class v) s p t) = kinds-apart ts i _ u v b

  items-not : (u : ℕ) {n i j m : ℕ} {xs : List ItemTree} → (79 == u) ≡ false → (symbol_number symbol.Public == u) ≡ false → (symbol_number symbol.Private == u) ≡ false → (symbol_number symbol.Static == u) ≡ false → (symbol_number symbol.Ghost == u) ≡ false → (symbol_number symbol.Specvar == u) ≡ false → (symbol_number symbol.Vardefs == u) ≡ false → (symbol_number symbol.Invariant == u) ≡ false
      → Many (Item ts) n i xs j m → is_spec_close_at ts j ≡ true → (kind_at ts i == u) ≡ false
  items-not u {i = i} z a b c d e f g list.none h = kinds-apart ts i 79 u h z
  items-not u {n = n} {i = i} z a b c d e f g (list.more {j = k} {m = l} {x = x} p q) h = item-not u n i k l x a b c d e f g p

  none_of : (a b : Bool) → a ≡ false → b ≡ false → (a || b) ≡ false
  none_of a b e f = λ i. e i || f i

  contract_begins : {n i j m : ℕ} {pre post : Option SpecPart} {ws : List Word} → Contract ts n i pre ws post j m → is_spec_close_at ts j ≡ true → is_spec_close_at ts i ≡ false → begins_contract_at ts i ≡ true
  contract_begins {i = i} (part.contract_of (part.present s q) r t) c o = ap (λ b. b || (is_at ts i symbol.Modifies || is_at ts i symbol.Ensures)) s
  contract_begins {i = i} (part.contract_of part.absent (part.modifies s q) t) c o = or_right _ _ (ap (λ b. b || is_at ts i symbol.Ensures) s)
  contract_begins {i = i} (part.contract_of part.absent part.modifies_nothing (part.present s q)) c o = or_right _ _ (or_right _ _ s)
  contract_begins (part.contract_of part.absent part.modifies_nothing part.absent) c o = absurd (false≢true (sym o ∙ c))

  contract_not : (u : ℕ) {n i j m : ℕ} {pre post : Option SpecPart} {ws : List Word} → (79 == u) ≡ false → (symbol_number symbol.Requires == u) ≡ false → (symbol_number symbol.Modifies == u) ≡ false → (symbol_number symbol.Ensures == u) ≡ false → Contract ts n i pre ws post j m → is_spec_close_at ts j ≡ true → (kind_at ts i == u) ≡ false
  contract_not u {j = j} z a b c (part.contract_of p q r) h = clause-not u a p (modifies-not u b q (clause-not u c r (kinds-apart ts j 79 u h z)))

  target_begins : {n i j : ℕ} {v : SpecPart} → Target ts n i v j → (is_name_at ts i || is_quote_open_at ts i) ≡ true
  target_begins {i = i} (part.a_name {w = w} e) = ap (λ b. b || is_quote_open_at ts i) (name-kind ts i w e)
  target_begins (part.a_read o p c) = or_right _ _ o

  statement_begins : (n i j m : ℕ) (x : StmtTree) → Statement ts n i x j m → begins_statement_at ts i ≡ true
  statement_begins n i j m x (part.an_assert s p d) = ap (λ b. (b || is_at ts i symbol.Note) || (is_name_at ts i || is_quote_open_at ts i)) s
  statement_begins n i j m x (part.a_note s p d) = ap (λ b. b || (is_name_at ts i || is_quote_open_at ts i)) (or_right (is_at ts i symbol.Assert) _ s)
  statement_begins n i j m x (part.a_ghost p s r d) = or_right _ _ (target_begins p)

  statement_not : (u n i j m : ℕ) (x : StmtTree) → (75 == u) ≡ false → (76 == u) ≡ false → (80 == u) ≡ false → (symbol_number symbol.Assert == u) ≡ false → (symbol_number symbol.Note == u) ≡ false → Statement ts n i x j m → (kind_at ts i == u) ≡ false
  statement_not u n i j m x a b c d e (part.an_assert s p t) = kinds-apart ts i _ u s d
  statement_not u n i j m x a b c d e (part.a_note s p t) = kinds-apart ts i _ u s e
  statement_not u n i j m x a b c d e (part.a_ghost p s r t) = target-not u a b c p

  pub part-complete : (i j : ℕ) (p : PartTree) → Part ts i p j → part_at ts i ≡ Some (p, j)
  unfolding part_at
  part-complete i j p (part.a_claim {w = w} q) = choose_on _ q.0 (then_is _ (claimed-complete i j w q) refl)
  part-complete i j p (part.a_contract o q) = choose_off _ (contract_not _ refl refl refl refl q.0 q.1) (choose_on _ (contract_begins q.0 q.1 o) (then_is _ (contracted-complete q) refl))
  part-complete i j p (part.some_invariants o (list.none, c)) = absurd (false≢true (sym o ∙ c))
  part-complete i j p (part.some_invariants o (list.more (part.loop_item s l d) r, c)) = choose_off _ (kinds-apart ts i _ _ s refl) (choose_off _ (none_of _ _ (kinds-apart ts i _ _ s refl) (none_of _ _ (kinds-apart ts i _ _ s refl) (kinds-apart ts i _ _ s refl))) (choose_on _ s (then_is _ (loop-complete (list.more (part.loop_item s l d) r, c)) refl)))
  part-complete i j p (part.some_statements o (list.none, c)) = absurd (false≢true (sym o ∙ c))
  part-complete i j p (part.some_statements o (list.more {j = k} {m = l} {x = x} q r, c)) = let no : (u : ℕ) → (75 == u) ≡ false → (76 == u) ≡ false → (80 == u) ≡ false → (symbol_number symbol.Assert == u) ≡ false → (symbol_number symbol.Note == u) ≡ false → (kind_at ts i == u) ≡ false = λ u a b c d e. statement_not u 0 i k l x a b c d e q in
      choose_off _ (no _ refl refl refl refl refl) (choose_off _ (none_of _ _ (no _ refl refl refl refl refl) (none_of _ _ (no _ refl refl refl refl refl) (no _ refl refl refl refl refl))) (choose_off _ (no _ refl refl refl refl refl)
      (choose_on _ (statement_begins 0 i k l x q) (then_is _ (statements-complete (list.more q r, c)) refl))))
  part-complete i j p (part.some_items q) = choose_off _ (items-not _ refl refl refl refl refl refl refl refl q.0 q.1) (choose_off _ (none_of _ _ (items-not _ refl refl refl refl refl refl refl refl q.0 q.1) (none_of _ _ (items-not _ refl refl refl refl refl refl refl refl q.0 q.1) (items-not _ refl refl refl refl refl refl refl refl q.0 q.1)))
      (choose_off _ (items-not _ refl refl refl refl refl refl refl refl q.0 q.1) (choose_off _ (none_of _ _ (none_of _ _ (items-not _ refl refl refl refl refl refl refl refl q.0 q.1) (items-not _ refl refl refl refl refl refl refl refl q.0 q.1)) (none_of _ _ (none_of _ _ (items-not 75 refl refl refl refl refl refl refl refl q.0 q.1) (items-not 76 refl refl refl refl refl refl refl refl q.0 q.1)) (items-not 80 refl refl refl refl refl refl refl refl q.0 q.1)))
      (then_is _ (items-complete q) refl))))

-- at most one part begins at a place
pub at_most_one : (ts : List Token) (i j k : ℕ) (p q : PartTree) → Part ts i p j → Part ts i q k → (p ≡ q) × (j ≡ k)
at_most_one ts i j k p q a b = let same : Some (p, j) ≡ Some (q, k) = sym (part-complete ts i j p a) ∙ part-complete ts i k q b in (ap first same, ap place same) where
  first : Option (PartTree × ℕ) → PartTree
  first None = p
  first (Some x) = x.0

  place : Option (PartTree × ℕ) → ℕ
  place None = j
  place (Some x) = x.1
