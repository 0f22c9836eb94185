-- What is spelled in a specification ends no sooner than it begins.
use Rattle.std.proofs.Common.{ℕ, ◌<◌, ◌≤◌, List, arith}
use Rattle.std.specs.Prelude.{Option}
use Rattle.jh_lex.specs.declared.lexer.symbol.Symbol.{Symbol}
use Rattle.jh_lex.specs.declared.lexer.token.Token.{Token}
use Rattle.jh_name.specs.declared.place.Kind.{Kind}
use Rattle.jh_ast.specs.declared.word.Word.{Word}
use Rattle.jh_ast.specs.Forms.{SpecPart, LabelledPart}
use Rattle.jh_ast.specs.Stmts.{StmtTree}
use Rattle.jh_operators.specs.lookahead.Lists.{Many, none, more}
use Rattle.jh_operators.proofs.lookahead.Modified.{modifiers-end}
use Rattle.jh_spec.specs.parser.Parts.{ItemTree, Quoted, Label, MaybeSemicolon, Clause, ModifiesItem, ModifiesItems, Modifies, Contract, SpecType, Declared, Visibility, Defined, Labelled, Item, LoopItem, FromWords, From, Spoken, Target, Statement, Items, Loop, Statements, Contracted}
use Rattle.jh_spec.specs.parser.Parts as part
use Rattle.jh_spec.proofs.parser.Ends.{operand-end, postfix-end}

many_forward : {A : Type 0} (One : ℕ → ℕ → A → ℕ → ℕ → Type 0) {n i j m : ℕ} {xs : List A} → ((n i j m : ℕ) (x : A) → One n i x j m → i ≤ j) → Many One n i xs j m → i ≤ j
many_forward One forward none = omega arith
many_forward One forward (more p q) = omega (arith, forward _ _ _ _ _ p, many_forward One forward q)

module _ (ts : List Token) where
  pub quoted-end : {n i j : ℕ} {q : SpecPart} → Quoted ts n i q j → i < j
  quoted-end (part.quoted o p) = omega (arith, operand-end ts p.formula)

  pub label-end : {i j : ℕ} {l : Option Word} → Label ts i l j → i ≤ j
  label-end part.unlabelled = omega arith
  label-end (part.labelled w c) = omega arith

  pub semicolon-end : {i j : ℕ} → MaybeSemicolon ts i j → i ≤ j
  semicolon-end part.without = omega arith
  semicolon-end (part.with s) = omega arith

  pub clause-end : {s : Symbol} {n i j m : ℕ} {o : Option SpecPart} → Clause ts s n i o j m → i ≤ j
  clause-end part.absent = omega arith
  clause-end (part.present s q) = omega (arith, quoted-end q)

  item_end : {i j : ℕ} {w : Word} → ModifiesItem ts i w j → i < j
  item_end (part.plain e) = omega arith
  item_end (part.in_quotes o e c) = omega arith

  items_end : {i j : ℕ} {ws : List Word} → ModifiesItems ts i ws j → i < j
  items_end (part.last_item p) = item_end p
  items_end (part.more_items p c q) = omega (arith, item_end p, items_end q)

  pub modifies-end : {i j : ℕ} {ws : List Word} → Modifies ts i ws j → i ≤ j
  modifies-end part.modifies_nothing = omega arith
  modifies-end (part.modifies s p) = omega (arith, items_end p)

  pub from_words-end : {i j : ℕ} {ws : List Word} → FromWords ts i ws j → i < j
  from_words-end (part.last_word e) = omega arith
  from_words-end (part.more_words e c p) = omega (arith, from_words-end p)

  pub from-end : {i j : ℕ} {ws : List Word} → From ts i ws j → i ≤ j
  from-end part.from_all = omega arith
  from-end (part.from_words s p) = omega (arith, from_words-end p)

  pub spoken-end : {n i j : ℕ} {l : LabelledPart} → Spoken ts n i l j → i < j
  spoken-end (part.spoken l q w) = omega (arith, label-end l, quoted-end q, from-end w)

  pub target-end : {n i j : ℕ} {v : SpecPart} → Target ts n i v j → i < j
  target-end (part.a_name e) = omega arith
  target-end (part.a_read o p c) = omega (arith, postfix-end ts p)

  pub statement-end : {n i j m : ℕ} {x : StmtTree} → Statement ts n i x j m → i ≤ j
  statement-end (part.an_assert s p d) = omega (arith, spoken-end p, semicolon-end d)
  statement-end (part.a_note s p d) = omega (arith, spoken-end p, semicolon-end d)
  statement-end (part.a_ghost p s r d) = omega (arith, target-end p, quoted-end r, semicolon-end d)

  pub statements-end : {n i j m : ℕ} {xs : List StmtTree} → Statements ts n i xs j m → i ≤ j
  statements-end p = many_forward (Statement ts) (λ n i j m x q. statement-end q) p.0

  pub labelled-end : {n i j : ℕ} {l : LabelledPart} → Labelled ts n i l j → i < j
  labelled-end (part.labelled_formula p q) = omega (arith, label-end p, quoted-end q)

  pub defined-end : {n i j : ℕ} {w : Word} {q : SpecPart} → Defined ts n i w q j → i < j
  defined-end (part.defined o e c p) = omega (arith, operand-end ts p.formula)

  pub loop_item-end : {n i j m : ℕ} {x : LabelledPart} → LoopItem ts n i x j m → i ≤ j
  loop_item-end (part.loop_item s p d) = omega (arith, labelled-end p, semicolon-end d)

  pub loop-end : {n i j m : ℕ} {xs : List LabelledPart} → Loop ts n i xs j m → i ≤ j
  loop-end p = many_forward (LoopItem ts) (λ n i j m x q. loop_item-end q) p.0

  pub contracted-end : {n i j m : ℕ} {pre post : Option SpecPart} {ws : List Word} → Contracted ts n i pre ws post j m → i ≤ j
  contracted-end p = by_parts p.0 where
    by_parts : {n i j m : ℕ} {pre post : Option SpecPart} {ws : List Word} → Contract ts n i pre ws post j m → i ≤ j
    by_parts (part.contract_of p q r) = omega (arith, clause-end p, modifies-end q, clause-end r)

  pub kind-end : {i j : ℕ} {k : Kind} → SpecType ts i k j → i < j
  kind-end (part.an_object e) = omega arith
  kind-end (part.an_integer e) = omega arith
  kind-end (part.a_truth e) = omega arith
  kind-end (part.a_set e) = omega arith
  kind-end (part.a_set_in_quotes o a b c) = omega arith

  pub declared-end : {i j : ℕ} {w : Word} {k : Kind} → Declared ts i w k j → i < j
  declared-end (part.declared e c p) = omega (arith, kind-end p)

  pub visibility-end : {i j : ℕ} → Visibility ts i j → i ≤ j
  visibility-end part.unsaid = omega arith
  visibility-end (part.for_all s) = omega arith
  visibility-end (part.for_class s) = omega arith

  pub item-end : {n i j m : ℕ} {x : ItemTree} → Item ts n i x j m → i ≤ j
  item-end (part.a_variable p s q r d) = omega (arith, modifiers-end p, declared-end q, clause-end r)
  item-end (part.a_definition v p d) = omega (arith, defined-end p)
  item-end (part.an_invariant v s p d) = omega (arith, visibility-end v, labelled-end p)

  pub items-end : {n i j m : ℕ} {xs : List ItemTree} → Items ts n i xs j m → i ≤ j
  items-end p = many_forward (Item ts) (λ n i j m x q. item-end q) p.0
