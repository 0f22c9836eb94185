-- Specifications: their parts, the numbers of their formulas, and that the mode behind a part is the one before it.
use Rattle.std.proofs.Common.{◌≡◌, ◌≢◌, refl, sym, ap, ◌∙◌, ℕ, ◌+◌, true, List, [], ◌∷◌, Option, Some, codes}
use Rattle.jh_name.specs.declared.place.Kind.{Kind}
use Rattle.jh_lex.specs.lexer.Modes.{mode_at}
use Rattle.jh_lex.specs.lexer.Shapes.{HasShape}
use Rattle.jh_lex.specs.declared.lexer.mode.Mode.TheVariants as mode
use Rattle.jh_lex.specs.declared.lexer.symbol.Symbol.{Symbol}
use Rattle.jh_lex.specs.declared.lexer.symbol.Symbol.TheVariants as symbol
use Rattle.jh_lex.specs.declared.lexer.token.Token.{Token}
use Rattle.jh_ast.specs.declared.word.Word.{Word}
use Rattle.jh_ast.specs.Forms.{FormTree, SpecPart, LabelledPart}
use Rattle.jh_ast.specs.Forms as f
use Rattle.jh_ast.specs.Stmts.{StmtTree}
use Rattle.jh_rules.specs.Shape.{Parts, ◌and◌, all_parts, of_words, of_number, of_declared, form_parts, spec_parts, labelled_parts, some_parts, stmt_parts, var_parts, def_parts}
use Rattle.jh_operators.specs.lookahead.Modifiers.{allowed_at, ModifiersAfter, Modifiers}
use Rattle.jh_operators.specs.lookahead.Modifiers as modifiers
use Rattle.jh_operators.specs.lookahead.Lists.{Many, none, more}
use Rattle.jh_operators.specs.lookahead.Standing.{is_word_at, place_at}
use Rattle.jh_operators.proofs.lookahead.Words.{text-kind}
use Rattle.jh_operators.proofs.lookahead.Options.{Holds, nothing, found, choose_holds, of_found}
use Rattle.jh_spec.specs.parser.Parts.{Quoted, Label, MaybeSemicolon, Clause, ModifiesItem, ModifiesItems, Modifies, Contract, SpecType, Declared, Visibility, Defined, Labelled, Item, ItemTree, LoopItem, FromWords, From, Spoken, Target, Statement, numbered}
use Rattle.jh_spec.specs.parser.Parts as part
use Rattle.jh_logic.proofs.text.Tokens.{symbol-mode, plain-mode, name-mode, word-mode, word-fine, quote-opens, quote-closes}
use Rattle.jh_logic.proofs.text.Goodness.{Plain, plain-none, plain-word, plain-words, plain-declared, Fine, fine-and, fine-number, fine-then, then-fine, fine-none, fine-each, fine-no}
use Rattle.jh_logic.proofs.text.Formulas as formula
use Rattle.jh_logic.proofs.text.Expressions.{two, three, four}

-- what an item of a class has
abbrev pub item_parts : ItemTree → Parts
item_parts (part.variable v) = var_parts v
item_parts (part.definition d) = def_parts d
item_parts (part.invariant l) = labelled_parts l

module _ (ts : List Token) where
  abbrev pub Same : ℕ → ℕ → Type 0
  Same i j = mode_at ts j ≡ mode_at ts i

  -- modifiers are symbols
  pub allowed-mode : (allowed : List Symbol) (i : ℕ) (s : Symbol) → allowed_at ts allowed i ≡ Some s → Same i (i + 1)
  unfolding allowed_at
  allowed-mode allowed i s h = of_found {P = λ _. Same i (i + 1)} (by allowed) s h
    where
      by : (allowed : List Symbol) → Holds (λ _. Same i (i + 1)) (allowed_at ts allowed i)
      by [] = nothing
      by (x ∷ xs) = choose_holds (λ k. found (symbol-mode ts i x k)) (λ _. by xs)

  pub modifiers-mode : {allowed seen ms : List Symbol} {i j : ℕ} → ModifiersAfter ts allowed seen i ms j → Same i j
  modifiers-mode modifiers.no_more = refl
  modifiers-mode {allowed = allowed} {i = i} (modifiers.one_more {s = s} h n p) = modifiers-mode p ∙ allowed-mode allowed i s h

  semicolon : {i j : ℕ} → MaybeSemicolon ts i j → Same i j
  semicolon part.without = refl
  semicolon {i = i} (part.with h) = symbol-mode ts i symbol.Semicolon h

  visibility : {i j : ℕ} → Visibility ts i j → Same i j
  visibility part.unsaid = refl
  visibility {i = i} (part.for_all h) = symbol-mode ts i symbol.Public h
  visibility {i = i} (part.for_class h) = symbol-mode ts i symbol.Private h

  kind-word : (i : ℕ) (x : List ℕ) → is_word_at ts i x ≡ true → Same i (i + 1)
  kind-word i x h = plain-mode ts i (text-kind ts i x h)

  module _ (fits : HasShape ts) where
    -- a formula in quotes, from what is in it
    quoted-of : (n i j : ℕ) (t : FormTree) → Plain (form_parts t) → Fine n (n + 1) (spec_parts (numbered ts i n t))
    quoted-of n i j t p = fine-then (of_number n) (form_parts t) (fine-number n) p

    quoted : {n i j : ℕ} {q : SpecPart} → Quoted ts n i q j → Same i j × Fine n (n + 1) (spec_parts q)
    quoted {n = n} {i = i} (part.quoted {j = j} {t = t} o p) = (quote-closes ts fits j p.quote ∙ sym (quote-opens ts fits i o).0, quoted-of n i j t (formula.operand ts fits p.formula))

    label : {i j : ℕ} {l : Option Word} → Label ts i l j → Same i j × Plain (some_parts (λ w. of_words (w ∷ [])) l)
    label part.unlabelled = (refl, plain-none)
    label {i = i} (part.labelled {w = w} h c) = let n = word-mode ts fits i w h in (ap (mode_at ts) (two i) ∙ symbol-mode ts (i + 1) symbol.Colon c ∙ n.0, plain-word w n.1)

    clause : {s : Symbol} {n i j m : ℕ} {o : Option SpecPart} → Clause ts s n i o j m → Same i j × Fine n m (some_parts spec_parts o)
    clause {n = n} part.absent = (refl, fine-none n spec_parts)
    clause {s = s} {i = i} (part.present h q) = let x = quoted q in (x.0 ∙ symbol-mode ts i s h, x.1)

    modifies-item : {i j : ℕ} {w : Word} → ModifiesItem ts i w j → Same i j × (w.text.turn ≡ 0)
    modifies-item {i = i} {w = w} (part.plain h) = name-mode ts fits i w h
    modifies-item {i = i} {w = w} (part.in_quotes o h c) =
        (ap (mode_at ts) (three i) ∙ quote-closes ts fits (i + 2) c ∙ sym (quote-opens ts fits i o).0, (name-mode ts fits (i + 1) w h).1)

    modifies-items : {i j : ℕ} {ws : List Word} → ModifiesItems ts i ws j → Same i j × formula.AreFirst ws
    modifies-items (part.last_item {w = w} p) = let x = modifies-item p in (x.0, formula.more-first w [] x.1 formula.none-first)
    modifies-items (part.more_items {j = j} {w = w} {ws = ws} p c q) =
        let x = modifies-item p in
        let rest = modifies-items q in
        (rest.0 ∙ symbol-mode ts j symbol.Comma c ∙ x.0, formula.more-first w ws x.1 rest.1)

    modifies : {i j : ℕ} {ws : List Word} → Modifies ts i ws j → Same i j × Plain (of_words ws)
    modifies part.modifies_nothing = (refl, plain-words [] formula.none-first)
    modifies {i = i} (part.modifies {ws = ws} h p) = let x = modifies-items p in (x.0 ∙ symbol-mode ts i symbol.Modifies h, plain-words ws x.1)

    -- the parts of a contract, each with its numbers
    pub record Promises (n m : ℕ) (pre : Option SpecPart) (ws : List Word) (post : Option SpecPart) : Type 0 where
      pub between : ℕ
      pub before : Fine n between (some_parts spec_parts pre)
      pub names : Plain (of_words ws)
      pub after : Fine between m (some_parts spec_parts post)

    pub contract : {n i j m : ℕ} {pre post : Option SpecPart} {ws : List Word} → Contract ts n i pre ws post j m → Promises n m pre ws post
    contract (part.contract_of {k = k} p q r) = record { between = k; before = (clause p).1; names = (modifies q).1; after = (clause r).1 }

    spec-type : {i j : ℕ} {k : Kind} → SpecType ts i k j → Same i j
    spec-type {i = i} (part.an_object h) = kind-word i (codes "obj") h
    spec-type {i = i} (part.an_integer h) = symbol-mode ts i symbol.Int h
    spec-type {i = i} (part.a_truth h) = kind-word i (codes "bool") h
    spec-type {i = i} (part.a_set h) = kind-word i (codes "objset") h
    spec-type {i = i} (part.a_set_in_quotes o h k c) = ap (mode_at ts) (four i) ∙ quote-closes ts fits (i + 3) c ∙ sym (quote-opens ts fits i o).0

    labelled : {n i j : ℕ} {l : LabelledPart} → Labelled ts n i l j → Same i j × Fine n (n + 1) (labelled_parts l)
    labelled (part.labelled_formula {l = l} {q = q} a b) =
        let x = label a in
        let y = quoted b in
        (y.0 ∙ x.0, then-fine (some_parts (λ w. of_words (w ∷ [])) l) (spec_parts q and of_words []) x.1 (fine-then (spec_parts q) (of_words []) y.1 (plain-words [] formula.none-first)))

    pub item : {n i j m : ℕ} {x : ItemTree} → Item ts n i x j m → mode_at ts i ≢ mode.Formula → Same i j × Fine n m (item_parts x)
    item {n = n} {i = i} (part.a_variable {a = a} {b = b} {j = j} {w = w} {init = init} ms s (part.declared h c k) cl s2) plain =
        let first = modifiers-mode ms in
        let here = symbol-mode ts a symbol.Specvar s ∙ first in
        let x = word-mode ts fits (a + 1) w h in
        let y = clause cl in
        let type = spec-type k ∙ ap (mode_at ts) (two (a + 1)) ∙ symbol-mode ts (a + 1 + 1) symbol.ColonColon c ∙ x.0 ∙ here in
        (symbol-mode ts j symbol.Semicolon s2 ∙ y.0 ∙ type, then-fine (of_declared w) (some_parts spec_parts init) (plain-declared w x.1 (word-fine ts fits (a + 1) w h (λ e. plain (sym here ∙ e)))) y.1)
    item {n = n} {i = i} (part.a_definition {j = j} v (part.defined {j = k} {w = w} {t = t} o h c p) s) plain = (
      symbol-mode ts j symbol.Semicolon s ∙ quote-closes ts fits k p.quote ∙ sym (quote-opens ts fits (i + 1) o).0 ∙ symbol-mode ts i symbol.Vardefs v,
      then-fine (of_words (w ∷ [])) (spec_parts (numbered ts (i + 1) n t)) (plain-word w (word-mode ts fits (i + 1 + 1) w h).1) (quoted-of n (i + 1) k t (formula.operand ts fits p.formula)),
    )
    item {i = i} (part.an_invariant {a = a} {j = j} v h l s) plain =
        let x = labelled l in
        (symbol-mode ts j symbol.Semicolon s ∙ x.0 ∙ symbol-mode ts a symbol.Invariant h ∙ visibility v, x.1)

    loop-item : {n i j m : ℕ} {l : LabelledPart} → LoopItem ts n i l j m → Same i j × Fine n m (labelled_parts l)
    loop-item {i = i} (part.loop_item h l s) = let x = labelled l in (semicolon s ∙ x.0 ∙ symbol-mode ts i symbol.Inv h, x.1)

    from-words : {i j : ℕ} {ws : List Word} → FromWords ts i ws j → Same i j × formula.AreFirst ws
    from-words {i = i} (part.last_word {w = w} h) = let x = word-mode ts fits i w h in (x.0, formula.more-first w [] x.1 formula.none-first)
    from-words {i = i} (part.more_words {w = w} {ws = ws} h c p) =
        let x = word-mode ts fits i w h in
        let rest = from-words p in
        (rest.0 ∙ symbol-mode ts (i + 1) symbol.Comma c ∙ x.0, formula.more-first w ws x.1 rest.1)

    from : {i j : ℕ} {ws : List Word} → From ts i ws j → Same i j × Plain (of_words ws)
    from part.from_all = (refl, plain-words [] formula.none-first)
    from {i = i} (part.from_words {ws = ws} h p) = let x = from-words p in (x.0 ∙ symbol-mode ts i symbol.From h, plain-words ws x.1)

    spoken : {n i j : ℕ} {l : LabelledPart} → Spoken ts n i l j → Same i j × Fine n (n + 1) (labelled_parts l)
    spoken (part.spoken {l = l} {q = q} {ws = ws} a b c) =
        let x = label a in
        let y = quoted b in
        let z = from c in
        (z.0 ∙ y.0 ∙ x.0, then-fine (some_parts (λ w. of_words (w ∷ [])) l) (spec_parts q and of_words ws) x.1 (fine-then (spec_parts q) (of_words ws) y.1 z.1))

    ghost-target : {n i j : ℕ} {v : SpecPart} → Target ts n i v j → Same i j × Fine n (n + 1) (spec_parts v)
    ghost-target {n = n} {i = i} (part.a_name {w = w} h) = let x = name-mode ts fits i w h in (x.0, quoted-of n i i (f.name (place_at ts i) w) (formula.name-parts (place_at ts i) w x.1))
    ghost-target {n = n} {i = i} (part.a_read {j = j} {t = t} o p c) = (quote-closes ts fits j c ∙ sym (quote-opens ts fits i o).0, quoted-of n i j t (formula.postfix ts fits p))

    pub statement : {n i j m : ℕ} {s : StmtTree} → Statement ts n i s j m → Same i j × Fine n m (stmt_parts s)
    unfolding stmt_parts
    statement {i = i} (part.an_assert h p s) = let x = spoken p in (semicolon s ∙ x.0 ∙ symbol-mode ts i symbol.Assert h, x.1)
    statement {i = i} (part.a_note h p s) = let x = spoken p in (semicolon s ∙ x.0 ∙ symbol-mode ts i symbol.Note h, x.1)
    statement (part.a_ghost {a = a} {v = v} {q = q} t h p s) =
        let x = ghost-target t in
        let y = quoted p in
        (semicolon s ∙ y.0 ∙ symbol-mode ts a symbol.ColonEqual h ∙ x.0, fine-and (spec_parts v) (spec_parts q) x.1 y.1)

-- several things one after another, where the mode is no formula's
pub many : {A : Type 0} (ts : List Token) {One : ℕ → ℕ → A → ℕ → ℕ → Type 0} (parts : A → Parts)
    → ((n i j m : ℕ) (x : A) → One n i x j m → mode_at ts i ≢ mode.Formula → Same ts i j × Fine n m (parts x))
    → {n i j m : ℕ} {xs : List A} → Many One n i xs j m → mode_at ts i ≢ mode.Formula → Same ts i j × Fine n m (all_parts parts xs)
many ts parts each {n = n} none plain = (refl, fine-no n parts)
many ts parts each {n = n} {i = i} (more {j = j} {m = m} {x = x} {xs = xs} p q) plain =
    let a = each n i j m x p plain in
    let rest = many ts parts each q (λ e. plain (sym a.0 ∙ e)) in
    (rest.0 ∙ a.0, fine-each parts x xs a.1 rest.1)

-- what specifications hold
module _ (ts : List Token) (fits : HasShape ts) where
  pub items : {n i j m : ℕ} {xs : List ItemTree} → Many (Item ts) n i xs j m → mode_at ts i ≢ mode.Formula → Same ts i j × Fine n m (all_parts item_parts xs)
  items p plain = many ts item_parts (λ n i j m x q h. item ts fits q h) p plain

  pub invariants : {n i j m : ℕ} {ls : List LabelledPart} → Many (LoopItem ts) n i ls j m → mode_at ts i ≢ mode.Formula → Same ts i j × Fine n m (all_parts labelled_parts ls)
  invariants p plain = many ts labelled_parts (λ n i j m x q h. loop-item ts fits q) p plain

  pub statements : {n i j m : ℕ} {ss : List StmtTree} → Many (Statement ts) n i ss j m → mode_at ts i ≢ mode.Formula → Same ts i j × Fine n m (all_parts stmt_parts ss)
  statements p plain = many ts stmt_parts (λ n i j m x q h. statement ts fits q) p plain
