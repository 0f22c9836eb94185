-- The grammar of specifications: the parts that stand in comments of a source. In each relation n is the number of the first
-- formula that is read and i its place among the tokens; j is the place after the part, and m the number after its last formula.
use Rattle.std.specs.Prelude.{ℕ, ◌+◌, ◌≡◌, true, false, List, [], ◌∷◌, Option, None, Some, codes}
use Rattle.jh_name.specs.declared.place.Kind.{Kind}
use Rattle.jh_name.specs.declared.place.Kind.TheVariants as sort
use Rattle.jh_lex.specs.declared.lexer.symbol.Symbol.{Symbol}
use Rattle.jh_lex.specs.declared.lexer.symbol.Symbol.TheVariants as symbol
use Rattle.jh_lex.specs.declared.lexer.token.Token.{Token}
use Rattle.jh_ast.specs.declared.word.Word.{Word}
use Rattle.jh_ast.specs.Forms.{FormTree, SpecPart, LabelledPart}
use Rattle.jh_ast.specs.Forms as form
use Rattle.jh_ast.specs.Stmts.{StmtTree, StmtTrees}
use Rattle.jh_ast.specs.Stmts as stmt
use Rattle.jh_ast.specs.Programs.{VarPart, DefPart}
use Rattle.jh_operators.specs.lookahead.Lists.{Many}
use Rattle.jh_operators.specs.lookahead.Modifiers.{Modifiers, has}
use Rattle.jh_operators.specs.lookahead.Standing.{Is, is_word_at, is_spec_close_at, is_quote_open_at, is_quote_close_at, place_at, word_at, name_at}
use Rattle.jh_spec.specs.parser.Formulas.{Spelled, Postfix}

-- one of the items of a class
pub data ItemTree : Type 0 where
  variable : VarPart → ItemTree
  definition : DefPart → ItemTree
  invariant : LabelledPart → ItemTree

-- what a specification holds
pub data PartTree : Type 0 where
  claimed : Word → PartTree
  items : List ItemTree → PartTree
  contract : Option SpecPart → List Word → Option SpecPart → PartTree
  loop : List LabelledPart → PartTree
  statements : List StmtTree → PartTree

-- a formula of the file: its number, and the place of its opening quote
abbrev pub numbered : List Token → ℕ → ℕ → FormTree → SpecPart
numbered ts i n t = record { place = place_at ts i; number = n; form = t }

-- QuoteOpen F QuoteClose
pub data Quoted (ts : List Token) (n i : ℕ) : SpecPart → ℕ → Type 0 where
  quoted : {j : ℕ} {t : FormTree} → is_quote_open_at ts i ≡ true → Spelled ts (i + 1) t j → Quoted ts n i (numbered ts i n t) (j + 1)

-- [ WORD ":" ]
pub data Label (ts : List Token) : ℕ → Option Word → ℕ → Type 0 where
  unlabelled : {i : ℕ} → Label ts i None i
  labelled : {i : ℕ} {w : Word} → word_at ts i ≡ Some w → Is ts (i + 1) symbol.Colon → Label ts i (Some w) (i + 2)

-- [ ";" ]
pub data MaybeSemicolon (ts : List Token) : ℕ → ℕ → Type 0 where
  without : {i : ℕ} → MaybeSemicolon ts i i
  with : {i : ℕ} → Is ts i symbol.Semicolon → MaybeSemicolon ts i (i + 1)

-- [ s Q(F) ], where s is `requires` or `ensures`
pub data Clause (ts : List Token) (s : Symbol) (n : ℕ) : ℕ → Option SpecPart → ℕ → ℕ → Type 0 where
  absent : {i : ℕ} → Clause ts s n i None i n
  present : {i j : ℕ} {q : SpecPart} → Is ts i s → Quoted ts n (i + 1) q j → Clause ts s n i (Some q) j (n + 1)

-- WORD | QUALIFIED | Q(WORD) | Q(QUALIFIED)
pub data ModifiesItem (ts : List Token) : ℕ → Word → ℕ → Type 0 where
  plain : {i : ℕ} {w : Word} → name_at ts i ≡ Some w → ModifiesItem ts i w (i + 1)
  in_quotes : {i : ℕ} {w : Word} → is_quote_open_at ts i ≡ true → name_at ts (i + 1) ≡ Some w → is_quote_close_at ts (i + 2) ≡ true → ModifiesItem ts i w (i + 3)

-- item { "," item }
pub data ModifiesItems (ts : List Token) : ℕ → List Word → ℕ → Type 0 where
  last_item : {i j : ℕ} {w : Word} → ModifiesItem ts i w j → ModifiesItems ts i (w ∷ []) j
  more_items : {i j k : ℕ} {w : Word} {ws : List Word} → ModifiesItem ts i w j → Is ts j symbol.Comma → ModifiesItems ts (j + 1) ws k → ModifiesItems ts i (w ∷ ws) k

-- [ "modifies" item { "," item } ]
pub data Modifies (ts : List Token) : ℕ → List Word → ℕ → Type 0 where
  modifies_nothing : {i : ℕ} → Modifies ts i [] i
  modifies : {i j : ℕ} {ws : List Word} → Is ts i symbol.Modifies → ModifiesItems ts (i + 1) ws j → Modifies ts i ws j

-- [ "requires" Q(F) ] [ "modifies" item { "," item } ] [ "ensures" Q(F) ]
pub data Contract (ts : List Token) (n i : ℕ) : Option SpecPart → List Word → Option SpecPart → ℕ → ℕ → Type 0 where
  contract_of : {a b j k m : ℕ} {pre post : Option SpecPart} {ws : List Word} → Clause ts symbol.Requires n i pre a k → Modifies ts a ws b → Clause ts symbol.Ensures k b post j m → Contract ts n i pre ws post j m

-- "obj" | "int" | "bool" | "objset" | Q("obj" "set")
pub data SpecType (ts : List Token) : ℕ → Kind → ℕ → Type 0 where
  an_object : {i : ℕ} → is_word_at ts i (codes "obj") ≡ true → SpecType ts i sort.Obj (i + 1)
  an_integer : {i : ℕ} → Is ts i symbol.Int → SpecType ts i sort.Int (i + 1)
  a_truth : {i : ℕ} → is_word_at ts i (codes "bool") ≡ true → SpecType ts i sort.Bool (i + 1)
  a_set : {i : ℕ} → is_word_at ts i (codes "objset") ≡ true → SpecType ts i sort.Set (i + 1)
  a_set_in_quotes : {i : ℕ} → is_quote_open_at ts i ≡ true → is_word_at ts (i + 1) (codes "obj") ≡ true → is_word_at ts (i + 2) (codes "set") ≡ true → is_quote_close_at ts (i + 3) ≡ true → SpecType ts i sort.Set (i + 4)

-- WORD "::" spectype
pub data Declared (ts : List Token) (i : ℕ) : Word → Kind → ℕ → Type 0 where
  declared : {j : ℕ} {w : Word} {k : Kind} → word_at ts i ≡ Some w → Is ts (i + 1) symbol.ColonColon → SpecType ts (i + 2) k j → Declared ts i w k j

-- what may stand before `specvar`
abbrev pub of_variables : List Symbol
of_variables = symbol.Public ∷ symbol.Private ∷ symbol.Static ∷ symbol.Ghost ∷ []

-- [ "public" | "private" ]
pub data Visibility (ts : List Token) : ℕ → ℕ → Type 0 where
  unsaid : {i : ℕ} → Visibility ts i i
  for_all : {i : ℕ} → Is ts i symbol.Public → Visibility ts i (i + 1)
  for_class : {i : ℕ} → Is ts i symbol.Private → Visibility ts i (i + 1)

-- Q(WORD "==" F)
pub data Defined (ts : List Token) (n i : ℕ) : Word → SpecPart → ℕ → Type 0 where
  defined : {j : ℕ} {w : Word} {t : FormTree} → is_quote_open_at ts i ≡ true → word_at ts (i + 1) ≡ Some w → Is ts (i + 2) symbol.EqualEqual → Spelled ts (i + 3) t j → Defined ts n i w (numbered ts i n t) (j + 1)

-- [ WORD ":" ] Q(F)
pub data Labelled (ts : List Token) (n i : ℕ) : LabelledPart → ℕ → Type 0 where
  labelled_formula : {a j : ℕ} {l : Option Word} {q : SpecPart} → Label ts i l a → Quoted ts n a q j → Labelled ts n i (record { label = l; spec = q; from = [] }) j

-- { "public" | "private" | "static" | "ghost" } "specvar" WORD "::" spectype [ "=" Q(F) ] ";"
-- | "vardefs" Q(WORD "==" F) ";"
-- | [ "public" | "private" ] "invariant" [ WORD ":" ] Q(F) ";"
pub data Item (ts : List Token) (n : ℕ) : ℕ → ItemTree → ℕ → ℕ → Type 0 where
  a_variable : {i a b j m : ℕ} {ms : List Symbol} {w : Word} {k : Kind} {init : Option SpecPart} → Modifiers ts of_variables i ms a → Is ts a symbol.Specvar → Declared ts (a + 1) w k b → Clause ts symbol.Equal n b init j m → Is ts j symbol.Semicolon
      → Item ts n i (variable (record { name = w; kind = k; fixed = has ms symbol.Static; is_ghost = has ms symbol.Ghost; init = init })) (j + 1) m
  a_definition : {i j : ℕ} {w : Word} {q : SpecPart} → Is ts i symbol.Vardefs → Defined ts n (i + 1) w q j → Is ts j symbol.Semicolon → Item ts n i (definition (record { name = w; spec = q })) (j + 1) (n + 1)
  an_invariant : {i a j : ℕ} {l : LabelledPart} → Visibility ts i a → Is ts a symbol.Invariant → Labelled ts n (a + 1) l j → Is ts j symbol.Semicolon → Item ts n i (invariant l) (j + 1) (n + 1)

-- "inv" [ WORD ":" ] Q(F) [ ";" ]
pub data LoopItem (ts : List Token) (n : ℕ) : ℕ → LabelledPart → ℕ → ℕ → Type 0 where
  loop_item : {i a j : ℕ} {l : LabelledPart} → Is ts i symbol.Inv → Labelled ts n (i + 1) l a → MaybeSemicolon ts a j → LoopItem ts n i l j (n + 1)

-- [ "from" WORD { "," WORD } ]
pub data FromWords (ts : List Token) : ℕ → List Word → ℕ → Type 0 where
  last_word : {i : ℕ} {w : Word} → word_at ts i ≡ Some w → FromWords ts i (w ∷ []) (i + 1)
  more_words : {i j : ℕ} {w : Word} {ws : List Word} → word_at ts i ≡ Some w → Is ts (i + 1) symbol.Comma → FromWords ts (i + 1 + 1) ws j → FromWords ts i (w ∷ ws) j

pub data From (ts : List Token) : ℕ → List Word → ℕ → Type 0 where
  from_all : {i : ℕ} → From ts i [] i
  from_words : {i j : ℕ} {ws : List Word} → Is ts i symbol.From → FromWords ts (i + 1) ws j → From ts i ws j

-- [ WORD ":" ] Q(F) [ "from" WORD { "," WORD } ], after `assert` or `note`
pub data Spoken (ts : List Token) (n : ℕ) : ℕ → LabelledPart → ℕ → Type 0 where
  spoken : {i a b j : ℕ} {l : Option Word} {q : SpecPart} {ws : List Word} → Label ts i l a → Quoted ts n a q b → From ts b ws j → Spoken ts n i (record { label = l; spec = q; from = ws }) j

-- WORD | QUALIFIED | Q(F90), before `:=`
pub data Target (ts : List Token) (n : ℕ) : ℕ → SpecPart → ℕ → Type 0 where
  a_name : {i : ℕ} {w : Word} → name_at ts i ≡ Some w → Target ts n i (numbered ts i n (form.name (place_at ts i) w)) (i + 1)
  a_read : {i j : ℕ} {t : FormTree} → is_quote_open_at ts i ≡ true → Postfix ts (i + 1) t j → is_quote_close_at ts j ≡ true → Target ts n i (numbered ts i n t) (j + 1)

-- spoken [ ";" ]
pub data Statement (ts : List Token) (n : ℕ) : ℕ → StmtTree → ℕ → ℕ → Type 0 where
  an_assert : {i a j : ℕ} {l : LabelledPart} → Is ts i symbol.Assert → Spoken ts n (i + 1) l a → MaybeSemicolon ts a j → Statement ts n i (stmt.assert (place_at ts i) l) j (n + 1)
  a_note : {i a j : ℕ} {l : LabelledPart} → Is ts i symbol.Note → Spoken ts n (i + 1) l a → MaybeSemicolon ts a j → Statement ts n i (stmt.note (place_at ts i) l) j (n + 1)
  a_ghost : {i a b j : ℕ} {v q : SpecPart} → Target ts n i v a → Is ts a symbol.ColonEqual → Quoted ts (n + 1) (a + 1) q b → MaybeSemicolon ts b j → Statement ts n i (stmt.ghost (place_at ts i) v q) j (n + 1 + 1)

-- the lists of parts, each up to the token that closes the specification
abbrev pub Items : List Token → ℕ → ℕ → List ItemTree → ℕ → ℕ → Type 0
Items ts n i xs j m = Many (Item ts) n i xs j m × (is_spec_close_at ts j ≡ true)

abbrev pub Loop : List Token → ℕ → ℕ → List LabelledPart → ℕ → ℕ → Type 0
Loop ts n i xs j m = Many (LoopItem ts) n i xs j m × (is_spec_close_at ts j ≡ true)

abbrev pub Statements : List Token → ℕ → ℕ → List StmtTree → ℕ → ℕ → Type 0
Statements ts n i xs j m = Many (Statement ts) n i xs j m × (is_spec_close_at ts j ≡ true)

abbrev pub Contracted : List Token → ℕ → ℕ → Option SpecPart → List Word → Option SpecPart → ℕ → ℕ → Type 0
Contracted ts n i pre ws post j m = Contract ts n i pre ws post j m × (is_spec_close_at ts j ≡ true)

-- "claimedby" WORD
abbrev pub Claimed : List Token → ℕ → Word → ℕ → Type 0
Claimed ts i w j = Is ts i symbol.ClaimedBy × (word_at ts (i + 1) ≡ Some w) × (j ≡ i + 2) × (is_spec_close_at ts j ≡ true)

-- The contents of one specification, whose formulas are numbered from 0. Contents without tokens are items, and there are none.
pub data Part (ts : List Token) (i : ℕ) : PartTree → ℕ → Type 0 where
  a_claim : {j : ℕ} {w : Word} → Claimed ts i w j → Part ts i (claimed w) j
  some_items : {j m : ℕ} {xs : List ItemTree} → Items ts 0 i xs j m → Part ts i (items xs) j
  a_contract : {j m : ℕ} {pre post : Option SpecPart} {ws : List Word} → is_spec_close_at ts i ≡ false → Contracted ts 0 i pre ws post j m → Part ts i (contract pre ws post) j
  some_invariants : {j m : ℕ} {xs : List LabelledPart} → is_spec_close_at ts i ≡ false → Loop ts 0 i xs j m → Part ts i (loop xs) j
  some_statements : {j m : ℕ} {xs : List StmtTree} → is_spec_close_at ts i ≡ false → Statements ts 0 i xs j m → Part ts i (statements xs) j
