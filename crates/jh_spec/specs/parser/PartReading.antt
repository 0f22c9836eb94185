-- What is read of a specification at a place of a list of tokens, with the place after it: the grammar of specifications as a
-- function, which the code follows. That it is the grammar is proved in proofs/PartSound and proofs/PartComplete.
use Rattle.std.specs.Prelude.{ℕ, zero, suc, ◌+◌, ◌&&◌, ◌||◌, Bool, List, [], ◌∷◌, length, Option, None, Some, codes}
use Rattle.jh_name.specs.declared.place.Kind.{Kind}
use Rattle.jh_name.specs.declared.place.Kind.TheVariants as sort
use Rattle.jh_lex.specs.declared.lexer.symbol.Symbol.{Symbol}
use Rattle.jh_lex.specs.declared.lexer.symbol.Symbol.TheVariants as symbol
use Rattle.jh_lex.specs.declared.lexer.token.Token.{Token}
use Rattle.jh_name.specs.declared.place.Place.{Place}
use Rattle.jh_ast.specs.declared.word.Word.{Word}
use Rattle.jh_ast.specs.Forms.{FormTree, SpecPart, LabelledPart}
use Rattle.jh_ast.specs.Forms as form
use Rattle.jh_ast.specs.Stmts.{StmtTree}
use Rattle.jh_ast.specs.Stmts as stmt
use Rattle.jh_operators.specs.lookahead.Choices.{◌>>=◌, choose}
use Rattle.jh_operators.specs.lookahead.Lists.{Found, many_at}
use Rattle.jh_operators.specs.lookahead.Modifiers.{modifiers_at, has}
use Rattle.jh_operators.specs.lookahead.Standing.{is_name_at, is_at, is_word_at, is_spec_close_at, is_quote_open_at, is_quote_close_at, is_plain_word_at, place_at, word_at, name_at, behind}
use Rattle.jh_spec.specs.parser.Parts.{ItemTree, variable, definition, invariant, PartTree, claimed, items, contract, loop, statements, numbered, of_variables}
use Rattle.jh_spec.specs.parser.Reading.{formula_at, postfix_of, inside}

-- a formula in quotes and the place after it
unfoldable pub quoted_at : List Token → ℕ → ℕ → Option (SpecPart × ℕ)
quoted_at ts n i = choose (is_quote_open_at ts i) (formula_at ts (i + 1) >>= λ t. Some (numbered ts i n t.0, t.1 + 1)) None

unfoldable pub label_at : List Token → ℕ → Option (Option Word × ℕ)
label_at ts i = choose (is_plain_word_at ts i && is_at ts (i + 1) symbol.Colon) (word_at ts i >>= λ w. Some (Some w, i + 2)) (Some (None, i))

unfoldable pub semicolon_at : List Token → ℕ → ℕ
semicolon_at ts i = choose (is_at ts i symbol.Semicolon) (i + 1) i

unfoldable pub clause_at : List Token → Symbol → ℕ → ℕ → Option (Found (Option SpecPart))
clause_at ts s n i = choose (is_at ts i s) (quoted_at ts n (i + 1) >>= λ q. Some (Some q.0, q.1, n + 1)) (Some (None, i, n))

unfoldable pub modifies_item_at : List Token → ℕ → Option (Word × ℕ)
modifies_item_at ts i =
    choose (is_quote_open_at ts i)
    (name_at ts (i + 1) >>= λ w. choose (is_quote_close_at ts (i + 2)) (Some (w, i + 3)) None)
    (name_at ts i >>= λ w. Some (w, i + 1))

-- words with commas between them, each read by a reader, no more than k
unfoldable pub separated_at : List Token → (ℕ → Option (Word × ℕ)) → ℕ → ℕ → Option (List Word × ℕ)
separated_at ts one zero i = None
separated_at ts one (suc k) i = one i >>= λ w.
    choose (is_at ts w.1 symbol.Comma) (separated_at ts one k (w.1 + 1) >>= λ r. Some (w.0 ∷ r.0, r.1)) (Some (w.0 ∷ [], w.1))

-- words with commas between them after a symbol, and none where it doesn't stand there
unfoldable pub words_after : List Token → Symbol → (ℕ → Option (Word × ℕ)) → ℕ → Option (List Word × ℕ)
words_after ts s one i = choose (is_at ts i s) (separated_at ts one (length ts) (i + 1)) (Some ([], i))

-- the last clause of a contract, up to the token that closes the specification
unfoldable pub ensured_at : List Token → ℕ → ℕ → Option (Found (Option SpecPart))
ensured_at ts n i = clause_at ts symbol.Ensures n i >>= λ post. choose (is_spec_close_at ts post.1) (Some post) None

unfoldable pub promised_at : List Token → ℕ → ℕ → Option (Found (List Word × Option SpecPart))
promised_at ts n i = words_after ts symbol.Modifies (modifies_item_at ts) i >>= λ ws. ensured_at ts n ws.1 >>= λ post. Some ((ws.0, post.0), post.1, post.2)

-- a contract up to the token that closes the specification
unfoldable pub contracted_at : List Token → ℕ → ℕ → Option (Found (Option SpecPart × List Word × Option SpecPart))
contracted_at ts n i = clause_at ts symbol.Requires n i >>= λ pre. promised_at ts pre.2 pre.1 >>= λ r. Some ((pre.0, r.0.0, r.0.1), r.1, r.2)

-- `"obj set"`
abbrev pub is_quoted_set_at : List Token → ℕ → Bool
is_quoted_set_at ts i = is_quote_open_at ts i && (is_word_at ts (i + 1) (codes "obj") && (is_word_at ts (i + 2) (codes "set") && is_quote_close_at ts (i + 3)))

unfoldable pub kind_of_at : List Token → ℕ → Option (Kind × ℕ)
kind_of_at ts i =
    choose (is_word_at ts i (codes "obj")) (Some (sort.Obj, i + 1))
    (choose (is_at ts i symbol.Int) (Some (sort.Int, i + 1))
    (choose (is_word_at ts i (codes "bool")) (Some (sort.Bool, i + 1))
    (choose (is_word_at ts i (codes "objset")) (Some (sort.Set, i + 1))
    (choose (is_quoted_set_at ts i) (Some (sort.Set, i + 4)) None))))

unfoldable pub declared_at : List Token → ℕ → Option ((Word × Kind) × ℕ)
declared_at ts i = word_at ts i >>= λ w. behind ts (i + 1) symbol.ColonColon >>= λ a. kind_of_at ts (i + 2) >>= λ k. Some ((w, k.0), k.1)

-- whether `static` and `ghost` are among the modifiers, and the place after them
unfoldable pub flags_at : List Token → ℕ → Option ((Bool × Bool) × ℕ)
flags_at ts i = modifiers_at ts of_variables (suc (length ts)) [] i >>= λ ms. Some ((has ms.0 symbol.Static, has ms.0 symbol.Ghost), ms.1)

unfoldable pub variable_at : List Token → ℕ → ℕ → Option (Found ItemTree)
variable_at ts n i = flags_at ts i >>= λ f. behind ts f.1 symbol.Specvar >>= λ a. declared_at ts a >>= λ d. clause_at ts symbol.Equal n d.1 >>= λ init.
    behind ts init.1 symbol.Semicolon >>= λ j. Some (variable (record { name = d.0.0; kind = d.0.1; fixed = f.0.0; is_ghost = f.0.1; init = init.0 }), j, init.2)

-- a definition in quotes, and the place after the closing one
unfoldable pub defined_at : List Token → ℕ → ℕ → Option ((Word × SpecPart) × ℕ)
defined_at ts n i = choose (is_quote_open_at ts i)
    (word_at ts (i + 1) >>= λ w. behind ts (i + 2) symbol.EqualEqual >>= λ a. formula_at ts (i + 3) >>= λ t. Some ((w, numbered ts i n t.0), t.1 + 1))
    None

unfoldable pub definition_at : List Token → ℕ → ℕ → Option (Found ItemTree)
definition_at ts n i = defined_at ts n (i + 1) >>= λ d. behind ts d.1 symbol.Semicolon >>= λ j. Some (definition (record { name = d.0.0; spec = d.0.1 }), j, n + 1)

-- a formula with a label before it, where one stands
unfoldable pub labelled_at : List Token → ℕ → ℕ → Option (LabelledPart × ℕ)
labelled_at ts n i = label_at ts i >>= λ l. quoted_at ts n l.1 >>= λ q. Some (record { label = l.0; spec = q.0; from = [] }, q.1)

-- an invariant with its word `invariant` at a
unfoldable pub invariant_at : List Token → ℕ → ℕ → Option (Found ItemTree)
invariant_at ts n a = labelled_at ts n (a + 1) >>= λ l. behind ts l.1 symbol.Semicolon >>= λ j. Some (invariant l.0, j, n + 1)

-- whether an invariant begins there with a word that says who may see it
abbrev pub is_seen_invariant_at : List Token → ℕ → Bool
is_seen_invariant_at ts i = (is_at ts i symbol.Public || is_at ts i symbol.Private) && is_at ts (i + 1) symbol.Invariant

unfoldable pub item_at : List Token → ℕ → ℕ → Option (Found ItemTree)
item_at ts n i =
    choose (is_at ts i symbol.Vardefs) (definition_at ts n i)
    (choose (is_at ts i symbol.Invariant) (invariant_at ts n i)
    (choose (is_seen_invariant_at ts i) (invariant_at ts n (i + 1)) (variable_at ts n i)))

unfoldable pub loop_item_at : List Token → ℕ → ℕ → Option (Found LabelledPart)
loop_item_at ts n i = behind ts i symbol.Inv >>= λ a. labelled_at ts n a >>= λ l. Some (l.0, semicolon_at ts l.1, n + 1)

abbrev pub word_reader : List Token → ℕ → Option (Word × ℕ)
word_reader ts i = word_at ts i >>= λ w. Some (w, i + 1)

unfoldable pub spoken_at : List Token → ℕ → ℕ → Option (LabelledPart × ℕ)
spoken_at ts n i = label_at ts i >>= λ l. quoted_at ts n l.1 >>= λ q. words_after ts symbol.From (word_reader ts) q.1 >>= λ ws.
    Some (record { label = l.0; spec = q.0; from = ws.0 }, ws.1)

unfoldable pub named_at : List Token → ℕ → ℕ → Option (SpecPart × ℕ)
named_at ts n i = name_at ts i >>= λ w. Some (numbered ts i n (form.name (place_at ts i) w), i + 1)

unfoldable pub target_at : List Token → ℕ → ℕ → Option (SpecPart × ℕ)
target_at ts n i =
    choose (is_quote_open_at ts i)
    (postfix_of ts (inside ts (length ts)) (i + 1) >>= λ t. choose (is_quote_close_at ts t.1) (Some (numbered ts i n t.0, t.1 + 1)) None)
    (named_at ts n i)

unfoldable pub ghost_at : List Token → ℕ → ℕ → Option (Found StmtTree)
ghost_at ts n i = target_at ts n i >>= λ v. behind ts v.1 symbol.ColonEqual >>= λ a. quoted_at ts (n + 1) a >>= λ q.
    Some (stmt.ghost (place_at ts i) v.0 q.0, semicolon_at ts q.1, n + 1 + 1)

-- after `assert` or `note`
unfoldable pub said_at : List Token → (Place → LabelledPart → StmtTree) → ℕ → ℕ → Option (Found StmtTree)
said_at ts said n i = spoken_at ts n (i + 1) >>= λ l. Some (said (place_at ts i) l.0, semicolon_at ts l.1, n + 1)

unfoldable pub statement_at : List Token → ℕ → ℕ → Option (Found StmtTree)
statement_at ts n i =
    choose (is_at ts i symbol.Assert) (said_at ts stmt.assert n i)
    (choose (is_at ts i symbol.Note) (said_at ts stmt.note n i) (ghost_at ts n i))

-- the lists of parts, up to the token that closes the specification
abbrev pub items_at : List Token → ℕ → ℕ → Option (Found (List ItemTree))
items_at ts n i = many_at (is_spec_close_at ts) (item_at ts) (length ts) n i

abbrev pub loop_at : List Token → ℕ → ℕ → Option (Found (List LabelledPart))
loop_at ts n i = many_at (is_spec_close_at ts) (loop_item_at ts) (length ts) n i

abbrev pub statements_at : List Token → ℕ → ℕ → Option (Found (List StmtTree))
statements_at ts n i = many_at (is_spec_close_at ts) (statement_at ts) (length ts) n i

unfoldable pub claimed_at : List Token → ℕ → Option (Word × ℕ)
claimed_at ts i = behind ts i symbol.ClaimedBy >>= λ a. word_at ts (i + 1) >>= λ w. choose (is_spec_close_at ts (i + 2)) (Some (w, i + 2)) None

-- with which tokens a contract, and a statement, begin
abbrev pub begins_contract_at : List Token → ℕ → Bool
begins_contract_at ts i = is_at ts i symbol.Requires || (is_at ts i symbol.Modifies || is_at ts i symbol.Ensures)

abbrev pub is_said_at : List Token → ℕ → Bool
is_said_at ts i = is_at ts i symbol.Assert || is_at ts i symbol.Note

abbrev pub begins_target_at : List Token → ℕ → Bool
begins_target_at ts i = is_name_at ts i || is_quote_open_at ts i

abbrev pub begins_statement_at : List Token → ℕ → Bool
begins_statement_at ts i = is_said_at ts i || begins_target_at ts i

-- a contract as a part
abbrev pub contract_of_at : List Token → ℕ → Option (PartTree × ℕ)
contract_of_at ts i = contracted_at ts 0 i >>= λ c. Some (contract c.0.0 c.0.1 c.0.2, c.1)

-- the contents of a specification, up to the token that closes it
unfoldable pub part_at : List Token → ℕ → Option (PartTree × ℕ)
part_at ts i =
    choose (is_at ts i symbol.ClaimedBy) (claimed_at ts i >>= λ w. Some (claimed w.0, w.1))
    (choose (begins_contract_at ts i) (contract_of_at ts i)
    (choose (is_at ts i symbol.Inv) (loop_at ts 0 i >>= λ r. Some (loop r.0, r.1))
    (choose (begins_statement_at ts i) (statements_at ts 0 i >>= λ r. Some (statements r.0, r.1))
    (items_at ts 0 i >>= λ r. Some (items r.0, r.1)))))
