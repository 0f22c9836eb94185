-- What the readers of specifications answer, seen as trees.
use Rattle.std.specs.Prelude.{ℕ, Option, option_map, Result, List, map}
use Rattle.std.specs.declared.alloc.Global.{Global}
use Rattle.std.specs.declared.vec.Vec.{Vec}
use Rattle.jh_ast.specs.declared.spec.Spec.{Spec}
use Rattle.jh_ast.specs.declared.spec.Labelled.{Labelled}
use Rattle.jh_ast.specs.declared.stmt.Stmt.{Stmt}
use Rattle.jh_ast.specs.declared.word.Word.{Word}
use Rattle.jh_lex.specs.declared.lexer.token.Token.{Token}
use Rattle.jh_ast.specs.Bare.{form_tree, spec_part, labelled_part, stmt_tree, var_part, def_part}
use Rattle.jh_ast.specs.Forms.{SpecPart, LabelledPart}
use Rattle.jh_ast.specs.Stmts.{StmtTree}
use Rattle.jh_operators.specs.declared.lookahead.error.ReadError.{ReadError}
use Rattle.jh_operators.specs.lookahead.Answers.{Gives}
use Rattle.jh_operators.specs.lookahead.Lists.{Found}
use Rattle.jh_spec.specs.declared.parser.part.SpecItem.{SpecItem}
use Rattle.jh_spec.specs.declared.parser.part.SpecItem.TheVariants as item
use Rattle.jh_spec.specs.declared.parser.held.Numbered.{Numbered}
use Rattle.jh_spec.specs.declared.parser.held.Said.{Said}
use Rattle.jh_spec.specs.declared.parser.clauses.Listed.{Listed}
use Rattle.jh_spec.specs.declared.parser.clauses.Listed.TheVariants as listed
use Rattle.jh_spec.specs.parser.PartReading.{modifies_item_at, word_reader}
use Rattle.jh_spec.specs.parser.Parts.{ItemTree, variable, definition, invariant, PartTree, claimed, items, contract, loop, statements}
use Rattle.jh_spec.specs.declared.parser.part.SpecPart.{SpecPart as Whole}
use Rattle.jh_spec.specs.declared.parser.part.SpecPart.TheVariants as whole

-- the item without memory
abbrev pub item_tree : SpecItem → ItemTree
item_tree (item.Var v) = variable (var_part v)
item_tree (item.Def d) = definition (def_part d)
item_tree (item.Invariant l) = invariant (labelled_part l)

-- one word of a list
abbrev pub listed_at : List Token → Listed → ℕ → Option (Word × ℕ)
listed_at ts listed.Modified i = modifies_item_at ts i
listed_at ts listed.Facts i = word_reader ts i

-- formulas while they are in boxes
abbrev pub numbered_part : Numbered → SpecPart
numbered_part n = record { place = n.place; number = n.number; form = form_tree n.form.value }

abbrev pub said_part : Said → LabelledPart
said_part s = record { label = s.name; spec = numbered_part s.form; from = s.from }

-- a thing and the place after it
abbrev pub GivesSpec : Option (SpecPart × ℕ) → Result (Numbered × ℕ) ReadError → Type 0
GivesSpec wanted result = Gives (λ r. (numbered_part r.0, r.1)) wanted result

abbrev pub GivesLabel : Option (Option Word × ℕ) → Result (Option Word × ℕ) ReadError → Type 0
GivesLabel wanted result = Gives (λ r. (r.0, r.1)) wanted result

abbrev pub GivesWord : Option (Word × ℕ) → Result (Word × ℕ) ReadError → Type 0
GivesWord wanted result = Gives (λ r. (r.0, r.1)) wanted result

abbrev pub GivesLabelled : Option (LabelledPart × ℕ) → Result (Said × ℕ) ReadError → Type 0
GivesLabelled wanted result = Gives (λ r. (said_part r.0, r.1)) wanted result

-- a thing, the place after it and the number after its formulas
abbrev pub GivesItem : Option (Found ItemTree) → Result (SpecItem × ℕ × ℕ) ReadError → Type 0
GivesItem wanted result = Gives (λ r. (item_tree r.0, r.1, r.2)) wanted result

abbrev pub GivesLoopItem : Option (Found LabelledPart) → Result (Labelled × ℕ × ℕ) ReadError → Type 0
GivesLoopItem wanted result = Gives (λ r. (labelled_part r.0, r.1, r.2)) wanted result

abbrev pub GivesStatement : Option (Found StmtTree) → Result (Stmt × ℕ × ℕ) ReadError → Type 0
GivesStatement wanted result = Gives (λ r. (stmt_tree r.0, r.1, r.2)) wanted result

-- a clause, which may be absent
abbrev pub GivesClause : Option (Found (Option SpecPart)) → Result (Option Numbered × ℕ × ℕ) ReadError → Type 0
GivesClause wanted result = Gives (λ r. (option_map numbered_part r.0, r.1, r.2)) wanted result

-- lists, the place of the token that closes the specification and the number after their formulas
abbrev pub GivesItems : Option (Found (List ItemTree)) → Result (Vec SpecItem Global × ℕ × ℕ) ReadError → Type 0
GivesItems wanted result = Gives (λ r. (map item_tree r.0.items, r.1, r.2)) wanted result

abbrev pub GivesLoop : Option (Found (List LabelledPart)) → Result (Vec Labelled Global × ℕ × ℕ) ReadError → Type 0
GivesLoop wanted result = Gives (λ r. (map labelled_part r.0.items, r.1, r.2)) wanted result

abbrev pub GivesStatements : Option (Found (List StmtTree)) → Result (Vec Stmt Global × ℕ × ℕ) ReadError → Type 0
GivesStatements wanted result = Gives (λ r. (map stmt_tree r.0.items, r.1, r.2)) wanted result

abbrev pub GivesContract : Option (Found (Option SpecPart × List Word × Option SpecPart)) → Result ((Option Spec × Vec Word Global × Option Spec) × ℕ × ℕ) ReadError → Type 0
GivesContract wanted result = Gives (λ r. ((option_map spec_part r.0.0, r.0.1.items, option_map spec_part r.0.2), r.1, r.2)) wanted result

abbrev pub GivesPromise : Option (Found (List Word × Option SpecPart)) → Result ((Vec Word Global × Option Numbered) × ℕ × ℕ) ReadError → Type 0
GivesPromise wanted result = Gives (λ r. ((r.0.0.items, option_map numbered_part r.0.1), r.1, r.2)) wanted result

-- the part without memory
abbrev pub part_tree : Whole → PartTree
part_tree (whole.Claimed w) = claimed w
part_tree (whole.Items xs) = items (map item_tree xs)
part_tree (whole.Contract pre ws post) = contract (option_map spec_part pre) ws (option_map spec_part post)
part_tree (whole.Loop xs) = loop (map labelled_part xs)
part_tree (whole.Statements xs) = statements (map stmt_tree xs)

abbrev pub GivesPart : Option (PartTree × ℕ) → Result (Whole × ℕ) ReadError → Type 0
GivesPart wanted result = Gives (λ r. (part_tree r.0, r.1)) wanted result
