-- The lines that say why the search for a ground model doesn't prove a sequent.
use Rattle.std.specs.Prelude.{ℕ, ◌==◌, Bool, true, if◌then◌else◌, List, [], ◌∷◌, ◌++◌, take, codes}
use Rattle.std.specs.List.{flat_map}
use Rattle.std.specs.Fmt.{decimal}
use Rattle.jh_name.specs.declared.naming.Name.{Name}
use Rattle.jh_form.specs.Tree.{FieldTree, FormulaTree, TermTree}
use Rattle.jh_form.specs.Tree as t
use Rattle.jh_closure.specs.structures.Literals.{LiteralTree}
use Rattle.jh_report.specs.causes.Causes.{joined}

-- a name, with its turn where it has one
abbrev pub turn_text : ℕ → List ℕ
turn_text turn = if turn == 0 then [] else codes "@" ++ decimal turn

abbrev pub name_text : Name → List ℕ
name_text x = x.text ++ turn_text x.turn

-- A field is a name in a sequent of local shape.
abbrev pub field_text : FieldTree → List ℕ
field_text (t.free_field x) = name_text x
field_text (t.update f a v) = []

-- a term for an object: null, a name, or a read; a ground atom has no bound variable
abbrev pub term_text : TermTree → List ℕ
term_text (t.bound k) = codes "#" ++ decimal k
term_text (t.free_object x) = name_text x
term_text t.null = codes "null"
term_text (t.read_object f a) = term_text a ++ (codes ".." ++ field_text f)

abbrev pub sides_text : TermTree → TermTree → List ℕ
sides_text a b = term_text a ++ (codes " = " ++ term_text b)

-- a literal that holds and is an equality of objects
abbrev pub pieces_if : Bool → FormulaTree → List (List ℕ)
pieces_if true (t.eq_object a b) = sides_text a b ∷ []
pieces_if holds a = []

abbrev pub equality_pieces : LiteralTree → List (List ℕ)
equality_pieces l = pieces_if l.holds l.atom

-- the first of these, so many at most
abbrev pub equalities : ℕ → List LiteralTree → List (List ℕ)
equalities n ls = take n (flat_map equality_pieces ls)

abbrev pub most_shown : ℕ
most_shown = 20

abbrev pub open_line : List LiteralTree → List ℕ
open_line ls = codes "  local open: " ++ (joined (equalities most_shown ls) ++ 10 ∷ [])

abbrev pub too_many_line : ℕ → List ℕ
too_many_line n = codes "  local too many: " ++ (decimal n ++ 10 ∷ [])

abbrev pub budget_line : ℕ → List ℕ
budget_line n = codes "  local budget: " ++ (decimal n ++ 10 ∷ [])
