-- Negation normal form: negations stand before atoms alone, and there is no implication and no equivalence.
use Rattle.std.specs.Prelude.{Bool, true, false, not, ◌&&◌}
use Rattle.jh_form.specs.Tree.{FormulaTree}
use Rattle.jh_form.specs.Tree as t

-- The negation normal form of a formula, where the flag is true, and else that of its negation. An equivalence is
-- opened into (~ A | B) & (~ B | A), and its negation into (A | B) & (~ A | ~ B). Formulas inside terms stay.
unfoldable pub normal : FormulaTree → Bool → FormulaTree
normal (t.negation a) s = normal a (not s)
normal (t.and a b) true = t.and (normal a true) (normal b true)
normal (t.and a b) false = t.or (normal a false) (normal b false)
normal (t.or a b) true = t.or (normal a true) (normal b true)
normal (t.or a b) false = t.and (normal a false) (normal b false)
normal (t.implies a b) true = t.or (normal a false) (normal b true)
normal (t.implies a b) false = t.and (normal a true) (normal b false)
normal (t.iff a b) true = t.and (t.or (normal a false) (normal b true)) (t.or (normal b false) (normal a true))
normal (t.iff a b) false = t.and (t.or (normal a true) (normal b true)) (t.or (normal a false) (normal b false))
normal (t.all a) true = t.all (normal a true)
normal (t.all a) false = t.ex (normal a false)
normal (t.ex a) true = t.ex (normal a true)
normal (t.ex a) false = t.all (normal a false)
normal (t.mark k a) s = t.mark k (normal a s)
normal a true = a
normal a false = t.negation a

-- a formula that is no connective, no quantifier and no label
unfoldable pub is_atom : FormulaTree → Bool
is_atom (t.negation a) = false
is_atom (t.and a b) = false
is_atom (t.or a b) = false
is_atom (t.implies a b) = false
is_atom (t.iff a b) = false
is_atom (t.all a) = false
is_atom (t.ex a) = false
is_atom (t.mark k a) = false
is_atom _ = true

-- whether a formula is in negation normal form
unfoldable pub is_normal : FormulaTree → Bool
is_normal (t.negation a) = is_atom a
is_normal (t.and a b) = is_normal a && is_normal b
is_normal (t.or a b) = is_normal a && is_normal b
is_normal (t.implies a b) = false
is_normal (t.iff a b) = false
is_normal (t.all a) = is_normal a
is_normal (t.ex a) = is_normal a
is_normal (t.mark k a) = is_normal a
is_normal _ = true

-- a truth, or the opposite of it
abbrev pub signed : Bool → Bool → Bool
signed true p = p
signed false p = not p
