-- Ground atoms, and literals over them. An instance is an And and Or of literals: it is in negation normal form and has no
-- quantifier. True and False are known and no atoms of it, and so are their negations.
use Rattle.std.specs.Prelude.{◌≡◌, ◌⊎◌, Bool, true, false, not, List, [], ◌∷◌, ◌++◌}
use Rattle.std.specs.List.{flat_map}
use Rattle.jh_form.specs.Tree.{FormulaTree}
use Rattle.jh_form.specs.Tree as t
use Rattle.jh_closure.specs.structures.Literals.{LiteralTree}

abbrev pub literal : FormulaTree → Bool → LiteralTree
literal a p = record { atom = a; holds = p }

-- the literal that says the contrary
abbrev pub opposite : LiteralTree → LiteralTree
opposite l = literal l.atom (not l.holds)

abbrev pub atom_of : FormulaTree → List FormulaTree
atom_of t.true_formula = []
atom_of t.false_formula = []
atom_of a = a ∷ []

-- the atoms of an instance, each as often as it stands
abbrev pub atoms_of : FormulaTree → List FormulaTree
atoms_of (t.and a b) = atoms_of a ++ atoms_of b
atoms_of (t.or a b) = atoms_of a ++ atoms_of b
atoms_of (t.negation a) = atom_of a
atoms_of a = atom_of a

abbrev pub ground_atoms : List FormulaTree → List FormulaTree
ground_atoms is = flat_map atoms_of is

-- the formula stands in the list
abbrev pub StandsIn : List FormulaTree → FormulaTree → Type 0
StandsIn [] a = ⊥
StandsIn (b ∷ bs) a = (b ≡ a) ⊎ StandsIn bs a

-- a ground atom of the instances
abbrev pub IsGroundAtom : List FormulaTree → FormulaTree → Type 0
IsGroundAtom is a = StandsIn (ground_atoms is) a

-- An equality is an atom of two sides: of objects or of numbers in local shape.
abbrev pub is_equality : FormulaTree → Bool
is_equality (t.eq_object a b) = true
is_equality (t.eq_number a b) = true
is_equality (t.eq_set a b) = true
is_equality (t.iff a b) = true
is_equality _ = false
