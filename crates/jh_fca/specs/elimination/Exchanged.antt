-- Reads of a constrained field are exchanged for variables of which the constraint is said.
use Rattle.std.specs.Prelude.{Bool, true, false, not, ◌||◌, if◌then◌else◌, List, [], ◌∷◌, filter}
use Rattle.jh_form.specs.Tree.{TermTree, FormulaTree}
use Rattle.jh_form.specs.Tree as t
use Rattle.jh_boxed.specs.Mapped.{mapped_term}
use Rattle.jh_boxed_operations.specs.comparison.Exchanged.{equal_trees}
use Rattle.jh_substitution.specs.rewriting.Rewritten.{rewritten_term}
use Rattle.jh_substitution.specs.simultaneous.Lifted.{lifting}
use Rattle.jh_substitution.specs.exchange.Under.{raised, exchanging_under, varied}
use Rattle.jh_substitution.specs.instantiation.Putting.{put}
use Rattle.jh_fca.specs.elimination.Constraints.{Constraint}
use Rattle.jh_fca.specs.elimination.Reads.{holds_read, formula_reads}

-- ---- one read

-- FC(t, y), where y is the variable of one more binder: y is put for the variable 0 of FC, and then t for the other
abbrev pub said : Constraint → TermTree → FormulaTree
said c a = put (put c.says (t.bound 1)) (mapped_term a (lifting 1) 0)

-- f(t)
abbrev pub read_at : Constraint → TermTree → TermTree
read_at c a = t.read_object (t.free_field c.field) a

-- a term under one more binder, whose variable stands for each occurrence of another term
unfoldable pub varied_term : TermTree → TermTree → TermTree
varied_term a b = rewritten_term (mapped_term a (lifting 1) 0) (exchanging_under (raised 1 (t.of_object b)) (t.of_object (t.bound 0))) 0

-- `ALL y. FC(t, y) --> P` where it stands positively, `EX y. FC(t, y) & P` where negatively
unfoldable pub quantified : Constraint → TermTree → Bool → FormulaTree → FormulaTree
quantified c a true p = t.all (t.implies (said c a) p)
quantified c a false p = t.ex (t.and (said c a) p)

-- ---- the reads of an atom

-- each once, where it stands first
unfoldable pub terms_once : List TermTree → List TermTree
terms_once [] = []
terms_once (a ∷ more) = a ∷ filter (λ b. not (equal_trees (t.of_object a) (t.of_object b))) (terms_once more)

-- Reads of an atom are exchanged one after another: for each a variable y is bound, of which FC(t, y) is said, and it stands for f(t)
-- in the atom and in the reads that come after. `now` says what the reads so far have made of a term.
unfoldable pub exchanged : Constraint → List TermTree → (TermTree → TermTree) → FormulaTree → Bool → FormulaTree
exchanged c [] now p positive = p
exchanged c (a ∷ more) now p positive = quantified c (now a) positive (exchanged c more (λ b. varied_term (now b) (read_at c (now a))) (varied p (read_at c (now a))) positive)

-- For example, where FC says `y = next x`, the goal `prev (prev a) = b` becomes
-- `ALL y. y = next a --> (ALL z. z = next y --> z = b)`.
unfoldable pub atom_exchanged : Constraint → FormulaTree → Bool → FormulaTree
atom_exchanged c p positive = exchanged c (terms_once (formula_reads p c.field)) (λ a. a) p positive

-- ---- a formula

-- The atoms of a formula with their reads exchanged, where the formula stands positively or negatively. An equivalence round a read
-- has it on both sides of an implication: it is two implications first. Atoms inside comprehensions and updates stay.
unfoldable pub eliminated : Constraint → FormulaTree → Bool → FormulaTree
eliminated c (t.negation a) positive = t.negation (eliminated c a (not positive))
eliminated c (t.and a b) positive = t.and (eliminated c a positive) (eliminated c b positive)
eliminated c (t.or a b) positive = t.or (eliminated c a positive) (eliminated c b positive)
eliminated c (t.implies a b) positive = t.implies (eliminated c a (not positive)) (eliminated c b positive)
eliminated c (t.iff a b) positive =
    if holds_read c.field a || holds_read c.field b
    then t.and (t.implies (eliminated c a (not positive)) (eliminated c b positive)) (t.implies (eliminated c b (not positive)) (eliminated c a positive))
    else t.iff a b
eliminated c (t.all a) positive = t.all (eliminated c a positive)
eliminated c (t.ex a) positive = t.ex (eliminated c a positive)
eliminated c (t.mark m a) positive = t.mark m (eliminated c a positive)
eliminated c p positive = atom_exchanged c p positive
