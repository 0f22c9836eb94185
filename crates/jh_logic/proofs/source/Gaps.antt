-- A program that breaks no rule and doesn't meet the premises, since no text has it: why `IsPlaced` is asked.
use Rattle.std.proofs.Common.{◌≡◌, refl, ℕ, List, [], ◌∷◌, codes}
use Rattle.jh_name.specs.declared.place.Place.{Place}
use Rattle.jh_ast.specs.declared.word.Word.{Word}
use Rattle.jh_ast.specs.Programs.{ProgramTree, ClassPart}
use Rattle.jh_rules.specs.Breaks.{faults_of}
use Rattle.jh_rules.specs.Words.{halves}
use Rattle.jh_rules.specs.Names.{first_named, class_from, def_in, states_from}
use Rattle.jh_rules.specs.Statements.{class_faults, classes_faults}
use Rattle.jh_semantics.specs.LoweredProgram.{program_of}
use Rattle.jh_semantics.specs.Typed.{NamesFit}
use Rattle.jh_logic.proofs.source.Lists.{has-first}

abbrev at : ℕ → ℕ → Place
at l n = record { line = l; column = n }

abbrev word : List ℕ → Place → Word
word x q = record { text = record { text = x; turn = 0 }; place = q }

-- two classes of one name whose names stand at one place, which no text has
abbrev empty-class : ClassPart
empty-class = record { name = word (codes "C") (at 1 7); fields = []; methods = []; vars = []; defs = []; invariants = [] }

abbrev twins : ProgramTree
twins = record { classes = empty-class ∷ empty-class ∷ [] }

twins-pass : faults_of twins ≡ []
unfolding halves first_named class_from def_in states_from class_faults classes_faults
twins-pass = refl

twins-unfit : NamesFit (program_of twins) → ⊥
twins-unfit fits = fits.classes.0 (codes "C") (has-first (codes "C") (codes "Object" ∷ [])) refl
