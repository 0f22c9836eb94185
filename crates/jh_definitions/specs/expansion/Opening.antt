-- Definitions that are opened one after another.
use Rattle.std.specs.Prelude.{◌≡◌, ◌<◌, ℕ, List, map, Some, length, slice_get}
use Rattle.jh_ast.specs.declared.program.Class.{Class}
use Rattle.jh_ast.specs.Bare.{class_part, form_tree}
use Rattle.jh_ast.specs.Programs.{ProgramTree, DefPart}
use Rattle.jh_form.specs.Tree.{ValueTree}
use Rattle.jh_rules.specs.Names.{def_of}
use Rattle.jh_rules.specs.Words.{text_of}
use Rattle.jh_symbols.specs.scopes.Lookings.{declared_by}
use Rattle.jh_vars.specs.Opened.{is_of_objects, meant, all_definitions, outside}
use Rattle.jh_vars.specs.Resolved.{resolved}
use Rattle.jh_vars.specs.States.{Variable}
use Rattle.jh_vars.specs.Following.{Follows}
use Rattle.jh_resolution.specs.declared.context.Context.{Context}
use Rattle.jh_symbols.specs.declared.member_numbers.numbers.Numbers.{Numbers}
use Rattle.jh_resolution.specs.Meant.{meaning_in}
use Rattle.jh_resolution.specs.Spots.{spelled_by}
use Rattle.jh_definitions.specs.declared.expansion.opening.Definition.{Definition}

-- the source with these classes
abbrev pub source_of : List Class → ProgramTree
source_of cs = record { classes = map class_part cs }

abbrev pub defined_by : Definition → Variable
defined_by d = record { class = d.class; name = text_of d.word.now }

-- a definition is the one that the source has for its variable
pub record IsDefinition (p : ProgramTree) (d : Definition) : Type 0 where
  pub part : DefPart
  pub found : def_of p d.class (text_of d.word.now) ≡ Some part
  pub form : part.spec.form ≡ form_tree d.body.now
  pub objects : is_of_objects p d.class (text_of d.word.now) ≡ d.of_objects
  pub inside : d.class < length p.classes

abbrev pub AreDefinitions : ProgramTree → List Definition → Type 0
AreDefinitions p ds = (k : ℕ) (d : Definition) → slice_get ds k ≡ Some d → IsDefinition p d

-- each reads only variables that are defined before it
abbrev pub AreInOrder : ProgramTree → List Definition → Type 0
AreInOrder p ds = Follows p (map defined_by ds)

-- each variable means what its definition says
abbrev pub AreMeant : ProgramTree → List ValueTree → Numbers → List Definition → Type 0
AreMeant p ts made ds = (k : ℕ) (d : Definition) → slice_get ds k ≡ Some d → meaning_in ts made d.class (text_of d.word.now) ≡ meant p (all_definitions p) d.class (text_of d.word.now)

-- a variable has a definition in a list
abbrev pub IsAmong : List Definition → ℕ → List ℕ → Type 0
IsAmong ds c x = (k : ℕ) × (d : Definition) × (slice_get ds k ≡ Some d) × (d.class ≡ c) × (text_of d.word.now ≡ x)

-- what a definition says, over what is known of other variables
abbrev pub value_of : List ValueTree → Context → Definition → ValueTree
value_of ts x d = resolved (declared_by x.lookups.now) (spelled_by x.classes.now) (meaning_in ts x.meanings.now) (form_tree d.body.now) (outside d.class d.of_objects)
