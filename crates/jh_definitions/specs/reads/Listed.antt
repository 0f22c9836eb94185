-- What is read, as the list of the definition.
use Rattle.std.specs.Prelude.{ℕ, List, [], ◌∷◌, ◌++◌, map, codes}
use Rattle.jh_ast.specs.declared.word.Word.{Word}
use Rattle.jh_ast.specs.Forms.{FormTree, FormTrees}
use Rattle.jh_rules.specs.Words.{text_of}
use Rattle.jh_symbols.specs.scopes.Lookings.{declared_by}
use Rattle.jh_vars.specs.States.{State}
use Rattle.jh_vars.specs.Reading.{reads, all_read}
use Rattle.jh_resolution.specs.Spots.{texts_of}
use Rattle.jh_definitions.specs.declared.reads.naming.Read.{Read}
use Rattle.jh_definitions.specs.declared.reads.naming.Reading.{Reading}

abbrev pub state_of : Read → State
state_of x = record { entry = x.entry; name = x.own }

abbrev pub states_in : List Read → List State
states_in xs = map state_of xs

-- the names that are no members in any class
abbrev pub no_states : List (List ℕ)
no_states = codes "this" ∷ codes "result" ∷ codes "alloc" ∷ codes "Object" ∷ codes "Object.alloc" ∷ []

abbrev pub reads_at : Reading → FormTree → List State
reads_at at a = reads (declared_by at.lookups.now) a at.class (texts_of at.bound.now)

abbrev pub all_reads_at : Reading → FormTrees → List State
all_reads_at at fs = all_read (declared_by at.lookups.now) fs at.class (texts_of at.bound.now)

abbrev pub reads_under : Reading → List Word → FormTree → List State
reads_under at ws a = reads (declared_by at.lookups.now) a at.class (texts_of at.bound.now ++ map text_of ws)
