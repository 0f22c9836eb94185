-- Which facts are chosen, over what is noted of them.
use Rattle.std.specs.Prelude.{◌≡◌, ℕ, Bool, true, false, not, ◌&&◌, ◌||◌, List, [], map, filter, Option, Some, None, slice_get}
use Rattle.std.specs.List.{list_any}
use Rattle.jh_name.specs.declared.naming.Name.{Name}
use Rattle.jh_name.specs.declared.place.Sort as place
use Rattle.jh_form.specs.Tree.{FormulaTree, ValueTree, of_truth}
use Rattle.jh_containers.specs.connected_component.Reaching.{IsReach}
use Rattle.jh_containers.specs.connected_component.Reaching as reaching
use Rattle.jh_query_names.specs.query_names.Kinds.{value_at}
use Rattle.jh_approx.specs.definition.Shown.{shown}
use Rattle.jh_approx.specs.definition.Names.{names, without_repeats}
use Rattle.jh_approx.specs.definition.Links.{is_set_of_class, reads_set, reads_within, is_nameless}
use Rattle.jh_seq.specs.sequent.Sequents.{HypTree, SequentTree}
use Rattle.jh_splitting.specs.Pairs.{ArePaired}
use Rattle.jh_query_names.specs.declared.mentioned_names.memo.Note.{Note}
use Rattle.jh_query_names.specs.mentioned_names.Linking.{linking}
use Rattle.jh_query_names.specs.mentioned_names.Notes.{AreTrees, AreInside, IsNote}

-- at the place stands a right note for a formula
pub record HasNote (ts : List ValueTree) (notes : List Note) (place : ℕ) (a : FormulaTree) : Type 0 where
  pub note : Note
  pub at : slice_get notes place ≡ Some note
  pub is : IsNote ts a note

-- each hypothesis has its note at its place
abbrev pub HaveNotes : List ValueTree → List Note → List ℕ → List HypTree → Type 0
HaveNotes ts notes places hs = ArePaired (λ place (h : HypTree). HasNote ts notes place h.fact) places hs

-- What a sequent is over notes: its hypotheses have notes, its goal stands at a node, and what a query can say of it at another.
pub record IsOver (ts : List ValueTree) (notes : List Note) (places : List ℕ) (goal said : ℕ) (s : SequentTree) : Type 0 where
  pub noted : HaveNotes ts notes places s.hyps
  pub wanted : slice_get ts goal ≡ Some (of_truth s.goal)
  pub told : slice_get ts said ≡ Some (of_truth (shown s.goal true))

-- the names of a note
abbrev pub names_noted : Option Note → List ℕ
names_noted None = []
names_noted (Some note) = note.names

-- the names of the note at each place are nodes of the table
abbrev pub AreRowsInside : List ValueTree → List Note → List ℕ → Type 0
AreRowsInside ts notes places = (i place : ℕ) → slice_get places i ≡ Some place → (note : Note) × (slice_get notes place ≡ Some note) × AreInside ts note.names

-- the linking names among some
abbrev pub linking_names : List ValueTree → Bool → List ℕ → List ℕ
linking_names ts few ns = filter (λ n. linking few (value_at ts n)) ns

-- the linking names of the fact at a place
abbrev pub linking_row : List ValueTree → Bool → List Note → ℕ → List ℕ
linking_row ts few notes place = linking_names ts few (names_noted (slice_get notes place))

-- a set or a number that links is among the names
abbrev pub has_few : List ValueTree → List ℕ → Bool
has_few ts ns = list_any (λ n. linking true (value_at ts n)) ns

-- The numbers are the names that are reached from those of a goal along the facts.
abbrev pub AreReached : List ValueTree → List Note → List ℕ → List ℕ → List ℕ → Type 0
AreReached ts notes places ns known = IsReach (map (linking_row ts (has_few ts ns) notes) places) (linking_names ts (has_few ts ns) ns) known

-- The numbers decide which facts are linked: those that have one of them as a name.
abbrev pub DecideLinks : List ValueTree → List ℕ → (FormulaTree → Bool) → Type 0
DecideLinks ts known linked = (a : FormulaTree) (ns : List ℕ) → AreTrees ts ns (without_repeats (names (shown a false))) → reaching.shares ns known ≡ linked a

-- a free name is none of `alloc` and the class sets but those of a formula
abbrev pub stands_within : FormulaTree → Name → place.Sort → Bool
stands_within goal x s = not (is_set_of_class x s) || reads_set goal x

-- where the goal names no facts, a hypothesis is kept by what it speaks of
abbrev pub is_near : FormulaTree → (FormulaTree → Bool) → FormulaTree → Bool
is_near goal linked a = reads_within goal a && (linked a || is_nameless a)

-- what a query can say of the hypotheses that pass a test
abbrev pub said_of : (HypTree → Bool) → List HypTree → List FormulaTree
said_of test hs = map (λ h. shown h.fact false) (filter test hs)
