-- Commands that are added to a list, and names as the code holds them.
use Rattle.std.specs.Prelude.{◌≡◌, ℕ, true, List, [], ◌∷◌, ◌++◌, map, slice_get}
use Rattle.std.specs.List.{flat_map}
use Rattle.std.specs.Option.{option_map_or}
use Rattle.jh_form.specs.Tree as t
use Rattle.jh_name.specs.declared.place.Sort.TheVariants as sort
use Rattle.jh_semantics.specs.jh_vars.state_names.States.{member_sort}
use Rattle.jh_arena.specs.table.Entries.{Listing}
use Rattle.jh_command_terms.specs.jh_wp.Command.{CommandTree}
use Rattle.jh_command_terms.specs.jh_wp.Command as w
use Rattle.jh_command_terms.specs.declared.command.command.Command.{Command}
use Rattle.jh_command_terms.specs.command.Code.{command_in, list_fits}
use Rattle.jh_semantics.specs.Code.{Text}
use Rattle.jh_semantics.specs.Program as p
use Rattle.jh_semantics.specs.State.{named}
use Rattle.jh_command_terms.specs.jh_guard.Items.{Sorted}
use Rattle.jh_command_terms.specs.jh_guard.Steps.{fresh}
use Rattle.jh_state_facts.specs.declared.well_formedness.state.Member.{Member}
use Rattle.jh_state_facts.specs.well_formedness.States.{member_in}
use Rattle.jh_state_facts.specs.declared.changes.names.SortedName.{SortedName}

-- Behind what a list held, commands are added that are these.
pub record AddsCommands (t : Listing) (old new : List Command) (more : List CommandTree) : Type 0 where
  pub added : List Command
  pub list : new ≡ old ++ added
  pub are : map (command_in t) added ≡ more
  pub fits : list_fits t added ≡ true

-- a name by its text, with its sort
abbrev pub sorted_of : SortedName → Sorted
sorted_of x = record { text = x.text.now; sort = x.sort }

abbrev pub sorted_in : List SortedName → List Sorted
sorted_in xs = map sorted_of xs

-- that a set only grew since its copy at a turn
abbrev pub grew : ℕ → Sorted → CommandTree
grew k x = w.assume (t.subset (t.free_set (fresh x.text k)) (t.free_set (named x.text)))

-- the member at a place of a list, where there is one, and those at several places
abbrev pub chosen_at : List Text → List Member → ℕ → List p.Member
chosen_at classes members n = option_map_or (λ x. member_in classes x ∷ []) (slice_get members n) []

abbrev pub chosen : List Text → List Member → List ℕ → List p.Member
chosen classes members places = flat_map (chosen_at classes members) places

-- a set of objects, and a member
abbrev pub set_sorted : Text → Sorted
set_sorted x = record { text = x; sort = sort.Set }

abbrev pub member_sorted : Member → Sorted
member_sorted x = record { text = x.text; sort = member_sort x.kind x.is_static }
