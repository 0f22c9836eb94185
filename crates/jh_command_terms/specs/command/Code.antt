-- The command without memory that a command over the nodes of a table is.
use Rattle.std.specs.Prelude.{◌≡◌, ℕ, Bool, true, ◌&&◌, List, [], ◌∷◌, Some, slice_get, is_some}
use Rattle.jh_form.specs.Tree.{FormulaTree, ValueTree, of_truth}
use Rattle.jh_arena.specs.table.Entries.{Listing, is_truth, the_truth, the_value}
use Rattle.jh_arena.specs.table.Nodes.{nodes}
use Rattle.jh_guard.specs.jh_wp.Command.{CommandTree, CommandTrees, assume, assert, assign, havoc, leave, stop, seq, choice, none, more}
use Rattle.jh_command_terms.specs.declared.command.command.Command.{Command, Row_of-Command, end_of-Command, more_of-Command}
use Rattle.jh_command_terms.specs.declared.command.command.Command.TheVariants as c

-- the formula at a node, and whether one stands there
abbrev pub truth_at : Listing → ℕ → FormulaTree
truth_at t n = the_truth (slice_get (nodes t) n)

abbrev pub is_truth_at : Listing → ℕ → Bool
is_truth_at t n = is_truth (slice_get (nodes t) n)

-- the value at a node, and whether there is such a node
abbrev pub value_at : Listing → ℕ → ValueTree
value_at t n = the_value (slice_get (nodes t) n)

abbrev pub is_at : Listing → ℕ → Bool
is_at t n = is_some (slice_get (nodes t) n)

-- the node is this formula
abbrev pub IsTruth : Listing → ℕ → FormulaTree → Type 0
IsTruth t n a = slice_get (nodes t) n ≡ Some (of_truth a)

module _ (t : Listing) where
  unfoldable mutual
    pub command_in : Command → CommandTree
    command_in (c.Assume n) = assume (truth_at t n)
    command_in (c.Assert n) = assert (truth_at t n)
    command_in (c.Assign x n) = assign x (value_at t n)
    command_in (c.Havoc x y) = havoc x y
    command_in c.Leave = leave
    command_in c.Stop = stop
    command_in (c.Seq' shape cs) = seq (commands_in cs)
    command_in (c.Choice' i a j b) = choice (command_in a) (command_in b)

    pub commands_in : {n : _} → Row_of-Command n → CommandTrees
    commands_in end_of-Command = none
    commands_in (more_of-Command a cs) = more (command_in a) (commands_in cs)

  -- the formulas and values of a command stand in the table
  unfoldable mutual
    pub command_fits : Command → Bool
    command_fits (c.Assume n) = is_truth_at t n
    command_fits (c.Assert n) = is_truth_at t n
    command_fits (c.Assign x n) = is_at t n
    command_fits (c.Havoc x y) = true
    command_fits c.Leave = true
    command_fits c.Stop = true
    command_fits (c.Seq' shape cs) = row_fits cs
    command_fits (c.Choice' i a j b) = command_fits a && command_fits b

    pub row_fits : {n : _} → Row_of-Command n → Bool
    row_fits end_of-Command = true
    row_fits (more_of-Command a cs) = command_fits a && row_fits cs

  -- the same of a list of commands
  abbrev pub list_in : List Command → CommandTrees
  list_in [] = none
  list_in (a ∷ cs) = more (command_in a) (list_in cs)

  abbrev pub list_fits : List Command → Bool
  list_fits [] = true
  list_fits (a ∷ cs) = command_fits a && list_fits cs
