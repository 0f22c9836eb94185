-- The parts of commands over nodes, as they are boxed.
use Rattle.std.proofs.Common.{◌≡◌, refl, sym, ap, ◌∙◌, ℕ, ◌<◌, ◌≤◌, ◌+◌, true, List, [], ◌∷◌, ◌++◌, map, take, length, get_or}
use Rattle.std.proofs.lemmas.List.{map-append, take_all}
use Rattle.jh_arena.specs.table.Entries.{Listing}
use Rattle.jh_wp.specs.Command as w
use Rattle.jh_command_terms.specs.declared.command.command.Command.{Command}
use Rattle.jh_command_terms.specs.command.Code.{command_in, command_fits, list_in, list_fits}
use Rattle.jh_command_terms.proofs.command.CodeSteps.{code_steps, part_steps, step-fits}
use Rattle.jh_boxed_commands.specs.commands.Trees.{command_tree, trees_of}
use Rattle.jh_boxed_commands.specs.declared.commands.command.Command.{Command as Boxed}
use Rattle.jh_boxed_commands.specs.declared.commands.command.Command.TheVariants as b
use Rattle.jh_boxed_commands.proofs.commands.TreeSteps.{tree_steps, tree-Seq}
use Rattle.jh_boxed_commands.proofs.commands.EnterSteps.{items-next}

list-trees : (t : Listing) (cs : List Command) → trees_of (map (command_in t) cs) ≡ list_in t cs
list-trees t [] = refl
list-trees t (a ∷ cs) = ap (w.more (command_in t a)) (list-trees t cs)

-- one more command of a list, and all
pub boxed-next : (t : Listing) (made new : List Boxed) (a : Boxed) (i : ℕ) (steps : List Command) (step : Command) → map command_tree made ≡ map (command_in t) (take i steps) → command_tree a ≡ command_in t step →
    new ≡ made ++ a ∷ [] → i < length steps → step ≡ get_or steps i step → map command_tree new ≡ map (command_in t) (take (i + 1) steps)
boxed-next t made new a i steps step h k e lt is =
    ap (map command_tree) e ∙ map-append command_tree made (a ∷ []) ∙ (λ j. h j ++ k j ∷ []) ∙ sym (items-next (command_in t) steps i step lt is)

pub boxed-end : (t : Listing) (made : List Boxed) (i : ℕ) (steps : List Command) → map command_tree made ≡ map (command_in t) (take i steps) → length steps ≤ i → command_tree (b.Seq made) ≡ w.seq (list_in t steps)
boxed-end t made i steps h le = tree-Seq made ∙ ap (λ fs. w.seq (trees_of fs)) (h ∙ ap (map (command_in t)) (take_all i steps le)) ∙ ap w.seq (list-trees t steps)

pub one-fits : (t : Listing) (steps : List Command) (i : ℕ) (step : Command) → list_fits t steps ≡ true → i < length steps → step ≡ get_or steps i step → command_fits t step ≡ true
one-fits t steps i step h lt is = ap (command_fits t) is ∙ step-fits t steps i step h lt

pub ruleset box_steps = (code_steps, part_steps, tree_steps)
