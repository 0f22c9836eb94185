-- Commands over nodes that are boxed ones: one by one, in lists, and while the table grows.
use Rattle.std.proofs.Common.{◌≡◌, refl, sym, ap, subst, ◌∙◌, ℕ, ◌<◌, ◌≤◌, ◌+◌, true, ◌&&◌, List, [], ◌∷◌, ◌++◌, map, take, length, get_or, Some, slice_get, is_some}
use Rattle.std.proofs.lemmas.List.{map-append, take_more, take_all}
use Rattle.std.specs.declared.alloc.Global.{Global}
use Rattle.std.specs.declared.boxed.Box.{Box}
use Rattle.jh_name.specs.declared.naming.Name.{Name}
use Rattle.jh_form.specs.Tree.{ValueTree, FormulaTree, of_truth}
use Rattle.jh_form.proofs.ClosedLemmas.{both-left, both-right}
use Rattle.jh_arena.specs.table.Entries.{Listing, is_truth, the_truth, the_value}
use Rattle.jh_arena.specs.table.Growth.{Extends}
use Rattle.jh_arena.specs.table.Nodes.{nodes}
use Rattle.jh_wp.specs.Command.{CommandTree}
use Rattle.jh_wp.specs.Command as w
use Rattle.jh_command_terms.specs.declared.command.command.Command.{Command}
use Rattle.jh_command_terms.specs.declared.command.command.Command.TheVariants as c
use Rattle.jh_command_terms.specs.command.Code.{command_in, command_fits, list_in, list_fits}
use Rattle.jh_command_terms.proofs.command.CodeSteps.{command-grows, fitting-grows, list-fits-grows, command_in-Seq, command_fits-Seq}
use Rattle.jh_boxed_commands.specs.commands.Standing.{IsCommand, AreCommands}
use Rattle.jh_boxed_commands.specs.commands.Trees.{command_tree, trees_of}
use Rattle.jh_boxed_commands.specs.declared.commands.command.Command.{Command as Boxed}
use Rattle.jh_boxed_commands.specs.declared.commands.command.Command.TheVariants as b

pub is-grown : (t u : Listing) (a : Command) (f : CommandTree) → IsCommand t a f → Extends t u → IsCommand u a f
is-grown t u a f h g = record { is = command-grows t u g a h.fits ∙ h.is; fits = fitting-grows t u g a h.fits }

pub is-assume : (t : Listing) (n : ℕ) (f : FormulaTree) → slice_get (nodes t) n ≡ Some (of_truth f) → IsCommand t (c.Assume n) (w.assume f)
unfolding command_in command_fits the_truth is_truth
is-assume t n f h = record { is = λ i. w.assume (the_truth (h i)); fits = λ i. is_truth (h i) }

pub is-assert : (t : Listing) (n : ℕ) (f : FormulaTree) → slice_get (nodes t) n ≡ Some (of_truth f) → IsCommand t (c.Assert n) (w.assert f)
unfolding command_in command_fits the_truth is_truth
is-assert t n f h = record { is = λ i. w.assert (the_truth (h i)); fits = λ i. is_truth (h i) }

pub is-assign : (t : Listing) (x : Name) (n : ℕ) (v : ValueTree) → slice_get (nodes t) n ≡ Some v → IsCommand t (c.Assign x n) (w.assign x v)
unfolding command_in command_fits the_value
is-assign t x n v h = record { is = λ i. w.assign x (the_value (h i)); fits = λ i. is_some (h i) }

pub is-havoc : (t : Listing) (x y : Name) → IsCommand t (c.Havoc x y) (w.havoc x y)
unfolding command_in command_fits
is-havoc t x y = record { is = refl; fits = refl }

pub is-leave : (t : Listing) → IsCommand t c.Leave (command_tree b.Leave)
unfolding command_in command_fits command_tree
is-leave t = record { is = refl; fits = refl }

pub is-stop : (t : Listing) → IsCommand t c.Stop (command_tree b.Stop)
unfolding command_in command_fits command_tree
is-stop t = record { is = refl; fits = refl }

pub is-choice : (t : Listing) (x y : Box Command Global) (a b : CommandTree) → IsCommand t x.value a → IsCommand t y.value b → IsCommand t (c.Choice x y) (w.choice a b)
unfolding command_in command_fits
is-choice t x y a b h k = record { is = λ i. w.choice (h.is i) (k.is i); fits = λ i. h.fits i && k.fits i }

-- lists
pub are-none : (t : Listing) → AreCommands t [] []
are-none t = record { are = refl; fits = refl }

list-grows : (t u : Listing) (cs : List Command) → Extends t u → list_fits t cs ≡ true → map (command_in u) cs ≡ map (command_in t) cs
list-grows t u [] g h = refl
list-grows t u (a ∷ cs) g h =
    λ i. command-grows t u g a (both-left (command_fits t a) (list_fits t cs) h) i ∷ list-grows t u cs g (both-right (command_fits t a) (list_fits t cs) h) i

list-fits-append : (t : Listing) (cs ds : List Command) → list_fits t cs ≡ true → list_fits t ds ≡ true → list_fits t (cs ++ ds) ≡ true
list-fits-append t [] ds h k = k
list-fits-append t (a ∷ cs) ds h k =
    λ i. both-left (command_fits t a) (list_fits t cs) h i && list-fits-append t cs ds (both-right (command_fits t a) (list_fits t cs) h) k i

pub are-more : (t u : Listing) (cs ds : List Command) (a : Command) (fs : List CommandTree) (f : CommandTree) → AreCommands t cs fs → Extends t u → IsCommand u a f → ds ≡ cs ++ a ∷ [] → AreCommands u ds (fs ++ f ∷ [])
are-more t u cs ds a fs f h g k e = record {
  are = ap (map (command_in u)) e ∙ map-append (command_in u) cs (a ∷ []) ∙ (λ i. (list-grows t u cs g h.fits ∙ h.are) i ++ k.is i ∷ []);
  fits = ap (list_fits u) e ∙ list-fits-append u cs (a ∷ []) (list-fits-grows t u g cs h.fits) (λ i. k.fits i && true);
}

list-trees : (t : Listing) (cs : List Command) → list_in t cs ≡ trees_of (map (command_in t) cs)
list-trees t [] = refl
list-trees t (a ∷ cs) = ap (w.more (command_in t a)) (list-trees t cs)

pub is-seq : (t : Listing) (cs : List Command) (fs : List CommandTree) → AreCommands t cs fs → IsCommand t (c.Seq cs) (w.seq (trees_of fs))
is-seq t cs fs h = record {
  is = command_in-Seq t cs ∙ ap w.seq (list-trees t cs ∙ ap trees_of h.are);
  fits = command_fits-Seq t cs ∙ h.fits;
}

-- one more of the first items of a list
pub items-next : {X Y : Type 0} (f : X → Y) (xs : List X) (i : ℕ) (x : X) → i < length xs → x ≡ get_or xs i x → map f (take (i + 1) xs) ≡ map f (take i xs) ++ f x ∷ []
items-next f xs i x lt is = ap (map f) (take_more xs i x lt ∙ ap (λ y. take i xs ++ y ∷ []) (sym is)) ∙ map-append f (take i xs) (x ∷ [])

-- one more command of a list, and all
pub commands-next : (t u : Listing) (made new : List Command) (a : Command) (i : ℕ) (steps : List Boxed) (step : Boxed) → AreCommands t made (map command_tree (take i steps)) → Extends t u → IsCommand u a (command_tree step) →
    new ≡ made ++ a ∷ [] → i < length steps → step ≡ get_or steps i step → AreCommands u new (map command_tree (take (i + 1) steps))
commands-next t u made new a i steps step h g k e lt is =
    subst (λ (fs : List CommandTree). AreCommands u new fs) (sym (items-next command_tree steps i step lt is)) (are-more t u made new a (map command_tree (take i steps)) (command_tree step) h g k e)

pub commands-end : (t : Listing) (made : List Command) (i : ℕ) (steps : List Boxed) → AreCommands t made (map command_tree (take i steps)) → length steps ≤ i → IsCommand t (c.Seq made) (w.seq (trees_of (map command_tree steps)))
commands-end t made i steps h le = is-seq t made (map command_tree steps) (subst (λ (xs : List Boxed). AreCommands t made (map command_tree xs)) (take_all i steps le) h)

pub ruleset enter_steps = (is-assume, is-assert, is-assign, is-havoc, is-leave, is-stop)
