-- Commands of lists and choices.
use Rattle.std.proofs.Common.{◌≡◌, refl, ap, ◌∙◌, ℕ, true, ◌&&◌, List, [], ◌∷◌, ◌++◌, map, Some, slice_get, Result, Ok, Err, IfOk, OnOk}
use Rattle.std.specs.declared.alloc.Global.{Global}
use Rattle.std.specs.declared.boxed.Box.{Box}
use Rattle.jh_form.specs.Tree.{FormulaTree, of_truth}
use Rattle.jh_arena.specs.table.Entries.{Listing, is_truth, the_truth}
use Rattle.jh_arena.specs.table.Growth.{Extends}
use Rattle.jh_arena.specs.table.Nodes.{nodes}
use Rattle.jh_wp.specs.Command.{CommandTree}
use Rattle.jh_wp.specs.Command as w
use Rattle.jh_call_commands.specs.jh_command_terms.declared.command.command.Command.{Command}
use Rattle.jh_call_commands.specs.jh_command_terms.declared.command.command.Command.TheVariants as c
use Rattle.jh_call_commands.specs.jh_command_terms.command.Code.{command_in, command_fits, list_in, list_fits}
use Rattle.jh_call_commands.proofs.of_jh_command_terms.command.CodeSteps.{command-grows, fitting-grows, is_truth-grows, command_in-Seq, command_fits-Seq}
use Rattle.jh_guard.specs.Steps.{steps, sequence}
use Rattle.jh_state_facts.specs.changes.Added.{AddsCommands}
use Rattle.jh_method_commands.specs.commands.Sides.{IsCommand}

pub if-ok : {A E : Type 0} {P Q : A → Type 0} (r : Result A E) → ((x : A) → P x → Q x) → IfOk r P → IfOk r Q
if-ok (Ok x) f h = f x h
if-ok (Err e) f h = tt

pub whatever : {A E : Type 0} {P : Type 0} (r : Result A E) → P → OnOk r P
whatever (Ok x) h = h
whatever (Err e) h = tt

pub truth-stays : (t u : Listing) (n : ℕ) → is_truth (slice_get (nodes t) n) ≡ true → Extends t u → is_truth (slice_get (nodes u) n) ≡ true
truth-stays t u n h g = is_truth-grows t u g n h

list-steps : (t : Listing) (cs : List Command) → list_in t cs ≡ steps (map (command_in t) cs)
list-steps t [] = refl
list-steps t (a ∷ cs) = ap (w.more (command_in t a)) (list-steps t cs)

pub is-sequence : (t : Listing) (cs : List Command) (fs : List CommandTree) → AddsCommands t [] cs fs → IsCommand t (c.Seq cs) (sequence fs)
is-sequence t cs fs h = record {
  is = command_in-Seq t cs ∙ ap w.seq (list-steps t cs ∙ ap (λ ds. steps (map (command_in t) ds)) h.list ∙ ap steps h.are);
  fits = command_fits-Seq t cs ∙ ap (list_fits t) h.list ∙ h.fits;
}

pub is-grown : (t u : Listing) (a : Command) (f : CommandTree) → IsCommand t a f → Extends t u → IsCommand u a f
is-grown t u a f h g = record { is = command-grows t u g a h.fits ∙ h.is; fits = fitting-grows t u g a h.fits }

pub is-assume : (t : Listing) (n : ℕ) (f : FormulaTree) → slice_get (nodes t) n ≡ Some (of_truth f) → IsCommand t (c.Assume n) (w.assume f)
unfolding command_in command_fits the_truth is_truth
is-assume t n f h = record { is = λ i. w.assume (the_truth (h i)); fits = λ i. is_truth (h i) }

pub adds-choice : (t : Listing) (old new : List Command) (x y : Box Command Global) (a b : CommandTree) → new ≡ old ++ c.Choice x y ∷ [] → IsCommand t x.value a → IsCommand t y.value b → AddsCommands t old new (w.choice a b ∷ [])
unfolding command_in command_fits
adds-choice t old new x y a b e h k = record {
  added = c.Choice x y ∷ [];
  list = e;
  are = λ i. w.choice (h.is i) (k.is i) ∷ [];
  fits = λ i. (h.fits i && k.fits i) && true;
}

pub adds-leave : (t : Listing) (old new : List Command) → new ≡ old ++ c.Leave ∷ [] → AddsCommands t old new (w.leave ∷ [])
unfolding command_in command_fits
adds-leave t old new e = record { added = c.Leave ∷ []; list = e; are = refl; fits = refl }

pub truth-there : (t : Listing) (n : ℕ) (f : FormulaTree) → slice_get (nodes t) n ≡ Some (of_truth f) → is_truth (slice_get (nodes t) n) ≡ true
unfolding is_truth
truth-there t n f h = ap is_truth h

pub truth-is : (t : Listing) (n : ℕ) (f : FormulaTree) → slice_get (nodes t) n ≡ Some (of_truth f) → the_truth (slice_get (nodes t) n) ≡ f
unfolding the_truth
truth-is t n f h = ap the_truth h

pub ruleset side_steps = (adds-leave, is-assume, truth-there, truth-is)
