-- Checks that were gathered and are asserted, receivers while the table grows, and steps one after another.
use Rattle.std.proofs.Common.{◌≡◌, refl, sym, ap, subst, ℕ, true, List, [], ◌∷◌, ◌++◌, Option, Some, None, slice_get, is_some, Result, Ok, Err, IfOk, OnOk}
use Rattle.jh_form.specs.Tree.{TermTree, SetTree, FormulaTree, ValueTree, of_object, of_set, of_truth}
use Rattle.jh_arena.specs.table.Entries.{Listing, is_object, the_object, is_set, the_set, is_truth}
use Rattle.jh_arena.specs.table.Growth.{Extends}
use Rattle.jh_arena.specs.table.Nodes.{nodes}
use Rattle.jh_wp.specs.Command.{CommandTree}
use Rattle.jh_wp.specs.Command as w
use Rattle.jh_command_terms.specs.declared.command.command.Command.{Command}
use Rattle.jh_command_terms.specs.declared.command.command.Command.TheVariants as c
use Rattle.jh_command_terms.specs.command.Code.{command_in, command_fits}
use Rattle.jh_semantics.specs.Code.{Target}
use Rattle.jh_semantics.specs.Code as code
use Rattle.jh_guard.specs.Terms.{Check, object_term}
use Rattle.jh_command_terms.specs.declared.terms.checks.CheckNode.{CheckNode}
use Rattle.jh_command_terms.specs.terms.Checks.{AreChecks, AddsChecks, are_facts, IsReceiver}
use Rattle.jh_command_terms.proofs.terms.CheckSteps.{added-to-none, are-facts}
use Rattle.jh_state_facts.specs.changes.Added.{AddsCommands}

pub if-ok : {A E : Type 0} {P Q : A → Type 0} (r : Result A E) → ((x : A) → P x → Q x) → IfOk r P → IfOk r Q
if-ok (Ok x) f h = f x h
if-ok (Err e) f h = tt

pub on-ok : {A E : Type 0} {P Q : Type 0} (r : Result A E) → (P → Q) → OnOk r P → OnOk r Q
on-ok (Ok x) f h = f h
on-ok (Err e) f h = tt

-- checks that were added to none, as a list that is handed on
pub gathered : (t : Listing) (none ns ms : List CheckNode) (cs : List Check) → none ≡ [] → ms ≡ ns → AddsChecks t none ns cs → AreChecks t ms cs
gathered t none ns ms cs e f h = subst (λ (xs : List CheckNode). AreChecks t xs cs) (sym f) (added-to-none t ns cs (subst (λ (xs : List CheckNode). AddsChecks t xs ns cs) e h))

pub gathered-facts : (t : Listing) (none ns ms : List CheckNode) (cs : List Check) → none ≡ [] → ms ≡ ns → AddsChecks t none ns cs → are_facts t ms ≡ true
gathered-facts t none ns ms cs e f h = are-facts t ms cs (gathered t none ns ms cs e f h)

-- the node of a receiver stays while the table grows
pub receiver-grows : (t u : Listing) (n : Option ℕ) (x : Target) → Extends t u → IsReceiver t n x → IsReceiver u n x
unfolding IsReceiver
receiver-grows t u (Some n) (code.to_field f r p) g h = g.nodes.keeps n (of_object (object_term r)) h
receiver-grows t u (Some n) code.nowhere g h = h
receiver-grows t u (Some n) (code.to_new x) g h = h
receiver-grows t u (Some n) (code.to_name x) g h = h
receiver-grows t u None (code.to_field f r p) g h = h
receiver-grows t u None code.nowhere g h = h
receiver-grows t u None (code.to_new x) g h = h
receiver-grows t u None (code.to_name x) g h = h

pub value-there : (t : Listing) (n : ℕ) (v : ValueTree) → slice_get (nodes t) n ≡ Some v → is_some (slice_get (nodes t) n) ≡ true
value-there t n v h = ap is_some h

pub object-there : (t : Listing) (n : ℕ) (a : TermTree) → slice_get (nodes t) n ≡ Some (of_object a) → is_object (slice_get (nodes t) n) ≡ true
unfolding is_object
object-there t n a h = ap is_object h

pub object-is : (t : Listing) (n : ℕ) (a : TermTree) → slice_get (nodes t) n ≡ Some (of_object a) → the_object (slice_get (nodes t) n) ≡ a
unfolding the_object
object-is t n a h = ap the_object h

pub set-there : (t : Listing) (n : ℕ) (a : SetTree) → slice_get (nodes t) n ≡ Some (of_set a) → is_set (slice_get (nodes t) n) ≡ true
unfolding is_set
set-there t n a h = ap is_set h

pub set-is : (t : Listing) (n : ℕ) (a : SetTree) → slice_get (nodes t) n ≡ Some (of_set a) → the_set (slice_get (nodes t) n) ≡ a
unfolding the_set
set-is t n a h = ap the_set h

pub truth-there : (t : Listing) (n : ℕ) (f : FormulaTree) → slice_get (nodes t) n ≡ Some (of_truth f) → is_truth (slice_get (nodes t) n) ≡ true
unfolding is_truth
truth-there t n f h = ap is_truth h

pub adds-leave : (t : Listing) (old new : List Command) → new ≡ old ++ c.Leave ∷ [] → AddsCommands t old new (w.leave ∷ [])
unfolding command_in command_fits
adds-leave t old new e = record { added = c.Leave ∷ []; list = e; are = refl; fits = refl }

pub adds-havoc : (t : Listing) (old new : List Command) (x y : _) → new ≡ old ++ c.Havoc x y ∷ [] → AddsCommands t old new (w.havoc x y ∷ [])
unfolding command_in command_fits
adds-havoc t old new x y e = record { added = c.Havoc x y ∷ []; list = e; are = refl; fits = refl }

pub ruleset checked_steps = (value-there, object-there, adds-leave, adds-havoc)
