use Rattle.std.proofs.Common.{◌≡◌, refl, sym, ap, ◌∙◌, ℕ, List, Some, slice_get}
use Rattle.std.proofs.lemmas.Result.{IfOk-weaker}
use Rattle.jh_form.specs.Tree.{of_truth}
use Rattle.jh_form.specs.Meaning.{Interp, truth}
use Rattle.jh_arena.specs.table.Entries.{the_truth, the_value}
use Rattle.jh_arena.specs.table.Nodes.{nodes}
use Rattle.jh_normal_forms.specs.declared.rebuilding.polarity.Polarity.TheVariants as pol
use Rattle.jh_normal_forms.specs.rebuilding.Walking.{built_at}
use Rattle.jh_normal_forms.specs.idle_updates.Dropped.{dropping, dropped}
use Rattle.jh_normal_forms.proofs.idle_updates.Arms.{truth-inside, truth-at, dropped-at}
use Rattle.jh_normal_forms.proofs.idle_updates.Droppings.{dropped-means}
use Rattle.jh_normal_forms.proofs.idle_updates.dropping.dropped.Goals as goal

pub rebuild-requires : goal.rebuild-requires
rebuild-requires c = record { inside = truth-inside (nodes c.args.table.now) c.args.formula c.requires.formula }

pub returns-clause-tree : goal.returns-clause-tree
returns-clause-tree c =
    let o = slice_get (nodes c.args.table.now) c.args.formula in
    IfOk-weaker
    c.rebuild.result
    (λ made. slice_get (nodes c.rebuild.new.table) made ≡ Some (built_at (the_value o) dropping pol.Both))
    (λ made. slice_get (nodes c.rebuild.new.table) made ≡ Some (of_truth (dropped (the_truth o))))
    (λ made at. at ∙ ap (λ v. Some v) (dropped-at o c.requires.formula))
    c.rebuild.ensures.tree

pub returns-clause-meaning : goal.returns-clause-meaning
returns-clause-meaning c =
    let o = slice_get (nodes c.args.table.now) c.args.formula in
    IfOk-weaker
    c.rebuild.result
    (λ made. slice_get (nodes c.rebuild.new.table) made ≡ Some (of_truth (dropped (the_truth o))))
    (λ made. (m : Interp) (e : List ℕ) → truth (the_truth (slice_get (nodes c.rebuild.new.table) made)) m e ≡ truth (the_truth o) m e)
    (λ made at m e. ap (λ a. truth a m e) (truth-at (slice_get (nodes c.rebuild.new.table) made) (dropped (the_truth o)) at) ∙ dropped-means (the_truth o) m e)
    (returns-clause-tree c)
