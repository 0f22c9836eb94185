use Rattle.std.proofs.Common.{◌≡◌, ap, ◌∙◌, ℕ, List, Some, slice_get}
use Rattle.std.proofs.lemmas.Result.{IfOk-weaker}
use Rattle.jh_form.specs.Tree.{of_truth}
use Rattle.jh_form.specs.Meaning.{Interp, truth}
use Rattle.jh_arena.specs.table.Entries.{the_truth, the_value}
use Rattle.jh_arena.specs.table.Nodes.{nodes}
use Rattle.jh_normal_forms.specs.declared.rebuilding.polarity.Polarity.TheVariants as pol
use Rattle.jh_normal_forms.specs.rebuilding.Walking.{built_at}
use Rattle.jh_normal_forms.specs.set_opening.SetsOpened.{opening_sets, sets_opened}
use Rattle.jh_normal_forms.proofs.set_opening.Arms.{truth-inside, truth-at, opened-at}
use Rattle.jh_normal_forms.proofs.set_opening.SetsOpen.{opened-means}
use Rattle.jh_normal_forms.proofs.set_opening.opening.sets_opened.Goals as goal

pub rebuild-requires : goal.rebuild-requires
rebuild-requires c = record { inside = truth-inside (nodes c.args.table.now) c.args.formula c.requires.formula }

pub returns-clause-tree : goal.returns-clause-tree
returns-clause-tree c =
    let o = slice_get (nodes c.args.table.now) c.args.formula in
    IfOk-weaker
    c.rebuild.result
    (λ made. slice_get (nodes c.rebuild.new.table) made ≡ Some (built_at (the_value o) opening_sets pol.Both))
    (λ made. slice_get (nodes c.rebuild.new.table) made ≡ Some (of_truth (sets_opened (the_truth o))))
    (λ made at. at ∙ ap (λ v. Some v) (opened-at o c.requires.formula))
    c.rebuild.ensures.tree

pub returns-clause-meaning : goal.returns-clause-meaning
returns-clause-meaning c =
    let o = slice_get (nodes c.args.table.now) c.args.formula in
    IfOk-weaker
    c.rebuild.result
    (λ made. slice_get (nodes c.rebuild.new.table) made ≡ Some (of_truth (sets_opened (the_truth o))))
    (λ made. (m : Interp) (e : List ℕ) → truth (the_truth (slice_get (nodes c.rebuild.new.table) made)) m e ≡ truth (the_truth o) m e)
    (λ made at m e. ap (λ a. truth a m e) (truth-at (slice_get (nodes c.rebuild.new.table) made) (sets_opened (the_truth o)) at) ∙ opened-means (the_truth o) m e)
    (returns-clause-tree c)
