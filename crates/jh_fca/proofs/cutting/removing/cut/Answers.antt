use Rattle.std.proofs.Common.{◌≡◌, sym, ap, subst, ◌∙◌, ℕ, List, Some, slice_get}
use Rattle.std.proofs.lemmas.Result.{IfOk-weaker}
use Rattle.jh_form.specs.Tree.{of_truth}
use Rattle.jh_arena.specs.table.Entries.{the_truth, the_value}
use Rattle.jh_arena.specs.table.Nodes.{nodes}
use Rattle.jh_form.specs.Meaning.{Interp, truth}
use Rattle.jh_normal_forms.specs.rebuilding.Sound.{StandsIn}
use Rattle.jh_normal_forms.specs.rebuilding.Walking.{built_at}
use Rattle.jh_fca.specs.cutting.Cut.{cutting, cut}
use Rattle.jh_fca.specs.cutting.Leaves.{sign}
use Rattle.jh_fca.proofs.cutting.Arms.{cut-at}
use Rattle.jh_fca.proofs.cutting.Cutting.{cut-stands}
use Rattle.jh_fca.proofs.cutting.Standing.{truth-inside, truth-there, truth-at}
use Rattle.jh_fca.proofs.cutting.removing.cut.Goals as goal

pub rebuild-requires : goal.rebuild-requires
rebuild-requires c = record { inside = truth-inside (nodes c.iffs_opened.new.table) c.in_ok-opened.opened (truth-there (slice_get (nodes c.iffs_opened.new.table) c.in_ok-opened.opened) _ c.in_ok-opened.ensures.tree) }

pub returns-clause-tree : goal.returns-clause-tree
returns-clause-tree c =
    let a = the_truth (slice_get (nodes c.args.table.now) c.args.formula) in
    let o = slice_get (nodes c.iffs_opened.new.table) c.in_ok-opened.opened in
    IfOk-weaker
    c.rebuild.result
    (λ made. slice_get (nodes c.rebuild.new.table) made ≡ Some (built_at (the_value o) cutting c.polarity_of.result))
    (λ made. slice_get (nodes c.rebuild.new.table) made ≡ Some (of_truth (cut a (sign c.args.positive))))
    (λ made at. at ∙ ap (λ v. Some v) (cut-at o a c.polarity_of.result c.in_ok-opened.ensures.tree) ∙ ap (λ d. Some (of_truth (cut a d))) c.polarity_of.ensures)
    c.rebuild.ensures.tree

pub returns-clause-meaning : goal.returns-clause-meaning
returns-clause-meaning c =
    let a = the_truth (slice_get (nodes c.args.table.now) c.args.formula) in
    IfOk-weaker
    c.rebuild.result
    (λ made. slice_get (nodes c.rebuild.new.table) made ≡ Some (of_truth (cut a (sign c.args.positive))))
    (λ made. (m : Interp) (e : List ℕ) → StandsIn (sign c.args.positive) (truth (the_truth (slice_get (nodes c.rebuild.new.table) made)) m e) (truth a m e))
    (λ made at m e. subst (λ b. StandsIn (sign c.args.positive) (truth b m e) (truth a m e)) (sym (truth-at (slice_get (nodes c.rebuild.new.table) made) (cut a (sign c.args.positive)) at)) (cut-stands a (sign c.args.positive) m e))
    (returns-clause-tree c)
