use Rattle.std.proofs.Common.{◌≡◌, ap, ◌∙◌, Some, slice_get}
use Rattle.std.proofs.lemmas.Result.{IfOk-weaker}
use Rattle.jh_form.specs.Tree.{FormulaTree, of_truth}
use Rattle.jh_arena.specs.table.Entries.{the_truth}
use Rattle.jh_arena.specs.table.Nodes.{nodes}
use Rattle.jh_normal_forms.specs.set_opening.SetsOpened.{sets_opened}
use Rattle.jh_fca.specs.cutting.Cut.{cut}
use Rattle.jh_fca.specs.cutting.Leaves.{sign}
use Rattle.jh_local_form.proofs.local_sequents.Forms.{truth-of, is-formula}
use Rattle.jh_local_form.proofs.local_sequents.each.cut_one.Goals as goal

pub cut-requires : goal.cut-requires
cut-requires c = record { formula = is-formula (slice_get (nodes c.sets_opened.new.table) c.in_ok-opened.opened) (sets_opened (the_truth (slice_get (nodes c.args.table.now) c.args.formula))) c.in_ok-opened.ensures.tree }

pub returns-clause-node : goal.returns-clause-node
returns-clause-node c =
    let t0 = c.args.table.now in
    let t1 = c.sets_opened.new.table in
    let t2 = c.cut.new.table in
    let opened = c.in_ok-opened.opened in
    IfOk-weaker
    c.cut.result
    (λ made. slice_get (nodes t2) made ≡ Some (of_truth (cut (the_truth (slice_get (nodes t1) opened)) (sign c.args.positive))))
    (λ made. (a : FormulaTree) → slice_get (nodes t0) c.args.formula ≡ Some (of_truth a) → slice_get (nodes t2) made ≡ Some (of_truth (cut (sets_opened a) (sign c.args.positive))))
    (λ made h a at.
    h
    ∙ ap (λ b. Some (of_truth (cut b (sign c.args.positive))))
    (truth-of (slice_get (nodes t1) opened) (sets_opened a) (c.in_ok-opened.ensures.tree ∙ ap (λ b. Some (of_truth (sets_opened b))) (truth-of (slice_get (nodes t0) c.args.formula) a at))))
    c.cut.ensures.tree
