use Rattle.std.proofs.Common.{◌≡◌, ap, ◌∙◌, if◌then◌else◌, Some, slice_get}
use Rattle.std.proofs.lemmas.Result.{IfOk-weaker}
use Rattle.jh_form.specs.Tree.{of_truth}
use Rattle.jh_arena.specs.table.Entries.{the_truth}
use Rattle.jh_arena.specs.table.Nodes.{nodes, tree_in}
use Rattle.jh_fca.specs.cutting.Cut.{holds_foreign, instead_of}
use Rattle.jh_fca.specs.cutting.Leaves.{cut_leaf}
use Rattle.jh_fca.proofs.cutting.Arms.{leaf-truth, truth-sort, leaf-other, sort-is, sort-back}
use Rattle.jh_fca.proofs.cutting.removing.leaf.Goals as goal

pub returns-in-Bool-clause-node : goal.returns-in-Bool-clause-node
returns-in-Bool-clause-node c =
    let v = tree_in c.args.table.now c.args.shape in
    let at = slice_get (nodes c.make.new.self) c.in_ok-node.node in
    let formula = truth-sort at v c.in_ok-node.ensures.node (sort-is c.make.new.self c.in_ok-node.node v c.in_ok-node.ensures.node c.sort.result c.sort.ensures c.in-Bool.is) in
    IfOk-weaker
    c.atom.result
    (λ made. slice_get (nodes c.atom.new.table) made ≡ Some (of_truth (if holds_foreign (the_truth at) then instead_of (the_truth at) c.args.polarity else the_truth at)))
    (λ made. slice_get (nodes c.atom.new.table) made ≡ Some (cut_leaf v c.args.polarity))
    (λ made is. is ∙ ap (λ w. Some w) (leaf-truth at v c.args.polarity c.in_ok-node.ensures.node formula))
    c.atom.ensures.node

pub atom-requires : goal.atom-requires
atom-requires c =
    let v = tree_in c.args.table.now c.args.shape in
    record { there = truth-sort (slice_get (nodes c.make.new.self) c.in_ok-node.node) v c.in_ok-node.ensures.node (sort-is c.make.new.self c.in_ok-node.node v c.in_ok-node.ensures.node c.sort.result c.sort.ensures c.in-Bool.is) }

pub returns-in_default : goal.returns-in_default
returns-in_default c =
    let v = tree_in c.args.table.now c.args.shape in
    record {
      node = c.in_ok-node.ensures.node ∙ ap (λ w. Some w) (leaf-other v c.args.polarity (λ e. c.in_default.not-Bool (sort-back c.make.new.self c.in_ok-node.node v c.in_ok-node.ensures.node c.sort.result c.sort.ensures e)));
      grows = c.make.ensures.grows;
    }
