use Rattle.std.proofs.Common.{◌≡◌, ◌∙◌, true, false, [], Some, sym, if◌then◌else◌}
use Rattle.jh_ast.specs.Bare.{class_part, form_tree}
use Rattle.jh_arena.specs.table.Entries.{the_value}
use Rattle.jh_vars.specs.Opened as opened
use Rattle.jh_vars.specs.Resolved.{as_truth}
use Rattle.jh_unfolding.specs.unfolder.Adding.{program_of}
use Rattle.jh_unfolding.proofs.unfolder.Addings.{if-ok, if-any}
use Rattle.jh_unfolding.proofs.unfolder.Knowing.{ready-grows}
use Rattle.jh_unfolding.proofs.unfolder.classes.invariant_node.Goals as goal

pub returns-in_ok-node-clause-node : goal.returns-in_ok-node-clause-node
unfolding the_value
returns-in_ok-node-clause-node c =
    let p = program_of c.args.context.now in
    let n = c.args.number in
    let class = class_part c.args.class.now in
    let a = form_tree c.args.form.now in
    let spot = c.outside.ensures in
    let node = c.in_ok-node.ensures.node in
    let uses : opened.uses_this p a n [] ≡ true = sym c.in_ok-uses.ensures ∙ c.if-uses.true in
    if-ok c.of_every_object.result (λ made f. f p
    ∙ (λ i. Some (opened.of_every_object p class (as_truth (the_value (node i)))))
    ∙ (λ i. Some (opened.of_every_object p class (as_truth (opened.value_at p (spot i) a))))
    ∙ (λ i. Some (if sym uses i then opened.of_every_object p class (as_truth (opened.value_at p (opened.outside n true) a)) else opened.value_at p (opened.outside n false) a))) c.of_every_object.ensures.node

pub returns-in_ok-node-clause-ready : goal.returns-in_ok-node-clause-ready
returns-in_ok-node-clause-ready c = if-any c.of_every_object.result (ready-grows c.node_of.new.table c.of_every_object.new.table c.args.context.now c.of_every_object.ensures.grows c.in_ok-node.ensures.ready)
