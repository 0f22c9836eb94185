use Rattle.std.proofs.Common.{refl}
use Rattle.jh_form.specs.Tree.{of_object, of_field, free_field}
use Rattle.jh_form.specs.Bare.{term_tree}
use Rattle.jh_reach.proofs.Entering.{none-based, none-sorted, some-based, some-sorted}
use Rattle.jh_reach.proofs.reaching.base_nodes.Goals as goal

pub returns-in-None-clause-base : goal.returns-in-None-clause-base
returns-in-None-clause-base c = none-based c.args.table.now c.args.base.now c.in-None.is

pub returns-in-None-clause-sorted : goal.returns-in-None-clause-sorted
returns-in-None-clause-sorted c = none-sorted c.args.table.now

pub returns-in_ok-value-in-Some-clause-base : goal.returns-in_ok-value-in-Some-clause-base
returns-in_ok-value-in-Some-clause-base c =
    let b = c.in-Some.base in
    let second = c.enter_term.ensures.grows in
    let third = c.enter_term-in-Some.ensures.grows in
    some-based c.enter_term-in-Some.new.table c.args.base.now b (record { place = b.place; field = c.in_ok-field-in-Some.field; at = c.in_ok-at-in-Some.at; value = c.in_ok-value-in-Some.value }) c.in-Some.is refl
    (third.nodes.keeps c.in_ok-field-in-Some.field (of_field (free_field b.field)) (second.nodes.keeps c.in_ok-field-in-Some.field (of_field (free_field b.field)) c.in_ok-field-in-Some.ensures.node))
    (third.nodes.keeps c.in_ok-at-in-Some.at (of_object (term_tree b.at)) c.in_ok-at-in-Some.ensures.node)
    c.in_ok-value-in-Some.ensures.node

pub returns-in_ok-value-in-Some-clause-sorted : goal.returns-in_ok-value-in-Some-clause-sorted
returns-in_ok-value-in-Some-clause-sorted c =
    let b = c.in-Some.base in
    let second = c.enter_term.ensures.grows in
    let third = c.enter_term-in-Some.ensures.grows in
    some-sorted c.enter_term-in-Some.new.table (record { place = b.place; field = c.in_ok-field-in-Some.field; at = c.in_ok-at-in-Some.at; value = c.in_ok-value-in-Some.value }) (free_field b.field) (term_tree b.at) (term_tree b.value)
    (third.nodes.keeps c.in_ok-field-in-Some.field (of_field (free_field b.field)) (second.nodes.keeps c.in_ok-field-in-Some.field (of_field (free_field b.field)) c.in_ok-field-in-Some.ensures.node))
    (third.nodes.keeps c.in_ok-at-in-Some.at (of_object (term_tree b.at)) c.in_ok-at-in-Some.ensures.node)
    c.in_ok-value-in-Some.ensures.node
