use Rattle.std.proofs.Common.{◌≡◌, ap, ◌∙◌, slice_get, Some}
use Rattle.jh_form.specs.Tree.{of_truth}
use Rattle.jh_arena.specs.table.Nodes.{nodes}
use Rattle.jh_arena.proofs.table.Listed.{extends-trans}
use Rattle.jh_normal_forms.specs.negation_normal_form.Normal.{normal}
use Rattle.jh_ground_input.specs.Standing.{bare_at}
use Rattle.jh_ground_input.proofs.More.{inside, one-more, truth-is, truth-there}
use Rattle.jh_ground_input.proofs.facts.add_fact.Goals as goal

pub negation_normal-requires : goal.negation_normal-requires
negation_normal-requires c = record { formula = truth-there _ (bare_at (nodes c.args.from.now) c.args.node) c.in_ok-bare.ensures.bare }

pub next_turn-requires : goal.next_turn-requires
next_turn-requires c = inside (nodes c.negation_normal.new.table) c.in_ok-bare.bare _ (c.negation_normal.ensures.grows.nodes.keeps c.in_ok-bare.bare _ c.in_ok-bare.ensures.bare)

pub returns : goal.returns
returns c = λ fs h.
    let a = bare_at (nodes c.args.from.now) c.args.node in
    one-more c.args.apart.now _ fs a c.args.sign c.in_ok-bare.bare c.in_ok-normal.normal c.next_turn.result
    (extends-trans c.args.apart.now.table c.bare_in.new.into c.negation_normal.new.table c.bare_in.ensures.grows c.negation_normal.ensures.grows)
    (c.negation_normal.ensures.grows.nodes.keeps c.in_ok-bare.bare _ c.in_ok-bare.ensures.bare)
    c.next_turn.ensures
    (c.in_ok-normal.ensures.tree ∙ ap (λ b. Some (of_truth (normal b c.args.sign))) (truth-is (slice_get (nodes c.bare_in.new.into) c.in_ok-bare.bare) a c.in_ok-bare.ensures.bare))
    c.in_ok-push.ensures.items c.in_ok-apart.ensures h
