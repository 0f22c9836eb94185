use Rattle.std.proofs.Common.{◌≡◌, ap, ◌∙◌, ℕ, slice_get, Some}
use Rattle.std.proofs.lemmas.Result.{IfOk-weaker}
use Rattle.jh_boxed_operations.specs.comparison.Unmarked.{unmarked_value}
use Rattle.jh_arena.specs.table.Entries.{the_truth, the_value}
use Rattle.jh_arena.specs.table.Nodes.{nodes}
use Rattle.jh_instantiation.specs.skolem_constants.Standing.{IsFormula}
use Rattle.jh_ground_input.specs.Standing.{bare_at}
use Rattle.jh_ground_input.proofs.More.{bare-there, holds, inside}
use Rattle.jh_ground_input.proofs.facts.bare_in.Goals as goal

pub carry-requires : goal.carry-requires
carry-requires c = record { inside = inside (nodes c.args.from.now) c.args.node _ (holds (nodes c.args.from.now) c.args.node c.requires.there) }

pub unlabelled-requires : goal.unlabelled-requires
unlabelled-requires c =
    record { inside = inside (nodes c.carry.new.into) c.in_ok-there.there _ (c.in_ok-there.ensures.tree ∙ holds (nodes c.args.from.now) c.args.node c.requires.there) }

pub returns-clause-bare : goal.returns-clause-bare
returns-clause-bare c =
    let ts = nodes c.args.from.now in
    let us = nodes c.carry.new.into in
    let n = c.in_ok-there.there in
    IfOk-weaker
    c.unlabelled.result
    (λ made. slice_get (nodes c.unlabelled.new.table) made ≡ Some (unmarked_value (the_value (slice_get us n))))
    (λ made. IsFormula c.unlabelled.new.table made (bare_at ts c.args.node))
    (λ made is. is ∙ ap (λ v. Some v) (bare-there (slice_get us n) (the_truth (slice_get ts c.args.node)) (c.in_ok-there.ensures.tree ∙ holds ts c.args.node c.requires.there)))
    c.unlabelled.ensures.tree
