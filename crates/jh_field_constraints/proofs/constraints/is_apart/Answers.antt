use Rattle.std.proofs.Common.{◌≡◌, slice_get, arith}
use Rattle.std.proofs.lemmas.Result.{IfOk-weaker}
use Rattle.jh_form.specs.Passing.{value_passes}
use Rattle.jh_arena.specs.table.Entries.{the_truth, the_value}
use Rattle.jh_arena.specs.table.Nodes.{nodes}
use Rattle.jh_fca.specs.elimination.Constraints.{is_apart, other_than}
use Rattle.jh_field_constraints.proofs.Composed.{speaks-of-more, speaks-of-two}
use Rattle.jh_field_constraints.proofs.Standings.{truth-inside}
use Rattle.jh_field_constraints.proofs.constraints.is_apart.Goals as goal

pub loose-requires : goal.loose-requires
loose-requires c = truth-inside (nodes c.args.table.now) c.args.says c.requires.says

pub returns-then-loose-gt2 : goal.returns-then-loose-gt2
returns-then-loose-gt2 c = speaks-of-more c.args.name.now (slice_get (nodes c.args.table.now) c.args.says) c.loose.result c.requires.says c.loose.ensures (λ le. omega (arith, le, c.if-loose-gt2.true))

pub names-requires : goal.names-requires
names-requires c = truth-inside (nodes c.args.table.now) c.args.says c.requires.says

pub returns : goal.returns
returns c =
    let o = slice_get (nodes c.args.table.now) c.args.says in
    IfOk-weaker
    c.names.result
    (λ passes. passes ≡ value_passes (the_value o) (other_than c.args.name.now))
    (λ passes. passes ≡ is_apart c.args.name.now (the_truth o))
    (λ passes e. speaks-of-two c.args.name.now o c.loose.result passes c.requires.says c.loose.ensures (omega (arith, c.if-loose-gt2.false)) e)
    c.names.ensures.passes
