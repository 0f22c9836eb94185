use Rattle.std.proofs.Common.{rules, ◌≡◌, ◌+◌, ◌<◌, ℕ, true, false, suc, sym, ap, ◌∙◌, arith}
use Rattle.jh_sem.specs.Graphs.{listed_fields}
use Rattle.jh_sem.proofs.Forests.{cycle-there}
use Rattle.jh_sem.proofs.forest.has_no_cycle.Goals as goal

pub returns-then-not-branch : goal.returns-then-not-branch
returns-then-not-branch c = cycle-there c.args.last (listed_fields c.args.fields.now) c.loop-at.at (omega arith) (search (rules, arith)) (sym c.if-not-branch.true ∙ c.in_ok-is_free.ensures)
