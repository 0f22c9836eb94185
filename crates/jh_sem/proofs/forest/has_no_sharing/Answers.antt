use Rattle.std.proofs.Common.{rules, ◌≡◌, ◌+◌, ◌<◌, ℕ, arith}
use Rattle.jh_sem.specs.Graphs.{listed_fields}
use Rattle.jh_sem.proofs.Forests.{sharing-some, sharing-is, noted-at}
use Rattle.jh_sem.proofs.forest.has_no_sharing.Goals as goal

pub returns-then-not-note_targets : goal.returns-then-not-note_targets
returns-then-not-note_targets c = sharing-some c.args.last (listed_fields c.args.fields.now) (c.note_targets.ensures.shared c.if-not-note_targets.true)

pub note_targets-requires-2-clause-noted : goal.note_targets-requires-2-clause-noted
note_targets-requires-2-clause-noted c = noted-at (listed_fields c.args.fields.now) c.loop-at.at c.args.last c.loop-at.seen.items (omega arith) c.loop-at.invariant.noted

pub returns : goal.returns
returns c = sharing-is c.args.last (listed_fields c.args.fields.now) c.note_targets-2.new.seen.items c.note_targets-2.result c.note_targets-2.ensures.noted c.note_targets-2.ensures.shared
