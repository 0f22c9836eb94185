use Rattle.std.proofs.Common.{◌≡◌, true}
use Rattle.jh_seq.specs.sequent.Sequents.{SequentTree}
use Rattle.jh_seq.specs.splitting.Local.{is_local}
use Rattle.jh_field_constraints.specs.Standing.{IsSequent}
use Rattle.jh_field_constraints.proofs.Listings.{NoneListed}
use Rattle.jh_field_constraints.proofs.fields.is_listed_in.Given as goal

-- none of the facts so far goes along it
abbrev pub invariant-loop-place : goal.invariant-loop-place
invariant-loop-place l = (s : SequentTree) → IsSequent l.table l.facts l.goal s → is_local s ≡ true → NoneListed l.name s.hyps l.place
