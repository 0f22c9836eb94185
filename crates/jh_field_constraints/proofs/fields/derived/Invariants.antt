use Rattle.std.proofs.Common.{◌≡◌, true, not, take}
use Rattle.std.specs.Prelude.{filter}
use Rattle.jh_seq.specs.sequent.Sequents.{SequentTree}
use Rattle.jh_seq.specs.splitting.Local.{is_local}
use Rattle.jh_fca.specs.elimination.Derived.{constrained, is_listed_in, names_once}
use Rattle.jh_field_constraints.specs.Standing.{AreNames, IsSequent}
use Rattle.jh_field_constraints.proofs.fields.derived.Given as goal

-- those of the first fields
abbrev pub invariant-loop-place : goal.invariant-loop-place
invariant-loop-place l = (s : SequentTree) → IsSequent l.table l.facts l.goal s → is_local s ≡ true → AreNames l.table l.made.items (filter (λ f. not (is_listed_in f s)) (take l.place (names_once (constrained s.hyps))))
