use Rattle.std.proofs.Common.{◌≡◌, true, List, take}
use Rattle.jh_name.specs.declared.naming.Name.{Name}
use Rattle.jh_arena.specs.table.Growth.{Extends}
use Rattle.jh_seq.specs.sequent.Sequents.{SequentTree}
use Rattle.jh_seq.specs.splitting.Local.{is_local}
use Rattle.jh_fca.specs.elimination.Eliminated.{all_steps}
use Rattle.jh_field_constraints.specs.Standing.{AreNames, IsSequent}
use Rattle.jh_field_constraints.proofs.stepping.all_steps.Given as goal

-- the steps of the first fields
abbrev pub invariant-loop-place : goal.invariant-loop-place
invariant-loop-place l = record {
  form : (fs : List Name) (s : SequentTree) → AreNames l.initial.table l.fields fs → IsSequent l.initial.table l.fn.form.facts l.fn.form.goal s → is_local s ≡ true → IsSequent l.table l.made.facts l.made.goal (all_steps (take l.place fs) s);
  grows : Extends l.initial.table l.table;
}
