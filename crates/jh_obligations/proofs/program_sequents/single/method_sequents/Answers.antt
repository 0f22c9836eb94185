use Rattle.std.proofs.Common.{◌≤◌, ap, subst, ℕ, length, IfErr, IfOk}
use Rattle.jh_form.specs.Tree.{FormulaTree}
use Rattle.jh_arena.specs.table.Entries.{is_truth}
use Rattle.jh_seq.specs.splitting.Split.{split_of}
use Rattle.jh_splitting.specs.Numbering.{IsFirst}
use Rattle.jh_splitting.specs.Standing.{AreSequents}
use Rattle.jh_obligations.specs.command_sequents.Owed.{IsFault}
use Rattle.jh_arena.proofs.table.Listed.{extends-trans}
use Rattle.jh_obligations.proofs.program_sequents.Formulas.{owed-is}
use Rattle.jh_obligations.proofs.program_sequents.single.method_sequents.Goals as goal

-- src/single.rt
pub sequents_of-requires-clause-fits : goal.sequents_of-requires-clause-fits
sequents_of-requires-clause-fits c = c.in_ok-command.ensures.body.fits

-- src/single.rt
pub sequents_of-requires-clause-returned : goal.sequents_of-requires-clause-returned
unfolding is_truth
sequents_of-requires-clause-returned c = ap is_truth c.in_ok-command.ensures.returned

-- src/single.rt
pub returns-clause-sequents : goal.returns-clause-sequents
returns-clause-sequents c =
    subst (λ (a : FormulaTree). IfOk c.sequents_of.result (λ made. (k : ℕ) × IsFirst a k × AreSequents c.sequents_of.new.table made.hyps made.method made.sequents.items (split_of c.args.id a k)))
    (owed-is c.of_method.new.table c.in_ok-command.command.body c.in_ok-command.command.returned _ _ c.in_ok-command.ensures.body.is c.in_ok-command.ensures.returned) c.sequents_of.ensures.sequents

-- src/single.rt
pub returns-clause-few : goal.returns-clause-few
returns-clause-few c =
    subst (λ (a : FormulaTree). IfOk c.sequents_of.result (λ made. (k : ℕ) → length (split_of c.args.id a k) ≤ 2000))
    (owed-is c.of_method.new.table c.in_ok-command.command.body c.in_ok-command.command.returned _ _ c.in_ok-command.ensures.body.is c.in_ok-command.ensures.returned) c.sequents_of.ensures.few

-- src/single.rt
pub returns-clause-fault : goal.returns-clause-fault
returns-clause-fault c =
    subst (λ (a : FormulaTree). IfErr c.sequents_of.result (IsFault a))
    (owed-is c.of_method.new.table c.in_ok-command.command.body c.in_ok-command.command.returned _ _ c.in_ok-command.ensures.body.is c.in_ok-command.ensures.returned) c.sequents_of.ensures.fault

-- src/single.rt
pub returns-clause-grows : goal.returns-clause-grows
returns-clause-grows c = extends-trans c.args.table.now c.of_method.new.table c.sequents_of.new.table c.of_method.ensures.grows c.sequents_of.ensures.grows
