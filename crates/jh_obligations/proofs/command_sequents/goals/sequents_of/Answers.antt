use Rattle.std.proofs.Common.{◌↔◌, subst, ℕ}
use Rattle.jh_form.specs.Tree.{FormulaTree}
use Rattle.jh_weakest.proofs.of_jh_command_terms.command.CodeSteps.{is_truth-grows, fitting-grows}
use Rattle.jh_seq.specs.splitting.Laws.{AllValid, IsTautology}
use Rattle.jh_seq.specs.splitting.Split.{split_of}
use Rattle.jh_splitting.specs.Numbering.{IsFirst}
use Rattle.jh_splitting.specs.Standing.{AreSequents}
use Rattle.jh_obligations.proofs.command_sequents.Owing.{owed-grows}
use Rattle.jh_obligations.proofs.command_sequents.goals.sequents_of.Goals as goal

-- src/goals.rt
pub split_command-requires-clause-fits : goal.split_command-requires-clause-fits
split_command-requires-clause-fits c = fitting-grows c.args.table.now c.count.new.table c.count.ensures.grows c.args.command.now c.requires.fits

-- src/goals.rt
pub split_command-requires-clause-returned : goal.split_command-requires-clause-returned
split_command-requires-clause-returned c = is_truth-grows c.args.table.now c.count.new.table c.count.ensures.grows c.args.returned c.requires.returned

-- src/goals.rt
pub returns-clause-sequents : goal.returns-clause-sequents
returns-clause-sequents c =
    let made = c.in_ok-made.made in
    subst (λ (a : FormulaTree). (k : ℕ) × IsFirst a k × AreSequents c.split_command.new.table made.hyps made.method made.sequents.items (split_of c.args.method a k))
    (owed-grows c.args.table.now c.count.new.table c.count.ensures.grows c.args.command.now c.args.returned c.requires.fits c.requires.returned) c.in_ok-made.ensures.sequents

-- src/goals.rt
pub returns-clause-exact : goal.returns-clause-exact
returns-clause-exact c =
    subst (λ (a : FormulaTree). (k : ℕ) → IsFirst a k → AllValid (split_of c.args.method a k) ↔ IsTautology a)
    (owed-grows c.args.table.now c.count.new.table c.count.ensures.grows c.args.command.now c.args.returned c.requires.fits c.requires.returned) c.in_ok-made.ensures.exact
