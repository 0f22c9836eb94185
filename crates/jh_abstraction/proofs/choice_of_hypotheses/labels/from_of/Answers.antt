use Rattle.std.proofs.Common.{subst, ◌∙◌, Option, ℕ}
use Rattle.jh_splitting.specs.Standing.{IsLabel}
use Rattle.jh_abstraction.proofs.choice_of_hypotheses.Askings.{none-from, some-inside, some-from}
use Rattle.jh_abstraction.proofs.choice_of_hypotheses.labels.from_of.Goals as goal

pub returns-in-None : goal.returns-in-None
returns-in-None c = λ mark is. none-from c.args.table.now mark (subst (λ (l : Option ℕ). IsLabel c.args.table.now l mark) c.in-None.is is)

pub mark_at-requires : goal.mark_at-requires
mark_at-requires c = some-inside c.args.table.now c.in-Some.number c.requires.0 (subst (λ (l : Option ℕ). IsLabel c.args.table.now l c.requires.0) c.in-Some.is c.requires.1)

pub returns-in-Some : goal.returns-in-Some
returns-in-Some c = λ mark is.
    c.items.ensures ∙ some-from c.args.table.now c.in-Some.number c.mark_at.result.now mark c.mark_at.ensures (subst (λ (l : Option ℕ). IsLabel c.args.table.now l mark) c.in-Some.is is)
