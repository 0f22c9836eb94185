use Rattle.std.proofs.Common.{◌≡◌, ap, sym, subst, ◌∙◌, ℕ}
use Rattle.std.specs.Prelude.{Option}
use Rattle.std.proofs.lemmas.Result.{IfOk-weaker}
use Rattle.jh_seq.specs.splitting.Split.{mark_of}
use Rattle.jh_splitting.specs.Standing.{IsLabel}
use Rattle.jh_boxed_commands.proofs.conditions.SequentSteps.{label-within, label-is, no-label}
use Rattle.jh_boxed_commands.proofs.conditions.hypotheses.boxed_mark.Goals as goal

pub mark_at-requires : goal.mark_at-requires
mark_at-requires c = label-within c.args.table.now c.in-Some.number c.requires.0 (subst (λ (o : Option ℕ). IsLabel c.args.table.now o c.requires.0) c.in-Some.is c.requires.1)

pub returns-in-None : goal.returns-in-None
returns-in-None c = λ m h. c.no_mark.ensures ∙ ap mark_of (sym (no-label c.args.table.now m (subst (λ (o : Option ℕ). IsLabel c.args.table.now o m) c.in-None.is h)))

pub returns-in-Some : goal.returns-in-Some
returns-in-Some c = λ m h.
    IfOk-weaker c.copy_mark.result (λ made. made ≡ c.mark_at.result.now) (λ made. made ≡ mark_of m)
    (λ made e. e ∙ label-is c.args.table.now c.in-Some.number c.mark_at.result.now m c.mark_at.ensures (subst (λ (o : Option ℕ). IsLabel c.args.table.now o m) c.in-Some.is h))
    c.copy_mark.ensures
