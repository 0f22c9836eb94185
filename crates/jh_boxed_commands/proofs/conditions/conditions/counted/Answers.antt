use Rattle.std.proofs.Common.{◌≡◌, ap, ◌∙◌, ℕ, length}
use Rattle.std.proofs.lemmas.Result.{IfOk-weaker}
use Rattle.jh_name.specs.declared.place.MethodId.{MethodId}
use Rattle.jh_wp.specs.Wp.{wp}
use Rattle.jh_command_terms.specs.command.Code.{command_in, truth_at}
use Rattle.jh_seq.specs.splitting.Split.{split_of}
use Rattle.jh_seq.specs.counting.Goals.{capped}
use Rattle.jh_boxed_commands.proofs.conditions.EnteredSteps.{wp-entered}
use Rattle.jh_boxed_commands.proofs.conditions.conditions.counted.Goals as goal

pub count-requires-clause-fits : goal.count-requires-clause-fits
count-requires-clause-fits c = c.requires.command

pub count-requires-clause-normal : goal.count-requires-clause-normal
count-requires-clause-normal c = c.requires.normal

pub count-requires-clause-returned : goal.count-requires-clause-returned
count-requires-clause-returned c = c.requires.returned

pub returns : goal.returns
returns c = λ command q r h.
    let t = c.args.table.now in
    let e = c.args.entered.now in
    IfOk-weaker c.count.result
    (λ n. (method : MethodId) (k : ℕ) → n ≡ capped (length (split_of method (wp (command_in t e.command) (truth_at t e.normal) (truth_at t e.returned)) k)))
    (λ n. (method : MethodId) (k : ℕ) → n ≡ capped (length (split_of method (wp command q r) k)))
    (λ n x method k. x method k ∙ ap (λ a. capped (length (split_of method a k))) (wp-entered t command q r e h))
    c.count.ensures.count
