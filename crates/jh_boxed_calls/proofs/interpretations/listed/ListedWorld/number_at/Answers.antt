use Rattle.std.proofs.Common.{rules, ap, ◌∙◌, get_or, pos}
use Rattle.jh_boxed_calls.proofs.interpretations.listed.ListedWorld.number_at.Goals as goal

pub returns : goal.returns
returns c =
    let whole = c.value_at.ensures ∙ ap (λ values. get_or values c.args.at (pos 0)) c.slot.ensures.numbers in
    search rules
