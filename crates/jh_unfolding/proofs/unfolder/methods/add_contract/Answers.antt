use Rattle.std.proofs.Common.{◌∙◌, ap, subst, option_map}
use Rattle.jh_ast.specs.Bare.{spec_part}
use Rattle.jh_symbols.specs.scopes.Lookings.{scope_by}
use Rattle.jh_vars.specs.Opened as opened
use Rattle.jh_unfolding.specs.unfolder.Adding.{program_of, Adds}
use Rattle.jh_unfolding.proofs.unfolder.Addings.{adds-two}
use Rattle.jh_unfolding.proofs.unfolder.methods.add_contract.Goals as goal

pub returns-clause-adds : goal.returns-clause-adds
returns-clause-adds c =
    let p = program_of c.args.visitor.now.context in
    let spot = c.inside-spot.ensures ∙ ap (λ k. opened.inside k (scope_by c.args.at.now)) c.kind_of_word.ensures in
    let pre = option_map spec_part c.args.method.now.pre in
    let post = option_map spec_part c.args.method.now.post in
    adds-two p c.args.visitor.now.gathered c.add_some.new.gathered c.add_some-2.new.gathered _ _
    (subst (λ s. Adds p c.args.visitor.now.gathered c.add_some.new.gathered (opened.valued_some p s pre)) spot c.in_ok-add_some.ensures.adds)
    (subst (λ s. Adds p c.add_some.new.gathered c.add_some-2.new.gathered (opened.valued_some p s post)) spot c.in_ok-add_some-2.ensures.adds)
