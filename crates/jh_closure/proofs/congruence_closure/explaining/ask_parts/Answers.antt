use Rattle.std.proofs.Common.{◌++◌, ◌∙◌, ap, refl, [], ◌∷◌, arith}
use Rattle.jh_closure.proofs.congruence_closure.Answering.{question, two-kept, two-first, two-second, two-only, two-asked, two-efforts, parts-asked, parts-value}
use Rattle.jh_closure.proofs.congruence_closure.Oks.{on-ok-then}
use Rattle.jh_closure.proofs.congruence_closure.explaining.ask_parts.Goals as goal

pub returns-in_ok-ask-in-Apply-right-clause-keeps : goal.returns-in_ok-ask-in-Apply-right-clause-keeps
returns-in_ok-ask-in-Apply-right-clause-keeps c =
    on-ok-then c.ask-in-Apply-right.result
    (λ e. two-kept c.args.asked.now.items c.ask-in-Apply-right.new.asked.items (question c.in-Apply.first c.in-Apply-right.third c.args.before) (question c.in-Apply.second c.in-Apply-right.fourth c.args.before) (e ∙ ap (λ zs. zs ++ question c.in-Apply.second c.in-Apply-right.fourth c.args.before ∷ []) c.in_ok-ask-in-Apply-right.ensures))
    c.ask-in-Apply-right.ensures

pub returns-in_ok-ask-in-Apply-right-clause-only : goal.returns-in_ok-ask-in-Apply-right-clause-only
returns-in_ok-ask-in-Apply-right-clause-only c =
    on-ok-then c.ask-in-Apply-right.result
    (λ e. two-only c.args.asked.now.items c.ask-in-Apply-right.new.asked.items (question c.in-Apply.first c.in-Apply-right.third c.args.before) (question c.in-Apply.second c.in-Apply-right.fourth c.args.before) (e ∙ ap (λ zs. zs ++ question c.in-Apply.second c.in-Apply-right.fourth c.args.before ∷ []) c.in_ok-ask-in-Apply-right.ensures) c.args.before refl refl)
    c.ask-in-Apply-right.ensures

pub returns-in_ok-ask-in-Apply-right-clause-asked : goal.returns-in_ok-ask-in-Apply-right-clause-asked
returns-in_ok-ask-in-Apply-right-clause-asked c =
    on-ok-then c.ask-in-Apply-right.result
    (λ e ms m lt h il ir all. let r = parts-asked ms c.args.before m c.args.left c.args.right c.in-Apply.field-0 c.in-Apply.first c.in-Apply.second c.in-Apply-right.field-0 c.in-Apply-right.third c.in-Apply-right.fourth c.in-Apply.is c.in-Apply-right.is lt h il ir in two-asked c.args.asked.now.items c.ask-in-Apply-right.new.asked.items (question c.in-Apply.first c.in-Apply-right.third c.args.before) (question c.in-Apply.second c.in-Apply-right.fourth c.args.before) (e ∙ ap (λ zs. zs ++ question c.in-Apply.second c.in-Apply-right.fourth c.args.before ∷ []) c.in_ok-ask-in-Apply-right.ensures) ms m r.0 r.1 all)
    c.ask-in-Apply-right.ensures

pub returns-in_ok-ask-in-Apply-right-clause-leads : goal.returns-in_ok-ask-in-Apply-right-clause-leads
returns-in_ok-ask-in-Apply-right-clause-leads c =
    on-ok-then c.ask-in-Apply-right.result
    (λ e f s at h eq. parts-value f c.args.left c.args.right c.in-Apply.field-0 c.in-Apply.first c.in-Apply.second c.in-Apply-right.field-0 c.in-Apply-right.third c.in-Apply-right.fourth c.in-Apply.is c.in-Apply-right.is h s at (eq (question c.in-Apply.first c.in-Apply-right.third c.args.before) (two-first c.args.asked.now.items c.ask-in-Apply-right.new.asked.items (question c.in-Apply.first c.in-Apply-right.third c.args.before) (question c.in-Apply.second c.in-Apply-right.fourth c.args.before) (e ∙ ap (λ zs. zs ++ question c.in-Apply.second c.in-Apply-right.fourth c.args.before ∷ []) c.in_ok-ask-in-Apply-right.ensures)) (omega arith)) (eq (question c.in-Apply.second c.in-Apply-right.fourth c.args.before) (two-second c.args.asked.now.items c.ask-in-Apply-right.new.asked.items (question c.in-Apply.first c.in-Apply-right.third c.args.before) (question c.in-Apply.second c.in-Apply-right.fourth c.args.before) (e ∙ ap (λ zs. zs ++ question c.in-Apply.second c.in-Apply-right.fourth c.args.before ∷ []) c.in_ok-ask-in-Apply-right.ensures)) (omega arith)))
    c.ask-in-Apply-right.ensures

pub returns-in_ok-ask-in-Apply-right-clause-effort : goal.returns-in_ok-ask-in-Apply-right-clause-effort
returns-in_ok-ask-in-Apply-right-clause-effort c =
    on-ok-then c.ask-in-Apply-right.result
    (λ e. let r = two-efforts c.args.asked.now.items c.ask-in-Apply-right.new.asked.items (question c.in-Apply.first c.in-Apply-right.third c.args.before) (question c.in-Apply.second c.in-Apply-right.fourth c.args.before) (e ∙ ap (λ zs. zs ++ question c.in-Apply.second c.in-Apply-right.fourth c.args.before ∷ []) c.in_ok-ask-in-Apply-right.ensures) c.args.before refl refl in omega (arith, r))
    c.ask-in-Apply-right.ensures
