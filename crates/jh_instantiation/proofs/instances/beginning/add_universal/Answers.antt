use Rattle.std.proofs.Common.{◌≡◌, refl, sym, subst, ◌∙◌, ◌≤◌, arith, List, [], ◌∷◌, ◌++◌, length}
use Rattle.jh_inst.specs.instances.Prenex.{in_front}
use Rattle.jh_inst.specs.instances.Rounds as rounds
use Rattle.jh_instantiation.specs.declared.instances.making.AtHand.{AtHand}
use Rattle.jh_instantiation.specs.instances.Progressing.{AreAtHand}
use Rattle.jh_instantiation.proofs.instances.Lists.{universals-none, universals-one}
use Rattle.jh_instantiation.proofs.instances.Universals.{one-universal}
use Rattle.jh_instantiation.proofs.instances.beginning.add_universal.Goals as goal

pub returns-then-variables-eq0 : goal.returns-then-variables-eq0
returns-then-variables-eq0 c = λ ts hs e hh he.
    let none : in_front e.formula ≡ 0 = sym (c.in_ok-variables.ensures e.formula he) ∙ c.if-variables-eq0.true in
    subst (λ (js : List rounds.AtHand). AreAtHand c.args.table.now ts c.args.at_hand.now.items js) (sym (universals-none hs c.args.place e none)) hh

pub returns : goal.returns
returns c = λ ts hs e hh he.
    let is = c.in_ok-variables.ensures e.formula he in
    let some : in_front e.formula ≡ 0 → ⊥ = λ none. c.if-variables-eq0.false (is ∙ none) in
    let x : AtHand = record { place = c.args.place; node = c.args.node; variables = c.in_ok-variables.variables; old = 0 } in
    let h : rounds.AtHand = record { place = c.args.place; formula = e.formula; old = [] } in
    let within : 0 ≤ length ts = omega arith in
    let made = one-universal c.args.table.now ts c.args.at_hand.now.items hs x h hh (record { place = refl; formula = he; variables = is; old = refl; within = within }) in
    subst (λ (xs : List AtHand). AreAtHand c.args.table.now ts xs (hs ++ rounds.universals c.args.place (e ∷ []))) (sym c.in_ok-push.ensures.items)
    (subst (λ (js : List rounds.AtHand). AreAtHand c.args.table.now ts (c.args.at_hand.now.items ++ x ∷ []) js) (sym (universals-one hs c.args.place e some)) made)
