use Rattle.std.proofs.Common.{◌≡◌, ◌∙◌, sym, subst, List, [], ◌∷◌, ◌++◌}
use Rattle.jh_inst.specs.instances.Count as spec
use Rattle.jh_inst.specs.instances.Prenex.{in_front}
use Rattle.jh_instantiation.specs.declared.instance_count.groups.Group.{Group}
use Rattle.jh_instantiation.specs.instance_count.Grouping.{AreGroups}
use Rattle.jh_instantiation.proofs.instance_count.Tallying.{groups-both, is-group}
use Rattle.jh_instantiation.proofs.instance_count.groups.add_group.Goals as goal

pub returns-in_ok-push : goal.returns-in_ok-push
returns-in_ok-push c = λ gs a n h e m.
    let t = c.args.table.now in
    let old = c.args.groups.now.items in
    let x : Group = record { node = c.args.node; variables = c.in_ok-variables.variables; many = c.args.many } in
    let front = c.in_ok-variables.ensures a e in
    let some : in_front a ≡ 0 → ⊥ = λ none. c.if-variables-ne0.true (front ∙ none) in
    subst (λ (xs : List Group). AreGroups t xs (gs ++ spec.group a n)) (sym c.in_ok-push.ensures.items)
    (groups-both t old (x ∷ []) gs (spec.group a n) h (subst (λ (hs : List spec.Group). AreGroups t (x ∷ []) hs) (sym (is-group a n some)) (record { formula = e; variables = front; many = m }, tt)))
