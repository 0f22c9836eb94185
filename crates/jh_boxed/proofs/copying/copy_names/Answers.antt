use Rattle.std.proofs.Common.{◌∙◌, sym, ap, List, [], ◌∷◌, ◌++◌, take}
use Rattle.std.proofs.lemmas.List.{take_more}
use Rattle.jh_name.specs.declared.naming.Name.{Name}
use Rattle.jh_boxed.proofs.copying.copy_names.Goals as goal

pub loop-name-preserved : goal.loop-name-preserved
loop-name-preserved c =
    let names = c.args.names.now in
    let count = c.loop-name.name-index in
    c.in_ok-push.ensures.items
    ∙ (ap (λ (xs : List Name). xs ++ c.in_ok-copied.copied ∷ []) c.loop-name.invariant
    ∙ (ap (λ (x : Name). take count names ++ x ∷ []) (c.in_ok-copied.ensures ∙ c.name-item.is) ∙ sym (take_more names count c.name-item.result c.loop-name-test.true)))
