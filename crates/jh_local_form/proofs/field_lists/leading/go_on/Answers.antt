use Rattle.std.proofs.Common.{◌≡◌, ◌∙◌, sym, ap, subst, List, ◌∷◌, Some, length, true, nat_lt, nat_eq, position}
use Rattle.std.proofs.lemmas.Result.{IfOk-weaker}
use Rattle.std.proofs.lemmas.Option.{slice_get_within}
use Rattle.jh_form.specs.Tree.{FieldTree}
use Rattle.jh_arena.specs.table.Nodes.{nodes}
use Rattle.jh_reach.specs.Axioms.{BackboneTree}
use Rattle.jh_reach.specs.Standing.{AreFields}
use Rattle.jh_fca.specs.local_form.Chains.{ChangeTree, led_from, place_of}
use Rattle.jh_local_form.proofs.updates.Places.{found-some}
use Rattle.jh_local_form.specs.field_lists.Changing.{IsChange}
use Rattle.jh_local_form.specs.field_lists.Leading.{AreBackbones, IsLed, LeadsOn, with_backbones}
use Rattle.jh_local_form.proofs.field_lists.Tested.{place-found, place-missed}
use Rattle.jh_local_form.proofs.field_lists.Led.{passed}
use Rattle.jh_local_form.proofs.field_lists.leading.go_on.Goals as goal

pub lead-requires-clause-place : goal.lead-requires-clause-place
lead-requires-clause-place c =
    let at = sym c.in-Some.is ∙ c.place_of.ensures ∙ ap (position (nat_eq c.args.change.name)) c.as_slice.ensures.value in
    slice_get_within c.args.fields.now.items c.in-Some.place c.args.change.name (found-some c.args.fields.now.items c.args.change.name (Some c.in-Some.place) at)

pub returns-in-None-clause-led : goal.returns-in-None-clause-led
returns-in-None-clause-led c = λ d cs whole is led.
    let at = sym c.in-None.is ∙ c.place_of.ensures ∙ ap (position (nat_eq c.args.change.name)) c.as_slice.ensures.value in
    passed c.args.table.now c.args.made.now.items c.args.fields.now.items d cs whole led
    (place-missed c.args.table.now c.nodes_differ.ensures.different c.args.change.name d.name c.args.fields.now.items led.names is.called led.stand at)

pub returns-in-Some-clause-led : goal.returns-in-Some-clause-led
returns-in-Some-clause-led c =
    let t = c.args.table.now in
    let u = c.lead.new.table in
    let ns = c.args.fields.now.items in
    let x = c.args.change in
    let xs = c.args.made.now.items in
    let at = sym c.in-Some.is ∙ c.place_of.ensures ∙ ap (position (nat_eq x.name)) c.as_slice.ensures.value in
    IfOk-weaker
    c.lead.result
    (λ on. (d : ChangeTree) (cs : List ChangeTree) (bs : List BackboneTree) (fs : List FieldTree) → IsChange (nodes t) x d → AreBackbones t xs bs → AreFields t ns fs → nat_lt (place_of d.name fs) (length fs) ≡ true → c.in-Some.place ≡ place_of d.name fs →
    LeadsOn on u c.lead.new.made.items c.lead.new.fields.items cs (with_backbones bs (led_from fs (d ∷ cs))))
    (λ on. (d : ChangeTree) (cs : List ChangeTree) (whole : List BackboneTree) → IsChange (nodes t) x d → IsLed t xs ns (d ∷ cs) whole → LeadsOn on u c.lead.new.made.items c.lead.new.fields.items cs whole)
    (λ on h d cs whole is led.
    let found = place-found t c.nodes_differ.ensures.different x.name c.in-Some.place d.name ns led.names is.called led.stand at in
    subst (λ (bs : List BackboneTree). LeadsOn on u c.lead.new.made.items c.lead.new.fields.items cs bs) led.come (h d cs led.done led.names is led.are led.stand found.0 found.1))
    c.lead.ensures.led
