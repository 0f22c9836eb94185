use Rattle.std.proofs.Common.{◌∙◌, sym}
use Rattle.std.proofs.lemmas.Result.{on_ok_weaker}
use Rattle.std.specs.Prelude.{None}
use Rattle.jh_fca.specs.local_form.Chains.{backbone}
use Rattle.jh_local_form.proofs.field_lists.Led.{last-stopped, last-added, from-nothing}
use Rattle.jh_local_form.proofs.field_lists.leading.add_last.Goals as goal

pub returns-then-not-has_axioms-clause-made : goal.returns-then-not-has_axioms-clause-made
returns-then-not-has_axioms-clause-made c = λ whole led.
    last-stopped c.args.table.now c.args.made.now.items c.args.fields.now whole led (sym (c.has_axioms.ensures led.names led.stand) ∙ c.if-not-has_axioms.true)

pub returns-clause-made : goal.returns-clause-made
returns-clause-made c =
    on_ok_weaker c.add_backbone.result
    (λ h whole led.
    let known = sym (c.has_axioms.ensures led.names led.stand) ∙ c.if-not-has_axioms.false in
    last-added c.args.table.now c.add_backbone.new.table c.args.made.now.items c.add_backbone.new.made.items c.args.fields.now whole led known (h led.done (backbone led.names None) led.are led.stand (from-nothing c.args.table.now) known))
    c.add_backbone.ensures.made
