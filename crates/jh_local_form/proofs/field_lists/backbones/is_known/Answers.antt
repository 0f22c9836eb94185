use Rattle.std.proofs.Common.{refl, arith}
use Rattle.jh_local_form.proofs.field_lists.Standing.{backbone-at}
use Rattle.jh_local_form.proofs.field_lists.Known.{other-passed, list-found, none-found}
use Rattle.jh_local_form.proofs.field_lists.backbones.is_known.Goals as goal

pub loop-place-init : goal.loop-place-init
loop-place-init c = λ bs fs are stand. refl

pub has_fields-requires-clause-backbone : goal.has_fields-requires-clause-backbone
has_fields-requires-clause-backbone c =
    let b = backbone-at c.args.table.now c.args.made.now c.requires.made.0 c.loop-place.place c.backbone_at.result c.requires.made.1 c.backbone_at.ensures in
    (b.0, b.2)

pub loop-place-preserved : goal.loop-place-preserved
loop-place-preserved c = λ bs fs are stand.
    other-passed c.args.table.now c.args.made.now bs fs are c.loop-place.place c.backbone_at.result c.has_fields.result c.backbone_at.ensures (λ b is. c.has_fields.ensures b fs is stand) c.if-has_fields.false (c.loop-place.invariant bs fs are stand)

pub returns-then-has_fields : goal.returns-then-has_fields
returns-then-has_fields c = λ bs fs are stand.
    list-found c.args.table.now c.args.made.now bs fs are c.loop-place.place c.backbone_at.result c.has_fields.result c.backbone_at.ensures (λ b is. c.has_fields.ensures b fs is stand) c.if-has_fields.true (c.loop-place.invariant bs fs are stand)

pub returns : goal.returns
returns c = λ bs fs are stand.
    none-found c.args.table.now c.args.made.now bs fs are c.loop-place.place (search arith) (c.loop-place.invariant bs fs are stand)
