use Rattle.std.proofs.Common.{◌∙◌, refl, sym, ap, subst, ◌<◌, ℕ, length}
use Rattle.jh_arena.specs.table.Nodes.{nodes}
use Rattle.jh_fca.specs.local_form.Chains.{backbone, base_at, place_of}
use Rattle.jh_reach.specs.Standing.{fields_in}
use Rattle.jh_reach.proofs.Standings.{fields-there}
use Rattle.std.specs.Prelude.{Some}
use Rattle.jh_local_form.proofs.field_lists.Standing.{fields-as, are-as}
use Rattle.jh_local_form.proofs.field_lists.Led.{stopped, came-from, led-on, exchanged-are}
use Rattle.jh_local_form.proofs.field_lists.leading.lead.Goals as goal

pub has_axioms-requires : goal.has_axioms-requires
has_axioms-requires c = are-as (nodes c.args.table.now) c.args.fields.now.items c.as_slice.result.now c.as_slice.ensures.value c.requires.fields

pub returns-then-not-has_axioms-clause-led : goal.returns-then-not-has_axioms-clause-led
returns-then-not-has_axioms-clause-led c = λ d cs bs fs is are stand lt at.
    stopped c.args.table.now c.args.made.now.items bs d cs fs are lt
    (sym (c.has_axioms.ensures fs (fields-as c.args.table.now c.args.fields.now.items c.as_slice.result.now fs c.as_slice.ensures.value stand)) ∙ c.if-not-has_axioms.true)

pub add_backbone-requires-clause-fields : goal.add_backbone-requires-clause-fields
add_backbone-requires-clause-fields c = are-as (nodes c.args.table.now) c.args.fields.now.items c.as_slice-2.result.now c.as_slice-2.ensures.value c.requires.fields

pub index_mut-requires : goal.index_mut-requires
index_mut-requires c = subst (λ (n : ℕ). c.args.place < n) (ap length (sym c.as_slice.ensures.value) ∙ c.as_slice.ensures.len) c.requires.place

pub returns-clause-led : goal.returns-clause-led
returns-clause-led c = λ d cs bs fs is are stand lt at.
    let t = c.args.table.now in
    let ns = c.args.fields.now.items in
    let known = sym (c.has_axioms.ensures fs (fields-as t ns c.as_slice.result.now fs c.as_slice.ensures.value stand)) ∙ c.if-not-has_axioms.false in
    let b = backbone fs (Some (base_at d (place_of d.name fs))) in
    led-on t c.args.change d is c.add_backbone.new.table c.add_backbone.ensures.grows ns _ c.args.place c.add_backbone.new.made.items bs cs fs stand known lt at
    (c.in_ok-add_backbone.ensures.made bs b are (fields-as t ns c.as_slice-2.result.now fs c.as_slice-2.ensures.value stand) (came-from t c.args.change d is c.args.place (place_of d.name fs) at) known)
    refl

pub returns-clause-fields : goal.returns-clause-fields
returns-clause-fields c =
    exchanged-are c.args.table.now c.args.change c.requires.change.0 c.requires.change.1 c.add_backbone.new.table c.add_backbone.ensures.grows c.args.fields.now.items _ c.args.place c.requires.fields refl

pub returns-clause-made : goal.returns-clause-made
returns-clause-made c =
    let t = c.args.table.now in
    let ns = c.args.fields.now.items in
    let fs = fields_in (nodes t) ns in
    let d = c.requires.change.0 in
    let stand = fields-there t ns c.requires.fields in
    let known = sym (c.has_axioms.ensures fs (fields-as t ns c.as_slice.result.now fs c.as_slice.ensures.value stand)) ∙ c.if-not-has_axioms.false in
    let b = backbone fs (Some (base_at d c.args.place)) in
    (_, c.in_ok-add_backbone.ensures.made c.requires.made.0 b c.requires.made.1 (fields-as t ns c.as_slice-2.result.now fs c.as_slice-2.ensures.value stand) (came-from t c.args.change d c.requires.change.1 c.args.place c.args.place refl) known)
