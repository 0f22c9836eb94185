use Rattle.std.proofs.Common.{◌≡◌, sym, ap, subst, ◌∙◌, map, slice_get}
use Rattle.std.specs.List.{list_any}
use Rattle.jh_form.specs.Meaning.{a_set}
use Rattle.jh_form.specs.Assigned.{assigned}
use Rattle.jh_semantics.specs.State.{State, alloc_name}
use Rattle.jh_semantics.specs.WellFormed.{all_classes}
use Rattle.jh_semantics.specs.Heaps.{is_in, with_classes, with_statics, with_fields, statics_of, fields_of}
use Rattle.jh_store.specs.heaps.Cells.{cell_in}
use Rattle.jh_store.specs.memory.Held.{state_of}
use Rattle.jh_heap_layout.specs.loading.Places.{AreNumbers, ArePlaces}
use Rattle.jh_heap_layout.proofs.loading.loading.load.Goals as goal

pub returns-clause-state : goal.returns-clause-state
returns-clause-state c = λ p are.
    let heap = c.args.heap.now in
    let first : c.in_ok-memory.memory.names ≡ c.args.names.now = c.in_ok-memory.ensures.names in
    let second : c.put_all.new.memory.names ≡ c.args.names.now = c.put_all.ensures.names ∙ first in
    let third : c.put_classes.new.memory.names ≡ c.args.names.now = c.put_classes.ensures.names ∙ second in
    let fourth : c.put_statics.new.memory.names ≡ c.args.names.now = c.put_statics.ensures.names ∙ third in
    let all = c.in_ok-put_all.ensures.state alloc_name (ap (λ ns. slice_get ns c.args.places.now.all) first ∙ are.all) ∙ ap (λ rows. assigned (state_of c.in_ok-memory.memory) alloc_name (a_set (λ b. list_any (is_in b) rows))) c.items.ensures in
    let classes =
    c.in_ok-put_classes.ensures.state (all_classes p.classes) (subst (λ ns. AreNumbers ns c.as_slice.result.now (all_classes p.classes)) (sym second) (subst (λ ks. AreNumbers c.args.names.now ks (all_classes p.classes)) (sym c.as_slice.ensures.value) are.classes))
    ∙ ap (λ rows. with_classes (all_classes p.classes) rows (state_of c.put_all.new.memory)) c.items-2.ensures in
    let statics =
    c.in_ok-put_statics.ensures.state (statics_of p) (subst (λ ns. ArePlaces ns c.as_slice-2.result.now (statics_of p)) (sym third) (subst (λ ks. ArePlaces c.args.names.now ks (statics_of p)) (sym c.as_slice-2.ensures.value) are.statics))
    ∙ ap (λ cells. with_statics (statics_of p) (map cell_in cells) (state_of c.put_classes.new.memory)) c.items-3.ensures in
    let fields =
    c.in_ok-put_fields.ensures.state (fields_of p) (subst (λ ns. ArePlaces ns c.as_slice-3.result.now (fields_of p)) (sym fourth) (subst (λ ks. ArePlaces c.args.names.now ks (fields_of p)) (sym c.as_slice-3.ensures.value) are.fields))
    ∙ ap (λ rows. with_fields (fields_of p) (map (map cell_in) rows) (state_of c.put_statics.new.memory)) c.items-4.ensures in
    fields
    ∙ ap (with_fields (fields_of p) (map (map cell_in) heap.fields))
    (statics ∙ ap (with_statics (statics_of p) (map cell_in heap.statics)) (classes ∙ ap (with_classes (all_classes p.classes) heap.classes) (all ∙ ap (λ (s : State). assigned s alloc_name (a_set (λ b. list_any (is_in b) heap.classes))) c.in_ok-memory.ensures.state)))
