use Rattle.std.proofs.Common.{◌≡◌, sym, ap, subst, ◌∙◌, suc, List, ℕ, map, filter}
use Rattle.jh_semantics.specs.State.{named}
use Rattle.jh_semantics.specs.Objects.{below}
use Rattle.jh_semantics.specs.Program.{Member}
use Rattle.jh_semantics.specs.WellFormed.{all_classes}
use Rattle.jh_semantics.specs.Code.{Text}
use Rattle.jh_semantics.specs.Heaps as runs
use Rattle.jh_semantics.specs.Heaps.{statics_of, fields_of}
use Rattle.jh_store.specs.memory.Held.{state_of, state_in}
use Rattle.jh_heap_layout.specs.loading.Places.{AreNumbers, ArePlaces}
use Rattle.jh_heap_layout.proofs.loading.unloading.unload.Goals as goal

pub returns : goal.returns
unfolding state_in
returns c = λ p are.
    let s = state_of c.args.memory.now in
    let names = c.args.memory.now.names in
    let objects : c.as_slice-objects.result.now ≡ below (suc c.args.memory.now.last) = c.as_slice-objects.ensures.value ∙ c.in_ok-objects.ensures ∙ ap (λ n. below (suc n)) c.last.ensures in
    let classes = c.in_ok-classes.ensures (all_classes p.classes) (subst (λ ks. AreNumbers names ks (all_classes p.classes)) (sym c.as_slice.ensures.value) are.classes) ∙ ap (λ (xs : List ℕ). map (λ (x : Text). filter (s.set (named x)) xs) (all_classes p.classes)) objects in
    let statics = c.in_ok-statics.ensures (statics_of p) (subst (λ ks. ArePlaces names ks (statics_of p)) (sym c.as_slice-2.ensures.value) are.statics) in
    let fields = c.in_ok-fields.ensures (fields_of p) (subst (λ ks. ArePlaces names ks (fields_of p)) (sym c.as_slice-3.ensures.value) are.fields) ∙ ap (λ (xs : List ℕ). map (λ (x : Member). map (runs.field_cell s x) xs) (fields_of p)) objects in
    λ j. record { greatest = c.last-2.ensures j; classes = classes j; statics = statics j; fields = fields j }
