use Rattle.std.proofs.Common.{◌≡◌, sym, ap, ◌∙◌, filter}
use Rattle.jh_name.specs.declared.place.Kind.TheVariants as kind
use Rattle.jh_semantics.specs.State.{named}
use Rattle.jh_semantics.specs.Heaps as runs
use Rattle.jh_store.specs.memory.Held.{state_of, state_in}
use Rattle.jh_heap_layout.proofs.loading.unloading.static_cell.Goals as goal

pub returns-in_ok-row-in-Set : goal.returns-in_ok-row-in-Set
unfolding state_in
returns-in_ok-row-in-Set c = λ x is.
    let s = state_of c.args.memory.now in
    let same : x.kind ≡ kind.Set = sym is.kind ∙ c.in-Set.is in
    let row : c.in_ok-row-in-Set.row ≡ runs.members_of s (s.set (named x.text)) = c.in_ok-row-in-Set.ensures (named x.text) is.number ∙ ap (filter (s.set (named x.text))) c.requires.objects in
    rw same (ap runs.set row)
