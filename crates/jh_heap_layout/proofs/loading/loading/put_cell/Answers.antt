use Rattle.std.proofs.Common.{◌≡◌, ◌<◌, ℕ, true, sym, ap, subst, ◌∙◌, ◌&&◌, nat_lt, suc, OnOk}
use Rattle.std.proofs.lemmas.Result.{on_ok_weaker}
use Rattle.jh_semantics.specs.State.{named, stored}
use Rattle.jh_semantics.specs.Heaps.{is_in, cell_value}
use Rattle.jh_store.specs.heaps.Cells.{cell_in}
use Rattle.jh_store.specs.memory.Held.{state_of, state_in}
use Rattle.jh_store.specs.heaps.Inside.{IsInside}
use Rattle.jh_heap_layout.proofs.loading.Setting as s
use Rattle.jh_heap_layout.proofs.loading.Fielding.{cut-same}
use Rattle.jh_heap_layout.proofs.loading.loading.put_cell.Goals as goal

pub returns-in-Set-clause-state : goal.returns-in-Set-clause-state
unfolding state_in
returns-in-Set-clause-state c = λ text at.
    let m = state_of c.args.memory.now in
    let last = c.args.memory.now.last in
    let xs = c.in-Set.objects in
    let inside : (a : ℕ) → is_in a xs ≡ true → a < suc last = subst (λ cell. IsInside last (cell_in cell)) c.in-Set.is c.requires.inside in
    subst (λ cell. OnOk c.put_set.result (state_of c.put_set.new.memory ≡ stored m text (cell_value (cell_in cell)))) (sym c.in-Set.is)
    (on_ok_weaker c.put_set.result
    (λ put. put (named text) at ∙ ap (λ ys. s.with_set m (named text) (λ b. is_in b ys)) c.items.ensures ∙ s.sets-same m (named text) (λ b. is_in b xs) (λ b. nat_lt b (suc last) && is_in b xs) (λ b. sym (cut-same last xs inside b)))
    c.put_set.ensures.state)
