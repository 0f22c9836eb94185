use Rattle.std.proofs.Common.{◌≡◌, sym, ap, subst, ◌∙◌, ◌+◌, Bool, List, [], ◌∷◌, ◌++◌, take, map, slice_get, Some}
use Rattle.std.proofs.lemmas.List.{map_push}
use Rattle.jh_store.specs.heaps.Cells.{cell_in}
use Rattle.jh_store.specs.memory.Cells.{items_of}
use Rattle.jh_semantics.specs.Heaps as h
use Rattle.jh_heap_layout.proofs.loading.Lists.{AreSets, one-set-more, taken-more, there}
use Rattle.jh_heap_layout.proofs.loading.fields.sets_of.Goals as goal

pub loop-cell-preserved : goal.loop-cell-preserved
loop-cell-preserved c =
    let cells = c.args.cells.now in
    let i = c.loop-cell.cell-index in
    let cell = c.cell-item.result in
    let made = c.loop-cell.made.items in
    let row = c.in_ok-members.members in
    let at : slice_get cells i ≡ Some cell = there cells i cell c.loop-cell-test.true c.cell-item.is in
    let rows : map items_of c.push.new.self.items ≡ map items_of made ++ items_of row ∷ [] = ap (map items_of) c.in_ok-push.ensures.items ∙ map_push items_of made row in
    let more : map cell_in (take (i + 1) cells) ≡ map cell_in (take i cells) ++ cell_in cell ∷ [] = ap (map cell_in) (taken-more cells i cell at) ∙ map_push cell_in (take i cells) cell in
    subst (λ (rs : List (List Bool)). AreSets rs (map cell_in (take (i + 1) cells))) (sym rows)
    (subst (λ (cs : List h.Cell). AreSets (map items_of made ++ items_of row ∷ []) cs) (sym more) (one-set-more (map items_of made) (map cell_in (take i cells)) (items_of row) (cell_in cell) c.loop-cell.invariant c.in_ok-members.ensures))
