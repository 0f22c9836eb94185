use Rattle.std.proofs.Common.{◌≡◌, sym, ap, subst, ◌∙◌, ◌+◌, ◌∷◌, ◌++◌, drop, map}
use Rattle.std.proofs.lemmas.List.{map_push}
use Rattle.jh_semantics.specs.Heaps.{cell_value}
use Rattle.jh_store.specs.heaps.Cells.{cell_in}
use Rattle.jh_operands.specs.Scalars.{datum_of}
use Rattle.jh_machine.specs.locals.Locals.{AllInside}
use Rattle.jh_heap_layout.proofs.loading.Lists.{left-at, there, one-made, get-image}
use Rattle.jh_run.proofs.runner.Inside.{inside-more, inside-none}
use Rattle.jh_run.proofs.runner.scalars.scalars_of.Goals as goal

pub loop-cell-init : goal.loop-cell-init
loop-cell-init c = record {
  values = ap (λ xs. map datum_of xs ++ map cell_value (map cell_in c.args.cells.now)) c.new-made.ensures.items;
  inside = λ n h. subst (λ xs. AllInside n xs) (sym c.new-made.ensures.items) (inside-none n);
}

pub loop-cell-preserved : goal.loop-cell-preserved
loop-cell-preserved c =
    let known = c.loop-cell.invariant in
    let cells = c.args.cells.now in
    let i = c.loop-cell.cell-index in
    let cell = c.cell-item.result in
    let value = c.in_ok-value.value in
    let made = c.loop-cell.made.items in
    let rest = drop (i + 1) cells in
    let at = there cells i cell c.loop-cell-test.true c.cell-item.is in
    let left : map cell_in (drop i cells) ≡ cell_in cell ∷ map cell_in rest = ap (map cell_in) (left-at cells i cell at) in
    record {
      values = ap (λ xs. map datum_of xs ++ map cell_value (map cell_in rest)) c.in_ok-push.ensures.items ∙ ap (λ xs. xs ++ map cell_value (map cell_in rest)) (map_push datum_of made value)
          ∙ one-made cell_value (map datum_of made) (datum_of value) (map cell_in (drop i cells)) (map cell_in rest) (map cell_in cells) (cell_in cell) known.values left c.in_ok-value.ensures.value;
      inside = λ n h. subst (λ xs. AllInside n xs) (sym c.in_ok-push.ensures.items) (inside-more n made value (known.inside n h) (c.in_ok-value.ensures.inside n (h i (cell_in cell) (get-image cell_in cells i cell at))));
    }
