use Rattle.std.proofs.Common.{◌≡◌, sym, subst, ◌∙◌, ap, List, ℕ, Some, slice_get, if◌then◌else◌}
use Rattle.std.proofs.lemmas.Option.{slice_get-get_or}
use Rattle.std.proofs.lemmas.Result.{on_ok_weaker}
use Rattle.jh_containers.specs.connected_component.Reaching.{shares, with_row}
use Rattle.jh_containers.proofs.connected_component.Passes.{more-none, more-row, row-at}
use Rattle.jh_containers.proofs.connected_component.reaching.take_at.Goals as goal

pub returns-then-place-rows : goal.returns-then-place-rows
returns-then-place-rows c =
    let rows = c.args.rows.now in
    let known = c.args.known.now.numbers.keys in
    let row = c.index-rows-place.result in
    let at : slice_get rows c.args.place ≡ Some row = slice_get-get_or rows c.args.place row c.if-place-rows.true ∙ ap Some (sym c.index-rows-place.is) in
    on_ok_weaker c.take_in.result
    (λ e. more-row rows row known c.take_in.new.known.numbers.keys (row-at rows c.args.place row at)
    (subst (λ (ms : List ℕ). c.take_in.new.known.numbers.keys ≡ (if shares ms known then with_row known ms else known)) c.items.ensures e))
    c.take_in.ensures

pub returns-else-place-rows : goal.returns-else-place-rows
returns-else-place-rows c = more-none c.args.rows.now c.args.known.now.numbers.keys
