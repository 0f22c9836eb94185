use Rattle.std.proofs.Common.{◌≡◌, sym, ◌∙◌, [], Some, None}
use Rattle.std.proofs.lemmas.Bool.{true≢false}
use Rattle.std.proofs.lemmas.Result.{IfOk-weaker}
use Rattle.jh_form.specs.Tree as t
use Rattle.jh_arena.specs.table.Nodes.{nodes}
use Rattle.jh_propagation.specs.trail.Saying.{truth_at}
use Rattle.jh_propagation.specs.trail.Looks.{AreCommon, IsSeen, items_in, list_in}
use Rattle.jh_propagation.proofs.trail.Seeing.{if-ok-both, has-items, seen-false, seen-list, seen-items, as-seen, and-made, or-forced, or-nothing, or-right, or-left}
use Rattle.jh_propagation.proofs.trail.looking.+found.Goals as goal

pub found_in-returns-in-Known : goal.found_in-returns-in-Known
found_in-returns-in-Known τ c = c.found_known.ensures (nodes c.args.table.now) c.args.trail.now (truth_at (nodes c.args.table.now) c.args.node) c.in-Known.ensures.form

pub found_and-returns : goal.found_and-returns
found_and-returns τ c =
    let ts = nodes c.args.table.now in
    and-made ts c.args.trail.now (truth_at ts c.args.a) (truth_at ts c.args.b) c.in_ok-left.left c.in_ok-right.right c.items.result.now c.items-2.result.now c.in_ok-together.field-0.items (list_in c.listed.result)
    c.listed.ensures c.in_ok-together.ensures c.items.ensures c.items-2.ensures
    (λ e. true≢false (sym (c.is_false.ensures.1 e) ∙ c.if-is_false.false)) (λ e. true≢false (sym (c.is_false-2.ensures.1 e) ∙ c.if-is_false-2.false))
    c.in_ok-left.ensures c.in_ok-right.ensures

pub found_or-returns-then-is_false : goal.found_or-returns-then-is_false
found_or-returns-then-is_false τ c =
    let ts = nodes c.args.table.now in
    let ds = c.args.trail.now in
    let a = truth_at ts c.args.a in
    let b = truth_at ts c.args.b in
    IfOk-weaker
    c.found_in-then-is_false.result
    (λ found. IsSeen ts ds b (list_in found))
    (λ found. IsSeen ts ds (t.or a b) (list_in found))
    (λ found h. or-right ts ds a b (list_in found) (seen-false ts ds a (list_in c.in_ok-left.left) (c.is_false.ensures.0 c.if-is_false.true) c.in_ok-left.ensures) h)
    c.found_in-then-is_false.ensures

pub found_or-returns-then-is_nothing : goal.found_or-returns-then-is_nothing
found_or-returns-then-is_nothing τ c =
    let ts = nodes c.args.table.now in
    let ds = c.args.trail.now in
    or-nothing ts ds (truth_at ts c.args.a) (truth_at ts c.args.b) (seen-list ts ds (truth_at ts c.args.a) (list_in c.in_ok-left.left) [] (c.is_nothing.ensures c.if-is_nothing.true) c.in_ok-left.ensures)

pub found_or-returns-then-is_false-2 : goal.found_or-returns-then-is_false-2
found_or-returns-then-is_false-2 τ c =
    let ts = nodes c.args.table.now in
    let ds = c.args.trail.now in
    let a = truth_at ts c.args.a in
    let b = truth_at ts c.args.b in
    let left = c.in_ok-left.left in
    let some : list_in left ≡ None → ⊥ = λ e. true≢false (sym (c.is_false.ensures.1 e) ∙ c.if-is_false.false) in
    as-seen ts ds (t.or a b) (list_in left) (items_in left) (has-items left some)
    (or-left ts ds a b (items_in left) (seen-items ts ds a left some c.in_ok-left.ensures) (seen-false ts ds b (list_in c.in_ok-right.right) (c.is_false-2.ensures.0 c.if-is_false-2.true) c.in_ok-right.ensures))

pub found_or-returns : goal.found_or-returns
found_or-returns τ c =
    let ts = nodes c.args.table.now in
    let ds = c.args.trail.now in
    let a = truth_at ts c.args.a in
    let b = truth_at ts c.args.b in
    let left = c.in_ok-left.left in
    let right = c.in_ok-right.right in
    let first = seen-items ts ds a left (λ e. true≢false (sym (c.is_false.ensures.1 e) ∙ c.if-is_false.false)) c.in_ok-left.ensures in
    let second = seen-items ts ds b right (λ e. true≢false (sym (c.is_false-2.ensures.1 e) ∙ c.if-is_false-2.false)) c.in_ok-right.ensures in
    if-ok-both
    c.shared.result
    (λ found. AreCommon (items_in left) (items_in right) (items_in found))
    (λ found. list_in found ≡ Some (items_in found))
    (λ found. IsSeen ts ds (t.or a b) (list_in found))
    (λ found both listed. as-seen ts ds (t.or a b) (list_in found) (items_in found) listed (or-forced ts ds a b (items_in left) (items_in right) (items_in found) first second both))
    c.shared.ensures.common
    c.shared.ensures.listed
