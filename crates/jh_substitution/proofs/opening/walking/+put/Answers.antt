use Rattle.std.proofs.Common.{◌≡◌, ◌<◌, ◌+◌, sym, ap, subst, ◌∙◌, ℕ, List, [], ◌∷◌, arith, length, slice_get, take, Some}
use Rattle.std.proofs.lemmas.Option.{slice_get_within}
use Rattle.std.proofs.lemmas.Result.{IfOk-weaker}
use Rattle.jh_arena.specs.table.Entries.{the_object}
use Rattle.jh_arena.specs.table.Nodes.{nodes, tree_in}
use Rattle.jh_arena.specs.table.Parts.{parts, binders}
use Rattle.jh_arena.proofs.table.Listed.{extends-trans}
use Rattle.jh_substitution.proofs.rewriting.Alone.{lacks-loose}
use Rattle.jh_substitution.proofs.rewriting.Makings.{all-step, all-whole}
use Rattle.jh_substitution.specs.opening.Openings.{AreOpened, IsInner, IsOpened, opening_with}
use Rattle.jh_substitution.proofs.opening.Growing.{all-opened-grow, at-inside, inner-grows, inner-parts, object-grows, one-opened, opened-grows, same-some, two-opened}
use Rattle.jh_substitution.proofs.opening.walking.+put.Goals as goal

pub put-returns-then-loose-depth-clause-node : goal.put-returns-then-loose-depth-clause-node
put-returns-then-loose-depth-clause-node t c =
    lacks-loose (nodes c.args.table.now) c.args.node c.args.depth c.loose.result (tree_in c.args.table.now c.shape-shape.result) (the_object (slice_get (nodes c.args.table.now) c.args.with)) c.shape-shape.ensures.tree c.loose.ensures (omega arith)

pub put-put_inner-requires : goal.put-put_inner-requires
put-put_inner-requires t c =
    let inner : IsInner c.args.table.now c.args.node c.shape-shape.result = record { there = c.shape-shape.ensures.tree; fits = c.shape-shape.ensures.fits; below = c.shape-shape.ensures.below; inner = sym c.is_leaf.ensures ∙ c.if-is_leaf.false } in
    (omega (arith, c.decreases), (inner, c.requires.with))

pub put_inner-count-count-requires : goal.put_inner-count-count-requires
put_inner-count-count-requires t c = c.requires.inner.fits

pub put_part-part-part-requires-clause-fits : goal.put_part-part-part-requires-clause-fits
put_part-part-part-requires-clause-fits t c = c.requires.inner.fits

pub put_part-put-requires : goal.put_part-put-requires
put_part-put-requires t c =
    let ts = nodes c.args.table.now in
    let below : c.part-part.result < c.args.node = c.requires.inner.below.below c.args.index c.part-part.result c.part-part.ensures in
    let here : c.args.node < length ts = slice_get_within ts c.args.node (tree_in c.args.table.now c.args.shape) c.requires.inner.there in
    (omega (arith, c.decreases, below), (omega (arith, below, here), c.requires.with))

pub put_part-returns-clause-part : goal.put_part-returns-clause-part
put_part-returns-clause-part t c =
    let u = c.put.new.table in
    IfOk-weaker
    c.put.result
    (λ made. IsOpened u c.args.with c.part-part.result c.args.below made)
    (λ made. (p : ℕ) → slice_get (parts c.args.table.now.pools.lists c.args.shape) c.args.index ≡ Some p → IsOpened u c.args.with p c.args.below made)
    (λ made m p e. subst (λ (n : ℕ). IsOpened u c.args.with n c.args.below made) (same-some c.part-part.result p (sym c.part-part.ensures ∙ e)) m)
    c.put.ensures.node

pub put_single-put_part-requires : goal.put_single-put_part-requires
put_single-put_part-requires t c = (omega (arith, c.decreases), (c.requires.inner, (c.requires.with, omega (arith, c.requires.one))))

pub put_single-remade-requires-clause-inner : goal.put_single-remade-requires-clause-inner
put_single-remade-requires-clause-inner t c = inner-grows c.args.table.now c.put_part.new.table c.args.node c.args.shape c.put_part.ensures.grows c.requires.inner

pub put_single-remade-requires-clause-with : goal.put_single-remade-requires-clause-with
put_single-remade-requires-clause-with t c = object-grows c.args.table.now c.put_part.new.table c.args.with c.put_part.ensures.grows c.requires.with

pub put_single-remade-requires-clause-answers : goal.put_single-remade-requires-clause-answers
put_single-remade-requires-clause-answers t c =
    let u = c.put_part.new.table in
    let rs : List ℕ = c.in_ok-part.part ∷ [] in
    let ps = parts c.args.table.now.pools.lists c.args.shape in
    let all : AreOpened u c.args.with c.args.below ps rs = one-opened (opening_with u c.args.with) (nodes u) c.args.below ps c.in_ok-part.part c.requires.one c.in_ok-part.ensures.part in
    subst (λ (qs : List ℕ). AreOpened u c.args.with (c.args.depth + binders c.args.shape) qs rs) (sym (inner-parts c.args.table.now u c.args.node c.args.shape c.put_part.ensures.grows c.requires.inner))
    (subst (λ (q : ℕ). AreOpened u c.args.with q ps rs) c.requires.below all)

pub put_both-put_part-requires : goal.put_both-put_part-requires
put_both-put_part-requires t c = (omega (arith, c.decreases), (c.requires.inner, (c.requires.with, omega (arith, c.requires.two))))

pub put_both-put_part-requires-2 : goal.put_both-put_part-requires-2
put_both-put_part-requires-2 t c =
    let u = c.put_part.new.table in
    let g = c.put_part.ensures.grows in
    let same = ap length (inner-parts c.args.table.now u c.args.node c.args.shape g c.requires.inner) in
    (omega (arith, c.decreases), (inner-grows c.args.table.now u c.args.node c.args.shape g c.requires.inner, (object-grows c.args.table.now u c.args.with g c.requires.with, omega (arith, same, c.requires.two))))

pub put_both-remade-requires-clause-inner : goal.put_both-remade-requires-clause-inner
put_both-remade-requires-clause-inner t c =
    inner-grows c.args.table.now c.put_part-2.new.table c.args.node c.args.shape (extends-trans c.args.table.now c.put_part.new.table c.put_part-2.new.table c.put_part.ensures.grows c.put_part-2.ensures.grows) c.requires.inner

pub put_both-remade-requires-clause-with : goal.put_both-remade-requires-clause-with
put_both-remade-requires-clause-with t c =
    object-grows c.args.table.now c.put_part-2.new.table c.args.with (extends-trans c.args.table.now c.put_part.new.table c.put_part-2.new.table c.put_part.ensures.grows c.put_part-2.ensures.grows) c.requires.with

pub put_both-remade-requires-clause-answers : goal.put_both-remade-requires-clause-answers
put_both-remade-requires-clause-answers t c =
    let s = c.args.table.now in
    let u = c.put_part.new.table in
    let v = c.put_part-2.new.table in
    let w = c.args.with in
    let g = c.put_part.ensures.grows in
    let h = c.put_part-2.ensures.grows in
    let rs : List ℕ = c.in_ok-left.left ∷ c.in_ok-right.right ∷ [] in
    let ps = parts s.pools.lists c.args.shape in
    let same = inner-parts s u c.args.node c.args.shape g c.requires.inner in
    let all : AreOpened v w c.args.below ps rs = two-opened (opening_with v w) (nodes v) c.args.below ps c.in_ok-left.left c.in_ok-right.right c.requires.two
    (λ p e. opened-grows u v w p c.args.below c.in_ok-left.left h (object-grows s u w g c.requires.with) (c.in_ok-left.ensures.part p e))
    (λ p e. c.in_ok-right.ensures.part p (ap (λ (qs : List ℕ). slice_get qs 1) same ∙ e)) in
    subst (λ (qs : List ℕ). AreOpened v w (c.args.depth + binders c.args.shape) qs rs) (sym (inner-parts s v c.args.node c.args.shape (extends-trans s u v g h) c.requires.inner))
    (subst (λ (q : ℕ). AreOpened v w q ps rs) c.requires.below all)

pub put_each-put_part-requires : goal.put_each-put_part-requires
put_each-put_part-requires t c =
    let u = c.loop-index.table in
    let g = c.loop-index.invariant.grows in
    let same = ap length (inner-parts c.args.table.now u c.args.node c.args.shape g c.requires.inner) in
    (omega (arith, c.decreases), (inner-grows c.args.table.now u c.args.node c.args.shape g c.requires.inner, (object-grows c.args.table.now u c.args.with g c.requires.with, omega (arith, same, c.loop-index-test.true, c.count-index-end.ensures))))

pub put_each-loop-index-preserved : goal.put_each-loop-index-preserved
put_each-loop-index-preserved t c =
    let s = c.args.table.now in
    let u = c.loop-index.table in
    let v = c.put_part.new.table in
    let w = c.args.with in
    let g = c.loop-index.invariant.grows in
    let ps = parts s.pools.lists c.args.shape in
    let same = inner-parts s u c.args.node c.args.shape g c.requires.inner in
    let part = at-inside ps c.loop-index.index (omega (arith, c.loop-index-test.true, c.count-index-end.ensures)) in
    let before = all-opened-grow u v w c.args.below (take c.loop-index.index ps) c.loop-index.answers.items c.put_part.ensures.grows (object-grows s u w g c.requires.with) c.loop-index.invariant.answers in
    record {
      grows = extends-trans s u v g c.put_part.ensures.grows;
      answers = all-step (nodes v) (opening_with v w) c.args.below ps c.loop-index.answers.items c.push.new.self.items c.loop-index.index part.0 c.in_ok-answer.answer before (c.in_ok-answer.ensures.part part.0 (ap (λ (qs : List ℕ). slice_get qs c.loop-index.index) same ∙ part.1)) part.1 c.in_ok-push.ensures.items;
    }

pub put_each-remade-requires-clause-inner : goal.put_each-remade-requires-clause-inner
put_each-remade-requires-clause-inner t c = inner-grows c.args.table.now c.loop-index.table c.args.node c.args.shape c.loop-index.invariant.grows c.requires.inner

pub put_each-remade-requires-clause-with : goal.put_each-remade-requires-clause-with
put_each-remade-requires-clause-with t c = object-grows c.args.table.now c.loop-index.table c.args.with c.loop-index.invariant.grows c.requires.with

pub put_each-remade-requires-clause-answers : goal.put_each-remade-requires-clause-answers
put_each-remade-requires-clause-answers t c =
    let u = c.loop-index.table in
    let w = c.args.with in
    let ps = parts c.args.table.now.pools.lists c.args.shape in
    let all : AreOpened u w c.args.below ps c.loop-index.answers.items = all-whole (nodes u) (opening_with u w) c.args.below ps c.loop-index.answers.items c.loop-index.index c.loop-index.invariant.answers (omega (arith, c.loop-index-test.false, c.count-index-end.ensures)) in
    subst (λ (rs : List ℕ). AreOpened u w (c.args.depth + binders c.args.shape) (parts u.pools.lists c.args.shape) rs) (sym c.as_slice.ensures.value)
    (subst (λ (qs : List ℕ). AreOpened u w (c.args.depth + binders c.args.shape) qs c.loop-index.answers.items) (sym (inner-parts c.args.table.now u c.args.node c.args.shape c.loop-index.invariant.grows c.requires.inner))
    (subst (λ (q : ℕ). AreOpened u w q ps c.loop-index.answers.items) c.requires.below all))
