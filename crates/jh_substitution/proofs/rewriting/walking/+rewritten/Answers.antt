use Rattle.std.proofs.Common.{◌≡◌, true, ◌<◌, length, sym, ap, ◌∙◌, take, arith, rules, Some, slice_get}
use Rattle.std.proofs.lemmas.Option.{slice_get_within}
use Rattle.jh_arena.specs.table.Growth.{Extends}
use Rattle.jh_arena.specs.table.Nodes.{nodes, tree_in, fits_in}
use Rattle.jh_arena.specs.table.Parts.{parts}
use Rattle.jh_arena.proofs.table.Listed.{extends-trans, fits-grows, tree-grows, parts-grows}
use Rattle.jh_substitution.specs.rewriting.Walks.{IsRewritten}
use Rattle.jh_substitution.specs.rewriting.Memos.{found}
use Rattle.jh_substitution.proofs.rewriting.Rewritings.{all-grows, all-length, holds-grows, holds-notes, on-ok}
use Rattle.jh_substitution.proofs.rewriting.Makings.{all-step, all-whole, still, remade-grown, made-rewritten, if-ok}
use Rattle.jh_substitution.proofs.rewriting.PartRewritings.{Remade}
use Rattle.jh_substitution.proofs.rewriting.Sorted.{whole-alone, below-grows}
use Rattle.jh_substitution.proofs.rewriting.walking.+rewritten.Goals as goal

-- an answer that was known
pub rewritten_inner-returns-in-Some-clause-node : goal.rewritten_inner-returns-in-Some-clause-node
rewritten_inner-returns-in-Some-clause-node g t c =
    c.requires.memo.at (record { node = c.args.node; depth = c.args.depth }) c.in-Some.answer (sym c.in-Some.ensures)

pub rewritten_inner-returns-in_ok-note-in-None-clause-memo :
    goal.rewritten_inner-returns-in_ok-note-in-None-clause-memo
rewritten_inner-returns-in_ok-note-in-None-clause-memo g t c =
    holds-notes
    (g.R.LeafRules.ready c.args.rules.now)
    (g.R.LeafRules.rewriting c.args.rules.now)
    c.rewritten_parts.new.table
    (found c.rewritten_parts.new.memo.answers)
    (found c.note.new.self.answers)
    (record { node = c.args.node; depth = c.args.depth })
    c.in_ok-answer-in-None.answer
    c.in_ok-answer-in-None.ensures.memo
    c.in_ok-answer-in-None.ensures.node
    c.in_ok-note-in-None.ensures.others

pub rewritten-returns-then-is_leaf-clause-memo :
    goal.rewritten-returns-then-is_leaf-clause-memo
rewritten-returns-then-is_leaf-clause-memo g t c =
    on-ok
    c.leaf.result
    (holds-grows (g.R.LeafRules.ready c.args.rules.now) (g.R.LeafRules.rewriting c.args.rules.now) c.args.table.now c.leaf.new.table (found c.args.memo.now.answers) (g.met.R.LeafRules.stays c.args.rules.now) c.leaf.ensures.grows c.requires.memo)

pub rewritten-returns-in-Some-clause-memo :
    goal.rewritten-returns-in-Some-clause-memo
rewritten-returns-in-Some-clause-memo g t c =
    holds-grows (g.R.LeafRules.ready c.args.rules.now) (g.R.LeafRules.rewriting c.args.rules.now) c.args.table.now c.whole.new.table (found c.args.memo.now.answers) (g.met.R.LeafRules.stays c.args.rules.now) c.whole.ensures.grows c.requires.memo

pub rewritten-rewritten_inner-requires : goal.rewritten-rewritten_inner-requires
rewritten-rewritten_inner-requires g t c κs within =
    let there : slice_get (nodes c.whole.new.table) c.args.node ≡ Some (tree_in c.whole.new.table c.shape-shape.result) =
    c.whole.ensures.grows.nodes.keeps c.args.node (tree_in c.args.table.now c.shape-shape.result) c.shape-shape.ensures.tree ∙ ap Some (sym (tree-grows c.args.table.now c.whole.new.table c.shape-shape.result c.whole.ensures.grows c.shape-shape.ensures.fits)) in
    let fits : fits_in c.whole.new.table c.shape-shape.result ≡ true = fits-grows c.args.table.now c.whole.new.table c.shape-shape.result c.whole.ensures.grows c.shape-shape.ensures.fits in
    let below = below-grows c.args.table.now c.whole.new.table c.args.node c.shape-shape.result c.whole.ensures.grows c.shape-shape.ensures.fits c.shape-shape.ensures.below in
    let alone = whole-alone c.args.table.now c.whole.new.table (g.R.LeafRules.rewriting c.args.rules.now c.whole.new.table) c.args.node c.args.depth c.shape-shape.result c.whole.ensures.grows c.shape-shape.ensures.fits c.shape-shape.ensures.tree (search rules) in
    let holds = holds-grows (g.R.LeafRules.ready c.args.rules.now) (g.R.LeafRules.rewriting c.args.rules.now) c.args.table.now c.whole.new.table (found c.args.memo.now.answers) (g.met.R.LeafRules.stays c.args.rules.now) c.whole.ensures.grows c.requires.memo in
    search (rules, arith)

pub rewritten_parts-part-part-requires-clause-fits : goal.rewritten_parts-part-part-requires-clause-fits
rewritten_parts-part-part-requires-clause-fits g t c =
    fits-grows c.args.table.now c.loop-index.table c.args.shape c.loop-index.invariant.grows c.requires.fits

pub rewritten_parts-part-part-requires-clause-within :
    goal.rewritten_parts-part-part-requires-clause-within
rewritten_parts-part-part-requires-clause-within g t c =
    let same : length (parts c.loop-index.table.pools.lists c.args.shape) ≡ length (parts c.args.table.now.pools.lists c.args.shape) =
    ap length (parts-grows c.args.table.now c.loop-index.table c.args.shape c.loop-index.invariant.grows c.requires.fits) in
    omega arith

pub rewritten_parts-rewritten-requires : goal.rewritten_parts-rewritten-requires
rewritten_parts-rewritten-requires g t c κs within =
    let same : parts c.loop-index.table.pools.lists c.args.shape ≡ parts c.args.table.now.pools.lists c.args.shape =
    parts-grows c.args.table.now c.loop-index.table c.args.shape c.loop-index.invariant.grows c.requires.fits in
    let part : slice_get (parts c.args.table.now.pools.lists c.args.shape) c.loop-index.index ≡ Some c.part-part.result =
    ap (λ ps. slice_get ps c.loop-index.index) (sym same) ∙ c.part-part.ensures in
    let smaller : c.part-part.result < c.args.node = c.requires.below.below c.loop-index.index c.part-part.result part in
    let here : c.args.node < length (nodes c.args.table.now) = slice_get_within (nodes c.args.table.now) c.args.node (tree_in c.args.table.now c.args.shape) c.requires.there in
    let inside : c.part-part.result < length (nodes c.loop-index.table) =
    still (nodes c.args.table.now) (nodes c.loop-index.table) c.part-part.result c.loop-index.invariant.grows.nodes (omega arith) in
    let holds = c.loop-index.invariant.holds in
    search (rules, arith)

pub rewritten_parts-loop-index-preserved : goal.rewritten_parts-loop-index-preserved
rewritten_parts-loop-index-preserved g t c =
    let same : parts c.loop-index.table.pools.lists c.args.shape ≡ parts c.args.table.now.pools.lists c.args.shape =
    parts-grows c.args.table.now c.loop-index.table c.args.shape c.loop-index.invariant.grows c.requires.fits in
    let part : slice_get (parts c.args.table.now.pools.lists c.args.shape) c.loop-index.index ≡ Some c.part-part.result =
    ap (λ ps. slice_get ps c.loop-index.index) (sym same) ∙ c.part-part.ensures in
    let stays = g.met.R.LeafRules.stays c.args.rules.now in
    let before = all-grows (nodes c.loop-index.table) (nodes c.rewritten.new.table) (g.R.LeafRules.rewriting c.args.rules.now c.loop-index.table) (g.R.LeafRules.rewriting c.args.rules.now c.rewritten.new.table) c.in_ok-below.below (take c.loop-index.index (parts c.args.table.now.pools.lists c.args.shape)) c.loop-index.answers.items c.rewritten.ensures.grows.nodes (stays.same c.loop-index.table c.rewritten.new.table c.rewritten.ensures.grows c.loop-index.invariant.holds.ready) c.loop-index.invariant.answers in
    record {
      grows = extends-trans c.args.table.now c.loop-index.table c.rewritten.new.table c.loop-index.invariant.grows c.rewritten.ensures.grows;
      holds = c.in_ok-answer.ensures.memo;
      answers = all-step (nodes c.rewritten.new.table) (g.R.LeafRules.rewriting c.args.rules.now c.rewritten.new.table) c.in_ok-below.below (parts c.args.table.now.pools.lists c.args.shape) c.loop-index.answers.items c.push.new.self.items c.loop-index.index c.part-part.result c.in_ok-answer.answer before c.in_ok-answer.ensures.node part c.in_ok-push.ensures.items;
    }

pub rewritten_parts-returns-in_err-answer-clause-grows :
    goal.rewritten_parts-returns-in_err-answer-clause-grows
rewritten_parts-returns-in_err-answer-clause-grows g t c =
    extends-trans c.args.table.now c.loop-index.table c.rewritten.new.table c.loop-index.invariant.grows c.rewritten.ensures.grows

pub rewritten_parts-returns-in_err-push-clause-grows :
    goal.rewritten_parts-returns-in_err-push-clause-grows
rewritten_parts-returns-in_err-push-clause-grows g t c =
    extends-trans c.args.table.now c.loop-index.table c.rewritten.new.table c.loop-index.invariant.grows c.rewritten.ensures.grows

pub rewritten_parts-with_parts-requires-clause-fits :
    goal.rewritten_parts-with_parts-requires-clause-fits
rewritten_parts-with_parts-requires-clause-fits g t c =
    fits-grows c.args.table.now c.loop-index.table c.args.shape c.loop-index.invariant.grows c.requires.fits

pub rewritten_parts-returns-in_err-made-clause-grows :
    goal.rewritten_parts-returns-in_err-made-clause-grows
rewritten_parts-returns-in_err-made-clause-grows g t c =
    extends-trans c.args.table.now c.loop-index.table c.with_parts.new.self c.loop-index.invariant.grows c.with_parts.ensures.grows

pub rewritten_parts-with_parts-requires-clause-counted :
    goal.rewritten_parts-with_parts-requires-clause-counted
rewritten_parts-with_parts-requires-clause-counted g t c =
    let same : parts c.loop-index.table.pools.lists c.args.shape ≡ parts c.args.table.now.pools.lists c.args.shape =
    parts-grows c.args.table.now c.loop-index.table c.args.shape c.loop-index.invariant.grows c.requires.fits in
    let all = all-whole (nodes c.loop-index.table) (g.R.LeafRules.rewriting c.args.rules.now c.loop-index.table) c.in_ok-below.below (parts c.args.table.now.pools.lists c.args.shape) c.loop-index.answers.items c.loop-index.index c.loop-index.invariant.answers (omega arith) in
    ap length c.as_slice.ensures.value ∙ all-length (nodes c.loop-index.table) (g.R.LeafRules.rewriting c.args.rules.now c.loop-index.table) c.in_ok-below.below (parts c.args.table.now.pools.lists c.args.shape) c.loop-index.answers.items all ∙ sym (ap length same)

pub rewritten_parts-make-requires : goal.rewritten_parts-make-requires
rewritten_parts-make-requires g t c =
    let alone = (λ i. ((g.met.R.LeafRules.stays c.args.rules.now).same c.args.table.now c.loop-index.table c.loop-index.invariant.grows c.requires.memo.ready i).whole_at (tree_in c.args.table.now c.args.shape) c.args.depth) ∙ c.requires.alone in
    (remade-grown c.args.table.now c.loop-index.table c.with_parts.new.self (g.R.LeafRules.rewriting c.args.rules.now c.loop-index.table) (g.R.LeafRules.rewriting c.args.rules.now c.with_parts.new.self) c.args.depth c.in_ok-below.below c.loop-index.index c.args.shape c.in_ok-made.made c.loop-index.answers.items c.as_slice.result.now c.loop-index.invariant.grows c.with_parts.ensures.grows ((g.met.R.LeafRules.stays c.args.rules.now).same c.loop-index.table c.with_parts.new.self c.with_parts.ensures.grows c.loop-index.invariant.holds.ready) c.requires.inner alone c.requires.fits c.in_ok-below.ensures c.loop-index.invariant.answers (omega arith) c.as_slice.ensures.value c.in_ok-made.ensures.put).fits

pub rewritten_parts-returns-clause-node : goal.rewritten_parts-returns-clause-node
rewritten_parts-returns-clause-node g t c =
    let alone = (λ i. ((g.met.R.LeafRules.stays c.args.rules.now).same c.args.table.now c.loop-index.table c.loop-index.invariant.grows c.requires.memo.ready i).whole_at (tree_in c.args.table.now c.args.shape) c.args.depth) ∙ c.requires.alone in
    let made : Remade c.with_parts.new.self.pools c.with_parts.new.self.pools (nodes c.with_parts.new.self) (g.R.LeafRules.rewriting c.args.rules.now c.with_parts.new.self) c.args.depth c.args.shape c.in_ok-made.made =
    remade-grown c.args.table.now c.loop-index.table c.with_parts.new.self (g.R.LeafRules.rewriting c.args.rules.now c.loop-index.table) (g.R.LeafRules.rewriting c.args.rules.now c.with_parts.new.self) c.args.depth c.in_ok-below.below c.loop-index.index c.args.shape c.in_ok-made.made c.loop-index.answers.items c.as_slice.result.now c.loop-index.invariant.grows c.with_parts.ensures.grows ((g.met.R.LeafRules.stays c.args.rules.now).same c.loop-index.table c.with_parts.new.self c.with_parts.ensures.grows c.loop-index.invariant.holds.ready) c.requires.inner alone c.requires.fits c.in_ok-below.ensures c.loop-index.invariant.answers (omega arith) c.as_slice.ensures.value c.in_ok-made.ensures.put in
    let stays = g.met.R.LeafRules.stays c.args.rules.now in
    let ready : g.R.LeafRules.ready c.args.rules.now c.with_parts.new.self = stays.ready c.loop-index.table c.with_parts.new.self c.with_parts.ensures.grows c.loop-index.invariant.holds.ready in
    if-ok
    (λ node. slice_get (nodes c.make.new.self) node ≡ Some (tree_in c.with_parts.new.self c.in_ok-made.made))
    (λ made. IsRewritten (g.R.LeafRules.rewriting c.args.rules.now c.make.new.self) (nodes c.make.new.self) c.args.node c.args.depth made)
    c.make.result
    (λ node at. made-rewritten c.args.table.now c.with_parts.new.self c.make.new.self (g.R.LeafRules.rewriting c.args.rules.now c.with_parts.new.self) (g.R.LeafRules.rewriting c.args.rules.now c.make.new.self) c.args.node c.args.depth node c.args.shape c.in_ok-made.made (extends-trans c.args.table.now c.loop-index.table c.with_parts.new.self c.loop-index.invariant.grows c.with_parts.ensures.grows) c.make.ensures.grows c.requires.fits c.requires.there made (stays.same c.with_parts.new.self c.make.new.self c.make.ensures.grows ready) at)
    c.make.ensures.node

pub rewritten_parts-returns-clause-memo : goal.rewritten_parts-returns-clause-memo
rewritten_parts-returns-clause-memo g t c =
    let grows : Extends c.loop-index.table c.make.new.self = extends-trans c.loop-index.table c.with_parts.new.self c.make.new.self c.with_parts.ensures.grows c.make.ensures.grows in
    on-ok
    c.make.result
    (holds-grows (g.R.LeafRules.ready c.args.rules.now) (g.R.LeafRules.rewriting c.args.rules.now) c.loop-index.table c.make.new.self (found c.loop-index.memo.answers) (g.met.R.LeafRules.stays c.args.rules.now) grows c.loop-index.invariant.holds)
