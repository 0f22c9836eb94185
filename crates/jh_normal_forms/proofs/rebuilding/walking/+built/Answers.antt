use Rattle.std.proofs.Common.{◌≡◌, sym, ap, subst, ◌∙◌, ◌<◌, rules, arith, length, slice_get, Some, take}
use Rattle.std.proofs.lemmas.Option.{slice_get_within}
use Rattle.jh_arena.specs.table.Growth.{Extends}
use Rattle.jh_arena.specs.table.Nodes.{nodes, tree_in}
use Rattle.jh_arena.specs.table.Parts.{parts}
use Rattle.jh_arena.proofs.table.Listed.{fits-grows, parts-grows, extends-trans}
use Rattle.jh_substitution.proofs.rewriting.Makings.{still, if-ok}
use Rattle.jh_normal_forms.specs.declared.rebuilding.polarity.Polarity.{Polarity}
use Rattle.jh_normal_forms.specs.rebuilding.Walking.{IsBuilt, sign, applied}
use Rattle.jh_normal_forms.proofs.rebuilding.Rebuilds.{Rebuilt}
use Rattle.jh_normal_forms.proofs.rebuilding.Growths.{all-grows, all-step, all-whole, all-length, rebuilt-grown, made-built}
use Rattle.jh_substitution.proofs.rewriting.Rewritings.{on-ok}
use Rattle.jh_normal_forms.specs.rebuilding.Memos.{found}
use Rattle.jh_normal_forms.proofs.rebuilding.Notes.{holds-grows, holds-notes}
use Rattle.jh_normal_forms.proofs.rebuilding.walking.+built.Goals as goal

pub built_parts-part-part-requires-clause-fits : goal.built_parts-part-part-requires-clause-fits
built_parts-part-part-requires-clause-fits g t c =
    fits-grows c.args.table.now c.loop-index.table c.args.shape c.loop-index.invariant.grows c.requires.fits

pub built_parts-part-part-requires-clause-within : goal.built_parts-part-part-requires-clause-within
built_parts-part-part-requires-clause-within g t c =
    let same : length (parts c.loop-index.table.pools.lists c.args.shape) ≡ length (parts c.args.table.now.pools.lists c.args.shape) =
    ap length (parts-grows c.args.table.now c.loop-index.table c.args.shape c.loop-index.invariant.grows c.requires.fits) in
    omega arith

pub built_parts-built-requires : goal.built_parts-built-requires
built_parts-built-requires g t c κs within =
    let same : parts c.loop-index.table.pools.lists c.args.shape ≡ parts c.args.table.now.pools.lists c.args.shape =
    parts-grows c.args.table.now c.loop-index.table c.args.shape c.loop-index.invariant.grows c.requires.fits in
    let part : slice_get (parts c.args.table.now.pools.lists c.args.shape) c.loop-index.index ≡ Some c.part-part.result =
    ap (λ ps. slice_get ps c.loop-index.index) (sym same) ∙ c.part-part.ensures in
    let smaller : c.part-part.result < c.args.node = c.requires.below.below c.loop-index.index c.part-part.result part in
    let here : c.args.node < length (nodes c.args.table.now) = slice_get_within (nodes c.args.table.now) c.args.node (tree_in c.args.table.now c.args.shape) c.requires.there in
    let inside : c.part-part.result < length (nodes c.loop-index.table) =
    still (nodes c.args.table.now) (nodes c.loop-index.table) c.part-part.result c.loop-index.invariant.grows.nodes (omega arith) in
    let holds = c.loop-index.invariant.holds in
    search (rules, arith)

pub built_parts-loop-index-preserved : goal.built_parts-loop-index-preserved
built_parts-loop-index-preserved g t c =
    let same : parts c.loop-index.table.pools.lists c.args.shape ≡ parts c.args.table.now.pools.lists c.args.shape =
    parts-grows c.args.table.now c.loop-index.table c.args.shape c.loop-index.invariant.grows c.requires.fits in
    let part : slice_get (parts c.args.table.now.pools.lists c.args.shape) c.loop-index.index ≡ Some c.part-part.result =
    ap (λ ps. slice_get ps c.loop-index.index) (sym same) ∙ c.part-part.ensures in
    let r = g.B.BuildRules.rule c.args.rules.now in
    let sg = sign c.args.shape c.args.polarity in
    let before = all-grows r sg (nodes c.loop-index.table) (nodes c.built.new.table) 0 (take c.loop-index.index (parts c.args.table.now.pools.lists c.args.shape)) c.loop-index.answers.items c.built.ensures.grows.nodes c.loop-index.invariant.answers in
    let answer : IsBuilt r (nodes c.built.new.table) c.part-part.result (sg c.loop-index.index) c.in_ok-answer.answer = subst (λ (q : Polarity). IsBuilt r (nodes c.built.new.table) c.part-part.result q c.in_ok-answer.answer) c.sign-stands.ensures c.in_ok-answer.ensures.node in
    record {
      grows = extends-trans c.args.table.now c.loop-index.table c.built.new.table c.loop-index.invariant.grows c.built.ensures.grows;
      holds = c.in_ok-answer.ensures.memo;
      answers = all-step r sg (nodes c.built.new.table) (parts c.args.table.now.pools.lists c.args.shape) c.loop-index.answers.items c.push.new.self.items c.loop-index.index c.part-part.result c.in_ok-answer.answer before answer part c.in_ok-push.ensures.items;
    }

pub built_parts-with_parts-requires-clause-fits : goal.built_parts-with_parts-requires-clause-fits
built_parts-with_parts-requires-clause-fits g t c =
    fits-grows c.args.table.now c.loop-index.table c.args.shape c.loop-index.invariant.grows c.requires.fits

pub built_parts-with_parts-requires-clause-counted : goal.built_parts-with_parts-requires-clause-counted
built_parts-with_parts-requires-clause-counted g t c =
    let r = g.B.BuildRules.rule c.args.rules.now in
    let sg = sign c.args.shape c.args.polarity in
    let same : parts c.loop-index.table.pools.lists c.args.shape ≡ parts c.args.table.now.pools.lists c.args.shape =
    parts-grows c.args.table.now c.loop-index.table c.args.shape c.loop-index.invariant.grows c.requires.fits in
    let all = all-whole r sg (nodes c.loop-index.table) (parts c.args.table.now.pools.lists c.args.shape) c.loop-index.answers.items c.loop-index.index c.loop-index.invariant.answers (omega arith) in
    ap length c.as_slice.ensures.value ∙ all-length r sg (nodes c.loop-index.table) 0 (parts c.args.table.now.pools.lists c.args.shape) c.loop-index.answers.items all ∙ sym (ap length same)

pub built_parts-made-requires : goal.built_parts-made-requires
built_parts-made-requires g t c = record {
  fits = (rebuilt-grown c.args.table.now c.loop-index.table c.with_parts.new.self (g.B.BuildRules.rule c.args.rules.now) c.args.polarity c.loop-index.index c.args.shape c.in_ok-made.made c.loop-index.answers.items c.as_slice.result.now c.loop-index.invariant.grows c.with_parts.ensures.grows c.requires.fits c.loop-index.invariant.answers (omega arith) c.as_slice.ensures.value c.in_ok-made.ensures.put).fits;
}

pub built_parts-returns-clause-node : goal.built_parts-returns-clause-node
built_parts-returns-clause-node g t c =
    let r = g.B.BuildRules.rule c.args.rules.now in
    let made : Rebuilt c.with_parts.new.self.pools (nodes c.with_parts.new.self) r c.args.polarity c.args.shape c.in_ok-made.made =
    rebuilt-grown c.args.table.now c.loop-index.table c.with_parts.new.self r c.args.polarity c.loop-index.index c.args.shape c.in_ok-made.made c.loop-index.answers.items c.as_slice.result.now c.loop-index.invariant.grows c.with_parts.ensures.grows c.requires.fits c.loop-index.invariant.answers (omega arith) c.as_slice.ensures.value c.in_ok-made.ensures.put in
    if-ok
    (λ node. slice_get (nodes c.made.new.table) node ≡ Some (applied (tree_in c.with_parts.new.self c.in_ok-made.made) r c.args.polarity))
    (λ node. IsBuilt r (nodes c.made.new.table) c.args.node c.args.polarity node)
    c.made.result
    (λ node at. made-built c.args.table.now c.with_parts.new.self c.made.new.table r c.args.node c.args.polarity node c.args.shape c.in_ok-made.made (extends-trans c.args.table.now c.loop-index.table c.with_parts.new.self c.loop-index.invariant.grows c.with_parts.ensures.grows) c.made.ensures.grows c.requires.fits c.requires.there made at)
    c.made.ensures.node

pub built_parts-returns-clause-memo : goal.built_parts-returns-clause-memo
built_parts-returns-clause-memo g t c =
    let grows : Extends c.loop-index.table c.made.new.table = extends-trans c.loop-index.table c.with_parts.new.self c.made.new.table c.with_parts.ensures.grows c.made.ensures.grows in
    on-ok c.made.result (holds-grows (g.B.BuildRules.rule c.args.rules.now) (nodes c.loop-index.table) (nodes c.made.new.table) (found c.loop-index.memo.answers) grows.nodes c.loop-index.invariant.holds)

pub built-returns-in-Some-clause-node : goal.built-returns-in-Some-clause-node
built-returns-in-Some-clause-node g t c =
    c.requires.memo.at (record { node = c.args.node; polarity = c.args.polarity }) c.in-Some.answer (sym c.in-Some.ensures)

pub built-returns-in_ok-note-in-None-clause-memo : goal.built-returns-in_ok-note-in-None-clause-memo
built-returns-in_ok-note-in-None-clause-memo g t c =
    holds-notes (g.B.BuildRules.rule c.args.rules.now) (nodes c.built_parts.new.table) (found c.built_parts.new.memo.answers) (found c.note.new.self.answers) (record { node = c.args.node; polarity = c.args.polarity }) c.in_ok-answer-in-None.answer c.in_ok-answer-in-None.ensures.memo c.in_ok-answer-in-None.ensures.node c.in_ok-note-in-None.ensures.others
