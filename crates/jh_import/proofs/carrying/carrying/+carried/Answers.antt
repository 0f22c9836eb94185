use Rattle.std.proofs.Common.{◌≡◌, sym, ap, subst, ◌∙◌, ℕ, List, arith, length, slice_get, Some, take}
use Rattle.std.proofs.lemmas.Result.{IfOk-weaker}
use Rattle.jh_arena.specs.table.Growth.{Extends}
use Rattle.jh_arena.specs.table.Nodes.{nodes, tree_in}
use Rattle.jh_arena.specs.table.Parts.{parts}
use Rattle.jh_arena.proofs.table.Listed.{extends-trans}
use Rattle.jh_import.specs.carrying.Carried.{IsCarried, AllCarried}
use Rattle.jh_import.specs.carrying.Memos.{found}
use Rattle.jh_import.proofs.carrying.Carries.{Placed, all-grow, all-step, all-whole, all-length, all-placed, carried-made, holds-grow, holds-note, on-ok}
use Rattle.jh_import.proofs.carrying.carrying.+carried.Goals as goal

pub carried-returns-in-Some-clause-node : goal.carried-returns-in-Some-clause-node
carried-returns-in-Some-clause-node t c = c.requires.memo.at c.args.node c.in-Some.answer (sym c.in-Some.ensures)

pub carried-returns-in_ok-note-in-None-clause-memo : goal.carried-returns-in_ok-note-in-None-clause-memo
carried-returns-in_ok-note-in-None-clause-memo t c =
    holds-note (nodes c.args.from.now) (nodes c.carried_parts.new.into) (found c.carried_parts.new.memo.answers) (found c.note.new.self.answers) c.args.node c.in_ok-answer-in-None.answer c.in_ok-answer-in-None.ensures.memo c.in_ok-answer-in-None.ensures.node c.in_ok-note-in-None.ensures.others

pub carried_parts-loop-index-preserved : goal.carried_parts-loop-index-preserved
carried_parts-loop-index-preserved t c =
    let ts = nodes c.args.from.now in
    let ps = parts c.args.from.now.pools.lists c.args.shape in
    let before = all-grow ts (nodes c.loop-index.into) (nodes c.carried.new.into) (take c.loop-index.index ps) c.loop-index.answers.items c.carried.ensures.grows.nodes c.loop-index.invariant.answers in
    record {
      grows = extends-trans c.args.into.now c.loop-index.into c.carried.new.into c.loop-index.invariant.grows c.carried.ensures.grows;
      holds = c.in_ok-answer.ensures.memo;
      answers = all-step ts (nodes c.carried.new.into) ps c.loop-index.answers.items c.push.new.self.items c.loop-index.index c.part-part.result c.in_ok-answer.answer before c.in_ok-answer.ensures.node c.part-part.ensures c.in_ok-push.ensures.items;
    }

pub carried_parts-placed-requires-clause-counted : goal.carried_parts-placed-requires-clause-counted
carried_parts-placed-requires-clause-counted t c =
    let ts = nodes c.args.from.now in
    let ps = parts c.args.from.now.pools.lists c.args.shape in
    let all = all-whole ts (nodes c.loop-index.into) ps c.loop-index.answers.items c.loop-index.index c.loop-index.invariant.answers (omega arith) in
    ap length c.as_slice.ensures.value ∙ all-length ts (nodes c.loop-index.into) ps c.loop-index.answers.items all

pub carried_parts-make-requires : goal.carried_parts-make-requires
carried_parts-make-requires t c =
    let ts = nodes c.args.from.now in
    let us = nodes c.placed.new.into in
    let ps = parts c.args.from.now.pools.lists c.args.shape in
    let whole = all-whole ts (nodes c.loop-index.into) ps c.loop-index.answers.items c.loop-index.index c.loop-index.invariant.answers (omega arith) in
    let later = all-grow ts (nodes c.loop-index.into) us ps c.loop-index.answers.items c.placed.ensures.grows.nodes whole in
    let all : AllCarried ts us ps c.as_slice.result.now = subst (λ (rs : List ℕ). AllCarried ts us ps rs) (sym c.as_slice.ensures.value) later in
    (all-placed c.args.from.now.pools c.placed.new.into.pools ts us c.args.shape c.in_ok-made.made c.as_slice.result.now c.requires.fits all c.in_ok-made.ensures.placed).fits

pub carried_parts-returns-clause-node : goal.carried_parts-returns-clause-node
carried_parts-returns-clause-node t c =
    let ts = nodes c.args.from.now in
    let us = nodes c.placed.new.into in
    let ps = parts c.args.from.now.pools.lists c.args.shape in
    let whole = all-whole ts (nodes c.loop-index.into) ps c.loop-index.answers.items c.loop-index.index c.loop-index.invariant.answers (omega arith) in
    let later = all-grow ts (nodes c.loop-index.into) us ps c.loop-index.answers.items c.placed.ensures.grows.nodes whole in
    let all : AllCarried ts us ps c.as_slice.result.now = subst (λ (rs : List ℕ). AllCarried ts us ps rs) (sym c.as_slice.ensures.value) later in
    let made : Placed c.args.from.now.pools c.placed.new.into.pools ts us c.args.shape c.in_ok-made.made =
    all-placed c.args.from.now.pools c.placed.new.into.pools ts us c.args.shape c.in_ok-made.made c.as_slice.result.now c.requires.fits all c.in_ok-made.ensures.placed in
    IfOk-weaker
    c.make.result
    (λ node. slice_get (nodes c.make.new.self) node ≡ Some (tree_in c.placed.new.into c.in_ok-made.made))
    (λ node. IsCarried ts (nodes c.make.new.self) c.args.node node)
    (λ node at. carried-made c.args.from.now c.placed.new.into (nodes c.make.new.self) c.args.node node c.args.shape c.in_ok-made.made c.requires.there made.is at)
    c.make.ensures.node

pub carried_parts-returns-clause-memo : goal.carried_parts-returns-clause-memo
carried_parts-returns-clause-memo t c =
    let grows : Extends c.loop-index.into c.make.new.self = extends-trans c.loop-index.into c.placed.new.into c.make.new.self c.placed.ensures.grows c.make.ensures.grows in
    on-ok c.make.result (holds-grow (nodes c.args.from.now) (nodes c.loop-index.into) (nodes c.make.new.self) (found c.loop-index.memo.answers) grows.nodes c.loop-index.invariant.holds)
