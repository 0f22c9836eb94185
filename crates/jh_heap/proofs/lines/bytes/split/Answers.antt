use Rattle.std.proofs.Common.{sym, ap, arith, length}
use Rattle.std.proofs.lemmas.List.{length-map}
use Rattle.jh_heap.specs.lines.Bytes.{split}
use Rattle.jh_heap.specs.lines.Held.{cut_in}
use Rattle.jh_heap.proofs.lines.Cuts.{split_cut, split_whole, cut_shorter, part_more, part_last, split_few}
use Rattle.jh_heap.proofs.lines.bytes.split.Goals as goal

pub loop-found-smaller : goal.loop-found-smaller
loop-found-smaller c = cut_shorter c.args.byte c.loop-found.rest.now (cut_in c.in-Some.found) (sym c.in-Some.ensures)

pub loop-found-preserved : goal.loop-found-preserved
loop-found-preserved c =
    part_more c.loop-found.parts.items c.push.new.self.items c.in-Some.found.before c.args.byte c.loop-found.rest.now c.in-Some.found.behind.now (split c.args.byte c.args.bytes.now)
    c.in_ok-push.ensures.items (split_cut c.args.byte c.loop-found.rest.now (cut_in c.in-Some.found) (sym c.in-Some.ensures)) c.loop-found.invariant

pub returns-clause-parts : goal.returns-clause-parts
returns-clause-parts c =
    part_last c.loop-found.parts.items c.push-2.new.self.items c.loop-found.rest c.args.byte c.args.bytes.now
    c.in_ok-push-2.ensures.items (split_whole c.args.byte c.loop-found.rest.now (sym c.in_default.ensures)) c.loop-found.invariant

pub returns-clause-few : goal.returns-clause-few
returns-clause-few c =
    omega (arith, split_few c.args.byte c.args.bytes.now, ap length (returns-clause-parts c), length-map c.push-2.new.self.items (λ part. part.now))
