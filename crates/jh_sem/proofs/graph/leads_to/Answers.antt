use Rattle.std.proofs.Common.{rules, ◌≡◌, ◌<◌, ℕ, true, false, Some, sym, ap, ◌∙◌, subst, length, slice_get, arith, add-one}
use Rattle.std.proofs.lemmas.Bool.{true≢false}
use Rattle.jh_form.specs.Meaning.{edge, reaches}
use Rattle.jh_sem.specs.Graphs.{listed_fields, IsWalk}
use Rattle.jh_sem.proofs.Walks.{walk-none, reaches-start, marked-reached, not-reached, done-more, some-one}
use Rattle.jh_sem.proofs.graph.leads_to.Goals as goal

pub loop-turn-init : goal.loop-turn-init
loop-turn-init c =
    let fs = listed_fields c.args.fields.now in
    record {
      walk = c.in_ok-visit.ensures.walk c.args.last fs c.args.start (walk-none c.args.last fs c.args.start c.in_ok-marks.marks.items c.new-found.result.items (search (rules, add-one)) c.new-found.ensures.items) (reaches-start fs (length c.new-found.result.items) c.args.start);
      done = λ j x i lt h less. absurd (omega arith);
      begun = c.in_ok-visit.ensures.marked;
    }

pub returns-then-is_marked : goal.returns-then-is_marked
returns-then-is_marked c =
    let fs = listed_fields c.args.fields.now in
    sym (marked-reached c.args.last fs c.args.start c.loop-turn.marks.items c.loop-turn.found.items c.loop-turn.invariant.walk c.args.end (search rules))

pub returns-then-at-len : goal.returns-then-at-len
returns-then-at-len c =
    let fs = listed_fields c.args.fields.now in
    let known = c.loop-turn.invariant in
    not-reached c.args.last fs c.args.start c.loop-turn.marks.items c.loop-turn.found.items known.walk c.loop-turn.at c.args.end (search (rules, arith)) known.done known.begun (search rules)

pub visit_targets-requires-clause-at : goal.visit_targets-requires-clause-at
visit_targets-requires-clause-at c = c.loop-turn.invariant.walk.inside c.loop-turn.at c.object_at-object.result (search rules)

pub loop-turn-preserved : goal.loop-turn-preserved
loop-turn-preserved c =
    let fs = listed_fields c.args.fields.now in
    let known = c.loop-turn.invariant in
    let next = c.in_ok-visit_targets.ensures in
    let here : slice_get c.loop-turn.found.items c.loop-turn.at ≡ Some c.object_at-object.result = search rules in
    record {
      walk = next.walk c.args.start c.loop-turn.at here known.walk;
      done = done-more fs c.loop-turn.marks.items c.visit_targets.new.marks.items c.loop-turn.found.items c.visit_targets.new.found.items c.loop-turn.at c.object_at-object.result here next.found next.kept next.marked known.done;
      begun = next.kept c.args.start known.begun;
    }
