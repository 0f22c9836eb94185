use Rattle.std.proofs.Common.{◌≡◌, refl, rules, [], ◌+◌, sym, ap, subst, ◌∙◌, slice_get, length, List, Bool, suc, arith}
use Rattle.jh_form.specs.Meaning.{set_value}
use Rattle.jh_arena.specs.table.Entries.{the_set}
use Rattle.jh_arena.specs.table.Nodes.{nodes}
use Rattle.jh_store.specs.state_pairs.Seen.{seen}
use Rattle.jh_form.specs.Tree.{of_set}
use Rattle.jh_sem.specs.Wide.{IsWide}
use Rattle.jh_machine.specs.declared.continuation.stop.Stop.TheVariants as s
use Rattle.jh_machine.specs.continuation.Formulas.{OverflowsOnly}
use Rattle.std.specs.declared.alloc.Global.{Global}
use Rattle.std.specs.declared.vec.Vec.{Vec}
use Rattle.jh_machine.specs.ghosts.Nodes.{AreMembers, Lists}
use Rattle.jh_machine.proofs.ghosts.NodeSteps.{memory_only}
use Rattle.jh_machine.proofs.ghosts.Members.{one_listed, one_longer, all_listed}
use Rattle.jh_machine.proofs.ghosts.ghosts.node_set.Goals as goal
use Rattle.jh_machine.proofs.ghosts.ghosts.node_set.Goals.{else-loop-object-test, then-loop-object-test+in_ok-has+in_ok-push+else-object-object-end}

pub loop-object-init : goal.loop-object-init
unfolding Lists
loop-object-init c =
    let test = set_value (the_set (slice_get (nodes c.args.moment.now.table.now) c.args.node)) (seen c.args.moment.now) [] in
    record {
      sized = ap (λ (bs : List Bool). length bs) c.new-members.ensures.items;
      lists = subst (λ (bs : List Bool). Lists bs test) (sym c.new-members.ensures.items) tt;
    }

pub returns-in_err-push-clause-stop : goal.returns-in_err-push-clause-stop
returns-in_err-push-clause-stop c =
    let wide = IsWide (seen c.args.moment.now) (of_set (the_set (slice_get (nodes c.args.moment.now.table.now) c.args.node))) in
    let whole : OverflowsOnly c.args.place wide s.Memory = memory_only c.args.place wide s.Memory refl in
    search rules

pub loop-object-preserved : goal.loop-object-preserved
loop-object-preserved c =
    let known = c.loop-object.invariant in
    let test = set_value (the_set (slice_get (nodes c.args.moment.now.table.now) c.args.node)) (seen c.args.moment.now) [] in
    let row = c.loop-object.members.items in
    let b = c.in_ok-has.has in
    record {
      sized = ap (λ (bs : List Bool). length bs) c.in_ok-push.ensures.items ∙ one_longer row b ∙ ap (λ n. n + 1) known.sized;
      lists = subst (λ (bs : List Bool). Lists bs test) (sym c.in_ok-push.ensures.items) (one_listed row test b known.lists (c.in_ok-has.ensures.value ∙ ap test (sym known.sized)));
    }

pub returns-clause-value : goal.returns-clause-value
returns-clause-value c =
    let test = set_value (the_set (slice_get (nodes c.args.moment.now.table.now) c.args.node)) (seen c.args.moment.now) [] in
    let last = c.args.moment.now.current.now.last in
    let known = c.loop-object.invariant in
    let row = c.loop-object.members.items in
    elim c.loop-object-test.branch [
      | else-loop-object-test w ↦ absurd (omega (arith, w.loop-object-test.false, c.loop-object.auto.object-end))
      | then-loop-object-test+in_ok-has+in_ok-push+else-object-object-end w ↦
          let b = w.in_ok-has.has in
          let all : length row + 1 ≡ suc last = omega (arith, known.sized, c.last-object-end.ensures, w.loop-object-test.true) in
          let lists = subst (λ (bs : List Bool). Lists bs test) (sym w.in_ok-push.ensures.items) (one_listed row test b known.lists (w.in_ok-has.ensures.value ∙ ap test (sym known.sized))) in
          subst (λ (v : Vec Bool Global). AreMembers last v.items test) (sym w.members-is)
          (all_listed last w.push.new.self.items test (ap (λ (bs : List Bool). length bs) w.in_ok-push.ensures.items ∙ one_longer row b ∙ all) lists)
    ]
