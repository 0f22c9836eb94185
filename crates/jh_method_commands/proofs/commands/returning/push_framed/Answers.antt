use Rattle.std.proofs.Common.{ℕ, List, map, sym, ap, subst, codes}
use Rattle.jh_form.specs.Tree as tree
use Rattle.jh_guard.specs.Frames.{frame_fact}
use Rattle.jh_guard.specs.Steps.{fresh}
use Rattle.jh_semantics.specs.Program.{Member}
use Rattle.jh_state_facts.specs.well_formedness.Facts.{AreFacts, AddsFacts}
use Rattle.jh_state_facts.proofs.well_formedness.FormedSteps.{added-to-none, facts-truths}
use Rattle.jh_state_facts.specs.changes.Added.{chosen}
use Rattle.jh_state_facts.proofs.changes.AddedSteps.{on-ok}
use Rattle.jh_method_commands.specs.commands.Made.{frame_formula}
use Rattle.jh_method_commands.proofs.commands.OutlinedSteps.{the-outline}
use Rattle.jh_method_commands.proofs.commands.MethodSteps.{framed-are}
use Rattle.jh_method_commands.proofs.commands.returning.push_framed.Goals as goal

pub push_all_frames-requires : goal.push_all_frames-requires
push_all_frames-requires c =
    let o = c.args.outline.now in
    let x = c.args.method.now in
    let t = c.push_frames.new.table in
    let fs = map (frame_fact (tree.free_set (fresh (codes "alloc") 1)) 1) (chosen o.classes.now o.members.now x.framed.now) in
    let are =
    subst (λ (xs : List ℕ). AreFacts t xs fs) (sym c.as_slice.ensures.value)
    (added-to-none t c.push_frames.new.facts.items fs (subst (λ (xs : List ℕ). AddsFacts t xs c.push_frames.new.facts.items fs) c.new-frames.ensures.items (c.in_ok-push_frames.ensures.facts o.classes.now))) in
    facts-truths t c.as_slice.result.now fs are

pub returns-clause-facts : goal.returns-clause-facts
returns-clause-facts c =
    let o = c.args.outline.now in
    let x = c.args.method.now in
    let t = c.push_frames.new.table in
    let fs = map (frame_fact (tree.free_set (fresh (codes "alloc") 1)) 1) (chosen o.classes.now o.members.now x.framed.now) in
    let are =
    subst (λ (xs : List ℕ). AreFacts t xs fs) (sym c.as_slice.ensures.value)
    (added-to-none t c.push_frames.new.facts.items fs (subst (λ (xs : List ℕ). AddsFacts t xs c.push_frames.new.facts.items fs) c.new-frames.ensures.items (c.in_ok-push_frames.ensures.facts o.classes.now))) in
    on-ok c.push_all_frames.result
    (λ h.
    subst (λ (ms : List Member). AddsFacts c.push_all_frames.new.table c.args.facts.now.items c.push_all_frames.new.facts.items (map (frame_formula x.code.now.place) (map (frame_fact (tree.free_set (fresh (codes "alloc") 1)) 1) ms)))
    (framed-are o c.args.table.now x (the-outline c.args.table.now o c.requires.outline) c.requires.method) (h fs are))
    c.push_all_frames.ensures.facts
