use Rattle.std.proofs.Common.{ℕ, List, map, sym, subst}
use Rattle.jh_form.specs.Tree.{SetTree, free_set}
use Rattle.jh_guard.specs.Frames.{frame_fact}
use Rattle.jh_guard.specs.Calls.{old_alloc}
use Rattle.jh_state_facts.specs.schemas.Meant.{name_in}
use Rattle.jh_state_facts.specs.well_formedness.Facts.{AreFacts, AddsFacts}
use Rattle.jh_state_facts.specs.changes.Added.{chosen}
use Rattle.jh_state_facts.proofs.changes.AddedSteps.{on-ok}
use Rattle.jh_call_commands.proofs.calls.AfterSteps.{facts-of-none}
use Rattle.jh_call_commands.proofs.calls.after.push_framed.Goals as goal

pub returns-clause-commands : goal.returns-clause-commands
returns-clause-commands c =
    let t = c.push_frames.new.table in
    let ms = c.push_frames.new.facts.items in
    on-ok c.assume_facts.result
    (λ told classes test texts.
    let xs = chosen classes c.args.around.now.members.now c.args.called.now.framed.now in
    let facts = λ (a : SetTree). map (frame_fact a c.args.turn) xs in
    let made = subst (λ (ns : List ℕ). AddsFacts t ns ms (facts (free_set (name_in c.old_alloc-old.result)))) c.new-facts.ensures.items (c.in_ok-push_frames.ensures.facts classes) in
    let are = subst (λ (a : SetTree). AreFacts t ms (facts a)) (c.old_alloc-old.ensures test texts) (facts-of-none t ms (facts (free_set (name_in c.old_alloc-old.result))) made) in
    told (facts (old_alloc test c.args.turn)) (subst (λ (ns : List ℕ). AreFacts t ns (facts (old_alloc test c.args.turn))) (sym c.as_slice.ensures.value) are))
    c.assume_facts.ensures
