use Rattle.std.proofs.Common.{List, ℕ, ◌++◌, ◌∙◌, ap, map, sym, subst}
use Rattle.std.specs.List.{flat_map}
use Rattle.jh_arena.proofs.table.Listed.{extends-trans}
use Rattle.jh_semantics.specs.WellFormed.{local_facts, this_facts}
use Rattle.jh_state_facts.specs.well_formedness.Facts.{AreFacts}
use Rattle.jh_state_facts.specs.well_formedness.Formed.{head_facts, tail_facts}
use Rattle.jh_state_facts.specs.well_formedness.States.{members_in, local_of}
use Rattle.jh_state_facts.proofs.well_formedness.FormedSteps.{facts-along}
use Rattle.jh_state_facts.proofs.well_formedness.formed.all_facts.Goals as goal

pub returns-clause-facts : goal.returns-clause-facts
returns-clause-facts c =
    let t0 = c.args.table.now in
    let t1 = c.push_locals.new.table in
    let t2 = c.push_this.new.table in
    let m0 = c.extend_from_slice.new.self.items in
    let m2 = c.push_this.new.facts.items in
    let members = members_in c.args.classes.now c.args._members.now in
    let hs = head_facts c.args.classes.now members in
    let ts = tail_facts c.args.classes.now members in
    let begun = c.in_ok-extend_from_slice.ensures.items ∙ ap (λ xs. xs ++ c.items.result.now) c.new-made.ensures.items ∙ c.items.ensures in
    facts-along t0 t1 t2 m0 c.push_locals.new.facts.items m2 c.extend_from_slice-2.new.self.items c.args.facts.now.tail hs (flat_map (local_facts c.args.classes.now) (map local_of c.args.scope.now)) (this_facts c.args.classes.now c.args.this) ts
    (subst (λ (xs : List ℕ). AreFacts t0 xs hs) (sym begun) c.requires.head) c.requires.tail c.push_locals.ensures.grows c.in_ok-push_locals.ensures.facts c.push_this.ensures.grows c.in_ok-push_this.ensures.facts
    (extends-trans t0 t1 t2 c.push_locals.ensures.grows c.push_this.ensures.grows) (c.in_ok-extend_from_slice-2.ensures.items ∙ ap (λ xs. m2 ++ xs) c.items-2.ensures)
