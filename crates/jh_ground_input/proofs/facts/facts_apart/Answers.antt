use Rattle.std.proofs.Common.{sym, subst, ℕ, List, [], ◌++◌, map}
use Rattle.jh_arena.specs.table.Nodes.{nodes}
use Rattle.jh_ground_input.specs.Standing.{AreThere, IsApart, bare_at}
use Rattle.jh_ground_input.proofs.More.{truth-there}
use Rattle.jh_ground_input.proofs.Sequents.{all-there, posed}
use Rattle.jh_ground_input.proofs.facts.facts_apart.Goals as goal

pub add_facts-requires : goal.add_facts-requires
add_facts-requires c = record { there = subst (λ (ns : List ℕ). AreThere (nodes c.args.from.now) ns) (sym c.items.ensures) (all-there c.args.from.now c.args.form.now.facts _ c.requires.form.1.facts) }

pub add_fact-requires : goal.add_fact-requires
add_fact-requires c = record { there = truth-there _ _ c.requires.form.1.goal }

pub returns : goal.returns
returns c = λ s formed.
    posed c.args.from.now c.args.form.now s _ formed
    (c.in_ok-add_fact.ensures _ (subst (λ (ns : List ℕ). IsApart c.add_facts.new.apart ([] ++ map (bare_at (nodes c.args.from.now)) ns)) c.items.ensures (c.in_ok-add_facts.ensures [] c.in_ok-apart.ensures)))
