use Rattle.std.proofs.Common.{◌≡◌, subst, arith, ℕ, [], ◌++◌, map}
use Rattle.jh_arena.specs.table.Nodes.{nodes}
use Rattle.jh_arena.proofs.table.Listed.{grows-refl}
use Rattle.jh_inst.specs.instances.Entries.{part_of, conjuncts}
use Rattle.jh_inst.specs.instances.Witnesses.{witnesses, witnessed, constants_from}
use Rattle.jh_instantiation.proofs.skolem_constants.Shapes.{truth-inside, formula-at, formula-there}
use Rattle.jh_instantiation.specs.instances.Standing.{IsMade}
use Rattle.jh_instantiation.proofs.instances.Growing.{entries-grow}
use Rattle.jh_instantiation.proofs.instances.beginning.take_fact.Goals as goal

pub size-requires : goal.size-requires
size-requires c = truth-inside (nodes c.args.table.now) c.args.node c.requires.there

pub is_shallow-requires : goal.is_shallow-requires
is_shallow-requires c =
    let there = c.in_ok-there.ensures.node _ (formula-at (nodes c.args.table.now) c.args.node c.requires.there) in
    truth-inside (nodes c.witnessed.new.table) c.in_ok-there.there.node (formula-there (nodes c.witnessed.new.table) c.in_ok-there.there.node _ there)

pub between-requires : goal.between-requires
between-requires c = let next = c.in_ok-there.ensures.next _ (formula-at (nodes c.args.table.now) c.args.node c.requires.there) in omega (arith, next)

pub add_conjuncts-requires : goal.add_conjuncts-requires
add_conjuncts-requires c =
    let there = c.in_ok-there.ensures.node _ (formula-at (nodes c.args.table.now) c.args.node c.requires.there) in
    record { there = formula-there (nodes c.witnessed.new.table) c.in_ok-there.there.node _ there }

pub returns-clause-made : goal.returns-clause-made
returns-clause-made c = λ es a hm hf.
    let t = c.args.table.now in
    let u = c.witnessed.new.table in
    let pool = c.args.entries.now.terms.items in
    let made = entries-grow t u c.witnessed.ensures.grows pool pool (grows-refl pool) c.args.entries.now.items.items es hm in
    let next = c.in_ok-there.ensures.next a hf in
    let fresh : c.between.result ≡ witnesses a = omega (arith, next, c.between.ensures) in
    subst (λ (n : ℕ). IsMade c.add_conjuncts.new.table c.add_conjuncts.new.entries (es ++ map (part_of c.args.number (constants_from c.args.first n)) (conjuncts (witnessed a [] c.args.first)))) fresh
    (c.in_ok-add_conjuncts.ensures.made es (witnessed a [] c.args.first) made (c.in_ok-there.ensures.node a hf))
