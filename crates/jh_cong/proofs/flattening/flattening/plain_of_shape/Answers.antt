use Rattle.std.proofs.Common.{◌≡◌, refl, sym, ap, subst, ◌∙◌, ℕ, List, slice_get, Some, inl, inr, SFits, arith, rules}
use Rattle.std.specs.Int.{w64}
use Rattle.std.proofs.lemmas.Int.{to_z-of_z}
use Rattle.jh_closure.specs.declared.congruence_closure.node.Node.TheVariants as n
use Rattle.jh_arena.specs.table.Parts.{list_parts}
use Rattle.jh_cong.specs.flattening.Plain.{IsChain, IsFactor, flat, sort_at, update_operation}
use Rattle.jh_cong.specs.declared.flattening.flat.Flat.TheVariants as f
use Rattle.jh_cong.proofs.flattening.Arms.{as-plain, fields-below, part-below}
use Rattle.jh_cong.proofs.flattening.Gathering.{adds-none, adds-then, chain-grows}
use Rattle.jh_cong.proofs.flattening.flattening.plain_of_shape.Goals as goal

pub returns-in_ok-own-in-Leaf-clause-plain : goal.returns-in_ok-own-in-Leaf-clause-plain
returns-in_ok-own-in-Leaf-clause-plain c =
    as-plain c.args.count c.args.made.now c.add_number.new.helpers.items (sort_at c.args.table.now) (list_parts c.args.table.now.pools.lists c.args.shape) c.args.number f.Leaf (flat c.args.shape) (n.Apply 39 c.in_ok-own-in-Leaf.own c.in_ok-own-in-Leaf.own)
    (sym c.in-Leaf.is ∙ c.flat_of.ensures) (c.in_ok-own-in-Leaf.own, c.in_ok-own-in-Leaf.ensures.here, refl)

pub returns-in-Unary-clause-plain : goal.returns-in-Unary-clause-plain
returns-in-Unary-clause-plain c =
    as-plain c.args.count c.args.made.now c.args.helpers.now.items (sort_at c.args.table.now) (list_parts c.args.table.now.pools.lists c.args.shape) c.args.number (f.Unary c.in-Unary.operation c.in-Unary.part) (flat c.args.shape) (n.Apply c.in-Unary.operation c.in-Unary.part c.in-Unary.part)
    (sym c.in-Unary.is ∙ c.flat_of.ensures) refl

pub returns-in-Unary-clause-adds : goal.returns-in-Unary-clause-adds
returns-in-Unary-clause-adds c = adds-none c.args.count c.args.helpers.now.items

pub returns-in-Binary-clause-plain : goal.returns-in-Binary-clause-plain
returns-in-Binary-clause-plain c =
    as-plain c.args.count c.args.made.now c.args.helpers.now.items (sort_at c.args.table.now) (list_parts c.args.table.now.pools.lists c.args.shape) c.args.number (f.Binary c.in-Binary.operation c.in-Binary.left c.in-Binary.right) (flat c.args.shape) (n.Apply c.in-Binary.operation c.in-Binary.left c.in-Binary.right)
    (sym c.in-Binary.is ∙ c.flat_of.ensures) refl

pub returns-in-Binary-clause-adds : goal.returns-in-Binary-clause-adds
returns-in-Binary-clause-adds c = adds-none c.args.count c.args.helpers.now.items

pub returns-in_ok-given-in-Scaled-clause-plain : goal.returns-in_ok-given-in-Scaled-clause-plain
returns-in_ok-given-in-Scaled-clause-plain c =
    let fits : SFits w64 c.in-Scaled.factor = search rules in
    as-plain c.args.count c.args.made.now c.add_factor.new.helpers.items (sort_at c.args.table.now) (list_parts c.args.table.now.pools.lists c.args.shape) c.args.number (f.Scaled c.in-Scaled.operation c.in-Scaled.factor c.in-Scaled.part) (flat c.args.shape) (n.Apply c.in-Scaled.operation c.in_ok-given-in-Scaled.given c.in-Scaled.part)
    (sym c.in-Scaled.is ∙ c.flat_of.ensures) (c.in_ok-given-in-Scaled.given, subst (λ z. IsFactor c.args.count c.add_factor.new.helpers.items z c.in_ok-given-in-Scaled.given) (to_z-of_z w64 c.in-Scaled.factor fits) c.in_ok-given-in-Scaled.ensures.here, refl)

pub sort-requires : goal.sort-requires
sort-requires c = let b = part-below c.args.table.now.pools.lists c.args.shape c.args.number c.requires.below (f.Updated c.in-Updated.field c.in-Updated.at c.in-Updated.value) (sym c.in-Updated.is ∙ c.flat_of.ensures) c.in-Updated.value (inr (inr (inl refl))) in let l = c.requires.number in let e = c.requires.count in omega (arith, b, l, e)

pub add_pair-requires-clause-left : goal.add_pair-requires-clause-left
add_pair-requires-clause-left c = let b = part-below c.args.table.now.pools.lists c.args.shape c.args.number c.requires.below (f.Updated c.in-Updated.field c.in-Updated.at c.in-Updated.value) (sym c.in-Updated.is ∙ c.flat_of.ensures) c.in-Updated.at (inr (inl refl)) in let l = c.requires.number in omega (arith, b, l)

pub add_pair-requires-clause-right : goal.add_pair-requires-clause-right
add_pair-requires-clause-right c = let b = part-below c.args.table.now.pools.lists c.args.shape c.args.number c.requires.below (f.Updated c.in-Updated.field c.in-Updated.at c.in-Updated.value) (sym c.in-Updated.is ∙ c.flat_of.ensures) c.in-Updated.value (inr (inr (inl refl))) in let l = c.requires.number in omega (arith, b, l)

pub returns-in_ok-stored-in-Updated-clause-plain : goal.returns-in_ok-stored-in-Updated-clause-plain
returns-in_ok-stored-in-Updated-clause-plain c =
    let op = c.update_of-operation.ensures ∙ ap update_operation c.sort.ensures in
    as-plain c.args.count c.args.made.now c.add_pair.new.helpers.items (sort_at c.args.table.now) (list_parts c.args.table.now.pools.lists c.args.shape) c.args.number (f.Updated c.in-Updated.field c.in-Updated.at c.in-Updated.value) (flat c.args.shape) (n.Apply c.update_of-operation.result c.in-Updated.field c.in_ok-stored-in-Updated.stored)
    (sym c.in-Updated.is ∙ c.flat_of.ensures) (c.in_ok-stored-in-Updated.stored, c.in_ok-stored-in-Updated.ensures.here, (λ i. n.Apply (op i) c.in-Updated.field c.in_ok-stored-in-Updated.stored))

pub add_chain-requires : goal.add_chain-requires
add_chain-requires c i k e =
    let b = fields-below c.args.table.now.pools.lists c.args.shape c.args.number c.requires.below i k (subst (λ (xs : List ℕ). slice_get xs i ≡ Some k) c.fields_of.ensures e) in let l = c.requires.number in omega (arith, b, l)

pub add_chain-requires-in-Listed : goal.add_chain-requires-in-Listed
add_chain-requires-in-Listed c i k e =
    let b = fields-below c.args.table.now.pools.lists c.args.shape c.args.number c.requires.below i k (subst (λ (xs : List ℕ). slice_get xs i ≡ Some k) c.fields_of-in-Listed.ensures e) in let l = c.requires.number in omega (arith, b, l)

pub add_pair-requires-in-Reaches-clause-left : goal.add_pair-requires-in-Reaches-clause-left
add_pair-requires-in-Reaches-clause-left c = let b = part-below c.args.table.now.pools.lists c.args.shape c.args.number c.requires.below (f.Reaches c.in-Reaches.from c.in-Reaches.to) (sym c.in-Reaches.is ∙ c.flat_of.ensures) c.in-Reaches.from (inl refl) in let l = c.requires.number in omega (arith, b, l)

pub add_pair-requires-in-Reaches-clause-right : goal.add_pair-requires-in-Reaches-clause-right
add_pair-requires-in-Reaches-clause-right c = let b = part-below c.args.table.now.pools.lists c.args.shape c.args.number c.requires.below (f.Reaches c.in-Reaches.from c.in-Reaches.to) (sym c.in-Reaches.is ∙ c.flat_of.ensures) c.in-Reaches.to (inr (inl refl)) in let l = c.requires.number in omega (arith, b, l)

pub returns-in_ok-ends-in-Reaches-clause-plain : goal.returns-in_ok-ends-in-Reaches-clause-plain
returns-in_ok-ends-in-Reaches-clause-plain c =
    let one = c.add_chain.new.helpers.items in
    let two = c.add_pair-in-Reaches.new.helpers.items in
    as-plain c.args.count c.args.made.now two (sort_at c.args.table.now) (list_parts c.args.table.now.pools.lists c.args.shape) c.args.number (f.Reaches c.in-Reaches.from c.in-Reaches.to) (flat c.args.shape) (n.Apply 35 c.in_ok-chain-in-Reaches.chain c.in_ok-ends-in-Reaches.ends)
    (sym c.in-Reaches.is ∙ c.flat_of.ensures)
    (c.in_ok-chain-in-Reaches.chain, c.in_ok-ends-in-Reaches.ends, chain-grows c.args.count one two c.in_ok-ends-in-Reaches.ensures.adds (list_parts c.args.table.now.pools.lists c.args.shape) c.in_ok-chain-in-Reaches.chain (subst (λ (xs : List ℕ). IsChain c.args.count one xs c.in_ok-chain-in-Reaches.chain) c.fields_of.ensures c.in_ok-chain-in-Reaches.ensures.here), c.in_ok-ends-in-Reaches.ensures.here, refl)

pub returns-in_ok-ends-in-Reaches-clause-adds : goal.returns-in_ok-ends-in-Reaches-clause-adds
returns-in_ok-ends-in-Reaches-clause-adds c = adds-then c.args.count c.args.helpers.now.items c.add_chain.new.helpers.items c.add_pair-in-Reaches.new.helpers.items c.in_ok-chain-in-Reaches.ensures.adds c.in_ok-ends-in-Reaches.ensures.adds

pub returns-in_ok-fields-in-Listed-clause-plain : goal.returns-in_ok-fields-in-Listed-clause-plain
returns-in_ok-fields-in-Listed-clause-plain c =
    as-plain c.args.count c.args.made.now c.add_chain-in-Listed.new.helpers.items (sort_at c.args.table.now) (list_parts c.args.table.now.pools.lists c.args.shape) c.args.number f.Listed (flat c.args.shape) (n.Apply 36 c.in_ok-fields-in-Listed.fields c.in_ok-fields-in-Listed.fields)
    (sym c.in-Listed.is ∙ c.flat_of.ensures)
    (c.in_ok-fields-in-Listed.fields, subst (λ (xs : List ℕ). IsChain c.args.count c.add_chain-in-Listed.new.helpers.items xs c.in_ok-fields-in-Listed.fields) c.fields_of-in-Listed.ensures c.in_ok-fields-in-Listed.ensures.here, refl)

pub made_at-requires : goal.made_at-requires
made_at-requires c =
    let b = part-below c.args.table.now.pools.lists c.args.shape c.args.number c.requires.below (f.Same c.in-Same.part) (sym c.in-Same.is ∙ c.flat_of.ensures) c.in-Same.part (inl refl) in
    let e = c.requires.made in
    omega (arith, b, e)

pub returns-in-Same-clause-plain : goal.returns-in-Same-clause-plain
returns-in-Same-clause-plain c =
    as-plain c.args.count c.args.made.now c.args.helpers.now.items (sort_at c.args.table.now) (list_parts c.args.table.now.pools.lists c.args.shape) c.args.number (f.Same c.in-Same.part) (flat c.args.shape) c.made_at.result (sym c.in-Same.is ∙ c.flat_of.ensures) c.made_at.ensures

pub returns-in-Same-clause-adds : goal.returns-in-Same-clause-adds
returns-in-Same-clause-adds c = adds-none c.args.count c.args.helpers.now.items
