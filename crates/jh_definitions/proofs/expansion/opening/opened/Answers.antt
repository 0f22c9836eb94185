use Rattle.std.proofs.Common.{◌≡◌, subst, ◌∙◌, ◌⊎◌, ℕ, List, ◌<◌, length, slice_get, Some, arith}
use Rattle.std.proofs.lemmas.Option.{slice_get_within}
use Rattle.jh_arena.specs.table.Nodes.{nodes}
use Rattle.jh_arena.proofs.table.Listed.{extends-trans}
use Rattle.jh_symbols.specs.member_numbers.Numbering.{number_in}
use Rattle.jh_definitions.specs.expansion.Opening.{source_of}
use Rattle.jh_symbols.proofs.member_numbers.Puttings.{item-is}
use Rattle.jh_definitions.proofs.expansion.Steps.{value-meant, class-inside, below-grows, meant-more, held-more, only-more, only-none, text}
use Rattle.jh_definitions.proofs.expansion.opening.opened.Goals as goal

-- src/opening.rt
pub put-requires : goal.put-requires
put-requires c =
    class-inside c.args.classes.now c.args.definitions.now c.loop-definition.definition-index c.definition-item.result (length c.loop-definition.made.maps.items) c.requires.definitions
    (item-is c.args.definitions.now c.loop-definition.definition-index c.definition-item.result c.loop-definition-test.true c.definition-item.is) c.loop-definition.invariant.count

-- src/opening.rt
pub loop-definition-preserved : goal.loop-definition-preserved
loop-definition-preserved c =
    let cs = c.args.classes.now in
    let p = source_of cs in
    let ds = c.args.definitions.now in
    let k = c.loop-definition.definition-index in
    let d = c.definition-item.result in
    let old = c.loop-definition.made in
    let new = c.put.new.self in
    let l = c.loop-definition.table in
    let n = c.open_next.new.table in
    let at : slice_get ds k ≡ Some d = item-is ds k d c.loop-definition-test.true c.definition-item.is in
    let below = below-grows p l n old ds k c.in_ok-node.ensures.grows c.loop-definition.invariant.held c.loop-definition.invariant.known in
    let is = value-meant cs c.args.lookups.now old ds c.requires.definitions c.requires.ordered c.requires.few c.requires.declared (nodes n) k d at below in
    let noted : number_in new d.class (text d) ≡ Some c.in_ok-node.node = subst (λ (x : List ℕ). number_in new d.class x ≡ Some c.in_ok-node.node) c.text.ensures c.in_ok-put.ensures.noted in
    let others = subst (λ (x : List ℕ). (e : ℕ) (y : List ℕ) → ((e ≡ d.class) × (y ≡ x)) ⊎ (number_in new e y ≡ number_in old e y)) c.text.ensures c.in_ok-put.ensures.others in
    record {
      grows = extends-trans c.args.table.now l n c.loop-definition.invariant.grows c.in_ok-node.ensures.grows;
      held = held-more p ds old new l n c.in_ok-node.ensures.grows c.loop-definition.invariant.held k c.in_ok-node.node d at _ c.in_ok-node.ensures.node is noted others;
      only = only-more ds old new k d at others c.loop-definition.invariant.only;
      count = c.in_ok-put.ensures.classes ∙ c.loop-definition.invariant.count;
      known = meant-more p ds old new l n c.in_ok-node.ensures.grows c.loop-definition.invariant.held k c.in_ok-node.node d at _ c.in_ok-node.ensures.node is noted others c.loop-definition.invariant.known;
    }

-- src/opening.rt
pub returns-clause-means : goal.returns-clause-means
returns-clause-means c = λ k d e. let inside : k < length c.args.definitions.now = slice_get_within c.args.definitions.now k d e in c.loop-definition.invariant.known k d (omega arith) e
