use Rattle.std.proofs.Common.{◌≡◌, sym, ap, subst, ◌∙◌, ℕ, List, [], ◌∷◌, append-nil, rules, arith}
use Rattle.std.proofs.lemmas.Result.{on_ok_weaker}
use Rattle.jh_arena.specs.table.Nodes.{nodes}
use Rattle.jh_arena.specs.table.Own.{own_list}
use Rattle.jh_arena.specs.declared.table.shapes.Own.{Own}
use Rattle.jh_query_names.specs.query_names.Gathered.{value_names, with_names}
use Rattle.jh_query_names.specs.query_names.Kinds.{value_at, names_at}
use Rattle.jh_query_names.specs.query_names.Finding.{values_at, AreBelow}
use Rattle.jh_query_names.proofs.query_names.Onces.{with-known}
use Rattle.jh_query_names.proofs.query_names.Steps.{on-ok-two, two-with, three-with, own-below, node-inside, name-at, nothing-at, parts-at, noted-names, noted-found, seen-found}
use Rattle.jh_query_names.proofs.query_names.gathering.+gathering.Goals as goal

pub gather_node-returns-then-seen-clause-names : goal.gather_node-returns-then-seen-clause-names
gather_node-returns-then-seen-clause-names τ c =
    let ts = nodes c.args.table.now in
    sym (with-known (value_names (value_at ts c.args.node)) (values_at ts c.args.found.now.names.keys) (c.requires.found.known c.args.node (sym c.has_seen-seen.ensures ∙ c.if-seen.true)))

pub gather_node-returns-clause-names : goal.gather_node-returns-clause-names
gather_node-returns-clause-names τ c =
    let ts = nodes c.args.table.now in
    on_ok_weaker c.see.result (λ e. ap (values_at ts) e ∙ c.in_ok-gather_shape.ensures.names) c.see.ensures.names

pub gather_node-returns-clause-found : goal.gather_node-returns-clause-found
gather_node-returns-clause-found τ c =
    let ts = nodes c.args.table.now in
    on-ok-two c.see.result
    (λ e f. seen-found ts (values_at ts c.args.found.now.names.keys) c.gather_shape.new.found.names.keys c.gather_shape.new.found.seen.keys c.see.new.self.names.keys c.see.new.self.seen.keys c.args.node c.in_ok-gather_shape.ensures.found c.in_ok-gather_shape.ensures.names e f)
    c.see.ensures.names c.see.ensures.seen

pub gather_shape-gather_parts-requires : goal.gather_shape-gather_parts-requires
gather_shape-gather_parts-requires τ c =
    let inside = node-inside c.args.table.now.pools (nodes c.args.table.now) c.args.node c.args.shape c.requires.there in
    let below : AreBelow c.args.node (own_list c.own.result) = subst (λ (ns : List ℕ). AreBelow c.args.node ns) (sym c.own.ensures) (own-below c.args.node c.args.table.now.pools.lists c.args.shape c.requires.below) in
    search (rules, arith)

pub gather_shape-returns-in-Name-clause-names : goal.gather_shape-returns-in-Name-clause-names
gather_shape-returns-in-Name-clause-names τ c =
    let ts = nodes c.args.table.now in
    let p = c.args.table.now.pools in
    on_ok_weaker c.note.result
    (noted-names ts c.args.found.now.names.keys c.args.found.now.seen.keys c.note.new.self.names.keys c.args.node c.nodes_differ.ensures.different c.requires.found (node-inside p ts c.args.node c.args.shape c.requires.there)
    (name-at p ts c.args.node c.args.shape c.requires.there (sym c.kind_of.ensures ∙ c.in-Name.is)))
    c.note.ensures.names

pub gather_shape-returns-in-Name-clause-found : goal.gather_shape-returns-in-Name-clause-found
gather_shape-returns-in-Name-clause-found τ c =
    let ts = nodes c.args.table.now in
    on-ok-two c.note.result
    (noted-found ts c.args.found.now.names.keys c.args.found.now.seen.keys c.note.new.self.names.keys c.note.new.self.seen.keys c.args.node c.nodes_differ.ensures.different c.requires.found
    (node-inside c.args.table.now.pools ts c.args.node c.args.shape c.requires.there))
    c.note.ensures.names c.note.ensures.seen

pub gather_shape-returns-in-Parts-clause-names : goal.gather_shape-returns-in-Parts-clause-names
gather_shape-returns-in-Parts-clause-names τ c =
    let ts = nodes c.args.table.now in
    let p = c.args.table.now.pools in
    let same : names_at ts (own_list c.own.result) ≡ value_names (value_at ts c.args.node) =
    ap (names_at ts) c.own.ensures ∙ sym (parts-at p ts c.args.node c.args.shape c.requires.there c.requires.fits (sym c.kind_of.ensures ∙ c.in-Parts.is)) in
    on_ok_weaker c.gather_parts.result (λ e. e ∙ ap (with_names (values_at ts c.args.found.now.names.keys)) same) c.gather_parts.ensures.names

pub gather_shape-returns-in-Nothing-clause-names : goal.gather_shape-returns-in-Nothing-clause-names
gather_shape-returns-in-Nothing-clause-names τ c =
    let ts = nodes c.args.table.now in
    ap (with_names (values_at ts c.args.found.now.names.keys)) (sym (nothing-at c.args.table.now.pools ts c.args.node c.args.shape c.requires.there (sym c.kind_of.ensures ∙ c.in-Nothing.is)))

pub gather_parts-returns-in-None-clause-names : goal.gather_parts-returns-in-None-clause-names
gather_parts-returns-in-None-clause-names τ c =
    let ts = nodes c.args.table.now in
    ap (λ (o : Own). with_names (values_at ts c.args.found.now.names.keys) (names_at ts (own_list o))) (sym c.in-None.is)

pub gather_parts-gather_node-requires : goal.gather_parts-gather_node-requires
gather_parts-gather_node-requires τ c =
    let below : AreBelow c.args.node (c.in-One.a ∷ []) = subst (λ (o : Own). AreBelow c.args.node (own_list o)) c.in-One.is c.requires.below in
    let less = below.0 in
    search (rules, arith)

pub gather_parts-returns-in-One-clause-names : goal.gather_parts-returns-in-One-clause-names
gather_parts-returns-in-One-clause-names τ c =
    let ts = nodes c.args.table.now in
    let old = values_at ts c.args.found.now.names.keys in
    on_ok_weaker c.gather_node.result (λ e. e ∙ ap (with_names old) (sym (append-nil (value_names (value_at ts c.in-One.a)))) ∙ ap (λ (o : Own). with_names old (names_at ts (own_list o))) (sym c.in-One.is)) c.gather_node.ensures.names

pub gather_parts-gather_two-requires : goal.gather_parts-gather_two-requires
gather_parts-gather_two-requires τ c =
    let below : AreBelow c.args.node (c.in-Two.a ∷ c.in-Two.b ∷ []) = subst (λ (o : Own). AreBelow c.args.node (own_list o)) c.in-Two.is c.requires.below in
    let first = below.0 in
    let second = below.1.0 in
    search (rules, arith)

pub gather_parts-returns-in-Two-clause-names : goal.gather_parts-returns-in-Two-clause-names
gather_parts-returns-in-Two-clause-names τ c =
    let ts = nodes c.args.table.now in
    let old = values_at ts c.args.found.now.names.keys in
    on_ok_weaker c.gather_two.result (λ e. e ∙ ap (λ (o : Own). with_names old (names_at ts (own_list o))) (sym c.in-Two.is)) c.gather_two.ensures.names

pub gather_two-returns-clause-names : goal.gather_two-returns-clause-names
gather_two-returns-clause-names τ c =
    let ts = nodes c.args.table.now in
    let old = values_at ts c.args.found.now.names.keys in
    on_ok_weaker c.gather_node-2.result
    (λ e. e ∙ ap (λ vs. with_names vs (value_names (value_at ts c.args.b))) c.in_ok-gather_node.ensures.names ∙ two-with old (value_names (value_at ts c.args.a)) (value_names (value_at ts c.args.b)))
    c.gather_node-2.ensures.names

pub gather_parts-gather_two-requires-in-Three : goal.gather_parts-gather_two-requires-in-Three
gather_parts-gather_two-requires-in-Three τ c =
    let below : AreBelow c.args.node (c.in-Three.a ∷ c.in-Three.b ∷ c.in-Three.c ∷ []) = subst (λ (o : Own). AreBelow c.args.node (own_list o)) c.in-Three.is c.requires.below in
    let first = below.0 in
    let second = below.1.0 in
    search (rules, arith)

pub gather_parts-gather_node-requires-in-Three : goal.gather_parts-gather_node-requires-in-Three
gather_parts-gather_node-requires-in-Three τ c =
    let below : AreBelow c.args.node (c.in-Three.a ∷ c.in-Three.b ∷ c.in-Three.c ∷ []) = subst (λ (o : Own). AreBelow c.args.node (own_list o)) c.in-Three.is c.requires.below in
    let third = below.1.1.0 in
    search (rules, arith)

pub gather_parts-returns-in_ok-gather_two-in-Three-clause-names : goal.gather_parts-returns-in_ok-gather_two-in-Three-clause-names
gather_parts-returns-in_ok-gather_two-in-Three-clause-names τ c =
    let ts = nodes c.args.table.now in
    let old = values_at ts c.args.found.now.names.keys in
    let names = λ (n : ℕ). value_names (value_at ts n) in
    on_ok_weaker c.gather_node-in-Three.result
    (λ e. e
    ∙ ap (λ vs. with_names vs (names c.in-Three.c)) c.in_ok-gather_two-in-Three.ensures.names
    ∙ three-with old (names c.in-Three.a) (names c.in-Three.b) (names c.in-Three.c)
    ∙ ap (λ (o : Own). with_names old (names_at ts (own_list o))) (sym c.in-Three.is))
    c.gather_node-in-Three.ensures.names
