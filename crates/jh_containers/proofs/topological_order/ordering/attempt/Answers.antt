use Rattle.std.proofs.Common.{◌≡◌, false, nat_eq, sym, subst, ◌∙◌, inl, inr, ◌<◌, ℕ, List, [], ◌∷◌, ◌++◌, length, slice_get, Some, arith}
use Rattle.std.specs.List.{list_any}
use Rattle.std.proofs.lemmas.Result.{IfOk-weaker}
use Rattle.jh_containers.specs.transitive_closure.Spreads.{IsIn}
use Rattle.jh_containers.specs.topological_order.Orders.{reads_of, IsOrdered, AreThings, AreDistinct, IsTried}
use Rattle.jh_containers.proofs.topological_order.Orderings.{any-in, there, ordered-push, things-push, distinct-push, keeps-push, in-push, all-done}
use Rattle.jh_containers.proofs.topological_order.ordering.attempt.Goals as goal

pub returns-then-has-clause-tried : goal.returns-then-has-clause-tried
returns-then-has-clause-tried c = λ lt. inl (any-in c.args.of c.args.done.now (sym c.has.ensures ∙ c.if-has.true))

pub returns-then-first_undone-row-clause-tried : goal.returns-then-first_undone-row-clause-tried
returns-then-first_undone-row-clause-tried c =
    let v = there c.reads_of-row.result.now c.first_undone.result c.if-first_undone-row.true in
    λ lt. inr (v.0, subst (λ (ms : List ℕ). IsIn ms v.0) c.reads_of-row.ensures (c.first_undone.result, v.1), c.first_undone.ensures.undone v.0 v.1)

pub returns-clause-ordered : goal.returns-clause-ordered
returns-clause-ordered c =
    let old = c.args.done.now in
    let new = c.add.new.self in
    IfOk-weaker
    c.add.result
    (λ made. new ≡ old ++ c.args.of ∷ [])
    (λ made. IsOrdered c.args.reads.now new)
    (λ made p. ordered-push c.args.reads.now old new c.args.of p c.requires.ordered (all-done c.reads_of-row.result.now (reads_of c.args.reads.now c.args.of) old c.first_undone.result c.reads_of-row.ensures c.if-first_undone-row.false c.first_undone.ensures.before))
    c.add.ensures.added

pub returns-clause-things : goal.returns-clause-things
returns-clause-things c =
    let old = c.args.done.now in
    let new = c.add.new.self in
    IfOk-weaker
    c.add.result
    (λ made. new ≡ old ++ c.args.of ∷ [])
    (λ made. AreThings c.args.reads.now new)
    (λ made p. things-push c.args.reads.now old new c.args.of p c.requires.things (omega arith))
    c.add.ensures.added

pub returns-clause-distinct : goal.returns-clause-distinct
returns-clause-distinct c =
    let old = c.args.done.now in
    let new = c.add.new.self in
    let absent : list_any (nat_eq c.args.of) old ≡ false = sym c.has.ensures ∙ c.if-has.false in
    IfOk-weaker
    c.add.result
    (λ made. new ≡ old ++ c.args.of ∷ [])
    (λ made. AreDistinct new)
    (λ made p. distinct-push old new c.args.of p absent c.requires.distinct)
    c.add.ensures.added

pub returns-clause-keeps : goal.returns-clause-keeps
returns-clause-keeps c =
    let old = c.args.done.now in
    let new = c.add.new.self in
    IfOk-weaker
    c.add.result
    (λ made. new ≡ old ++ c.args.of ∷ [])
    (λ made. (i r : ℕ) → slice_get old i ≡ Some r → slice_get new i ≡ Some r)
    (λ made p. keeps-push c.args.reads.now old new c.args.of p)
    c.add.ensures.added

pub returns-clause-tried : goal.returns-clause-tried
returns-clause-tried c =
    let old = c.args.done.now in
    let new = c.add.new.self in
    IfOk-weaker
    c.add.result
    (λ made. new ≡ old ++ c.args.of ∷ [])
    (λ made. c.args.of < length c.args.reads.now → IsTried c.args.reads.now new old c.args.of)
    (λ made p lt. inl (in-push c.args.reads.now old new c.args.of p))
    c.add.ensures.added
