use Rattle.std.proofs.Common.{sym, subst, ℕ, List, take}
use Rattle.std.specs.Prelude.{IfSome, IfNone}
use Rattle.jh_arena.specs.table.Nodes.{nodes}
use Rattle.jh_cong.specs.classes.Saying.{Asserted, Entails}
use Rattle.jh_cong.specs.classes.Saying as cong
use Rattle.jh_propagation.specs.propagation.Speaking.{IsTold}
use Rattle.jh_explanations.proofs.Follows.{entailed-told, told-entailed}
use Rattle.jh_explanations.proofs.places.numbers_of_equality.Goals as goal

pub explain-requires : goal.explain-requires
explain-requires c = c.said_of-said.ensures.speaks.can

pub unreachable-requires : goal.unreachable-requires
unreachable-requires c =
    let a : Asserted = c.undo.new.self in
    let e = c.said_of-said.result in
    let holds = c.said_of-said.ensures.equal c.requires.may in
    let never = subst (λ o. IfNone o (Entails (nodes a.table) a.said e.left e.right → ⊥)) c.in-None.is c.in_ok-found.ensures.none in
    never (told-entailed (nodes a.table) (nodes c.args.problem.now.table) a.said e c.args.literal c.said_of-said.ensures.speaks holds (subst (λ (b : Asserted). IsTold (nodes b.table) (nodes c.args.problem.now.table) b.said c.args.literal) (sym c.undo.ensures) c.requires.told))

pub returns-clause-told : goal.returns-clause-told
returns-clause-told c =
    let a : Asserted = c.undo.new.self in
    let e = c.said_of-said.result in
    let holds = c.said_of-said.ensures.equal c.requires.may in
    let entails = subst (λ o. IfSome o (λ listed. Entails (nodes a.table) (cong.picked a.said listed.items) e.left e.right)) c.in-Some.is c.in_ok-found.ensures.some in
    let told = entailed-told (nodes a.table) (nodes c.args.problem.now.table) (cong.picked a.said c.in-Some.places.items) e c.args.literal c.said_of-said.ensures.speaks holds entails in
    subst (λ (ns : List ℕ). IsTold (nodes c.args.classes.now.table) (nodes c.args.problem.now.table) (cong.picked (take c.args.count c.args.classes.now.said) ns) c.args.literal) (sym c.of.ensures)
    (subst (λ (b : Asserted). IsTold (nodes b.table) (nodes c.args.problem.now.table) (cong.picked b.said c.in-Some.places.items) c.args.literal) c.undo.ensures told)
