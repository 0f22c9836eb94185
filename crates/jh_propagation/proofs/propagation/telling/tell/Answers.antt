use Rattle.std.proofs.Common.{◌≡◌, refl, ap, ◌∙◌, subst, ◌<◌, ◌++◌, ℕ, List, length, drop, take, Err}
use Rattle.std.proofs.lemmas.List.{take_at}
use Rattle.jh_closure.specs.congruence_closure.Nodes.{Has}
use Rattle.jh_arena.specs.table.Nodes.{nodes}
use Rattle.jh_cong.specs.classes.Saying.{Asserted, IsUnmet}
use Rattle.jh_cong.specs.classes.Saying as cong
use Rattle.jh_cong.specs.declared.classes.literal.Said.{Said}
use Rattle.jh_propagation.specs.propagation.Branches.{parts_of}
use Rattle.jh_propagation.proofs.propagation.Saids.{spoken-can}
use Rattle.jh_propagation.proofs.propagation.Talking.{all-told, whole-long, unmet-places}
use Rattle.jh_propagation.proofs.propagation.telling.tell.Goals as goal

pub assert-requires : goal.assert-requires
assert-requires c = λ e g. spoken-can (nodes c.args.branch.now.classes.table) (nodes c.args.problem.now.table) (drop (length c.args.branch.now.classes.said) c.args.branch.now.trail) c.in_ok-batch.batch.items c.in_ok-batch.ensures e (subst (λ (xs : List Said). Has xs e) c.as_slice.ensures.value g)

pub returns-in-Ok-clause-branch : goal.returns-in-Ok-clause-branch
returns-in-Ok-clause-branch c =
    let b = parts_of c.args.branch.now in
    let e : c.assert.new.self ≡ record { table = b.classes.table; said = b.classes.said ++ c.in_ok-batch.batch.items } = c.in-Ok.ensures.ok ∙ ap (λ (xs : List Said). record { table = b.classes.table; said = b.classes.said ++ xs }) c.as_slice.ensures.value in
    all-told c.args.problem.now b c.requires.branch c.in_ok-batch.batch.items c.in_ok-batch.ensures c.assert.new.self e

pub returns-in-Ok-clause-told : goal.returns-in-Ok-clause-told
returns-in-Ok-clause-told c =
    let b = parts_of c.args.branch.now in
    let e : c.assert.new.self ≡ record { table = b.classes.table; said = b.classes.said ++ c.in_ok-batch.batch.items } = c.in-Ok.ensures.ok ∙ ap (λ (xs : List Said). record { table = b.classes.table; said = b.classes.said ++ xs }) c.as_slice.ensures.value in
    ap (λ (a : Asserted). length a.said) e ∙ whole-long c.args.problem.now b c.requires.branch c.in_ok-batch.batch.items c.in_ok-batch.ensures

pub returns-in-Ok-clause-grows : goal.returns-in-Ok-clause-grows
returns-in-Ok-clause-grows c =
    let said = c.args.branch.now.classes.said in
    ap (λ (a : Asserted). take (length said) a.said) c.in-Ok.ensures.ok ∙ take_at said c.as_slice.result.now (length said) refl

pub returns-in-Err-Conflict-clause-unmet : goal.returns-in-Err-Conflict-clause-unmet
returns-in-Err-Conflict-clause-unmet c =
    let b = parts_of c.args.branch.now in
    let places = c.in-Err-Conflict.places in
    let inside = subst (λ (xs : List Said). (i : ℕ) → Has places i → i < length (b.classes.said ++ xs)) c.as_slice.ensures.value (c.assert.ensures.numbers places (c.in-Err-Conflict.is ∙ ap (λ z. Err z) c.in-Err-Conflict.field-0-is)) in
    let unmet = subst (λ (xs : List Said). IsUnmet (nodes b.classes.table) (cong.picked (b.classes.said ++ xs) places)) c.as_slice.ensures.value (c.assert.ensures.conflict places (c.in-Err-Conflict.is ∙ ap (λ z. Err z) c.in-Err-Conflict.field-0-is)) in
    (unmet-places c.args.problem.now b c.requires.branch c.in_ok-batch.batch.items c.in_ok-batch.ensures places inside unmet)
