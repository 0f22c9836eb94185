use Rattle.std.proofs.Common.{ap, ◌∙◌, subst, ◌++◌, ◌∷◌, [], Err, inl, inr}
use Rattle.jh_arena.specs.table.Nodes.{nodes}
use Rattle.jh_cong.specs.classes.Saying.{Asserted, CanBeSaid, IsUnmet}
use Rattle.jh_cong.specs.declared.classes.literal.Said.{Said}
use Rattle.jh_explanations.proofs.Tests.{picked-met}
use Rattle.jh_explanations.proofs.testing.is_met.Goals as goal

pub assert-requires : goal.assert-requires
assert-requires c = λ e h. elim h [ inl same ↦ subst (λ (z : Said). CanBeSaid (nodes c.args.classes.now.table) z.left z.right) same c.said_of-said.ensures.speaks.can | inr none ↦ absurd none ]

pub returns-in-Ok-clause-asked : goal.returns-in-Ok-clause-asked
returns-in-Ok-clause-asked c =
    let old : Asserted = c.args.classes.now in
    let more : Asserted = record { table = old.table; said = old.said ++ c.said_of-said.result ∷ [] } in
    record {
      said = c.said_of-said.result;
      speaks = c.said_of-said.ensures.speaks;
      classes = c.in-Ok.ensures.ok;
      met = subst (λ (a : Asserted). IsUnmet (nodes a.table) a.said → ⊥) c.in-Ok.ensures.ok c.in-Ok.ensures.met;
    }

pub returns-in-Err-Conflict-clause-asked : goal.returns-in-Err-Conflict-clause-asked
returns-in-Err-Conflict-clause-asked c =
    let old : Asserted = c.args.classes.now in
    record {
      said = c.said_of-said.result;
      speaks = c.said_of-said.ensures.speaks;
      classes = c.in-Err-Conflict.ensures.err;
      unmet = picked-met (nodes old.table) (old.said ++ c.said_of-said.result ∷ []) _ (c.assert.ensures.conflict _ (c.in-Err-Conflict.is ∙ ap Err c.in-Err-Conflict.field-0-is));
    }
