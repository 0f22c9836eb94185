use Rattle.std.proofs.Common.{sym, ap, subst, ◌∙◌, List, [], ◌∷◌, ◌++◌, append_assoc, take}
use Rattle.jh_closure.proofs.congruence_closure.Having.{has-at}
use Rattle.jh_arena.specs.table.Entries.{Listing}
use Rattle.jh_arena.specs.table.Nodes.{nodes}
use Rattle.jh_cong.specs.classes.Saying.{CanBeSaid}
use Rattle.jh_cong.specs.declared.classes.literal.Said.{Said}
use Rattle.jh_cong.proofs.classes.Keeping.{continues-twice}
use Rattle.jh_cong.proofs.classes.Looking.{take-next}
use Rattle.jh_cong.proofs.classes.telling.tell.Goals as goal

pub tell_one-requires-clause-said : goal.tell_one-requires-clause-said
tell_one-requires-clause-said c =
    subst (λ (t : Listing). CanBeSaid (nodes t) c.said_at.result.left c.said_at.result.right) (sym c.loop-place.invariant.continues.table) (c.requires.said c.said_at.result (has-at c.args.said.now c.loop-place.place c.said_at.result c.said_at.ensures))

pub loop-place-preserved : goal.loop-place-preserved
loop-place-preserved c = record {
  continues = continues-twice c.args.state.now c.loop-place.state c.tell_one.new.state c.loop-place.invariant.continues c.tell_one.ensures.continues;
  told = c.in_ok-tell_one.ensures.told;
  said =
      c.in_ok-tell_one.ensures.said
      ∙ (ap (λ (es : List Said). es ++ c.said_at.result ∷ []) c.loop-place.invariant.said
      ∙ (append_assoc c.args.state.now.said.items (take c.loop-place.place c.args.said.now) (c.said_at.result ∷ [])
      ∙ ap (λ (es : List Said). c.args.state.now.said.items ++ es) (sym (take-next c.args.said.now c.loop-place.place c.said_at.result c.said_at.ensures))));
}
