use Rattle.std.proofs.Common.{refl, ap, subst, ◌∙◌, List, [], ◌∷◌, ◌++◌, length}
use Rattle.jh_closure.specs.congruence_closure.Levels.{Asserted}
use Rattle.jh_closure.specs.congruence_closure.Nodes.{Has}
use Rattle.jh_closure.specs.declared.congruence_closure.equation.Equation.{Equation}
use Rattle.jh_closure.proofs.congruence_closure.Growing.{begins-push, begins-same}
use Rattle.jh_cong.specs.declared.classes.literal.Said.{Said}
use Rattle.jh_cong.proofs.classes.Keeping.{asserted, told-more}
use Rattle.jh_cong.proofs.classes.telling.tell_one.Goals as goal

pub returns-clause-told : goal.returns-clause-told
returns-clause-told c =
    let old = c.args.state.now in
    told-more old _ c.args.said c.requires.told c.requires.said refl refl c.in_ok-push.ensures.items
    (c.in_ok-state.ensures.ok ∙ ap (λ (q : Equation). asserted old.closure.nodes (old.closure.said ++ q ∷ [])) c.told_of-equation.ensures)
    c.note.ensures.grows
    (λ off. subst (λ (es : List Said). Has c.note.new.denied.items (length es)) c.as_slice-number.ensures.value (c.in_ok-note.ensures.noted off))
    c.in_ok-state.ensures.inside
    c.in_ok-state.ensures.enough

pub returns-in_err-note-clause-continues : goal.returns-in_err-note-clause-continues
returns-in_err-note-clause-continues c = record {
  table = refl;
  nodes = refl;
  apart = refl;
  said = begins-same _ _ refl;
  told = begins-same _ _ refl;
  denied = c.note.ensures.grows;
}

pub returns-in_err-push-clause-continues : goal.returns-in_err-push-clause-continues
returns-in_err-push-clause-continues c = record {
  table = refl;
  nodes = refl;
  apart = refl;
  said = begins-same _ _ c.in_err-push.ensures.items;
  told = begins-same _ _ refl;
  denied = c.note.ensures.grows;
}

pub returns-in_err-state-clause-continues : goal.returns-in_err-state-clause-continues
returns-in_err-state-clause-continues c =
    let same = c.in_err-state.ensures.err in
    record {
      table = refl;
      nodes = ap (λ (z : Asserted). z.nodes) same;
      apart = refl;
      said = begins-push _ _ c.args.said c.in_ok-push.ensures.items;
      told = begins-same _ _ (ap (λ (z : Asserted). z.said) same);
      denied = c.note.ensures.grows;
    }
