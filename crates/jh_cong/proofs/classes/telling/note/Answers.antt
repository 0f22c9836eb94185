use Rattle.std.proofs.Common.{sym, subst, ℕ, List}
use Rattle.jh_closure.specs.congruence_closure.Nodes.{Has}
use Rattle.jh_closure.proofs.congruence_closure.Having.{has-last}
use Rattle.jh_cong.proofs.classes.telling.note.Goals as goal

pub returns-in_ok-push-clause-noted : goal.returns-in_ok-push-clause-noted
returns-in_ok-push-clause-noted c off = subst (λ (ks : List ℕ). Has ks c.args.number) (sym c.in_ok-push.ensures.items) (has-last c.args.denied.now.items c.args.number)
