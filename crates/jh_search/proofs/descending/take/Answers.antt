use Rattle.std.proofs.Common.{refl, sym, ap, subst, false, [], ◌∷◌}
use Rattle.jh_closure.specs.congruence_closure.Nodes.{Has}
use Rattle.jh_arena.specs.table.Nodes.{nodes}
use Rattle.jh_arena.specs.table.Growth.{AreDifferent}
use Rattle.jh_cong.specs.classes.Saying.{Asserted}
use Rattle.jh_propagation.specs.trail.Listing.{IsUndecided}
use Rattle.jh_propagation.proofs.propagation.Resting.{resting-more}
use Rattle.jh_search.specs.declared.turn.Turn.{Turn}
use Rattle.jh_search.proofs.Descents.{goes-on}
use Rattle.jh_search.proofs.descending.take.Goals as goal

pub returns-clause-searching : goal.returns-clause-searching
returns-clause-searching c =
    goes-on c.args.problem.now c.args.searching.now c.requires.searching different
    c.search_goes_on.ensures c.fixpoint_is_open.ensures c.requires.fixpoint
    turn refl c.new.ensures.items
    (subst (Has c.args.problem.now.ground.atoms) (sym c.denied-literal.ensures.atom) c.requires.atom)
    (subst (IsUndecided c.args.searching.now.branch.trail) (sym c.denied-literal.ensures.atom) c.requires.undecided)
    c.requires.over c.len-at.ensures
    _ c.in_ok-decide.ensures.branch (ap (λ (x : Asserted). x.table) c.in_ok-decide.ensures.classes) c.in_ok-decide.ensures.decisions c.in_ok-decide.ensures.trail c.in_ok-decide.ensures.reasons c.in_ok-push.ensures.items refl
  where
    turn : Turn
    turn = record { literal = c.denied-literal.result; at = c.len-at.result; is_second = false; needs = c.new.result }

    different : AreDifferent (nodes c.args.problem.now.table)
    different = c.nodes_differ.ensures.different

pub returns-clause-rested : goal.returns-clause-rested
returns-clause-rested c = λ rest k at. resting-more c.args.problem.now c.args.searching.now.branch c.decide.new.branch (c.denied-literal.result ∷ []) c.in_ok-decide.ensures.classes c.in_ok-decide.ensures.trail k (rest k at)
