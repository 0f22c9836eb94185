use Rattle.std.proofs.Common.{sym, ap, ◌∙◌, subst, ◌-◌, List, [], ◌∷◌, ◌++◌, length, take}
use Rattle.jh_cong.specs.classes.Saying.{Asserted}
use Rattle.jh_propagation.specs.declared.trail.decided.Decided.{Decided}
use Rattle.jh_propagation.specs.trail.Listing.{IsUndecided}
use Rattle.jh_propagation.specs.declared.propagation.branch.Reason.{Reason}
use Rattle.jh_propagation.specs.declared.propagation.branch.Reason.TheVariants as reason
use Rattle.jh_propagation.specs.propagation.Branches.{parts_of}
use Rattle.jh_propagation.specs.propagation.Levels.{IsLevel}
use Rattle.jh_search.specs.declared.turn.Turn.{Turn}
use Rattle.jh_search.proofs.Lists.{four-ok}
use Rattle.jh_search.proofs.Turning.{level-behind, newest-at, over-atoms, resumed, undecided-there}
use Rattle.jh_search.proofs.searching.resume.Goals as goal

pub cut-requires-clause-level : goal.cut-requires-clause-level
cut-requires-clause-level c = subst (λ (xs : List Turn). IsLevel c.args.problem.now (parts_of c.args.searching.now.branch) (length xs - 1) c.turn_at-turn.result.now.at) (sym c.as_slice-path.ensures.value) (level-behind c.args.problem.now c.args.searching.now c.requires c.turn_at-turn.result.now (newest-at c.as_slice-path.ensures.value c.turn_at-turn.ensures))

pub decide-requires-clause-undecided : goal.decide-requires-clause-undecided
decide-requires-clause-undecided c = subst (λ (xs : List Decided). IsUndecided xs c.turn_at-turn.result.now.literal.atom) (sym c.in_ok-cut.ensures.trail) (undecided-there c.args.problem.now c.args.searching.now c.requires c.turn_at-turn.result.now (newest-at c.as_slice-path.ensures.value c.turn_at-turn.ensures) c.decides_once.ensures)

pub decide-requires-clause-atom : goal.decide-requires-clause-atom
decide-requires-clause-atom c = over-atoms c.args.problem.now c.args.searching.now c.requires c.turn_at-turn.result.now (newest-at c.as_slice-path.ensures.value c.turn_at-turn.ensures)

pub returns-clause-searching : goal.returns-clause-searching
returns-clause-searching c =
    four-ok c.decide.result
    (λ branch made said because. resumed c.args.problem.now c.args.searching.now c.requires c.turn_at-turn.result.now (newest-at c.as_slice-path.ensures.value c.turn_at-turn.ensures) c.decide.new.branch _ branch
    (ap (λ (x : Asserted). x.table) c.decide.ensures.classes ∙ c.in_ok-cut.ensures.table)
    (made ∙ ap (λ (xs : List Decided). xs ++ c.turn_at-turn.result.now.literal ∷ []) (c.in_ok-cut.ensures.decisions ∙ ap (λ (xs : List Turn). take (length xs - 1) c.args.searching.now.branch.decisions.items) c.as_slice-path.ensures.value))
    (said ∙ ap (λ (xs : List Decided). xs ++ c.turn_at-turn.result.now.literal ∷ []) c.in_ok-cut.ensures.trail)
    (because ∙ ap (λ (rs : List Reason). rs ++ reason.Decision ∷ []) c.in_ok-cut.ensures.reasons))
    c.decide.ensures.branch c.decide.ensures.decisions c.decide.ensures.trail c.decide.ensures.reasons
