use Rattle.std.proofs.Common.{◌≡◌, ◌<◌, ◌⊎◌, sym, subst, ℕ, List, arith}
use Rattle.jh_containers.specs.declared.transitive_closure.facts.Fact.{Fact}
use Rattle.jh_containers.specs.transitive_closure.Spreads.{IsIn}
use Rattle.jh_effects.proofs.written_state.Reached.{inside-is, rows-next, rows-only}
use Rattle.jh_effects.proofs.written_state.reaching.add_rows.Goals as goal

-- src/reaching.rt
pub loop-index-preserved : goal.loop-index-preserved
loop-index-preserved c =
    let fact = c.at-fact.result in
    record {
      added = rows-next c.args.reached.now c.args.given.now c.args.of c.loop-index.list c.add_row.new.list c.loop-index.index fact c.at-fact.ensures
          (λ what h. c.in_ok-add_row.ensures.added what (subst (λ (xs : List ℕ). IsIn xs what) (sym c.row_of.ensures) h)) c.in_ok-add_row.ensures.keeps c.loop-index.invariant.added;
      keeps = λ place f e. c.in_ok-add_row.ensures.keeps place f (c.loop-index.invariant.keeps place f e);
      only = rows-only c.args.reached.now c.args.given.now c.args.of c.args.list.now c.loop-index.list c.add_row.new.list fact (c.loop-index.index, c.at-fact.ensures)
          (subst (λ (xs : List ℕ). (f : Fact) → IsIn c.add_row.new.list f → ((f.of ≡ c.args.of) × IsIn xs f.what) ⊎ IsIn c.loop-index.list f) c.row_of.ensures c.in_ok-add_row.ensures.only) c.loop-index.invariant.only;
    }

-- src/reaching.rt
pub returns-clause-added : goal.returns-clause-added
returns-clause-added c = λ f what h g. let inside : h.0 < c.loop-index.index = omega (inside-is c.args.reached.now f h, arith) in c.loop-index.invariant.added h.0 f what inside h.1 g

-- src/reaching.rt
pub returns-in_err-add_row-clause-only : goal.returns-in_err-add_row-clause-only
returns-in_err-add_row-clause-only c =
    rows-only c.args.reached.now c.args.given.now c.args.of c.args.list.now c.loop-index.list c.add_row.new.list c.at-fact.result (c.loop-index.index, c.at-fact.ensures)
    (subst (λ (xs : List ℕ). (f : Fact) → IsIn c.add_row.new.list f → ((f.of ≡ c.args.of) × IsIn xs f.what) ⊎ IsIn c.loop-index.list f) c.row_of.ensures c.in_err-add_row.ensures.only) c.loop-index.invariant.only
