use Rattle.std.proofs.Common.{◌≡◌, ◌<◌, ℕ, true, Some, sym, ap, ◌∙◌, subst, length, slice_get, slice_set, inl, inr, ◌⊎◌, arith}
use Rattle.jh_form.specs.Meaning.{edge, reaches}
use Rattle.jh_containers.proofs.transitive_closure.Places.{before-or-at}
use Rattle.jh_sem.specs.Graphs.{listed_fields, IsWalk}
use Rattle.jh_sem.proofs.Walks.{listed-length, target-found}
use Rattle.jh_sem.proofs.graph.visit_targets.Goals as goal

pub loop-place-preserved : goal.loop-place-preserved
loop-place-preserved c =
    let fs = listed_fields c.args.fields.now in
    let seen = c.in_ok-visit.ensures.marked in
    let kept = c.in_ok-visit.ensures.kept in
    let known = c.loop-place.invariant in
    let next : slice_get c.visit.new.marks.items (edge fs c.loop-place.place c.args.at) ≡ Some true = ap (slice_get c.visit.new.marks.items) (sym c.target-object.ensures.edge) ∙ seen in
    record {
      sized = c.visit.ensures.sized ∙ known.sized;
      marked = λ i lt.
          elim (before-or-at i c.loop-place.place lt) [
            | inl l ↦ kept (edge fs i c.args.at) (known.marked i l)
            | inr e ↦ ap (λ n. slice_get c.visit.new.marks.items (edge fs n c.args.at)) e ∙ next
          ];
      kept = λ x h. kept x (known.kept x h);
      found = λ j x h. c.in_ok-visit.ensures.found j x (known.found j x h);
      walk = λ start j here walk.
          let w = known.walk start j here walk in
          c.in_ok-visit.ensures.walk c.args.last fs start w
          (ap (reaches (length c.loop-place.found.items) fs start) c.target-object.ensures.edge ∙
          target-found c.args.last fs start c.loop-place.marks.items c.loop-place.found.items j c.args.at c.loop-place.place w (known.found j c.args.at here) (let n = listed-length c.args.fields.now in omega arith));
    }
