-- How what is closed goes back over nodes.
use Rattle.std.proofs.Common.{◌≡◌, refl, sym, ap, ◌∙◌, subst, ℕ, true, false, List, [], ◌∷◌, ◌++◌, length, Some, slice_get, ◌⊎◌, inl, inr}
use Rattle.std.proofs.lemmas.List.{map-append, length-map}
use Rattle.jh_form.specs.Tree.{ValueTree}
use Rattle.jh_arena.proofs.table.Listed.{slice_get-append, slice_get-last}
use Rattle.jh_closure.specs.structures.Literals.{LiteralTree, IsListed}
use Rattle.jh_closure.specs.congruence_closure.Nodes.{Has}
use Rattle.jh_closure.proofs.congruence_closure.Having.{has-left, has-last, has-pushed}
use Rattle.jh_models.specs.ground_models.Budget.{IsSpent}
use Rattle.jh_models.specs.backjumping.Paths as paths
use Rattle.jh_models.specs.backjumping.Laws.{SearchGoesBack}
use Rattle.jh_propagation.specs.declared.trail.decided.Decided.{Decided}
use Rattle.jh_propagation.specs.trail.Listing.{DecideOnce}
use Rattle.jh_propagation.specs.trail.Saying.{literal_tree_at, literals_at, opposite_of}
use Rattle.jh_propagation.specs.declared.propagation.problem.Problem.{Problem}
use Rattle.jh_propagation.specs.propagation.Problems.{instances_in}
use Rattle.jh_search.specs.declared.turn.Turn.{Turn}
use Rattle.jh_search.specs.declared.turn.ClosedBranch.{ClosedBranch}
use Rattle.jh_search.specs.Joining.{AreJoined}
use Rattle.jh_search.specs.Paths.{turn_at, path_onto, path_at, decisions_of, closed_at, all_closed}
use Rattle.jh_search.specs.Searches.{AreDecisions, IsGoingBack, IsTurned}
use Rattle.jh_search.proofs.Lists.{has-listed, listed-has, one-literal, slice-pushed}

-- a path with one more decision
pub onto-more : (ts : List ValueTree) (xs : List Turn) (x : Turn) (before : List paths.Turn) → path_onto ts (xs ++ x ∷ []) before ≡ turn_at ts x ∷ path_onto ts xs before
onto-more ts [] x before = refl
onto-more ts (y ∷ xs) x before = onto-more ts xs x (turn_at ts y ∷ before)

pub path-more : (ts : List ValueTree) (xs : List Turn) (x : Turn) → path_at ts (xs ++ x ∷ []) ≡ turn_at ts x ∷ path_at ts xs
path-more ts xs x = onto-more ts xs x []

-- the first ones of some decisions are over atoms, none twice
once-before : (ds : List Decided) (d : Decided) → DecideOnce (ds ++ d ∷ []) → DecideOnce ds
once-before ds d h p q x y e f same = h p q x y (slice_get-append ds (d ∷ []) p x e) (slice_get-append ds (d ∷ []) q y f) same

pub decided-more : (path : List Turn) (t : Turn) → decisions_of (path ++ t ∷ []) ≡ decisions_of path ++ t.literal ∷ []
decided-more path t = map-append (λ (z : Turn). z.literal) path (t ∷ [])

pub decisions-before : (p : Problem) (path : List Turn) (t : Turn) → AreDecisions p (path ++ t ∷ []) → AreDecisions p path
decisions-before p path t h = record {
  over_atoms = λ d g. h.over_atoms d (subst (λ (ds : List Decided). Has ds d) (sym (decided-more path t)) (has-left (decisions_of path) (t.literal ∷ []) d g));
  once = once-before (decisions_of path) t.literal (subst DecideOnce (decided-more path t) h.once);
  needs_over = λ u g d f. h.needs_over u (has-left path (t ∷ []) u g) d f;
}

-- the last decision on the same atom
once-turned : (ds : List Decided) (d e : Decided) → d.atom ≡ e.atom → DecideOnce (ds ++ d ∷ []) → DecideOnce (ds ++ e ∷ [])
once-turned ds d e same h p q x y f g k =
    let u = like ds d e same p x f in
    let v = like ds d e same q y g in
    h p q u.0 v.0 u.1.0 v.1.0 (u.1.1 ∙ (k ∙ sym v.1.1))
  where
    like : (ds : List Decided) (d e : Decided) → d.atom ≡ e.atom → (n : ℕ) (x : Decided) → slice_get (ds ++ e ∷ []) n ≡ Some x → (y : Decided) × ((slice_get (ds ++ d ∷ []) n ≡ Some y) × (y.atom ≡ x.atom))
    like ds d e same n x f = found (slice-pushed ds e x n f)
      where
        found : (slice_get ds n ≡ Some x) ⊎ ((n ≡ length ds) × (e ≡ x)) → (y : Decided) × ((slice_get (ds ++ d ∷ []) n ≡ Some y) × (y.atom ≡ x.atom))
        found (inl g) = (x, (slice_get-append ds (d ∷ []) n x g, refl))
        found (inr g) = (d, (subst (λ k. slice_get (ds ++ d ∷ []) k ≡ Some d) (sym g.0) (slice_get-last ds d), same ∙ ap (λ (z : Decided). z.atom) g.1))

module _ (law : SearchGoesBack) (ts : List ValueTree) (p : Problem) (path : List Turn) (t : Turn) (closed : List ClosedBranch) (needs : List Decided) (h : IsGoingBack ts p (path ++ t ∷ []) closed needs) where
  closing : paths.IsClosing (instances_in ts p) (all_closed ts closed) (turn_at ts t ∷ path_at ts path) (literals_at ts needs)
  closing = subst (λ (ps : List paths.Turn). paths.IsClosing (instances_in ts p) (all_closed ts closed) ps (literals_at ts needs)) (path-more ts path t) h.closing

  over : Has p.ground.atoms t.literal.atom
  over = h.decisions.over_atoms t.literal (subst (λ (ds : List Decided). Has ds t.literal) (sym (decided-more path t)) (has-last (decisions_of path) t.literal))

  needs-here : (t : Turn) → Has (path ++ t ∷ []) t
  needs-here t = has-last path t

  -- a literal that is needed over formulas is needed over nodes
  listed-needed : (l : Decided) → Has p.ground.atoms l.atom → (ks : List Decided) → ((d : Decided) → Has ks d → Has p.ground.atoms d.atom) → IsListed (literals_at ts ks) (literal_tree_at ts l) → Has ks l
  listed-needed l at ks all g =
      let r = listed-has ts ks (literal_tree_at ts l) g in
      subst (Has ks) (one-literal ts h.different r.0 l (h.posed.occurrences.truths r.0.atom (all r.0 r.1.0)) (h.posed.occurrences.truths l.atom at) r.1.1) r.1.0

  before : AreDecisions p path
  before = decisions-before p path t h.decisions

  pub dropped : (Has needs t.literal → ⊥) → IsGoingBack ts p path closed needs
  dropped never = record {
    posed = h.posed;
    different = h.different;
    decisions = before;
    needs_over = h.needs_over;
    closing = law.drops (instances_in ts p) (all_closed ts closed) (turn_at ts t) (path_at ts path) (literals_at ts needs) closing (λ g. never (listed-needed t.literal over needs h.needs_over g));
  }

  -- joined over formulas
  joined-trees : (more joined : List Decided) → ((d : Decided) → Has more d → Has p.ground.atoms d.atom) → AreJoined needs t.literal more joined → paths.AreJoined (literals_at ts needs) (literal_tree_at ts t.literal) (literals_at ts more) (literals_at ts joined)
  joined-trees more joined all j = record {
    only = λ k g. only-one k (listed-has ts joined k g);
    first = λ k g. first-one k (listed-has ts needs k g);
    second = λ k g. second-one k (listed-has ts more k g);
  }
    where
      only-one : (k : LiteralTree) → (d : Decided) × (Has joined d × (literal_tree_at ts d ≡ k)) → (IsListed (literals_at ts needs) k × (literal_tree_at ts t.literal ≡ k → ⊥)) ⊎ IsListed (literals_at ts more) k
      only-one k r = chosen (j.only r.0 r.1.0)
        where
          chosen : (Has needs r.0 × (t.literal ≡ r.0 → ⊥)) ⊎ Has more r.0 → (IsListed (literals_at ts needs) k × (literal_tree_at ts t.literal ≡ k → ⊥)) ⊎ IsListed (literals_at ts more) k
          chosen (inl g) = inl (subst (IsListed (literals_at ts needs)) r.1.1 (has-listed ts needs r.0 g.0), λ e. g.1 (one-literal ts h.different t.literal r.0 (h.posed.occurrences.truths t.literal.atom over) (h.posed.occurrences.truths r.0.atom (h.needs_over r.0 g.0)) (e ∙ sym r.1.1)))
          chosen (inr g) = inr (subst (IsListed (literals_at ts more)) r.1.1 (has-listed ts more r.0 g))

      first-one : (k : LiteralTree) → (d : Decided) × (Has needs d × (literal_tree_at ts d ≡ k)) → (literal_tree_at ts t.literal ≡ k) ⊎ IsListed (literals_at ts joined) k
      first-one k r = elim (j.first r.0 r.1.0) [ inl e ↦ inl (ap (literal_tree_at ts) e ∙ r.1.1) | inr g ↦ inr (subst (IsListed (literals_at ts joined)) r.1.1 (has-listed ts joined r.0 g)) ]

      second-one : (k : LiteralTree) → (d : Decided) × (Has more d × (literal_tree_at ts d ≡ k)) → IsListed (literals_at ts joined) k
      second-one k r = subst (IsListed (literals_at ts joined)) r.1.1 (has-listed ts joined r.0 (j.second r.0 r.1.0))

  joined-over : (more joined : List Decided) → ((d : Decided) → Has more d → Has p.ground.atoms d.atom) → AreJoined needs t.literal more joined → (d : Decided) → Has joined d → Has p.ground.atoms d.atom
  joined-over more joined all j d g = elim (j.only d g) [ inl n ↦ h.needs_over d n.0 | inr m ↦ all d m ]

  turn-needs : (d : Decided) → Has t.needs.items d → Has p.ground.atoms d.atom
  turn-needs d g = h.decisions.needs_over t (has-last path t) d g

  pub joined-back : (joined : List Decided) → Has needs t.literal → t.is_second ≡ true → AreJoined needs t.literal t.needs.items joined → IsGoingBack ts p path closed joined
  joined-back joined here second j = record {
    posed = h.posed;
    different = h.different;
    decisions = before;
    needs_over = joined-over t.needs.items joined turn-needs j;
    closing = law.joins (instances_in ts p) (all_closed ts closed) (turn_at ts t) (path_at ts path) (literals_at ts needs) (literals_at ts joined) closing (has-listed ts needs t.literal here) second (joined-trees t.needs.items joined turn-needs j);
  }

  pub spent-back : Has needs t.literal → t.is_second ≡ false → (leaves : ℕ) → length closed ≡ leaves → IsSpent (instances_in ts p) leaves (all_closed ts closed)
  spent-back here first leaves many = law.is_spent (instances_in ts p) (all_closed ts closed) (turn_at ts t) (path_at ts path) (literals_at ts needs) closing (has-listed ts needs t.literal here) first leaves (length-map closed (closed_at ts) ∙ many)

  none-more : (d : Decided) → Has [] d → Has p.ground.atoms d.atom
  none-more d g = absurd g

  pub turned-back : (u : Turn) → u.literal ≡ opposite_of t.literal → u.is_second ≡ true → Has needs t.literal → t.is_second ≡ false → AreJoined needs t.literal [] u.needs.items → IsTurned ts p (path ++ u ∷ []) closed
  turned-back u lit second here first j = record {
    decisions = record {
      over_atoms = λ d g. elim (has-pushed (decisions_of path) u.literal d (subst (λ (ds : List Decided). Has ds d) (decided-more path u) g)) [
        | inl old ↦ before.over_atoms d old
        | inr e ↦ subst (λ (z : Decided). Has p.ground.atoms z.atom) (sym lit ∙ e) over
      ];
      once = subst DecideOnce (sym (decided-more path u)) (once-turned (decisions_of path) t.literal u.literal (ap (λ (z : Decided). z.atom) (sym lit)) (subst DecideOnce (decided-more path t) h.decisions.once));
      needs_over = λ v g d f. elim (has-pushed path u v g) [
        | inl old ↦ before.needs_over v old d f
        | inr e ↦ joined-over [] u.needs.items none-more j d (subst (λ (z : Turn). Has z.needs.items d) (sym e) f)
      ];
    };
    search = subst (paths.IsSearch (instances_in ts p) (all_closed ts closed)) (sym (path-more ts path u ∙ ap (λ (z : paths.Turn). z ∷ path_at ts path) same))
        (law.turns (instances_in ts p) (all_closed ts closed) (turn_at ts t) (path_at ts path) (literals_at ts needs) (literals_at ts u.needs.items) closing (has-listed ts needs t.literal here) first (joined-trees [] u.needs.items none-more j));
  }
    where
      same : turn_at ts u ≡ paths.second_side (literal_tree_at ts (opposite_of t.literal)) (literals_at ts u.needs.items)
      same = λ i. record { literal = literal_tree_at ts (lit i); is_second = second i; needs = literals_at ts u.needs.items }
