-- How a search over nodes decides one more atom, and what it has where each is decided.
use Rattle.std.proofs.Common.{◌≡◌, sym, ap, ◌∙◌, subst, ℕ, ◌<◌, arith, Bool, true, false, List, [], ◌∷◌, ◌++◌, length, drop, Some, slice_get, ◌⊎◌, inl, inr}
use Rattle.std.proofs.lemmas.List.{length-map}
use Rattle.std.proofs.lemmas.Option.{slice_get_within}
use Rattle.jh_form.specs.Tree.{FormulaTree, ValueTree}
use Rattle.jh_arena.specs.table.Nodes.{nodes}
use Rattle.jh_arena.specs.table.Growth.{AreDifferent}
use Rattle.jh_closure.specs.structures.Literals.{LiteralTree, IsListed}
use Rattle.jh_closure.specs.congruence_closure.Nodes.{Has}
use Rattle.jh_closure.proofs.congruence_closure.Having.{has-pushed, has-at}
use Rattle.jh_models.specs.ground_models.Atoms.{literal, IsGroundAtom}
use Rattle.jh_models.specs.ground_models.Clashes.{DecidesAtom, IsOpen}
use Rattle.jh_models.specs.ground_models.Fixpoints.{IsFixpoint}
use Rattle.jh_models.specs.ground_models.GroundModel.{IsGroundModel}
use Rattle.jh_models.specs.ground_models.Laws.{FixpointIsOpen, WholeFixpointIsModel}
use Rattle.jh_models.specs.backjumping.Paths as paths
use Rattle.jh_models.specs.backjumping.Laws.{SearchGoesOn}
use Rattle.jh_propagation.specs.declared.trail.decided.Decided.{Decided}
use Rattle.jh_propagation.specs.trail.Listing.{decided, DecideOnce, IsUndecided}
use Rattle.jh_propagation.specs.trail.Saying.{truth_at, literal_tree_at, literals_at}
use Rattle.jh_propagation.specs.declared.propagation.problem.Problem.{Problem}
use Rattle.jh_propagation.specs.declared.propagation.branch.Branch.{Branch}
use Rattle.jh_propagation.specs.declared.propagation.branch.Reason.TheVariants as reason
use Rattle.jh_propagation.specs.propagation.Problems.{instances_in}
use Rattle.jh_propagation.specs.propagation.Branches.{IsBranch, IsSaid, parts_of}
use Rattle.jh_search.specs.declared.turn.Turn.{Turn}
use Rattle.jh_search.specs.declared.turn.Searching.{Searching}
use Rattle.jh_search.specs.declared.turn.ClosedBranch.{ClosedBranch}
use Rattle.jh_search.specs.Paths.{turn_at, path_at, decisions_of, all_closed}
use Rattle.jh_search.specs.Searches.{AreDecisions, IsSearching}
use Rattle.jh_search.proofs.Backs.{path-more, decided-more}
use Rattle.jh_search.specs.Levels.{AreLevels}
use Rattle.jh_search.proofs.Leaves.{path-decisions}
use Rattle.jh_search.proofs.Levels.{levels-more, no-levels}
use Rattle.jh_search.proofs.Lists.{has-listed, listed-has, one-literal, slice-pushed}

-- one more decision is on an atom that the others aren't on
once-more : (ds : List Decided) (d : Decided) → DecideOnce ds → ((e : Decided) → Has ds e → e.atom ≡ d.atom → ⊥) → DecideOnce (ds ++ d ∷ [])
once-more ds d h new p q x y e f same = both (slice-pushed ds d x p e) (slice-pushed ds d y q f)
  where
    both : (slice_get ds p ≡ Some x) ⊎ ((p ≡ length ds) × (d ≡ x)) → (slice_get ds q ≡ Some y) ⊎ ((q ≡ length ds) × (d ≡ y)) → p ≡ q
    both (inl g) (inl k) = h p q x y g k same
    both (inl g) (inr k) = absurd (new x (has-at ds p x g) (same ∙ ap (λ (z : Decided). z.atom) (sym k.1)))
    both (inr g) (inl k) = absurd (new y (has-at ds q y k) (sym same ∙ ap (λ (z : Decided). z.atom) (sym g.1)))
    both (inr g) (inr k) = g.0 ∙ sym k.0

-- a literal says what it is of its atom
says-itself : (ds : List Decided) (d : Decided) → Has ds d → Has ds (decided d.atom d.holds)
says-itself ds d h = h

module _ (p : Problem) (s : Searching) (h : IsSearching p s) (different : AreDifferent (nodes p.table)) where
  abbrev ts : List ValueTree
  ts = nodes p.table

  same-decisions : paths.decisions (path_at ts s.path.items) ≡ literals_at ts s.branch.decisions.items
  same-decisions = path-decisions ts s.path.items ∙ ap (literals_at ts) (sym h.path)

  -- what is listed over formulas was decided over nodes
  listed-decided : (k : ℕ) (b : Bool) → Has p.ground.atoms k → IsListed (literals_at ts s.branch.trail) (literal (truth_at ts k) b) → Has s.branch.trail (decided k b)
  listed-decided k b at g =
      let r = listed-has ts s.branch.trail (literal (truth_at ts k) b) g in
      subst (Has s.branch.trail) (one-literal ts different r.0 (decided k b) (h.branch.problem.posed.occurrences.truths r.0.atom (h.branch.over_atoms r.0 r.1.0)) (h.branch.problem.posed.occurrences.truths k at) r.1.1) r.1.0

  module _ (law : SearchGoesOn) (opens : FixpointIsOpen) (fix : IsFixpoint (instances_in ts p) (literals_at ts s.branch.decisions.items) (literals_at ts s.branch.trail)) (t : Turn) (first : t.is_second ≡ false) (bare : t.needs.items ≡ []) (atom : Has p.ground.atoms t.literal.atom) (undecided : IsUndecided s.branch.trail t.literal.atom) where
    abbrev is : List FormulaTree
    is = instances_in ts p

    not-decided : DecidesAtom is (literals_at ts s.branch.decisions.items) (truth_at ts t.literal.atom) → ⊥
    not-decided (inl g) = undecided true (listed-decided t.literal.atom true atom (opens.only is (literals_at ts s.branch.decisions.items) (literals_at ts s.branch.trail) fix (literal (truth_at ts t.literal.atom) true) g))
    not-decided (inr g) = undecided false (listed-decided t.literal.atom false atom (opens.only is (literals_at ts s.branch.decisions.items) (literals_at ts s.branch.trail) fix (literal (truth_at ts t.literal.atom) false) g))

    side : paths.first_side (literal_tree_at ts t.literal) ≡ turn_at ts t
    side = λ i. record { literal = literal_tree_at ts t.literal; is_second = sym first i; needs = literals_at ts (sym bare i) }

    search-more : paths.IsSearch is (all_closed ts s.closed.items) (path_at ts (s.path.items ++ t ∷ []))
    search-more =
        subst (λ (ps : List paths.Turn). paths.IsSearch is (all_closed ts s.closed.items) ps) (sym (path-more ts s.path.items t))
        (subst (λ (x : paths.Turn). paths.IsSearch is (all_closed ts s.closed.items) (x ∷ path_at ts s.path.items)) side
        (law.decides is (all_closed ts s.closed.items) (path_at ts s.path.items) (literal_tree_at ts t.literal) h.search
        (subst (IsOpen is) (sym same-decisions) (opens.is_open is (literals_at ts s.branch.decisions.items) (literals_at ts s.branch.trail) fix))
        (h.branch.problem.posed.occurrences.stand t.literal.atom atom)
        (λ g. not-decided (subst (λ (ls : List LiteralTree). DecidesAtom is ls (truth_at ts t.literal.atom)) same-decisions g))))

    -- the decisions so far aren't on the atom
    not-on : (d : Decided) → Has (decisions_of s.path.items) d → d.atom ≡ t.literal.atom → ⊥
    not-on d g same = undecided d.holds (subst (Has s.branch.trail) (λ i. decided (same i) d.holds) (h.branch.decided d (subst (λ (ds : List Decided). Has ds d) (sym h.path) g)))

    decisions-more : AreDecisions p (s.path.items ++ t ∷ [])
    decisions-more = record {
      over_atoms = λ d g. elim (has-pushed (decisions_of s.path.items) t.literal d (subst (λ (ds : List Decided). Has ds d) (decided-more s.path.items t) g)) [
        | inl old ↦ h.decisions.over_atoms d old
        | inr new ↦ subst (λ (z : Decided). Has p.ground.atoms z.atom) new atom
      ];
      once = subst DecideOnce (sym (decided-more s.path.items t)) (once-more (decisions_of s.path.items) t.literal h.decisions.once not-on);
      needs_over = λ u g d f. elim (has-pushed s.path.items t u g) [
        | inl old ↦ h.decisions.needs_over u old d f
        | inr new ↦ absurd (subst (λ (ds : List Decided). Has ds d) bare (subst (λ (z : Turn). Has z.needs.items d) (sym new) f))
      ];
    }

    -- the search goes on with it
    pub goes-on : drop s.branch.head s.branch.waiting.items ≡ [] → t.at ≡ length s.branch.trail → (new : Searching) → IsBranch p [] new.branch → new.branch.classes.table ≡ s.branch.classes.table → new.branch.decisions.items ≡ s.branch.decisions.items ++ t.literal ∷ [] →
        new.branch.trail ≡ s.branch.trail ++ t.literal ∷ [] → new.branch.reasons.items ≡ s.branch.reasons.items ++ reason.Decision ∷ [] → new.path.items ≡ s.path.items ++ t ∷ [] → new.closed.items ≡ s.closed.items → IsSearching p new
    goes-on over at new branch table made trail reasons path closed = record {
      branch = branch;
      path = made ∙ (ap (λ (ds : List Decided). ds ++ t.literal ∷ []) h.path ∙ (sym (decided-more s.path.items t) ∙ ap decisions_of (sym path)));
      decisions = subst (AreDecisions p) (sym path) decisions-more;
      levels = subst (AreLevels p (parts_of new.branch)) (sym path) (levels-more p (parts_of s.branch) (parts_of new.branch) s.path.items t reason.Decision h.branch over fix.fixed.met many at table made trail reasons h.levels);
      search = moved;
    }
      where
        many : length s.branch.decisions.items ≡ length s.path.items
        many = ap length h.path ∙ length-map s.path.items (λ (z : Turn). z.literal)

        moved : paths.IsSearch (instances_in (nodes p.table) p) (all_closed (nodes p.table) new.closed.items) (path_at (nodes p.table) new.path.items)
        moved =
            subst (λ (xs : List Turn). paths.IsSearch is (all_closed ts new.closed.items) (path_at ts xs)) (sym path)
            (subst (λ (bs : List ClosedBranch). paths.IsSearch is (all_closed ts bs) (path_at ts (s.path.items ++ t ∷ []))) (sym closed) search-more)

-- where each atom is decided, the trail is a ground model
module _ (p : Problem) (b : Branch) (h : IsBranch p [] b) where
  abbrev trees : List ValueTree
  trees = nodes p.table

  pub is-model : WholeFixpointIsModel → IsFixpoint (instances_in trees p) (literals_at trees b.decisions.items) (literals_at trees b.trail) → ((k : ℕ) → Has p.ground.atoms k → IsSaid b.trail k) → IsGroundModel (instances_in trees p) (literals_at trees b.trail)
  is-model law fix all = law (instances_in trees p) (literals_at trees b.trail) fix.fixed on-atoms decides
    where
      on-atoms : (l : LiteralTree) → IsListed (literals_at trees b.trail) l → IsGroundAtom (instances_in trees p) l.atom
      on-atoms l g =
          let r = listed-has trees b.trail l g in
          subst (λ (z : LiteralTree). IsGroundAtom (instances_in trees p) z.atom) r.1.1 (h.problem.posed.occurrences.stand r.0.atom (h.over_atoms r.0 r.1.0))

      said : (k : ℕ) → IsSaid b.trail k → IsListed (literals_at trees b.trail) (literal (truth_at trees k) true) ⊎ IsListed (literals_at trees b.trail) (literal (truth_at trees k) false)
      said k (true, g) = inl (has-listed trees b.trail (decided k true) g)
      said k (false, g) = inr (has-listed trees b.trail (decided k false) g)

      decides : (a : FormulaTree) → IsGroundAtom (instances_in trees p) a → IsListed (literals_at trees b.trail) (literal a true) ⊎ IsListed (literals_at trees b.trail) (literal a false)
      decides a g =
          let r = h.problem.posed.occurrences.all a g in
          subst (λ (x : FormulaTree). IsListed (literals_at trees b.trail) (literal x true) ⊎ IsListed (literals_at trees b.trail) (literal x false)) r.1.1 (said r.0 (all r.0 r.1.0))

-- a search begins with nothing
pub begins : (law : SearchGoesOn) (p : Problem) (s : Searching) → IsBranch p [] s.branch → s.branch.decisions.items ≡ [] → s.path.items ≡ [] → s.closed.items ≡ [] → IsSearching p s
begins law p s branch made path closed = record {
  branch = branch;
  path = made ∙ ap decisions_of (sym path);
  decisions = subst (AreDecisions p) (sym path) none-decided;
  levels = no-levels p (parts_of s.branch) s.path.items path;
  search =
      subst (λ (xs : List Turn). paths.IsSearch (instances_in (nodes p.table) p) (all_closed (nodes p.table) s.closed.items) (path_at (nodes p.table) xs)) (sym path)
      (subst (λ (bs : List ClosedBranch). paths.IsSearch (instances_in (nodes p.table) p) (all_closed (nodes p.table) bs) []) (sym closed) (law.begins (instances_in (nodes p.table) p)));
}
  where
    none-at : (a : ℕ) (x : Decided) → slice_get [] a ≡ Some x → ⊥
    none-at a x e = let l : a < 0 = slice_get_within [] a x e in omega (arith, l)

    none-decided : AreDecisions p []
    none-decided = record { over_atoms = λ d g. absurd g; once = λ a b x y e f same. absurd (none-at a x e); needs_over = λ t g d f. absurd g }
