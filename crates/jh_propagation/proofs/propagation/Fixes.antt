-- A branch to which nothing can be added is a fixpoint of propagation.
use Rattle.std.proofs.Common.{◌≡◌, refl, sym, ap, ◌∙◌, subst, ℕ, zero, suc, ◌<◌, ◌≤◌, ◌==◌, arith, add-one, Bool, true, false, not, List, [], ◌∷◌, length, take, take_all, drop, Some, slice_get, get_or, ◌⊎◌, inl, inr}
use Rattle.std.proofs.lemmas.Bool.{true≢false}
use Rattle.std.proofs.lemmas.Option.{slice_get_within, slice_get-get_or}
use Rattle.std.proofs.lemmas.Bool.Decides.{Decides-eqb}
use Rattle.jh_form.specs.Tree.{FormulaTree, ValueTree}
use Rattle.jh_arena.specs.table.Nodes.{nodes}
use Rattle.jh_closure.specs.structures.Literals.{LiteralTree, IsListed, Meets}
use Rattle.jh_closure.proofs.structures.Listed.{meets-listed}
use Rattle.jh_closure.specs.congruence_closure.Nodes.{Has}
use Rattle.jh_closure.proofs.congruence_closure.Having.{has-at, place-of}
use Rattle.jh_models.specs.ground_models.Atoms.{literal, opposite, IsGroundAtom, is_equality}
use Rattle.jh_models.specs.ground_models.Truths.{IsFalse, SomeFalse}
use Rattle.jh_models.specs.ground_models.Clashes.{Follows, Propagated, AllPropagated, given, forced, equal, other, none, more}
use Rattle.jh_models.specs.ground_models.Fixpoints as fix
use Rattle.jh_models.proofs.ground_models.Opposites.{not-opposites}
use Rattle.jh_cong.specs.flattening.TreeValues.{NumberStructure}
use Rattle.jh_cong.specs.classes.Saying.{IsUnmet, literals}
use Rattle.jh_propagation.specs.declared.trail.decided.Decided.{Decided}
use Rattle.jh_propagation.specs.trail.Listing.{decided, IsUndecided}
use Rattle.jh_propagation.specs.trail.Saying.{truth_at, truths_at, literal_tree_at, literals_at, opposite_of}
use Rattle.jh_propagation.specs.declared.propagation.problem.Problem.{Problem}
use Rattle.jh_propagation.specs.declared.propagation.branch.Branch.{Branch}
use Rattle.jh_propagation.specs.declared.propagation.branch.Reason.{Reason}
use Rattle.jh_propagation.specs.declared.propagation.branch.Reason.TheVariants as reason
use Rattle.jh_propagation.specs.propagation.Problems.{instances_in}
use Rattle.jh_propagation.specs.propagation.Branches.{Why, IsQuiet, IsBranch, IsSaid, IsUnforced, Moved}
use Rattle.jh_propagation.specs.propagation.Speaking.{AreSpoken}
use Rattle.jh_propagation.proofs.propagation.Lists.{has-listed, are-listed}
use Rattle.jh_propagation.proofs.propagation.Quieting.{take-has}
use Rattle.jh_propagation.proofs.propagation.Saids.{told-meets}

-- an atom is decided or not
pub said-or-not : (trail : List Decided) (k : ℕ) → IsSaid trail k ⊎ IsUndecided trail k
said-or-not [] k = inr (λ b h. h)
said-or-not (d ∷ trail) k = chosen (d.atom == k) refl (said-or-not trail k)
  where
    chosen : (b : Bool) → (d.atom == k) ≡ b → IsSaid trail k ⊎ IsUndecided trail k → IsSaid (d ∷ trail) k ⊎ IsUndecided (d ∷ trail) k
    chosen true e _ = inl (d.holds, inl (λ i. decided ((Decides-eqb d.atom k).0 e i) d.holds))
    chosen false e (inl h) = inl (h.0, inr h.1)
    chosen false e (inr h) = inr never
      where
        never : (b : Bool) → Has (d ∷ trail) (decided k b) → ⊥
        never b (inl f) = true≢false (sym ((Decides-eqb d.atom k).1 (ap (λ (z : Decided). z.atom) f)) ∙ e)
        never b (inr f) = h b f

-- quiet instances
some-quiet : (ts : List ValueTree) (trail : List Decided) (is : List ℕ) → ((n : ℕ) → Has is n → IsQuiet ts trail (truth_at ts n)) → SomeFalse (truths_at ts is) (literals_at ts trail) → ⊥
some-quiet ts trail [] q h = h
some-quiet ts trail (i ∷ is) q (inl h) = (q i (inl refl)).not_false h
some-quiet ts trail (i ∷ is) q (inr h) = some-quiet ts trail is (λ n g. q n (inr g)) h

some-forced : (ts : List ValueTree) (trail : List Decided) (d : Decided) (is : List ℕ) → ((n : ℕ) → Has is n → IsQuiet ts trail (truth_at ts n)) → SomeFalse (truths_at ts is) (literals_at ts (opposite_of d ∷ trail)) → Has trail d
some-forced ts trail d [] q h = absurd h
some-forced ts trail d (i ∷ is) q (inl h) = (q i (inl refl)).forced d h
some-forced ts trail d (i ∷ is) q (inr h) = some-forced ts trail d is (λ n g. q n (inr g)) h

false-here : (ts : List ValueTree) (ls : List LiteralTree) (is : List ℕ) (j n : ℕ) → slice_get is j ≡ Some n → IsFalse ls (truth_at ts n) → SomeFalse (truths_at ts is) ls
false-here ts ls [] j n e h = absurd (let l : j < 0 = slice_get_within [] j n e in omega (arith, l))
false-here ts ls (i ∷ is) zero n e h = let f : i ≡ n = cc in inl (subst (λ k. IsFalse ls (truth_at ts k)) (sym f) h)
false-here ts ls (i ∷ is) (suc j) n e h = inr (false-here ts ls is j n e h)

-- the first ones of a list
pub taken-has : {X : Type 0} (c : ℕ) (xs : List X) (x : X) → Has (take c xs) x → Has xs x
taken-has zero xs x h = absurd h
taken-has (suc c) [] x h = h
taken-has (suc c) (y ∷ xs) x (inl e) = inl e
taken-has (suc c) (y ∷ xs) x (inr h) = inr (taken-has c xs x h)

module _ (p : Problem) (b : Branch) (h : IsBranch p [] b) where
  abbrev ts : List ValueTree
  ts = nodes p.table

  abbrev us : List ValueTree
  us = nodes b.classes.table

  abbrev is : List FormulaTree
  is = instances_in ts p

  abbrev ds : List LiteralTree
  ds = literals_at ts b.decisions.items

  -- each literal of the trail is added by propagation
  abbrev Added : Decided → Type 0
  Added d = Propagated is ds (literal_tree_at ts d)

  all-added : (xs : List Decided) → ((d : Decided) → Has xs d → Added d) → AllPropagated is ds (literals_at ts xs)
  all-added [] f = none
  all-added (d ∷ xs) f = more (literal_tree_at ts d) (literals_at ts xs) (f d (inl refl)) (all-added xs (λ e g. f e (inr g)))

  equal-added : (had : List Decided) (d : Decided) (holds yes : Bool) → d.holds ≡ holds → is_equality (truth_at ts d.atom) ≡ yes → (is_equality (truth_at ts d.atom) ≡ true → d.holds ≡ true) → AllPropagated is ds (literals_at ts had) → IsGroundAtom is (truth_at ts d.atom) → Follows (literals_at ts had) (literal_tree_at ts d) → Added d
  equal-added had d holds false e f may all at follows = other (literals_at ts had) (literal_tree_at ts d) all at f follows
  equal-added had d holds true e f may all at follows =
      let same : literal_tree_at ts d ≡ literal (truth_at ts d.atom) true = λ i. literal (truth_at ts d.atom) (may f i) in
      subst (Propagated is ds) (sym same) (equal (literals_at ts had) (truth_at ts d.atom) all at f (subst (Follows (literals_at ts had)) same follows))

  one-added : (n : ℕ) (d : Decided) (r : Reason) → ((e : Decided) → Has (take n b.trail) e → Added e) → Has b.trail d → Why ts p b.decisions.items (take n b.trail) d r → Added d
  one-added n d reason.Decision before there why = given (literal_tree_at ts d) (has-listed ts b.decisions.items d why)
  one-added n d (reason.Instance place) before there why =
      forced (literals_at ts (take n b.trail)) (literal_tree_at ts d) (all-added (take n b.trail) before) (h.problem.posed.occurrences.stand d.atom (h.over_atoms d there))
      (false-here ts (literals_at ts (opposite_of d ∷ take n b.trail)) p.instances.items place why.instance why.here why.makes_false)
  one-added n d (reason.Equality count) before there why =
      equal-added (take count (take n b.trail)) d d.holds (is_equality (truth_at ts d.atom)) refl refl why.may
      (all-added (take count (take n b.trail)) (λ e g. before e (taken-has count (take n b.trail) e g)))
      (h.problem.posed.occurrences.stand d.atom (h.over_atoms d there)) why.implied

  reason-at : (n : ℕ) → n < length b.trail → (r : Reason) × (slice_get b.reasons.items n ≡ Some r)
  reason-at n lt = let same = h.reasoned in (get_or b.reasons.items n reason.Decision, slice_get-get_or b.reasons.items n reason.Decision (omega (arith, lt, same)))

  first-added : (n : ℕ) → n ≤ length b.trail → (d : Decided) → Has (take n b.trail) d → Added d
  first-added zero le d g = absurd g
  first-added (suc n) le d g =
      let x : Decided = get_or b.trail n (decided 0 true) in
      let here : slice_get b.trail n ≡ Some x = slice_get-get_or b.trail n (decided 0 true) (omega (arith, le)) in
      let why = reason-at n (omega (arith, le)) in
      let before = first-added n (omega (arith, le)) in
      elim (take-has b.trail n x d here (subst (λ k. Has (take k b.trail) d) (sym (add-one n)) g)) [
        | inl old ↦ before d old
        | inr e ↦ subst Added e (one-added n x why.0 before (has-at b.trail n x here) (h.justified n x why.0 here why.1))
      ]

  pub trail-added : AllPropagated is ds (literals_at ts b.trail)
  trail-added = all-added b.trail (λ d g. first-added (length b.trail) (omega arith) d (subst (λ (xs : List Decided). Has xs d) (sym (take_all (length b.trail) b.trail (omega arith))) g))

  module _ (over : drop b.head b.waiting.items ≡ []) (told : length b.classes.said ≡ length b.trail) (met : IsUnmet us b.classes.said → ⊥) (followed : (k : ℕ) → Has p.ground.atoms k → IsUnforced p b k) where
    whole-told : AreSpoken us ts b.trail b.classes.said
    whole-told = subst (λ (xs : List Decided). AreSpoken us ts xs b.classes.said) (take_all (length b.classes.said) b.trail (omega (arith, told))) h.spoken

    all-quiet : (n : ℕ) → Has p.instances.items n → IsQuiet ts b.trail (truth_at ts n)
    all-quiet n g = let there = place-of p.instances.items n g in chosen there.0 (h.quiet there.0 n there.1)
      where
        chosen : (j : ℕ) → ⊥ ⊎ (Has (drop b.head b.waiting.items) j ⊎ IsQuiet ts b.trail (truth_at ts n)) → IsQuiet ts b.trail (truth_at ts n)
        chosen j (inl f) = absurd f
        chosen j (inr (inl f)) = absurd (subst (λ (xs : List ℕ). Has xs j) over f)
        chosen j (inr (inr f)) = f

    -- a structure that meets what was told meets the trail
    met-trail : (m : NumberStructure) → Meets m (literals us b.classes.said) → Meets m (literals_at ts b.trail)
    met-trail m g = told-meets m us ts b.trail b.classes.said whole-told g

    -- what follows of an atom is said of it
    follows-said : (k : ℕ) (p q : Bool) → q ≡ p → Has b.trail (decided k q) → Has b.trail (decided k p)
    follows-said k p q e g = subst (λ z. Has b.trail (decided k z)) e g

    contrary : (k : ℕ) (holds : Bool) → Has b.trail (decided k (not holds)) → Follows (literals_at ts b.trail) (literal_tree_at ts (decided k holds)) → ⊥
    contrary k holds g follows = met (λ m mt. not-opposites m (truth_at ts k) holds (follows m (met-trail m mt)) (meets-listed m (literals_at ts b.trail) (literal_tree_at ts (decided k (not holds))) (has-listed ts b.trail (decided k (not holds)) g) (met-trail m mt)))

    follows-listed : (k : ℕ) (holds : Bool) → Has p.ground.atoms k → (is_equality (truth_at ts k) ≡ true → holds ≡ true) → Follows (literals_at ts b.trail) (literal_tree_at ts (decided k holds)) → Has b.trail (decided k holds)
    follows-listed k holds at may follows = chosen holds may follows (said-or-not b.trail k)
      where
        chosen : (holds : Bool) → (is_equality (truth_at ts k) ≡ true → holds ≡ true) → Follows (literals_at ts b.trail) (literal_tree_at ts (decided k holds)) → IsSaid b.trail k ⊎ IsUndecided b.trail k → Has b.trail (decided k holds)
        chosen true may follows (inl (true, g)) = g
        chosen true may follows (inl (false, g)) = absurd (contrary k true g follows)
        chosen false may follows (inl (true, g)) = absurd (contrary k false g follows)
        chosen false may follows (inl (false, g)) = g
        chosen holds may follows (inr undecided) = absurd (followed k at undecided holds may (λ m mt. follows m (met-trail m mt)))

    -- the node of a ground atom
    node-of : (a : FormulaTree) → IsGroundAtom is a → (k : ℕ) × (Has p.ground.atoms k × (truth_at ts k ≡ a))
    node-of a at = h.problem.posed.occurrences.all a at

    forced-listed : (l : LiteralTree) → IsGroundAtom is l.atom → SomeFalse is (opposite l ∷ literals_at ts b.trail) → IsListed (literals_at ts b.trail) l
    forced-listed l at f =
        let there = node-of l.atom at in
        let d : Decided = decided there.0 l.holds in
        let same : literal_tree_at ts d ≡ l = λ i. literal (there.1.1 i) l.holds in
        let false-so : SomeFalse is (opposite (literal_tree_at ts d) ∷ literals_at ts b.trail) = subst (λ (z : LiteralTree). SomeFalse is (opposite z ∷ literals_at ts b.trail)) (sym same) f in
        subst (IsListed (literals_at ts b.trail)) same (has-listed ts b.trail d (some-forced ts b.trail d p.instances.items all-quiet false-so))

    either-listed : (l : LiteralTree) → IsGroundAtom is l.atom → (is_equality l.atom ≡ true → l.holds ≡ true) → Follows (literals_at ts b.trail) l → IsListed (literals_at ts b.trail) l
    either-listed l at may follows =
        let there = node-of l.atom at in
        let d : Decided = decided there.0 l.holds in
        let same : literal_tree_at ts d ≡ l = λ i. literal (there.1.1 i) l.holds in
        subst (IsListed (literals_at ts b.trail)) same
        (has-listed ts b.trail d (follows-listed there.0 l.holds there.1.0 (λ e. may (sym (ap is_equality there.1.1) ∙ e)) (subst (Follows (literals_at ts b.trail)) (sym same) follows)))

    pub is-fixpoint : fix.IsFixpoint is ds (literals_at ts b.trail)
    is-fixpoint = record {
      begins = are-listed ts b.trail b.decisions.items h.decided;
      added = trail-added;
      fixed = record {
        none_false = some-quiet ts b.trail p.instances.items all-quiet;
        forced = forced-listed;
        equal = λ a at e follows. either-listed (literal a true) at (λ f. refl) follows;
        other = λ l at e follows. either-listed l at (λ f. absurd (true≢false (sym f ∙ e))) follows;
        met = λ none_meets. met (λ m mt. none_meets m (met-trail m mt));
      };
    }

-- a trail that isn't longer is the same
pub not-longer : (p : Problem) (old new : Branch) → length new.trail ≡ length old.trail → Moved p old new → (new.trail ≡ old.trail) × (new.waiting.items ≡ old.waiting.items)
not-longer p old new e (inl h) = h
not-longer p old new e (inr h) = absurd (let longer = h.0 in omega (arith, longer, e))
