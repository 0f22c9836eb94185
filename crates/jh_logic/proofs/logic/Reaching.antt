-- Formulas that are weakest preconditions say of predicates what they are to.
use Rattle.std.proofs.Common.{◌≡◌, sym, ◌∙◌, Bool, true, false, not, ◌||◌, List, [], ◌∷◌, ◌++◌}
use Rattle.std.proofs.lemmas.Bool.{true≢false}
use Rattle.jh_form.specs.Tree.{FormulaTree}
use Rattle.jh_form.specs.Meaning.{Interp, truth}
use Rattle.jh_form.proofs.ClosedLemmas.{both-left, both-right}
use Rattle.jh_boxed_operations.proofs.substitution.Substitutions.{truth-substituted}
use Rattle.jh_wp.proofs.Renamings.{truth-renamed}
use Rattle.jh_wp.specs.Command.{CommandTree, CommandTrees, assume, assert, assign, havoc, leave, stop, seq, choice, none, more, is_closed_command, are_closed_commands}
use Rattle.jh_wp.specs.Wp.{wp, wp_all}
use Rattle.jh_guard.specs.Terms.{Check}
use Rattle.jh_guard.specs.Laws.{AllPass}
use Rattle.jh_guard.specs.Steps.{steps, assert_checks}
use Rattle.jh_logic.specs.logic.Reached.{Reached, ReachedAll, After}

-- a formula is true
abbrev pub True : FormulaTree → Interp → Type 0
True f m = truth f m [] ≡ true

implied : (b d : Bool) → (not b || d) ≡ true → b ≡ true → d ≡ true
implied true d h e = h
implied false d h e = absurd (true≢false (sym e))

mutual
  unfolding wp wp_all is_closed_command are_closed_commands

  pub wp-reached : (c : CommandTree) → is_closed_command c ≡ true → (q r : FormulaTree) (Q : Interp → Type 0) → ((m : Interp) → True q m → Q m) → (m : Interp) → True (wp c q r) m → Reached (True r) c Q m
  wp-reached (assume f) closed q r Q give m h = λ e. give m (implied (truth f m []) (truth q m []) h e)
  wp-reached (assert f) closed q r Q give m h = (both-left (truth f m []) (truth q m []) h, give m (both-right (truth f m []) (truth q m []) h))
  wp-reached (assign x v) closed q r Q give m h = give _ (sym (truth-substituted q x v closed m []) ∙ h)
  wp-reached (havoc x y) closed q r Q give m h = give _ (sym (truth-renamed q x y m []) ∙ h)
  wp-reached leave closed q r Q give m h = h
  wp-reached stop closed q r Q give m h = tt
  wp-reached (seq cs) closed q r Q give m h = wp-reached-all cs closed q r Q give m h
  wp-reached (choice a b) closed q r Q give m h = (
    wp-reached a (both-left (is_closed_command a) (is_closed_command b) closed) q r Q give m (both-left (truth (wp a q r) m []) (truth (wp b q r) m []) h),
    wp-reached b (both-right (is_closed_command a) (is_closed_command b) closed) q r Q give m (both-right (truth (wp a q r) m []) (truth (wp b q r) m []) h),
  )

  pub wp-reached-all : (cs : CommandTrees) → are_closed_commands cs ≡ true → (q r : FormulaTree) (Q : Interp → Type 0) → ((m : Interp) → True q m → Q m) → (m : Interp) → True (wp_all cs q r) m → ReachedAll (True r) cs Q m
  wp-reached-all none closed q r Q give m h = give m h
  wp-reached-all (more c cs) closed q r Q give m h =
      wp-reached c (both-left (is_closed_command c) (are_closed_commands cs) closed) (wp_all cs q r) r (λ n. ReachedAll (True r) cs Q n)
      (λ n k. wp-reached-all cs (both-right (is_closed_command c) (are_closed_commands cs) closed) q r Q give n k) m h

module _ (R : Interp → Type 0) where
  -- a predicate may be put for one that follows from it
  mutual
    pub reached-weaker : (c : CommandTree) (P Q : Interp → Type 0) → ((m : Interp) → P m → Q m) → (m : Interp) → Reached R c P m → Reached R c Q m
    reached-weaker (assume f) P Q w m h = λ e. w m (h e)
    reached-weaker (assert f) P Q w m h = (h.0, w m h.1)
    reached-weaker (assign x v) P Q w m h = w _ h
    reached-weaker (havoc x y) P Q w m h = w _ h
    reached-weaker leave P Q w m h = h
    reached-weaker stop P Q w m h = h
    reached-weaker (seq cs) P Q w m h = reached-weaker-all cs P Q w m h
    reached-weaker (choice a b) P Q w m h = (reached-weaker a P Q w m h.0, reached-weaker b P Q w m h.1)

    reached-weaker-all : (cs : CommandTrees) (P Q : Interp → Type 0) → ((m : Interp) → P m → Q m) → (m : Interp) → ReachedAll R cs P m → ReachedAll R cs Q m
    reached-weaker-all none P Q w m h = w m h
    reached-weaker-all (more c cs) P Q w m h = reached-weaker c (λ n. ReachedAll R cs P n) (λ n. ReachedAll R cs Q n) (λ n k. reached-weaker-all cs P Q w n k) m h

  -- a list of steps is one after the other
  pub after-steps : (cs : List CommandTree) (Q : Interp → Type 0) (m : Interp) → ReachedAll R (steps cs) Q m → After R cs Q m
  after-steps [] Q m h = h
  after-steps (c ∷ cs) Q m h = reached-weaker c (λ n. ReachedAll R (steps cs) Q n) (λ n. After R cs Q n) (λ n k. after-steps cs Q n k) m h

  pub after-append : (cs ds : List CommandTree) (Q : Interp → Type 0) (m : Interp) → After R (cs ++ ds) Q m → After R cs (λ n. After R ds Q n) m
  after-append [] ds Q m h = h
  after-append (c ∷ cs) ds Q m h = reached-weaker c (λ n. After R (cs ++ ds) Q n) (λ n. After R cs (λ n. After R ds Q n) n) (λ n k. after-append cs ds Q n k) m h

  -- asserted checks pass
  pub after-checks : (checks : List Check) (Q : Interp → Type 0) (m : Interp) → After R (assert_checks checks) Q m → AllPass checks m × Q m
  after-checks [] Q m h = (tt, h)
  after-checks (check ∷ checks) Q m h = let rest = after-checks checks Q m h.1 in ((h.0, rest.0), rest.1)

  -- checks and then other steps
  pub checked : (checks : List Check) (ds : List CommandTree) (Q : Interp → Type 0) (m : Interp) → After R (assert_checks checks ++ ds) Q m → AllPass checks m × After R ds Q m
  checked checks ds Q m h = after-checks checks (λ n. After R ds Q n) m (after-append (assert_checks checks) ds Q m h)
