-- Which facts are linked.
use Rattle.std.proofs.Common.{◌≡◌, refl, sym, subst, ℕ, zero, suc, Bool, true, false, if◌then◌else◌, List, [], ◌∷◌, length, map, ◌⊎◌, inl, inr}
use Rattle.std.specs.List.{flat_map}
use Rattle.std.proofs.lemmas.Bool.{true≢false}
use Rattle.std.proofs.lemmas.List.{length-map}
use Rattle.jh_form.specs.Tree.{ValueTree, FormulaTree}
use Rattle.jh_derivation_rules.specs.jh_seq.sequent.Sequents.{HypTree, SequentTree}
use Rattle.jh_approx.specs.definition.Links.{shares, reached, fact_links, is_linked}
use Rattle.jh_approx.specs.definition.Laws.{IsHyp, goal_links, LinksRight, LinkedIsLeast}
use Rattle.jh_approx.proofs.definition.Closures.{has, Within, has-append, linked, round, some-shared, shared-some, shares-grow, Closed, reached-grows, reached-closed}

module _ (s : SequentTree) where
  links_of : HypTree → List ValueTree
  links_of h = fact_links s h.fact

  module _ (p : FormulaTree → Bool) (by_goal : (a : FormulaTree) → shares (fact_links s a) (goal_links s) ≡ true → p a ≡ true) (by_linked : (h : HypTree) (a : FormulaTree) → IsHyp h s.hyps → p h.fact ≡ true → shares (fact_links s a) (fact_links s h.fact) ≡ true → p a ≡ true) where
    -- a name comes from the goal, or from a hypothesis that passes
    Comes : ValueTree → Type 0
    Comes v = (has (goal_links s) v ≡ true) ⊎ ((h : HypTree) × IsHyp h s.hyps × (p h.fact ≡ true) × (has (fact_links s h.fact) v ≡ true))

    abbrev AllCome : List ValueTree → Type 0
    AllCome known = (v : ValueTree) → has known v ≡ true → Comes v

    comes-passes : (a : FormulaTree) (v : ValueTree) → has (fact_links s a) v ≡ true → Comes v → p a ≡ true
    unfolding Comes
    comes-passes a v h (inl k) = by_goal a (shared-some (fact_links s a) (goal_links s) v h k)
    comes-passes a v h (inr r) = by_linked r.0 a r.1 r.2 (shared-some (fact_links s a) (fact_links s r.0.fact) v h r.3)

    sharing-passes : (known : List ValueTree) → AllCome known → (a : FormulaTree) → shares (fact_links s a) known ≡ true → p a ≡ true
    sharing-passes known come a h = let r = some-shared (fact_links s a) known h in comes-passes a r.0 r.1 (come r.0 r.2)

    one-comes : (known : List ValueTree) → AllCome known → (h : HypTree) → IsHyp h s.hyps → (b : Bool) → shares (links_of h) known ≡ b → (v : ValueTree) → has (if b then links_of h else []) v ≡ true → Comes v
    unfolding Comes links_of
    one-comes known come h is true e v k = inr (h, is, sharing-passes known come h.fact e, k)
    one-comes known come h is false e v k = absurd (true≢false (sym k))

    added-come : (known : List ValueTree) → AllCome known → (hs : List HypTree) → ((h : HypTree) → IsHyp h hs → IsHyp h s.hyps) → (v : ValueTree) → has (flat_map (linked known) (map links_of hs)) v ≡ true → Comes v
    added-come known come [] all v k = absurd (true≢false (sym k))
    added-come known come (h ∷ hs) all v k =
        elim (has-append (linked known (links_of h)) (flat_map (linked known) (map links_of hs)) v k) [
          | inl l ↦ one-comes known come h (all h (inl refl)) (shares (links_of h) known) refl v l
          | inr r ↦ added-come known come hs (λ g is. all g (inr is)) v r
        ]

    round-comes : (known : List ValueTree) → AllCome known → AllCome (round (map links_of s.hyps) known)
    round-comes known come v h =
        elim (has-append known (flat_map (linked known) (map links_of s.hyps)) v h) [
          | inl l ↦ come v l
          | inr r ↦ added-come known come s.hyps (λ g is. is) v r
        ]

    reached-come : (n : ℕ) (known : List ValueTree) → AllCome known → AllCome (reached n (map links_of s.hyps) known)
    unfolding reached
    reached-come zero known come = come
    reached-come (suc n) known come = reached-come n (round (map links_of s.hyps) known) (round-comes known come)

    goal-comes : AllCome (goal_links s)
    unfolding Comes
    goal-comes v h = inl h

    linked-passes : (a : FormulaTree) → is_linked s a ≡ true → p a ≡ true
    unfolding is_linked links_of
    linked-passes a h = sharing-passes (reached (length s.hyps) (map links_of s.hyps) (goal_links s)) (reached-come (length s.hyps) (goal_links s) goal-comes) a h

  -- the names of a linked hypothesis are reached
  all_reached : List ValueTree
  all_reached = reached (length s.hyps) (map links_of s.hyps) (goal_links s)

  all-closed : Closed (map links_of s.hyps) all_reached
  unfolding all_reached
  all-closed = subst (λ (n : ℕ). Closed (map links_of s.hyps) (reached n (map links_of s.hyps) (goal_links s))) (length-map s.hyps links_of) (reached-closed (map links_of s.hyps) (goal_links s))

  hyp-within : (hs : List HypTree) (known : List ValueTree) → Closed (map links_of hs) known → (h : HypTree) → IsHyp h hs → shares (links_of h) known ≡ true → Within (links_of h) known
  hyp-within [] known c h is e = absurd is
  hyp-within (k ∷ hs) known c h (inl same) e = subst (λ (g : HypTree). Within (links_of g) known) same (c.0 (subst (λ (g : HypTree). shares (links_of g) known ≡ true) (sym same) e))
  hyp-within (k ∷ hs) known c h (inr is) e = hyp-within hs known c.1 h is e

  links-right : LinksRight s
  unfolding is_linked all_reached links_of
  links-right = record {
    by_goal = λ a h. shares-grow (fact_links s a) (goal_links s) all_reached (reached-grows (length s.hyps) (map links_of s.hyps) (goal_links s)) h;
    by_linked = λ h a is e k. shares-grow (fact_links s a) (fact_links s h.fact) all_reached (hyp-within s.hyps all_reached all-closed h is e) k;
    by_nothing_else = λ p by_goal by_linked a h. linked-passes p by_goal by_linked a h;
  }

pub linked-least : LinkedIsLeast
linked-least s = links-right s
