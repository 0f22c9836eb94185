-- Some instance is false exactly where the one at a place is.
use Rattle.std.proofs.Common.{◌≡◌, refl, sym, subst, ℕ, zero, suc, ◌<◌, arith, List, [], ◌∷◌, inl, inr, Some, slice_get}
use Rattle.std.proofs.lemmas.Option.{slice_get_within, same_Some}
use Rattle.jh_form.specs.Tree.{ValueTree}
use Rattle.jh_closure.specs.structures.Literals.{LiteralTree}
use Rattle.jh_closure.specs.congruence_closure.Nodes.{Has}
use Rattle.jh_models.specs.ground_models.Truths.{IsFalse, SomeFalse}
use Rattle.jh_models.specs.ground_models.Clashes.{Clash}
use Rattle.jh_models.proofs.ground_models.Growing.{clash-more, false-more}
use Rattle.jh_propagation.specs.declared.trail.decided.Decided.{Decided}
use Rattle.jh_propagation.specs.trail.Saying.{truth_at, truths_at, literals_at}
use Rattle.jh_propagation.specs.declared.propagation.problem.Problem.{Problem}
use Rattle.jh_propagation.specs.propagation.Problems.{instances_in}
use Rattle.jh_explanations.proofs.Lists.{all-listed}

pub record FalseHere (ts : List ValueTree) (ls : List LiteralTree) (ns : List ℕ) (place : ℕ) : Type 0 where
  pub node : ℕ
  pub here : slice_get ns place ≡ Some node
  pub is_false : IsFalse ls (truth_at ts node)

pub false-at : (ts : List ValueTree) (ls : List LiteralTree) (ns : List ℕ) → SomeFalse (truths_at ts ns) ls → (place : ℕ) × FalseHere ts ls ns place
false-at ts ls [] h = absurd h
false-at ts ls (n ∷ ns) (inl h) = (zero, record { node = n; here = refl; is_false = h })
false-at ts ls (n ∷ ns) (inr h) = let r = false-at ts ls ns h in (suc r.0, record { node = r.1.node; here = r.1.here; is_false = r.1.is_false })

pub at-false : (ts : List ValueTree) (ls : List LiteralTree) (ns : List ℕ) (place n : ℕ) → slice_get ns place ≡ Some n → IsFalse ls (truth_at ts n) → SomeFalse (truths_at ts ns) ls
at-false ts ls [] place n e h = absurd (let l : place < 0 = slice_get_within [] place n e in omega (arith, l))
at-false ts ls (m ∷ ns) zero n e h = inl (subst (λ k. IsFalse ls (truth_at ts k)) (sym (same_Some m n e)) h)
at-false ts ls (m ∷ ns) (suc place) n e h = inr (at-false ts ls ns place n e h)

-- more literals clash more
pub clash-grows : (ts : List ValueTree) (p : Problem) (ks ls : List Decided) → ((d : Decided) → Has ls d → Has ks d) → Clash (instances_in ts p) (literals_at ts ls) → Clash (instances_in ts p) (literals_at ts ks)
clash-grows ts p ks ls f h = clash-more (literals_at ts ls) (literals_at ts ks) (all-listed ts ks ls f) (instances_in ts p) h

-- an instance that fewer literals make false
pub false-clashes : (ts : List ValueTree) (p : Problem) (ks ls : List Decided) → ((d : Decided) → Has ls d → Has ks d) → (place n : ℕ) → slice_get p.instances.items place ≡ Some n → IsFalse (literals_at ts ls) (truth_at ts n) → Clash (instances_in ts p) (literals_at ts ks)
false-clashes ts p ks ls f place n e h = inr (at-false ts (literals_at ts ks) p.instances.items place n e (false-more (literals_at ts ls) (literals_at ts ks) (all-listed ts ks ls f) (truth_at ts n) h))
