-- Branches in which nothing is decided.
use Rattle.std.proofs.Common.{◌≡◌, refl, sym, ap, subst, ℕ, zero, suc, ◌+◌, ◌<◌, ◌↔◌, arith, List, [], ◌∷◌, ◌++◌, length, Some, slice_get, ◌⊎◌, inl, inr}
use Rattle.std.proofs.lemmas.Option.{slice_get_within}
use Rattle.jh_arena.specs.table.Nodes.{nodes}
use Rattle.jh_closure.specs.congruence_closure.Nodes.{Has}
use Rattle.jh_closure.proofs.congruence_closure.Having.{has-left, has-last, has-pushed}
use Rattle.jh_propagation.specs.declared.propagation.problem.Problem.{Problem}
use Rattle.jh_propagation.specs.propagation.Problems.{IsProblem}
use Rattle.jh_propagation.specs.propagation.Branches.{Parts, AreParts}

-- one place more
pub below-more : (xs : List ℕ) (n : ℕ) → ((j : ℕ) → Has xs j ↔ (j < n)) → (j : ℕ) → Has (xs ++ n ∷ []) j ↔ (j < n + 1)
below-more xs n h j = (there, back)
  where
    there : Has (xs ++ n ∷ []) j → j < n + 1
    there g = elim (has-pushed xs n j g) [ inl l ↦ (let lt : j < n = (h j).0 l in omega (arith, lt)) | inr e ↦ omega (arith, e) ]

    back : j < n + 1 → Has (xs ++ n ∷ []) j
    back lt = chosen (less-or-same j n lt)
      where
        less-or-same : (j n : ℕ) → j < n + 1 → (j < n) ⊎ (n ≡ j)
        less-or-same zero zero lt = inr refl
        less-or-same zero (suc n) lt = inl (omega arith)
        less-or-same (suc j) zero lt = absurd (omega (arith, lt))
        less-or-same (suc j) (suc n) lt = elim (less-or-same j n (omega (arith, lt))) [ inl l ↦ inl (omega (arith, l)) | inr e ↦ inr (ap suc e) ]

        chosen : (j < n) ⊎ (n ≡ j) → Has (xs ++ n ∷ []) j
        chosen (inl l) = has-left xs (n ∷ []) j ((h j).1 l)
        chosen (inr e) = subst (Has (xs ++ n ∷ [])) e (has-last xs n)

-- nothing is decided, and every instance waits
pub nothing-decided : (p : Problem) (b : Parts) → IsProblem (nodes b.classes.table) p → b.decisions ≡ [] → b.classes.said ≡ [] → b.trail ≡ [] → b.reasons ≡ [] → b.head ≡ 0 → ((j : ℕ) → Has b.waiting j ↔ (j < length p.instances.items)) → AreParts p [] b
nothing-decided p b problem ds ss ts rs hs ws =
    subst (AreParts p []) (λ i. record { decisions = sym ds i; classes = record { table = b.classes.table; said = sym ss i }; trail = sym ts i; reasons = sym rs i; waiting = b.waiting; head = sym hs i }) (record {
      problem = problem;
      over_atoms = λ d h. absurd h;
      decided = λ d h. absurd h;
      reasoned = refl;
      justified = λ n d r e f. absurd (nowhere n d e);
      counts = λ n count e. absurd (nowhere n _ e);
      rising = λ m n first later le e f. absurd (nowhere m _ e);
      told = omega arith;
      spoken = tt;
      begun = omega arith;
      waits = λ j h. (ws j).0 h;
      quiet = λ j n e. inr (inl ((ws j).1 (slice_get_within p.instances.items j n e)));
    })
  where
    nowhere : {X : Type 0} (n : ℕ) (x : X) → slice_get [] n ≡ Some x → ⊥
    nowhere n x e = let lt : n < 0 = slice_get_within [] n x e in omega (arith, lt)
