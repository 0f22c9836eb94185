-- Literals that follow by equality.
use Rattle.std.proofs.Common.{◌≡◌, sym, ◌∙◌, subst, ℕ, ◌<◌, arith, Bool, true, false, List, [], ◌∷◌, ◌++◌, length, take, inl, inr}
use Rattle.std.proofs.lemmas.Bool.{true≢false}
use Rattle.jh_form.specs.Tree.{ValueTree}
use Rattle.jh_arena.specs.table.Nodes.{nodes}
use Rattle.jh_models.specs.ground_models.Atoms.{is_equality}
use Rattle.jh_cong.specs.classes.Saying.{Entails}
use Rattle.jh_cong.specs.declared.classes.literal.Said.{Said}
use Rattle.jh_propagation.specs.declared.trail.decided.Decided.{Decided}
use Rattle.jh_propagation.specs.trail.Listing.{decided}
use Rattle.jh_propagation.specs.trail.Saying.{truth_at}
use Rattle.jh_propagation.specs.declared.propagation.problem.Problem.{Problem}
use Rattle.jh_propagation.specs.declared.propagation.branch.Branch.{Branch}
use Rattle.jh_propagation.specs.propagation.Branches.{IsEqual, Parts, AreParts, Moved, left_over, undecided_count}
use Rattle.jh_propagation.specs.propagation.Speaking.{Speaks, IsTold, MayFollow}
use Rattle.jh_propagation.proofs.propagation.Saids.{meets-told}

module _ (us ts : List ValueTree) (told : List Said) (l r : ℕ) (d : Decided) (speaks : Speaks us ts (record { left = l; right = r; holds = true }) d) where
  pub entailed-told : Entails us told l r → IsTold us ts told d
  entailed-told h = λ m met. (speaks.same m).0 (h m met)

  pub told-entailed : IsTold us ts told d → Entails us told l r
  told-entailed h = λ m met. (speaks.same m).1 (h m met)

-- what was told follows from the literals that were told
pub implied-equal : (p : Problem) (busy : List ℕ) (b : Parts) → AreParts p busy b → (k : ℕ) (holds : Bool) → MayFollow (nodes p.table) (decided k holds) → IsTold (nodes b.classes.table) (nodes p.table) b.classes.said (decided k holds) → IsEqual (nodes p.table) b.trail (decided k holds) (length b.classes.said)
implied-equal p busy b h k holds may told = record {
  inside = h.told;
  may = may;
  implied = λ m met. told m (meets-told m (nodes b.classes.table) (nodes p.table) (take (length b.classes.said) b.trail) b.classes.said h.spoken met);
}

-- no equation may follow either way
pub may-both : (trees : List ValueTree) (k : ℕ) (holds : Bool) → is_equality (truth_at trees k) ≡ false → MayFollow trees (decided k holds)
may-both trees k holds none some = absurd (true≢false (sym some ∙ none))

pub moved-twice : (p : Problem) (a b c : Branch) → Moved p a b → Moved p b c → Moved p a c
moved-twice p a b c (inl e) (inl f) = inl (f.0 ∙ e.0, f.1 ∙ e.1)
moved-twice p a b c (inl e) (inr f) = inr (subst (λ (xs : List Decided). length xs < length c.trail) e.0 f.0, subst (λ (xs : List Decided). undecided_count p c < left_over (λ k. 1) xs p.ground.atoms) e.0 f.1)
moved-twice p a b c (inr e) (inl f) = inr (subst (λ (xs : List Decided). length a.trail < length xs) (sym f.0) e.0, subst (λ (xs : List Decided). left_over (λ k. 1) xs p.ground.atoms < undecided_count p a) (sym f.0) e.1)
moved-twice p a b c (inr e) (inr f) =
    let one = e.0 in
    let two = f.0 in
    let three = e.1 in
    let four = f.1 in
    inr (omega (arith, one, two), omega (arith, three, four))
