-- Branches in which nothing more follows by equality, and what stays so.
use Rattle.std.proofs.Common.{◌≡◌, sym, ap, ◌∙◌, subst, ℕ, zero, suc, ◌≤◌, arith, Bool, true, false, List, [], ◌∷◌, ◌++◌, length, take, Option, None}
use Rattle.std.specs.Prelude.{IfNone}
use Rattle.jh_form.specs.Tree.{ValueTree}
use Rattle.jh_arena.specs.table.Nodes.{nodes}
use Rattle.jh_closure.specs.congruence_closure.Nodes.{Has}
use Rattle.jh_closure.proofs.congruence_closure.Having.{has-left, has-last}
use Rattle.jh_closure.specs.structures.Literals.{Meets}
use Rattle.jh_cong.specs.flattening.TreeValues.{NumberStructure}
use Rattle.jh_cong.specs.classes.Saying.{Asserted, CanBeSaid, Entails, literals}
use Rattle.jh_cong.specs.declared.classes.literal.Said.{Said}
use Rattle.jh_propagation.specs.declared.trail.decided.Decided.{Decided}
use Rattle.jh_propagation.specs.trail.Listing.{decided}
use Rattle.jh_propagation.specs.declared.propagation.problem.Problem.{Problem}
use Rattle.jh_propagation.specs.declared.propagation.branch.Branch.{Branch}
use Rattle.jh_propagation.specs.propagation.Branches.{IsLonger, IsUnforced}
use Rattle.jh_propagation.specs.propagation.Resting.{IsAtRest, IsResting, IsUntold}
use Rattle.jh_propagation.proofs.propagation.Implied.{told-entailed}

pub resting-unforced : (p : Problem) (b : Branch) (k : ℕ) → IsResting p b k → IsUnforced p b k
resting-unforced p b k h undecided holds may told =
    let u = h undecided holds may in
    u.apart (told-entailed (nodes b.classes.table) (nodes p.table) b.classes.said u.left u.right (decided k holds) u.speaks told)

-- what holds where nothing was found
pub none-so : {X : Type 0} {P : Type 0} (o : Option X) → o ≡ None → IfNone o P → P
none-so {P} o e h = subst (λ x. IfNone x P) e h

-- what is so of either truth
pub either-way : (P : Bool → Type 0) → P true → P false → (b : Bool) → P b
either-way P h f true = h
either-way P h f false = f

-- what doesn't follow doesn't with more literals in the trail
pub resting-more : (p : Problem) (old new : Branch) (more : List Decided) → new.classes ≡ old.classes → new.trail ≡ old.trail ++ more → (k : ℕ) → IsResting p old k → IsResting p new k
resting-more p old new more cs trails k h undecided holds may =
    subst (λ (a : Asserted). IsUntold (nodes a.table) (nodes p.table) a.said (decided k holds)) (sym cs)
    (h (λ b g. undecided b (subst (λ (xs : List Decided). Has xs (decided k b)) (sym trails) (has-left old.trail more (decided k b) g))) holds may)

-- a literal that was put to the trail is decided
pub resting-last : (p : Problem) (old new : Branch) (k : ℕ) (holds : Bool) → new.trail ≡ old.trail ++ decided k holds ∷ [] → IsResting p new k
resting-last p old new k holds trails undecided _ may = absurd (undecided holds (subst (λ (xs : List Decided). Has xs (decided k holds)) (sym trails) (has-last old.trail (decided k holds))))

-- what meets literals meets fewer of them
meets-fewer : (s : NumberStructure) (us : List ValueTree) (said : List Said) (r n : ℕ) → r ≤ n → Meets s (literals us (take n said)) → Meets s (literals us (take r said))
meets-fewer s us said zero n le m = tt
meets-fewer s us [] (suc r) n le m = tt
meets-fewer s us (x ∷ xs) (suc r) zero le m = absurd (omega (arith, le))
meets-fewer s us (x ∷ xs) (suc r) (suc n) le m = (m.0, meets-fewer s us xs r n (omega (arith, le)) m.1)

pub entails-more : (us : List ValueTree) (said : List Said) (r n a b : ℕ) → r ≤ n → Entails us (take r said) a b → Entails us (take n said) a b
entails-more us said r n a b le h s m = h s (meets-fewer s us said r n le m)

-- Where nothing follows from more literals but what follows from the first ones, what doesn't follow from these doesn't follow.
untold-more : (us ts : List ValueTree) (old new : List Said) (d : Decided) → ((a b : ℕ) → CanBeSaid us a b → Entails us new a b → Entails us old a b) → IsUntold us ts old d → IsUntold us ts new d
untold-more us ts old new d enough u = record { left = u.left; right = u.right; speaks = u.speaks; apart = λ e. u.apart (enough u.left u.right u.speaks.can e) }

-- The branch a went on to b, and was told more in t, from which nothing more follows.
pub rest-told : (p : Problem) (a b t : Branch) (known : ℕ) → b.classes ≡ a.classes → IsLonger a b → t.classes.table ≡ b.classes.table → t.trail ≡ b.trail → known ≡ length a.classes.said → take (length b.classes.said) t.classes.said ≡ b.classes.said →
    ((x y : ℕ) → CanBeSaid (nodes t.classes.table) x y → Entails (nodes t.classes.table) t.classes.said x y → Entails (nodes t.classes.table) (take known t.classes.said) x y) → IsAtRest p a → IsAtRest p t
rest-told p a b t known classes longer table trail count grows enough rest k at undecided holds may =
    untold-more (nodes t.classes.table) (nodes p.table) a.classes.said t.classes.said (decided k holds)
    (λ x y can e. subst (λ (es : List Said). Entails (nodes t.classes.table) es x y) first (enough x y can e))
    (subst (λ us. IsUntold (nodes us) (nodes p.table) a.classes.said (decided k holds)) (sym (table ∙ ap (λ (z : Asserted). z.table) classes))
    (rest k at (λ q g. undecided q (subst (λ (xs : List Decided). Has xs (decided k q)) (sym (trail ∙ longer.trail.1)) (has-left a.trail longer.trail.0 (decided k q) g))) holds may))
  where
    first : take known t.classes.said ≡ a.classes.said
    first = (λ i. take (counted i) t.classes.said) ∙ (grows ∙ ap (λ (z : Asserted). z.said) classes)
      where
        counted : known ≡ length b.classes.said
        counted = count ∙ sym (ap (λ (z : Asserted). length z.said) classes)
