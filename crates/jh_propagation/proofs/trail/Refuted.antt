-- Which literals a list has once the opposite of one is put to it, and when it makes a literal false.
use Rattle.std.proofs.Common.{◌≡◌, refl, sym, ap, Bool, true, false, not, List, ◌⊎◌, inl, inr, Option, Some, None}
use mathlib.Core.Bool.{beq}
use Rattle.std.proofs.lemmas.Bool.{true≢false}
use Rattle.jh_form.specs.Tree.{FormulaTree, ValueTree}
use Rattle.jh_closure.specs.congruence_closure.Nodes.{Has}
use Rattle.jh_arena.specs.table.Growth.{AreDifferent}
use Rattle.jh_models.specs.ground_models.Truths.{IsFalse}
use Rattle.jh_propagation.specs.declared.trail.decided.Decided.{Decided}
use Rattle.jh_propagation.specs.trail.Saying.{literal_tree_at, literals_at, opposite_of, supposed}
use Rattle.jh_propagation.specs.trail.Forms.{literal_of}
use Rattle.jh_propagation.proofs.trail.Formed.{literal-says}
use Rattle.jh_propagation.proofs.trail.Listed.{has-listed, listed-has, opposite-is}

-- two truths that differ
pub differ-not : (a b : Bool) → not (beq a b) ≡ true → a ≡ not b
differ-not true true e = absurd (true≢false (sym e))
differ-not true false e = refl
differ-not false true e = refl
differ-not false false e = absurd (true≢false (sym e))

pub not-differ : (a b : Bool) → a ≡ not b → not (beq a b) ≡ true
not-differ true true e = absurd (true≢false e)
not-differ true false e = refl
not-differ false true e = refl
not-differ false false e = absurd (true≢false (sym e))

pub supposed-turned : (except : Option Decided) (ds : List Decided) (l : Decided) → except ≡ Some l → Has (supposed except ds) (opposite_of l)
supposed-turned None ds l e = absurd (cc)
supposed-turned (Some d) ds l e = inl (let same : d ≡ l = cc in ap opposite_of same)

pub supposed-more : (except : Option Decided) (ds : List Decided) (d : Decided) → Has ds d → Has (supposed except ds) d
supposed-more None ds d h = h
supposed-more (Some e) ds d h = inr h

pub supposed-only : (except : Option Decided) (ds : List Decided) (l : Decided) → Has (supposed except ds) (opposite_of l) → (except ≡ Some l) ⊎ Has ds (opposite_of l)
supposed-only None ds l h = inr h
supposed-only (Some d) ds l (inl same) = inl (ap Some (opposite-is d l same))
supposed-only (Some d) ds l (inr h) = inr h

-- a literal is false exactly where its opposite is in the list
pub literal-refuted : (ts : List ValueTree) (ks : List Decided) → AreDifferent ts → (i : FormulaTree) (l : Decided) → literal_of i ≡ Some (literal_tree_at ts l) → (Has ks (opposite_of l) → IsFalse (literals_at ts ks) i) × (IsFalse (literals_at ts ks) i → Has ks (opposite_of l))
literal-refuted ts ks different i l e = let says = literal-says i (literal_tree_at ts l) e in (
  λ h. says.refuted (literals_at ts ks) (has-listed ts ks (opposite_of l) h),
  λ h. listed-has ts different ks (opposite_of l) says.unknown (says.refutes (literals_at ts ks) h),
)
