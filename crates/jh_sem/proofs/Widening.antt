-- What is wide in a part is wide in the whole; objects that are bound are of the universe.
use Rattle.std.proofs.Common.{◌≡◌, refl, sym, subst, ◌⊎◌, inl, inr, ℕ, zero, suc, ◌<◌, List, ◌∷◌, slice_index, FitsSigned}
use Rattle.std.specs.Int.{w128}
use Rattle.jh_form.specs.Tree.{IntTree, ValueTree, of_number}
use Rattle.jh_form.specs.Meaning.{Interp, int_value}
use Rattle.jh_boxed.specs.Parts.{IsChild, IsPart, child, within}
use Rattle.jh_sem.specs.Wide.{AreInside, IsWide}

pub wide-part : (m : Interp) (w v : ValueTree) → IsChild w v → IsWide m w → IsWide m v
wide-part m w v part wide = record { term = wide.term; within = inr (by wide.within); objects = wide.objects; inside = wide.inside; outside = wide.outside }
  where
    by : (of_number wide.term ≡ w) ⊎ IsPart (of_number wide.term) w → IsPart (of_number wide.term) v
    by (inl e) = subst (λ (u : ValueTree). IsPart u v) (sym e) (child w v part)
    by (inr p) = within (of_number wide.term) w v p part

-- a number term whose value is outside
pub wide-here : (m : Interp) (a : IntTree) (e : List ℕ) → AreInside m.last e → (FitsSigned w128 (int_value a m e) → ⊥) → IsWide m (of_number a)
wide-here m a e inside outside = record { term = a; within = inl refl; objects = e; inside = inside; outside = outside }

pub inside-under : (last x : ℕ) (e : List ℕ) → x < suc last → AreInside last e → AreInside last (x ∷ e)
inside-under last x e lt h zero = lt
inside-under last x e lt h (suc k) = h k

pub ruleset wide_steps = (wide-here)

pub ruleset bound_steps = (inside-under)
