-- Formulas without a quantifier.
use Rattle.std.proofs.Common.{◌≡◌, refl, sym, ap, ◌∙◌, ℕ, Bool, true, List}
use Rattle.jh_form.specs.Tree.{FormulaTree, ValueTree, of_truth}
use Rattle.jh_arena.specs.table.Entries.{Pools}
use Rattle.jh_arena.specs.table.Nodes.{shape_tree}
use Rattle.jh_arena.specs.declared.table.shapes.Shape.{Shape}
use Rattle.jh_arena.specs.declared.table.shapes.Shape.TheVariants as s
use Rattle.jh_inst.specs.instances.Instances.{is_ground}

-- whether a tree has no quantifier, where it is a formula
abbrev pub ground_value : ValueTree → Bool
ground_value (of_truth a) = is_ground a
ground_value _ = true

-- the shape is no connective, no quantifier and no label
pub record IsPlain (x : Shape) : Type 0 where
  pub negation : (a : ℕ) → x ≡ s.Negation a → ⊥
  pub label : (m a : ℕ) → x ≡ s.Mark m a → ⊥
  pub both : (a b : ℕ) → x ≡ s.And a b → ⊥
  pub either : (a b : ℕ) → x ≡ s.Or a b → ⊥
  pub implies : (a b : ℕ) → x ≡ s.Implies a b → ⊥
  pub iff : (a b : ℕ) → x ≡ s.Iff a b → ⊥
  pub each : (a : ℕ) → x ≡ s.All a → ⊥
  pub some : (a : ℕ) → x ≡ s.Ex a → ⊥

module _ (p : Pools) (ts : List ValueTree) where
  plain-ground : (x : Shape) → IsPlain x → ground_value (shape_tree p ts x) ≡ true
  unfolding shape_tree
  plain-ground (s.Negation a) h = absurd (h.negation a refl)
  plain-ground (s.Mark m a) h = absurd (h.label m a refl)
  plain-ground (s.And a b) h = absurd (h.both a b refl)
  plain-ground (s.Or a b) h = absurd (h.either a b refl)
  plain-ground (s.Implies a b) h = absurd (h.implies a b refl)
  plain-ground (s.Iff a b) h = absurd (h.iff a b refl)
  plain-ground (s.All a) h = absurd (h.each a refl)
  plain-ground (s.Ex a) h = absurd (h.some a refl)
  plain-ground _ h = refl

  pub ground-plain : (x : Shape) (a : FormulaTree) → IsPlain x → shape_tree p ts x ≡ of_truth a → is_ground a ≡ true
  ground-plain x a h e = ap ground_value (sym e) ∙ plain-ground x h
