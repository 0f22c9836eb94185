-- The number of a name, and that a name without one stands nowhere.
use Rattle.std.proofs.Common.{◌≡◌, refl, sym, ap, ◌∙◌, ℕ, ◌<◌, Bool, true, false, not, IfSome, List, length, slice_get, Option, Some, None, position, arith}
use Rattle.jh_boxed.specs.jh_name.declared.naming.Name.{Name}
use Rattle.jh_boxed.specs.jh_name.contracts.naming.NamePartialEq.TheImpl as name
use Rattle.jh_form.specs.Tree.{ValueTree}
use Rattle.jh_form.specs.Passing.{value_passes, name_equal}
use Rattle.jh_form.proofs.Names.{name_equal-true}
use Rattle.jh_arena.specs.table.Entries.{Listing, the_value}
use Rattle.jh_arena.specs.table.Facing.{marked}
use Rattle.jh_arena.specs.table.Measures.{IsTable}
use Rattle.jh_arena.specs.table.Nodes.{nodes}
use Rattle.jh_arena.specs.declared.table.facts.Facts.{Facts}
use Rattle.jh_arena.proofs.table.Faces.{Marks, marked-found}
use Rattle.jh_arena.proofs.table.Keys.{name_eq-true, name_eq-same, position-found, stands-not}
use Rattle.jh_arena.proofs.table.Tables.{facts-of}
use Rattle.jh_arena.proofs.table.Unique.{at-within}
use Rattle.jh_arena.proofs.table.Weaker.{value-weaker}

pub number-named : (keys names : List Name) (x : Name) (o : Option ℕ) → keys ≡ names → o ≡ position (name.ghosts.eq x) keys → IfSome o (λ n. slice_get names n ≡ Some x)
number-named keys names x (Some n) same is = ap (λ l. slice_get l n) (sym same) ∙ position-found name.ghosts.eq name_eq-true name_eq-same keys n x is
number-named keys names x None same is = tt

absent-held : (names : List Name) (bits : ℕ) (x : Name) (v : ValueTree) → ((i : ℕ) → slice_get names i ≡ Some x → ⊥) → value_passes v (marked names bits) ≡ true → value_passes v (λ y s. not (name_equal y x)) ≡ true
absent-held names bits x v absent h = value-weaker (marked names bits) (λ y s. not (name_equal y x)) (λ y u m. by y (marked-found bits 0 names y m) (name_equal y x) refl) v h
  where
    by : (y : Name) → Marks bits 0 names y → (b : Bool) → name_equal y x ≡ b → not b ≡ true
    by y found false e = refl
    by y found true e = absurd (absent found.number (found.at ∙ ap (λ z. Some z) (name_equal-true y x e)))

pub nowhere-named : (t : Listing) (es : List Facts) (keys : List Name) (x : Name) (o : Option ℕ) → IsTable t.pools t.shapes es → keys ≡ t.pools.names → o ≡ position (name.ghosts.eq x) keys → o ≡ None →
    (n : ℕ) → n < length (nodes t) → value_passes (the_value (slice_get (nodes t) n)) (λ y s. not (name_equal y x)) ≡ true
nowhere-named t es keys x o is same at none n lt =
    let f = at-within es n (omega (arith, is.counted)) in
    absent-held t.pools.names f.0.names x (the_value (slice_get (nodes t) n))
    (λ i here. stands-not name.ghosts.eq name_eq-true name_eq-same keys i x (sym none ∙ at) (ap (λ l. slice_get l i) same ∙ here))
    (facts-of t es is n f.0 f.1).names
