-- What the walk from below comes to.
use Rattle.std.specs.Prelude.{◌≡◌, ℕ, zero, suc, true, List, [], ◌∷◌, slice_get, is_some, option_map, Option, Some}
use Rattle.jh_form.specs.Tree.{ValueTree}
use Rattle.jh_form.specs.Tree as t
use Rattle.jh_arena.specs.declared.table.shapes.Shape.{Shape}
use Rattle.jh_arena.specs.declared.table.shapes.Shape.TheVariants as s
use Rattle.jh_normal_forms.specs.declared.rebuilding.polarity.Polarity.{Polarity}
use Rattle.jh_normal_forms.specs.declared.rebuilding.polarity.Polarity.TheVariants as pol
use Rattle.jh_normal_forms.specs.declared.rebuilding.memo.Key.{Key}
use Rattle.jh_normal_forms.specs.rebuilding.Built.{Rule, turned, built_term, built_int, built_set, built_field, built_formula}

-- a tree made anew, where it stands so
unfoldable pub built_at : ValueTree → Rule → Polarity → ValueTree
built_at (t.of_object a) r s = t.of_object (built_term a r)
built_at (t.of_number a) r s = t.of_number (built_int a r)
built_at (t.of_set a) r s = t.of_set (built_set a r)
built_at (t.of_field a) r s = t.of_field (built_field a r)
built_at (t.of_truth a) r s = t.of_truth (built_formula a r s)

-- the rule at the top of a tree alone
unfoldable pub applied : ValueTree → Rule → Polarity → ValueTree
applied (t.of_object a) r s = t.of_object (r.object a)
applied (t.of_number a) r s = t.of_number (r.number a)
applied (t.of_set a) r s = t.of_set (r.set a)
applied (t.of_field a) r s = t.of_field (r.field a)
applied (t.of_truth a) r s = t.of_truth (r.truth a s)

-- how the part of this number stands, where the shape stands so
unfoldable pub sign : Shape → Polarity → ℕ → Polarity
sign (s.Negation a) p i = turned p
sign (s.And a b) p i = p
sign (s.Or a b) p i = p
sign (s.Implies a b) p zero = turned p
sign (s.Implies a b) p (suc i) = p
sign (s.All a) p i = p
sign (s.Ex a) p i = p
sign (s.Mark m a) p i = p
sign _ p i = pol.Both

-- The tree at place n is the tree at place k made anew, where that stands so.
pub record IsBuilt (r : Rule) (ts : List ValueTree) (k : ℕ) (p : Polarity) (n : ℕ) : Type 0 where
  pub there : is_some (slice_get ts k) ≡ true
  pub is : slice_get ts n ≡ option_map (λ v. built_at v r p) (slice_get ts k)

-- each answer of a list is the part made anew, where the parts from number i on stand as `sg` says
abbrev pub AllBuilt : Rule → List ValueTree → (ℕ → Polarity) → ℕ → List ℕ → List ℕ → Type 0
AllBuilt r ts sg i [] [] = Unit {0}
AllBuilt r ts sg i [] (n ∷ ns) = ⊥
AllBuilt r ts sg i (k ∷ ks) [] = ⊥
AllBuilt r ts sg i (k ∷ ks) (n ∷ ns) = IsBuilt r ts k (sg i) n × AllBuilt r ts sg (suc i) ks ns

-- Each answer of the memo is right.
pub record HoldsBuilt (r : Rule) (ts : List ValueTree) (find : Key → Option ℕ) : Type 0 where
  pub at : (k : Key) (n : ℕ) → find k ≡ Some n → IsBuilt r ts k.node k.polarity n
