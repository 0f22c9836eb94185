-- Lists of fields that are gathered one after another, each once, and which nodes stand for them.
use Rattle.std.specs.Prelude.{◌≡◌, Bool, true, false, ◌++◌, if◌then◌else◌, ℕ, List, [], ◌∷◌, Some, slice_get}
use Rattle.std.specs.List.{list_any, flat_map}
use Rattle.jh_form.specs.Tree.{FieldTree, ValueTree}
use Rattle.jh_arena.specs.table.Entries.{Listing}
use Rattle.jh_reach.specs.Axioms.{BackboneTree}
use Rattle.jh_reach.specs.Based.{IsBaseAt}
use Rattle.jh_reach.specs.Standing.{AreFields}
use Rattle.jh_fca.specs.local_form.Chains.{ChangeTree, same_list, has_axioms, led_from, list_of}
use Rattle.jh_local_form.specs.declared.field_lists.backbones.Backbone.{Backbone}

-- a list of fields is that of one of these
abbrev pub has_list : List BackboneTree → List FieldTree → Bool
has_list bs fs = list_any (λ b. same_list b.fields fs) bs

-- with one more at the end, where its list is new
abbrev pub with_backbone : List BackboneTree → BackboneTree → List BackboneTree
with_backbone bs b = if has_list bs b.fields then bs else bs ++ b ∷ []

abbrev pub with_backbones : List BackboneTree → List BackboneTree → List BackboneTree
with_backbones bs [] = bs
with_backbones bs (c ∷ cs) = with_backbones (with_backbone bs c) cs

-- the list of a formula and those that it leads to
abbrev pub led_of : List ChangeTree → ValueTree → List BackboneTree
led_of cs v = flat_map (λ fs. led_from fs cs) (list_of v)

-- The list of this number has these fields.
pub record IsListed (t : Listing) (list : ℕ) (fs : List FieldTree) : Type 0 where
  pub items : List ℕ
  pub listed : slice_get t.pools.lists list ≡ Some items
  pub fields : AreFields t items fs

-- The list of a backbone is that of this number, and what it came from stands at these nodes. Axioms are given for it.
pub record IsBackbone (t : Listing) (x : Backbone) (b : BackboneTree) : Type 0 where
  pub list : IsListed t x.list b.fields
  pub base : IsBaseAt t x.base b.base
  pub known : has_axioms b.fields ≡ true

-- one by one
unfoldable pub AreBackbones : Listing → List Backbone → List BackboneTree → Type 0
AreBackbones t [] [] = Unit {0}
AreBackbones t [] (b ∷ bs) = ⊥
AreBackbones t (x ∷ xs) [] = ⊥
AreBackbones t (x ∷ xs) (b ∷ bs) = IsBackbone t x b × AreBackbones t xs bs

-- The backbones that were made, with those to which these fields lead by these changes, are a whole.
pub record IsLed (t : Listing) (made : List Backbone) (fields : List ℕ) (cs : List ChangeTree) (whole : List BackboneTree) : Type 0 where
  pub done : List BackboneTree
  pub names : List FieldTree
  pub are : AreBackbones t made done
  pub stand : AreFields t fields names
  pub come : with_backbones done (led_from names cs) ≡ whole

-- they are still, where the fields lead on; else those that were made are the whole
abbrev pub LeadsOn : Bool → Listing → List Backbone → List ℕ → List ChangeTree → List BackboneTree → Type 0
LeadsOn true t made fields cs whole = IsLed t made fields cs whole
LeadsOn false t made fields cs whole = AreBackbones t made whole
