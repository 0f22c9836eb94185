-- What a change of a table changes in the scope.
use Rattle.std.proofs.Common.{◌≡◌, refl, ap, ◌∙◌, ℕ, Bool, true, false, List, Option, Some, is_some, if◌then◌else◌}
use Rattle.std.specs.Option.{option_map_or}
use Rattle.std.specs.String.{string_bytes, string_eq}
use Rattle.std.specs.declared.string.String.{String}
use Rattle.std.proofs.lemmas.Map.Text.{hash_map_updates_text}
use Rattle.indexmap.specs.IndexMap.{IndexMap, get_by_text, Updates}
use Rattle.jh_rules.specs.Words.{same_text}
use Rattle.jh_rules.specs.declared.entries.Sorts.{Sorts}
use Rattle.jh_rules.specs.Scopes.{no_sorts}
use Rattle.jh_symbols.specs.scopes.Lookings.{flat}

module _ {X Y S : Type 0} (old new : IndexMap (String Y) X S) (key : String Y) (value : X) where
  looked : Updates string_eq old new key (Some value) → (x : List ℕ) → get_by_text new x ≡ (if same_text (string_bytes key) x then Some value else get_by_text old x)
  looked u x = hash_map_updates_text (string_bytes key) old new (Some value) u x

  pub at-text : (bs : List ℕ) → string_bytes key ≡ bs → Updates string_eq old new key (Some value) → (x : List ℕ) → get_by_text new x ≡ (if same_text bs x then Some value else get_by_text old x)
  at-text bs e u x = looked u x ∙ ap (λ b. if same_text b x then Some value else get_by_text old x) e

flat-if : {T : Type 0} (b : Bool) (v : Option T) (o : Option (Option T)) → flat (if b then Some v else o) ≡ (if b then v else flat o)
flat-if true v o = refl
flat-if false v o = refl

pub flat-text : {X Y S : Type 0} (old new : IndexMap (String Y) (Option X) S) (key : String Y) (value : Option X) (bs : List ℕ) → string_bytes key ≡ bs → Updates string_eq old new key (Some value) → (x : List ℕ) → flat (get_by_text new x) ≡ (if same_text bs x then value else flat (get_by_text old x))
flat-text old new key value bs e u x = ap flat (at-text old new key value bs e u x) ∙ flat-if (same_text bs x) value (get_by_text old x)

sorts-if : (b : Bool) (v : Sorts) (o : Option Sorts) → option_map_or (λ s. s) (if b then Some v else o) no_sorts ≡ (if b then v else option_map_or (λ s. s) o no_sorts)
sorts-if true v o = refl
sorts-if false v o = refl

pub sorts-text : {Y S : Type 0} (old new : IndexMap (String Y) Sorts S) (key : String Y) (value : Sorts) (bs : List ℕ) → string_bytes key ≡ bs → Updates string_eq old new key (Some value) → (x : List ℕ) → option_map_or (λ s. s) (get_by_text new x) no_sorts ≡ (if same_text bs x then value else option_map_or (λ s. s) (get_by_text old x) no_sorts)
sorts-text old new key value bs e u x = ap (λ o. option_map_or (λ s. s) o no_sorts) (at-text old new key value bs e u x) ∙ sorts-if (same_text bs x) value (get_by_text old x)

label-if : {T : Type 0} (b : Bool) (v : T) (o : Option T) → is_some (if b then Some v else o) ≡ (if b then true else is_some o)
label-if true v o = refl
label-if false v o = refl

pub label-text : {X Y S : Type 0} (old new : IndexMap (String Y) X S) (key : String Y) (value : X) (bs : List ℕ) → string_bytes key ≡ bs → Updates string_eq old new key (Some value) → (x : List ℕ) → is_some (get_by_text new x) ≡ (if same_text bs x then true else is_some (get_by_text old x))
label-text old new key value bs e u x = ap is_some (at-text old new key value bs e u x) ∙ label-if (same_text bs x) value (get_by_text old x)
