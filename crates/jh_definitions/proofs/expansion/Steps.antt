-- One more definition is opened.
use Rattle.std.proofs.Common.{◌≡◌, refl, sym, ap, subst, ◌∙◌, ◌⊎◌, inl, inr, ℕ, zero, suc, ◌+◌, ◌<◌, ◌≤◌, List, [], ◌∷◌, map, length, slice_get, Option, Some, None, arith}
use Rattle.std.specs.Option.{option_map_or}
use Rattle.std.proofs.lemmas.Option.{slice_get_within}
use Rattle.jh_ast.specs.declared.program.Class.{Class}
use Rattle.jh_ast.specs.Bare.{class_part, form_tree}
use Rattle.jh_ast.specs.Programs.{ProgramTree}
use Rattle.jh_form.specs.Tree.{ValueTree}
use Rattle.jh_arena.specs.table.Entries.{Listing, the_value}
use Rattle.jh_arena.specs.table.Growth.{Extends}
use Rattle.jh_arena.specs.table.Nodes.{nodes}
use Rattle.jh_rules.specs.Names.{declared_in}
use Rattle.jh_rules.specs.Words.{text_of}
use Rattle.jh_symbols.specs.scopes.Lookings.{declared_by}
use Rattle.jh_vars.specs.States.{Variable, class_text}
use Rattle.jh_vars.specs.Opened.{meant, all_definitions, outside}
use Rattle.jh_vars.specs.Resolved.{resolved}
use Rattle.jh_vars.proofs.Steady.{opened-next}
use Rattle.jh_symbols.specs.declared.scopes.looking.Lookups.{Lookups}
use Rattle.jh_symbols.specs.declared.member_numbers.numbers.Numbers.{Numbers}
use Rattle.jh_symbols.specs.member_numbers.Numbering.{number_in}
use Rattle.jh_resolution.specs.Meant.{tree_at, meaning_in, AreHeld}
use Rattle.jh_resolution.specs.Spots.{spelled_by}
use Rattle.jh_containers.proofs.transitive_closure.Places.{before-or-at}
use Rattle.jh_resolution.proofs.Meant.{held-grows, meaning-grows}
use Rattle.jh_definitions.specs.declared.expansion.opening.Definition.{Definition}
use Rattle.jh_definitions.specs.expansion.Opening.{source_of, defined_by, AreDefinitions, AreInOrder, IsAmong}

abbrev pub text : Definition → List ℕ
text d = text_of d.word.now

-- the variables before a place mean what their definitions say
abbrev pub MeantBelow : ProgramTree → List ValueTree → Numbers → List Definition → ℕ → Type 0
MeantBelow p ts made ds k = (j : ℕ) (d : Definition) → j < k → slice_get ds j ≡ Some d → meaning_in ts made d.class (text d) ≡ meant p (all_definitions p) d.class (text d)

-- the texts of the classes are those of the source
get-map : (cs : List Class) (n : ℕ) → option_map_or (λ (c : Class). text_of c.name) (slice_get cs n) [] ≡ class_text (source_of cs) n
unfolding class_part
get-map [] zero = refl
get-map [] (suc n) = refl
get-map (c ∷ cs) zero = refl
get-map (c ∷ cs) (suc n) = get-map cs n

pub spelled-is : (cs : List Class) → spelled_by cs ≡ class_text (source_of cs)
spelled-is cs = λ i n. get-map cs n i

map-get : (ds : List Definition) (k : ℕ) (x : Variable) → slice_get (map defined_by ds) k ≡ Some x → (d : Definition) × (slice_get ds k ≡ Some d) × (defined_by d ≡ x)
map-get [] zero x e = cc
map-get [] (suc k) x e = cc
map-get (d ∷ ds) zero x e = (d, refl, cc)
map-get (d ∷ ds) (suc k) x e = map-get ds k x e

get-variable : (ds : List Definition) (k : ℕ) (d : Definition) → slice_get ds k ≡ Some d → slice_get (map defined_by ds) k ≡ Some (defined_by d)
get-variable [] zero d e = cc
get-variable [] (suc k) d e = cc
get-variable (d ∷ ds) zero x e = first d x e
  where
    first : (d x : Definition) → Some d ≡ Some x → Some (defined_by d) ≡ Some (defined_by x)
    first d x e = cc
get-variable (d ∷ ds) (suc k) x e = get-variable ds k x e

some-is : {X : Type 0} (a b : X) → Some a ≡ Some b → a ≡ b
some-is a b e = cc

node-is : (a b : ℕ) (o : Option ℕ) → o ≡ Some a → o ≡ Some b → a ≡ b
node-is a b o e h = some-is a b (sym e ∙ h)

tree-known : (ts : List ValueTree) (n : ℕ) (o : Option ℕ) (v : ValueTree) → o ≡ Some n → slice_get ts n ≡ Some v → tree_at ts o ≡ v
unfolding tree_at the_value
tree-known ts n o v e h = ap (tree_at ts) e ∙ ap the_value h

module _ (cs : List Class) (lookups : Lookups) (made : Numbers) (ds : List Definition) (defs : AreDefinitions (source_of cs) ds) (ordered : AreInOrder (source_of cs) ds) (few : length ds ≤ all_definitions (source_of cs)) (declared : declared_by lookups ≡ declared_in (source_of cs)) where
  -- what is resolved is what the definition means
  pub value-meant : (ts : List ValueTree) (k : ℕ) (d : Definition) → slice_get ds k ≡ Some d → MeantBelow (source_of cs) ts made ds k →
      resolved (declared_by lookups) (spelled_by cs) (meaning_in ts made) (form_tree d.body.now) (outside d.class d.of_objects) ≡ meant (source_of cs) (all_definitions (source_of cs)) d.class (text d)
  value-meant ts k d e below =
      let p = source_of cs in
      let is = defs k d e in
      let inside : k < length ds = slice_get_within ds k d e in
      let m = meaning_in ts made in
      (λ i. resolved (declared i) (spelled-is cs i) m (sym is.form i) (outside d.class (sym is.objects i)))
      ∙ opened-next p (map defined_by ds) ordered m k (all_definitions p) (defined_by d) is.part (omega arith) (get-variable ds k d e) is.found
      (λ j y l f. let w = map-get ds j y f in subst (λ (z : Variable). m z.class z.name ≡ meant p (all_definitions p) z.class z.name) w.2 (below j w.0 l w.1))

length-map : {X Y : Type 0} (f : X → Y) (xs : List X) → length (map f xs) ≡ length xs
length-map f [] = refl
length-map f (x ∷ xs) = ap suc (length-map f xs)

-- the class of a definition has a map
pub class-inside : (cs : List Class) (ds : List Definition) (k : ℕ) (d : Definition) (n : ℕ) → AreDefinitions (source_of cs) ds → slice_get ds k ≡ Some d → n ≡ length cs → d.class < n
class-inside cs ds k d n defs e count = subst (λ (z : ℕ). d.class < z) (length-map class_part cs ∙ sym count) (defs k d e).inside

-- what is known stays known while the table grows
pub below-grows : (p : ProgramTree) (l m : Listing) (made : Numbers) (ds : List Definition) (k : ℕ) → Extends l m → AreHeld (nodes l) made → MeantBelow p (nodes l) made ds k → MeantBelow p (nodes m) made ds k
below-grows p l m made ds k g held below = λ j d lt e. (λ i. meaning-grows l m made g held i d.class (text d)) ∙ below j d lt e

module _ (p : ProgramTree) (ds : List Definition) (old new : Numbers) (l n : Listing) (g : Extends l n) (held : AreHeld (nodes l) old) (k node : ℕ) (d : Definition) (at : slice_get ds k ≡ Some d) (v : ValueTree) (stands : slice_get (nodes n) node ≡ Some v) (is : v ≡ meant p (all_definitions p) d.class (text d))
    (noted : number_in new d.class (text d) ≡ Some node) (others : (c : ℕ) (y : List ℕ) → ((c ≡ d.class) × (y ≡ text d)) ⊎ (number_in new c y ≡ number_in old c y)) where
  here : meaning_in (nodes n) new d.class (text d) ≡ meant p (all_definitions p) d.class (text d)
  here = tree-known (nodes n) node (number_in new d.class (text d)) v noted stands ∙ is

  pub meant-more : MeantBelow p (nodes l) old ds k → MeantBelow p (nodes n) new ds (k + 1)
  meant-more below j e lt f = by (before-or-at j k lt)
    where
      kept : j < k → ((e.class ≡ d.class) × (text e ≡ text d)) ⊎ (number_in new e.class (text e) ≡ number_in old e.class (text e)) → meaning_in (nodes n) new e.class (text e) ≡ meant p (all_definitions p) e.class (text e)
      kept m (inl s) = (λ i. meaning_in (nodes n) new (s.0 i) (s.1 i)) ∙ here ∙ (λ i. meant p (all_definitions p) (sym s.0 i) (sym s.1 i))
      kept m (inr s) = ap (tree_at (nodes n)) s ∙ (λ i. meaning-grows l n old g held i e.class (text e)) ∙ below j e m f

      by : (j < k) ⊎ (j ≡ k) → meaning_in (nodes n) new e.class (text e) ≡ meant p (all_definitions p) e.class (text e)
      by (inl m) = kept m (others e.class (text e))
      by (inr s) = subst (λ (z : Definition). meaning_in (nodes n) new z.class (text z) ≡ meant p (all_definitions p) z.class (text z)) (some-is d e (sym at ∙ ap (slice_get ds) (sym s) ∙ f)) here

  pub held-more : AreHeld (nodes n) new
  held-more = record { inside = λ c y m e. by c y m e (others c y) }
    where
      by : (c : ℕ) (y : List ℕ) (m : ℕ) → number_in new c y ≡ Some m → ((c ≡ d.class) × (y ≡ text d)) ⊎ (number_in new c y ≡ number_in old c y) → m < length (nodes n)
      by c y m e (inl s) =
          let same : node ≡ m = node-is node m (number_in new d.class (text d)) noted ((λ i. number_in new (sym s.0 i) (sym s.1 i)) ∙ e) in
          subst (λ (z : ℕ). z < length (nodes n)) same (slice_get_within (nodes n) node v stands)
      by c y m e (inr s) = (held-grows l n old g held).inside c y m (sym s ∙ e)

-- only variables of the list are known
pub only-more : (ds : List Definition) (old new : Numbers) (k : ℕ) (d : Definition) → slice_get ds k ≡ Some d → ((c : ℕ) (y : List ℕ) → ((c ≡ d.class) × (y ≡ text d)) ⊎ (number_in new c y ≡ number_in old c y)) →
    ((c : ℕ) (x : List ℕ) (n : ℕ) → number_in old c x ≡ Some n → IsAmong ds c x) → (c : ℕ) (x : List ℕ) (n : ℕ) → number_in new c x ≡ Some n → IsAmong ds c x
only-more ds old new k d at others only c x n e = by (others c x)
  where
    by : ((c ≡ d.class) × (x ≡ text d)) ⊎ (number_in new c x ≡ number_in old c x) → IsAmong ds c x
    by (inl s) = (k, d, at, sym s.0, sym s.1)
    by (inr s) = only c x n (sym s ∙ e)

pub only-none : (ds : List Definition) (m : Numbers) → ((c : ℕ) (x : List ℕ) → number_in m c x ≡ None) → (c : ℕ) (x : List ℕ) (n : ℕ) → number_in m c x ≡ Some n → IsAmong ds c x
only-none ds m h c x n e = absurd (none-some (sym (h c x) ∙ e))
  where
    none-some : None ≡ Some n → ⊥
    none-some e = cc

pub none-held : (ts : List ValueTree) (m : Numbers) → ((c : ℕ) (x : List ℕ) → number_in m c x ≡ None) → AreHeld ts m
none-held ts m h = record { inside = λ c x n e. absurd (none-some n (sym (h c x) ∙ e)) }
  where
    none-some : (n : ℕ) → None ≡ Some n → ⊥
    none-some n e = cc
