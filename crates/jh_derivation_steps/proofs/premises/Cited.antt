-- Axioms over nodes, and the rules that add them.
use Rattle.std.proofs.Common.{◌≡◌, refl, sym, ap, subst, ◌∙◌, ℕ, zero, suc, ◌==◌, Bool, true, false, ◌&&◌, if◌then◌else◌, List, [], ◌∷◌, slice_get, Option, Some, None, Ok}
use Rattle.std.specs.Prelude.{Result}
use Rattle.std.proofs.lemmas.Bool.{true≢false, eqb-true, eq-eqb, ne_eqb}
use Rattle.jh_name.specs.declared.memory.NoMemory.{NoMemory}
use Rattle.jh_form.specs.Tree.{TermTree, FieldTree, FormulaTree, ValueTree, of_object, of_field, of_truth}
use Rattle.jh_form.specs.Tree as t
use Rattle.jh_form.specs.Closed.{is_closed_field, is_closed_formula, is_closed_fields}
use Rattle.jh_arena.specs.table.Entries.{Pools, Listing, the_truth, the_field, the_object, the_value, are_fields}
use Rattle.jh_arena.specs.table.Growth.{Extends, AreDifferent}
use Rattle.jh_arena.specs.table.Nodes.{nodes, fits_in, tree_in, shape_tree}
use Rattle.jh_arena.specs.declared.table.shapes.Shape.{Shape}
use Rattle.jh_arena.specs.declared.table.shapes.Shape.TheVariants as s
use Rattle.jh_arena.proofs.table.Children.{it-is-field, it-is-object, it-is-value}
use Rattle.jh_arena.proofs.table.PartSteps.{part-Update-a, part-Update-b, part-Update-c}
use Rattle.jh_reach.specs.declared.backbones.Base.{Base}
use Rattle.jh_reach.specs.Axioms.{BaseTree, axioms_of_list, axiom_of_update}
use Rattle.jh_reach.specs.Based.{IsSortedBase, IsThere}
use Rattle.jh_reach.specs.Standing.{AreFields, fields_in}
use Rattle.jh_reach.specs.Standing as standing
use Rattle.jh_reach.proofs.Standings.{fields-are, fields-grow, fields-there, field-of}
use Rattle.jh_derivation_rules.specs.Cited.{are_one, has_axioms, update_of, is_closed_base}
use Rattle.jh_derivation_rules.specs.Rules.{Rule, leads_as, rule_adds, base_needs, base_rule, numbered_rule, axiom_rule}
use Rattle.jh_derivation_steps.specs.declared.premises.nodes.Nodes.{Nodes}
use Rattle.jh_derivation_steps.specs.declared.premises.nodes.Nodes.TheVariants as n
use Rattle.jh_derivation_steps.specs.declared.premises.nodes.NodeRule.{NodeRule}
use Rattle.jh_derivation_steps.specs.premises.Nodes.{formula_at, field_at, base_at, changed_field, changed_at, changed_value, forest_fields, formulas_at, option_formula, option_rule, AreFormulas, IsFormula, IsField, IsForest, IsUpdate, IsMade, IsRule, Gives}
use Rattle.jh_derivation_steps.proofs.premises.Carried.{keeps, made-is, is-formula, is-field, is-term}
use Rattle.jh_derivation_steps.proofs.premises.Describing.{field-at}
use Rattle.jh_derivation_steps.proofs.premises.Members.{one-node, no-field}
use Rattle.jh_derivation_steps.proofs.premises.Shaping.{fits-at}

-- the formula at a place of a list, by its node
at-place : (tab : Listing) (ns : List ℕ) (all : List FormulaTree) (k : ℕ) → standing.AreFormulas tab ns all → (option_formula (nodes tab) (slice_get ns k) ≡ slice_get all k) × IsMade (nodes tab) (slice_get ns k)
unfolding standing.AreFormulas option_formula IsMade
at-place tab [] [] k h = (refl, tt)
at-place tab [] (a ∷ all) k h = absurd h
at-place tab (n ∷ ns) [] k h = absurd h
at-place tab (n ∷ ns) (a ∷ all) zero h = made-is (nodes tab) n a h.0
at-place tab (n ∷ ns) (a ∷ all) (suc k) h = at-place tab ns all k h.1

pub axiom-there : (tab : Listing) (ns ms : List ℕ) (all : List FormulaTree) (k : ℕ) (o : Option ℕ) → standing.AreFormulas tab ns all → ms ≡ ns → o ≡ slice_get ms k → (option_formula (nodes tab) o ≡ slice_get all k) × IsMade (nodes tab) o
axiom-there tab ns ms all k o h e is =
    subst (λ (p : Option ℕ). (option_formula (nodes tab) p ≡ slice_get all k) × IsMade (nodes tab) p) (sym (is ∙ ap (λ xs. slice_get xs k) e)) (at-place tab ns all k h)

-- a base whose parts are known
pub there-sorted : (tab : Listing) (w : Base) (u : BaseTree) → IsThere tab w u → IsSortedBase tab (Some w)
unfolding IsSortedBase
there-sorted tab w u h = record {
  field = is-field (nodes tab) w.field u.field h.field;
  at = is-term (nodes tab) w.at u.at h.at;
  value = is-term (nodes tab) w.value u.value h.value;
}

pub there-grows : (t u : Listing) → Extends t u → (w : Base) (b : BaseTree) → IsThere t w b → IsThere u w b
there-grows t u g w b h = record {
  place = h.place;
  field = g.nodes.keeps w.field (of_field b.field) h.field;
  at = g.nodes.keeps w.at (of_object b.at) h.at;
  value = g.nodes.keeps w.value (of_object b.value) h.value;
}

-- no rule where none is wanted
pub none-given : (ts : List ValueTree) (wanted : Option Rule) → wanted ≡ None → Gives ts wanted (Ok None)
unfolding option_rule IsRule
none-given ts wanted e = (sym e, tt)

abbrev no_rule : Option Rule
no_rule = None

either-none : (c : Bool) → (if c then no_rule else no_rule) ≡ no_rule
either-none true = refl
either-none false = refl

-- which rule the number and the list give
pub rule-zero : (n : ℕ) (fs : List FieldTree) (base : Option BaseTree) → n ≡ 0 → axiom_rule n fs base ≡ None
unfolding axiom_rule numbered_rule
rule-zero n fs base e = ap (λ k. if has_axioms fs then numbered_rule k fs base else None) e ∙ either-none (has_axioms fs)

pub rule-unlisted : (n : ℕ) (fs : List FieldTree) (base : Option BaseTree) → has_axioms fs ≡ false → axiom_rule n fs base ≡ None
unfolding axiom_rule
rule-unlisted n fs base e = ap (λ c. if c then numbered_rule n fs base else None) e

pub rule-listed : (n k : ℕ) (fs : List FieldTree) → n ≡ suc k → has_axioms fs ≡ true → axiom_rule n fs None ≡ rule_adds [] (slice_get (axioms_of_list fs) k)
unfolding axiom_rule numbered_rule
rule-listed n k fs e h = (λ i. if h i then numbered_rule (e i) fs None else None)

other-if : (c : Bool) (r : Option Rule) → (c ≡ true → ⊥) → (if c then r else None) ≡ None
other-if true r h = absurd (h refl)
other-if false r h = refl

other-number : (n : ℕ) (fs : List FieldTree) (u : BaseTree) → (n ≡ 10 → ⊥) → numbered_rule n fs (Some u) ≡ None
unfolding numbered_rule
other-number zero fs u differs = refl
other-number (suc k) fs u differs = other-if (k == 9) (base_rule fs u (slice_get fs u.place)) (λ e. differs (ap suc (eqb-true k 9 e)))

pub rule-other : (n : ℕ) (fs : List FieldTree) (u : BaseTree) → (n ≡ 10 → ⊥) → axiom_rule n fs (Some u) ≡ None
unfolding axiom_rule
rule-other n fs u differs = ap (λ r. if has_axioms fs then r else None) (other-number n fs u differs) ∙ either-none (has_axioms fs)

pub rule-based : (n : ℕ) (fs : List FieldTree) (u : BaseTree) → n ≡ 10 → has_axioms fs ≡ true → axiom_rule n fs (Some u) ≡ base_rule fs u (slice_get fs u.place)
unfolding axiom_rule numbered_rule
rule-based n fs u e h = (λ i. if h i then numbered_rule (e i) fs (Some u) else None)

-- what stands in a table that has grown
pub fields-still : (t u : Listing) → Extends t u → (ns : List ℕ) → are_fields (nodes t) ns ≡ true → are_fields (nodes u) ns ≡ true
fields-still t u g ns h = fields-are u ns (fields_in (nodes t) ns) (fields-grow t u ns (fields_in (nodes t) ns) g (fields-there t ns h))

pub base-sorted : (t u : Listing) → Extends t u → (w : Base) (b : BaseTree) → IsThere t w b → IsSortedBase u (Some w)
base-sorted t u g w b h = there-sorted u w b (there-grows t u g w b h)

needs-stay : (t u : Listing) → Extends t u → (x : Nodes) → AreFormulas (nodes t) x → (formulas_at (nodes u) x ≡ formulas_at (nodes t) x) × AreFormulas (nodes u) x
unfolding formulas_at AreFormulas the_truth
needs-stay t u g n.Nothing h = (refl, tt)
needs-stay t u g (n.One k) h =
    let e = keeps t u g k (of_truth (formula_at (nodes t) k)) h in
    (ap (λ o. the_truth o ∷ []) e, is-formula (nodes u) k (formula_at (nodes t) k) e)
needs-stay t u g (n.Two k l) h =
    let e = keeps t u g k (of_truth (formula_at (nodes t) k)) h.0 in
    let f = keeps t u g l (of_truth (formula_at (nodes t) l)) h.1 in
    ((λ i. the_truth (e i) ∷ the_truth (f i) ∷ []), (is-formula (nodes u) k (formula_at (nodes t) k) e, is-formula (nodes u) l (formula_at (nodes t) l) f))

-- The rule of an axiom of a list.
pub listed-given : (tab : Listing) (number k : ℕ) (fs : List FieldTree) (made : Option ℕ) (r : Option NodeRule) → number ≡ suc k → has_axioms fs ≡ true →
    (option_formula (nodes tab) made ≡ slice_get (axioms_of_list fs) k) × IsMade (nodes tab) made →
    option_rule (nodes tab) r ≡ rule_adds (formulas_at (nodes tab) n.Nothing) (option_formula (nodes tab) made) → IsRule (nodes tab) r → Gives (nodes tab) (axiom_rule number fs None) (Ok r)
unfolding formulas_at
listed-given tab number k fs made r e h is rule there = (rule ∙ ap (rule_adds []) is.0 ∙ sym (rule-listed number k fs e h), there)

-- The rule of the axiom of an update.
pub told-given : (t u : Listing) → Extends t u → (fs : List FieldTree) (b : BaseTree) (g : FieldTree) (needs : Nodes) (made : Option ℕ) (r : Option NodeRule) →
    formulas_at (nodes t) needs ≡ base_needs g b → AreFormulas (nodes t) needs →
    (option_formula (nodes u) made ≡ Some (axiom_of_update fs b)) × IsMade (nodes u) made →
    option_rule (nodes u) r ≡ rule_adds (formulas_at (nodes u) needs) (option_formula (nodes u) made) → (AreFormulas (nodes u) needs → IsMade (nodes u) made → IsRule (nodes u) r) →
    Gives (nodes u) (base_rule fs b (Some g)) (Ok r)
unfolding base_rule rule_adds
told-given t u grows fs b g needs made r e are is rule there =
    let still = needs-stay t u grows needs are in
    (rule ∙ (λ i. rule_adds ((still.0 ∙ e) i) (is.0 i)), there still.1 is.1)

-- What the axiom of an update needs, by whether the member is the node of the update.
module _ (tab : Listing) (different : AreDifferent (nodes tab)) (member update place : ℕ) (is-member : IsField (nodes tab) member) (is-update : IsUpdate (nodes tab) update) where
  pub needs-nothing : member ≡ update → [] ≡ base_needs (field_at (nodes tab) member) (base_at (nodes tab) place update)
  unfolding base_needs
  needs-nothing e =
      let b = base_at (nodes tab) place update in
      let same : are_one (field_at (nodes tab) member) (update_of b) ≡ true = sym (one-node tab different member update (field_at (nodes tab) member) (update_of b) is-member is-update) ∙ eq-eqb member update e in
      λ i. if sym same i then [] else leads_as (field_at (nodes tab) member) b.field b.at b.value ∷ []

  pub needs-told : (member ≡ update → ⊥) → leads_as (field_at (nodes tab) member) (base_at (nodes tab) place update).field (base_at (nodes tab) place update).at (base_at (nodes tab) place update).value ∷ [] ≡ base_needs (field_at (nodes tab) member) (base_at (nodes tab) place update)
  unfolding base_needs
  needs-told differs =
      let b = base_at (nodes tab) place update in
      let other : are_one (field_at (nodes tab) member) (update_of b) ≡ false = sym (one-node tab different member update (field_at (nodes tab) member) (update_of b) is-member is-update) ∙ ne_eqb member update differs in
      λ i. if sym other i then [] else leads_as (field_at (nodes tab) member) b.field b.at b.value ∷ []

-- The parts of an update's node.
unfoldable is_changed : Option ValueTree → Bool
is_changed (Some (of_field (t.update f a v))) = true
is_changed _ = false

not-changed : (p : Pools) (ts : List ValueTree) (x : Shape) → ((a b c : ℕ) → x ≡ s.Update a b c → ⊥) → is_changed (Some (shape_tree p ts x)) ≡ false
unfolding is_changed shape_tree
not-changed p ts (s.Update a b c) h = absurd (h a b c refl)
not-changed p ts _ h = refl

pub no-update : {W : Type 0} (tab : Listing) (k : ℕ) (x : Shape) → IsUpdate (nodes tab) k → slice_get (nodes tab) k ≡ Some (tree_in tab x) → ((a b c : ℕ) → x ≡ s.Update a b c → ⊥) → W
unfolding is_changed
no-update tab k x is tree differs = absurd (true≢false (sym (ap is_changed is) ∙ ap is_changed tree ∙ not-changed tab.pools (nodes tab) x differs))

value-same : (f g : FieldTree) (a b : TermTree) (v w : ValueTree) → Some (of_field (t.update f a v)) ≡ Some (of_field (t.update g b w)) → v ≡ w
value-same f g a b v w e = cc

pub update-there : (tab : Listing) (k place f a v : ℕ) (x : Shape) → IsUpdate (nodes tab) k → fits_in tab x ≡ true → slice_get (nodes tab) k ≡ Some (tree_in tab x) → x ≡ s.Update f a v →
    IsThere tab (record { place = place; field = f; at = a; value = v }) (base_at (nodes tab) place k)
unfolding shape_tree the_field changed_field changed_at
update-there tab k place f a v x is fits tree same =
    let fit = fits-at tab x (s.Update f a v) fits same in
    let here = field-at (λ z. z) tab k x (s.Update f a v) tree same in
    let value : the_value (slice_get (nodes tab) v) ≡ of_object (changed_value (field_at (nodes tab) k)) =
    value-same (the_field (slice_get (nodes tab) f)) (changed_field (field_at (nodes tab) k)) (the_object (slice_get (nodes tab) a)) (changed_at (field_at (nodes tab) k)) (the_value (slice_get (nodes tab) v)) (of_object (changed_value (field_at (nodes tab) k)))
    (sym (tree ∙ ap (λ z. Some (tree_in tab z)) same) ∙ is) in
    record {
      place = refl;
      field = it-is-field (slice_get (nodes tab) f) (part-Update-a tab.pools (nodes tab) f a v fit) ∙ ap (λ z. Some (of_field (changed_field z))) (sym here);
      at = it-is-object (slice_get (nodes tab) a) (part-Update-b tab.pools (nodes tab) f a v fit) ∙ ap (λ z. Some (of_object (changed_at z))) (sym here);
      value = it-is-value (slice_get (nodes tab) v) (part-Update-c tab.pools (nodes tab) f a v fit) ∙ ap (λ z. Some z) value;
    }

-- The rule for the member at a place.
pub member-given : (tab : Listing) (ts : List ValueTree) (ns : List ℕ) (fs : List FieldTree) (place told member update : ℕ) (r : Result (Option NodeRule) NoMemory) → AreFields tab ns fs → slice_get ns place ≡ Some member → told ≡ place →
    Gives ts (base_rule fs (base_at (nodes tab) told update) (Some (field_at (nodes tab) member))) r → Gives ts (base_rule fs (base_at (nodes tab) place update) (slice_get fs place)) r
unfolding the_field
member-given tab ts ns fs place told member update r are at e given =
    let f = field-of tab ns fs place member are at in
    let same : Some (field_at (nodes tab) member) ≡ slice_get fs place = ap (λ o. Some (the_field o)) f.2 ∙ sym f.1 in
    subst (λ (z : Option Rule). Gives ts z r) (λ i. base_rule fs (base_at (nodes tab) (e i) update) (same i)) given

pub member-there : (tab : Listing) (ns : List ℕ) (place member : ℕ) → are_fields (nodes tab) ns ≡ true → slice_get ns place ≡ Some member → IsField (nodes tab) member
member-there tab ns place member h at =
    let f = field-of tab ns (fields_in (nodes tab) ns) place member (fields-there tab ns h) at in
    is-field (nodes tab) member f.0 f.2

pub no-member : (tab : Listing) (ts : List ValueTree) (ns : List ℕ) (fs : List FieldTree) (place : ℕ) (b : BaseTree) → AreFields tab ns fs → slice_get ns place ≡ None → Gives ts (base_rule fs b (slice_get fs place)) (Ok None)
unfolding base_rule
no-member tab ts ns fs place b are e = none-given ts (base_rule fs b (slice_get fs place)) (ap (base_rule fs b) (no-field tab ns fs place are e))

pub based-given : (ts : List ValueTree) (n : ℕ) (fs : List FieldTree) (b : BaseTree) (r : Result (Option NodeRule) NoMemory) → n ≡ 10 → has_axioms fs ≡ true → Gives ts (base_rule fs b (slice_get fs b.place)) r → Gives ts (axiom_rule n fs (Some b)) r
based-given ts n fs b r e h given = subst (λ (z : Option Rule). Gives ts z r) (sym (rule-based n fs b e h)) given

-- Which of the operands have no loose bound variable.
pub forest-formula : (ts : List ValueTree) (k : ℕ) → IsForest ts k → IsFormula ts k
forest-formula ts k h = is-formula ts k (t.tree (forest_fields (formula_at ts k))) h

pub update-field : (ts : List ValueTree) (k : ℕ) → IsUpdate ts k → IsField ts k
update-field ts k h = is-field ts k (update_of (base_at ts 0 k)) h

pub forest-closed : (ts : List ValueTree) (k : ℕ) → IsForest ts k → is_closed_formula (formula_at ts k) 0 ≡ is_closed_fields (forest_fields (formula_at ts k)) 0
unfolding is_closed_formula the_truth
forest-closed ts k h = ap (λ o. is_closed_formula (the_truth o) 0) h

pub update-closed : (ts : List ValueTree) (k place : ℕ) → IsUpdate ts k → is_closed_field (field_at ts k) 0 ≡ is_closed_base (Some (base_at ts place k))
unfolding is_closed_formula the_field is_closed_base
update-closed ts k place h = ap (λ o. is_closed_field (the_field o) 0) h

pub and-true : (p : Bool) → p ≡ (p && true)
and-true true = refl
and-true false = refl
