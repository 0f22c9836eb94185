-- What is added by steps that cite an axiom of reachability is true.
use Rattle.std.proofs.Common.{◌≡◌, refl, sym, subst, ◌∙◌, ℕ, zero, suc, ◌<◌, ◌==◌, Bool, true, false, not, ◌&&◌, ◌||◌, if◌then◌else◌, List, [], ◌∷◌, ◌++◌, length, Option, Some, None, slice_get, arith}
use Rattle.std.specs.List.{All}
use Rattle.std.proofs.lemmas.Bool.{eqb-true}
use Rattle.std.proofs.lemmas.List.Elements.{All-head, All-tail}
use Rattle.jh_form.specs.Tree.{TermTree, FieldTree, FieldTrees, FormulaTree}
use Rattle.jh_form.specs.Tree as t
use Rattle.jh_form.specs.Closed.{is_closed_term, is_closed_field, is_closed_fields}
use Rattle.jh_form.specs.Meaning.{Interp, InUniverse, term_value, field_value, truth}
use Rattle.jh_form.proofs.ClosedLemmas.{AgreeBelow, both-left, both-right, term_value-closed, field_value-closed}
use Rattle.jh_reach.specs.Axioms.{BaseTree, BackboneTree, axioms_of_list, axiom_of_update}
use Rattle.jh_reach.specs.Truths.{AreClosed, IsBase, IsThatUpdate, AxiomsAreTrue}
use Rattle.jh_derivation_rules.specs.Cited.{members, update_of, is_closed_base}
use Rattle.jh_derivation_rules.specs.Rules.{leads_as}
use Rattle.jh_derivation_rules.proofs.Truths.{both-true, every-at}
use Rattle.jh_derivation_rules.proofs.Equations.{HoldsIf}

-- What is true of all is true of the last, and of each that stands before some.
all-last : {X : Type 0} (P : X → Type 0) (xs : List X) (x : X) → All P (xs ++ x ∷ []) → P x
all-last P [] x h = All-head P x [] h
all-last P (y ∷ xs) x h = all-last P xs x (All-tail P y (xs ++ x ∷ []) h)

all-first : {X : Type 0} (P : X → Type 0) (xs ys : List X) → All P (xs ++ ys) → (k : ℕ) (x : X) → slice_get xs k ≡ Some x → P x
all-first P [] ys h k x e = absurd (cc)
all-first P (y ∷ xs) ys h zero x e = let same : y ≡ x = cc in subst P same (All-head P y (xs ++ ys) h)
all-first P (y ∷ xs) ys h (suc k) x e = all-first P xs ys (All-tail P y (xs ++ ys) h) k x e

pub members-closed : (fs : FieldTrees) → is_closed_fields fs 0 ≡ true → AreClosed (members fs)
unfolding members is_closed_fields
members-closed t.none h i f e = absurd (cc)
members-closed (t.more g fs) h zero f e = let same : g ≡ f = cc in subst (λ (k : FieldTree). is_closed_field k 0 ≡ true) same (both-left (is_closed_field g 0) (is_closed_fields fs 0) h)
members-closed (t.more g fs) h (suc i) f e = members-closed fs (both-right (is_closed_field g 0) (is_closed_fields fs 0) h) i f e

within : {X : Type 0} (xs : List X) (k : ℕ) (x : X) → slice_get xs k ≡ Some x → k < length xs
within [] k x e = absurd (cc)
within (y ∷ xs) zero x e = omega arith
within (y ∷ xs) (suc k) x e = let less : k < length xs = within xs k x e in omega (arith, less)

none-below : (e g : List ℕ) → AgreeBelow 0 e g
none-below e g k h = absurd (omega arith)

-- What an update gives at an object, by whether the object is its own.
chosen : (c : Bool) (x v w : ℕ) → ((not c || (x == v)) && (not (not c) || (x == w))) ≡ true → x ≡ (if c then v else w)
chosen true x v w h = eqb-true x v (both-true (x == v) true h).0
chosen false x v w h = eqb-true x w h

-- A field of which that is a fact leads where the update leads.
pub leads-there : (m : Interp) (g f : FieldTree) (a v : TermTree) → is_closed_field g 0 ≡ true → is_closed_field f 0 ≡ true → is_closed_term a 0 ≡ true → is_closed_term v 0 ≡ true →
    truth (leads_as g f a v) m [] ≡ true → (x : ℕ) → x < suc m.last →
    (field_value g m []).objects x ≡ (field_value (t.update f a (t.of_object v)) m []).objects x
leads-there m g f a v g-closed f-closed a-closed v-closed h x lt =
    let e : List ℕ = x ∷ [] in
    let here = every-at m.last
    (λ y. (not (y == term_value a m (y ∷ [])) || ((field_value g m (y ∷ [])).objects y == term_value v m (y ∷ []))) && (not (not (y == term_value a m (y ∷ []))) || ((field_value g m (y ∷ [])).objects y == (field_value f m (y ∷ [])).objects y)))
    h x lt in
    let gs = field_value-closed g m 0 e [] (none-below e []) g-closed in
    let fs = field_value-closed f m 0 e [] (none-below e []) f-closed in
    let ats = term_value-closed a m 0 e [] (none-below e []) a-closed in
    let vs = term_value-closed v m 0 e [] (none-below e []) v-closed in
    sym (λ i. (gs i).objects x)
    ∙ chosen (x == term_value a m e) ((field_value g m e).objects x) (term_value v m e) ((field_value f m e).objects x) here
    ∙ (λ i. if x == ats i then vs i else (fs i).objects x)

-- what is asked of a base that its update has no loose bound variable
is-base : (fs : List FieldTree) (u : BaseTree) (g : FieldTree) → slice_get fs u.place ≡ Some g → is_closed_base (Some u) ≡ true → IsBase fs u
unfolding is_closed_base
is-base fs u g e h = record {
  place = within fs u.place g e;
  field = both-left (is_closed_field u.field 0) (is_closed_term u.at 0) (both-left (is_closed_field u.field 0 && is_closed_term u.at 0) (is_closed_term u.value 0) h);
  at = both-right (is_closed_field u.field 0) (is_closed_term u.at 0) (both-left (is_closed_field u.field 0 && is_closed_term u.at 0) (is_closed_term u.value 0) h);
  value = both-right (is_closed_field u.field 0 && is_closed_term u.at 0) (is_closed_term u.value 0) h;
}

-- the member leads from each object where the base's update leads
abbrev pub LeadsThere : Interp → FieldTree → BaseTree → Type 0
LeadsThere m g u = (x : ℕ) → x < suc m.last → (field_value g m []).objects x ≡ (field_value (update_of u) m []).objects x

pub leads-as-told : (m : Interp) (fs : List FieldTree) (u : BaseTree) (g : FieldTree) → AreClosed fs → slice_get fs u.place ≡ Some g → is_closed_base (Some u) ≡ true → truth (leads_as g u.field u.at u.value) m [] ≡ true → LeadsThere m g u
leads-as-told m fs u g closed e base h =
    let parts = is-base fs u g e base in
    leads-there m g u.field u.at u.value (closed u.place g e) parts.field parts.at parts.value h

-- the update itself does
pub is-update-leads : (m : Interp) (g : FieldTree) (u : BaseTree) → t.of_field g ≡ t.of_field (update_of u) → LeadsThere m g u
is-update-leads m g u same x lt = let one : g ≡ update_of u = cc in λ i. (field_value (one i) m []).objects x

pub holds-if : (m : Interp) (o : Option FormulaTree) → ((a : FormulaTree) → o ≡ Some a → truth a m [] ≡ true) → HoldsIf m o
holds-if m None h = tt
holds-if m (Some a) h = h a refl

-- The axioms of a list are true, and so is that of an update where the changed member leads as the update does.
module _ (m : Interp) (inside : InUniverse m) (truths : AxiomsAreTrue) (fs : List FieldTree) (closed : AreClosed fs) where
  pub listed-true : (k : ℕ) (a : FormulaTree) → slice_get (axioms_of_list fs) k ≡ Some a → truth a m [] ≡ true
  listed-true k a e =
      let b : BackboneTree = record { fields = fs; base = None } in
      all-first (λ a. truth a m [] ≡ true) (axioms_of_list fs) [] (truths b closed tt m inside tt []) k a e

  pub update-true : (u : BaseTree) (g : FieldTree) → slice_get fs u.place ≡ Some g → is_closed_base (Some u) ≡ true → LeadsThere m g u → truth (axiom_of_update fs u) m [] ≡ true
  update-true u g e base leads =
      let b : BackboneTree = record { fields = fs; base = Some u } in
      let that : IsThatUpdate m fs u = λ f there x lt. let same : g ≡ f = cc in subst (λ (k : FieldTree). (field_value k m []).objects x ≡ (field_value (update_of u) m []).objects x) same (leads x lt) in
      all-last (λ a. truth a m [] ≡ true) (axioms_of_list fs) (axiom_of_update fs u) (truths b closed (is-base fs u g e base) m inside that [])
