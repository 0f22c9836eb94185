-- What formulas see in a machine, and where the statements lead that ask them.
use Rattle.std.proofs.Common.{◌≡◌, refl, sym, ap, subst, ◌∙◌, inl, inr, ℕ, Bool, true, false, if◌then◌else◌, List, [], Option, Some, None, is_some, slice_get}
use Rattle.std.proofs.lemmas.Bool.{true≢false}
use Rattle.jh_name.specs.declared.naming.Name.{Name}
use Rattle.jh_name.specs.declared.place.Place.{Place}
use Rattle.jh_form.specs.Tree.{ValueTree, FormulaTree, TermTree, of_truth, of_object}
use Rattle.jh_form.specs.Meaning.{Datum, an_object, a_truth, datum, truth, term_value}
use Rattle.jh_arena.specs.table.Entries.{Listing}
use Rattle.jh_arena.specs.table.Nodes.{nodes}
use Rattle.jh_sem.specs.Wide.{IsWide}
use Rattle.jh_semantics.specs.Code.{Text, Claim}
use Rattle.jh_semantics.specs.State.{State, named, shown, stored_at}
use Rattle.jh_semantics.specs.Progress.{Configuration, Progress, goes_on, stops, assert_failed, goes_on_in}
use Rattle.jh_semantics.specs.Execution.{asked, ghost_stored}
use Rattle.jh_store.specs.memory.Held.{Held, state_of}
use Rattle.jh_store.specs.declared.state_pairs.moment.Moment.{Moment}
use Rattle.jh_store.specs.state_pairs.Seen.{seen}
use Rattle.jh_machine_code.specs.code.Steps.{HangsOnNow, IsNode}
use Rattle.jh_machine.specs.declared.continuation.stop.Stop.{Stop}
use Rattle.jh_machine.specs.declared.continuation.stop.Stop.TheVariants as s
use Rattle.jh_machine.specs.continuation.Stops.{StopsAs}
use Rattle.jh_machine.specs.continuation.Formulas.{IsTooGreat, ValueOverflows, OverflowsOnly}
use Rattle.jh_machine.specs.declared.ghosts.ghosts.NodeValue.{NodeValue}
use Rattle.jh_machine.specs.ghosts.Nodes.{IsValue, ValueInside}
use Rattle.jh_machine.specs.declared.machine.machine.Machine.{Machine}
use Rattle.jh_machine.specs.machine.Machines.{stands, EntryIs}

-- the memory at entry, where it is kept
module _ (names : List Name) (last : ℕ) (o : Option Held) (s : State) (is : EntryIs names last o s) where
  pub entry_some : (m : Held) → o ≡ Some m → (state_of m ≡ s) × (m.names ≡ names) × (m.last ≡ last)
  unfolding EntryIs
  entry_some m e = subst (λ (z : Option Held). EntryIs names last z s) e is

  pub entry_none : {X : Type 0} → o ≡ None → is_some o ≡ true → X
  entry_none e h = absurd (true≢false (sym h ∙ ap (λ (z : Option Held). is_some z) e))

abbrev the_bool : Datum → Bool
the_bool (a_truth b) = b
the_bool _ = false

abbrev the_one : Datum → ℕ
the_one (an_object a) = a
the_one _ = 0

-- a formula without an answer stops the run, or overflows in it
pub overflow_stops : (x : Progress) (p : Place) (Own : Type 0) (Overflows : Place → Type 0) (why : Stop) → OverflowsOnly p Own why → (Own → Overflows p) → StopsAs x Overflows why
unfolding OverflowsOnly StopsAs
overflow_stops x p Own Overflows (s.Overflow q) h f = subst Overflows (sym h.0) (f h.1)
overflow_stops x p Own Overflows s.Memory h f = tt
overflow_stops x p Own Overflows (s.Null q) h f = absurd h
overflow_stops x p Own Overflows (s.AssertFailed q) h f = absurd h
overflow_stops x p Own Overflows (s.NoObject q) h f = absurd h
overflow_stops x p Own Overflows s.StepsOut h f = absurd h

pub there_too : (t u : Listing) (n : ℕ) (v : ValueTree) → u ≡ t → slice_get (nodes t) n ≡ Some v → slice_get (nodes u) n ≡ Some v
there_too t u n v e h = subst (λ (z : Listing). slice_get (nodes z) n ≡ Some v) (sym e) h

pub inside_same : (w : Moment) (m : Held) → w.current.now ≡ m → (x : NodeValue) → ValueInside w.current.now.last x → ValueInside m.last x
inside_same w m is x h = subst (λ (z : Held). ValueInside z.last x) is h

-- a value at a moment is that in the two states, where the second is kept or plays no part
module _ (w : Moment) (m : Held) (kept : Option Held) (s : State) (is : w.current.now ≡ m) (old : is_some kept ≡ true → state_of w.entry.now ≡ s) where
  same-by : (b : Bool) → is_some kept ≡ b → (v : ValueTree) → (b ≡ false → HangsOnNow v) → datum v (seen w) [] ≡ datum v (shown (state_of m) s) []
  same-by true e v h = ap (λ (z : State). datum v (shown (state_of w.current.now) z) []) (old e) ∙ ap (λ (z : Held). datum v (shown (state_of z) s) []) is
  same-by false e v h = (h refl).same (state_of w.current.now) (state_of w.entry.now) s ∙ ap (λ (z : Held). datum v (shown (state_of z) s) []) is

  wide-by : (b : Bool) → is_some kept ≡ b → (v : ValueTree) → (b ≡ false → HangsOnNow v) → IsWide (seen w) v → IsWide (shown (state_of m) s) v
  wide-by true e v h g = subst (λ (z : Held). IsWide (shown (state_of z) s) v) is (subst (λ (z : State). IsWide (shown (state_of w.current.now) z) v) (old e) g)
  wide-by false e v h g = subst (λ (z : Held). IsWide (shown (state_of z) s) v) is ((h refl).wide (state_of w.current.now) (state_of w.entry.now) s g)

  module _ (t : Listing) (node : ℕ) (v : ValueTree) (there : IsNode t (is_some kept) node v) where
    pub value_same : datum v (seen w) [] ≡ datum v (shown (state_of m) s) []
    value_same = same-by (is_some kept) refl v there.hangs

    pub wide_same : IsWide (seen w) v → IsWide (shown (state_of m) s) v
    wide_same g = wide-by (is_some kept) refl v there.hangs g

    pub overflows_same : ValueOverflows (seen w) v → ValueOverflows (shown (state_of m) s) v
    overflows_same (inl g) = inl (wide_same g)
    overflows_same (inr g) = inr (subst IsTooGreat value_same g)

    pub is_value_same : (x : NodeValue) → IsValue w.current.now.last x (datum v (seen w) []) → IsValue m.last x (datum v (shown (state_of m) s) [])
    is_value_same x h = subst (λ (z : Held). IsValue z.last x (datum v (shown (state_of m) s) [])) is (subst (λ (d : Datum). IsValue w.current.now.last x d) value_same h)

  pub truth_same : (t : Listing) (node : ℕ) (f : FormulaTree) → IsNode t (is_some kept) node (of_truth f) → truth f (seen w) [] ≡ truth f (shown (state_of m) s) []
  truth_same t node f there = ap the_bool (value_same t node (of_truth f) there)

  pub object_same : (t : Listing) (node : ℕ) (a : TermTree) → IsNode t (is_some kept) node (of_object a) → term_value a (seen w) [] ≡ term_value a (shown (state_of m) s) []
  object_same t node a there = ap the_one (value_same t node (of_object a) there)

-- a formula that was asked
pub asked_true : (claim : Claim) (m : Machine) (s : State) → true ≡ truth claim.formula (shown (state_of m.now) s) [] → asked claim (stands m s) ≡ goes_on (stands m s)
asked_true claim m s h = ap (λ b. if b then goes_on (stands m s) else stops (assert_failed claim.place)) (sym h)

pub asked_false : (claim : Claim) (m : Machine) (s : State) (p : Place) → claim.place ≡ p → false ≡ truth claim.formula (shown (state_of m.now) s) [] → asked claim (stands m s) ≡ stops (assert_failed p)
asked_false claim m s p at h = ap (λ b. if b then goes_on (stands m s) else stops (assert_failed claim.place)) (sym h) ∙ ap (λ q. stops (assert_failed q)) at

-- a ghost assignment to a field of an object
module _ (p : Place) (class f : Text) (a b : ℕ) (same : b ≡ a) (d : Datum) (r : Configuration) where
  pub ghost_outside : false ≡ r.now.set (named class) b → ghost_stored p class f a d r ≡ stops (assert_failed p)
  ghost_outside h = ap (λ t. if t then goes_on_in r (stored_at r.now f a d) else stops (assert_failed p)) (ap (r.now.set (named class)) (sym same) ∙ sym h)

  pub ghost_inside : r.now.set (named class) b ≡ true → (n : State) → n ≡ stored_at r.now f b d → ghost_stored p class f a d r ≡ goes_on_in r n
  ghost_inside h n is =
      ap (λ t. if t then goes_on_in r (stored_at r.now f a d) else stops (assert_failed p)) (ap (r.now.set (named class)) (sym same) ∙ h)
      ∙ ap (λ (z : ℕ). goes_on_in r (stored_at r.now f z d)) (sym same) ∙ ap (λ (z : State). goes_on_in r z) (sym is)
