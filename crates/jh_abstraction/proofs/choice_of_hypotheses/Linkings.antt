-- Which facts are linked, over the nodes of their names.
use Rattle.std.proofs.Common.{◌≡◌, refl, sym, ap, subst, ◌∙◌, ℕ, Bool, true, false, inl, inr, List, [], ◌∷◌, map, slice_get, Option, Some, nat_eq}
use Rattle.std.specs.Prelude.{filter}
use Rattle.std.specs.List.{list_any}
use Rattle.std.proofs.lemmas.Bool.{eqb-true}
use Rattle.jh_form.specs.Tree.{FormulaTree, ValueTree}
use Rattle.jh_boxed_operations.specs.comparison.Exchanged.{equal_trees}
use Rattle.jh_boxed_operations.proofs.comparison.Equalities.{equal_trees-true}
use Rattle.jh_arena.specs.table.Growth.{AreDifferent}
use Rattle.jh_seq.specs.sequent.Sequents.{HypTree, SequentTree}
use Rattle.jh_approx.specs.definition.Shown.{shown}
use Rattle.jh_approx.specs.definition.Names.{names, without_repeats}
use Rattle.jh_approx.specs.definition.Links.{links, goal_names, is_linking, fact_links, shares, is_linked}
use Rattle.jh_approx.specs.definition.Laws.{IsHyp, goal_links, LinksRight}
use Rattle.jh_containers.specs.connected_component.Reaching.{has, IsRow, Reached, IsReach}
use Rattle.jh_containers.specs.connected_component.Reaching as r
use Rattle.jh_query_names.specs.query_names.Gathered.{has_name}
use Rattle.jh_query_names.specs.query_names.Kinds.{value_at}
use Rattle.jh_query_names.specs.query_names.Finding.{values_at}
use Rattle.jh_query_names.specs.declared.mentioned_names.memo.Note.{Note}
use Rattle.jh_query_names.specs.mentioned_names.Linking.{linking}
use Rattle.jh_query_names.specs.mentioned_names.Notes.{AreTrees}
use Rattle.jh_query_names.proofs.mentioned_names.Listings.{value-is}
use Rattle.jh_abstraction.specs.choice_of_hypotheses.Choosing.{HasNote, HaveNotes, names_noted, linking_names, linking_row, has_few, AreReached, DecideLinks}
use Rattle.jh_abstraction.proofs.choice_of_hypotheses.Lists.{both-ways, one-there, any-some, some-any, filter-in, in-filter}
use Rattle.jh_abstraction.proofs.choice_of_hypotheses.Values.{self_number, self_value, once-has, once-only, trees-has, trees-back, value-has, has-value}

-- the nodes are those of these values
pub record Names (ts : List ValueTree) (ns : List ℕ) (vs : List ValueTree) : Type 0 where
  pub to : (n : ℕ) → has ns n ≡ true → (v : ValueTree) × (slice_get ts n ≡ Some v) × (has_name vs v ≡ true)
  pub back : (v : ValueTree) → has_name vs v ≡ true → (n : ℕ) × (has ns n ≡ true) × (slice_get ts n ≡ Some v)

-- nodes of names, each once
names-once : (ts : List ValueTree) (ns : List ℕ) (vs : List ValueTree) → AreTrees ts ns (without_repeats vs) → Names ts ns vs
names-once ts ns vs are = record {
  to = λ n h. let r = trees-has ts ns (without_repeats vs) are n h in (r.0, r.1, once-only vs r.0 r.2);
  back = λ v h. trees-back ts ns (without_repeats vs) are v (once-has vs v h);
}

-- those of them that pass a test
names-filter : (ts : List ValueTree) (p q : ValueTree → Bool) → ((v : ValueTree) → p v ≡ q v) → (ns : List ℕ) (vs : List ValueTree) → Names ts ns vs → Names ts (filter (λ n. p (value_at ts n)) ns) (filter q vs)
names-filter ts p q same ns vs are = record {
  to = λ n h.
      let k = filter-in nat_eq eqb-true self_number (λ m. p (value_at ts m)) ns n h in
      let there = are.to n k.0 in
      (there.0, there.1, in-filter equal_trees equal_trees-true self_value q vs there.0 there.2 (sym (same there.0) ∙ ap p (sym (value-is ts n there.0 there.1)) ∙ k.1));
  back = λ v h.
      let k = filter-in equal_trees equal_trees-true self_value q vs v h in
      let there = are.back v k.0 in
      (there.0, in-filter nat_eq eqb-true self_number (λ m. p (value_at ts m)) ns there.0 there.1 (ap p (value-is ts there.0 v there.2) ∙ same v ∙ k.1), there.2);
}

-- a test of the values at nodes
names-any : (ts : List ValueTree) (p : ValueTree → Bool) (ns : List ℕ) (vs : List ValueTree) → Names ts ns vs → list_any (λ n. p (value_at ts n)) ns ≡ list_any p vs
names-any ts p ns vs are =
    both-ways (list_any (λ n. p (value_at ts n)) ns) (list_any p vs)
    (λ h.
    let k = any-some nat_eq eqb-true self_number (λ n. p (value_at ts n)) ns h in
    let there = are.to k.0 k.1 in
    some-any equal_trees equal_trees-true self_value p vs there.0 there.2 (ap p (sym (value-is ts k.0 there.0 there.1)) ∙ k.2))
    (λ h.
    let k = any-some equal_trees equal_trees-true self_value p vs h in
    let there = are.back k.0 k.1 in
    some-any nat_eq eqb-true self_number (λ n. p (value_at ts n)) ns there.0 there.1 (ap p (value-is ts there.0 k.0 there.2) ∙ k.2))

-- lists that share a value
shares-at : (vs ws : List ValueTree) (v : ValueTree) → has_name vs v ≡ true → has_name ws v ≡ true → shares vs ws ≡ true
unfolding shares
shares-at vs ws v h k = some-any equal_trees equal_trees-true self_value (λ u. list_any (equal_trees u) ws) vs v h k

shared : (vs ws : List ValueTree) → shares vs ws ≡ true → (v : ValueTree) × (has_name vs v ≡ true) × (has_name ws v ≡ true)
unfolding shares
shared vs ws h = any-some equal_trees equal_trees-true self_value (λ u. list_any (equal_trees u) ws) vs h

linking-is : (s : SequentTree) (few : Bool) → few ≡ list_any links (goal_names s) → (v : ValueTree) → linking few v ≡ is_linking s v
unfolding linking is_linking
linking-is s few e v = ap (λ b. linking b v) e

few-is : (s : SequentTree) (b : Bool) → b ≡ list_any (linking true) (goal_names s) → b ≡ list_any links (goal_names s)
unfolding linking
few-is s b e = e

fact-names : (ts : List ValueTree) (s : SequentTree) (few : Bool) → few ≡ list_any links (goal_names s) → (a : FormulaTree) (ns : List ℕ) → AreTrees ts ns (without_repeats (names (shown a false))) → Names ts (linking_names ts few ns) (fact_links s a)
unfolding fact_links
fact-names ts s few e a ns are = names-filter ts (linking few) (is_linking s) (linking-is s few e) ns (names (shown a false)) (names-once ts ns (names (shown a false)) are)

in-fact : (s : SequentTree) (a : FormulaTree) (v : ValueTree) → has_name (names (shown a false)) v ≡ true → is_linking s v ≡ true → has_name (fact_links s a) v ≡ true
unfolding fact_links
in-fact s a v h k = in-filter equal_trees equal_trees-true self_value (is_linking s) (names (shown a false)) v h k

fact-in : (s : SequentTree) (a : FormulaTree) (v : ValueTree) → has_name (fact_links s a) v ≡ true → has_name (names (shown a false)) v ≡ true
unfolding fact_links
fact-in s a v h = (filter-in equal_trees equal_trees-true self_value (is_linking s) (names (shown a false)) v h).0

module _ (ts : List ValueTree) (s : SequentTree) (few : Bool) (few_are : few ≡ list_any links (goal_names s)) (notes : List Note) where
  row-names : (place : ℕ) (a : FormulaTree) → HasNote ts notes place a → Names ts (linking_row ts few notes place) (fact_links s a)
  row-names place a h = subst (λ (o : Option Note). Names ts (linking_names ts few (names_noted o)) (fact_links s a)) (sym h.at) (fact-names ts s few few_are a h.note.names h.is.called)

  rows-hyps : (places : List ℕ) (hs : List HypTree) → HaveNotes ts notes places hs → (row : List ℕ) → IsRow row (map (linking_row ts few notes) places) → (h : HypTree) × IsHyp h hs × Names ts row (fact_links s h.fact)
  rows-hyps [] hs are row is = absurd is
  rows-hyps (p ∷ places) [] are row is = absurd are
  rows-hyps (p ∷ places) (h ∷ hs) are row (inl e) = (h, inl refl, subst (λ (ns : List ℕ). Names ts ns (fact_links s h.fact)) e (row-names p h.fact are.0))
  rows-hyps (p ∷ places) (h ∷ hs) are row (inr is) = let there = rows-hyps places hs are.1 row is in (there.0, inr there.1, there.2)

  hyps-rows : (places : List ℕ) (hs : List HypTree) → HaveNotes ts notes places hs → (h : HypTree) → IsHyp h hs → (row : List ℕ) × IsRow row (map (linking_row ts few notes) places) × Names ts row (fact_links s h.fact)
  hyps-rows places [] are h is = absurd is
  hyps-rows [] (k ∷ hs) are h is = absurd are
  hyps-rows (p ∷ places) (k ∷ hs) are h (inl e) = (linking_row ts few notes p, inl refl, subst (λ (l : HypTree). Names ts (linking_row ts few notes p) (fact_links s l.fact)) e (row-names p k.fact are.0))
  hyps-rows (p ∷ places) (k ∷ hs) are h (inr is) = let there = hyps-rows places hs are.1 h is in (there.0, inr there.1, there.2)

  module _ (different : AreDifferent ts) (law : LinksRight s) (places : List ℕ) (noted : HaveNotes ts notes places s.hyps) (start known : List ℕ) (starts : Names ts start (goal_links s)) where
    abbrev rows : List (List ℕ)
    rows = map (linking_row ts few notes) places

    -- a name that is reached: each fact that has it is linked
    pub record Links (n : ℕ) : Type 0 where
      pub value : ValueTree
      pub at : slice_get ts n ≡ Some value
      pub link : is_linking s value ≡ true
      pub all : (a : FormulaTree) → has_name (fact_links s a) value ≡ true → is_linked s a ≡ true

    is-link : (vs : List ValueTree) (v : ValueTree) → has_name (filter (is_linking s) vs) v ≡ true → is_linking s v ≡ true
    is-link vs v h = (filter-in equal_trees equal_trees-true self_value (is_linking s) vs v h).1

    fact-link : (a : FormulaTree) (v : ValueTree) → has_name (fact_links s a) v ≡ true → is_linking s v ≡ true
    unfolding fact_links
    fact-link a v h = is-link (names (shown a false)) v h

    reached-links : (n : ℕ) → Reached rows start n → Links n
    reached-links _ (r.given n h) =
        let there = starts.to n h in
        record { value = there.0; at = there.1; link = is-link (goal_names s) there.0 there.2; all = λ a k. law.by_goal a (shares-at (fact_links s a) (goal_links s) there.0 k there.2) }
    reached-links _ (r.along m n row is hm hn before) =
        let hyp = rows-hyps places s.hyps noted row is in
        let other = reached-links m before in
        let w = hyp.2.to m hm in
        let there = hyp.2.to n hn in
        let linked : is_linked s hyp.0.fact ≡ true = other.all hyp.0.fact (subst (λ (v : ValueTree). has_name (fact_links s hyp.0.fact) v ≡ true) (one-there ts m w.0 other.value w.1 other.at) w.2) in
        record { value = there.0; at = there.1; link = fact-link hyp.0.fact there.0 there.2; all = λ a k. law.by_linked hyp.0 a hyp.1 linked (shares-at (fact_links s a) (fact_links s hyp.0.fact) there.0 k there.2) }

    module _ (reach : IsReach rows start known) where
      known-at : (v : ValueTree) → has_name (values_at ts known) v ≡ true → (n : ℕ) × (has known n ≡ true) × (slice_get ts n ≡ Some v)
      known-at v h =
          let k = has-value ts known v h in
          let l = reached-links k.0 (reach.sound k.0 k.1) in
          (k.0, k.1, l.at ∙ ap (λ u. Some u) (sym (k.2 ∙ value-is ts k.0 l.value l.at)))

      knows : (n : ℕ) (v : ValueTree) → Reached rows start n → slice_get ts n ≡ Some v → has_name (values_at ts known) v ≡ true
      knows n v h at = value-has ts known n v (reach.complete n h) at

      from-goal : (a : FormulaTree) → shares (fact_links s a) (goal_links s) ≡ true → shares (fact_links s a) (values_at ts known) ≡ true
      from-goal a h =
          let v = shared (fact_links s a) (goal_links s) h in
          let n = starts.back v.0 v.2 in
          shares-at (fact_links s a) (values_at ts known) v.0 v.1 (knows n.0 v.0 (r.given n.0 n.1) n.2)

      from-hyp : (h : HypTree) (a : FormulaTree) → IsHyp h s.hyps → shares (fact_links s h.fact) (values_at ts known) ≡ true → shares (fact_links s a) (fact_links s h.fact) ≡ true → shares (fact_links s a) (values_at ts known) ≡ true
      from-hyp h a is k l =
          let row = hyps-rows places s.hyps noted h is in
          let w = shared (fact_links s h.fact) (values_at ts known) k in
          let m = known-at w.0 w.2 in
          let mm = row.2.back w.0 w.1 in
          let v = shared (fact_links s a) (fact_links s h.fact) l in
          let n = row.2.back v.0 v.2 in
          let inside : has row.0 m.0 ≡ true = subst (λ (i : ℕ). has row.0 i ≡ true) (different mm.0 m.0 w.0 mm.2 m.2) mm.1 in
          shares-at (fact_links s a) (values_at ts known) v.0 v.1 (knows n.0 v.0 (r.along m.0 n.0 row.0 row.1 inside n.1 (reach.sound m.0 m.1)) n.2)

      pub decides : DecideLinks ts known (is_linked s)
      decides a ns are =
          let of_a = names-once ts ns (names (shown a false)) are in
          both-ways (r.shares ns known) (is_linked s a)
          (λ h.
          let n = any-some nat_eq eqb-true self_number (has known) ns h in
          let l = reached-links n.0 (reach.sound n.0 n.2) in
          let v = of_a.to n.0 n.1 in
          let named : has_name (names (shown a false)) l.value ≡ true = subst (λ (u : ValueTree). has_name (names (shown a false)) u ≡ true) (one-there ts n.0 v.0 l.value v.1 l.at) v.2 in
          l.all a (in-fact s a l.value named l.link))
          (λ h.
          let v = shared (fact_links s a) (values_at ts known) (law.by_nothing_else (λ b. shares (fact_links s b) (values_at ts known)) from-goal from-hyp a h) in
          let n = known-at v.0 v.2 in
          let m = of_a.back v.0 (fact-in s a v.0 v.1) in
          some-any nat_eq eqb-true self_number (has known) ns m.0 m.1 (subst (λ (i : ℕ). has known i ≡ true) (different n.0 m.0 v.0 n.2 m.2) n.1))

-- the nodes that are reached decide which facts are linked
pub reached-decide : (ts : List ValueTree) → AreDifferent ts → (s : SequentTree) → LinksRight s → (notes : List Note) (places : List ℕ) → HaveNotes ts notes places s.hyps →
    (ns known : List ℕ) → AreTrees ts ns (without_repeats (names (shown s.goal true))) → AreReached ts notes places ns known → DecideLinks ts known (is_linked s)
reached-decide ts different s law notes places noted ns known are reach =
    let of_goal = names-once ts ns (goal_names s) are in
    let few = few-is s (has_few ts ns) (names-any ts (linking true) ns (goal_names s) of_goal) in
    decides ts s (has_few ts ns) few notes different law places noted (linking_names ts (has_few ts ns) ns) known
    (names-filter ts (linking (has_few ts ns)) (is_linking s) (linking-is s (has_few ts ns) few) ns (goal_names s) of_goal) reach
