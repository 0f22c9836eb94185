-- What arises of what methods write and call themselves is what they may write.
use Rattle.std.proofs.Common.{◌≡◌, refl, sym, ap, subst, ◌∙◌, ◌↔◌, ℕ, zero, suc, ◌+◌, ◌<◌, ◌++◌, false, List, [], ◌∷◌, map, length, slice_get, Option, Some, None, arith}
use Rattle.std.specs.List.{flat_map}
use Rattle.std.specs.Option.{option_map_or}
use Rattle.std.proofs.lemmas.Bool.{true≢false}
use Rattle.std.proofs.lemmas.List.{length-map}
use Rattle.std.proofs.lemmas.Option.{slice_get_within}
use Rattle.jh_ast.specs.Programs.{ProgramTree, MethodPart}
use Rattle.jh_symbols.specs.declared.member_numbers.numbers.Numbers.{Numbers}
use Rattle.jh_symbols.specs.member_numbers.Numbering.{number_in}
use Rattle.jh_containers.specs.transitive_closure.Spreads.{IsIn, passed_to}
use Rattle.jh_vars.specs.Written.{Written, Callee, part_of, own_writes, own_calls, MayWrite}
use Rattle.jh_vars.specs.Statements.{method_statements}
use Rattle.jh_vars.specs.Written as w
use Rattle.jh_effects.specs.declared.written_state.flow.Given.{Given}
use Rattle.jh_effects.specs.declared.written_state.flow.Key.{Key}
use Rattle.jh_effects.specs.declared.written_state.flow.Link.{Link}
use Rattle.jh_effects.specs.declared.written_state.methods.Listed.{Listed}
use Rattle.jh_effects.specs.written_state.Arising as a
use Rattle.jh_effects.specs.written_state.Arising.{Arises, ArePlaces, passes_at}
use Rattle.jh_effects.specs.written_state.Chosen.{places_below}
use Rattle.jh_effects.specs.written_state.Keys.{key_of}
use Rattle.jh_effects.specs.written_state.Methods.{callee_of, callees, AreNumbered, AreAll, gathered_from, given_by, link_to, links_by}
use Rattle.jh_effects.proofs.written_state.Gathering.{some-is, nothing-in, contains-in, in-contains, map-of, in-map, flat-of, in-flat, gathered-of, in-gathered}
use Rattle.jh_effects.proofs.written_state.Keying.{key-once}
use Rattle.jh_effects.proofs.written_state.Spreading.{places-same}

-- a link to a thing from one that has a number
pub link-of : (o : Option ℕ) (n : ℕ) (link : Link) → IsIn (option_map_or (λ k. record { from = k; to = n } ∷ []) o []) link → (o ≡ Some link.from) × (link.to ≡ n)
link-of None n link h = absurd (nothing-in link h)
link-of (Some k) n link (zero, e) = let same : record { from = k; to = n } ≡ link = some-is (record { from = k; to = n }) link e in (ap (λ (l : Link). Some l.from) same, sym (ap (λ (l : Link). l.to) same))
link-of (Some k) n link (suc zero, e) = cc
link-of (Some k) n link (suc (suc i), e) = cc

pub in-link : (o : Option ℕ) (n k : ℕ) → o ≡ Some k → IsIn {X = Link} (option_map_or (λ j. record { from = j; to = n } ∷ []) o []) (record { from = k; to = n })
in-link o n k e = subst (λ (q : Option ℕ). IsIn {X = Link} (option_map_or (λ j. record { from = j; to = n } ∷ []) q []) (record { from = k; to = n })) (sym e) (0, refl)

passes-none : {X : Type 0} (o : Option X) → false ≡ option_map_or (λ x. false) o false
passes-none None = refl
passes-none (Some x) = refl

-- places at which nothing stands of which something is so
pub no-places : {X : Type 0} (holds : X → Type 0) (list : List X) → ((x : X) → holds x → ⊥) → ArePlaces holds list []
unfolding places_below
no-places {X} holds list none = record {
  test = λ x. false;
  exact = λ x. (λ e. absurd (true≢false (sym e)), λ h. absurd (none x h));
  is = empty (length list);
}
  where
    not-at : (j : ℕ) → false ≡ passes_at {X = X} (λ x. false) list j
    not-at j = passes-none (slice_get list j)

    nothing : (n : ℕ) → [] ≡ places_below (λ j. false) n
    nothing zero = refl
    nothing (suc n) = λ i. nothing n i ++ []

    empty : (n : ℕ) → [] ≡ places_below (passes_at {X = X} (λ x. false) list) n
    empty n = nothing n ∙ places-same (λ j. false) (passes_at {X = X} (λ x. false) list) n (λ j lt. not-at j)

-- the places in a list are those in the list of its keys
pub places-mapped : {X Y : Type 0} (f : X → Y) (there : Y → Type 0) (holds : X → Type 0) (list : List X) (places : List ℕ) → ((x : X) → there (f x) ↔ holds x) → ArePlaces there (map f list) places → ArePlaces holds list places
places-mapped {X} f there holds list places same are = record {
  test = λ x. are.test (f x);
  exact = λ x. (λ e. (same x).0 ((are.exact (f x)).0 e), λ h. (are.exact (f x)).1 ((same x).1 h));
  is = are.is ∙ ap (places_below (passes_at are.test (map f list))) (length-map list f) ∙ places-same (passes_at are.test (map f list)) (passes_at (λ x. are.test (f x)) list) (length list) (λ j lt. at list j);
}
  where
    at : (xs : List X) (j : ℕ) → passes_at are.test (map f xs) j ≡ passes_at (λ x. are.test (f x)) xs j
    at [] zero = refl
    at [] (suc j) = refl
    at (x ∷ xs) zero = refl
    at (x ∷ xs) (suc j) = at xs j

module _ (p : ProgramTree) where
  -- a method that isn't there writes and calls nothing
  pub writes-none : (m : Callee) (x : Written) → part_of p m ≡ None → MayWrite p m x → ⊥
  writes-none m x e (w.directly _ _ h) = nothing-in x (subst (λ (xs : List Written). IsIn xs x) (ap (λ o. option_map_or (λ (q : MethodPart). flat_map (w.writes_of p) (method_statements p m.class q)) o []) e) (contains-in (own_writes p m) x h))
  writes-none m x e (w.called _ n _ h s) = nothing-in n (subst (λ (xs : List Callee). IsIn xs n) (ap (λ o. option_map_or (λ (q : MethodPart). flat_map (w.called_by p) (method_statements p m.class q)) o []) e) (contains-in (own_calls p m) n h))

  module _ (numbers : Numbers) (ls : List Listed) (numbered : AreNumbered numbers ls) (all : AreAll p numbers) where
    abbrev given : List Given
    given = gathered_from (given_by p) 0 (callees ls)

    abbrev links : List Link
    links = gathered_from (links_by p numbers) 0 (callees ls)

    -- the method of a number
    at-number : (m : Callee) (k : ℕ) → number_in numbers m.class m.name ≡ Some k → slice_get (callees ls) k ≡ Some m
    at-number m k e = let t = numbered m.class m.name k e in in-map callee_of ls t.0 k t.1 ∙ ap Some t.2

    pub links-inside : (link : Link) → IsIn links link → link.from < length ls
    links-inside link h =
        let g = gathered-of (links_by p numbers) 0 (callees ls) link h in
        let c = flat-of (link_to numbers (0 + g.0)) (own_calls p g.1) link g.3 in
        let l = link-of (number_in numbers (c.0).class (c.0).name) (0 + g.0) link c.2 in
        let t = numbered (c.0).class (c.0).name link.from l.0 in
        slice_get_within ls link.from t.0 t.1

    same-at : (n j : ℕ) (m q : Callee) → n ≡ 0 + j → slice_get (callees ls) j ≡ Some q → slice_get (callees ls) n ≡ Some m → q ≡ m
    same-at n j m q e g h = let same : j ≡ n = omega arith in some-is q m (sym g ∙ ap (slice_get (callees ls)) same ∙ h)

    pub may-write : (n : ℕ) (k : Key) → Arises given links n k → (m : Callee) → slice_get (callees ls) n ≡ Some m → (x : Written) × (key_of p x ≡ k) × MayWrite p m x
    may-write n k (a.itself _ _ h) m at =
        let g = gathered-of (given_by p) 0 (callees ls) (record { of = n; what = k }) h in
        let c = map-of (λ x. record { of = 0 + g.0; what = key_of p x }) (own_writes p g.1) (record { of = n; what = k }) g.3 in
        let same : g.1 ≡ m = same-at n g.0 m g.1 (sym (ap (λ (v : Given). v.of) c.2)) g.2 at in
        (c.0, ap (λ (v : Given). v.what) c.2, w.directly m c.0 (in-contains (own_writes p m) c.0 (subst (λ (q : Callee). IsIn (own_writes p q) c.0) same c.1)))
    may-write n k (a.passed from _ _ h s) m at =
        let g = gathered-of (links_by p numbers) 0 (callees ls) (record { from = from; to = n }) h in
        let c = flat-of (link_to numbers (0 + g.0)) (own_calls p g.1) (record { from = from; to = n }) g.3 in
        let l = link-of (number_in numbers (c.0).class (c.0).name) (0 + g.0) (record { from = from; to = n }) c.2 in
        let same : g.1 ≡ m = same-at n g.0 m g.1 l.1 g.2 at in
        let r = may-write from k s c.0 (at-number c.0 from l.0) in
        (r.0, r.1, w.called m c.0 r.0 (in-contains (own_calls p m) c.0 (subst (λ (q : Callee). IsIn (own_calls p q) c.0) same c.1)) r.2)

    pub writes-arise : (m : Callee) (x : Written) → MayWrite p m x → (n : ℕ) → slice_get (callees ls) n ≡ Some m → Arises given links n (key_of p x)
    writes-arise m x (w.directly _ _ h) n at =
        let same : 0 + n ≡ n = omega arith in
        let i = contains-in (own_writes p m) x h in
        a.itself n (key_of p x) (in-gathered (given_by p) 0 (callees ls) n m (record { of = n; what = key_of p x }) at (subst (λ (k : ℕ). IsIn (given_by p k m) (record { of = n; what = key_of p x })) (sym same) (i.0, in-map (λ y. record { of = n; what = key_of p y }) (own_writes p m) x i.0 i.1)))
    writes-arise m x (w.called _ c _ h s) n at = by (number_in numbers c.class c.name) refl (writes-arise c x s)
      where
        linked : (k : ℕ) → number_in numbers c.class c.name ≡ Some k → IsIn links (record { from = k; to = n })
        linked k e =
            let same : 0 + n ≡ n = omega arith in
            let i = contains-in (own_calls p m) c h in
            in-gathered (links_by p numbers) 0 (callees ls) n m (record { from = k; to = n }) at
            (subst (λ (j : ℕ). IsIn (links_by p numbers j m) (record { from = k; to = n })) (sym same)
            (in-flat (link_to numbers n) (own_calls p m) c i.0 (record { from = k; to = n }) i.1 (in-link (number_in numbers c.class c.name) n k e)))

        by : (o : Option ℕ) → number_in numbers c.class c.name ≡ o → ((k : ℕ) → slice_get (callees ls) k ≡ Some c → Arises given links k (key_of p x)) → Arises given links n (key_of p x)
        by None e rest = absurd (writes-none c x (all c.class c.name e) s)
        by (Some k) e rest = a.passed k n (key_of p x) (linked k e) (rest k (at-number c k e))

    -- the row of a method has the places of what it may write
    pub row-written : (m : Callee) (n : ℕ) (list : List Written) (row : List ℕ) → number_in numbers m.class m.name ≡ Some n → ArePlaces (Arises given links n) (map (key_of p) list) row → ArePlaces (MayWrite p m) list row
    row-written m n list row e are = places-mapped (key_of p) (Arises given links n) (MayWrite p m) list row same are
      where
        back : (x : Written) → ((y : Written) × (key_of p y ≡ key_of p x) × MayWrite p m y) → MayWrite p m x
        back x r = subst (λ (z : Written). MayWrite p m z) (key-once p r.0 x r.1) r.2

        same : (x : Written) → Arises given links n (key_of p x) ↔ MayWrite p m x
        same x = (λ h. back x (may-write n (key_of p x) h m (at-number m n e)), λ h. writes-arise m x h n (at-number m n e))

    pub none-written : (m : Callee) (list : List Written) → number_in numbers m.class m.name ≡ None → ArePlaces (MayWrite p m) list []
    none-written m list e = no-places (MayWrite p m) list (λ x h. writes-none m x (all m.class m.name e) h)

    -- each method's row has the places of what it may write
    pub all-written : (rows : List (List ℕ)) (list : List Written) → ((n : ℕ) → n < length ls → ArePlaces (Arises given links n) (map (key_of p) list) (passed_to rows n)) → (m : Callee) → ArePlaces (MayWrite p m) list (option_map_or (λ k. passed_to rows k) (number_in numbers m.class m.name) [])
    all-written rows list are m = by (number_in numbers m.class m.name) refl
      where
        by : (o : Option ℕ) → number_in numbers m.class m.name ≡ o → ArePlaces (MayWrite p m) list (option_map_or (λ k. passed_to rows k) o [])
        by None e = none-written m list e
        by (Some n) e = let t = numbered m.class m.name n e in row-written m n list (passed_to rows n) e (are n (slice_get_within ls n t.0 t.1))
