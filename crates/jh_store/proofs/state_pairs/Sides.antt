-- What a name reads at its home.
use Rattle.std.proofs.Common.{◌≡◌, refl, sym, ap, ◌∙◌, subst, ℕ, zero, suc, ◌==◌, not, Bool, true, false, if◌then◌else◌, List, Option, Some, None, is_some, slice_get, length, ◌<◌, ◌≤◌, arith}
use Rattle.std.proofs.lemmas.Bool.{true≢false}
use Rattle.std.proofs.lemmas.Bool.Decides.{nat_tests}
use Rattle.std.proofs.lemmas.Option.{slice_get_within}
use Rattle.jh_arena.specs.table.Entries.{the_name}
use Rattle.jh_name.specs.declared.naming.Name.{Name}
use Rattle.jh_semantics.specs.jh_vars.Resolved.{own}
use Rattle.jh_semantics.specs.State.{State, by_turn}
use Rattle.jh_store.specs.memory.Held.{Held, state_of, IsNamed}
use Rattle.jh_store.specs.declared.state_pairs.moment.Home.{Home}
use Rattle.jh_store.specs.state_pairs.Homes.{IsHome, AreHomes}

-- the value at one of two sides is that of the turn
by-side : {X : Type 0} (f : State → Name → X) (now old : Held) (text : List ℕ) (k : ℕ) (b : Bool) → b ≡ not (k == 0) →
    f (state_of (if b then old else now)) (own text 0) ≡ by_turn k (f (state_of now) (record { text = text; turn = k })) (f (state_of old) (own text 0))
by-side f now old text zero b e = ap (λ t. f (state_of (if t then old else now)) (own text 0)) e
by-side f now old text (suc k) b e =
    let no : (suc k == 0) ≡ false = grind (arith, nat_tests) in
    ap (λ t. f (state_of (if t then old else now)) (own text 0)) (e ∙ ap not no)

module _ (names : List Name) (x : Name) (h : Home) (is : IsHome names x h) (now old side : Held) (which : side ≡ (if h.is_old then old else now)) (same : side.names ≡ names) where
  pub there : IsNamed side h.number (own x.text 0)
  there = ap (λ (ns : List Name). slice_get ns h.number) same ∙ is.0

  pub reads : {X : Type 0} (f : State → Name → X) → f (state_of side) (own x.text 0) ≡ by_turn x.turn (f (state_of now) x) (f (state_of old) (own x.text 0))
  reads f = ap (λ m. f (state_of m) (own x.text 0)) which ∙ by-side f now old x.text x.turn h.is_old is.1

some-name : (o : Option Name) → is_some o ≡ true → o ≡ Some (the_name o)
unfolding the_name
some-name (Some x) e = refl
some-name None e = absurd (true≢false (sym e))

module _ (pool names : List Name) (homes : List Home) (are : AreHomes pool names homes) (n : ℕ) (some : is_some (slice_get pool n) ≡ true) where
  -- a name of the table has a home
  pub home_there : n < length homes
  home_there =
      let within : n < length pool = slice_get_within pool n (the_name (slice_get pool n)) (some-name (slice_get pool n) some) in
      let fewer : length pool ≤ length homes = are.0 in
      omega arith

  pub home_is : (h : Home) → slice_get homes n ≡ Some h → IsHome names (the_name (slice_get pool n)) h
  home_is h e = are.1 n (the_name (slice_get pool n)) h (some-name (slice_get pool n) some) e

  pub home_inside : (h : Home) → slice_get homes n ≡ Some h → h.number < length names
  home_inside h e = slice_get_within names h.number (own (the_name (slice_get pool n)).text 0) (home_is h e).0
