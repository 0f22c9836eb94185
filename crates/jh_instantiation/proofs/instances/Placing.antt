-- Terms at places of a list, and which of them are old.
use Rattle.std.proofs.Common.{◌≡◌, refl, sym, ap, subst, ◌∙◌, ℕ, zero, suc, nat_eq, true, List, [], ◌∷◌, length, take, slice_get, Some}
use Rattle.std.specs.List.{list_any, list_all}
use Rattle.jh_form.specs.Tree.{TermTree, of_object}
use Rattle.jh_form.specs.Closed.{is_closed_term}
use Rattle.jh_form.proofs.ClosedLemmas.{both-left, both-right}
use Rattle.jh_arena.specs.table.Entries.{Listing, is_object, the_object}
use Rattle.jh_arena.specs.table.Nodes.{nodes}
use Rattle.jh_inst.specs.instances.Terms.{is_among}
use Rattle.jh_instantiation.specs.closed_terms.Listed.{AreTerms}
use Rattle.jh_instantiation.specs.instances.Choosing.{AreUsable}
use Rattle.jh_arena.specs.table.Growth.{Extends}
use Rattle.jh_instantiation.specs.skolem_constants.Standing.{IsTerm}
use Rattle.jh_arena.proofs.table.Children.{it-is-object}

-- the term at the node of a place
pub term-at : (t : Listing) (ns : List ℕ) (ts : List TermTree) (i n : ℕ) → AreTerms t ns ts → slice_get ns i ≡ Some n → (w : TermTree) × (slice_get ts i ≡ Some w) × IsTerm t n w
term-at t [] ts i n h e = absurd (cc)
term-at t (m ∷ ns) [] i n h e = absurd h
term-at t (m ∷ ns) (a ∷ ts) zero n h e = let same : m ≡ n = cc in (a, refl, subst (λ (k : ℕ). IsTerm t k a) same h.0)
term-at t (m ∷ ns) (a ∷ ts) (suc i) n h e = term-at t ns ts i n h.1 e

pub term-is : (t : Listing) (ns : List ℕ) (ts : List TermTree) (i n : ℕ) (w : TermTree) → AreTerms t ns ts → slice_get ns i ≡ Some n → slice_get ts i ≡ Some w → IsTerm t n w
term-is t ns ts i n w h e f =
    let r = term-at t ns ts i n h e in
    let at = r.1 in
    let same : r.0 ≡ w = cc in
    r.2 ∙ ap (λ z. Some (of_object z)) same

pub terms-length : (t : Listing) (ns : List ℕ) (ts : List TermTree) → AreTerms t ns ts → length ns ≡ length ts
terms-length t [] [] h = refl
terms-length t [] (a ∷ ts) h = absurd h
terms-length t (n ∷ ns) [] h = absurd h
terms-length t (n ∷ ns) (a ∷ ts) h = ap suc (terms-length t ns ts h.1)

pub closed-at : (ts : List TermTree) (i : ℕ) (w : TermTree) → list_all (λ a. is_closed_term a 0) ts ≡ true → slice_get ts i ≡ Some w → is_closed_term w 0 ≡ true
closed-at [] i w h e = absurd (cc)
closed-at (a ∷ ts) zero w h e = let same : a ≡ w = cc in subst (λ (z : TermTree). is_closed_term z 0 ≡ true) same (both-left (is_closed_term a 0) (list_all (λ b. is_closed_term b 0) ts) h)
closed-at (a ∷ ts) (suc i) w h e = closed-at ts i w (both-right (is_closed_term a 0) (list_all (λ b. is_closed_term b 0) ts) h) e

-- nodes of closed terms
pub closed-usable : (t : Listing) (ns : List ℕ) (ts : List TermTree) → AreTerms t ns ts → list_all (λ a. is_closed_term a 0) ts ≡ true → AreUsable t ns
unfolding is_object the_object
closed-usable t [] [] h c = tt
closed-usable t [] (a ∷ ts) h c = absurd h
closed-usable t (n ∷ ns) [] h c = absurd h
closed-usable t (n ∷ ns) (a ∷ ts) h c = (
  ap is_object h.0,
  ap (λ o. is_closed_term (the_object o) 0) h.0 ∙ both-left (is_closed_term a 0) (list_all (λ b. is_closed_term b 0) ts) c,
  closed-usable t ns ts h.1 (both-right (is_closed_term a 0) (list_all (λ b. is_closed_term b 0) ts) c),
)

-- Where no node stands twice, the term at a place is among the first ones exactly where the place is one of theirs.
module _ (t : Listing) (among : (n : ℕ) (a : TermTree) (ns : List ℕ) (ts : List TermTree) → IsTerm t n a → AreTerms t ns ts → list_any (nat_eq n) ns ≡ is_among a ts) where
  take-terms : (ns : List ℕ) (ts : List TermTree) (k : ℕ) → AreTerms t ns ts → AreTerms t (take k ns) (take k ts)
  take-terms ns ts zero h = tt
  take-terms [] [] (suc k) h = tt
  take-terms [] (a ∷ ts) (suc k) h = absurd h
  take-terms (n ∷ ns) [] (suc k) h = absurd h
  take-terms (n ∷ ns) (a ∷ ts) (suc k) h = (h.0, take-terms ns ts k h.1)

  pub among-first : (ns : List ℕ) (ts : List TermTree) (k n : ℕ) (a : TermTree) → AreTerms t ns ts → IsTerm t n a → is_among a (take k ts) ≡ list_any (nat_eq n) (take k ns)
  among-first ns ts k n a h e = sym (among n a (take k ns) (take k ts) e (take-terms ns ts k h))

-- a node of the list
pub usable-at : (t : Listing) (ns : List ℕ) (i n : ℕ) → AreUsable t ns → slice_get ns i ≡ Some n → (is_object (slice_get (nodes t) n) ≡ true) × (is_closed_term (the_object (slice_get (nodes t) n)) 0 ≡ true)
usable-at t [] i n h e = absurd (cc)
usable-at t (m ∷ ns) zero n h e =
    let same : m ≡ n = cc in
    subst (λ (k : ℕ). (is_object (slice_get (nodes t) k) ≡ true) × (is_closed_term (the_object (slice_get (nodes t) k)) 0 ≡ true)) same (h.0, h.1)
usable-at t (m ∷ ns) (suc i) n h e = usable-at t ns i n h.2 e

-- nodes stay terms while the table grows
one-usable : (t u : Listing) (n : ℕ) → Extends t u → is_object (slice_get (nodes t) n) ≡ true → slice_get (nodes u) n ≡ slice_get (nodes t) n
one-usable t u n g h = let at = it-is-object (slice_get (nodes t) n) h in g.nodes.keeps n (of_object (the_object (slice_get (nodes t) n))) at ∙ sym at

pub usable-grows : (t u : Listing) → Extends t u → (ns : List ℕ) → AreUsable t ns → AreUsable u ns
usable-grows t u g [] h = h
usable-grows t u g (n ∷ ns) h =
    let same = one-usable t u n g h.0 in
    (ap is_object same ∙ h.0, ap (λ o. is_closed_term (the_object o) 0) same ∙ h.1, usable-grows t u g ns h.2)
