-- Entries stay while the table and the list of terms grow.
use Rattle.std.proofs.Common.{◌≡◌, refl, ap, subst, sym, ◌∙◌, ℕ, zero, suc, ◌+◌, arith, List, [], ◌∷◌, ◌++◌, length, slice_get, Some}
use Rattle.jh_form.specs.Tree.{TermTree, FormulaTree, of_object, of_truth}
use Rattle.jh_arena.specs.table.Entries.{Listing}
use Rattle.jh_arena.specs.table.Growth.{Extends, Grows}
use Rattle.jh_arena.specs.table.Nodes.{nodes}
use Rattle.jh_instantiation.specs.instance_count.Grouping.{AreFormulas}
use Rattle.jh_instantiation.specs.closed_terms.Listed.{AreTerms}
use Rattle.jh_instantiation.specs.skolem_constants.Standing.{IsFormula}
use Rattle.jh_inst.specs.instances.Entries.{Entry}
use Rattle.jh_instantiation.specs.declared.instances.entry.NodeEntry.{NodeEntry}
use Rattle.jh_instantiation.specs.instances.Standing.{AreTermsAt, IsEntry, AreEntries}

module _ (t u : Listing) (g : Extends t u) where
  pub formulas-grow : (ns : List ℕ) (fs : List FormulaTree) → AreFormulas t ns fs → AreFormulas u ns fs
  formulas-grow [] [] h = h
  formulas-grow [] (a ∷ fs) h = absurd h
  formulas-grow (n ∷ ns) [] h = absurd h
  formulas-grow (n ∷ ns) (a ∷ fs) h = (g.nodes.keeps n (of_truth a) h.0, formulas-grow ns fs h.1)

  pub terms-grow : (ns : List ℕ) (ts : List TermTree) → AreTerms t ns ts → AreTerms u ns ts
  terms-grow [] [] h = h
  terms-grow [] (a ∷ ts) h = absurd h
  terms-grow (n ∷ ns) [] h = absurd h
  terms-grow (n ∷ ns) (a ∷ ts) h = (g.nodes.keeps n (of_object a) h.0, terms-grow ns ts h.1)

  module _ (old new : List ℕ) (more : Grows old new) where
    pub terms-at-grow : (i : ℕ) (ws : List TermTree) → AreTermsAt t old i ws → AreTermsAt u new i ws
    terms-at-grow i [] h = h
    terms-at-grow i (w ∷ ws) h = (h.0, more.keeps i h.0 h.1, g.nodes.keeps h.0 (of_object w) h.2, terms-at-grow (suc i) ws h.3)

    pub entry-grows : (x : NodeEntry) (e : Entry) → IsEntry t old x e → IsEntry u new x e
    entry-grows x e h = record {
      formula = g.nodes.keeps x.formula (of_truth e.formula) h.formula;
      source = h.source;
      counted = h.counted;
      terms = terms-at-grow x.terms e.terms h.terms;
      fresh = h.fresh;
    }

    pub entries-grow : (xs : List NodeEntry) (es : List Entry) → AreEntries t old xs es → AreEntries u new xs es
    entries-grow [] [] h = h
    entries-grow [] (e ∷ es) h = absurd h
    entries-grow (x ∷ xs) [] h = absurd h
    entries-grow (x ∷ xs) (e ∷ es) h = (entry-grows x e h.0, entries-grow xs es h.1)

-- one more entry
pub one-entry : (t : Listing) (pool : List ℕ) (xs : List NodeEntry) (es : List Entry) (x : NodeEntry) (e : Entry) → AreEntries t pool xs es → IsEntry t pool x e → AreEntries t pool (xs ++ x ∷ []) (es ++ (e ∷ []))
one-entry t pool [] [] x e h k = (k, tt)
one-entry t pool [] (f ∷ es) x e h k = absurd h
one-entry t pool (y ∷ xs) [] x e h k = absurd h
one-entry t pool (y ∷ xs) (f ∷ es) x e h k = (h.0, one-entry t pool xs es x e h.1 k)

-- terms behind others
pub terms-behind : (t : Listing) (pool ns : List ℕ) (ws : List TermTree) → AreTerms t ns ws → AreTermsAt t (pool ++ ns) (length pool) ws
terms-behind t pool ns ws h = from-place t pool ns (pool ++ ns) (length pool) ws h (λ i n e. behind-there pool ns i n e)
  where
    behind-there : (pool ns : List ℕ) (i n : ℕ) → slice_get ns i ≡ Some n → slice_get (pool ++ ns) (length pool + i) ≡ Some n
    behind-there [] ns i n e = let same : 0 + i ≡ i = omega arith in ap (slice_get ns) same ∙ e
    behind-there (m ∷ pool) ns i n e = let same : suc (length pool) + i ≡ suc (length pool + i) = omega arith in ap (slice_get (m ∷ (pool ++ ns))) same ∙ behind-there pool ns i n e

    from-place : (t : Listing) (pool ns all : List ℕ) (p : ℕ) (ws : List TermTree) → AreTerms t ns ws → ((i n : ℕ) → slice_get ns i ≡ Some n → slice_get all (p + i) ≡ Some n) → AreTermsAt t all p ws
    from-place t pool [] all p [] h f = tt
    from-place t pool [] all p (w ∷ ws) h f = absurd h
    from-place t pool (n ∷ ns) all p [] h f = tt
    from-place t pool (n ∷ ns) all p (w ∷ ws) h f =
        (n, (let same : p + 0 ≡ p = omega arith in ap (slice_get all) (sym same) ∙ f 0 n refl), h.0, from-place t pool ns all (suc p) ws h.1 (λ i m e. let same : suc p + i ≡ p + suc i = omega arith in ap (slice_get all) same ∙ f (suc i) m e))

-- the entry at a place, and how many there are
pub entry-at : (t : Listing) (pool : List ℕ) (xs : List NodeEntry) (es : List Entry) (i : ℕ) (x : NodeEntry) (e : Entry) → AreEntries t pool xs es → slice_get xs i ≡ Some x → slice_get es i ≡ Some e → IsEntry t pool x e
entry-at t pool [] es i x e h f g = absurd (cc)
entry-at t pool (y ∷ xs) [] i x e h f g = absurd h
entry-at t pool (y ∷ xs) (d ∷ es) zero x e h f g =
    let p : y ≡ x = cc in
    let q : d ≡ e = cc in
    subst (λ (z : NodeEntry). IsEntry t pool z e) p (subst (λ (z : Entry). IsEntry t pool y z) q h.0)
entry-at t pool (y ∷ xs) (d ∷ es) (suc i) x e h f g = entry-at t pool xs es i x e h.1 f g

pub entries-length : (t : Listing) (pool : List ℕ) (xs : List NodeEntry) (es : List Entry) → AreEntries t pool xs es → length xs ≡ length es
entries-length t pool [] [] h = refl
entries-length t pool [] (e ∷ es) h = absurd h
entries-length t pool (x ∷ xs) [] h = absurd h
entries-length t pool (x ∷ xs) (e ∷ es) h = ap suc (entries-length t pool xs es h.1)

-- the formula at a place of a list of nodes
pub formula-of : (t : Listing) (ns : List ℕ) (fs : List FormulaTree) (i n : ℕ) → AreFormulas t ns fs → slice_get ns i ≡ Some n → (a : FormulaTree) × (slice_get fs i ≡ Some a) × IsFormula t n a
formula-of t [] fs i n h e = absurd (cc)
formula-of t (m ∷ ns) [] i n h e = absurd h
formula-of t (m ∷ ns) (a ∷ fs) zero n h e =
    let same : m ≡ n = cc in
    (a, refl, subst (λ (k : ℕ). IsFormula t k a) same h.0)
formula-of t (m ∷ ns) (a ∷ fs) (suc i) n h e = formula-of t ns fs i n h.1 e

pub formulas-length : (t : Listing) (ns : List ℕ) (fs : List FormulaTree) → AreFormulas t ns fs → length ns ≡ length fs
formulas-length t [] [] h = refl
formulas-length t [] (a ∷ fs) h = absurd h
formulas-length t (n ∷ ns) [] h = absurd h
formulas-length t (n ∷ ns) (a ∷ fs) h = ap suc (formulas-length t ns fs h.1)

-- one more term
pub one-term : (t : Listing) (ns : List ℕ) (ts : List TermTree) (n : ℕ) (w : TermTree) → AreTerms t ns ts → slice_get (nodes t) n ≡ Some (of_object w) → AreTerms t (ns ++ n ∷ []) (ts ++ (w ∷ []))
one-term t [] [] n w h k = (k, tt)
one-term t [] (a ∷ ts) n w h k = absurd h
one-term t (m ∷ ns) [] n w h k = absurd h
one-term t (m ∷ ns) (a ∷ ts) n w h k = (h.0, one-term t ns ts n w h.1 k)
