-- The terms that instances are put at are closed, and have no other names than what was made.
use Rattle.std.proofs.Common.{◌≡◌, refl, ℕ, Bool, true, false, ◌&&◌, if◌then◌else◌, List, [], ◌∷◌, ◌++◌, filter}
use Rattle.jh_form.specs.Tree.{TermTree, IntTree, SetTree, FormulaTree}
use Rattle.jh_form.specs.Tree as t
use Rattle.jh_form.specs.Closed.{is_closed_term}
use Rattle.jh_form.specs.Passing.{term_passes, int_passes, set_passes, field_passes, fields_passes, formula_passes}
use Rattle.jh_form.proofs.ClosedLemmas.{both-left, both-right}
use Rattle.jh_name.specs.declared.naming.Name.{Name}
use Rattle.jh_name.specs.declared.place.Sort as place
use Rattle.jh_seq.specs.splitting.Split.{before}
use Rattle.jh_inst.specs.instances.Terms.{terms_in, number_terms, set_terms, object_terms, closed_terms, is_among, with_term, with_terms, with_terms_of}
use Rattle.jh_inst.proofs.instances.Putting.{Usable, AllUsable}

module _ (p : Name → place.Sort → Bool) where
  abbrev AllPass : List TermTree → Type 0
  AllPass [] = Unit {0}
  AllPass (a ∷ more) = (term_passes a p ≡ true) × AllPass more

  pass-both : (xs bs : List TermTree) → AllPass xs → AllPass bs → AllPass (xs ++ bs)
  pass-both [] bs h g = g
  pass-both (a ∷ xs) bs h g = (h.0, pass-both xs bs h.1 g)

  in-term : (a : TermTree) → term_passes a p ≡ true → AllPass (terms_in a)
  unfolding term_passes
  in-term (t.read_object f a) h = (h, in-term a (both-right (field_passes f p) (term_passes a p) h))
  in-term a h = (h, tt)

  in-number : (a : IntTree) → int_passes a p ≡ true → AllPass (number_terms a)
  unfolding int_passes
  in-number (t.read_number f a) h = in-term a (both-right (field_passes f p) (term_passes a p) h)
  in-number a h = tt

  in-set : (a : SetTree) → set_passes a p ≡ true → AllPass (set_terms a)
  unfolding set_passes
  in-set (t.read_set f a) h = in-term a (both-right (field_passes f p) (term_passes a p) h)
  in-set a h = tt

  in-formula : (a : FormulaTree) → formula_passes a p ≡ true → AllPass (object_terms a)
  unfolding formula_passes
  in-formula (t.negation a) h = in-formula a h
  in-formula (t.and a b) h = pass-both (object_terms a) (object_terms b) (in-formula a (both-left (formula_passes a p) (formula_passes b p) h)) (in-formula b (both-right (formula_passes a p) (formula_passes b p) h))
  in-formula (t.or a b) h = pass-both (object_terms a) (object_terms b) (in-formula a (both-left (formula_passes a p) (formula_passes b p) h)) (in-formula b (both-right (formula_passes a p) (formula_passes b p) h))
  in-formula (t.all a) h = in-formula a h
  in-formula (t.ex a) h = in-formula a h
  in-formula (t.read_truth f a) h = in-term a (both-right (field_passes f p) (term_passes a p) h)
  in-formula (t.eq_object a b) h = pass-both (terms_in a) (terms_in b) (in-term a (both-left (term_passes a p) (term_passes b p) h)) (in-term b (both-right (term_passes a p) (term_passes b p) h))
  in-formula (t.eq_number a b) h = pass-both (number_terms a) (number_terms b) (in-number a (both-left (int_passes a p) (int_passes b p) h)) (in-number b (both-right (int_passes a p) (int_passes b p) h))
  in-formula (t.member a b) h = pass-both (terms_in a) (set_terms b) (in-term a (both-left (term_passes a p) (set_passes b p) h)) (in-set b (both-right (term_passes a p) (set_passes b p) h))
  in-formula (t.reach fs a b) h =
      pass-both (terms_in a) (terms_in b)
      (in-term a (both-right (fields_passes fs p) (term_passes a p) (both-left (fields_passes fs p && term_passes a p) (term_passes b p) h)))
      (in-term b (both-right (fields_passes fs p && term_passes a p) (term_passes b p) h))
  in-formula a h = tt

module _ (k : ℕ) where
  of-test : (a : TermTree) (more : List TermTree) (b : Bool) → is_closed_term a 0 ≡ b → term_passes a (before k) ≡ true → AllUsable k more → AllUsable k (if b then a ∷ more else more)
  of-test a more true e h u = ((e, h), u)
  of-test a more false e h u = u

  closed-usable : (xs : List TermTree) → AllPass (before k) xs → AllUsable k (filter (λ b. is_closed_term b 0) xs)
  closed-usable [] h = tt
  closed-usable (a ∷ more) h = of-test a (filter (λ b. is_closed_term b 0) more) (is_closed_term a 0) refl h.0 (closed-usable more h.1)

  one-more : (ts : List TermTree) (a : TermTree) → AllUsable k ts → Usable k a → AllUsable k (ts ++ (a ∷ []))
  one-more [] a u h = (h, tt)
  one-more (b ∷ ts) a u h = (u.0, one-more ts a u.1 h)

  maybe-more : (b : Bool) (ts : List TermTree) (a : TermTree) → AllUsable k ts → Usable k a → AllUsable k (if b then ts else ts ++ (a ∷ []))
  maybe-more true ts a u h = u
  maybe-more false ts a u h = one-more ts a u h

  several-more : (ts xs : List TermTree) → AllUsable k ts → AllUsable k xs → AllUsable k (with_terms ts xs)
  several-more ts [] u h = u
  several-more ts (a ∷ xs) u h = several-more (with_term ts a) xs (maybe-more (is_among a ts) ts a u h.0) h.1

  abbrev pub AllBare : List FormulaTree → Type 0
  AllBare [] = Unit {0}
  AllBare (a ∷ more) = (formula_passes a (before k) ≡ true) × AllBare more

  pub terms-usable : (ts : List TermTree) (xs : List FormulaTree) → AllUsable k ts → AllBare xs → AllUsable k (with_terms_of ts xs)
  terms-usable ts [] u h = u
  terms-usable ts (a ∷ more) u h = terms-usable (with_terms ts (closed_terms a)) more (several-more ts (closed_terms a) u (closed-usable (object_terms a) (in-formula (before k) a h.0))) h.1
