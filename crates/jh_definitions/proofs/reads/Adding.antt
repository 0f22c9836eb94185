-- What each form of a formula reads, of what its parts do, and what calls add to a list one after another.
use Rattle.std.proofs.Common.{◌≡◌, refl, sym, ap, subst, ◌∙◌, ℕ, ℤ, suc, ◌+◌, ◌<◌, ◌≤◌, List, [], ◌∷◌, ◌++◌, length, drop, get_or, Result, OnOk, add-one, drop-cons, append_assoc, append-nil}
use Rattle.std.specs.Option.{option_map_or}
use Rattle.std.proofs.lemmas.List.{drop_all}
use Rattle.jh_name.specs.declared.memory.NoMemory.{NoMemory}
use Rattle.jh_name.specs.declared.place.Place.{Place}
use Rattle.jh_ast.specs.declared.word.Word.{Word}
use Rattle.jh_ast.specs.declared.spec.SpecOp.{SpecOp}
use Rattle.jh_ast.specs.declared.spec.SpecTree.{SpecTree}
use Rattle.jh_ast.specs.Bare.{form_tree, form_trees}
use Rattle.jh_ast.specs.Forms.{FormTree, FormTrees}
use Rattle.jh_ast.specs.Forms as f
use Rattle.jh_rules.specs.Words.{text_of}
use Rattle.jh_rules.specs.Formulas.{equations}
use Rattle.jh_symbols.specs.scopes.Lookings.{declared_by}
use Rattle.jh_vars.specs.States.{State}
use Rattle.jh_vars.specs.Reading.{reads, name_reads, fields_read}
use Rattle.jh_resolution.specs.Spots.{texts_of}
use Rattle.jh_definitions.specs.declared.reads.naming.Reading.{Reading}
use Rattle.jh_definitions.specs.reads.Listed.{reads_at, all_reads_at, reads_under}

module _ {T : Type 0} (r : Result T NoMemory) (new old : List State) where
  pub added : (xs ys : List State) → xs ≡ ys → OnOk r (new ≡ old ++ xs) → OnOk r (new ≡ old ++ ys)
  added xs ys e h = subst (λ (zs : List State). OnOk r (new ≡ old ++ zs)) e h

  -- behind what an earlier call adds
  pub added-behind : (mid xs ys zs : List State) → mid ≡ old ++ xs → xs ++ ys ≡ zs → OnOk r (new ≡ mid ++ ys) → OnOk r (new ≡ old ++ zs)
  added-behind mid xs ys zs before e h =
      subst (λ (us : List State). OnOk r (new ≡ us)) (ap (λ us. us ++ ys) before ∙ append_assoc old xs ys ∙ ap (λ us. old ++ us) e) h

-- nothing is added
pub unchanged : (old ys : List State) → [] ≡ ys → old ≡ old ++ ys
unchanged old ys e = sym (append-nil old) ∙ ap (λ us. old ++ us) e

module _ (at : Reading) (p : Place) where
  pub arm-Null : [] ≡ reads_at at (f.null p)
  unfolding reads
  arm-Null = refl

  pub arm-True : [] ≡ reads_at at (f.yes p)
  unfolding reads
  arm-True = refl

  pub arm-False : [] ≡ reads_at at (f.no p)
  unfolding reads
  arm-False = refl

  pub arm-Univ : [] ≡ reads_at at (f.univ p)
  unfolding reads
  arm-Univ = refl

  pub arm-Number : (n : ℤ) → [] ≡ reads_at at (f.number p n)
  unfolding reads
  arm-Number n = refl

  pub arm-Name : (w : Word) → name_reads (declared_by at.lookups.now) at.class (texts_of at.bound.now) w ≡ reads_at at (f.name p w)
  unfolding reads
  arm-Name w = refl

  pub arm-Member : (a : FormTree) (w : Word) → reads_at at a ++ fields_read (declared_by at.lookups.now) at.class (w ∷ []) ≡ reads_at at (f.member p a w)
  unfolding reads
  arm-Member a w = refl

  pub arm-Not : (a : FormTree) → reads_at at a ≡ reads_at at (f.negation p a)
  unfolding reads
  arm-Not a = refl

  pub arm-Minus : (a : FormTree) → reads_at at a ≡ reads_at at (f.minus p a)
  unfolding reads
  arm-Minus a = refl

  pub arm-Old : (a : FormTree) → reads_at at a ≡ reads_at at (f.old p a)
  unfolding reads
  arm-Old a = refl

  pub arm-Card : (a : FormTree) → reads_at at a ≡ reads_at at (f.card p a)
  unfolding reads
  arm-Card a = refl

  pub arm-Binary : (o : SpecOp) (a b : FormTree) → reads_at at a ++ reads_at at b ≡ reads_at at (f.binary p o a b)
  unfolding reads
  arm-Binary o a b = refl

  pub arm-Dvd : (n : ℤ) (a : FormTree) → reads_at at a ≡ reads_at at (f.dvd p n a)
  unfolding reads
  arm-Dvd n a = refl

  pub arm-All : (ws : List Word) (a : FormTree) → reads_under at ws a ≡ reads_at at (f.all p ws a)
  unfolding reads
  arm-All ws a = refl

  pub arm-Ex : (ws : List Word) (a : FormTree) → reads_under at ws a ≡ reads_at at (f.ex p ws a)
  unfolding reads
  arm-Ex ws a = refl

  pub arm-Tree : (ws : List Word) → fields_read (declared_by at.lookups.now) at.class ws ≡ reads_at at (f.tree p ws)
  unfolding reads
  arm-Tree ws = refl

  pub arm-Rtrancl : (u v : Word) (body a b : FormTree) → (option_map_or (fields_read (declared_by at.lookups.now) at.class) (equations (text_of u) (text_of v) body) [] ++ reads_at at a) ++ reads_at at b ≡ reads_at at (f.rtrancl p u v body a b)
  unfolding reads
  arm-Rtrancl u v body a b = refl

  pub arm-Braces : (fs : FormTrees) → all_reads_at at fs ≡ reads_at at (f.braces p fs)
  unfolding reads
  arm-Braces fs = refl

  pub arm-Compr : (w : Word) (a : FormTree) → reads_under at (w ∷ []) a ≡ reads_at at (f.compr p w a)
  unfolding reads
  arm-Compr w a = refl

-- one more formula of a list
module _ (at : Reading) (fs : List SpecTree) where
  pub all-step : (new mid old : List State) (j : ℕ) (a : SpecTree) → j < length fs → a ≡ get_or fs j a →
      new ≡ mid ++ reads_at at (form_tree a) →
      mid ++ all_reads_at at (form_trees (drop j fs)) ≡ old ++ all_reads_at at (form_trees fs) →
      new ++ all_reads_at at (form_trees (drop (j + 1) fs)) ≡ old ++ all_reads_at at (form_trees fs)
  unfolding reads
  all-step new mid old j a lt e more all =
      let split : drop j fs ≡ a ∷ drop (suc j) fs = drop-cons fs j a lt ∙ ap (λ v. v ∷ drop (suc j) fs) (sym e) in
      ap (λ us. us ++ all_reads_at at (form_trees (drop (j + 1) fs))) more
      ∙ append_assoc mid (reads_at at (form_tree a)) (all_reads_at at (form_trees (drop (j + 1) fs)))
      ∙ (λ i. mid ++ (reads_at at (form_tree a) ++ all_reads_at at (form_trees (drop (add-one j i) fs))))
      ∙ ap (λ us. mid ++ all_reads_at at (form_trees us)) (sym split)
      ∙ all

  pub all-end : (mid old : List State) (j : ℕ) → length fs ≤ j →
      mid ++ all_reads_at at (form_trees (drop j fs)) ≡ old ++ all_reads_at at (form_trees fs) →
      mid ≡ old ++ all_reads_at at (form_trees fs)
  unfolding reads
  all-end mid old j le all = sym (append-nil mid) ∙ ap (λ us. mid ++ all_reads_at at (form_trees us)) (sym (drop_all j fs le)) ∙ all
