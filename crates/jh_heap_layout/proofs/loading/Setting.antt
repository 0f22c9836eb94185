-- The set of a name in a state, written again and again.
use Rattle.std.proofs.Common.{◌≡◌, refl, sym, ap, subst, ◌∙◌, ℕ, Bool, true, false, if◌then◌else◌, ◌||◌}
use Rattle.jh_name.specs.declared.naming.Name.{Name}
use Rattle.jh_form.specs.Meaning.{Interp, a_set}
use Rattle.jh_form.specs.Passing.{name_equal}
use Rattle.jh_form.specs.Assigned.{assigned}
use Rattle.jh_form.proofs.Names.{name_equal-same, name_equal-true}

module _ (m : Interp) (x : Name) where
  abbrev pub with_set : (ℕ → Bool) → Interp
  with_set f = assigned m x (a_set f)

  pub set-there : (f : ℕ → Bool) → (with_set f).set x ≡ f
  set-there f = ap (λ t. if t then f else m.set x) (name_equal-same x x refl)

  pub sets-same : (f g : ℕ → Bool) → ((b : ℕ) → f b ≡ g b) → with_set f ≡ with_set g
  sets-same f g h = let same : f ≡ g = λ j b. h b j in ap with_set same

  twice : (f g h : ℕ → Bool) (t : Bool) → (if t then g else (if t then f else h)) ≡ (if t then g else h)
  twice f g h true = refl
  twice f g h false = refl

  pub set-again : (f g : ℕ → Bool) → assigned (with_set f) x (a_set g) ≡ with_set g
  set-again f g = λ j. record {
    last = m.last;
    object = m.object;
    number = m.number;
    truth = m.truth;
    set = λ y. twice f g (m.set y) (name_equal y x) j;
    field = m.field;
  }

  kept-at : (y : Name) (t : Bool) → name_equal y x ≡ t → (if t then m.set x else m.set y) ≡ m.set y
  kept-at y true e = ap m.set (sym (name_equal-true y x e))
  kept-at y false e = refl

  -- its own set
  pub set-kept : (f : ℕ → Bool) → ((b : ℕ) → f b ≡ m.set x b) → with_set f ≡ m
  set-kept f h = sets-same f (m.set x) h ∙ own
    where
      own : with_set (m.set x) ≡ m
      own = λ j. record {
        last = m.last;
        object = m.object;
        number = m.number;
        truth = m.truth;
        set = λ y. kept-at y (name_equal y x) refl j;
        field = m.field;
      }

  -- what joined, and then joins more
  pub joins-more : (n : Interp) (g h : ℕ → Bool) → n ≡ with_set (λ b. m.set x b || g b) → assigned n x (a_set (λ b. n.set x b || h b)) ≡ with_set (λ b. (m.set x b || g b) || h b)
  joins-more n g h e =
      subst (λ (k : Interp). assigned k x (a_set (λ b. k.set x b || h b)) ≡ with_set (λ b. (m.set x b || g b) || h b)) (sym e)
      (set-again (λ b. m.set x b || g b) (λ b. (with_set (λ c. m.set x c || g c)).set x b || h b) ∙ sets-same (λ b. (with_set (λ c. m.set x c || g c)).set x b || h b) (λ b. (m.set x b || g b) || h b) (λ b. ap (λ (s : ℕ → Bool). s b || h b) (set-there (λ c. m.set x c || g c))))

  -- what joins an empty set is all that is in it
  pub joins-none : (n : Interp) (g h : ℕ → Bool) → n ≡ with_set g → ((b : ℕ) → g b ≡ false) → assigned n x (a_set (λ b. n.set x b || h b)) ≡ with_set h
  joins-none n g h e empty =
      subst (λ (k : Interp). assigned k x (a_set (λ b. k.set x b || h b)) ≡ with_set h) (sym e)
      (set-again g (λ b. (with_set g).set x b || h b) ∙ sets-same (λ b. (with_set g).set x b || h b) h (λ b. ap (λ (s : ℕ → Bool). s b || h b) (set-there g) ∙ ap (λ t. t || h b) (empty b)))
