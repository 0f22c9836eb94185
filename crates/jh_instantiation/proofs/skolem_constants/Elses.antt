-- Formulas that are taken as they stand.
use Rattle.std.proofs.Common.{◌≡◌, refl, ℕ, List}
use Rattle.jh_name.specs.declared.naming.Name.{Name}
use Rattle.jh_form.specs.Tree.{FormulaTree, TermTree}
use Rattle.jh_form.specs.Tree as t
use Rattle.jh_seq.specs.splitting.Split.{closed_by}
use Rattle.jh_inst.specs.instances.Prenex.{pulled, in_front}
use Rattle.jh_inst.specs.instances.Rounds.{put_at}
use Rattle.jh_inst.specs.instances.Witnesses.{witnesses, witnessed}
use Rattle.std.specs.Prelude.{[], ◌∷◌}

abbrev pub NoAnd : FormulaTree → Type 0
NoAnd a = (x y : FormulaTree) → a ≡ t.and x y → ⊥

abbrev pub NoOr : FormulaTree → Type 0
NoOr a = (x y : FormulaTree) → a ≡ t.or x y → ⊥

abbrev pub NoAll : FormulaTree → Type 0
NoAll a = (x : FormulaTree) → a ≡ t.all x → ⊥

abbrev pub NoEx : FormulaTree → Type 0
NoEx a = (x : FormulaTree) → a ≡ t.ex x → ⊥

pub witnessed-else : (a : FormulaTree) (ws : List Name) (k : ℕ) → NoAnd a → NoOr a → NoEx a → witnessed a ws k ≡ closed_by a ws
witnessed-else (t.and x y) ws k f g h = absurd (f x y refl)
witnessed-else (t.or x y) ws k f g h = absurd (g x y refl)
witnessed-else (t.ex x) ws k f g h = absurd (h x refl)
witnessed-else _ ws k f g h = refl

pub witnesses-else : (a : FormulaTree) → NoAnd a → NoOr a → NoEx a → witnesses a ≡ 0
witnesses-else (t.and x y) f g h = absurd (f x y refl)
witnesses-else (t.or x y) f g h = absurd (g x y refl)
witnesses-else (t.ex x) f g h = absurd (h x refl)
witnesses-else _ f g h = refl

pub pulled-else : (a : FormulaTree) → NoAnd a → NoOr a → NoAll a → pulled a ≡ record { variables = 0; body = a }
pulled-else (t.and x y) f g h = absurd (f x y refl)
pulled-else (t.or x y) f g h = absurd (g x y refl)
pulled-else (t.all x) f g h = absurd (h x refl)
pulled-else _ f g h = refl

pub in_front-else : (a : FormulaTree) → NoAll a → in_front a ≡ 0
in_front-else (t.all x) h = absurd (h x refl)
in_front-else _ h = refl

-- a formula without a quantifier in front stays, put at any terms
pub put-else : (a : FormulaTree) (ws : List TermTree) → NoAll a → put_at a ws ≡ a
put-else a [] h = refl
put-else (t.all x) (w ∷ ws) h = absurd (h x refl)
put-else _ (w ∷ ws) h = refl
