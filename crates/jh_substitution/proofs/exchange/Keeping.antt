-- What an exchange under binders keeps.
use Rattle.std.proofs.Common.{◌≡◌, refl, sym, ap, subst, ◌∙◌, ℕ, suc, ◌<◌, ◌∷◌}
use Rattle.jh_form.specs.Tree.{of_object}
use Rattle.jh_form.specs.Tree as t
use Rattle.jh_form.specs.Meaning.{Datum, datum, term_value}
use Rattle.jh_form.proofs.Universes.{term_inside}
use Rattle.jh_boxed.specs.Mapped.{mapped_formula}
use Rattle.jh_boxed_operations.specs.comparison.Inside.{SameIn}
use Rattle.jh_substitution.specs.simultaneous.Lifted.{lifting}
use Rattle.jh_substitution.specs.exchange.Under.{raised}
use Rattle.jh_substitution.specs.exchange.Laws.{ExchangeUnderKeepsMeaning, VariedKeepsMeaning}
use Rattle.jh_substitution.proofs.exchange.Liftings.{raised-means, risen-means}
use Rattle.jh_substitution.proofs.exchange.Meanings.{inside-more, truth-under}

pub exchange-under-keeps : ExchangeUnderKeepsMeaning
exchange-under-keeps a old new m e universe inside same = sym (truth-under old new m universe e same a 0 e (refl, inside))

pub varied-keeps : VariedKeepsMeaning
varied-keeps a b m e universe inside =
    let x : ℕ = term_value b m e in
    let lt : x < suc m.last = term_inside m universe e inside b in
    let same : SameIn m.last (datum (raised 1 (of_object b)) m (x ∷ e)) (datum (of_object (t.bound 0)) m (x ∷ e)) =
    subst (λ (d : Datum). SameIn m.last d (datum (of_object (t.bound 0)) m (x ∷ e))) (sym (raised-means 1 (of_object b) m (x ∷ e))) refl in
    exchange-under-keeps (mapped_formula a (lifting 1) 0) (raised 1 (of_object b)) (of_object (t.bound 0)) m (x ∷ e) universe (inside-more m.last x e lt inside) same
    ∙ risen-means 1 a m (x ∷ e)
