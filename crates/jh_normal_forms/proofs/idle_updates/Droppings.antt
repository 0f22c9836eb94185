-- A formula without the updates that change nothing means what it means.
use Rattle.std.proofs.Common.{◌≡◌, refl, ℕ, List}
use Rattle.jh_form.specs.Tree.{FieldTree, FormulaTree}
use Rattle.jh_form.specs.Tree as t
use Rattle.jh_form.specs.Meaning.{Interp, field_value, truth}
use Rattle.jh_normal_forms.specs.declared.rebuilding.polarity.Polarity.TheVariants as pol
use Rattle.jh_normal_forms.specs.rebuilding.Sound.{Sound}
use Rattle.jh_normal_forms.proofs.rebuilding.Stands.{truth-built}
use Rattle.jh_normal_forms.specs.idle_updates.Dropped.{without_field_value, dropping, dropped}
use Rattle.jh_normal_forms.proofs.set_opening.Standing.{stands-same}

without-means : (f : FieldTree) (m : Interp) (e : List ℕ) → field_value (without_field_value f) m e ≡ field_value f m e
unfolding without_field_value
without-means (t.free_field x) m e = refl
without-means (t.update f a (t.of_object v)) m e = refl
without-means (t.update f a (t.of_number v)) m e = refl
without-means (t.update f a (t.of_truth v)) m e = refl
without-means (t.update f a (t.of_set v)) m e = refl
without-means (t.update f a (t.of_field v)) m e = refl

dropping-sound : Sound dropping
dropping-sound = record {
  object = λ a m e. refl;
  number = λ a m e. refl;
  set = λ a m e. refl;
  field = without-means;
  truth = λ a s m e. stands-same s (truth a m e) (truth a m e) refl;
}

pub dropped-means : (a : FormulaTree) (m : Interp) (e : List ℕ) → truth (dropped a) m e ≡ truth a m e
unfolding dropped
dropped-means a m e = truth-built dropping dropping-sound a pol.Both m e
