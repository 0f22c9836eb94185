-- What is true of instances.
use Rattle.std.specs.Prelude.{◌≡◌, ◌+◌, ◌≤◌, ℕ, true, length}
use Rattle.std.specs.List.{list_all}
use Rattle.jh_form.specs.Agreement.{AgreeOn}
use Rattle.jh_form.specs.Meaning.{Interp, InUniverse}
use Rattle.jh_seq.specs.sequent.Sequents.{SequentTree, IsValid}
use Rattle.jh_seq.specs.splitting.Local.{has_local_shape, is_local}
use Rattle.jh_seq.specs.splitting.Split.{before}
use Rattle.jh_derivation_rules.specs.Closes.{facts_of, AllHold, AreUnsatisfiable}
use Rattle.jh_inst.specs.instances.Entries.{formulas, taken}
use Rattle.jh_inst.specs.instances.Instances.{is_free, normal_facts, made, instances}
use Rattle.jh_inst.specs.instances.Count.{count}

-- Where the facts of a sequent are true, all that is made of them is true too, with suitable objects for the constants: in an
-- interpretation that differs in names from number k on alone.
abbrev pub MadeFollows : Type 0
MadeFollows =
    (s : SequentTree) (k r : ℕ) → is_free s k ≡ true → (m : Interp) → InUniverse m → AllHold m (facts_of s) →
    (n : Interp) × AgreeOn (before k) m n × InUniverse n × AllHold n (formulas (made s k r))

-- A sequent is valid where its instances are never true together.
abbrev pub ClashingInstancesGiveValid : Type 0
ClashingInstancesGiveValid = (s : SequentTree) (k r : ℕ) → is_free s k ≡ true → AreUnsatisfiable (instances s k r) → IsValid s

-- Beside the facts no more is made of a sequent of local shape than is counted.
abbrev pub MadeAtMostCounted : Type 0
MadeAtMostCounted = (s : SequentTree) (k r : ℕ) → is_local s ≡ true → length (made s k r) ≤ length (taken (normal_facts s) 0 k) + count s k r

-- What is made of a sequent of local shape has local shape.
abbrev pub MadeIsLocal : Type 0
MadeIsLocal = (s : SequentTree) (k r : ℕ) → is_local s ≡ true → list_all has_local_shape (formulas (made s k r)) ≡ true
