-- Which answers are right for sequents.
use Rattle.std.specs.Prelude.{◌≡◌, ◌⊎◌, ℕ, false, List, [], ◌∷◌}
use Rattle.jh_query.specs.queries.Bare.{query_tree}
pub use Rattle.jh_bapa.specs.answers.Causes.{IsCause, IsProof, IsRegional}
use Rattle.jh_approx.specs.definition.Regions.{bapa_of, unlabelled}
use Rattle.jh_seq.specs.sequent.Sequents.{SequentTree}
use Rattle.jh_derivation_rules.specs.Closes.{ClosesSequent}
use Rattle.jh_derivation_rules.specs.Steps.{steps_of}
use Rattle.jh_local.specs.jh_instance_proofs.derivations.Nesting.{OperandsNestWithin}
use Rattle.jh_prove.specs.trivial.Trivial.{IsTrivial}
use Rattle.jh_local.specs.jh_inst.instances.Instances.{IsFirstFree, instances}
use Rattle.jh_local.specs.jh_inst.instances.Count.{count}
use Rattle.jh_local.specs.Answers.{AreRefuted, IsSearched}
use Rattle.jh_local.specs.declared.answer.Searched.{Searched}
use Rattle.jh_local.specs.declared.answer.Searched.TheVariants as searched
use Rattle.jh_local.specs.jh_fca.local_form.LocalOf.{local_of}
use Rattle.jh_name.specs.declared.options.Options.{Options}
use Rattle.jh_prove.specs.declared.prover.answer.Answer.{Answer}
use Rattle.jh_prove.specs.declared.prover.answer.Answer.TheVariants as answer

-- what is searched for a sequent: its local form, without labels
abbrev pub local_form : SequentTree → SequentTree
local_form s = local_of (unlabelled s)

-- what the search for a ground model says of a sequent
abbrev pub IsTried : Options → SequentTree → Searched → Type 0
IsTried o s a = IsSearched (local_form s) o.rounds o.leaves a

-- Of the local form of a sequent there can be at most 100,000 instances after so many rounds, and they have no ground model.
pub record IsLocalProof (rounds : ℕ) (s : SequentTree) : Type 0 where
  pub first : ℕ
  pub is_first : IsFirstFree (local_form s) first
  pub refuted : AreRefuted (instances (local_form s) first rounds) (count (local_form s) first rounds)

-- An answer is right for a sequent, by these options: Trivial exactly where it is trivial; else Bapa, with its query, where that is
-- within the limits and true; else Local where its instances have no ground model, with a derivation that closes its local form and of
-- which no operand nests deeper than 4,096 levels; and else Unproved, with why its query is no proof and why the search for a ground
-- model is none.
abbrev pub Right : Options → SequentTree → Answer → Type 0
Right o s answer.Trivial = IsTrivial s
Right o s (answer.Bapa query) = (IsTrivial s → ⊥) × (query_tree query ≡ bapa_of s) × IsProof (bapa_of s)
Right o s (answer.Local derivation) = (IsTrivial s → ⊥) × (IsProof (bapa_of s) → ⊥) × IsLocalProof o.rounds s × ClosesSequent (steps_of derivation) (local_form s) × OperandsNestWithin 4096 (steps_of derivation)
Right o s (answer.Unproved bapa local) = (IsTrivial s → ⊥) × IsCause (bapa_of s) bapa × IsTried o s (searched.Unproved local)

-- right answers for sequents, one for each, in the same order
abbrev pub AllRight : Options → List SequentTree → List Answer → Type 0
AllRight o [] [] = Unit {0}
AllRight o (s ∷ ss) (a ∷ more) = Right o s a × AllRight o ss more
AllRight o [] (a ∷ more) = ⊥
AllRight o (s ∷ ss) [] = ⊥

-- a sequent that is trivial, or whose query is within the limits and true, or of whose instances after so many rounds there can be at most
-- 100,000, and they have no ground model
abbrev pub IsProvable : ℕ → SequentTree → Type 0
IsProvable rounds s = IsTrivial s ⊎ (IsProof (bapa_of s) ⊎ IsLocalProof rounds s)

abbrev pub AllProvable : ℕ → List SequentTree → Type 0
AllProvable rounds [] = Unit {0}
AllProvable rounds (s ∷ ss) = IsProvable rounds s × AllProvable rounds ss
