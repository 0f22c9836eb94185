-- What steps that ask formulas cite.
use Rattle.std.proofs.Common.{◌≡◌, refl, inl, inr, ℕ, true, List, Option, Some, slice_get}
use Rattle.std.proofs.lemmas.Bool.{true≢false}
use Rattle.jh_name.specs.declared.naming.Name.{Name}
use Rattle.jh_ast.specs.Programs.{ProgramTree}
use Rattle.jh_form.specs.Tree.{ValueTree, of_truth}
use Rattle.jh_arena.specs.table.Entries.{Listing}
use Rattle.jh_arena.specs.table.Nodes.{nodes}
use Rattle.jh_vars.specs.Resolved.{as_truth}
use Rattle.jh_vars.specs.Written.{Callee}
use Rattle.jh_semantics.specs.Code as c
use Rattle.jh_semantics.specs.declared.typed_code.stmts.Claim.{Claim}
use Rattle.jh_semantics.specs.typed_code.Statements.{value_of, claim_in}
use Rattle.jh_machine_code.specs.declared.code.step.Step.TheVariants as x
use Rattle.jh_machine_code.specs.code.Steps.{IsStep, IsNode}
use Rattle.jh_machine_compiler.specs.Lasting.{Makes}

-- a node has its value, where the state at entry is kept
pub node-kept : (t : Listing) (n : ℕ) (v : ValueTree) → slice_get (nodes t) n ≡ Some v → IsNode t true n v
node-kept t n v there = record { there = there; hangs = λ h. absurd (true≢false h) }

pub assert_made : {numbered : Callee → Option ℕ} {names : List Name} {t : Listing} {n : ℕ} → (p : ProgramTree) (claim : Claim) → slice_get (nodes t) n ≡ Some (of_truth (as_truth (value_of p claim.number))) → Makes numbered true names t (c.assert (claim_in p claim)) (x.Ask claim.place n)
unfolding IsStep
assert_made {numbered} {names} {t} {n} p claim there = record {
  is = λ later u more much. record {
    claim = claim_in p claim;
    there = node-kept u n (of_truth (as_truth (value_of p claim.number))) (much.nodes.keeps n (of_truth (as_truth (value_of p claim.number))) there);
    at = refl;
    is = inl refl;
  };
}

pub note_made : {numbered : Callee → Option ℕ} {names : List Name} {t : Listing} {n : ℕ} → (p : ProgramTree) (claim : Claim) → slice_get (nodes t) n ≡ Some (of_truth (as_truth (value_of p claim.number))) → Makes numbered true names t (c.note (claim_in p claim)) (x.Ask claim.place n)
unfolding IsStep
note_made {numbered} {names} {t} {n} p claim there = record {
  is = λ later u more much. record {
    claim = claim_in p claim;
    there = node-kept u n (of_truth (as_truth (value_of p claim.number))) (much.nodes.keeps n (of_truth (as_truth (value_of p claim.number))) there);
    at = refl;
    is = inr refl;
  };
}

pub ruleset formula_steps = (assert_made, note_made)
