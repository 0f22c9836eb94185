-- A value without names under `old` hangs on the state now alone.
use Rattle.std.proofs.Common.{◌≡◌, refl, sym, subst, ◌∙◌, ◌⊎◌, inl, inr, arith, ℕ, zero, suc, ◌==◌, Bool, true, false, List, [], Option, None, Some, slice_get, FitsSigned}
use Rattle.std.proofs.lemmas.Bool.{eqb-true, false≢true}
use Rattle.std.proofs.lemmas.Option.{same_Some}
use Rattle.std.specs.Int.{w128}
use Rattle.jh_name.specs.declared.naming.Name.{Name}
use Rattle.jh_form.specs.Tree.{IntTree, ValueTree, of_number}
use Rattle.jh_form.specs.Passing.{int_passes, value_passes}
use Rattle.jh_form.specs.Meaning.{Interp, int_value, datum}
use Rattle.jh_form.specs.Agreement.{AgreeOn}
use Rattle.jh_form.proofs.Coincidences.{int_value-agrees, datum-agrees}
use Rattle.jh_boxed.specs.Parts.{IsPart}
use Rattle.jh_arena.specs.table.Entries.{Listing}
use Rattle.jh_arena.specs.table.Nodes.{nodes}
use Rattle.jh_arena.specs.table.Growth.{Extends}
use Rattle.jh_operands.specs.jh_sem.Wide.{IsWide}
use Rattle.jh_semantics.specs.State.{State, shown, by_turn}
use Rattle.jh_machine_code.specs.code.Steps.{HangsOnNow, IsNode}
use Rattle.jh_machine_code.specs.entry_state.Now.{is_now, says_now, reads_now}
use Rattle.jh_machine_code.proofs.entry_state.PartPasses.{part-passes}

-- of turn 0 what was at entry plays no part
at-now : {X : Type 0} (turn : ℕ) (now old other : X) → (turn == 0) ≡ true → by_turn turn now old ≡ by_turn turn now other
at-now zero now old other h = refl
at-now (suc k) now old other h = absurd (omega (arith, eqb-true (suc k) 0 h))

both-show : (now old other : State) → AgreeOn is_now (shown now old) (shown now other)
both-show now old other = record {
  last = refl;
  object = λ x h. at-now x.turn (now.object x) _ _ h;
  number = λ x h. at-now x.turn (now.number x) _ _ h;
  truth = λ x h. at-now x.turn (now.truth x) _ _ h;
  set = λ x h. at-now x.turn (now.set x) _ _ h;
  field = λ x h. at-now x.turn (now.field x) _ _ h;
}

-- each number term in a value that passes does
term-passes : (v : ValueTree) (a : IntTree) → value_passes v is_now ≡ true → (of_number a ≡ v) ⊎ IsPart (of_number a) v → value_passes (of_number a) is_now ≡ true
term-passes v a passes (inl e) = subst (λ (w : ValueTree). value_passes w is_now ≡ true) (sym e) passes
term-passes v a passes (inr part) = part-passes is_now (of_number a) v part passes

-- a number term that passes has one value, whatever was at entry
one-number : (now old other : State) (a : IntTree) (e : List ℕ) → value_passes (of_number a) is_now ≡ true → int_value a (shown now old) e ≡ int_value a (shown now other) e
unfolding value_passes
one-number now old other a e h = int_value-agrees is_now (shown now old) (shown now other) (both-show now old other) a e h

pub hangs-on-now : (v : ValueTree) → value_passes v is_now ≡ true → HangsOnNow v
hangs-on-now v passes = record {
  same = λ now old other. datum-agrees is_now (shown now old) (shown now other) (both-show now old other) v [] passes;
  wide = λ now old other wide. record {
    term = wide.term;
    within = wide.within;
    objects = wide.objects;
    inside = wide.inside;
    outside = λ fits. wide.outside (subst (λ z. FitsSigned w128 z) (one-number now other old wide.term wide.objects (term-passes v wide.term passes wide.within)) fits);
  };
}

-- what stands at a node in a table passes, where it did in one from which the table grew
module _ (t u : Listing) (much : Extends t u) (n : ℕ) (v : ValueTree) (there : slice_get (nodes u) n ≡ Some v) where
  passes-there : (o : Option ValueTree) → slice_get (nodes t) n ≡ o → says_now o ≡ true → value_passes v is_now ≡ true
  passes-there None e h = absurd (false≢true h)
  passes-there (Some w) e h = subst (λ x. value_passes x is_now ≡ true) (same_Some w v (sym (much.nodes.keeps n w e) ∙ there)) h

  pub node-unkept : reads_now t n ≡ true → IsNode u false n v
  node-unkept h = record { there = there; hangs = λ e. hangs-on-now v (passes-there (slice_get (nodes t) n) refl h) }
