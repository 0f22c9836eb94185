-- What a method may not write is as it was, in its caller.
use Rattle.std.proofs.Common.{◌≡◌, refl, sym, ap, ◌∙◌, Bool, true, false, List}
use Rattle.jh_name.specs.declared.naming.Name.{Name}
use Rattle.jh_name.specs.declared.place.Sort.{Sort}
use Rattle.jh_name.specs.declared.place.Sort.TheVariants as sort
use Rattle.jh_form.specs.Tree as t
use Rattle.jh_vars.specs.Written.{Callee}
use Rattle.jh_semantics.specs.Code.{Text}
use Rattle.jh_semantics.specs.Program.{Program}
use Rattle.jh_semantics.specs.State.{State, named}
use Rattle.jh_semantics.specs.Locals.{has_dot, with_locals_of}
use Rattle.jh_guard.specs.Items.{Sorted, items_where}
use Rattle.jh_guard.specs.Writes.{Writes}
use Rattle.jh_guard.specs.Calls.{written_sorted}
use Rattle.jh_logic.specs.logic.MethodContracts.{LeavesUnwritten}
use Rattle.jh_logic.proofs.logic.Histories.{is_named, Outside}
use Rattle.jh_logic.proofs.logic.Renamings.{GivesAt, at-then, at-back}
use Rattle.jh_logic.proofs.logic.StateNames.{StateText, named-items, back-state, unwritten-state, chosen-else}

pub named-at-zero : (z : Name) → z.turn ≡ 0 → z ≡ named z.text
named-at-zero z e = λ i. record { text = z.text; turn = e i }

pub turned : {X : Type 0} (f h : Name → X) (z : Name) → z.turn ≡ 0 → f (named z.text) ≡ h (named z.text) → f z ≡ h z
turned f h z e same = ap f (named-at-zero z e) ∙ same ∙ ap h (sym (named-at-zero z e))

pub out-zero : (xs : List Sorted) (b : Sort) (z : Name) → z.turn ≡ 0 → is_named z b xs ≡ false → is_named (named z.text) b xs ≡ false
out-zero xs b z e out = ap (λ (y : Name). is_named y b xs) (sym (named-at-zero z e)) ∙ out

module _ (p : Program) (ws : Writes) (m : Callee) (s last : State) (left : LeavesUnwritten p ws m s last) where
  abbrev after : State
  after = with_locals_of last s

  abbrev written : List Sorted
  written = written_sorted p ws t.true_formula m

  outside-at : (b : Sort) (y : Text) → is_named (named y) b written ≡ false → StateText y b → GivesAt b s (named y) after (named y)
  outside-at b y out h =
      at-back b after s (named y) (named y)
      (at-then b after last s (named y) (named y) (named y) (back-state last s y b h)
      (unwritten-state p ws m s last y b left h (sym (named-items (items_where p (ws.written m)) y b) ∙ out)))

  outside-object : (y : Text) → is_named (named y) sort.Obj written ≡ false → s.object (named y) ≡ after.object (named y)
  outside-object y out = from (has_dot y) refl
    where
      from : (b : Bool) → has_dot y ≡ b → s.object (named y) ≡ after.object (named y)
      from true e = outside-at sort.Obj y out e
      from false e = sym (chosen-else (has_dot y) (last.object (named y)) (s.object (named y)) e)

  outside-number : (y : Text) → is_named (named y) sort.Int written ≡ false → s.number (named y) ≡ after.number (named y)
  outside-number y out = from (has_dot y) refl
    where
      from : (b : Bool) → has_dot y ≡ b → s.number (named y) ≡ after.number (named y)
      from true e = outside-at sort.Int y out e
      from false e = sym (chosen-else (has_dot y) (last.number (named y)) (s.number (named y)) e)

  outside-truth : (y : Text) → is_named (named y) sort.Bool written ≡ false → s.truth (named y) ≡ after.truth (named y)
  outside-truth y out = from (has_dot y) refl
    where
      from : (b : Bool) → has_dot y ≡ b → s.truth (named y) ≡ after.truth (named y)
      from true e = outside-at sort.Bool y out e
      from false e = sym (chosen-else (has_dot y) (last.truth (named y)) (s.truth (named y)) e)

  pub left-outside : Outside written s after
  left-outside = record {
    last = sym left.universe;
    object = λ z e out. turned s.object after.object z e (outside-object z.text (out-zero written sort.Obj z e out));
    number = λ z e out. turned s.number after.number z e (outside-number z.text (out-zero written sort.Int z e out));
    truth = λ z e out. turned s.truth after.truth z e (outside-truth z.text (out-zero written sort.Bool z e out));
    set = λ z e out. turned s.set after.set z e (outside-at sort.Set z.text (out-zero written sort.Set z e out) tt);
    field = λ z e out. turned s.field after.field z e (outside-at sort.Field z.text (out-zero written sort.Field z e out) tt);
  }
