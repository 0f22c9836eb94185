-- The names at a call, as the code makes them, are those of the definition.
use Rattle.std.proofs.Common.{◌≡◌, refl, sym, ap, ◌∙◌, ℕ, suc, ◌==◌, if◌then◌else◌, Bool, true, false, List, [], ◌∷◌, map}
use Rattle.std.specs.Cmp.Lexicographic.{bytes_decides}
use Rattle.jh_name.specs.declared.naming.Name.{Name}
use Rattle.jh_form.specs.Tree.{FormulaTree}
use Rattle.jh_rules.specs.Words.{same_text}
use Rattle.jh_semantics.specs.Code.{Text, Local}
use Rattle.jh_semantics.specs.State.{named}
use Rattle.jh_guard.specs.Steps.{fresh}
use Rattle.jh_guard.specs.Calls.{CallTurns, at_call, renamed_by, argument_name, this_text, result_text}
use Rattle.jh_semantics.specs.typed_code.Statements.{local_in}
use Rattle.jh_state_facts.specs.declared.changes.names.SortedName.{SortedName}
use Rattle.jh_call_commands.specs.declared.contract_instances.calling.Calling.{Calling}
use Rattle.jh_call_commands.specs.contract_instances.Calling.{is_among, argument_turn, name_at, AreTexts, HasTurns}

if-same : {X Y : Type 0} (f : X → Y) (b : Bool) (x y : X) → f (if b then x else y) ≡ (if b then f x else f y)
if-same f true x y = refl
if-same f false x y = refl

argument-is : (ys : List Local) (k : ℕ) (x : Text) → argument_name ys k x ≡ fresh x (argument_turn ys k x)
argument-is [] k x = refl
argument-is (y ∷ ys) k x = ap (λ n. if same_text y.text x then fresh x k else n) (argument-is ys (suc k) x) ∙ sym (if-same (fresh x) (same_text y.text x) k (argument_turn ys (suc k) x))

texts-equal : (x y : Text) → same_text x y ≡ true → x ≡ y
texts-equal x y h = (bytes_decides x y).0 h

-- one text for another where they are the same
text-case : (x y : Text) (b : Bool) → same_text x y ≡ b → (k : ℕ) (n : Name) → (if b then fresh y k else n) ≡ (if b then fresh x k else n)
text-case x y true e k n = ap (λ z. fresh z k) (sym (texts-equal x y e))
text-case x y false e k n = refl

module _ (ps : List Local) (r a u : ℕ) (x : Text) where
  -- a name of turn 0
  result-is : (if same_text x result_text then fresh result_text u else argument_name ps a x) ≡ fresh x (if same_text x result_text then u else argument_turn ps a x)
  result-is =
      text-case x result_text (same_text x result_text) refl u (argument_name ps a x)
      ∙ ap (λ n. if same_text x result_text then fresh x u else n) (argument-is ps a x)
      ∙ sym (if-same (fresh x) (same_text x result_text) u (argument_turn ps a x))

  plain-is : (if same_text x this_text then fresh this_text r else if same_text x result_text then fresh result_text u else argument_name ps a x)
      ≡ fresh x (if same_text x this_text then r else if same_text x result_text then u else argument_turn ps a x)
  plain-is =
      text-case x this_text (same_text x this_text) refl r (if same_text x result_text then fresh result_text u else argument_name ps a x)
      ∙ ap (λ n. if same_text x this_text then fresh x r else n) result-is
      ∙ sym (if-same (fresh x) (same_text x this_text) r (if same_text x result_text then u else argument_turn ps a x))

-- a name of another turn
written-is : (test : Text → Bool) (xs : List SortedName) (k : ℕ) (x : Text) → AreTexts test xs → (if test x then fresh x k else named x) ≡ fresh x (if is_among xs x then k else 0)
written-is test xs k x are = ap (λ b. if b then fresh x k else named x) (are x) ∙ sym (if-same (fresh x) (is_among xs x) k 0)

pub name-is : (turns : CallTurns) (c : Calling) (test : Text → Bool) → HasTurns turns c → AreTexts test c.written.now → (z : Name) → at_call turns (map local_in c.params.now) test z ≡ name_at c z
name-is turns c test has are z =
    (λ i. if z.turn == 0
    then (if same_text z.text this_text then fresh this_text (has.receiver i) else if same_text z.text result_text then fresh result_text (has.result i) else argument_name (map local_in c.params.now) (has.args i) z.text)
    else if test z.text then fresh z.text (has.copies i) else named z.text)
    ∙ (λ i. if z.turn == 0 then plain-is (map local_in c.params.now) c.receiver c.args c.result z.text i else written-is test c.written.now c.copies z.text are i)
    ∙ sym (if-same (fresh z.text) (z.turn == 0)
    (if same_text z.text this_text then c.receiver else if same_text z.text result_text then c.result else argument_turn (map local_in c.params.now) c.args z.text)
    (if is_among c.written.now z.text then c.copies else 0))

-- a formula with the names of the definition is the one with those of the code
pub renamed-is : (turns : CallTurns) (c : Calling) (test : Text → Bool) → HasTurns turns c → AreTexts test c.written.now → (a : FormulaTree) →
    renamed_by (at_call turns (map local_in c.params.now) test) a ≡ renamed_by (name_at c) a
renamed-is turns c test has are a = λ i. renamed_by (λ z. name-is turns c test has are z i) a
