-- The names of a contract at a call, as the code holds what they are made from.
use Rattle.std.specs.Prelude.{◌≡◌, ℕ, suc, ◌==◌, if◌then◌else◌, Bool, List, [], ◌∷◌, map, Option, Some, None}
use Rattle.std.proofs.Common.{refl}
use Rattle.std.specs.List.{list_any}
use Rattle.jh_name.specs.declared.naming.Name.{Name}
use Rattle.jh_rules.specs.Words.{same_text}
use Rattle.jh_semantics.specs.Code.{Text, Local}
use Rattle.jh_guard.specs.Calls.{CallTurns, this_text, result_text, renaming_by}
use Rattle.jh_semantics.specs.typed_code.Statements.{local_in}
use Rattle.jh_state_facts.specs.declared.changes.names.SortedName.{SortedName}
use Rattle.jh_arena.specs.declared.table.shapes.Shape.{Shape}
use Rattle.jh_arena.specs.declared.table.shapes.Shape.TheVariants as s
use Rattle.jh_substitution.specs.rewriting.Rewritten.{leaves_alone}
use Rattle.jh_substitution.specs.rewriting.Walks.{Stays}
use Rattle.jh_call_commands.specs.declared.contract_instances.calling.Calling.{Calling}

-- whether a text is one of these
abbrev pub is_among : List SortedName → Text → Bool
is_among xs x = list_any (λ (y : SortedName). same_text y.text.now x) xs

-- the turn of a parameter's argument, where arguments have the turns from k on; 0 for another name
abbrev pub argument_turn : List Local → ℕ → Text → ℕ
argument_turn [] k x = 0
argument_turn (y ∷ ys) k x = if same_text y.text x then k else argument_turn ys (suc k) x

-- the turn at a call of a name of the contract; its text stays
abbrev pub turn_at : Calling → Name → ℕ
turn_at c z =
    if z.turn == 0 then (if same_text z.text this_text then c.receiver else if same_text z.text result_text then c.result else argument_turn (map local_in c.params.now) c.args z.text)
    else if is_among c.written.now z.text then c.copies else 0

-- the name that stands for a name of the contract
abbrev pub name_at : Calling → Name → Name
name_at c z = record { text = z.text; turn = turn_at c z }

-- a test holds of a text exactly where it is one of these
abbrev pub AreTexts : (Text → Bool) → List SortedName → Type 0
AreTexts test xs = (x : Text) → test x ≡ is_among xs x

-- the number of a free name, and the free name of another number at its sort
unfoldable pub name_in : Shape → Option ℕ
name_in (s.FreeObject n) = Some n
name_in (s.FreeNumber n) = Some n
name_in (s.FreeTruth n) = Some n
name_in (s.FreeSet n) = Some n
name_in (s.FreeField n) = Some n
name_in _ = None

unfoldable pub with_name : Shape → ℕ → Shape
with_name (s.FreeObject n) k = s.FreeObject k
with_name (s.FreeNumber n) k = s.FreeNumber k
with_name (s.FreeTruth n) k = s.FreeTruth k
with_name (s.FreeSet n) k = s.FreeSet k
with_name (s.FreeField n) k = s.FreeField k
with_name x k = x

-- a renaming hangs on no table
pub renaming-stays : (f : Name → Name) → Stays (λ t. Unit {0}) (λ t. leaves_alone (renaming_by f))
renaming-stays f = record { ready = λ old new g h. h; same = λ old new g h. refl }

-- the turns of a call are those that the code holds
pub record HasTurns (turns : CallTurns) (c : Calling) : Type 0 where
  pub receiver : turns.receiver ≡ c.receiver
  pub args : turns.args ≡ c.args
  pub copies : turns.copies ≡ c.copies
  pub result : turns.result ≡ c.result
