-- The types that words name.
use Rattle.std.proofs.Common.{◌≡◌, refl, sym, ap, subst, ◌∙◌, ℕ, Bool, true, false, not, if◌then◌else◌, List, [], Option, Some, None, is_some, codes}
use Rattle.std.specs.Option.{option_map_or}
use Rattle.std.proofs.lemmas.Bool.{true≢false}
use Rattle.jh_ast.specs.declared.word.JType.{JType}
use Rattle.jh_ast.specs.declared.word.JType.TheVariants as j
use Rattle.jh_ast.specs.Programs.{ProgramTree}
use Rattle.jh_rules.specs.declared.types.Ty.{Ty}
use Rattle.jh_rules.specs.declared.types.Ty.TheVariants as ty
use Rattle.jh_rules.specs.Words.{same_text, text_of}
use Rattle.jh_rules.specs.Kinds.{kind_of, is_void}
use Rattle.jh_rules.specs.Names.{Declared, declared_in, type_of, class_type, kind_of_word}
use Rattle.jh_rules.specs.Rules.{rule_4, is_void_word}
use Rattle.jh_semantics.specs.LoweredStmts.{word_type}
use Rattle.jh_logic.proofs.source.Lists.{some-same, no-none}
use Rattle.jh_logic.proofs.source.Judged.{not-broken}

-- the type of a word that isn't void
pub type-not-void : (numbers : List ℕ → Option ℕ) (w : JType) → is_void_word w ≡ false → (u : Ty) → type_of numbers w ≡ Some u → u ≡ ty.Void → ⊥
type-not-void numbers j.Int h u e v = true≢false (ap is_void (sym (some-same ty.Int u e ∙ v)))
type-not-void numbers j.Boolean h u e v = true≢false (ap is_void (sym (some-same ty.Boolean u e ∙ v)))
type-not-void numbers j.Void h u e v = true≢false h
type-not-void numbers (j.Class w) h u e v = class-not-void (numbers (text_of w)) (same_text (text_of w) (codes "Object")) e
  where
    class-not-void : (o : Option ℕ) (b : Bool) → option_map_or (λ n. Some (ty.Class n)) o (if b then Some ty.Object else None) ≡ Some u → ⊥
    class-not-void (Some n) b f = true≢false (ap is_void (sym (some-same (ty.Class n) u f ∙ v)))
    class-not-void None true f = true≢false (ap is_void (sym (some-same ty.Object u f ∙ v)))
    class-not-void None false f = no-none u f

-- the word of the type void alone is so
pub void-word : (w : JType) → is_void_word w ≡ true → w ≡ j.Void
void-word j.Int e = absurd (true≢false (sym e))
void-word j.Boolean e = absurd (true≢false (sym e))
void-word j.Void e = refl
void-word (j.Class w) e = absurd (true≢false (sym e))

module _ (p : ProgramTree) where
  abbrev l : Declared
  l = declared_in p

  -- a known type of a word is the type of its code
  pub word-known : (w : JType) (u : Ty) → type_of l.class_named w ≡ Some u → word_type p w ≡ u
  word-known w u e = ap (λ (o : Option Ty). option_map_or (λ x. x) o ty.Object) e

  -- a declared type is known
  pub declared-type : (w : JType) → rule_4 l w ≡ [] → (u : Ty) × (type_of l.class_named w ≡ Some u)
  declared-type j.Int h = (ty.Int, refl)
  declared-type j.Boolean h = (ty.Boolean, refl)
  declared-type j.Void h = (ty.Void, refl)
  declared-type (j.Class w) h = from (class_type l.class_named (text_of w)) (not-broken 4 w.place (not (is_some (class_type l.class_named (text_of w)))) h)
    where
      from : (o : Option Ty) → not (is_some o) ≡ false → (u : Ty) × (o ≡ Some u)
      from (Some u) g = (u, refl)
      from None g = absurd (true≢false g)

-- what a class name's type may be
class-types : (P : Ty → Type 0) (u : Ty) (o : Option ℕ) (b : Bool) → option_map_or (λ n. Some (ty.Class n)) o (if b then Some ty.Object else None) ≡ Some u → ((n : ℕ) → o ≡ Some n → P (ty.Class n)) → P ty.Object → P u
class-types P u (Some n) b e f g = subst P (some-same (ty.Class n) u e) (f n refl)
class-types P u None true e f g = subst P (some-same ty.Object u e) g
class-types P u None false e f g = absurd (no-none u e)

is_null : Ty → Bool
is_null ty.Null = true
is_null _ = false

-- no word names the type of null
type-not-null : (numbers : List ℕ → Option ℕ) (w : JType) (u : Ty) → type_of numbers w ≡ Some u → is_null u ≡ false
unfolding is_null
type-not-null numbers j.Int u e = ap is_null (sym (some-same ty.Int u e))
type-not-null numbers j.Boolean u e = ap is_null (sym (some-same ty.Boolean u e))
type-not-null numbers j.Void u e = ap is_null (sym (some-same ty.Void u e))
type-not-null numbers (j.Class w) u e = class-types (λ v. is_null v ≡ false) u (numbers (text_of w)) (same_text (text_of w) (codes "Object")) e (λ n f. refl) refl

pub null-not-named : (numbers : List ℕ → Option ℕ) (w : JType) (u : Ty) → type_of numbers w ≡ Some u → u ≡ ty.Null → ⊥
unfolding is_null
null-not-named numbers w u e n = true≢false (ap is_null (sym n) ∙ type-not-null numbers w u e)

-- the kind of a word is that of its type
pub kind-of-word : (numbers : List ℕ → Option ℕ) (w : JType) (u : Ty) → type_of numbers w ≡ Some u → kind_of u ≡ kind_of_word w
kind-of-word numbers j.Int u e = ap kind_of (sym (some-same ty.Int u e))
kind-of-word numbers j.Boolean u e = ap kind_of (sym (some-same ty.Boolean u e))
kind-of-word numbers j.Void u e = ap kind_of (sym (some-same ty.Void u e))
kind-of-word numbers (j.Class w) u e = class-types (λ v. kind_of v ≡ kind_of_word (j.Class w)) u (numbers (text_of w)) (same_text (text_of w) (codes "Object")) e (λ n f. refl) refl
