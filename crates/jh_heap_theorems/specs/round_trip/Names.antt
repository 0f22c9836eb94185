-- What a program and a heap are whose text is read back.
use Rattle.std.specs.Prelude.{◌≡◌, ℕ, ◌<◌, ◌^◌, ◌==◌, ◌&&◌, pos, negsuc, not, Bool, true, false, List, [], ◌∷◌, map, None, Some}
use Rattle.std.specs.List.{list_any, Contains, AllByRecursion}
use Rattle.std.specs.Str.{is_utf8}
use Rattle.jh_rules.specs.declared.types.Ty.{Ty}
use Rattle.jh_rules.specs.declared.types.Ty.TheVariants as ty
use Rattle.jh_semantics.specs.Code.{Text, Local}
use Rattle.jh_semantics.specs.Program.{Program, Method, Member, class_at}
use Rattle.jh_semantics.specs.WellFormed.{all_classes}
use Rattle.jh_semantics.specs.Typed.{IsType, AreApart}
use Rattle.jh_semantics.specs.Heaps.{Cell, number, Heap, Args}
use Rattle.jh_heap.specs.lines.Bytes.{same_bytes}
use Rattle.jh_heap.specs.lines.Lines.{is_plain, is_dotted}

abbrev pub has : ℕ → List ℕ → Bool
has b w = list_any (λ c. c == b) w

-- A text that stands as one word in a line: no blank, no line feed, and UTF-8.
pub record IsWord (w : Text) : Type 0 where
  pub blank : has 32 w ≡ false
  pub feed : has 10 w ≡ false
  pub utf8 : is_utf8 w ≡ true

-- The texts of a program are words: those of classes without a dot, those of statics and fields two such texts with a dot between them.
-- None of a static or a field stands twice.
pub record TextsFit (p : Program) : Type 0 where
  pub class_words : (c : Text) → Contains (all_classes p.classes) c → IsWord c
  pub plain : (c : Text) → Contains (all_classes p.classes) c → is_plain c ≡ true
  pub member_words : (x : Member) → Contains p.members x → IsWord x.text
  pub dotted : (x : Member) → Contains p.members x → is_dotted x.text ≡ true
  pub once : AreApart (map (λ (x : Member). x.text) p.members)

-- a number fits in 64 bits
abbrev pub FitsWord : Cell → Type 0
FitsWord (number (pos a)) = a < 2 ^ 63
FitsWord (number (negsuc a)) = a < 2 ^ 63
FitsWord cell = Unit {0}

pub record NumbersFit (h : Heap) : Type 0 where
  pub statics : AllByRecursion FitsWord h.statics
  pub fields : AllByRecursion (AllByRecursion FitsWord) h.fields

-- a type that a value may have which isn't null
abbrev pub HasValues : Ty → Type 0
HasValues ty.Null = ⊥
HasValues ty.Void = ⊥
HasValues t = Unit {0}

-- The class of `this` is one of the program, as are those of the parameters, which are of types that have values.
pub record SignatureFits (p : Program) (m : Method) : Type 0 where
  pub of_class : (n : ℕ) → m.this ≡ Some n → Contains p.classes (class_at p.classes n)
  pub params : AllByRecursion (λ (x : Local). IsType p x.type × HasValues x.type) m.params

-- no text stands twice, as a test
abbrev pub are_distinct : List Text → Bool
are_distinct [] = true
are_distinct (x ∷ xs) = not (list_any (same_bytes x) xs) && are_distinct xs

-- neither `this` nor an argument
abbrev pub no_args : Args
no_args = record { this = None; values = [] }
