-- The lines that are written: each is read as what it says, and has no line feed in it.
use Rattle.std.proofs.Common.{◌≡◌, refl, ap, ◌∙◌, arith, ℕ, ◌<◌, nat_lt, true, if◌then◌else◌, List, [], ◌∷◌, ◌++◌, Some, None, option_map, lt-ltb}
use Rattle.std.specs.Prelude.{codes}
use Rattle.std.specs.Fmt.{decimal}
use Rattle.std.specs.Str.{is_utf8}
use Rattle.std.proofs.lemmas.Str.{IsUtf8-from_is_utf8, is_utf8-from_IsUtf8}
use Rattle.jh_semantics.specs.Code.{Text}
use Rattle.jh_heap.specs.lines.Bytes.{cut, natural_of, objects_of}
use Rattle.jh_heap.specs.lines.Lines.{Value, Line, is_plain, is_dotted, value_of, universe_of, class_from, static_from, value_at, field_from, line_from, line_of}
use Rattle.jh_heap.specs.lines.Lines as l
use Rattle.jh_heap_theorems.specs.round_trip.Names.{IsWord}
use Rattle.jh_heap_theorems.proofs.round_trip.Words.{cut-word, IsClean, clean-append, clean-ascii}
use Rattle.jh_heap_theorems.proofs.round_trip.Numbers.{natural-decimal, decimal-lacks, clean-decimal}

pub clean-word : (w : Text) → IsWord w → IsClean w
clean-word w h = record { feed = h.feed; utf8 = IsUtf8-from_is_utf8 w h.utf8 }

utf8-of : (w : List ℕ) → IsClean w → is_utf8 w ≡ true
utf8-of w h = is_utf8-from_IsUtf8 w h.utf8

-- a blank and a text
clean-blank : (w : List ℕ) → IsClean w → IsClean (32 ∷ w)
clean-blank w h = clean-append (32 ∷ []) w (clean-ascii (32 ∷ []) refl refl) h

-- the greatest object
abbrev pub universe_line : ℕ → List ℕ
universe_line n = codes "universe " ++ decimal n

universe-from : (w : List ℕ) (n : ℕ) → natural_of w ≡ Some n → nat_lt n 256 ≡ true → universe_of w ≡ Some (l.universe n)
unfolding universe_of
universe-from w n h g = rw (h, g) refl

pub clean-universe : (n : ℕ) → n < 256 → IsClean (universe_line n)
clean-universe n small = clean-append (codes "universe ") (decimal n) (clean-ascii (codes "universe ") refl refl) (clean-decimal n (omega arith))

pub universe-is : (n : ℕ) → n < 256 → line_of (universe_line n) ≡ Some (l.universe n)
unfolding line_of line_from
universe-is n small =
    ap (λ t. if t then line_from (cut 32 (universe_line n)) else None) (utf8-of (universe_line n) (clean-universe n small))
    ∙ universe-from (decimal n) n (natural-decimal n (omega arith)) (lt-ltb n 256 small)

-- the objects of a class
abbrev pub class_line : Text → List ℕ → List ℕ
class_line c w = codes "class " ++ (c ++ (32 ∷ w))

pub clean-class : (c : Text) (w : List ℕ) → IsWord c → IsClean w → IsClean (class_line c w)
clean-class c w word clean =
    clean-append (codes "class ") (c ++ (32 ∷ w)) (clean-ascii (codes "class ") refl refl) (clean-append c (32 ∷ w) (clean-word c word) (clean-blank w clean))

pub class-is : (c : Text) (w xs : List ℕ) → IsWord c → is_plain c ≡ true → IsClean w → objects_of w ≡ Some xs → line_of (class_line c w) ≡ Some (l.class c xs)
unfolding line_of line_from class_from
class-is c w xs word plain clean is =
    ap (λ t. if t then line_from (cut 32 (class_line c w)) else None) (utf8-of (class_line c w) (clean-class c w word clean))
    ∙ ap class_from (cut-word 32 c w word.blank)
    ∙ ap (λ t. if t then option_map (l.class c) (objects_of w) else None) plain
    ∙ ap (option_map (l.class c)) is

-- the value of a static
abbrev pub static_line : Text → List ℕ → List ℕ
static_line x w = codes "static " ++ (x ++ (32 ∷ w))

pub clean-static : (x : Text) (w : List ℕ) → IsWord x → IsClean w → IsClean (static_line x w)
clean-static x w word clean =
    clean-append (codes "static ") (x ++ (32 ∷ w)) (clean-ascii (codes "static ") refl refl) (clean-append x (32 ∷ w) (clean-word x word) (clean-blank w clean))

pub static-is : (x : Text) (w : List ℕ) (v : Value) → IsWord x → is_dotted x ≡ true → IsClean w → value_of w ≡ Some v → line_of (static_line x w) ≡ Some (l.static_value x v)
unfolding line_of line_from static_from
static-is x w v word dotted clean is =
    ap (λ t. if t then line_from (cut 32 (static_line x w)) else None) (utf8-of (static_line x w) (clean-static x w word clean))
    ∙ ap static_from (cut-word 32 x w word.blank)
    ∙ ap (λ t. if t then option_map (l.static_value x) (value_of w) else None) dotted
    ∙ ap (option_map (l.static_value x)) is

-- the value of a field at an object
abbrev pub field_line : Text → ℕ → List ℕ → List ℕ
field_line x a w = codes "field " ++ (x ++ (32 ∷ (decimal a ++ (32 ∷ w))))

pub clean-field : (x : Text) (a : ℕ) (w : List ℕ) → IsWord x → a < 256 → IsClean w → IsClean (field_line x a w)
clean-field x a w word small clean =
    let place = clean-append (decimal a) (32 ∷ w) (clean-decimal a (omega arith)) (clean-blank w clean) in
    clean-append (codes "field ") (x ++ (32 ∷ (decimal a ++ (32 ∷ w)))) (clean-ascii (codes "field ") refl refl)
    (clean-append x (32 ∷ (decimal a ++ (32 ∷ w))) (clean-word x word) (clean-blank (decimal a ++ (32 ∷ w)) place))

value-at : (f before behind : List ℕ) (a : ℕ) → natural_of before ≡ Some a → value_at f (Some (record { before = before; behind = behind })) ≡ option_map (l.field_value f a) (value_of behind)
unfolding value_at
value-at f before behind a h = rw h refl

pub field-is : (x : Text) (a : ℕ) (w : List ℕ) (v : Value) → IsWord x → is_dotted x ≡ true → a < 256 → IsClean w → value_of w ≡ Some v → line_of (field_line x a w) ≡ Some (l.field_value x a v)
unfolding line_of line_from field_from
field-is x a w v word dotted small clean is =
    ap (λ t. if t then line_from (cut 32 (field_line x a w)) else None) (utf8-of (field_line x a w) (clean-field x a w word small clean))
    ∙ ap field_from (cut-word 32 x (decimal a ++ (32 ∷ w)) word.blank)
    ∙ ap (λ t. if t then value_at x (cut 32 (decimal a ++ (32 ∷ w))) else None) dotted
    ∙ ap (value_at x) (cut-word 32 (decimal a) w (decimal-lacks 32 a (omega arith) (omega arith)))
    ∙ value-at x (decimal a) w a (natural-decimal a (omega arith))
    ∙ ap (option_map (l.field_value x a)) is
