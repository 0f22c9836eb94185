-- The code of an expression of a source: its names resolved, its values sorted by type. In code a word names a parameter or local in
-- scope, or else a member of the own class, or else, before a dot, a class. Where no rule of types is broken each part is of the type
-- that is asked of it; else anything may stand for it.
use Rattle.std.specs.Prelude.{ℕ, ℤ, neg_ℤ, pos, true, false, if◌then◌else◌, List, Option, Some, None, option_map}
use Rattle.std.specs.Option.{option_map_or}
use Rattle.jh_name.specs.declared.place.Kind.{Kind}
use Rattle.jh_name.specs.declared.place.Kind.TheVariants as k
use Rattle.jh_name.specs.declared.place.Place.{Place}
use Rattle.jh_ast.specs.declared.word.Word.{Word}
use Rattle.jh_ast.specs.declared.expr.Op.{Op}
use Rattle.jh_ast.specs.declared.expr.Op.TheVariants as op
use Rattle.jh_ast.specs.Exprs.{ExprTree}
use Rattle.jh_ast.specs.Exprs as e
use Rattle.jh_ast.specs.Programs.{ProgramTree}
use Rattle.jh_rules.specs.declared.entries.FieldEntry.{FieldEntry}
use Rattle.jh_rules.specs.declared.entries.LocalEntry.{LocalEntry}
use Rattle.jh_rules.specs.Words.{text_of}
use Rattle.jh_rules.specs.Kinds.{kind_of, class_of}
use Rattle.jh_rules.specs.Names.{declared_in}
use Rattle.jh_rules.specs.Scopes.{Scope}
use Rattle.jh_rules.specs.Exprs.{expr_type, class_spelled}
use Rattle.jh_vars.specs.Written.{written_name}
use Rattle.jh_vars.specs.Written as written
use Rattle.jh_vars.specs.Resolved.{kind_of_local}
use Rattle.jh_semantics.specs.Code.{Text, ObjectCode, NumberCode, TruthCode, AnyCode, an_object, a_number, a_truth}
use Rattle.jh_semantics.specs.Code as c

-- a value of a type where it has that type, and else anything
abbrev pub as_object : AnyCode → ObjectCode
as_object (an_object a) = a
as_object _ = c.null

abbrev pub as_number : AnyCode → NumberCode
as_number (a_number a) = a
as_number _ = c.const (pos 0)

abbrev pub as_truth : AnyCode → TruthCode
as_truth (a_truth a) = a
as_truth _ = c.literal false

-- a parameter, a local or a static, and the read of a field, of a kind
abbrev pub name_code : Kind → Text → AnyCode
name_code k.Int x = a_number (c.number x)
name_code k.Bool x = a_truth (c.truth x)
name_code _ x = an_object (c.object x)

abbrev pub read_code : Kind → Text → ObjectCode → Place → AnyCode
read_code k.Int f r p = a_number (c.read_number f r p)
read_code k.Bool f r p = a_truth (c.read_truth f r p)
read_code _ f r p = an_object (c.read_object f r p)

-- equality at the type of the left side
abbrev pub equal_code : AnyCode → AnyCode → TruthCode
equal_code (an_object a) b = c.same_object a (as_object b)
equal_code (a_number a) b = c.same_number a (as_number b)
equal_code (a_truth a) b = c.same_truth a (as_truth b)

-- the number of a literal, plain or negated
abbrev pub plain_literal : ExprTree → Option ℤ
plain_literal (e.number q z) = Some z
plain_literal _ = None

abbrev pub literal : ExprTree → Option ℤ
literal (e.number q z) = Some z
literal (e.minus q a) = option_map neg_ℤ (plain_literal a)
literal _ = None

-- a product, whose factor is the literal; of two the left one
abbrev pub product : Place → Option ℤ → Option ℤ → NumberCode → NumberCode → NumberCode
product q (Some z) y a b = c.times q z b
product q None (Some z) a b = c.times q z a
product q None None a b = a

-- two operands with an operator between them, at the place of the first token; each with the number that it is as a literal
abbrev pub binary_code : Place → Op → Option ℤ → AnyCode → Option ℤ → AnyCode → AnyCode
binary_code q op.Or y a z b = a_truth (c.either (as_truth a) (as_truth b))
binary_code q op.And y a z b = a_truth (c.both (as_truth a) (as_truth b))
binary_code q op.Equal y a z b = a_truth (equal_code a b)
binary_code q op.NotEqual y a z b = a_truth (c.negation (equal_code a b))
binary_code q op.Less y a z b = a_truth (c.less (as_number a) (as_number b))
binary_code q op.LessEq y a z b = a_truth (c.less_equal (as_number a) (as_number b))
binary_code q op.Greater y a z b = a_truth (c.greater (as_number a) (as_number b))
binary_code q op.GreaterEq y a z b = a_truth (c.greater_equal (as_number a) (as_number b))
binary_code q op.Add y a z b = a_number (c.add q (as_number a) (as_number b))
binary_code q op.Sub y a z b = a_number (c.sub q (as_number a) (as_number b))
binary_code q op.Mul y a z b = a_number (product q y z (as_number a) (as_number b))

-- the kind of a static or field
abbrev pub field_kind : FieldEntry → Kind
field_kind x = option_map_or kind_of x.ty k.Obj

module _ (p : ProgramTree) where
  -- the text of a static, field or ghost variable of the class of a number
  abbrev pub member_text : ℕ → List ℕ → Text
  member_text n x = (written_name p (written.state n x)).text

  -- the kind of a static or field of a class
  abbrev pub member_kind : ℕ → List ℕ → Kind
  member_kind n x = option_map_or field_kind ((declared_in p).field_of n x) k.Obj

  -- a static of a class
  abbrev pub static_code : Option ℕ → Word → AnyCode
  static_code class w = option_map_or (λ n. name_code (member_kind n (text_of w)) (member_text n (text_of w))) class (an_object c.null)

  -- a field of a class, read of a receiver
  abbrev pub field_code : Option ℕ → Word → ObjectCode → Place → AnyCode
  field_code class w r q = option_map_or (λ n. read_code (member_kind n (text_of w)) (member_text n (text_of w)) r q) class (an_object c.null)

  -- the class of an object expression
  abbrev pub receiver_class : Scope → ExprTree → Option ℕ
  receiver_class at a = option_map_or class_of (expr_type (declared_in p) at a).known None

  -- what stands behind a dot: a static of the class that is spelled before it, or a field of the object before it
  abbrev pub dotted_code : Scope → Option (Option ℕ) → ExprTree → AnyCode → Word → AnyCode
  dotted_code at (Some class) a r w = static_code class w
  dotted_code at None a r w = field_code (receiver_class at a) w (as_object r) (e.place_of a)

  -- a member of the own class: a static, or a field of `this`
  abbrev pub own_code : Scope → Word → FieldEntry → AnyCode
  own_code at w x = if x.fixed then static_code (Some at.class) w else field_code (Some at.class) w c.this w.place

  abbrev pub word_code : Scope → Word → AnyCode
  word_code at w =
      option_map_or (λ (x : LocalEntry). name_code (kind_of_local x) (text_of w)) (at.local (text_of w))
      (option_map_or (own_code at w) ((declared_in p).field_of at.class (text_of w)) (an_object c.null))

  unfoldable pub expr_code : ExprTree → Scope → AnyCode
  expr_code (e.null q) at = an_object c.null
  expr_code (e.yes q) at = a_truth (c.literal true)
  expr_code (e.no q) at = a_truth (c.literal false)
  expr_code (e.number q z) at = a_number (c.const z)
  expr_code (e.this q) at = an_object c.this
  expr_code (e.name q w) at = word_code at w
  expr_code (e.member q a w) at = dotted_code at (class_spelled (declared_in p) at a) a (expr_code a at) w
  expr_code (e.negation q a) at = a_truth (c.negation (as_truth (expr_code a at)))
  expr_code (e.minus q a) at = a_number (c.minus q (as_number (expr_code a at)))
  expr_code (e.binary q o a b) at = binary_code q o (literal a) (expr_code a at) (literal b) (expr_code b at)
