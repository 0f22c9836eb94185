-- What a heap text is read by.
use Rattle.std.specs.Prelude.{ℕ, List, [], map, Option, Some}
use Rattle.jh_name.specs.declared.place.Kind.{Kind}
use Rattle.jh_rules.specs.declared.types.Ty.{Ty}
use Rattle.jh_rules.specs.Kinds.{kind_of}
use Rattle.jh_semantics.specs.Code.{Text, Local}
use Rattle.jh_semantics.specs.Program.{Program, Method, Member}
use Rattle.jh_semantics.specs.WellFormed.{all_classes}
use Rattle.jh_semantics.specs.Heaps.{statics_of, fields_of}

-- what can have a value: its text, its kind, its type where it has one, and the text of its class, which a parameter lacks
pub record Holder : Type 0 where
  pub text : Text
  pub kind : Kind
  pub type : Option Ty
  pub class : Text

-- the classes, with that of the plain objects; the statics; the fields; the class of `this`; and the parameters
pub record Outline : Type 0 where
  pub classes : List Text
  pub statics : List Holder
  pub fields : List Holder
  pub this : Option ℕ
  pub params : List Holder

abbrev pub member_holder : Member → Holder
member_holder x = record { text = x.text; kind = x.kind; type = x.type; class = x.class }

abbrev pub parameter_holder : Local → Holder
parameter_holder x = record { text = x.text; kind = kind_of x.type; type = Some x.type; class = [] }

abbrev pub outline_of : Program → Method → Outline
outline_of p m = record {
  classes = all_classes p.classes;
  statics = map member_holder (statics_of p);
  fields = map member_holder (fields_of p);
  this = m.this;
  params = map parameter_holder m.params;
}
