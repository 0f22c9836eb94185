-- The lines and values that those in memory are.
use Rattle.jh_heap.specs.lines.Bytes as b
use Rattle.jh_heap.specs.lines.Lines as l
use Rattle.jh_heap.specs.declared.lines.bytes.Cut.{Cut}
use Rattle.jh_heap.specs.declared.lines.lines.Value.{Value}
use Rattle.jh_heap.specs.declared.lines.lines.Value.TheVariants as v
use Rattle.jh_heap.specs.declared.lines.lines.Line.{Line}
use Rattle.jh_heap.specs.declared.lines.lines.Line.TheVariants as x

abbrev pub cut_in : Cut → b.Cut
cut_in x = record { before = x.before.now; behind = x.behind.now }

abbrev pub value_in : Value → l.Value
value_in (v.Number z) = l.number z
value_in (v.Truth t) = l.truth_value t
value_in (v.Objects xs) = l.objects xs

abbrev pub line_in : Line → l.Line
line_in (x.Universe n) = l.universe n
line_in (x.Class c xs) = l.class c.now xs
line_in (x.Static c v) = l.static_value c.now (value_in v)
line_in (x.Field c a v) = l.field_value c.now a (value_in v)
line_in (x.This a) = l.this a
line_in (x.Argument c v) = l.argument c.now (value_in v)
