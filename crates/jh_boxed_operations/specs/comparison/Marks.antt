-- When two labels are one.
use Rattle.std.specs.Prelude.{ℕ, Bool, true, false, ◌&&◌, nat_eq}
use Rattle.std.specs.Prelude.{Option, Some, None}
use Rattle.std.specs.Cmp.Lexicographic.{pointwise}
use Rattle.jh_boxed.specs.jh_name.declared.naming.Name.{Name}
use Rattle.jh_form.specs.declared.mark.Mark.{Mark}
use Rattle.jh_form.specs.declared.mark.MarkKind as kind
use Rattle.jh_form.specs.declared.mark.MarkKind.TheVariants as k
use Rattle.jh_form.specs.Passing.{name_equal}

abbrev pub kind_number : kind.MarkKind → ℕ
kind_number k.Null = 0
kind_number k.Pre = 1
kind_number k.Post = 2
kind_number k.Inv = 3
kind_number k.LoopEntry = 4
kind_number k.LoopKept = 5
kind_number k.Frame = 6
kind_number k.Assert = 7
kind_number k.Note = 8
kind_number k.Fact = 9

abbrev pub optional_names_equal : Option Name → Option Name → Bool
optional_names_equal None None = true
optional_names_equal (Some x) (Some y) = name_equal x y
optional_names_equal _ _ = false

-- of one kind, at one place, with one name and the same list of names
unfoldable pub mark_equal : Mark → Mark → Bool
mark_equal a b =
    nat_eq (kind_number a.kind) (kind_number b.kind) && nat_eq a.place.line b.place.line && nat_eq a.place.column b.place.column
    && optional_names_equal a.name b.name && pointwise name_equal a.from b.from
