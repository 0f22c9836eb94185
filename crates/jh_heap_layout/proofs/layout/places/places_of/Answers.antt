use Rattle.std.proofs.Common.{sym, subst, List, codes, filter, true, false}
use Rattle.jh_arena.specs.table.Growth.{Grows}
use Rattle.jh_semantics.specs.Code.{Text}
use Rattle.jh_semantics.specs.Program.{Member}
use Rattle.jh_semantics.specs.WellFormed.{all_classes}
use Rattle.jh_machine_code.proofs.numbering.Standing.{grows_twice}
use Rattle.jh_heap_layout.specs.loading.Places.{AreNumbers, ArePlaces}
use Rattle.jh_heap_layout.specs.layout.Chosen.{is_chosen}
use Rattle.jh_heap_layout.proofs.layout.Numbering.{named-there}
use Rattle.jh_heap_layout.proofs.layout.places.places_of.Goals as goal

pub returns-clause-places : goal.returns-clause-places
returns-clause-places c = λ p classes members. record {
  are = λ later grows.
      let fourth : Grows c.member_places.new.names later = grows_twice c.member_places-2.ensures.grows grows in
      let third : Grows c.class_numbers.new.names later = grows_twice c.member_places.ensures.grows fourth in
      let second : Grows c.text_number.new.names later = grows_twice c.class_numbers.ensures.grows third in
      record {
        all = named-there c.text_number.new.names (codes "alloc") c.in_ok-all.all c.in_ok-all.ensures.is later second;
        classes = subst (λ (cs : List Text). AreNumbers later c.in_ok-numbers.numbers.items (all_classes cs)) (sym classes) (c.in_ok-numbers.ensures.numbers.are later third);
        statics = subst (λ (xs : List Member). ArePlaces later c.in_ok-statics.statics.items (filter (is_chosen true) xs)) (sym members) ((c.in_ok-statics.ensures.places c.args.classes.now).are later fourth);
        fields = subst (λ (xs : List Member). ArePlaces later c.in_ok-fields.fields.items (filter (is_chosen false) xs)) (sym members) ((c.in_ok-fields.ensures.places c.args.classes.now).are later grows);
      };
}
