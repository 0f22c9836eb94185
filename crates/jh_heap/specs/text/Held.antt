-- What values in memory stand for.
use Rattle.std.specs.Prelude.{ℕ, List, map, Option, option_map}
use Rattle.std.specs.Borrow.{Bor}
use Rattle.jh_store.specs.heaps.Cells.{cell_in}
use Rattle.jh_store.specs.declared.heaps.cells.Cell.{Cell}
use Rattle.jh_semantics.specs.Code.{Text}
use Rattle.jh_semantics.specs.Heaps as h
use Rattle.jh_heap.specs.text.Outlines as o
use Rattle.jh_heap.specs.text.Drafts as d
use Rattle.jh_heap.specs.declared.text.outline.Holder.{Holder}
use Rattle.jh_heap.specs.declared.text.outline.Outline.{Outline}
use Rattle.jh_heap.specs.declared.text.draft.Draft.{Draft}

-- texts that are lent
abbrev pub texts_in : List (Bor (List ℕ)) → List Text
texts_in xs = map (λ x. x.now) xs

abbrev pub holder_in : Holder → o.Holder
holder_in x = record { text = x.text.now; kind = x.kind; type = x.ty; class = x.class.now }

abbrev pub holders_in : List Holder → List o.Holder
holders_in xs = map holder_in xs

abbrev pub outline_in : Outline → o.Outline
outline_in x = record {
  classes = texts_in x.classes.items;
  statics = holders_in x.statics.items;
  fields = holders_in x.fields.items;
  this = x.this;
  params = holders_in x.params.items;
}

abbrev pub given_in : List (Option Cell) → List (Option h.Cell)
given_in cells = map (option_map cell_in) cells

abbrev pub draft_in : Draft → d.Draft
draft_in x = record {
  greatest = x.greatest;
  stage = x.stage;
  classes = x.classes.items;
  statics = given_in x.statics.items;
  fields = map (λ row. given_in row.items) x.fields.items;
  this = x.this;
  arguments = given_in x.arguments.items;
}
