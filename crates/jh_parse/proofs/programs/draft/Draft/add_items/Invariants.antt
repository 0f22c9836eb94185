use Rattle.std.proofs.Common.{◌≡◌, map}
use Rattle.jh_parse.specs.programs.MemberReads.{draft_tree, with_items}
use Rattle.jh_spec.specs.parser.PartReads.{item_tree}
use Rattle.jh_parse.proofs.programs.draft.Draft.add_items.Given as goal

-- what is there, with the items that are left, is what was there with all of them
abbrev pub invariant-loop-item : goal.invariant-loop-item
invariant-loop-item l = with_items (draft_tree l.self) (map item_tree l.item-iterator.rest.items) ≡ with_items (draft_tree l.fn.self) (map item_tree l.fn.items.items)
