use Rattle.jh_heap.specs.text.Held.{outline_in, draft_in}
use Rattle.jh_heap.proofs.text.Rulings.{class_inside}
use Rattle.jh_heap.proofs.text.taking.take_class.Goals as goal

pub objects_in-requires : goal.objects_in-requires
objects_in-requires c = class_inside (outline_in c.args.outline.now) (draft_in c.args.draft.now) c.args.place c.args.objects.now c.requires
