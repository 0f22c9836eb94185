use Rattle.jh_query_names.specs.mentioned_names.Memos.{found}
use Rattle.jh_query_names.proofs.mentioned_names.Growing.{notes-none}
use Rattle.jh_query_names.proofs.mentioned_names.memo.Memo.new.Goals as goal

pub returns : goal.returns
returns c = λ ts. record {
  shown_before = c.empty-made.ensures.shown ts;
  noted_before = notes-none ts (found c.empty-made.result.places) c.empty-made.result.notes.items c.empty-made.ensures.places;
}
