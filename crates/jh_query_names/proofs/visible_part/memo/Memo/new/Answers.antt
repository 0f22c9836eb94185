use Rattle.jh_query_names.specs.visible_part.Memos.{found}
use Rattle.jh_query_names.proofs.visible_part.Standing.{holds-none}
use Rattle.jh_query_names.proofs.visible_part.memo.Memo.new.Goals as goal

pub returns : goal.returns
returns c = λ ts. holds-none ts (found c.empty-made.result.answers) c.empty-made.ensures
