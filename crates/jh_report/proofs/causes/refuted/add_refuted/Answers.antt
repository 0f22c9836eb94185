use Rattle.std.proofs.Common.{◌∙◌, ap, List, ℕ, [], ◌∷◌, ◌++◌, string_bytes, codes}
use Rattle.jh_report.proofs.causes.refuted.add_refuted.Goals as goal

pub returns : goal.returns
returns c =
    c.in_ok-writeln.ensures.bytes
    ∙ ap (λ (t : List ℕ). string_bytes c.args.text.now ++ (codes "  bapa refuted: " ++ (t ++ 10 ∷ []))) (c.as_str-joined.ensures.value ∙ c.in_ok-pieces.ensures.text)
