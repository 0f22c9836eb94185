use Rattle.std.proofs.Common.{◌∙◌, ap, List, ℕ, [], ◌∷◌, ◌++◌, string_bytes, codes}
use Rattle.jh_report.proofs.causes.local.add_open.Goals as goal

pub returns : goal.returns
returns c =
    c.in_ok-writeln.ensures.bytes
    ∙ ap (λ (t : List ℕ). string_bytes c.args.text.now ++ (codes "  local open: " ++ (t ++ 10 ∷ []))) (c.as_str-joined.ensures.value ∙ c.in_ok-pieces.ensures.text)
