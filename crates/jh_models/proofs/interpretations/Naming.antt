-- Names as natural numbers, and back.
use Rattle.std.proofs.Common.{◌≡◌, ap, ◌∙◌, ℕ, List}
use Rattle.jh_name.specs.declared.naming.Name.{Name}
use Rattle.jh_cong.proofs.flattening.Coding.{pair, first, second, first-pair, second-pair, list_code, unlisted, unlisted-code}

abbrev pub name_code : Name → ℕ
name_code x = pair (list_code x.text) x.turn

abbrev pub name_of : ℕ → Name
name_of c = record { text = unlisted (first c); turn = second c }

text-back : (text : List ℕ) (turn : ℕ) → unlisted (first (pair (list_code text) turn)) ≡ text
text-back text turn = ap unlisted (first-pair (list_code text) turn) ∙ unlisted-code text

pub name-back : (x : Name) → name_of (name_code x) ≡ x
name-back x = λ i. record { text = text-back x.text x.turn i; turn = second-pair (list_code x.text) x.turn i }
