use Rattle.std.specs.Prelude.{ℕ, ◌≡◌, ◌<◌, ◌≤◌, List, length, Option, IfSome}
use Rattle.jh_files.specs.declared.host.Reading.{Reading}
use Rattle.jh_files.specs.declared.host.Reading.TheVariants.{Whole, More, Broken}

-- How a reading ends, by what the reader had, where that is known: a whole file is what the reader had, and has at most so many bytes; more than these is
-- said only of a reader that had more.
abbrev pub Reads : Option (List ℕ) → ℕ → Reading → Type 0
Reads had most (Whole bytes) = (length bytes.items ≤ most) × IfSome had (λ there. bytes.items ≡ there)
Reads had most More = IfSome had (λ there. most < length there)
Reads had most Broken = Unit {0}
