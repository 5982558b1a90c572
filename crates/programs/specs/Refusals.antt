-- The number of each refusal, and its words.
use Rattle.std.specs.Prelude.{ℕ, List, codes}
use Rattle.programs.specs.declared.refusal.Refusal.{Refusal}
use Rattle.programs.specs.declared.refusal.Refusal.TheVariants.{OutOfRange}

-- the number that callers know it by; each contract says its own number, since the calls will differ in theirs
abbrev pub number : Refusal → ℕ
number OutOfRange = 6

-- what is printed of it, byte by byte
abbrev pub words : Refusal → List ℕ
words OutOfRange = codes "refused with 6, out of range"
