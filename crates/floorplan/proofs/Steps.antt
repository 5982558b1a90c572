-- The word of a step, and a table of steps with one entry more.
use Rattle.std.proofs.Common.{◌≡◌, ℕ, ◌+◌, ◌*◌, ◌%◌, ◌^◌, ◌<◌, Bool, false, ◌≢◌, List, length, get_or, set, Decides, ap₂, subst, arith, below_more}
use lib.Bits.{bit_or}
use Rattle.std.proofs.lemmas.Nat.{shl_whole}
use Rattle.std.proofs.lemmas.List.{get_or-set_same, get_or-set_other}
use Rattle.std.proofs.lemmas.Bool.Decides.{Decides-at}
use Rattle.programs.specs.Literals.{Interpretation}
use Rattle.programs.specs.Programs.{Program, Model}
use Rattle.floorplan.specs.Next.{known, step, Marks}

-- `known | after << 16`
pub step_word : (word before action after : ℕ) → word ≡ known before action → after < 512 → bit_or word ((after * 2 ^ 16) % 2 ^ 64) ≡ step before action after
step_word word before action after e b = ap₂ bit_or e (shl_whole after 9 16 64 (omega arith) (omega arith))

-- the word that is asked is that of the step
pub marks_more : (p : Program) (before action i word : ℕ) (table : List Bool) (b : Bool) → word ≡ step before action i → i < length table → Marks p before action i table → Interpretation p.atoms word × Decides b (Model p word) → Marks p before action (i + 1) (set table i b)
marks_more p before action i word table b same lt old here =
    below_more (λ k. Interpretation p.atoms (step before action k) × Decides (get_or (set table i b) k false) (Model p (step before action k))) i
    (λ k l. let other : k ≢ i = omega arith in ((old k l).0, Decides-at _ _ (get_or-set_other table i k b false other) (old k l).1))
    (let asked = subst (λ w. Interpretation p.atoms w × Decides b (Model p w)) same here in (asked.0, Decides-at _ _ (get_or-set_same table i b false lt) asked.1))
