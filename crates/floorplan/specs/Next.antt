-- Which states may follow a state when an action is taken, on a sheet of nine fluents and seven actions.
use Rattle.std.specs.Prelude.{◌≡◌, ℕ, ◌+◌, ◌*◌, ◌^◌, ◌<◌, ◌≤◌, Bool, true, false, ◌⊎◌, List, length, Decides, Option, Result, MatchOption, MatchResult, bit_or, slice_index_or}
use Rattle.programs.specs.declared.refusal.Refusal.{Refusal}
use Rattle.programs.specs.Literals.{Interpretation, BitBeyond}
use Rattle.programs.specs.Programs.{Program, Model}
use Rattle.programs.specs.Refusals.{number}

-- the state before at time 0, and one action done
abbrev pub known : ℕ → ℕ → ℕ
known before action = bit_or before (2 ^ (9 + action))

-- that word; refused with 6 exactly where there is no such state or action
abbrev pub AnswersKnown : ℕ → ℕ → Result ℕ Refusal → Type 0
AnswersKnown before action r =
    MatchResult r
    (λ word. (before < 512) × (action < 7) × (word ≡ known before action))
    (λ e. ((512 ≤ before) ⊎ (7 ≤ action)) × (number e ≡ 6))

-- the interpretation with the state before at time 0, one action done, and the state after at time 1
abbrev pub step : ℕ → ℕ → ℕ → ℕ
step before action after = bit_or (bit_or before (2 ^ (9 + action))) (after * 2 ^ 16)

-- for the states below a limit: the step to the state s is an interpretation, and entry s of the table says whether it is a model
abbrev pub Marks : Program → ℕ → ℕ → ℕ → List Bool → Type 0
Marks p before action limit table =
    (s : ℕ) → s < limit → Interpretation p.atoms (step before action s) × Decides (slice_index_or table s false) (Model p (step before action s))

-- the states that may follow, as a table of all 512;
-- refused with 6 exactly where there is no such state or action, or a step has a bit beyond the atoms of p
abbrev pub AnswersNext : Program → ℕ → ℕ → Result (List Bool) Refusal → Type 0
AnswersNext p before action r =
    MatchResult r
    (λ table. (before < 512) × (action < 7) × (length table ≡ 512) × Marks p before action 512 table)
    (λ e. ((512 ≤ before) ⊎ (7 ≤ action) ⊎ ((s : ℕ) × (s < 512) × BitBeyond p.atoms (step before action s))) × (number e ≡ 6))

-- the first entry of the table that is true, or none where none is
abbrev pub FirstMarked : List Bool → Option ℕ → Type 0
FirstMarked table r =
    MatchOption r
    ((s : ℕ) → s < length table → slice_index_or table s false ≡ false)
    (λ first. (first < length table) × (slice_index_or table first false ≡ true) × ((s : ℕ) → s < first → slice_index_or table s false ≡ false))

-- no entry of the table after one is true
abbrev pub NoneAfter : List Bool → ℕ → Type 0
NoneAfter table one = (s : ℕ) → one < s → s < length table → slice_index_or table s false ≡ false
