-- The first state that may follow a state when an action is taken, of those above one that is named, on a sheet of nine fluents and seven actions.
use Rattle.std.specs.Prelude.{◌≡◌, ℕ, ◌*◌, ◌^◌, ◌<◌, IfSome, Option, Result, MatchResult, bit_or}
use Rattle.std.specs.Option.{option_map}
use Rattle.programs.specs.declared.refusal.Refusal.{Refusal}
use Rattle.programs.specs.Programs.{Program, Model}
use Rattle.programs.specs.Refusals.{number}
use Rattle.search.specs.Searches.{Above, NamesSmallest}
use Rattle.floorplan.specs.Next.{step}

-- the state s may follow: the step to it is a model
abbrev pub MayFollow : Program → ℕ → ℕ → ℕ → Type 0
MayFollow p before action s = (s < 512) × Model p (step before action s)

-- the state that is named is one of the 512
abbrev pub StateIn : Option ℕ → Type 0
StateIn o = IfSome o (λ s. s < 512)

-- the program has the atoms of such a sheet, and the states and the action are in range
pub record StepIn (p : Program) (before action : ℕ) (above : Option ℕ) : Type 0 where
  pub whole : p.atoms ≡ 25
  pub from : before < 512
  pub by : action < 7
  pub past : StateIn above

-- the number of the step to the state that is named, from what is known at time 0
abbrev pub steps_to : ℕ → Option ℕ → Option ℕ
steps_to k o = option_map (λ s. bit_or k (s * 2 ^ 16)) o

-- the first state, above the one that is named, that may follow, or none; refused with 6 exactly where something is out of range
abbrev pub AnswersNextState : Program → ℕ → ℕ → Option ℕ → Result (Option ℕ) Refusal → Type 0
AnswersNextState p before action above r =
    MatchResult r
    (λ next. StepIn p before action above × NamesSmallest (λ s. MayFollow p before action s × Above above s) next)
    (λ e. (StepIn p before action above → ⊥) × (number e ≡ 6))
