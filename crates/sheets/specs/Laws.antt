-- Descriptions of how fluents change by actions: their laws, and when they are in range.
use Rattle.std.specs.Prelude.{ℕ, ◌+◌, ◌*◌, ◌<◌, ◌≤◌, List, [], ◌∷◌, length}
use Rattle.std.specs.List.{All}
use Rattle.programs.specs.Literals.{Below}
use Rattle.sheets.specs.declared.law.Law.{Law}
use Rattle.sheets.specs.declared.law.Law.TheVariants.{Static, Dynamic}
use Rattle.sheets.specs.declared.law.StaticLaw.{StaticLaw}
use Rattle.sheets.specs.declared.law.DynamicLaw.{DynamicLaw}

-- a number of fluents, a number of actions, and the laws of either kind
pub record Description : Type 0 where
  pub fluents : ℕ
  pub actions : ℕ
  pub statics : List StaticLaw
  pub dynamics : List DynamicLaw

-- the static laws of a list, in their order
abbrev pub statics_of : List Law → List StaticLaw
statics_of [] = []
statics_of (Static law ∷ laws) = law ∷ statics_of laws
statics_of (Dynamic law ∷ laws) = statics_of laws

-- the dynamic laws of a list, in their order
abbrev pub dynamics_of : List Law → List DynamicLaw
dynamics_of [] = []
dynamics_of (Static law ∷ laws) = dynamics_of laws
dynamics_of (Dynamic law ∷ laws) = law ∷ dynamics_of laws

-- the description with f fluents, e actions and these laws
abbrev pub described : ℕ → ℕ → List Law → Description
described f e laws = record { fluents = f; actions = e; statics = statics_of laws; dynamics = dynamics_of laws }

-- every literal of the law is on a fluent below f
abbrev pub StaticInRange : ℕ → StaticLaw → Type 0
StaticInRange f law = (law.head.atom < f) × Below f law.condition

-- the action of the law is below e, and every literal of it is on a fluent below f
abbrev pub DynamicInRange : ℕ → ℕ → DynamicLaw → Type 0
DynamicInRange f e law = (law.action < e) × (law.head.atom < f) × Below f law.condition

-- a law of either kind is in range
abbrev pub LawInRange : ℕ → ℕ → Law → Type 0
LawInRange f e (Static law) = StaticInRange f law
LawInRange f e (Dynamic law) = DynamicInRange f e law

-- some fluent, room in 64 atoms for the fluents at two times and the actions, at most 1,024 laws, each of them in range
pub record DescriptionFits (d : Description) : Type 0 where
  pub some : 1 ≤ d.fluents
  pub few : 2 * d.fluents + d.actions ≤ 64
  pub short : length d.statics + length d.dynamics ≤ 1024
  pub statics : All (StaticInRange d.fluents) d.statics
  pub dynamics : All (DynamicInRange d.fluents d.actions) d.dynamics
