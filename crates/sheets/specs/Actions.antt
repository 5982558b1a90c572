-- The program that a description of actions stands for. Its atoms: the fluents at time 0, the actions, the fluents at time 1.
use Rattle.std.specs.Prelude.{◌≡◌, ℕ, ◌+◌, ◌*◌, ◌^◌, true, false, List, [], ◌∷◌, ◌++◌, map}
use Rattle.std.specs.List.{flat_map, range_with_len}
use Rattle.programs.specs.declared.literal.Literal.{Literal}
use Rattle.programs.specs.declared.literal.LiteralSet.{LiteralSet}
use Rattle.programs.specs.Literals.{Member, no_literals, with_literal}
use Rattle.programs.specs.Programs.{Rule, Program, literals}
use Rattle.sheets.specs.declared.law.StaticLaw.{StaticLaw}
use Rattle.sheets.specs.declared.law.DynamicLaw.{DynamicLaw}
use Rattle.sheets.specs.Laws.{Description}

-- the number of atoms before the fluents at time 1
abbrev pub earlier : Description → ℕ
earlier d = d.fluents + d.actions

-- a literal of time 0, at time 1
abbrev pub later : Description → Literal → Literal
later d l = record { atom = l.atom + earlier d; negative = l.negative }

-- a set of literals of time 0, at time 1
abbrev pub all_later : Description → LiteralSet → LiteralSet
all_later d X = record { positive = X.positive * 2 ^ earlier d; negative = X.negative * 2 ^ earlier d }

-- what `all_later d X` holds: a literal at time 1 exactly where X has it at time 0, and nothing else
abbrev pub AllLaterAreTheLaterOnes : Description → LiteralSet → Type 0
AllLaterAreTheLaterOnes d X =
    ((l : Literal) → (Member l X → Member (later d l) (all_later d X)) × (Member (later d l) (all_later d X) → Member l X))
    × ((m : Literal) → Member m (all_later d X) → (l : Literal) × (m ≡ later d l))

-- the literal l alone
abbrev pub only : Literal → LiteralSet
only l = with_literal no_literals l

-- the head from the premises, assuming nothing
abbrev pub derived : Literal → LiteralSet → Rule
derived head premises = record { head = head; premises = premises; justification = literals no_literals }

-- a static law, at time 0 and at time 1
abbrev pub both_times : Description → StaticLaw → List Rule
both_times d law =
    derived law.head law.condition
    ∷ derived (later d law.head) (all_later d law.condition)
    ∷ []

-- an action, as a literal
abbrev pub done : Description → ℕ → Literal
done d action = record { atom = d.fluents + action; negative = false }

-- a dynamic law: its head at time 1, from the action and the condition at time 0
abbrev pub effect : Description → DynamicLaw → Rule
effect d law = derived (later d law.head) (with_literal law.condition (done d law.action))

-- a literal stays: at time 1 from itself at time 0, assuming itself at time 1
abbrev pub stays : Description → Literal → Rule
stays d l = record { head = later d l; premises = only l; justification = literals (only (later d l)) }

-- a literal may be: assuming itself
abbrev pub may_be : Literal → Rule
may_be l = record { head = l; premises = no_literals; justification = literals (only l) }

-- a rule for an atom, and the same for its negation
abbrev pub either_way : (Literal → Rule) → ℕ → List Rule
either_way rule a = rule (record { atom = a; negative = false }) ∷ rule (record { atom = a; negative = true }) ∷ []

-- inertia: a fluent and its negation stay
abbrev pub inertia : Description → ℕ → List Rule
inertia d = either_way (stays d)

-- choice: an atom and its negation may be
abbrev pub choice : ℕ → List Rule
choice = either_way may_be

-- each static law at both times, then each dynamic law, then inertia for each fluent, then a choice for each fluent at time 0 and each action
abbrev pub action_rules : Description → List Rule
action_rules d =
    flat_map (both_times d) d.statics
    ++ (map (effect d) d.dynamics
    ++ (flat_map (inertia d) (range_with_len 0 d.fluents)
    ++ flat_map choice (range_with_len 0 (earlier d))))

-- the program: those rules, over the fluents at time 0, the actions and the fluents at time 1
abbrev pub action_program : Description → Program
action_program d = record { atoms = 2 * d.fluents + d.actions; rules = action_rules d }
