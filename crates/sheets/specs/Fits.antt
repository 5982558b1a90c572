-- That a sheet's description fits, and that a description that fits gives a program that fits.
use Rattle.std.specs.Prelude.{◌≡◌, ℕ, zero, suc, ◌+◌, ◌*◌, ◌^◌, ◌<◌, ◌≤◌, Bool, true, false, List, [], ◌∷◌, length, refl}
use Rattle.std.proofs.Common.{subst, arith, shl_lt, length-append}
use Rattle.std.proofs.lemmas.Nat.{or_lt}
use Rattle.std.proofs.Math.Pow.{pow-lt}
use Rattle.std.specs.List.{flat_map, All, range_with_len}
use Rattle.std.proofs.lemmas.List.FromFn.{length-range_with_len}
use Rattle.std.proofs.lemmas.List.Elements.{All-nil, All-cons, All-head, All-tail, All-append, All-map, All-weaker}
use Rattle.std.proofs.lemmas.List.{length-map}
use Rattle.programs.specs.declared.literal.Literal.{Literal}
use Rattle.programs.specs.declared.literal.LiteralSet.{LiteralSet}
use Rattle.programs.specs.Literals.{Below, no_literals, with_literal}
use Rattle.programs.specs.Programs.{Rule, RuleFits, ProgramFits}
use Rattle.programs.proofs.Bits.{interpretation_below}
use Rattle.programs.proofs.Sets.{below_of, none_below, positive_below, negative_below}
use Rattle.sheets.specs.declared.law.StaticLaw.{StaticLaw}
use Rattle.sheets.specs.declared.law.DynamicLaw.{DynamicLaw}
use Rattle.sheets.specs.declared.action_sheet.ActionSheet.{ActionSheet}
use Rattle.sheets.specs.Laws.{Description, StaticInRange, DynamicInRange, DescriptionFits}
use Rattle.sheets.specs.Actions.{earlier, later, all_later, only, derived, both_times, done, effect, stays, may_be, either_way, inertia, choice, action_rules, action_program}
use Rattle.sheets.specs.Sheets.{description}

-- a sheet can only be made of laws that are in range
pub sheet_fits : (s : ActionSheet) → DescriptionFits (description s)
sheet_fits s = record { some = s.some; few = s.few; short = s.short; statics = s.each_static; dynamics = s.each_dynamic }

-- a set of literals below n, word by word
pub positive_lt : (n : ℕ) (X : LiteralSet) → Below n X → X.positive < 2 ^ n
positive_lt n X h = interpretation_below n X.positive (positive_below X n h)

pub negative_lt : (n : ℕ) (X : LiteralSet) → Below n X → X.negative < 2 ^ n
negative_lt n X h = interpretation_below n X.negative (negative_below X n h)

-- the sets of the rules are below the number of atoms
with_below : (n : ℕ) (X : LiteralSet) (b : Bool) (a : ℕ) → a < n → Below n X → Below n (with_literal X (record { atom = a; negative = b }))
with_below n X true a l h = below_of (with_literal X (record { atom = a; negative = true })) n (positive_lt n X h) (or_lt n _ _ (negative_lt n X h) (pow-lt l))
with_below n X false a l h = below_of (with_literal X (record { atom = a; negative = false })) n (or_lt n _ _ (positive_lt n X h) (pow-lt l)) (negative_lt n X h)

only_below : (n : ℕ) (l : Literal) → l.atom < n → Below n (only l)
only_below n l h = with_below n no_literals l.negative l.atom h (none_below n)

weaker_below : (m n : ℕ) (X : LiteralSet) → m ≤ n → Below m X → Below n X
weaker_below m n X l h k e = omega (arith, h k e)

shifted_below : (f e x : ℕ) → x < 2 ^ f → x * 2 ^ (f + e) < 2 ^ (2 * f + e)
shifted_below f e x h =
    let twice : f + (f + e) ≡ 2 * f + e = omega arith in
    subst (λ n. x * 2 ^ (f + e) < 2 ^ n) twice (shl_lt f (f + e) h)

later_below : (d : Description) (X : LiteralSet) → Below d.fluents X → Below (2 * d.fluents + d.actions) (all_later d X)
later_below d X h =
    below_of (all_later d X) (2 * d.fluents + d.actions)
    (shifted_below d.fluents d.actions X.positive (positive_lt d.fluents X h))
    (shifted_below d.fluents d.actions X.negative (negative_lt d.fluents X h))

-- two rules in a row
All-two : (P : Rule → Type 0) (q r : Rule) → P q → P r → All P (q ∷ r ∷ [])
All-two P q r h k = All-cons P q (r ∷ []) h (All-cons P r [] k (All-nil P))

-- the four kinds of rule
derived_fits : (n : ℕ) (l : Literal) (X : LiteralSet) → l.atom < n → Below n X → RuleFits n (derived l X)
derived_fits n l X h k = record { head = h; premises = k; justification = none_below n }

static_fits : (d : Description) (law : StaticLaw) → StaticInRange d.fluents law → All (RuleFits (2 * d.fluents + d.actions)) (both_times d law)
static_fits d law h =
    let n = 2 * d.fluents + d.actions in
    let l = h.0 in
    let wide : d.fluents ≤ n = omega arith in
    All-two (RuleFits n) _ _
    (derived_fits n law.head law.condition (omega arith) (weaker_below d.fluents n law.condition wide h.1))
    (derived_fits n (later d law.head) (all_later d law.condition) (omega arith) (later_below d law.condition h.1))

effect_fits : (d : Description) (law : DynamicLaw) → DynamicInRange d.fluents d.actions law → RuleFits (2 * d.fluents + d.actions) (effect d law)
effect_fits d law h =
    let n = 2 * d.fluents + d.actions in
    let a = h.0 in
    let l = h.1 in
    let wide : d.fluents ≤ n = omega arith in
    let done_below : d.fluents + law.action < n = omega arith in
    derived_fits n (later d law.head) (with_literal law.condition (done d law.action)) (omega arith)
    (with_below n law.condition false (d.fluents + law.action) done_below (weaker_below d.fluents n law.condition wide h.2))

stays_fits : (d : Description) (l : Literal) → l.atom < d.fluents → RuleFits (2 * d.fluents + d.actions) (stays d l)
stays_fits d l h =
    let n = 2 * d.fluents + d.actions in
    record { head = omega arith; premises = only_below n l (omega arith); justification = only_below n (later d l) (omega arith) }

may_be_fits : (n : ℕ) (l : Literal) → l.atom < n → RuleFits n (may_be l)
may_be_fits n l h = record { head = h; premises = none_below n; justification = only_below n l h }

either_way_fits : (n : ℕ) (rule : Literal → Rule) (a : ℕ) → ((b : Bool) → RuleFits n (rule (record { atom = a; negative = b }))) → All (RuleFits n) (either_way rule a)
either_way_fits n rule a h = All-two (RuleFits n) _ _ (h false) (h true)

-- lists of lists, and numbers in a row
All-flat_map : {X A : Type 0} (P : A → Type 0) (f : X → List A) (xs : List X) → All (λ x. All P (f x)) xs → All P (flat_map f xs)
All-flat_map P f [] h = All-nil P
All-flat_map P f (x ∷ xs) h =
    All-append P (f x) (flat_map f xs) (All-head (λ y. All P (f y)) x xs h) (All-flat_map P f xs (All-tail (λ y. All P (f y)) x xs h))

all_counting : (P : ℕ → Type 0) (a n : ℕ) → ((k : ℕ) → k < a + n → P k) → All P (range_with_len a n)
all_counting P a zero h = All-nil P
all_counting P a (suc n) h = All-cons P a (range_with_len (a + 1) n) (h a (omega arith)) (all_counting P (a + 1) n (λ k l. h k (omega arith)))

pub length-flat_map : {X A : Type 0} (f : X → List A) → ((x : X) → length (f x) ≡ 2) → (xs : List X) → length (flat_map f xs) ≡ 2 * length xs
length-flat_map f two [] = refl
length-flat_map f two (x ∷ xs) = omega (arith, length-append (f x) (flat_map f xs), two x, length-flat_map f two xs)

pub action_length : (d : Description) → length (action_rules d) ≡ 2 * length d.statics + (length d.dynamics + (2 * d.fluents + 2 * earlier d))
action_length d =
    simp (length-append, length-map)
    (omega (
      arith,
      length-flat_map (both_times d) (λ _. refl) d.statics,
      length-flat_map (inertia d) (λ _. refl) (range_with_len 0 d.fluents),
      length-flat_map choice (λ _. refl) (range_with_len 0 (earlier d)),
      length-range_with_len 0 d.fluents,
      length-range_with_len 0 (earlier d),
    ))

-- a description that fits makes a program that fits
pub program_fits : (d : Description) → DescriptionFits d → ProgramFits (action_program d)
program_fits d h =
    let n = 2 * d.fluents + d.actions in
    let Fits : Rule → Type 0 = RuleFits n in
    record {
      some = omega (arith, h.some);
      few = h.few;
      short = omega (arith, action_length d, h.short, h.few);
      each =
          All-append Fits _ _ (All-flat_map Fits (both_times d) d.statics (All-weaker (StaticInRange d.fluents) _ (static_fits d) d.statics h.statics))
          (All-append Fits _ _ (All-map Fits (effect d) d.dynamics (All-weaker (DynamicInRange d.fluents d.actions) _ (effect_fits d) d.dynamics h.dynamics))
          (All-append Fits _ _ (All-flat_map Fits (inertia d) _ (all_counting _ 0 d.fluents (λ k l. either_way_fits n (stays d) k (λ b. stays_fits d _ (omega arith)))))
          (All-flat_map Fits choice _ (all_counting _ 0 (earlier d) (λ k l. either_way_fits n may_be k (λ b. may_be_fits n _ (omega arith)))))));
    }
