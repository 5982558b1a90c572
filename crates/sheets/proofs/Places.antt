-- Which rule of an action program stands at which number.
use Rattle.std.proofs.Common.{◌≡◌, ℕ, zero, suc, ◌+◌, ◌-◌, ◌*◌, ◌/◌, ◌%◌, ◌<◌, ◌≤◌, eqb, List, [], ◌∷◌, ◌++◌, map, length, get_or, refl, sym, ap, ◌∙◌, ap₂, inl, inr, arith}
use lib.ListN.{length-map}
use Rattle.std.specs.List.{flat_map, range_with_len}
use Rattle.std.proofs.lemmas.List.FromFn.{length-range_with_len, get_or-range_with_len}
use Rattle.std.proofs.lemmas.List.{get_or_append_left, get_or-append_right, get_or-map}
use Rattle.std.proofs.lemmas.Bool.{cases_lt}
use Rattle.programs.specs.declared.literal.Literal.{Literal}
use Rattle.programs.specs.declared.literal.LiteralSet.{LiteralSet}
use Rattle.programs.specs.Programs.{Rule, literals, rule_at}
use Rattle.sheets.specs.declared.law.StaticLaw.{StaticLaw}
use Rattle.sheets.specs.declared.law.DynamicLaw.{DynamicLaw}
use Rattle.sheets.specs.declared.action_sheet.ActionSheet.{ActionSheet}
use Rattle.sheets.specs.Actions.{earlier, both_times, effect, either_way, inertia, choice, action_rules, action_program}
use Rattle.sheets.specs.Fits.{length-flat_map, action_length}
use Rattle.sheets.specs.Sheets.{description}
use Rattle.sheets.specs.Steps.{rule_in}

-- a list that is joined of pairs
pub get_or-flat_map : {X A : Type 0} (f : X → List A) → ((x : X) → length (f x) ≡ 2) → (xs : List X) (i : ℕ) (d : A) (e : X) → i < 2 * length xs → get_or (flat_map f xs) i d ≡ get_or (f (get_or xs (i / 2) e)) (i % 2) d
get_or-flat_map f two [] i d e l = absurd (omega arith)
get_or-flat_map f two (x ∷ xs) i d e l =
    elim (cases_lt i 2) [
      | inl s ↦
          let first : 0 ≡ i / 2 = omega arith in
          let here : i ≡ i % 2 = omega arith in
          get_or_append_left (f x) (flat_map f xs) d i (omega (arith, two x))
          ∙ ap₂ (λ k m. get_or (f (get_or (x ∷ xs) k e)) m d) first here
      | inr s ↦
          let next : suc ((i - 2) / 2) ≡ i / 2 = omega arith in
          let same : (i - 2) % 2 ≡ i % 2 = omega arith in
          get_or-append_right (f x) (flat_map f xs) 2 i d (two x) s
          ∙ get_or-flat_map f two xs (i - 2) d e (omega arith)
          ∙ ap₂ (λ k m. get_or (f (get_or (x ∷ xs) k e)) m d) next same
    ]

way_at : (rule : Literal → Rule) (a m : ℕ) (d : Rule) → m < 2 → get_or (either_way rule a) m d ≡ rule (record { atom = a; negative = eqb m 1 })
way_at rule a zero d l = refl
way_at rule a (suc zero) d l = refl
way_at rule a (suc (suc m)) d l = absurd (omega arith)

-- a rule for each of the first n atoms and its negation
pub get_or_ways : (rule : Literal → Rule) (n i : ℕ) (d : Rule) → i < 2 * n → get_or (flat_map (either_way rule) (range_with_len 0 n)) i d ≡ rule (record { atom = i / 2; negative = eqb (i % 2) 1 })
get_or_ways rule n i d l =
    let atom : get_or (range_with_len 0 n) (i / 2) 0 ≡ i / 2 = omega (arith, get_or-range_with_len 0 n (i / 2) 0 (omega arith)) in
    get_or-flat_map (either_way rule) (λ _. refl) (range_with_len 0 n) i d 0 (omega (arith, length-range_with_len 0 n))
    ∙ ap (λ a. get_or (either_way rule a) (i % 2) d) atom
    ∙ way_at rule (i / 2) (i % 2) d (omega arith)

-- a list in four parts
module _ {A : Type 0} (xs ys zs ws : List A) (a b c : ℕ) (first : length xs ≡ a) (second : length ys ≡ b) (third : length zs ≡ c) (d : A) where
  in_first : (i : ℕ) → i < a → get_or (xs ++ (ys ++ (zs ++ ws))) i d ≡ get_or xs i d
  in_first i l = get_or_append_left xs (ys ++ (zs ++ ws)) d i (omega arith)

  in_second : (i : ℕ) → a ≤ i → i < a + b → get_or (xs ++ (ys ++ (zs ++ ws))) i d ≡ get_or ys (i - a) d
  in_second i h l =
      get_or-append_right xs (ys ++ (zs ++ ws)) a i d first h
      ∙ get_or_append_left ys (zs ++ ws) d (i - a) (omega arith)

  past_second : (i : ℕ) → a + b ≤ i → get_or (xs ++ (ys ++ (zs ++ ws))) i d ≡ get_or (zs ++ ws) (i - (a + b)) d
  past_second i h =
      let at : i - a - b ≡ i - (a + b) = omega arith in
      get_or-append_right xs (ys ++ (zs ++ ws)) a i d first (omega arith)
      ∙ get_or-append_right ys (zs ++ ws) b (i - a) d second (omega arith)
      ∙ ap (λ j. get_or (zs ++ ws) j d) at

  in_third : (i : ℕ) → a + b ≤ i → i < a + b + c → get_or (xs ++ (ys ++ (zs ++ ws))) i d ≡ get_or zs (i - (a + b)) d
  in_third i h l = past_second i h ∙ get_or_append_left zs ws d (i - (a + b)) (omega arith)

  in_fourth : (i : ℕ) → a + b + c ≤ i → get_or (xs ++ (ys ++ (zs ++ ws))) i d ≡ get_or ws (i - (a + b + c)) d
  in_fourth i h =
      let at : i - (a + b) - c ≡ i - (a + b + c) = omega arith in
      past_second i (omega arith)
      ∙ get_or-append_right zs ws c (i - (a + b)) d third (omega arith)
      ∙ ap (λ j. get_or ws j d) at

-- the four parts of a sheet's rules
module _ (s : ActionSheet) where
  static_part : length (flat_map (both_times (description s)) (description s).statics) ≡ 2 * length s.statics.items
  static_part = length-flat_map (both_times (description s)) (λ _. refl) (description s).statics

  effect_part : length (map (effect (description s)) (description s).dynamics) ≡ length s.dynamics.items
  effect_part = length-map (description s).dynamics (effect (description s))

  inertia_part : length (flat_map (inertia (description s)) (range_with_len 0 s.fluents)) ≡ 2 * s.fluents
  inertia_part = length-flat_map (inertia (description s)) (λ _. refl) (range_with_len 0 s.fluents) ∙ ap (λ n. 2 * n) (length-range_with_len 0 s.fluents)

  pub sheet_length : length (action_rules (description s)) ≡ 2 * length s.statics.items + length s.dynamics.items + 2 * s.fluents + 2 * (s.fluents + s.actions)
  sheet_length = omega (arith, action_length (description s))

  pub static_place : (i : ℕ) → i < 2 * length s.statics.items → rule_at (action_program (description s)) i ≡ rule_in (flat_map (both_times (description s)) (description s).statics) i
  static_place i l = in_first _ _ _ _ _ _ _ static_part effect_part inertia_part _ i l

  pub effect_place : (i : ℕ) → 2 * length s.statics.items ≤ i → i < 2 * length s.statics.items + length s.dynamics.items → rule_at (action_program (description s)) i ≡ rule_in (map (effect (description s)) (description s).dynamics) (i - 2 * length s.statics.items)
  effect_place i h l = in_second _ _ _ _ _ _ _ static_part effect_part inertia_part _ i h l

  pub inertia_place : (i : ℕ) → 2 * length s.statics.items + length s.dynamics.items ≤ i → i < 2 * length s.statics.items + length s.dynamics.items + 2 * s.fluents → rule_at (action_program (description s)) i ≡ rule_in (flat_map (inertia (description s)) (range_with_len 0 s.fluents)) (i - (2 * length s.statics.items + length s.dynamics.items))
  inertia_place i h l = in_third _ _ _ _ _ _ _ static_part effect_part inertia_part _ i h l

  pub choice_place : (i : ℕ) → 2 * length s.statics.items + length s.dynamics.items + 2 * s.fluents ≤ i → rule_at (action_program (description s)) i ≡ rule_in (flat_map choice (range_with_len 0 (earlier (description s)))) (i - (2 * length s.statics.items + length s.dynamics.items + 2 * s.fluents))
  choice_place i h = in_fourth _ _ _ _ _ _ _ static_part effect_part inertia_part _ i h

  -- a rule of a law, read from a slice of the laws
  pub static_rule_at : (laws : List StaticLaw) → laws ≡ s.statics.items → (i : ℕ) (d : StaticLaw) → i < 2 * length s.statics.items → rule_in (flat_map (both_times (description s)) s.statics.items) i ≡ rule_in (both_times (description s) (get_or laws (i / 2) d)) (i % 2)
  static_rule_at laws e i d l =
      get_or-flat_map (both_times (description s)) (λ _. refl) s.statics.items i _ d l
      ∙ ap (λ xs. rule_in (both_times (description s) (get_or xs (i / 2) d)) (i % 2)) (sym e)

  pub effect_at : (laws : List DynamicLaw) → laws ≡ s.dynamics.items → (i : ℕ) (d : DynamicLaw) → i < length s.dynamics.items → rule_in (map (effect (description s)) s.dynamics.items) i ≡ effect (description s) (get_or laws i d)
  effect_at laws e i d l =
      get_or-map (effect (description s)) s.dynamics.items i d _ l
      ∙ ap (λ xs. effect (description s) (get_or xs i d)) (sym e)

-- a rule by its parts
pub same_rule : (l m : Literal) (X Y U V : LiteralSet) → l ≡ m → X ≡ Y → U ≡ V → ◌≡◌ {A = Rule} (record { head = l; premises = X; justification = literals U }) (record { head = m; premises = Y; justification = literals V })
same_rule l m X Y U V p q r = cc
