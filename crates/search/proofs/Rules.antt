-- What the rules say of every model: rows, blocked rules, unfounded sets.
use Rattle.std.proofs.Common.{◌≡◌, ℕ, ◌+◌, ◌-◌, ◌^◌, ◌<◌, true, false, ◌⊎◌, List, [], ◌∷◌, ◌++◌, length, get_or, take, reverse, is_some, IfSome, Some, None, Option, sym, ap, ◌∙◌, subst, inl, inr, arith, pow_pos, pow_mono, below_more, length-append, length-take, MatchOption}
use Rattle.std.specs.List.{HoldsAt, All}
use Rattle.std.proofs.lemmas.List.Elements.{All-get_or, Contains-get_or, at_from_Contains}
use Rattle.std.proofs.lemmas.List.{length-reverse, get_or-take, get_or-reverse, get_or_default, get_or_push, get_or_append_left}
use Rattle.std.proofs.lemmas.Bool.{true≢false, false≢true, cases_eq}
use Rattle.programs.specs.declared.literal.Literal.{Literal}
use Rattle.programs.specs.declared.literal.LiteralSet.{LiteralSet}
use Rattle.programs.specs.Literals.{Member, Subset, complement, Union, Complements, Interpretation, TrueIn, AllTrue, literals_of}
use Rattle.programs.specs.Programs.{Rule, Justification, Program, ProgramFits, RuleFits, Model, Reduct, Closed, Holds, rule_at, no_rule}
use Rattle.programs.specs.Questions.{HoldsAs}
use Rattle.programs.proofs.Bits.{interpretation_below}
use Rattle.programs.proofs.Sets.{literals_of_true, some_difference}
use Rattle.search.specs.Nogoods.{Agrees, Avoids, NoGood}
use Rattle.search.specs.Rows.{Keeps, IsRule, Kept, Body, Opposes, RowOf, RowHolds, Prepared, Supports, Blocks, BlocksAll}
use Rattle.search.specs.declared.rows.KnownRule.{KnownRule}
use Rattle.search.proofs.Reasons.{one_true, subset_true, union_true}

-- an element that is read with one default
pub at_of : {X : Type 0} (P : X → Type 0) (xs : List X) (i : ℕ) (d : X) → i < length xs → P (get_or xs i d) → HoldsAt P xs i
at_of P xs i d h p e = subst P (get_or_default xs i d e h) p

-- what holds of one of the last elements of a list holds of an element
pub among_last : {X : Type 0} (P : X → Type 0) (n : ℕ) (xs : List X) → (k : ℕ) × (k < length (take n (reverse xs))) × HoldsAt P (take n (reverse xs)) k → (j : ℕ) × (j < length xs) × HoldsAt P xs j
among_last {X} P n xs (k, l, h) =
    let short = length-take n (reverse xs) in
    let same = length-reverse xs in
    (length xs - 1 - k, omega arith, λ d. subst P (get_or-take n (reverse xs) k d (omega arith) ∙ get_or-reverse xs k d (omega arith)) (h d))

-- the rules from n on, the last of them first
abbrev pub KeepsBack : Program → ℕ → List KnownRule → Type 0
KeepsBack p n rules = (i : ℕ) → i < length rules → HoldsAt (Kept p (n + length rules - 1 - i)) rules i

-- one rule more is kept, the one before these
pub keeps_push : (p : Program) (n : ℕ) (rules : List KnownRule) (k : KnownRule) → KeepsBack p (n + 1) rules → Kept p n k → KeepsBack p n (rules ++ k ∷ [])
keeps_push p n rules k all here i l d =
    let more = length-append rules (k ∷ []) in
    elim (cases_eq i (length rules)) [
      | inl e ↦ rw (get_or_push rules k d i (sym e)) (subst (λ m. Kept p m k) (omega (arith, more, e)) here)
      | inr o ↦
          let lt : i < length rules = omega (arith, more) in
          rw (get_or_append_left rules (k ∷ []) d i lt) (subst (λ m. Kept p m (get_or rules i d)) (omega (arith, more, lt)) (all i lt d))
    ]

-- a row whose justification is known as a set, and one whose is not
some_part : (A B : Type 0) (o : Option LiteralSet) → true ≡ is_some o → MatchOption o A (λ _. B) → B
some_part A B None e h = absurd (true≢false e)
some_part A B (Some X) e h = h

none_part : (A B : Type 0) (o : Option LiteralSet) → false ≡ is_some o → MatchOption o A (λ _. B) → A
none_part A B None e h = h
none_part A B (Some X) e h = absurd (false≢true e)

pub row_known : (p : Program) (k : KnownRule) → true ≡ is_some k.justification → RowHolds p k → NoGood p k.row
row_known p k = some_part ((w : ℕ) → Model p w → Holds (rule_at p k.number).justification w → Avoids k.row w) (NoGood p k.row) k.justification

pub row_unknown : (p : Program) (k : KnownRule) → false ≡ is_some k.justification → RowHolds p k → (w : ℕ) → Model p w → Holds (rule_at p k.number).justification w → Avoids k.row w
row_unknown p k = none_part ((w : ℕ) → Model p w → Holds (rule_at p k.number).justification w → Avoids k.row w) (NoGood p k.row) k.justification

-- a model has the head of each rule whose premises and justification it has
module _ (p : Program) (fits : ProgramFits p) where
  rule_fits : (i : ℕ) → i < length p.rules → RuleFits p.atoms (rule_at p i)
  rule_fits i h = All-get_or (RuleFits p.atoms) p.rules i no_rule h fits.each

  pub model_head : (i w : ℕ) → i < length p.rules → Model p w → AllTrue (rule_at p i).premises w → Holds (rule_at p i).justification w → TrueIn (rule_at p i).head w
  model_head i w lt m premises holds =
      let own = literals_of_true p.atoms w m.interpretation in
      let below = (rule_fits i lt).premises in
      ((own (rule_at p i).head).0 (m.smallest.closed (rule_at p i) (Contains-get_or p.rules i no_rule lt, holds) (λ l h. (own l).1 (below l h, premises l h)))).1

  -- the body of a rule that has its premises and its justification
  body_at : (j : Justification) (P B : LiteralSet) (w : ℕ) → Interpretation p.atoms w → (o : Option LiteralSet) → IfSome o (HoldsAs p.atoms j) → MatchOption o (B ≡ P) (λ X. Union P X B) → AllTrue P w → Holds j w → AllTrue B w
  body_at j P B w n None amounts body premises holds = subst (λ Y. AllTrue Y w) (sym body) premises
  body_at j P B w n (Some X) amounts body premises holds = union_true P X B w body premises ((amounts w n).0 holds)

  pub body_true : (w : ℕ) (k : KnownRule) (B : LiteralSet) → Keeps p k → Body k B → Interpretation p.atoms w → AllTrue (rule_at p k.number).premises w → Holds (rule_at p k.number).justification w → AllTrue B w
  body_true w k B keeps body n premises holds =
      body_at (rule_at p k.number).justification k.premises B w n k.justification keeps.justification body (subst (λ Y. AllTrue Y w) (sym keeps.premises) premises) holds

  -- a rule whose known body is true
  known_body : (i w : ℕ) (P B : LiteralSet) → i < length p.rules → Model p w → P ≡ (rule_at p i).premises → (o : Option LiteralSet) → IfSome o (HoldsAs p.atoms (rule_at p i).justification) → MatchOption o ⊥ (λ X. Union P X B) → AllTrue B w → TrueIn (rule_at p i).head w
  known_body i w P B lt m same None amounts body all = absurd body
  known_body i w P B lt m same (Some X) amounts body all =
      model_head i w lt m
      (subst (λ Y. AllTrue Y w) same (subset_true P B w body.left all))
      ((amounts w m.interpretation).1 (subset_true X B w body.right all))

  -- a row: no model has it, with the justification
  row_refutes : (rules : List KnownRule) (w : ℕ) (k : KnownRule) (B N : LiteralSet) → All (IsRule p) rules → k.number < length p.rules → Keeps p k → Subset B N → ((C : LiteralSet) × Complements k.head C × Subset C N) ⊎ ((j : ℕ) × (j < length rules) × HoldsAt (Opposes k.head B) rules j) → Model p w → AllTrue N w → AllTrue (rule_at p k.number).premises w → Holds (rule_at p k.number).justification w → ⊥
  row_refutes rules w k B N all lt keeps sub way m true-all premises holds =
      let own = (rule_at p k.number).head in
      let head = model_head k.number w lt m premises holds in
      elim way [
        | inl c ↦ one_true own w head (true-all (complement own) (c.2 (complement own) (c.1.has own keeps.head.0)))
        | inr o ↦
            let q = get_or rules o.0 k in
            let is = All-get_or (IsRule p) rules o.0 k o.1 all in
            let opposes = o.2 k in
            let other = known_body q.number w q.premises B is.0 m is.1.premises q.justification is.1.justification opposes.body (subset_true B N w sub true-all) in
            let same = is.1.head.1 (complement own) (opposes.heads.has own keeps.head.0) in
            one_true own w head (subst (λ l. TrueIn l w) (sym same) other)
      ]

  row_at : (i : ℕ) (P B N : LiteralSet) → P ≡ (rule_at p i).premises → Subset B N → ((w : ℕ) → Model p w → AllTrue N w → AllTrue (rule_at p i).premises w → Holds (rule_at p i).justification w → ⊥) → (o : Option LiteralSet) → IfSome o (HoldsAs p.atoms (rule_at p i).justification) → MatchOption o (B ≡ P) (λ X. Union P X B) → MatchOption o ((w : ℕ) → Model p w → Holds (rule_at p i).justification w → Avoids N w) (λ X. NoGood p N)
  row_at i P B N same sub refute None amounts body =
      λ w m holds all. refute w m all (subst (λ Y. AllTrue Y w) (body ∙ same) (subset_true B N w sub all)) holds
  row_at i P B N same sub refute (Some X) amounts body =
      λ w m all.
      let whole = subset_true B N w sub all in
      refute w m all (subst (λ Y. AllTrue Y w) same (subset_true P B w body.left whole)) ((amounts w m.interpretation).1 (subset_true X B w body.right whole))

  pub row_holds : (rules : List KnownRule) (k : KnownRule) → All (IsRule p) rules → k.number < length p.rules → Keeps p k → RowOf rules k k.row → RowHolds p k
  row_holds rules k all lt keeps row =
      row_at k.number k.premises row.0 k.row keeps.premises row.2
      (λ w m. row_refutes rules w k row.0 k.row all lt keeps row.2 row.3 m)
      k.justification keeps.justification row.1

  -- blocked rules
  pub blocks_clash : (k : KnownRule) (B G : LiteralSet) → Keeps p k → Body k B → (Agrees G B → ⊥) → Blocks p k.number G
  blocks_clash k B G keeps body clash w m all premises holds =
      let whole = body_true w k B keeps body m.interpretation premises holds in
      clash (λ l g b. one_true l w (all l g) (whole (complement l) b))

  pub blocks_more : (i : ℕ) (G B : LiteralSet) → Subset G B → Blocks p i G → Blocks p i B
  blocks_more i G B sub b w m all = b w m (subset_true G B w sub all)

  -- one rule more
  pub blocks_next : (rules : List KnownRule) (X G B : LiteralSet) (i : ℕ) → Subset G B → BlocksAll p rules X i G → HoldsAt (λ k. Supports k X → Blocks p k.number B) rules i → BlocksAll p rules X (i + 1) B
  blocks_next rules X G B i sub before here =
      below_more (λ j. HoldsAt (λ k. Supports k X → Blocks p k.number B) rules j) i
      (λ j lt d s. blocks_more (get_or rules j d).number G B sub (before j lt d s))
      here

  -- an unfounded set: no model that has what blocks it meets it
  pub unfounded : (rules : List KnownRule) (X B : LiteralSet) (w : ℕ) (l : Literal) → X.positive < 2 ^ 64 → X.negative < 2 ^ 64 → Prepared p rules → BlocksAll p rules X (length rules) B → Model p w → AllTrue B w → l.atom < p.atoms → Member l X → TrueIn l w → ⊥
  unfounded rules X B w l xp xn prepared blocks m all lt x t =
      let n = p.atoms in
      let own = literals_of_true n w m.interpretation in
      let low = interpretation_below n w m.interpretation in
      let wide = pow_mono fits.few in
      let rest = some_difference (literals_of n w) X (omega (arith, low, wide)) (omega (arith, pow_pos n, wide)) xp xn in
      let Y = rest.0 in
      let d = rest.1 in
      let closed : Closed (Reduct p w) Y = λ r holds premises.
      let place = at_from_Contains p.rules r holds.0 in
      let i = place.0 in
      let here : i < length rules = omega (arith, prepared.many, place.1) in
      let within : Subset r.premises (literals_of n w) = λ k h. d.from k (premises k h) in
      d.has r.head (m.smallest.closed r holds within) (λ h.
      let k = get_or rules i (record { number = 0; head = X; premises = X; justification = None; row = X }) in
      let kept = prepared.all i here (record { number = 0; head = X; premises = X; justification = None; row = X }) in
      let same : rule_at p k.number ≡ r = ap (rule_at p) kept.number ∙ place.2 no_rule in
      blocks i here (record { number = 0; head = X; premises = X; justification = None; row = X }) (
        λ j e. subst (λ q. Member q X) (ap (λ (s : Rule). s.head) (sym same) ∙ sym (kept.keeps.head.1 j e)) h,
        λ j e f. d.apart j (premises j (subst (λ Z. Member j Z) (kept.keeps.premises ∙ ap (λ (s : Rule). s.premises) same) f)) e,
      )
      w m all
      (λ j e. ((own j).0 (within j (subst (λ (s : Rule). Member j s.premises) same e))).1)
      (subst (λ (s : Rule). Holds s.justification w) (sym same) holds.1)) in
      d.apart l (m.smallest.within Y closed l ((own l).1 (lt, t))) x
