-- The laws that a sheet keeps.
use Rattle.std.proofs.Common.{◌≡◌, ℕ, zero, suc, ◌+◌, ◌<◌, false, List, [], ◌∷◌, ◌++◌, length, get_or, take, sym, refl, ap, ◌∙◌, subst, ap₂, arith}
use Rattle.std.specs.List.{All}
use Rattle.std.proofs.lemmas.List.Elements.{All-head, All-tail}
use Rattle.std.proofs.lemmas.List.{take_more}
use Rattle.sheets.specs.declared.law.Law.{Law}
use Rattle.sheets.specs.declared.law.Law.TheVariants.{Static, Dynamic}
use Rattle.sheets.specs.declared.law.StaticLaw.{StaticLaw}
use Rattle.sheets.specs.declared.law.DynamicLaw.{DynamicLaw}
use Rattle.sheets.specs.declared.action_sheet.ActionSheet.{ActionSheet}
use Rattle.sheets.specs.Laws.{Description, DescriptionFits, statics_of, dynamics_of, described, StaticInRange, DynamicInRange, LawInRange}
use Rattle.sheets.specs.Steps.{with_law}

-- what a read past the last dynamic law would give
abbrev pub no_dynamic : DynamicLaw
no_dynamic = record { action = 0; head = record { atom = 0; negative = false }; condition = record { positive = 0; negative = 0 } }

-- a law of a sheet is in range, read from a slice of its laws
pub static_in_range : (s : ActionSheet) (laws : List StaticLaw) → laws ≡ s.statics.items → (k : ℕ) (d : StaticLaw) → k < length s.statics.items → StaticInRange s.fluents (get_or laws k d)
static_in_range s laws e k d l = subst (λ xs. StaticInRange s.fluents (get_or xs k d)) (sym e) (s.each_static k d l)

pub dynamic_in_range : (s : ActionSheet) (laws : List DynamicLaw) → laws ≡ s.dynamics.items → (k : ℕ) (d : DynamicLaw) → k < length s.dynamics.items → DynamicInRange s.fluents s.actions (get_or laws k d)
dynamic_in_range s laws e k d l = subst (λ xs. DynamicInRange s.fluents s.actions (get_or xs k d)) (sym e) (s.each_dynamic k d l)

-- the laws by kind, of a list with one law more
statics_push : (laws : List Law) (law : StaticLaw) → statics_of (laws ++ Static law ∷ []) ≡ statics_of laws ++ law ∷ []
statics_push [] law = refl
statics_push (Static l ∷ laws) law = ap (λ ls. l ∷ ls) (statics_push laws law)
statics_push (Dynamic l ∷ laws) law = statics_push laws law

statics_same : (laws : List Law) (law : DynamicLaw) → statics_of (laws ++ Dynamic law ∷ []) ≡ statics_of laws
statics_same [] law = refl
statics_same (Static l ∷ laws) law = ap (λ ls. l ∷ ls) (statics_same laws law)
statics_same (Dynamic l ∷ laws) law = statics_same laws law

dynamics_push : (laws : List Law) (law : DynamicLaw) → dynamics_of (laws ++ Dynamic law ∷ []) ≡ dynamics_of laws ++ law ∷ []
dynamics_push [] law = refl
dynamics_push (Static l ∷ laws) law = dynamics_push laws law
dynamics_push (Dynamic l ∷ laws) law = ap (λ ls. l ∷ ls) (dynamics_push laws law)

dynamics_same : (laws : List Law) (law : StaticLaw) → dynamics_of (laws ++ Static law ∷ []) ≡ dynamics_of laws
dynamics_same [] law = refl
dynamics_same (Static l ∷ laws) law = dynamics_same laws law
dynamics_same (Dynamic l ∷ laws) law = ap (λ ls. l ∷ ls) (dynamics_same laws law)

described_push : (f e : ℕ) (laws : List Law) (law : Law) → described f e (laws ++ law ∷ []) ≡ with_law (described f e laws) law
described_push f e laws (Static law) = ap₂ (λ (ss : List StaticLaw) (ds : List DynamicLaw). record { fluents = f; actions = e; statics = ss; dynamics = ds }) (statics_push laws law) (dynamics_same laws law)
described_push f e laws (Dynamic law) = ap₂ (λ (ss : List StaticLaw) (ds : List DynamicLaw). record { fluents = f; actions = e; statics = ss; dynamics = ds }) (statics_same laws law) (dynamics_push laws law)

pub described_more : (d : Description) (f e : ℕ) (laws : List Law) (i : ℕ) (l : Law) → i < length laws → d ≡ described f e (take i laws) → with_law d (get_or laws i l) ≡ described f e (take (i + 1) laws)
described_more d f e laws i l h same =
    ap (λ x. with_law x (get_or laws i l)) same
    ∙ sym (ap (described f e) (take_more laws i l h) ∙ described_push f e (take i laws) (get_or laws i l))

pub length_by_kind : (laws : List Law) → length (statics_of laws) + length (dynamics_of laws) ≡ length laws
length_by_kind [] = refl
length_by_kind (Static law ∷ laws) = omega (arith, length_by_kind laws)
length_by_kind (Dynamic law ∷ laws) = omega (arith, length_by_kind laws)

-- where a description fits, each of its laws is in range
law_at : (f e : ℕ) (laws : List Law) (i : ℕ) (l : Law) → i < length laws → All (StaticInRange f) (statics_of laws) → All (DynamicInRange f e) (dynamics_of laws) → LawInRange f e (get_or laws i l)
law_at f e [] i l h s t = absurd (omega arith)
law_at f e (Static law ∷ laws) zero l h s t = All-head (StaticInRange f) law (statics_of laws) s
law_at f e (Static law ∷ laws) (suc i) l h s t = law_at f e laws i l (omega arith) (All-tail (StaticInRange f) law (statics_of laws) s) t
law_at f e (Dynamic law ∷ laws) zero l h s t = All-head (DynamicInRange f e) law (dynamics_of laws) t
law_at f e (Dynamic law ∷ laws) (suc i) l h s t = law_at f e laws i l (omega arith) s (All-tail (DynamicInRange f e) law (dynamics_of laws) t)

pub law_in_range : (d : Description) (f e : ℕ) (laws : List Law) (i : ℕ) (l : Law) → i < length laws → d ≡ described f e (take i laws) → DescriptionFits (described f e laws) → LawInRange d.fluents d.actions (get_or laws i l)
law_in_range d f e laws i l h same fits =
    subst (λ x. LawInRange x.fluents x.actions (get_or laws i l)) (sym same) (law_at f e laws i l h fits.statics fits.dynamics)
