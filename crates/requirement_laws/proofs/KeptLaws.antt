-- What no car breaks on a slice's first day every car keeps on all its days.
use Rattle.std.proofs.Common.{inl, inr, ◌≡◌, ℕ, zero, suc, Bool, true, false, not, ◌&&◌, ◌||◌, List, [], ◌∷◌, map, refl, sym, ap, subst, ◌∙◌, IsTrue, Some}
use Rattle.std.specs.List.{AllByRecursion, filter, list_any, slice_get}
use Rattle.std.specs.Option.{option_map_or}
use Rattle.std.proofs.lemmas.Bool.{cases_Bool, cond-true, cond-false, true≢false}
use Rattle.pb_base.specs.Names.{same_name}
use Rattle.pb_base.specs.Rule.{Rule, negation, both, holds}
use Rattle.book_model.specs.Activity.{is_within}
use Rattle.book_model.specs.Book.{IsBook}
use Rattle.book_model.specs.Contents.{Contents}
use Rattle.book_model.specs.Good.{is_good}
use Rattle.book_model.specs.Parts.{is_active_position}
use Rattle.book_model.specs.Slices.{AreAlike, days_from_to}
use Rattle.book_model.specs.declared.record.Position.{Position}
use Rattle.book_model.specs.declared.record.Slice.{Slice}
use Rattle.book_model.specs.declared.record.Variant.{Variant}
use Rattle.book_model.proofs.DaysAlike.{IsAlike, good_alike, records_alike}
use Rattle.clausify.specs.Questions.{and_none}
use Rattle.clausify.proofs.ItemLaws.{length_from_good}
use Rattle.requirements.specs.declared.requirement.Claim.{Claim}
use Rattle.requirements.specs.declared.requirement.Claim.TheVariants.{Meets, Uses}
use Rattle.requirements.specs.declared.requirement.Requirement.{Requirement}
use Rattle.rules_met.specs.Met.{IsAnswer, MetByNone}
use Rattle.rules_met.specs.declared.answer.RuleAnswer.{RuleAnswer}
use Rattle.kept_requirements.specs.Kept.{broken_rule, carries, has_part, is_active_at, keeps, part_rules}
use Rattle.kept_requirements.specs.Notes.{IsReport}
use Rattle.kept_requirements.specs.declared.note.RequirementNote.{RequirementNote}
use Rattle.requirement_laws.specs.Laws.{HasNoLine}
use Rattle.requirement_laws.proofs.LineLaws.{Unbroken, unbroken_on}
use Rattle.requirement_laws.proofs.DayLaws.{SliceAt, asked_at, slice_at}

-- the rule and none of others
nor : (p q r : Bool) → ((p && not q) && not r) ≡ (p && not (q || r))
nor true true r = refl
nor true false r = refl
nor false q r = refl

and_none_holds : (f : Rule) (gs : List Rule) (x : List Bool) → holds (and_none f gs) x ≡ (holds f x && not (list_any (λ g. holds g x) gs))
and_none_holds f [] x = plain (holds f x)
  where
    plain : (p : Bool) → p ≡ (p && true)
    plain true = refl
    plain false = refl
and_none_holds f (g ∷ gs) x = and_none_holds (both f (negation g)) gs x ∙ nor (holds f x) (holds g x) (list_any (λ h. holds h x) gs)

-- some of the usages that are listed is true just where some variant that is listed is used
any_listed : (w : Variant → Bool) (vs : List Variant) (x : List Bool)
    → list_any (λ g. holds g x) (map (λ (v : Variant). v.rule) (filter w vs)) ≡ list_any (λ v. w v && holds v.rule x) vs
any_listed w [] x = refl
any_listed w (v ∷ vs) x =
    let test : List Variant → Bool = λ ks. list_any (λ g. holds g x) (map (λ (k : Variant). k.rule) ks) in
    elim (cases_Bool (w v)) [
      | inl e ↦
          ap test (cond-true (w v) (v ∷ filter w vs) (filter w vs) e) ∙ ap (λ t. holds v.rule x || t) (any_listed w vs x)
          ∙ ap (λ t. (t && holds v.rule x) || list_any (λ k. w k && holds k.rule x) vs) (sym e)
      | inr e ↦
          ap test (cond-false (w v) (v ∷ filter w vs) (filter w vs) e) ∙ any_listed w vs x
          ∙ ap (λ t. (t && holds v.rule x) || list_any (λ k. w k && holds k.rule x) vs) (sym e)
    ]

against : (p q : Bool) → (p && not q) ≡ not (not p || q)
against true q = refl
against false q = refl

-- a set meets the rule that is asked just where it doesn't keep the claim
broken_holds : (b : Contents) (day : ℕ) (c : Claim) (x : List Bool) → holds (broken_rule b day c) x ≡ not (keeps b day c x)
broken_holds b day (Meets rule) x = refl
broken_holds b day (Uses part rule) x =
    and_none_holds rule (part_rules b day part) x
    ∙ ap (λ t. holds rule x && not t) (any_listed (carries b day part) b.variants x)
    ∙ against (holds rule x) (has_part b day part x)

active_alike : (d e : ℕ) (ps : List Position) (place : ℕ) → AllByRecursion (IsAlike d e) (map (λ p. days_from_to p.from p.until) ps)
    → option_map_or (is_active_position d) (slice_get ps place) false ≡ option_map_or (is_active_position e) (slice_get ps place) false
active_alike d e [] place h = refl
active_alike d e (p ∷ ps) zero h = h.0
active_alike d e (p ∷ ps) (suc place) h = active_alike d e ps place h.1

any_carried : (b : Contents) (d e : ℕ) (part : List ℕ) (x : List Bool) → ((place : ℕ) → is_active_at b d place ≡ is_active_at b e place) → (vs : List Variant)
    → AllByRecursion (IsAlike d e) (map (λ v. days_from_to v.from v.until) vs)
    → list_any (λ v. carries b d part v && holds v.rule x) vs ≡ list_any (λ v. carries b e part v && holds v.rule x) vs
any_carried b d e part x same [] h = refl
any_carried b d e part x same (v ∷ vs) h =
    ap (λ t. ((same_name v.part part && t && is_active_at b d v.position) && holds v.rule x) || list_any (λ k. carries b d part k && holds k.rule x) vs) h.0
    ∙ ap (λ t. ((same_name v.part part && is_within v.from v.until e && t) && holds v.rule x) || list_any (λ k. carries b d part k && holds k.rule x) vs) (same v.position)
    ∙ ap (λ t. (carries b e part v && holds v.rule x) || t) (any_carried b d e part x same vs h.1)

-- a claim is kept on both of two days on which the same records are active, or on neither
pub keeps_alike : (b : Contents) (d e : ℕ) (c : Claim) (x : List Bool) → AreAlike b d e → keeps b d c x ≡ keeps b e c x
keeps_alike b d e (Meets rule) x alike = refl
keeps_alike b d e (Uses part rule) x alike =
    let records = records_alike b d e alike in
    ap (λ t. not (holds rule x) || t) (any_carried b d e part x (λ place. active_alike d e b.positions place records.positions) b.variants records.variants)

kept_where : (k : Bool) → not k ≡ false → k ≡ true
kept_where true h = refl
kept_where false h = absurd (true≢false h)

fails_there : (g h : Bool) → g ≡ true → (g && h) ≡ false → h ≡ false
fails_there true h e f = f
fails_there false h e f = absurd (cc)

pub kept : (b : Contents) (budget : ℕ) (rs : List Requirement) (notes : List RequirementNote) (place : ℕ) (r : Requirement) → IsBook b
    → IsReport b budget rs notes → slice_get rs place ≡ Some r → HasNoLine r.id notes
    → (day : ℕ) → IsTrue (is_within b.first b.last day) → IsTrue (is_within r.from r.until day) → (x : List Bool) → is_good b day x ≡ true → keeps b day r.claim x ≡ true
kept b budget rs notes place r book report there none day in_term asked x good =
    let at : SliceAt b report.slices day = slice_at b report.slices day book.term report.within in_term in
    let s : Slice = at.slice in
    let u : Unbroken b budget report.slices s r =
    unbroken_on b budget report.slices rs notes place r report.each there none at.place s at.is_there (asked_at r s day at.from at.until asked) in
    let by_none : MetByNone b s.first (broken_rule b s.first r.claim) =
    subst (λ (a : RuleAnswer). IsAnswer b s.first budget (broken_rule b s.first r.claim) a) u.none u.right.broken in
    let good_first : is_good b s.first x ≡ true = sym (good_alike b day s.first x at.alike) ∙ good in
    let unmet : holds (broken_rule b s.first r.claim) x ≡ false =
    fails_there (is_good b s.first x) (holds (broken_rule b s.first r.claim) x) good_first (by_none x (length_from_good b day x good)) in
    keeps_alike b day s.first r.claim x at.alike
    ∙ kept_where (keeps b s.first r.claim x) (sym (broken_holds b s.first r.claim x) ∙ unmet)
