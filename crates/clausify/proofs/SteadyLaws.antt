-- On all days of a slice the same records are active, so the same sets are good, and the goals are the same.
use Rattle.std.proofs.Common.{◌≡◌, ℕ, zero, suc, Bool, false, cond, List, [], ◌∷◌, map, refl, sym, ap, subst, ◌∙◌}
use Rattle.std.specs.List.{filter, slice_get, AllByRecursion}
use Rattle.std.specs.Option.{option_map_or}
use Rattle.pb_base.specs.Rule.{Rule, holds}
use Rattle.book_model.specs.Activity.{is_within}
use Rattle.book_model.specs.Contents.{Contents}
use Rattle.book_model.specs.Book.{IsBook}
use Rattle.book_model.specs.Parts.{variants_of}
use Rattle.book_model.specs.Slices.{AreAlike, IsSteady, days_from_to}
use Rattle.book_model.proofs.DaysAlike.{IsAlike, records_alike, good_alike}
use Rattle.book_model.specs.declared.record.Slice.{Slice}
use Rattle.book_model.specs.declared.record.Variant.{Variant}
use Rattle.clausify.specs.Choices.{usage, is_active_variant}
use Rattle.clausify.specs.Questions.{goal, none_rule}
use Rattle.clausify.specs.Coded.{slice_clauses, slice_variables, slice_asked, IsCoded}
use Rattle.clausify.specs.Lifting.{GoalsTrue, CodesGoodSets, CodesSlice}
use Rattle.clausify.specs.declared.question.Asked.{Asked}
use Rattle.clausify.specs.declared.question.Coded.{Coded}
use Rattle.clausify.specs.declared.question.Question.{Question}
use Rattle.clausify.specs.declared.question.Question.TheVariants.{Void, Necessary, Inadmissible, Superfluous, Ambiguous, Uncovered}
use Rattle.clausify.proofs.SliceLaws.{codes_good_sets}

filter_same : (p q : ℕ → Bool) → ((k : ℕ) → p k ≡ q k) → (ks : List ℕ) → filter p ks ≡ filter q ks
filter_same p q same [] = refl
filter_same p q same (k ∷ ks) = ap (λ (t : Bool). cond t (k ∷ filter p ks) (filter p ks)) (same k) ∙ ap (λ (rest : List ℕ). cond (q k) (k ∷ rest) rest) (filter_same p q same ks)

active_same : (day other : ℕ) (vs : List Variant) (k : ℕ) → AllByRecursion (IsAlike day other) (map (λ v. days_from_to v.from v.until) vs)
    → option_map_or (λ (v : Variant). is_within v.from v.until day) (slice_get vs k) false ≡ option_map_or (λ (v : Variant). is_within v.from v.until other) (slice_get vs k) false
active_same day other [] k h = refl
active_same day other (v ∷ vs) zero h = h.0
active_same day other (v ∷ vs) (suc k) h = active_same day other vs k h.1

pub goal_same : (b : Contents) (day other : ℕ) → AreAlike b day other → (q : Question) → goal b day q ≡ goal b other q
goal_same b day other h Void = refl
goal_same b day other h (Necessary place) = refl
goal_same b day other h (Inadmissible place) = refl
goal_same b day other h (Superfluous variant) = refl
goal_same b day other h (Ambiguous position first second) = refl
goal_same b day other h (Uncovered position) =
    ap (λ (vs : List ℕ). none_rule (map (usage b) vs))
    (filter_same (is_active_variant b day) (is_active_variant b other) (λ k. active_same day other b.variants k (records_alike b day other h).variants) (variants_of position b.variants))

goals_same : (b : Contents) (day other : ℕ) → AreAlike b day other → (x : List Bool) (a : ℕ → Bool) (asked : List Asked) → GoalsTrue b other x a asked → GoalsTrue b day x a asked
goals_same b day other h x a [] goals = tt
goals_same b day other h x a (q ∷ asked) goals =
    (goals.0 ∙ ap (λ (f : Rule). holds f x) (sym (goal_same b day other h q.question)), goals_same b day other h x a asked goals.1)

pub codes_slice : (b : Contents) (s : Slice) (c : Coded) → IsBook b → IsCoded b s.first c → IsSteady b s → CodesSlice b s c
codes_slice b s c book coded steady =
    let first = codes_good_sets b s.first book in
    record {
      on_each_day = λ day within.
          let same : AreAlike b day s.first = steady day within in
          let law : CodesGoodSets b day (slice_clauses b s.first) (slice_variables b s.first) (slice_asked b s.first) = record {
            lifts = λ x good.
                let found = first.lifts x (sym (good_alike b day s.first x same) ∙ good) in (
                  found.0,
                  record {
                    begins = found.1.begins;
                    satisfies = found.1.satisfies;
                    goals = goals_same b day s.first same x found.0 (slice_asked b s.first) found.1.goals;
                    alone = found.1.alone;
                  },
                );
            begins_good = λ a x len begins sat.
                let found = first.begins_good a x len begins sat in
                record {
                  is_good_then = good_alike b day s.first x same ∙ found.is_good_then;
                  goals = goals_same b day s.first same x a (slice_asked b s.first) found.goals;
                };
          } in
          subst (λ (cs : List (List ℕ)). CodesGoodSets b day cs c.vars c.questions.items) (sym coded.clauses)
          (subst (λ (n : ℕ). CodesGoodSets b day (slice_clauses b s.first) n c.questions.items) (sym coded.variables)
          (subst (λ (qs : List Asked). CodesGoodSets b day (slice_clauses b s.first) (slice_variables b s.first) qs) (sym coded.asked) law));
    }
