-- The clauses of the goals hold just where their variables are the truth of what they stand for, and the literal of each
-- question is then the truth of its goal.
use Rattle.std.proofs.Common.{inl, inr, if◌then◌else◌, ◌≡◌, ℕ, zero, suc, ◌+◌, ◌-◌, Bool, true, false, not, List, [], ◌∷◌, ◌++◌, length, map, refl, sym, ap, subst, ◌∙◌, arith, length-append}
use Rattle.std.proofs.lemmas.List.{length-map}
use Rattle.std.specs.List.{slice_get, All, AllByRecursion}
use Rattle.std.specs.Option.{option_map_or}
use Rattle.std.proofs.lemmas.Bool.{and_from, cases_Bool, cond-true, cond-false}
use Rattle.pb_base.specs.Rule.{Rule, negation, both, never, holds, codes_below}
use Rattle.pb_base.specs.Sets.{has}
use Rattle.book_model.specs.Contents.{Contents}
use Rattle.book_model.specs.Parts.{is_active_position}
use Rattle.book_model.specs.Book.{VariantFits}
use Rattle.std.proofs.lemmas.List.Elements.{recursion_from_All}
use Rattle.book_model.specs.declared.record.Position.{Position}
use Rattle.book_model.specs.declared.record.Variant.{Variant}
use Rattle.clause_pool.specs.Literal.{literal, complement, is_true}
use Rattle.clause_pool.specs.Clause.{Sat}
use Rattle.clause_pool.proofs.LiteralLaws.{is_true-complement}
use Rattle.clausify.specs.Formulas.{connectives, both_clauses}
use Rattle.clausify.specs.Items.{variables_of, usage_item, usage_items}
use Rattle.clausify.specs.Choices.{Choice, choices, choices_from, usage, active_variants}
use Rattle.clausify.specs.Questions.{none_rule, and_none}
use Rattle.clausify.specs.Pairs.{pairs}
use Rattle.clausify.specs.Goals.{usages_from, all_usages, pair_clauses, pairs_asked, none_clauses, none_literal, uncovered_clauses, uncovered_literal, choice_variables, choice_clauses, superfluous_asked, choice_asked, numbered_from, goals_variables, goals_clauses, goals_asked, codes_asked_from}
use Rattle.clausify.specs.Lifting.{GoalsTrue}
use Rattle.clausify.specs.declared.question.Question.TheVariants.{Uncovered}
use Rattle.clausify.specs.declared.usage.Usage.{Usage}
use Rattle.clausify.proofs.ListLaws.{all-append, all_first, all_last, all_pairs}
use Rattle.clausify.proofs.Truth.{true_positive, true_negative, both_from_sat, sat_from_both}
use Rattle.clausify.proofs.FormulaLaws.{named_in, Names, Begins, length-named_in, names-append, names_first, names_last, denotes}
use Rattle.clausify.proofs.ItemLaws.{items_named, length-items_named, items_named-append, AllFit}

-- the literal of a usage is its truth
abbrev pub IsRight : Contents → List Bool → (ℕ → Bool) → Usage → Type 0
IsRight b x a u = is_true a u.literal ≡ holds (usage b u.variant) x

abbrev pub AllRight : Contents → List Bool → (ℕ → Bool) → List Usage → Type 0
AllRight b x a us = AllByRecursion (IsRight b x a) us

rule_of_some : (n m : ℕ) (vs : List Variant) (k : ℕ) → AllByRecursion (VariantFits n m) vs → codes_below n (option_map_or (λ v. v.rule) (slice_get vs k) never) ≡ true
rule_of_some n m [] k h = refl
rule_of_some n m (v ∷ vs) zero h = h.0.rule.in_range
rule_of_some n m (v ∷ vs) (suc k) h = rule_of_some n m vs k h.1

-- the usages speak of codes of the book
pub record UsagesFit (b : Contents) : Type 0 where
  pub below : (variant : ℕ) → codes_below (length b.codes) (usage b variant) ≡ true

pub usages_fit : (b : Contents) → All (VariantFits (length b.codes) (length b.positions)) b.variants → UsagesFit b
usages_fit b h = record {
  below = λ variant. rule_of_some (length b.codes) (length b.positions) b.variants variant (recursion_from_All (VariantFits (length b.codes) (length b.positions)) b.variants h);
}

pub usage_items_fit : (b : Contents) → UsagesFit b → (variants : List ℕ) → AllFit (length b.codes) (map (usage_item b) variants)
usage_items_fit b h [] = tt
usage_items_fit b h (variant ∷ variants) = (and_from _ _ (h.below variant) refl, usage_items_fit b h variants)

pub all_usage_items_fit : (b : Contents) → UsagesFit b → (cs : List Choice) → AllFit (length b.codes) (usage_items b cs)
all_usage_items_fit b h [] = tt
all_usage_items_fit b h (c ∷ cs) = all-append _ (map (usage_item b) c.variants) _ (usage_items_fit b h c.variants) (all_usage_items_fit b h cs)

pub right_from_names : (b : Contents) → UsagesFit b → (x : List Bool) (a : ℕ → Bool) → Begins (length b.codes) (length b.codes) x a → (v : ℕ) (variants : List ℕ) → Names a x v (items_named (map (usage_item b) variants)) → AllRight b x a (usages_from b (length b.codes) v variants)
right_from_names b fit x a begins v [] h = tt
right_from_names b fit x a begins v (variant ∷ variants) h = (
  denotes (length b.codes) x a begins v (usage b variant) (fit.below variant) (names_first a x v (named_in (usage b variant)) (items_named (map (usage_item b) variants)) h),
  right_from_names b fit x a begins (v + connectives (usage b variant)) variants
      (subst (λ (k : ℕ). Names a x (v + k) (items_named (map (usage_item b) variants))) (length-named_in (usage b variant))
      (names_last a x v (named_in (usage b variant)) (items_named (map (usage_item b) variants)) h)),
)

-- pairs
abbrev pub together : Contents → Usage × Usage → Rule
together b p = both (usage b p.0.variant) (usage b p.1.variant)

abbrev pub PairsRight : Contents → List Bool → (ℕ → Bool) → List (Usage × Usage) → Type 0
PairsRight b x a ps = AllByRecursion (λ p. IsRight b x a p.0 × IsRight b x a p.1) ps

pub pairs_right : (b : Contents) (x : List Bool) (a : ℕ → Bool) (us : List Usage) → AllRight b x a us → PairsRight b x a (pairs us)
pairs_right b x a us h = all_pairs (IsRight b x a) us h

pub sat_from_pairs : (b : Contents) (x : List Bool) (a : ℕ → Bool) (v : ℕ) (ps : List (Usage × Usage)) → PairsRight b x a ps → Names a x v (map (together b) ps) → Sat (pair_clauses v ps) a
sat_from_pairs b x a v [] right h = tt
sat_from_pairs b x a v (p ∷ ps) right h =
    all-append _ (both_clauses v p.0.literal p.1.literal) _
    (sat_from_both a v p.0.literal p.1.literal (holds (usage b p.0.variant) x) (holds (usage b p.1.variant) x) right.0.0 right.0.1 h.0)
    (sat_from_pairs b x a (v + 1) ps right.1 h.1)

pub names_from_pairs : (b : Contents) (x : List Bool) (a : ℕ → Bool) (v : ℕ) (ps : List (Usage × Usage)) → PairsRight b x a ps → Sat (pair_clauses v ps) a → Names a x v (map (together b) ps)
names_from_pairs b x a v [] right h = tt
names_from_pairs b x a v (p ∷ ps) right h = (
  both_from_sat a v p.0.literal p.1.literal (holds (usage b p.0.variant) x) (holds (usage b p.1.variant) x) right.0.0 right.0.1 (all_first _ (both_clauses v p.0.literal p.1.literal) _ h),
  names_from_pairs b x a (v + 1) ps right.1 (all_last _ (both_clauses v p.0.literal p.1.literal) _ h),
)

pub pairs_goals : (b : Contents) (day : ℕ) (x : List Bool) (a : ℕ → Bool) (position v : ℕ) (ps : List (Usage × Usage)) → Names a x v (map (together b) ps) → GoalsTrue b day x a (pairs_asked position v ps)
pairs_goals b day x a position v [] h = tt
pairs_goals b day x a position v (p ∷ ps) h = (true_positive a v ∙ h.0, pairs_goals b day x a position (v + 1) ps h.1)

-- none of a position's variants
abbrev pub none_named : Contents → Rule → List Usage → List Rule
none_named b f [] = []
none_named b f (u ∷ us) = both f (negation (usage b u.variant)) ∷ none_named b (both f (negation (usage b u.variant))) us

abbrev pub uncovered_named : Contents → List Usage → List Rule
uncovered_named b [] = []
uncovered_named b (u ∷ us) = none_named b (negation (usage b u.variant)) us

complement_right : (b : Contents) (x : List Bool) (a : ℕ → Bool) (u : Usage) → IsRight b x a u → is_true a (complement u.literal) ≡ holds (negation (usage b u.variant)) x
complement_right b x a u h = is_true-complement a u.literal ∙ ap not h

sat_from_none : (b : Contents) (x : List Bool) (a : ℕ → Bool) (v l : ℕ) (f : Rule) (us : List Usage) → AllRight b x a us → is_true a l ≡ holds f x → Names a x v (none_named b f us) → Sat (none_clauses v l us) a
sat_from_none b x a v l f [] right is h = tt
sat_from_none b x a v l f (u ∷ us) right is h =
    all-append _ (both_clauses v l (complement u.literal)) _
    (sat_from_both a v l (complement u.literal) (holds f x) (not (holds (usage b u.variant) x)) is (complement_right b x a u right.0) h.0)
    (sat_from_none b x a (v + 1) (literal v true) (both f (negation (usage b u.variant))) us right.1 (true_positive a v ∙ h.0) h.1)

names_from_none : (b : Contents) (x : List Bool) (a : ℕ → Bool) (v l : ℕ) (f : Rule) (us : List Usage) → AllRight b x a us → is_true a l ≡ holds f x → Sat (none_clauses v l us) a → Names a x v (none_named b f us)
names_from_none b x a v l f [] right is h = tt
names_from_none b x a v l f (u ∷ us) right is h =
    let named = both_from_sat a v l (complement u.literal) (holds f x) (not (holds (usage b u.variant) x)) is (complement_right b x a u right.0) (all_first _ (both_clauses v l (complement u.literal)) _ h) in (
      named,
      names_from_none b x a (v + 1) (literal v true) (both f (negation (usage b u.variant))) us right.1 (true_positive a v ∙ named) (all_last _ (both_clauses v l (complement u.literal)) _ h),
    )

none_right : (b : Contents) (x : List Bool) (a : ℕ → Bool) (v l : ℕ) (f : Rule) (us : List Usage) → is_true a l ≡ holds f x → Names a x v (none_named b f us) → is_true a (none_literal v l us) ≡ holds (and_none f (map (λ u. usage b u.variant) us)) x
none_right b x a v l f [] is h = is
none_right b x a v l f (u ∷ us) is h = none_right b x a (v + 1) (literal v true) (both f (negation (usage b u.variant))) us (true_positive a v ∙ h.0) h.1

sat_from_uncovered : (b : Contents) (x : List Bool) (a : ℕ → Bool) (v : ℕ) (us : List Usage) → AllRight b x a us → Names a x v (uncovered_named b us) → Sat (uncovered_clauses v us) a
sat_from_uncovered b x a v [] right h = tt
sat_from_uncovered b x a v (u ∷ us) right h = sat_from_none b x a v (complement u.literal) (negation (usage b u.variant)) us right.1 (complement_right b x a u right.0) h

names_from_uncovered : (b : Contents) (x : List Bool) (a : ℕ → Bool) (v : ℕ) (us : List Usage) → AllRight b x a us → Sat (uncovered_clauses v us) a → Names a x v (uncovered_named b us)
names_from_uncovered b x a v [] right h = tt
names_from_uncovered b x a v (u ∷ us) right h = names_from_none b x a v (complement u.literal) (negation (usage b u.variant)) us right.1 (complement_right b x a u right.0) h

uncovered_right : (b : Contents) (x : List Bool) (a : ℕ → Bool) → Begins (length b.codes) (length b.codes) x a → (v : ℕ) (us : List Usage) → AllRight b x a us → Names a x v (uncovered_named b us) → is_true a (uncovered_literal (length b.codes) v us) ≡ holds (none_rule (map (λ u. usage b u.variant) us)) x
uncovered_right b x a begins v [] right h = true_positive a (length b.codes) ∙ begins.truth
uncovered_right b x a begins v (u ∷ us) right h = none_right b x a v (complement u.literal) (negation (usage b u.variant)) us (complement_right b x a u right.0) h

-- one choice
abbrev pub choice_named : Contents → Bool → List Usage → List Rule
choice_named b mandatory us = map (together b) (pairs us) ++ (if mandatory then uncovered_named b us else [])

length-none_named : (b : Contents) (f : Rule) (us : List Usage) → length (none_named b f us) ≡ length us
length-none_named b f [] = refl
length-none_named b f (u ∷ us) = ap suc (length-none_named b (both f (negation (usage b u.variant))) us)

length-uncovered_named : (b : Contents) (us : List Usage) → length (uncovered_named b us) ≡ length us - 1
length-uncovered_named b [] = omega arith
length-uncovered_named b (u ∷ us) = omega (arith, length-none_named b (negation (usage b u.variant)) us)

length-choice_named : (b : Contents) (mandatory : Bool) (us : List Usage) → length (choice_named b mandatory us) ≡ length (pairs us) + (if mandatory then length us - 1 else 0)
length-choice_named b true us = omega (arith, length-append (map (together b) (pairs us)) (uncovered_named b us), length-map (pairs us) (together b), length-uncovered_named b us)
length-choice_named b false us = omega (arith, length-append (map (together b) (pairs us)) [], length-map (pairs us) (together b))

pair_names : (b : Contents) (x : List Bool) (a : ℕ → Bool) (v : ℕ) (fs : List Rule) (us : List Usage) → Names a x v (map (together b) (pairs us) ++ fs) → Names a x (v + length (pairs us)) fs
pair_names b x a v fs us h =
    subst (λ (k : ℕ). Names a x (v + k) fs) (length-map (pairs us) (together b)) (names_last a x v (map (together b) (pairs us)) fs h)

sat_from_choice : (b : Contents) (x : List Bool) (a : ℕ → Bool) (v : ℕ) (mandatory : Bool) (us : List Usage) → AllRight b x a us → Names a x v (choice_named b mandatory us) → Sat (pair_clauses v (pairs us) ++ (if mandatory then uncovered_clauses (v + length (pairs us)) us else [])) a
sat_from_choice b x a v true us right h =
    all-append _ (pair_clauses v (pairs us)) _
    (sat_from_pairs b x a v (pairs us) (pairs_right b x a us right) (names_first a x v (map (together b) (pairs us)) (uncovered_named b us) h))
    (sat_from_uncovered b x a (v + length (pairs us)) us right (pair_names b x a v (uncovered_named b us) us h))
sat_from_choice b x a v false us right h =
    all-append _ (pair_clauses v (pairs us)) _
    (sat_from_pairs b x a v (pairs us) (pairs_right b x a us right) (names_first a x v (map (together b) (pairs us)) [] h)) tt

names_from_choice : (b : Contents) (x : List Bool) (a : ℕ → Bool) (v : ℕ) (mandatory : Bool) (us : List Usage) → AllRight b x a us → Sat (pair_clauses v (pairs us) ++ (if mandatory then uncovered_clauses (v + length (pairs us)) us else [])) a → Names a x v (choice_named b mandatory us)
names_from_choice b x a v true us right h =
    names-append a x v (map (together b) (pairs us)) (uncovered_named b us)
    (names_from_pairs b x a v (pairs us) (pairs_right b x a us right) (all_first _ (pair_clauses v (pairs us)) _ h))
    (subst (λ (k : ℕ). Names a x (v + k) (uncovered_named b us)) (sym (length-map (pairs us) (together b)))
    (names_from_uncovered b x a (v + length (pairs us)) us right (all_last _ (pair_clauses v (pairs us)) _ h)))
names_from_choice b x a v false us right h =
    names-append a x v (map (together b) (pairs us)) []
    (names_from_pairs b x a v (pairs us) (pairs_right b x a us right) (all_first _ (pair_clauses v (pairs us)) _ h)) tt

superfluous_goals : (b : Contents) (day : ℕ) (x : List Bool) (a : ℕ → Bool) (us : List Usage) → AllRight b x a us → GoalsTrue b day x a (map superfluous_asked us)
superfluous_goals b day x a [] h = tt
superfluous_goals b day x a (u ∷ us) h = (h.0, superfluous_goals b day x a us h.1)

variants_of_usages : (b : Contents) (n v : ℕ) (variants : List ℕ) → map (λ (u : Usage). usage b u.variant) (usages_from b n v variants) ≡ map (usage b) variants
variants_of_usages b n v [] = refl
variants_of_usages b n v (variant ∷ variants) = ap (λ (fs : List Rule). usage b variant ∷ fs) (variants_of_usages b n (v + connectives (usage b variant)) variants)

uncovered_goal : (b : Contents) (day : ℕ) (x : List Bool) (a : ℕ → Bool) → Begins (length b.codes) (length b.codes) x a → (w position : ℕ) (mandatory : Bool) (us : List Usage) → map (λ (u : Usage). usage b u.variant) us ≡ map (usage b) (active_variants b day position) → AllRight b x a us
    → Names a x w (if mandatory then uncovered_named b us else [])
    → GoalsTrue b day x a (if mandatory then record { question = Uncovered position; goal = uncovered_literal (length b.codes) w us } ∷ [] else [])
uncovered_goal b day x a begins w position true us are right h =
    (uncovered_right b x a begins w us right h ∙ ap (λ (fs : List Rule). holds (none_rule fs) x) are, tt)
uncovered_goal b day x a begins w position false us are right h = tt

pub choice_goals : (b : Contents) (day : ℕ) (x : List Bool) (a : ℕ → Bool) → Begins (length b.codes) (length b.codes) x a → (w : ℕ) (c : Choice) (us : List Usage) → map (λ (u : Usage). usage b u.variant) us ≡ map (usage b) (active_variants b day c.position) → AllRight b x a us
    → Names a x w (choice_named b c.mandatory us) → GoalsTrue b day x a (choice_asked (length b.codes) w c.position c.mandatory us)
choice_goals b day x a begins w c us are right h =
    all-append _ (map superfluous_asked us ++ pairs_asked c.position w (pairs us)) _
    (all-append _ (map superfluous_asked us) _ (superfluous_goals b day x a us right)
    (pairs_goals b day x a c.position w (pairs us) (names_first a x w (map (together b) (pairs us)) _ h)))
    (uncovered_goal b day x a begins (w + length (pairs us)) c.position c.mandatory us are right
    (pair_names b x a w (if c.mandatory then uncovered_named b us else []) us h))

-- all choices, where v is the first variable of their usages and w the first of their goals
abbrev pub choices_named : Contents → ℕ → ℕ → List Choice → List Rule
choices_named b n v [] = []
choices_named b n v (c ∷ cs) =
    choice_named b c.mandatory (usages_from b n v c.variants) ++ choices_named b n (v + variables_of (map (usage_item b) c.variants)) cs

pub length-choices_named : (b : Contents) (n v w : ℕ) (cs : List Choice) → length (choices_named b n v cs) ≡ goals_variables (numbered_from b n v w cs)
length-choices_named b n v w [] = refl
length-choices_named b n v w (c ∷ cs) =
    let more : ℕ = variables_of (map (usage_item b) c.variants) in
    length-append (choice_named b c.mandatory (usages_from b n v c.variants)) (choices_named b n (v + more) cs)
    ∙ ap (λ (k : ℕ). k + length (choices_named b n (v + more) cs)) (length-choice_named b c.mandatory (usages_from b n v c.variants))
    ∙ ap (λ (k : ℕ). choice_variables c.mandatory (usages_from b n v c.variants) + k) (length-choices_named b n (v + more) (w + choice_variables c.mandatory (usages_from b n v c.variants)) cs)

-- the names of the usages, and of the goals, of the first choice and of the later ones
later_usages : (b : Contents) (x : List Bool) (a : ℕ → Bool) (v : ℕ) (c : Choice) (cs : List Choice) → Names a x v (items_named (usage_items b (c ∷ cs)))
    → Names a x v (items_named (map (usage_item b) c.variants)) × Names a x (v + variables_of (map (usage_item b) c.variants)) (items_named (usage_items b cs))
later_usages b x a v c cs h =
    let all = subst (λ (fs : List Rule). Names a x v fs) (items_named-append (map (usage_item b) c.variants) (usage_items b cs)) h in (
      names_first a x v (items_named (map (usage_item b) c.variants)) (items_named (usage_items b cs)) all,
      subst (λ (k : ℕ). Names a x (v + k) (items_named (usage_items b cs))) (length-items_named (map (usage_item b) c.variants))
          (names_last a x v (items_named (map (usage_item b) c.variants)) (items_named (usage_items b cs)) all),
    )

-- the literals of the usages of all choices are the truth of theirs
pub right_from_choices : (b : Contents) → UsagesFit b → (x : List Bool) (a : ℕ → Bool) → Begins (length b.codes) (length b.codes) x a → (v : ℕ) (cs : List Choice) → Names a x v (items_named (usage_items b cs)) → AllRight b x a (all_usages b (length b.codes) v cs)
right_from_choices b fit x a begins v [] us = tt
right_from_choices b fit x a begins v (c ∷ cs) us =
    let usages = later_usages b x a v c cs us in
    all-append _ (usages_from b (length b.codes) v c.variants) _ (right_from_names b fit x a begins v c.variants usages.0)
    (right_from_choices b fit x a begins (v + variables_of (map (usage_item b) c.variants)) cs usages.1)

later_goals : (b : Contents) (x : List Bool) (a : ℕ → Bool) (n v w : ℕ) (c : Choice) (cs : List Choice) → Names a x w (choices_named b n v (c ∷ cs))
    → Names a x (w + choice_variables c.mandatory (usages_from b n v c.variants)) (choices_named b n (v + variables_of (map (usage_item b) c.variants)) cs)
later_goals b x a n v w c cs h =
    subst (λ (k : ℕ). Names a x (w + k) (choices_named b n (v + variables_of (map (usage_item b) c.variants)) cs)) (length-choice_named b c.mandatory (usages_from b n v c.variants))
    (names_last a x w (choice_named b c.mandatory (usages_from b n v c.variants)) _ h)

pub sat_from_choices : (b : Contents) → UsagesFit b → (x : List Bool) (a : ℕ → Bool) → Begins (length b.codes) (length b.codes) x a → (v w : ℕ) (cs : List Choice) → Names a x v (items_named (usage_items b cs)) → Names a x w (choices_named b (length b.codes) v cs) → Sat (goals_clauses (numbered_from b (length b.codes) v w cs)) a
sat_from_choices b fit x a begins v w [] us h = tt
sat_from_choices b fit x a begins v w (c ∷ cs) us h =
    let usages = later_usages b x a v c cs us in
    let right = right_from_names b fit x a begins v c.variants usages.0 in
    all-append _ (choice_clauses w c.mandatory (usages_from b (length b.codes) v c.variants)) _
    (sat_from_choice b x a w c.mandatory (usages_from b (length b.codes) v c.variants) right (names_first a x w (choice_named b c.mandatory (usages_from b (length b.codes) v c.variants)) _ h))
    (sat_from_choices b fit x a begins (v + variables_of (map (usage_item b) c.variants)) (w + choice_variables c.mandatory (usages_from b (length b.codes) v c.variants)) cs usages.1
    (later_goals b x a (length b.codes) v w c cs h))

pub names_from_choices : (b : Contents) → UsagesFit b → (x : List Bool) (a : ℕ → Bool) → Begins (length b.codes) (length b.codes) x a → (v w : ℕ) (cs : List Choice) → Names a x v (items_named (usage_items b cs)) → Sat (goals_clauses (numbered_from b (length b.codes) v w cs)) a → Names a x w (choices_named b (length b.codes) v cs)
names_from_choices b fit x a begins v w [] us h = tt
names_from_choices b fit x a begins v w (c ∷ cs) us h =
    let usages = later_usages b x a v c cs us in
    let right = right_from_names b fit x a begins v c.variants usages.0 in
    names-append a x w (choice_named b c.mandatory (usages_from b (length b.codes) v c.variants)) _
    (names_from_choice b x a w c.mandatory (usages_from b (length b.codes) v c.variants) right (all_first _ (choice_clauses w c.mandatory (usages_from b (length b.codes) v c.variants)) _ h))
    (subst (λ (k : ℕ). Names a x (w + k) (choices_named b (length b.codes) (v + variables_of (map (usage_item b) c.variants)) cs)) (sym (length-choice_named b c.mandatory (usages_from b (length b.codes) v c.variants)))
    (names_from_choices b fit x a begins (v + variables_of (map (usage_item b) c.variants)) (w + choice_variables c.mandatory (usages_from b (length b.codes) v c.variants)) cs usages.1
    (all_last _ (choice_clauses w c.mandatory (usages_from b (length b.codes) v c.variants)) _ h)))

-- the variants of each choice are the active ones of its position
abbrev pub AreActive : Contents → ℕ → List Choice → Type 0
AreActive b day cs = AllByRecursion (λ c. c.variants ≡ active_variants b day c.position) cs

choices_from_active : (i : ℕ) (b : Contents) (day : ℕ) (ps : List Position) → AreActive b day (choices_from i b day ps)
choices_from_active i b day [] = tt
choices_from_active i b day (p ∷ ps) =
    elim (cases_Bool (is_active_position day p)) [
      | inl e ↦ subst (AreActive b day) (sym (cond-true (is_active_position day p) _ (choices_from (suc i) b day ps) e)) (refl, choices_from_active (suc i) b day ps)
      | inr e ↦ subst (AreActive b day) (sym (cond-false (is_active_position day p) _ (choices_from (suc i) b day ps) e)) (choices_from_active (suc i) b day ps)
    ]

pub choices_active : (b : Contents) (day : ℕ) → AreActive b day (choices b day)
choices_active b day = choices_from_active 0 b day b.positions

pub choices_goals : (b : Contents) (day : ℕ) → UsagesFit b → (x : List Bool) (a : ℕ → Bool) → Begins (length b.codes) (length b.codes) x a → (v w : ℕ) (cs : List Choice) → AreActive b day cs → Names a x v (items_named (usage_items b cs)) → Names a x w (choices_named b (length b.codes) v cs) → GoalsTrue b day x a (goals_asked (length b.codes) (numbered_from b (length b.codes) v w cs))
choices_goals b day fit x a begins v w [] active us h = tt
choices_goals b day fit x a begins v w (c ∷ cs) active us h =
    let usages = later_usages b x a v c cs us in
    let right = right_from_names b fit x a begins v c.variants usages.0 in
    all-append _ (choice_asked (length b.codes) w c.position c.mandatory (usages_from b (length b.codes) v c.variants)) _
    (choice_goals b day x a begins w c (usages_from b (length b.codes) v c.variants)
    (variants_of_usages b (length b.codes) v c.variants ∙ ap (map (usage b)) active.0) right
    (names_first a x w (choice_named b c.mandatory (usages_from b (length b.codes) v c.variants)) _ h))
    (choices_goals b day fit x a begins (v + variables_of (map (usage_item b) c.variants)) (w + choice_variables c.mandatory (usages_from b (length b.codes) v c.variants)) cs active.1 usages.1
    (later_goals b x a (length b.codes) v w c cs h))

-- the codes from place i on, of which the last ends the book's
pub codes_goals : (b : Contents) (day : ℕ) (x : List Bool) (a : ℕ → Bool) → Begins (length b.codes) (length b.codes) x a → (i : ℕ) (names : List (List ℕ)) → i + length names ≡ length b.codes → GoalsTrue b day x a (codes_asked_from i names)
codes_goals b day x a begins i [] h = tt
codes_goals b day x a begins i (name ∷ names) h =
    let is : a i ≡ has x i = begins.codes i (omega arith) in
    (true_negative a i ∙ ap not is, (true_positive a i ∙ is, codes_goals b day x a begins (suc i) names (omega arith)))
