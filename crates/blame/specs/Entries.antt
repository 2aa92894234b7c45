-- What a set of codes may be asked to meet.
--     all_entries b day chosen   what a car of the day with these codes meets: the active rules, in record order, and the codes
--     meets_entry b day x e      the supplementing rule doesn't fire over x; x doesn't break the constructibility rule; x has the code
--     meets_all b day x m        the same of each entry of m
--     EntryFits b day e          the record or code is in the book, and the record is active on the day
--     Among xs ys                ys are some of xs, in their sequence
use Rattle.std.specs.Prelude.{◌≡◌, ◌⊎◌, ℕ, suc, ◌<◌, Bool, true, false, not, List, [], ◌∷◌, ◌++◌, length, map, slice_get, if◌then◌else◌}
use Rattle.std.specs.Option.{option_map_or}
use Rattle.std.specs.List.{list_all}
use Rattle.pb_base.specs.Sets.{has}
use Rattle.book_model.specs.Activity.{is_within}
use Rattle.book_model.specs.Contents.{Contents}
use Rattle.book_model.specs.Good.{fires, breaks}
use Rattle.book_model.specs.declared.record.Supplement.{Supplement as SupplementRecord}
use Rattle.book_model.specs.declared.record.Construct.{Construct as ConstructRecord}
use Rattle.blame.specs.declared.entries.Entry.{Entry}
use Rattle.blame.specs.declared.entries.Entry.TheVariants.{Supplement, Construct, Chosen}

-- the records of a list that are active, of which the first has the place i
abbrev pub active_from : {X : Type 0} → (X → Bool) → (ℕ → Entry) → ℕ → List X → List Entry
active_from is_active named i [] = []
active_from is_active named i (x ∷ xs) =
    if is_active x then named i ∷ active_from is_active named (suc i) xs else active_from is_active named (suc i) xs

abbrev pub is_active_supplement : ℕ → SupplementRecord → Bool
is_active_supplement day s = is_within s.from s.until day

abbrev pub is_active_construct : ℕ → ConstructRecord → Bool
is_active_construct day c = is_within c.from c.until day

abbrev pub supplement_entries : Contents → ℕ → List Entry
supplement_entries b day = active_from (is_active_supplement day) (λ p. Supplement p) 0 b.supplements

abbrev pub construct_entries : Contents → ℕ → List Entry
construct_entries b day = active_from (is_active_construct day) (λ p. Construct p) 0 b.constructs

abbrev pub all_entries : Contents → ℕ → List ℕ → List Entry
all_entries b day chosen = supplement_entries b day ++ construct_entries b day ++ map (λ c. Chosen c) chosen

abbrev pub meets_entry : Contents → ℕ → List Bool → Entry → Bool
meets_entry b day x (Supplement p) = not (option_map_or (fires day x) (slice_get b.supplements p) false)
meets_entry b day x (Construct p) = not (option_map_or (breaks day x) (slice_get b.constructs p) false)
meets_entry b day x (Chosen c) = has x c

abbrev pub meets_all : Contents → ℕ → List Bool → List Entry → Bool
meets_all b day x m = list_all (meets_entry b day x) m

abbrev pub IsThere : Contents → Entry → Type 0
IsThere b (Supplement p) = p < length b.supplements
IsThere b (Construct p) = p < length b.constructs
IsThere b (Chosen c) = c < length b.codes

abbrev pub is_active : Contents → ℕ → Entry → Bool
is_active b day (Supplement p) = option_map_or (is_active_supplement day) (slice_get b.supplements p) false
is_active b day (Construct p) = option_map_or (is_active_construct day) (slice_get b.constructs p) false
is_active b day (Chosen c) = true

pub record EntryFits (b : Contents) (day : ℕ) (e : Entry) : Type 0 where
  pub there : IsThere b e
  pub active : is_active b day e ≡ true

-- each element stands next, or is left out
abbrev pub Among : {X : Type 0} → List X → List X → Type 0
Among [] ys = ys ≡ []
Among {X} (x ∷ xs) ys = Among xs ys ⊎ ((zs : List X) × (ys ≡ x ∷ zs) × Among xs zs)
