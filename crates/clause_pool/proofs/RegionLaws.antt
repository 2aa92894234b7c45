-- What holds of lists that lie one after another.
use Rattle.std.proofs.Common.{◌≡◌, ℕ, zero, suc, ◌+◌, ◌-◌, ◌<◌, ◌≤◌, List, [], ◌∷◌, ◌++◌, length, get_or, take, drop, refl, sym, ap, subst, ◌∙◌, arith, length-append, add-one}
use Rattle.std.specs.List.{slice_range}
use Rattle.std.proofs.lemmas.List.{take-append-le, drop-append-le, drop_at, take_all, length-drop, take-take, drop-take, length-take-le, get_or_read}
use Rattle.clause_pool.specs.Region.{first_or, region, IsRegion}

first_or-append : (ss : List ℕ) (n m : ℕ) → first_or (ss ++ n ∷ []) m ≡ first_or ss n
first_or-append [] n m = refl
first_or-append (s ∷ ss) n m = refl

-- every start is within the items
first_or-within : (ss : List ℕ) (n : ℕ) → IsRegion ss n → first_or ss n ≤ n
first_or-within [] n h = omega arith
first_or-within (s ∷ ss) n h = let rest = first_or-within ss n h.1 in omega (arith, h.0)

pub IsRegion_append : (starts : List ℕ) (n m : ℕ) → IsRegion starts n → n ≤ m → IsRegion (starts ++ n ∷ []) m
IsRegion_append [] n m h k = (k, tt)
IsRegion_append (s ∷ ss) n m h k = (subst (λ (e : ℕ). s ≤ e) (sym (first_or-append ss n m)) h.0, IsRegion_append ss n m h.1 k)

pub start_within : (starts : List ℕ) (n at : ℕ) → IsRegion starts n → at < length starts → get_or starts at 0 ≤ n
start_within [] n at h k = absurd (omega arith)
start_within (s ∷ ss) n zero h k = let next = first_or-within ss n h.1 in omega (arith, h.0)
start_within (s ∷ ss) n (suc at) h k = start_within ss n at h.1 (omega arith)

start_below_suc : (starts : List ℕ) (n at : ℕ) → IsRegion starts n → suc at < length starts → get_or starts at 0 ≤ get_or starts (suc at) 0
start_below_suc [] n at h k = absurd (omega arith)
start_below_suc (s ∷ []) n at h k = absurd (omega arith)
start_below_suc (s ∷ t ∷ ss) n zero h k = h.0
start_below_suc (s ∷ t ∷ ss) n (suc at) h k = start_below_suc (t ∷ ss) n at h.1 (omega arith)

pub start_below : (starts : List ℕ) (n at : ℕ) → IsRegion starts n → at + 1 < length starts → get_or starts at 0 ≤ get_or starts (at + 1) 0
start_below starts n at h k = rw add-one (start_below_suc starts n at h (omega arith))

module _ {X : Type 0} where
  pub length_region : (starts : List ℕ) (items : List X) → length (region starts items) ≡ length starts
  length_region [] items = refl
  length_region (s ∷ ss) items = ap suc (length_region ss items)

  -- what lies before the end does not see what comes after it
  range-append : (items more : List X) (s e : ℕ) → s ≤ e → e ≤ length items → slice_range (items ++ more) s e ≡ slice_range items s e
  range-append items more s e below within =
      ap (take (e - s)) (drop-append-le s items more (omega arith))
      ∙ take-append-le (e - s) (drop s items) more (omega (arith, length-drop s items))

  range-end : (items more : List X) → slice_range (items ++ more) (length items) (length (items ++ more)) ≡ more
  range-end items more =
      ap (take (length (items ++ more) - length items)) (drop_at items more (length items) refl)
      ∙ take_all _ more (omega (arith, length-append items more))

  -- a further list at the end
  pub region_append : (starts : List ℕ) (items more : List X) → IsRegion starts (length items) → region (starts ++ length items ∷ []) (items ++ more) ≡ region starts items ++ more ∷ []
  region_append [] items more h = ap (λ (c : List X). c ∷ []) (range-end items more)
  region_append (s ∷ ss) items more h =
      let end : first_or (ss ++ length items ∷ []) (length (items ++ more)) ≡ first_or ss (length items) = first_or-append ss (length items) (length (items ++ more)) in
      let same : slice_range (items ++ more) s (first_or (ss ++ length items ∷ []) (length (items ++ more))) ≡ slice_range items s (first_or ss (length items)) =
      ap (slice_range (items ++ more) s) end
      ∙ range-append items more s (first_or ss (length items)) h.0 (first_or-within ss (length items) h.1) in
      ap (λ (c : List X). c ∷ region (ss ++ length items ∷ []) (items ++ more)) same
      ∙ ap (λ (cs : List (List X)). slice_range items s (first_or ss (length items)) ∷ cs) (region_append ss items more h.1)

  region_get_suc : (starts : List ℕ) (items d : List X) (at : ℕ) → suc at < length starts → get_or (region starts items) at d ≡ slice_range items (get_or starts at 0) (get_or starts (suc at) 0)
  region_get_suc [] items d at h = absurd (omega arith)
  region_get_suc (s ∷ []) items d at h = absurd (omega arith)
  region_get_suc (s ∷ t ∷ ss) items d zero h = refl
  region_get_suc (s ∷ t ∷ ss) items d (suc at) h = region_get_suc (t ∷ ss) items d at (omega arith)

  -- a list but the last ends where the next starts
  pub region_get : (starts : List ℕ) (items d : List X) (at : ℕ) → at + 1 < length starts → slice_range items (get_or starts at 0) (get_or starts (at + 1) 0) ≡ get_or (region starts items) at d
  region_get starts items d at h = rw add-one (sym (region_get_suc starts items d at (omega arith)))

  region_last_suc : (starts : List ℕ) (items d : List X) (at : ℕ) → suc at ≡ length starts → get_or (region starts items) at d ≡ slice_range items (get_or starts at 0) (length items)
  region_last_suc [] items d at h = absurd (omega arith)
  region_last_suc (s ∷ []) items d zero h = refl
  region_last_suc (s ∷ []) items d (suc at) h = absurd (omega arith)
  region_last_suc (s ∷ t ∷ ss) items d zero h = absurd (omega arith)
  region_last_suc (s ∷ t ∷ ss) items d (suc at) h = region_last_suc (t ∷ ss) items d at (omega arith)

  -- the last list ends with the items
  pub region_last : (starts : List ℕ) (items d : List X) (at : ℕ) → at < length starts → length starts ≤ at + 1 → slice_range items (get_or starts at 0) (length items) ≡ get_or (region starts items) at d
  region_last starts items d at h k = sym (region_last_suc starts items d at (omega arith))

  -- the same of lists that are known by equations
  pub region_appended : (starts more_starts : List ℕ) (items more_items list : List X) (n : ℕ) → IsRegion starts (length items) → n ≡ length items → more_starts ≡ starts ++ n ∷ [] → more_items ≡ items ++ list → region more_starts more_items ≡ region starts items ++ list ∷ []
  region_appended starts more_starts items more_items list n h len es ei =
      let e : more_starts ≡ starts ++ length items ∷ [] = es ∙ ap (λ (k : ℕ). starts ++ k ∷ []) len in
      ap (λ (ss : List ℕ). region ss more_items) e ∙ ap (region (starts ++ length items ∷ [])) ei ∙ region_append starts items list h

  pub IsRegion_appended : (starts more_starts : List ℕ) (items more_items list : List X) (n : ℕ) → IsRegion starts (length items) → n ≡ length items → more_starts ≡ starts ++ n ∷ [] → more_items ≡ items ++ list → IsRegion more_starts (length more_items)
  IsRegion_appended starts more_starts items more_items list n h len es ei =
      subst (λ (ss : List ℕ). IsRegion ss (length more_items)) (sym (es ∙ ap (λ (k : ℕ). starts ++ k ∷ []) len))
      (IsRegion_append starts (length items) (length more_items) h (omega (arith, ap length ei, length-append items list)))

-- the first start is not past a later one
first_below : (ss : List ℕ) (n m : ℕ) → IsRegion ss n → m < length ss → first_or ss n ≤ get_or ss m 0
first_below [] n m h k = absurd (omega arith)
first_below (s ∷ ss) n zero h k = omega arith
first_below (s ∷ []) n (suc m) h k = absurd (omega arith)
first_below (s ∷ t ∷ ss) n (suc m) h k = let rest = first_below (t ∷ ss) n m h.1 (omega arith) in omega (arith, h.0)

-- where the list before a cut ends
first_or_take : (ss : List ℕ) (n m : ℕ) → m < length ss → first_or (take m ss) (get_or ss m 0) ≡ first_or ss n
first_or_take [] n m k = absurd (omega arith)
first_or_take (s ∷ ss) n zero k = refl
first_or_take (s ∷ ss) n (suc m) k = refl

pub IsRegion_take : (starts : List ℕ) (n m : ℕ) → IsRegion starts n → m < length starts → IsRegion (take m starts) (get_or starts m 0)
IsRegion_take [] n m h k = absurd (omega arith)
IsRegion_take (s ∷ ss) n zero h k = tt
IsRegion_take (s ∷ ss) n (suc m) h k =
    (subst (λ (e : ℕ). s ≤ e) (sym (first_or_take ss n m (omega arith))) h.0, IsRegion_take ss n m h.1 (omega arith))

module _ {X : Type 0} where
  -- what lies before a cut does not see it
  range_take : (items : List X) (s e cut : ℕ) → s ≤ e → e ≤ cut → slice_range (take cut items) s e ≡ slice_range items s e
  range_take items s e cut below within =
      let split : cut ≡ s + (cut - s) = omega arith in
      ap (λ (n : ℕ). take (e - s) (drop s (take n items))) split
      ∙ ap (take (e - s)) (drop-take s (cut - s) items)
      ∙ take-take (e - s) (cut - s) (drop s items) (omega arith)

  -- the first lists alone, of the items before the next start
  pub region_take : (starts : List ℕ) (items : List X) (m : ℕ) → IsRegion starts (length items) → m < length starts → region (take m starts) (take (get_or starts m 0) items) ≡ take m (region starts items)
  region_take [] items m h k = absurd (omega arith)
  region_take (s ∷ ss) items zero h k = refl
  region_take (s ∷ ss) items (suc m) h k =
      let cut : ℕ = get_or ss m 0 in
      let len : length (take cut items) ≡ cut = length-take-le cut items (start_within ss (length items) m h.1 (omega arith)) in
      let end : first_or (take m ss) (length (take cut items)) ≡ first_or ss (length items) =
      ap (first_or (take m ss)) len ∙ first_or_take ss (length items) m (omega arith) in
      let same : slice_range (take cut items) s (first_or (take m ss) (length (take cut items))) ≡ slice_range items s (first_or ss (length items)) =
      ap (slice_range (take cut items) s) end
      ∙ range_take items s (first_or ss (length items)) cut h.0 (first_below ss (length items) m h.1 (omega arith)) in
      ap (λ (c : List X). c ∷ region (take m ss) (take cut items)) same
      ∙ ap (λ (cs : List (List X)). slice_range items s (first_or ss (length items)) ∷ cs) (region_take ss items m h.1 (omega arith))

  -- the same of lists that are known by equations
  pub region_cut : (starts fewer : List ℕ) (items rest : List X) (m start : ℕ) → IsRegion starts (length items) → m < length starts → start ≡ get_or starts m start → fewer ≡ take m starts → rest ≡ take start items → region fewer rest ≡ take m (region starts items)
  region_cut starts fewer items rest m start h k read ef er =
      let at : start ≡ get_or starts m 0 = get_or_read starts m start k read 0 in
      ap (λ (ss : List ℕ). region ss rest) ef ∙ ap (region (take m starts)) (er ∙ ap (λ (n : ℕ). take n items) at) ∙ region_take starts items m h k

  pub IsRegion_cut : (starts fewer : List ℕ) (items rest : List X) (m start : ℕ) → IsRegion starts (length items) → m < length starts → start ≡ get_or starts m start → fewer ≡ take m starts → rest ≡ take start items → IsRegion fewer (length rest)
  IsRegion_cut starts fewer items rest m start h k read ef er =
      let at : start ≡ get_or starts m 0 = get_or_read starts m start k read 0 in
      let len : length rest ≡ get_or starts m 0 =
      ap length (er ∙ ap (λ (n : ℕ). take n items) at) ∙ length-take-le (get_or starts m 0) items (start_within starts (length items) m h k) in
      subst (λ (ss : List ℕ). IsRegion ss (length rest)) (sym ef)
      (subst (λ (n : ℕ). IsRegion (take m starts) n) (sym len) (IsRegion_take starts (length items) m h k))
