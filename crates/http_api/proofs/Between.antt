-- What stands between two texts.
use Rattle.std.proofs.Common.{◌≡◌, ◌≢◌, ℕ, List, ◌++◌, Option, Some, None, IfSome, MatchOption, option_map, Bor, sym, ◌∙◌, ap}
use Rattle.std.proofs.lemmas.List.{append_cancel_left, append_cancel_right}

pub found_between : (path front rest back : List ℕ) (r : Option (Bor (List ℕ))) → path ≡ front ++ rest
    → MatchOption r ((first : List ℕ) → rest ≢ first ++ back) (λ x. rest ≡ x.now ++ back)
    → IfSome r (λ item. path ≡ front ++ (item.now ++ back))
found_between path front rest back None is cut = tt
found_between path front rest back (Some item) is cut = is ∙ ap (λ l. front ++ l) cut

pub only_between : (path front rest back : List ℕ) (r : Option (Bor (List ℕ))) → path ≡ front ++ rest
    → MatchOption r ((first : List ℕ) → rest ≢ first ++ back) (λ x. rest ≡ x.now ++ back)
    → (item : List ℕ) → path ≡ front ++ (item ++ back) → option_map (λ (i : Bor (List ℕ)). i.now) r ≡ Some item
only_between path front rest back None is cut item h = absurd (cut item (append_cancel_left front rest (item ++ back) (sym is ∙ h)))
only_between path front rest back (Some x) is cut item h =
    ap Some (append_cancel_right x.now item back (sym cut ∙ append_cancel_left front rest (item ++ back) (sym is ∙ h)))
