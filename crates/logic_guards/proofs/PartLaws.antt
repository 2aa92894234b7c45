-- Where the first book has no such position, two cars of the same parts have none there.
use Rattle.std.proofs.Common.{◌≡◌, ℕ, Bool, List, [], None, sym, ap, ◌∙◌}
use Rattle.std.specs.Option.{option_map_or}
use Rattle.book_model.specs.Contents.{Contents}
use Rattle.chosen_parts.specs.Chosen.{HaveSameParts, chosen, chosen_at, position_place}

pub none_more : (first second : Contents) (day : ℕ) (x y : List Bool) (id : List ℕ) → HaveSameParts first second day x y → position_place first id ≡ None
    → chosen second day id y ≡ []
none_more first second day x y id same none =
    sym (same id) ∙ ap (λ place. option_map_or (chosen_at first day x) place []) none
