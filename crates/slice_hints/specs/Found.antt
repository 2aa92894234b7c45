-- Sets that were found, and what they are known to use.
--     KnowsUsages b f     for each variant of the book the truth of its formula over the set is kept
--     IsFound b day f     a set of the book's codes that is good on a day, with its usages
--     is_spoilt b before day x
--                         a rule is against a set on a day that wasn't active on the day before
use Rattle.std.specs.Prelude.{◌≡◌, ℕ, Bool, true, not, ◌&&◌, ◌||◌, List, length, map}
use Rattle.std.specs.List.{list_any}
use Rattle.pb_base.specs.Rule.{holds}
use Rattle.book_model.specs.Contents.{Contents}
use Rattle.book_model.specs.Activity.{is_within}
use Rattle.book_model.specs.Good.{breaks, fires, is_good}
use Rattle.book_model.specs.declared.record.Construct.{Construct}
use Rattle.book_model.specs.declared.record.Supplement.{Supplement}
use Rattle.slice_hints.specs.declared.found.Found.{Found}

abbrev pub KnowsUsages : Contents → Found → Type 0
KnowsUsages b f = f.usages.items ≡ map (λ v. holds v.rule f.set) b.variants

pub record IsFound (b : Contents) (day : ℕ) (f : Found) : Type 0 where
  pub counted : length f.set ≡ length b.codes
  pub good_then : is_good b day f.set ≡ true
  pub usages : KnowsUsages b f

abbrev pub fires_anew : ℕ → ℕ → List Bool → Supplement → Bool
fires_anew before day x s = not (is_within s.from s.until before) && fires day x s

abbrev pub breaks_anew : ℕ → ℕ → List Bool → Construct → Bool
breaks_anew before day x c = not (is_within c.from c.until before) && breaks day x c

abbrev pub is_spoilt : Contents → ℕ → ℕ → List Bool → Bool
is_spoilt b before day x = list_any (fires_anew before day x) b.supplements || list_any (breaks_anew before day x) b.constructs
