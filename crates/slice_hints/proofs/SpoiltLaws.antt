-- A set that is good on a day is so on another one, where no rule is against it that wasn't active before.
use Rattle.std.proofs.Common.{◌≡◌, ℕ, Bool, true, false, not, ◌&&◌, All, List, [], ◌∷◌}
use Rattle.std.specs.List.{list_any, AllByRecursion}
use Rattle.std.proofs.lemmas.Bool.{and_parts, and_from, or_from, or_parts, not_from_false, not-true}
use Rattle.std.proofs.lemmas.List.Elements.{All-from_recursion, recursion_from_All}
use Rattle.pb_base.specs.Rule.{holds}
use Rattle.pb_base.specs.Sets.{has}
use Rattle.book_model.specs.Activity.{is_within}
use Rattle.book_model.specs.Contents.{Contents}
use Rattle.book_model.specs.Good.{breaks, fires, is_constructible, is_good, is_met}
use Rattle.book_model.specs.declared.record.Construct.{Construct}
use Rattle.book_model.specs.declared.record.Supplement.{Supplement}
use Rattle.slice_hints.specs.Found.{IsFound, breaks_anew, fires_anew, is_spoilt}
use Rattle.slice_hints.specs.declared.found.Found.{Found}

-- on the day, where not before and not anew
not_on : (w u t : Bool) → (w && t) ≡ false → (not w && (u && t)) ≡ false → (u && t) ≡ false
not_on true true true one other = one
not_on true true false one other = other
not_on true false t one other = other
not_on false u t one other = other

not_fires : (before day : ℕ) (x : List Bool) (s : Supplement) → fires before x s ≡ false → fires_anew before day x s ≡ false → fires day x s ≡ false
not_fires before day x s = three (is_within s.from s.until before) (is_within s.from s.until day) (holds s.rule x) (not (has x s.code))
  where
    three : (w u p q : Bool) → (w && p && q) ≡ false → (not w && (u && p && q)) ≡ false → (u && p && q) ≡ false
    three true true p q one other = one
    three true false p q one other = other
    three false u p q one other = other

none_fires : (before day : ℕ) (x : List Bool) (ss : List Supplement) → list_any (fires before x) ss ≡ false → list_any (fires_anew before day x) ss ≡ false → list_any (fires day x) ss ≡ false
none_fires before day x [] one other = one
none_fires before day x (s ∷ ss) one other =
    let first = or_parts (fires before x s) (list_any (fires before x) ss) one in
    let anew = or_parts (fires_anew before day x s) (list_any (fires_anew before day x) ss) other in
    or_from _ _ (not_fires before day x s first.0 anew.0) (none_fires before day x ss first.1 anew.1)

none_breaks : (before day : ℕ) (x : List Bool) (cs : List Construct) → list_any (breaks before x) cs ≡ false → list_any (breaks_anew before day x) cs ≡ false → list_any (breaks day x) cs ≡ false
none_breaks before day x [] one other = one
none_breaks before day x (c ∷ cs) one other =
    let first = or_parts (breaks before x c) (list_any (breaks before x) cs) one in
    let anew = or_parts (breaks_anew before day x c) (list_any (breaks_anew before day x) cs) other in
    or_from _ _ (not_on (is_within c.from c.until before) (is_within c.from c.until day) (not (is_met x c.demand)) first.0 anew.0) (none_breaks before day x cs first.1 anew.1)

pub good_still : (b : Contents) (before day : ℕ) (x : List Bool) → is_good b before x ≡ true → is_spoilt b before day x ≡ false → is_good b day x ≡ true
good_still b before day x good spoilt =
    let rules = and_parts _ _ good in
    let kinds = and_parts _ (is_constructible b before x) rules.0 in
    let anew = or_parts (list_any (fires_anew before day x) b.supplements) (list_any (breaks_anew before day x) b.constructs) spoilt in
    and_from _ _
    (and_from _ _
    (not_from_false _ (none_fires before day x b.supplements (not-true _ kinds.0) anew.0))
    (not_from_false _ (none_breaks before day x b.constructs (not-true _ kinds.1) anew.1)))
    rules.1

pub found_still : (b : Contents) (before day : ℕ) (f : Found) → IsFound b before f → is_spoilt b before day f.set ≡ false → IsFound b day f
found_still b before day f h spoilt = record {
  counted = h.counted;
  good_then = good_still b before day f.set h.good_then spoilt;
  usages = h.usages;
}

still_each : (b : Contents) (before day : ℕ) (fs : List Found) → AllByRecursion (IsFound b before) fs → list_any (λ f. is_spoilt b before day f.set) fs ≡ false → AllByRecursion (IsFound b day) fs
still_each b before day [] all none = tt
still_each b before day (f ∷ fs) all none =
    let parts = or_parts (is_spoilt b before day f.set) (list_any (λ g. is_spoilt b before day g.set) fs) none in
    (found_still b before day f all.0 parts.0, still_each b before day fs all.1 parts.1)

pub all_still : (b : Contents) (before day : ℕ) (fs : List Found) → All (IsFound b before) fs → list_any (λ f. is_spoilt b before day f.set) fs ≡ false → All (IsFound b day) fs
all_still b before day fs all none =
    All-from_recursion (IsFound b day) fs (still_each b before day fs (recursion_from_All (IsFound b before) fs all) none)
