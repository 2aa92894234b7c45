-- How far the names of a set have come.
use Rattle.std.proofs.Common.{◌≡◌, ℕ, suc, ◌+◌, ◌<◌, Bool, List, [], ◌++◌, length, get_or, drop, sym, ap, subst, ◌∙◌, arith, append_assoc, drop-cons, add-one}
use Rattle.book_compare.proofs.StepRuns.{dropped}
use Rattle.std.specs.List.{slice_get}
use Rattle.std.specs.Option.{IfSome}
use Rattle.std.proofs.lemmas.Option.{slice_get-get_or}
use Rattle.pb_base.specs.Picked.{picked_one, picked_from}

pub picked_step : (x : List Bool) (codes : List (List ℕ)) (place : ℕ) (names more all : List (List ℕ)) → place < length codes
    → IfSome (slice_get codes place) (λ name. more ≡ names ++ picked_one x place name) → names ++ picked_from place x (drop place codes) ≡ all
    → more ++ picked_from (place + 1) x (drop (place + 1) codes) ≡ all
picked_step x codes place names more all within put left =
    let there = slice_get-get_or codes place [] within in
    let one : more ≡ names ++ picked_one x place (get_or codes place []) = rw there at put in
    let split = dropped codes place (get_or codes place []) there in
    rw (one, append_assoc) (rw split at left)
