-- The clauses of one position of two books.
--     usages_at b id us                the usages of the variants of a position
--     keys_of first us second ws       the keys that these variants have, each where it is seen first
--     asked_keys first second day id   the literals of each key of a position
--     asked_clauses .., asked_variables .., asked_goal ..
--                                      the clauses of the position, the number of variables, and the literal that is assumed
use Rattle.std.specs.Prelude.{ℕ, ◌+◌, ◌==◌, Bool, false, List, [], ◌∷◌, ◌++◌, length, map, slice_get, if◌then◌else◌}
use Rattle.std.specs.List.{filter, list_any}
use Rattle.std.specs.Option.{option_map_or}
use Rattle.book_model.specs.Contents.{Contents}
use Rattle.clausify.specs.declared.usage.Usage.{Usage}
use Rattle.chosen_parts.specs.Chosen.{position_place, part_use, is_same_use}
use Rattle.chosen_parts.specs.declared.part_use.PartUse.{PartUse}
use Rattle.book_compare.specs.JointItems.{joint_clauses, joint_variables, first_usages, second_usages}
use Rattle.book_compare.specs.Keys.{KeyLiterals, keys_variables, position_clauses, position_goal}

abbrev pub is_variant_of : Contents → ℕ → ℕ → Bool
is_variant_of b place variant = option_map_or (λ v. v.position == place) (slice_get b.variants variant) false

abbrev pub usages_in : Contents → ℕ → List Usage → List Usage
usages_in b place us = filter (λ u. is_variant_of b place u.variant) us

abbrev pub usages_at : Contents → List ℕ → List Usage → List Usage
usages_at b id us = option_map_or (λ place. usages_in b place us) (position_place b id) []

abbrev pub uses : Contents → List Usage → List PartUse
uses b us = map (λ u. part_use b u.variant) us

-- those that are not seen yet
abbrev pub new_keys : List PartUse → List PartUse → List PartUse
new_keys seen [] = []
new_keys seen (k ∷ ks) = if list_any (λ p. is_same_use k p) seen then new_keys seen ks else k ∷ new_keys (seen ++ k ∷ []) ks

abbrev pub keys_of : List PartUse → List PartUse → List PartUse
keys_of first second = new_keys [] first ++ new_keys (new_keys [] first) second

-- the literals of the usages that have a key
abbrev pub literals_with : Contents → List Usage → PartUse → List ℕ
literals_with b us key = map (λ u. u.literal) (filter (λ u. is_same_use (part_use b u.variant) key) us)

abbrev pub key_literals : Contents → List Usage → Contents → List Usage → PartUse → KeyLiterals
key_literals first us second ws key = record { first = literals_with first us key; second = literals_with second ws key }

abbrev pub keys_literals : Contents → List Usage → Contents → List Usage → List KeyLiterals
keys_literals first us second ws = map (key_literals first us second ws) (keys_of (uses first us) (uses second ws))

abbrev pub asked_keys : Contents → Contents → ℕ → List ℕ → List KeyLiterals
asked_keys first second day id =
    keys_literals first (usages_at first id (first_usages first second day)) second (usages_at second id (second_usages first second day))

abbrev pub asked_clauses : Contents → Contents → ℕ → List ℕ → List (List ℕ)
asked_clauses first second day id =
    joint_clauses first second day ++ position_clauses (length first.codes) (joint_variables first second day) (asked_keys first second day id)

abbrev pub asked_variables : Contents → Contents → ℕ → List ℕ → ℕ
asked_variables first second day id = joint_variables first second day + keys_variables (asked_keys first second day id) + 1

abbrev pub asked_goal : Contents → Contents → ℕ → List ℕ → ℕ
asked_goal first second day id = position_goal (joint_variables first second day) (asked_keys first second day id)
