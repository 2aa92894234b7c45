-- The definitions at a group of two codes behind a guard, the third code.
use Rattle.std.proofs.Common.{◌≡◌, true, false, [], ◌∷◌, Some, refl}
use Rattle.pb_base.specs.Rule.{always}
use Rattle.clausify.specs.Items.{one_of}
use Rattle.guarded_rules.specs.Guarded.{GuardedItem, guarded, encoded_guarded, meets_guarded}

abbrev one_of_two : GuardedItem
one_of_two = guarded (Some 2) (record { rule = always; claim = one_of (0 ∷ 1 ∷ []) })

its_clauses : encoded_guarded 3 4 (one_of_two ∷ []) ≡ (6 ∷ []) ∷ (0 ∷ 2 ∷ 5 ∷ []) ∷ (1 ∷ 3 ∷ 5 ∷ []) ∷ []
its_clauses = refl

not_asked : meets_guarded (true ∷ true ∷ false ∷ []) one_of_two ≡ true
not_asked = refl

asked_and_not_met : meets_guarded (true ∷ true ∷ true ∷ []) one_of_two ≡ false
asked_and_not_met = refl

asked_and_met : meets_guarded (false ∷ true ∷ true ∷ []) one_of_two ≡ true
asked_and_met = refl
