-- Rules that are codes and negations of codes joined by `/`. Such a rule is one clause, and needs no variable of its own.
--     plain_rule f             the rule is such
--     IsLiteral f l            the rule is this literal
--     further_true lists y     each of these clauses is true of the set
--     begun_literals g on      with which the clause of a rule behind a guard begins
--     IsPlain f old new        what is put behind some literals is the rule's clause
--     IsPlainOf g i lits       where a guard isn't there or the item is met, one of these literals is true
--     AddsPlain plain g i old new    an encoder has made no clause but such ones, and if the item is plain, they say that it is met where the guard is there
use Rattle.std.specs.Prelude.{◌≡◌, ℕ, ◌*◌, ◌<◌, Bool, true, false, ◌&&◌, ◌||◌, List, [], ◌∷◌, Option, None, Some, map, All}
use Rattle.std.specs.List.{list_all}
use Rattle.pb_base.specs.Rule.{Rule, code, negation, both, either, always, never, holds, codes_below}
use Rattle.pb_base.specs.Sets.{has}
use Rattle.clause_pool.specs.Literal.{literal, is_true}
use Rattle.clause_pool.specs.Clause.{clause_of, clause_true, IsBelow}
use Rattle.clausify.specs.Encoding.{EncodesAlone}
use Rattle.clausify.specs.Items.{Item}
use Rattle.clausify.specs.declared.encoder.Encoder.{Encoder}
use Rattle.clausify.proofs.ItemLaws.{meets, item_fits}

abbrev pub is_code : Rule → Bool
is_code (code place) = true
is_code (negation f) = false
is_code (both f g) = false
is_code (either f g) = false
is_code always = false
is_code never = false

-- a code, or the negation of one
abbrev pub is_literal_rule : Rule → Bool
is_literal_rule (code place) = true
is_literal_rule (negation f) = is_code f
is_literal_rule (both f g) = false
is_literal_rule (either f g) = false
is_literal_rule always = false
is_literal_rule never = false

abbrev pub plain_rule : Rule → Bool
plain_rule (code place) = true
plain_rule (negation f) = is_code f
plain_rule (both f g) = false
plain_rule (either f g) = is_literal_rule g && plain_rule f
plain_rule always = false
plain_rule never = false

abbrev pub further_true : List (List ℕ) → List Bool → Bool
further_true lists y = list_all (λ c. clause_true (has y) c) lists

pub record IsLiteral (f : Rule) (l : ℕ) : Type 0 where
  pub plain : is_literal_rule f ≡ true
  pub same : (x : List Bool) → holds f x ≡ is_true (has x) l
  pub low : (n : ℕ) → codes_below n f ≡ true → l < 2 * n

-- the guard isn't there, or the code isn't
abbrev pub begun_literals : ℕ → Option ℕ → List ℕ
begun_literals g None = literal g false ∷ []
begun_literals g (Some c) = literal g false ∷ literal c false ∷ []

pub record IsPlain (f : Rule) (old new : List ℕ) : Type 0 where
  pub same : (x : List Bool) → (holds f x || clause_true (has x) old) ≡ clause_true (has x) new
  pub low : (n : ℕ) → codes_below n f ≡ true → IsBelow (2 * n) old → IsBelow (2 * n) new

pub record IsPlainOf (g : ℕ) (i : Item) (lits : List ℕ) : Type 0 where
  pub met : (y : List Bool) → (has y g ≡ true → meets y i ≡ true) → clause_true (has y) lits ≡ true
  pub low : (n : ℕ) → g < n → item_fits n i ≡ true → IsBelow (2 * n) lits

pub record AddsPlain (plain : Bool) (g : ℕ) (i : Item) (old new : Encoder) : Type 0 where
  pub lists : List (List ℕ)
  pub made : EncodesAlone old new (map clause_of lists)
  pub each : All (IsPlainOf g i) lists
  pub back : plain ≡ true → (y : List Bool) → further_true lists y ≡ true → has y g ≡ true → meets y i ≡ true
