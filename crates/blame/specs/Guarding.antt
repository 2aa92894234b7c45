-- Entries of which some are kept, each told by a mark; and how a solver is made over all of them, each of which holds where its guard is
-- true.
--     MeetsBut b day f m kept k x the set meets each kept entry but that at place k, and the rule
--     AreMarked b day f m budget marks
--                                 no set meets the kept entries and the rule, each that is called needed is so, and of those that are called
--                                 left a search without was left
--     IsSettled k marks           the entry at a place isn't kept, or is called one of both
--     IsOn b m y                  the set meets the entries of which it has the guard
--     MeetsOn b m plain count y   the same of the first ones, of those that are plain or aren't
--     IsMade b m f e              an encoder has made clauses that are satisfied just where a set is so, and the rule holds
--     IsGuardedAnswer codes n test s lits budget answer
--                                 where a search answers by a set, it begins one that passes the test with these literals; where it does by a
--                                 clause, no set passes it with literals that this clause denies; else it was left
use Rattle.std.specs.Prelude.{◌≡◌, ◌⊎◌, ℕ, ◌+◌, ◌*◌, ◌<◌, Bool, true, false, List, [], ◌∷◌, Some, length, map, slice_get, replicate, if◌then◌else◌}
use Rattle.std.specs.List.{AllByRecursion}
use Rattle.pb_base.specs.Rule.{Rule, holds}
use Rattle.pb_base.specs.Sets.{has}
use Rattle.book_model.specs.Contents.{Contents}
use Rattle.clause_pool.specs.Literal.{literal}
use Rattle.clause_pool.specs.Clause.{has as has_literal, clause_of, IsBelow}
use Rattle.chains.specs.Growth.{given_of}
use Rattle.clausify.specs.Encoding.{EncodesAlone}
use Rattle.clausify.specs.declared.encoder.Encoder.{Encoder}
use Rattle.clausify.proofs.ItemLaws.{meets}
use Rattle.guarded_rules.specs.Guarded.{GuardedItem, AllGuardedFit, EncodesGuarded, IsGuarded, meets_all_guarded}
use Rattle.solver.specs.Answer.{IsSpent}
use Rattle.solver.specs.Solver.{Solving}
use Rattle.solver.specs.declared.answer.Answer.{Answer}
use Rattle.solver.specs.declared.answer.Answer.TheVariants.{Set, Closed, Spent}
use Rattle.item_search.specs.Search.{AreTrue, IsRefused}
use Rattle.blame.specs.Absent.{IsDenied}
use Rattle.blame.specs.Blame.{entry_item}
use Rattle.blame.specs.Entries.{meets_entry}
use Rattle.blame.specs.Guards.{IsLeftBut, MeetsKept}
use Rattle.blame.specs.Plain.{further_true, plain_rule}
use Rattle.blame.specs.declared.entries.Entry.{Entry}
use Rattle.blame.specs.declared.entries.Entry.TheVariants.{Supplement, Construct, Chosen}
use Rattle.blame.specs.declared.marks.Marks.{Marks}

-- the elements that are marked
abbrev pub kept_of : {X : Type 0} → List X → List Bool → List X
kept_of [] marks = []
kept_of (x ∷ xs) [] = []
kept_of (x ∷ xs) (t ∷ marks) = if t then x ∷ kept_of xs marks else kept_of xs marks

-- where the guard of an entry is there, the entry is met
abbrev pub IsOn : Contents → List Entry → List Bool → Type 0
IsOn b m y = (k : ℕ) (e : Entry) → slice_get m k ≡ Some e → has y (length b.codes + k) ≡ true → meets y (entry_item b e) ≡ true

-- the entry demands a plain rule
abbrev pub plain_entry : Contents → Entry → Bool
plain_entry b (Supplement p) = false
plain_entry b (Construct p) = plain_rule (entry_item b (Construct p)).rule
plain_entry b (Chosen c) = false

abbrev pub MeetsOn : Contents → List Entry → Bool → ℕ → List Bool → Type 0
MeetsOn b m plain count y = (k : ℕ) (e : Entry) → k < count → slice_get m k ≡ Some e → plain_entry b e ≡ plain → has y (length b.codes + k) ≡ true
    → meets y (entry_item b e) ≡ true

-- an encoder has made the clauses of items that are met just then, but for plain entries, where the rule holds
pub record AreItems (b : Contents) (m : List Entry) (f : Rule) (e : Encoder) : Type 0 where
  pub items : List GuardedItem
  pub made : IsGuarded items e
  pub fit : AllGuardedFit (length b.codes + length m) items
  pub met : (y : List Bool) → IsOn b m y → holds f y ≡ true → meets_all_guarded items y ≡ true
  pub back : (y : List Bool) → meets_all_guarded items y ≡ true → MeetsOn b m false (length m) y × (holds f y ≡ true)

-- the clauses of one more item, or none if it is plain
abbrev pub MayAdd : Bool → Encoder → Encoder → GuardedItem → Type 0
MayAdd plain old new i = EncodesGuarded old new i ⊎ ((plain ≡ true) × EncodesAlone old new [])

-- further clauses over codes and guards, which are true then, and only where so many of the plain entries are met
pub record AreFurther (b : Contents) (m : List Entry) (count : ℕ) (old new : Encoder) : Type 0 where
  pub lists : List (List ℕ)
  pub made : EncodesAlone old new (map clause_of lists)
  pub low : AllByRecursion (IsBelow (2 * (length b.codes + length m))) lists
  pub met : (y : List Bool) → IsOn b m y → further_true lists y ≡ true
  pub back : (y : List Bool) → further_true lists y ≡ true → MeetsOn b m true count y

-- all of it, and that codes are absent that stand in none of the clauses
pub record IsMade (b : Contents) (m : List Entry) (f : Rule) (e : Encoder) : Type 0 where
  pub first : Encoder
  pub items : AreItems b m f first
  pub second : Encoder
  pub further : AreFurther b m (length m) first second
  pub denied : IsDenied (length b.codes) second e

pub record MeetsBut (b : Contents) (day : ℕ) (f : Rule) (m : List Entry) (kept : List Bool) (but : ℕ) (x : List Bool) : Type 0 where
  pub counted : length x ≡ length b.codes
  pub meets : (k : ℕ) (e : Entry) → slice_get m k ≡ Some e → has kept k ≡ true → (k ≡ but → ⊥) → meets_entry b day x e ≡ true
  pub holds_there : holds f x ≡ true

-- no more are marked
pub record AreFewer (old new : List Bool) : Type 0 where
  pub counted : length new ≡ length old
  pub fewer : (k : ℕ) → has new k ≡ true → has old k ≡ true

-- these are called needed, and each of them is so
pub record AreNeeded (b : Contents) (day : ℕ) (f : Rule) (m : List Entry) (kept needed : List Bool) : Type 0 where
  pub counted : length needed ≡ length m
  pub each : (k : ℕ) → has needed k ≡ true → (x : List Bool) × MeetsBut b day f m kept k x

-- a search was left without the entry at a place, where these were kept or more
pub record WasLeft (b : Contents) (day : ℕ) (f : Rule) (m : List Entry) (kept : List Bool) (but budget : ℕ) : Type 0 where
  pub before : List Bool
  pub counted : length before ≡ length m
  pub fewer : AreFewer before kept
  pub left : IsLeftBut b day f m before but budget

pub record AreMarked (b : Contents) (day : ℕ) (f : Rule) (m : List Entry) (budget : ℕ) (marks : Marks) : Type 0 where
  pub kept_counted : length marks.kept.items ≡ length m
  pub none : (x : List Bool) → length x ≡ length b.codes → MeetsKept b day x m marks.kept.items → holds f x ≡ false
  pub needed : AreNeeded b day f m marks.kept.items marks.needed.items
  pub left_counted : length marks.left.items ≡ length m
  pub left : (k : ℕ) → has marks.left.items k ≡ true → WasLeft b day f m marks.kept.items k budget

-- the entry at a place is gone, or needed, or a search without it was left
abbrev pub IsSettled : ℕ → Marks → Type 0
IsSettled k marks = has marks.kept.items k ≡ true → (has marks.needed.items k ≡ true) ⊎ (has marks.left.items k ≡ true)

abbrev pub AreMore : List Bool → List Bool → Type 0
AreMore old new = (k : ℕ) → has old k ≡ true → has new k ≡ true

-- the place is marked besides, if it has a mark
pub record IsMarkedAlso (at : ℕ) (old new : List Bool) : Type 0 where
  pub counted : length new ≡ length old
  pub noted : at < length old → has new at ≡ true
  pub more : AreMore old new
  pub others : (k : ℕ) → has new k ≡ true → (k ≡ at → ⊥) → has old k ≡ true

-- what is settled stays so
pub record AreFurtherOn (old new : Marks) : Type 0 where
  pub kept : AreMore new.kept.items old.kept.items
  pub needed : AreMore old.needed.items new.needed.items
  pub left : AreMore old.left.items new.left.items

-- all are kept, and none is known to be needed
pub record IsUntried (count : ℕ) (marks : Marks) : Type 0 where
  pub kept : marks.kept.items ≡ replicate count true
  pub needed : marks.needed.items ≡ replicate count false
  pub left : marks.left.items ≡ replicate count false

-- of what passes the test and has the literals, these are the codes
pub record IsFoundGuarded (codes n : ℕ) (test : List Bool → Bool) (lits : List ℕ) (x : List Bool) : Type 0 where
  pub counted : length x ≡ codes
  pub whole : List Bool
  pub whole_counted : length whole ≡ n
  pub begins : (i : ℕ) → i < codes → i < n → has whole i ≡ has x i
  pub passes : test whole ≡ true
  pub lits_true : AreTrue whole lits

abbrev pub IsGuardedAnswer : ℕ → ℕ → (List Bool → Bool) → Solving → List ℕ → ℕ → Answer → Type 0
IsGuardedAnswer codes n test s lits budget (Set x) = IsFoundGuarded codes n test lits x
IsGuardedAnswer codes n test s lits budget (Closed at) = IsRefused n test s.kernel lits at
IsGuardedAnswer codes n test s lits budget (Spent learnt) = IsSpent s.vars (given_of s.kernel) lits budget learnt.clauses

-- those stay marked of which a clause denies the guard, but for that at one place
abbrev pub AreStill : ℕ → ℕ → List ℕ → List Bool → List Bool → Type 0
AreStill n but clause old new = (k : ℕ) → k < length old → has old k ≡ true → (k ≡ but → ⊥) → has_literal clause (literal (n + k) false) ≡ true → has new k ≡ true

pub record AreNamed (n count : ℕ) (clause : List ℕ) (named : List Bool) : Type 0 where
  pub counted : length named ≡ count
  pub each : (k : ℕ) → k < count → has_literal clause (literal (n + k) false) ≡ true → has named k ≡ true
