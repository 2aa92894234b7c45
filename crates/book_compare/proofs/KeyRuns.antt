-- How far a loop over keys or positions has come.
use Rattle.std.proofs.Common.{◌≡◌, ℕ, suc, ◌+◌, ◌<◌, true, false, List, [], ◌∷◌, ◌++◌, length, get_or, map, drop, sym, ap, subst, ◌∙◌, arith, append_assoc, drop-cons, refl}
use Rattle.book_model.specs.Contents.{Contents}
use Rattle.clause_pool.specs.Clause.{clause_of}
use Rattle.clause_pool.specs.Literal.{literal}
use Rattle.clausify.specs.declared.usage.Usage.{Usage}
use Rattle.inquiry.specs.declared.source.Coded.{Coded}
use Rattle.chosen_parts.specs.declared.part_use.PartUse.{PartUse}
use Rattle.book_compare.specs.Asked.{usages_at, literals_with, key_literals, keys_literals, asked_keys}
use Rattle.book_compare.specs.Asking.{TakesKey, TakesKeys, TakesPosition, TakesPositions, key_of}
use Rattle.book_compare.specs.JointItems.{joint_clauses, joint_variables, first_usages, IsJoint}
use Rattle.book_compare.specs.Keys.{KeyLiterals, key_clauses, key_variables, keys_clauses, keys_variables, position_clauses, position_goal, ways, goal_clause}
use Rattle.book_compare.specs.Together.{position_variables, together_clauses, together_variables, together_goals, place_keys, searched_clauses, searched_variables, searched_goals}
use Rattle.book_compare.specs.declared.joint.Joint.{Joint}
use Rattle.book_compare.specs.declared.place.Place.{Place}
use Rattle.book_compare.specs.declared.position.Asking.{Asking}
use Rattle.book_compare.proofs.StepRuns.{read_at}

pub record KeysLeft (n : ℕ) (start now : Asking) (all rest : List KeyLiterals) : Type 0 where
  pub clauses : now.pool.clauses ++ keys_clauses n now.next rest ≡ start.pool.clauses ++ keys_clauses n start.next all
  pub next : now.next + keys_variables rest ≡ start.next + keys_variables all
  pub ways : now.ways.items ++ ways now.next rest ≡ start.ways.items ++ ways start.next all

pub keys_step : (n : ℕ) (start now more : Asking) (all rest : List KeyLiterals) (k : KeyLiterals) → KeysLeft n start now all (k ∷ rest) → TakesKey n now more k → KeysLeft n start more all rest
keys_step n start now more all rest k left made = record {
  clauses = rw (made.clauses, made.next, append_assoc) left.clauses;
  next = omega (arith, made.next, left.next);
  ways = rw (made.ways, made.next, append_assoc) left.ways;
}

-- all clauses of a position, made one after the other, where no way was there before
module _ (n : ℕ) (old start made new : Asking) (ks : List KeyLiterals) (pool : start.pool.clauses ≡ old.pool.clauses) (begins : start.next ≡ old.next) (none : start.ways.items ≡ []) (takes : TakesKeys n start made ks) where
  next_is : made.next ≡ old.next + keys_variables ks
  next_is = rw begins at takes.next

  pub position_asked : (l : ℕ) → l ≡ literal made.next true → l ≡ position_goal old.next ks
  position_asked l is = rw next_is at is

  pub position_taken : new.pool.clauses ≡ made.pool.clauses ++ clause_of (literal made.next false ∷ made.ways.items) ∷ [] → new.next ≡ made.next + 1 → TakesPosition n old new ks
  position_taken clauses next = record {
    clauses = rw (clauses, takes.clauses, takes.ways, next_is, none, begins, pool, append_assoc) refl;
    next = omega (arith, next, next_is);
  }

-- the keys of a position, by the usages that were found
pub keys_found : (first second : Contents) (day : ℕ) (id : List ℕ) (joint : Joint) (own other : List Usage) → IsJoint first second day joint → own ≡ usages_at first id joint.first.items
    → other ≡ usages_at second id joint.second.items → keys_literals first own second other ≡ asked_keys first second day id
keys_found first second day id joint own other is own_is other_is = rw (own_is, other_is, is.first_usages, is.second_usages) refl

-- several positions
pub record PlacesLeft (first second : Contents) (day : ℕ) (start now : Asking) (goals : List ℕ) (all rest : List Place) : Type 0 where
  pub clauses : now.pool.clauses ++ together_clauses (length first.codes) now.next (place_keys first second day rest)
      ≡ start.pool.clauses ++ together_clauses (length first.codes) start.next (place_keys first second day all)
  pub next : now.next + together_variables (place_keys first second day rest) ≡ start.next + together_variables (place_keys first second day all)
  pub goals_left : goals ++ together_goals now.next (place_keys first second day rest) ≡ together_goals start.next (place_keys first second day all)

places_step : (first second : Contents) (day : ℕ) (start now more : Asking) (goals pushed : List ℕ) (l : ℕ) (all rest : List Place) (p : Place) → PlacesLeft first second day start now goals all (p ∷ rest)
    → TakesPosition (length first.codes) now more (asked_keys first second day p.id) → l ≡ position_goal now.next (asked_keys first second day p.id) → pushed ≡ goals ++ l ∷ []
    → PlacesLeft first second day start more pushed all rest
places_step first second day start now more goals pushed l all rest p left made lit push =
    record {
      clauses = rw (made.clauses, made.next, append_assoc) left.clauses;
      next = omega (arith, made.next, left.next);
      goals_left = rw (push, made.next, append_assoc, lit) left.goals_left;
    }

pub places_loop : (first second : Contents) (day : ℕ) (start now more : Asking) (goals pushed : List ℕ) (l : ℕ) (ps : List Place) (i : ℕ) (p : Place) → i < length ps → p ≡ get_or ps i p
    → PlacesLeft first second day start now goals ps (drop i ps) → TakesPosition (length first.codes) now more (asked_keys first second day p.id)
    → l ≡ position_goal now.next (asked_keys first second day p.id) → pushed ≡ goals ++ l ∷ [] → PlacesLeft first second day start more pushed ps (drop (i + 1) ps)
places_loop first second day start now more goals pushed l ps i p within read left made lit push =
    places_step first second day start now more goals pushed l ps (drop (i + 1) ps) p
    (let split = read_at ps i p within read in rw split at left) made lit push

-- all of them, behind the clauses of the books
pub record IsCodedOf (first second : Contents) (day : ℕ) (ps : List Place) (coded : Coded) : Type 0 where
  pub clauses : coded.pool.clauses ≡ searched_clauses first second day ps
  pub variables : coded.vars ≡ searched_variables first second day ps
  pub goals : coded.goals.items ≡ searched_goals first second day ps

pub coded_made : (first second : Contents) (day : ℕ) (joint : Joint) (begun made : Asking) (ps : List Place) (goals : List ℕ) (coded : Coded) → IsJoint first second day joint
    → begun.pool.clauses ≡ joint.pool.clauses → begun.next ≡ joint.vars → TakesPositions (length first.codes) begun made (place_keys first second day ps)
    → goals ≡ together_goals begun.next (place_keys first second day ps) → coded.pool.clauses ≡ made.pool.clauses → coded.vars ≡ made.next → coded.goals.items ≡ goals
    → IsCodedOf first second day ps coded
coded_made first second day joint begun made ps goals coded is pool next takes goals_are clauses vars all =
    let begins : begun.next ≡ joint_variables first second day = next ∙ is.variables in
    record {
      clauses = rw (clauses, takes.clauses, pool, is.clauses, begins) refl;
      variables = rw (vars, takes.next, begins) refl;
      goals = rw (all, goals_are, begins) refl;
    }

-- a loop over keys
pub keys_loop : (n : ℕ) (start now more : Asking) (first : Contents) (us : List Usage) (second : Contents) (ws : List Usage) (keys : List PartUse) (i : ℕ) (key : PartUse) → i < length keys → key ≡ get_or keys i key
    → KeysLeft n start now (map (key_literals first us second ws) keys) (map (key_literals first us second ws) (drop i keys)) → (one other : List ℕ) → one ≡ literals_with first us key → other ≡ literals_with second ws key
    → TakesKey n now more (key_of one other) → KeysLeft n start more (map (key_literals first us second ws) keys) (map (key_literals first us second ws) (drop (i + 1) keys))
keys_loop n start now more first us second ws keys i key within read left one other one_is other_is made =
    let split = read_at keys i key within read in
    keys_step n start now more (map (key_literals first us second ws) keys) (map (key_literals first us second ws) (drop (i + 1) keys)) (key_literals first us second ws key) (rw split at left)
    (rw (one_is, other_is) at made)
