use Rattle.std.proofs.Common.{◌≡◌, length, drop}
use Rattle.book_text.specs.Group.{names_in}
use Rattle.book_text.specs.SecondPass.{places_of}
use Rattle.book_text.proofs.PlaceLemmas.{behind}
use Rattle.book_text.proofs.second_pass.places_in.Given as goal

-- the places are those of the names that were taken
abbrev pub invariant-loop-name : goal.invariant-loop-name
invariant-loop-name l = record {
  next : (goal.iterator-loop-name).can_next l.name-iterator;
  ends : (goal.iterator-loop-name).is_finite l.name-iterator;
  rest : behind l.places.items (places_of l.codes (drop (length l.yielded) (names_in l.text))) ≡ places_of l.codes (names_in l.text);
}
