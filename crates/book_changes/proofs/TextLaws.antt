-- One run more: in the text, in the count, and in the days of a block.
use Rattle.std.proofs.Common.{◌≡◌, ℕ, zero, suc, ◌+◌, ◌-◌, ◌<◌, ◌≤◌, List, [], ◌∷◌, ◌++◌, Result, Ok, Err, length, map, take, drop, get_or, refl, sym, ap, ◌∙◌, inl, inr, arith, append_assoc, append-nil}
use Rattle.std.specs.List.{flat_map, filter}
use Rattle.std.specs.Result.{OnOk}
use Rattle.std.proofs.lemmas.Bool.{cases_Bool, cond-true, cond-false}
use Rattle.std.proofs.lemmas.List.{drop_more, length-drop, take_all, take_more, drop_all}
use Rattle.book_model.specs.Contents.{Contents}
use Rattle.book_model.specs.declared.record.Slice.{Slice}
use Rattle.book_changes.specs.Alike.{same_lines}
use Rattle.book_changes.specs.ChangesText.{block_text, blocks_text, days_behind, joined_from, pair_text, told_once, told_behind, touches}
use Rattle.book_changes.specs.Joining.{closed_behind, closed_by, pending_after, pending_behind}
use Rattle.book_changes.specs.declared.run.RunNotes.{RunNotes}
use Rattle.book_model.specs.Slices.{days_from_to}

module _ (runs : List RunNotes) (i : ℕ) (d : RunNotes) (within : i < length runs) where
  abbrev r : RunNotes
  r = get_or runs i d

  abbrev rest : List RunNotes
  rest = drop (i + 1) runs

  pub block_more : (one other : Contents) (budget : ℕ) (text more all : List ℕ) → more ≡ text ++ block_text one other budget (take i runs) r rest → text ++ blocks_text one other budget (take i runs) (drop i runs) ≡ all
      → more ++ blocks_text one other budget (take (i + 1) runs) rest ≡ all
  block_more one other budget text more all is so_far =
      let split = drop_more runs i d within in
      rw (is, append_assoc, take_more runs i d within) (rw split at so_far)

  pub count_more : (count own more all : ℕ) → own ≡ told_once (take i runs) r → more ≡ count + own → count + told_behind (take i runs) (drop i runs) ≡ all
      → more + told_behind (take (i + 1) runs) rest ≡ all
  count_more count own more all is adds so_far =
      let next : told_behind (take i runs) (drop i runs) ≡ told_once (take i runs) r + told_behind (take (i + 1) runs) rest = rw (drop_more runs i d within, take_more runs i d within) refl in
      omega (arith, is, adds, so_far, next)

pub blocks_ended : (one other : Contents) (runs : List RunNotes) (i budget : ℕ) (text all : List ℕ) → length runs ≤ i → text ++ blocks_text one other budget (take i runs) (drop i runs) ≡ all → text ≡ all
blocks_ended one other runs i budget text all past so_far =
    rw (drop_all i runs past, append-nil) at so_far

pub count_ended : (runs : List RunNotes) (i count all : ℕ) → length runs ≤ i → count + told_behind (take i runs) (drop i runs) ≡ all → count ≡ all
count_ended runs i count all past so_far =
    let none : told_behind (take i runs) (drop i runs) ≡ 0 = ap (told_behind (take i runs)) (drop_all i runs past) in omega (arith, none, so_far)

-- a slice to the end
pub rest_whole : (runs : List RunNotes) (i : ℕ) → take (length runs - (i + 1)) (drop (i + 1) runs) ≡ drop (i + 1) runs
rest_whole runs i = take_all (length runs - (i + 1)) (drop (i + 1) runs) (omega (arith, length-drop (i + 1) runs))

-- days that touch are pending on, others close those before
join_step : (pending days : Slice) (later : List Slice) → closed_behind pending days ++ flat_map pair_text (joined_from (pending_behind pending days) later) ≡ flat_map pair_text (joined_from pending (days ∷ later))
join_step pending days later = elim (cases_Bool (touches pending.last days.first)) [ inl touch ↦ rw touch refl | inr apart ↦ rw apart refl ]

run_step : (r : RunNotes) (pending : Slice) (s : RunNotes) (later : List RunNotes)
    → closed_by r pending s ++ flat_map pair_text (days_behind r (pending_after r pending s) later) ≡ flat_map pair_text (days_behind r pending (s ∷ later))
run_step r pending s later =
    elim (cases_Bool (same_lines r s)) [
      | inl same ↦ rw same (join_step pending s.days (map (λ (t : RunNotes). t.days) (filter (same_lines r) later)))
      | inr other ↦ rw other refl
    ]

-- one run more among those behind
pub days_more : (r : RunNotes) (later : List RunNotes) (i : ℕ) (s : RunNotes) (pending next : Slice) (text more all : List ℕ) → i < length later → s ≡ get_or later i s
    → next ≡ pending_after r pending s → more ≡ text ++ closed_by r pending s → text ++ flat_map pair_text (days_behind r pending (drop i later)) ≡ all
    → more ++ flat_map pair_text (days_behind r next (drop (i + 1) later)) ≡ all
days_more r later i s pending next text more all within read opens puts so_far =
    let rest : List RunNotes = drop (i + 1) later in
    let front : drop i later ≡ s ∷ rest = rw (drop_more later i s within, ← read) refl in
    rw (puts, opens, append_assoc, run_step r pending s rest) (rw front at so_far)

days_ended : (r : RunNotes) (later : List RunNotes) (i : ℕ) (pending : Slice) (text more all : List ℕ) → length later ≤ i → more ≡ text ++ pair_text pending
    → text ++ flat_map pair_text (days_behind r pending (drop i later)) ≡ all → more ≡ all
days_ended r later i pending text more all past puts so_far =
    rw puts (rw (drop_all i later past, append-nil) at so_far)

-- what was pending is put last
pub days_put : {T E : Type 0} (result : Result T E) (r : RunNotes) (later : List RunNotes) (i : ℕ) (pending : Slice) (text more all : List ℕ) → length later ≤ i
    → OnOk result (more ≡ text ++ pair_text pending) → text ++ flat_map pair_text (days_behind r pending (drop i later)) ≡ all → OnOk result (more ≡ all)
days_put (Ok done) r later i pending text more all past puts so_far = days_ended r later i pending text more all past puts so_far
days_put (Err memory) r later i pending text more all past puts so_far = tt
