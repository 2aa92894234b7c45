-- An ample budget leaves nothing of what changes.
use Rattle.std.proofs.Common.{◌≡◌, ◌∙◌, ℕ, ◌<◌, ◌≤◌, ◌^◌, Bool, false, ◌||◌, List, [], ◌∷◌, Ok, map, refl, ap, subst, inl, inr, All}
use Rattle.std.specs.List.{AllByRecursion, AllZip, list_any}
use Rattle.std.proofs.lemmas.List.Elements.{All-from_recursion, recursion_from_All}
use Rattle.book_changes.specs.Changes.{IsAnyCommon, IsChanges, IsRun}
use Rattle.book_changes.specs.ChangesText.{is_changed, is_left_common, is_left_difference, is_left_loss, is_undecided}
use Rattle.book_changes.specs.Days.{IsJointRun, IsSliceOf, joint_runs}
use Rattle.book_changes.specs.Differs.{AreDifferences, IsDifferNoted}
use Rattle.book_changes.specs.declared.run.Common.{Common}
use Rattle.book_changes.specs.declared.run.Common.TheVariants.{Shared, Nowhere, Undecided}
use Rattle.book_changes.specs.declared.run.DifferNote.{DifferNote}
use Rattle.book_changes.specs.declared.run.DifferNote.TheVariants as differ
use Rattle.book_changes.specs.declared.run.RunNotes.{RunNotes}
use Rattle.book_changes.proofs.DayLaws.{runs_are, slices_of_book}
use Rattle.book_compare.specs.Asked.{asked_variables}
use Rattle.book_model.specs.Contents.{Contents}
use Rattle.book_model.specs.Slices.{all_slices, slices_of}
use Rattle.book_model.specs.declared.record.Slice.{Slice}
use Rattle.book_model.proofs.SliceLaws.{slices_ordered, slices_partition, slices_steady}
use Rattle.chosen_parts.specs.Chosen.{ids_of_either}
use Rattle.clausify.proofs.ListLaws.{all_weaker}
use Rattle.derivation.proofs.LimitLaws.{slices_are_all}
use Rattle.lost_cars.specs.CommonCar.{IsCommonRule}
use Rattle.lost_cars.specs.Losses.{AreLosses, IsLossNoted, lost_rule, questions}
use Rattle.lost_cars.specs.declared.note.LossNote.{LossNote}
use Rattle.lost_cars.specs.declared.note.LossNote.TheVariants as loss
use Rattle.pb_base.specs.Rule.{Rule}
use Rattle.pb_outside.specs.Files.{FilesTold}
use Rattle.rules_met.specs.Met.{asked_variables as rule_variables}
use Rattle.book_commands.specs.Ample.{AreChangesDecided, AreLossesDecided, ArePositionsDecided, IsAmpleForBoth, IsAmpleForFile, IsChangeDecided}
use Rattle.book_commands.specs.ChangesReply.{RepliesToChanges, changes_reply}
use Rattle.book_commands.specs.CompareReply.{RepliesToCompare}
use Rattle.book_commands.specs.Ends.{LeavesNothing}
use Rattle.book_commands.specs.Logged.{was_left}
use Rattle.book_commands.specs.RunReply.{RunReply}
use Rattle.book_commands.specs.declared.comparing.Span.TheVariants.{AllDays}
use Rattle.book_commands.specs.declared.log.Note.TheVariants.{Change}
use Rattle.book_commands.proofs.Nothing.{at_fault, found_status, never_left_at, none_parted, same_reply, texts_nothing}
use Rattle.book_commands.proofs.Required.{never_left_on}

-- ---- what is told of a day

module _ (one other : Contents) (day budget : ℕ) where
  common_decided : (found : Common) → ((f : Rule) → IsCommonRule one other day f → 3 ^ rule_variables one day (f ∷ []) < budget)
      → IsAnyCommon one other day budget found → is_left_common found ≡ false
  common_decided Shared ample h = refl
  common_decided Nowhere ample h = refl
  common_decided Undecided ample h = absurd (never_left_on one day budget h.rule (ample h.rule h.common) h.left)

  loss_decided : (q : _) (own : List LossNote) → 3 ^ rule_variables one day (lost_rule one other q ∷ []) < budget → IsLossNoted one other day budget q own
      → list_any is_left_loss own ≡ false
  loss_decided q [] ample h = refl
  loss_decided q (loss.Lost cause x ∷ []) ample h = refl
  loss_decided q (loss.Undecided cause ∷ []) ample h = absurd (never_left_on one day budget (lost_rule one other q) ample h.1.left)
  loss_decided q (note ∷ second ∷ own) ample h = absurd h

  losses_decided : (notes : List LossNote) → AreLossesDecided budget day one other → AreLosses one other day budget notes → list_any is_left_loss notes ≡ false
  losses_decided notes ample h =
      none_parted (IsLossNoted one other day budget) is_left_loss (questions one other) notes
      (all_weaker (λ q. 3 ^ rule_variables one day (lost_rule one other q ∷ []) < budget)
      (λ q. (own : List LossNote) → IsLossNoted one other day budget q own → list_any is_left_loss own ≡ false)
      (λ q above own is. loss_decided q own above is) (questions one other) ample) h

  difference_decided : (id : List ℕ) (own : List DifferNote) → 3 ^ asked_variables one other day id < budget → IsDifferNoted one other day budget id own
      → list_any is_left_difference own ≡ false
  difference_decided id [] ample h = refl
  difference_decided id (differ.Differs position names has next ∷ []) ample h = refl
  difference_decided id (differ.Undecided position ∷ []) ample h = absurd (never_left_at one other day budget id h.1.learnt ample h.1.spent)
  difference_decided id (note ∷ second ∷ own) ample h = absurd h

  differences_decided : (notes : List DifferNote) → ArePositionsDecided budget day one other → AreDifferences one other day budget notes → list_any is_left_difference notes ≡ false
  differences_decided notes ample h =
      none_parted (IsDifferNoted one other day budget) is_left_difference (ids_of_either one other) notes
      (all_weaker (λ (id : List ℕ). 3 ^ asked_variables one other day id < budget)
      (λ (id : List ℕ). (own : List DifferNote) → IsDifferNoted one other day budget id own → list_any is_left_difference own ≡ false)
      (λ id above own is. difference_decided id own above is) (ids_of_either one other) ample) h

-- ---- and of all runs of days

none_of_four : (a b c d : Bool) → a ≡ false → b ≡ false → c ≡ false → d ≡ false → (a || b || c || d) ≡ false
none_of_four a b c d e f g h = ap (λ t. t || b || c || d) e ∙ ap (λ t. t || c || d) f ∙ ap (λ t. t || d) g ∙ h

run_decided : (one other : Contents) (budget : ℕ) (r : Slice) (notes : RunNotes) → IsChangeDecided budget r.first one other → IsRun one other budget r notes
    → is_undecided notes ≡ false
run_decided one other budget r notes ample h =
    none_of_four (is_left_common notes.common) (list_any is_left_loss notes.lost.items) (list_any is_left_loss notes.won.items) (list_any is_left_difference notes.differs.items)
    (common_decided one other r.first budget notes.common ample.common h.common) (losses_decided one other r.first budget notes.lost.items ample.lost h.lost)
    (losses_decided other one r.first budget notes.won.items ample.won h.won) (differences_decided one other r.first budget notes.differs.items ample.positions h.differ)

runs_decided : (one other : Contents) (budget : ℕ) (rs : List Slice) (runs : List RunNotes) → AreChangesDecided budget one other → AllByRecursion (IsJointRun one other) rs
    → AllZip (IsRun one other budget) rs runs → list_any is_undecided runs ≡ false
runs_decided one other budget [] [] ample days h = refl
runs_decided one other budget [] (notes ∷ runs) ample days h = absurd h
runs_decided one other budget (r ∷ rs) [] ample days h = absurd h
runs_decided one other budget (r ∷ rs) (notes ∷ runs) ample days h =
    let decided : IsChangeDecided budget r.first one other = ample r.first days.0.one.from days.0.one.to days.0.other.from days.0.other.to in
    ap (λ t. t || list_any is_undecided runs) (run_decided one other budget r notes decided h.0) ∙ runs_decided one other budget rs runs ample days.1 h.1

slices_in : (b : Contents) (slices : List Slice) → b.first ≤ b.last → slices_of b ≡ Ok slices → All (IsSliceOf b) slices
slices_in b slices term found =
    subst (All (IsSliceOf b)) (slices_are_all b slices found)
    (All-from_recursion (IsSliceOf b) (all_slices b) (slices_of_book b (all_slices b) term (slices_partition b term) (slices_ordered b term) (slices_steady b term)))

changes_decided : (one other : Contents) (budget : ℕ) (runs : List RunNotes) → one.first ≤ one.last → other.first ≤ other.last → AreChangesDecided budget one other
    → IsChanges one other budget runs → list_any is_undecided runs ≡ false
changes_decided one other budget runs term terms ample h =
    let rs : List Slice = joint_runs h.first_slices h.second_slices in
    let own : All (IsSliceOf one) h.first_slices = slices_in one h.first_slices term h.of_first in
    let others : All (IsSliceOf other) h.second_slices = slices_in other h.second_slices terms h.of_second in
    runs_decided one other budget rs runs ample (recursion_from_All (IsJointRun one other) rs (runs_are one other h.first_slices h.second_slices own others)) h.each

-- ---- replies

changes_logged : (runs : List RunNotes) → list_any was_left (map Change runs) ≡ list_any is_undecided runs
changes_logged [] = refl
changes_logged (notes ∷ runs) = ap (λ (later : Bool). is_undecided notes || later) (changes_logged runs)

over_nothing : (one other : Contents) (budget : ℕ) (reply : RunReply) → one.first ≤ one.last → other.first ≤ other.last → AreChangesDecided budget one other
    → RepliesToChanges one other budget reply → LeavesNothing reply
over_nothing one other budget reply term terms ample (inl told) =
    let none : list_any is_undecided told.runs ≡ false = changes_decided one other budget told.runs term terms ample told.is_right in
    same_reply (changes_reply one other budget told.runs) reply told.answer
    (record { none = changes_logged told.runs ∙ none; decided = found_status (list_any is_changed told.runs) (list_any is_undecided told.runs) none })
over_nothing one other budget reply term terms ample (inr limit) = at_fault _ reply limit.answer refl refl

pub changes_nothing : (input file : List ℕ) (budget : ℕ) (files files' : FilesTold) (reply : RunReply)
    → IsAmpleForFile (IsAmpleForBoth budget (AreChangesDecided budget)) file input files.files → RepliesToCompare input AllDays file budget files files' reply → LeavesNothing reply
changes_nothing input file budget files files' reply ample h =
    texts_nothing (AreChangesDecided budget) AllDays budget (λ one other told term terms decided is. over_nothing one other budget told term terms decided is)
    input file files files' reply ample h
