-- A certificate without fault shows that its book can be released.
use Rattle.std.proofs.Common.{◌≡◌, ℕ, List, Some, Result, Ok, Err, refl, ap, subst, ◌∙◌}
use Rattle.std.specs.List.{slice_get, flat_map, All}
use Rattle.std.proofs.lemmas.Option.{slice_get_within, get_or_from_slice_get}
use Rattle.book_model.specs.Contents.{Contents}
use Rattle.book_model.specs.Book.{IsBook}
use Rattle.book_model.specs.Sound.{IsReleasable}
use Rattle.book_model.specs.Slices.{slices_of, days_in, days_of, IsSteady}
use Rattle.book_model.specs.declared.record.Slice.{Slice}
use Rattle.book_model.proofs.SliceLaws.{slices_partition, slices_steady}
use Rattle.std.specs.Result.{OnOk}
use Rattle.pb_base.specs.Answers.{Answers}
use Rattle.pb_base.specs.declared.answer.Fail.{Fail}
use Rattle.derivation.specs.declared.fault.CertFault.{CertFault}
use Rattle.derivation.specs.declared.fault.Certified.{Certified}
use Rattle.derivation.specs.Limits.{slices_within}
use Rattle.pb_base.specs.Results.{and_then}
use Rattle.book_model.specs.declared.slicing.LimitFault.{LimitFault}
use Rattle.derivation.specs.Certificate.{within_limits, cert_answer, read_cert}
use Rattle.derivation.proofs.LimitLaws.{slices_are_all, slices_from_within}
use Rattle.derivation.proofs.Walk.{releasable_when_read}

steady_at : (b : Contents) (slices : List Slice) → All (IsSteady b) slices → (k : ℕ) (s : Slice) → slice_get slices k ≡ Some s → IsSteady b s
steady_at b slices all k s is = subst (IsSteady b) (get_or_from_slice_get slices k s s is) (all k s (slice_get_within slices k s is))

of_slices : (b : Contents) (text : List ℕ) (c : Certified) (slices : List Slice) → IsBook b → slices_of b ≡ Ok slices → read_cert b text slices ≡ Ok c → IsReleasable b
of_slices b text c slices book is h =
    releasable_when_read b slices text c book
    (subst (λ l. flat_map days_in l ≡ days_of b) (slices_are_all b slices is) (slices_partition b book.term))
    (steady_at b slices (subst (All (IsSteady b)) (slices_are_all b slices is) (slices_steady b book.term))) h

within_or : (b : Contents) (text : List ℕ) (c : Certified) (r : Result (List Slice) LimitFault) → IsBook b → slices_within b ≡ r → and_then (within_limits r) (read_cert b text) ≡ Ok c → IsReleasable b
within_or b text c (Ok slices) book is h = of_slices b text c slices book (slices_from_within b slices is) h
within_or b text c (Err fault) book is h = absurd (cc)

pub releasable_when_answered : (b : Contents) (text : List ℕ) (c : Certified) → IsBook b → cert_answer b text ≡ Ok c → IsReleasable b
releasable_when_answered b text c book h = within_or b text c (slices_within b) book refl h

-- the same, of a call that answers as the lines of the text say
pub released : (r : Result Certified (Fail CertFault)) (b : Contents) (slices : List Slice) (text : List ℕ) → IsBook b → slices_within b ≡ Ok slices
    → Answers r (read_cert b text slices) → OnOk r (IsReleasable b)
released (Ok c) b slices text book is h = releasable_when_answered b text c book (ap (λ s. and_then (within_limits s) (read_cert b text)) is ∙ h)
released (Err fault) b slices text book is h = tt
