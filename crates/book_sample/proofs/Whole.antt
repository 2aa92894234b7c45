-- The law of generated books, of its parts.
use Rattle.std.proofs.Common.{◌≡◌, ℕ, ◌/◌, true, List, None, refl, sym, ap, subst, ◌∙◌, arith}
use Rattle.std.proofs.lemmas.Bool.{le-leb}
use Rattle.book_model.specs.Activity.{is_within}
use Rattle.book_model.specs.Sound.{IsReleasable}
use Rattle.book_text.specs.BookText.{book_of}
use Rattle.parts_usage.specs.Fault.{order_fault}
use Rattle.book_sample.specs.Fits.{GroupsFit}
use Rattle.book_sample.specs.Groups.{groups}
use Rattle.book_sample.specs.Law.{MaySample, GivesBook}
use Rattle.book_sample.specs.Orders.{order_at}
use Rattle.book_sample.specs.declared.group.Group.{Group}
use Rattle.book_sample.proofs.Drawn.{groups_fit, length-groups}
use Rattle.book_sample.proofs.ByKind.{sample_contents}
use Rattle.book_sample.proofs.Fitting.{Counts, sample_back}
use Rattle.book_sample.proofs.Spelled.{text_is}
use Rattle.book_sample.proofs.OneSlice.{sample_slice}
use Rattle.book_sample.proofs.FewQuestions.{sample_questions}
use Rattle.book_sample.proofs.GoodSet.{good_set, set_is_good}
use Rattle.book_sample.proofs.SoundSets.{set_is_sound}
use Rattle.book_sample.proofs.OrdersFit.{order_fits}

releasable : (n : ℕ) (gs : List Group) → Counts n gs → GroupsFit 0 gs → IsReleasable (sample_contents n gs)
releasable n gs c fit = record {
  not_void = λ day from to. (good_set gs, set_is_good n day gs c fit);
  sound = λ day from to x good.
      let inside : is_within 1 1000 day ≡ true = rw (le-leb 1 day from, le-leb day 1000 to) refl in set_is_sound n day x gs inside good;
}

pub whole_law : (start codes : ℕ) → MaySample codes → GivesBook start codes
whole_law start codes may =
    let gs = groups (codes / 4) 0 start in
    let long = length-groups (codes / 4) 0 start in
    let whole = may.whole in
    let most = may.most in
    let c : Counts codes gs = record { codes = omega arith; few = omega arith } in
    let fit = groups_fit (codes / 4) 0 start in
    record {
      book = sample_contents codes gs;
      reads = ap book_of (sym (text_is codes gs c fit)) ∙ sample_back codes gs c fit;
      one_slice = sample_slice codes gs;
      few_questions = λ day. sample_questions codes day gs c;
      releasable = releasable codes gs c fit;
      orders = λ x. subst (λ (many : ℕ). order_fault (sample_contents codes gs) (order_at many x).day (order_at many x).codes ≡ None) long (order_fits codes x gs c);
    }
