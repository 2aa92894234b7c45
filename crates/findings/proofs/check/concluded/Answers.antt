use Rattle.std.proofs.Common.{◌≡◌, ℕ, true, false, length, refl, sym, ap, subst, ◌∙◌}
use Rattle.std.specs.List.{list_any}
use Rattle.std.proofs.lemmas.Slice.Zip.{AllZip-long}
use Rattle.std.proofs.lemmas.Bool.{true≢false, false≢true}
use Rattle.derivation.specs.Showing.{ShowsSlice, shown_by}
use Rattle.derivation.specs.Written.{IsBegun}
use Rattle.findings.specs.Answering.{IsShownIn, stops}
use Rattle.findings.proofs.BookLaws.{releasable_when_free, free_when_releasable}
use Rattle.findings.proofs.check.concluded.Goals as goal

pub returns-then-stopped : goal.returns-then-stopped
returns-then-stopped c =
    let notes = c.of-report.result in
    let stopped : list_any stops notes ≡ true = ap (list_any stops) c.of-report.ensures ∙ sym c.requires ∙ c.if-stopped.true in
    record {
      report = c.of-report.ensures;
      cert = ((λ h. absurd (false≢true h)), (λ h. absurd (true≢false (sym stopped ∙ free_when_releasable notes h))));
      accepted = λ slices within shown. tt;
    }

pub returns : goal.returns
returns c =
    let b = c.args.book.now in
    let notes = c.of-report.result in
    let text = c.args.all.text in
    let free : list_any stops notes ≡ false = ap (list_any stops) c.of-report.ensures ∙ sym c.requires ∙ c.if-stopped.false in
    record {
      report = c.of-report.ensures;
      cert = ((λ _. releasable_when_free notes free), (λ _. refl));
      accepted = λ slices within whole.
          let shown : IsShownIn b slices (length slices) text = whole c.if-stopped.false in
          let begun : IsBegun b (length shown.proofs) shown.proofs text =
          subst (λ (n : ℕ). IsBegun b n shown.proofs text) (sym (AllZip-long (ShowsSlice b) slices shown.proofs shown.each)) shown.begun in
          record {
            certified = shown_by shown.proofs;
            answer = c.in_ok-cert.ensures.answer shown.proofs (record { slices = slices; within = within; each = shown.each }) begun;
          };
    }
