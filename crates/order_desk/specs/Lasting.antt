-- What fits tables fits them where they have grown.
--     release_stays, under_stays, placed_stays    what was judged outside the desk
--     fits_last t u e                             every event
use Rattle.std.specs.Prelude.{◌≡◌, ℕ, List, Option, None, Some}
use Rattle.std.proofs.Common.{refl, sym, ap, subst, ◌∙◌, le_trans, le_of_eq, le_antisymm}
use Rattle.release.specs.Release.{Release}
use Rattle.desk_words.specs.declared.order_words.OrderWords.{OrderWords}
use Rattle.order_desk.specs.declared.draft.Draft.{Draft}
use Rattle.order_desk.specs.declared.event.Event.{Event}
use Rattle.order_desk.specs.declared.event.Event.TheVariants as event
use Rattle.order_desk.specs.declared.kept_book.KeptBook.{KeptBook}
use Rattle.order_desk.specs.Fits.{Fits, IsReleaseOf, IsOrderUnder, IsPlaced}
use Rattle.order_desk.specs.History.{Stays, IsLaterDraft, IsLaterBook, Grows}
use Rattle.order_desk.specs.Judging.{accepts}
use Rattle.order_desk.specs.Tables.{Tables, draft_at, book_at}

pub release_stays : (drafts later : List (List ℕ × Draft)) (name : List ℕ) (revision : ℕ) (r : Release)
    → Stays IsLaterDraft (draft_at drafts name) (draft_at later name) → IsReleaseOf drafts name revision r → IsReleaseOf later name revision r
release_stays drafts later name revision r so of =
    by (draft_at later name) refl (subst (λ o. Stays IsLaterDraft o (draft_at later name)) of.there so)
  where
    by : (o : Option Draft) → draft_at later name ≡ o → Stays IsLaterDraft (Some of.draft) o → IsReleaseOf later name revision r
    by None is h = absurd h
    by (Some d) is h = record {
      draft = d;
      there = is;
      reached = le_trans of.reached h.revision;
      newest = λ same.
          let first : revision ≡ of.draft.revision = le_antisymm of.reached (le_trans h.revision (le_of_eq (sym same))) in
          of.newest first ∙ h.text (sym first ∙ same);
      release = of.release;
    }

pub under_stays : (books later : List KeptBook) (number : ℕ) (order : OrderWords)
    → Stays IsLaterBook (book_at books order.book) (book_at later order.book) → IsOrderUnder books number order → IsOrderUnder later number order
under_stays books later number order so under =
    by (book_at later order.book) refl (subst (λ o. Stays IsLaterBook o (book_at later order.book)) under.there so)
  where
    by : (o : Option KeptBook) → book_at later order.book ≡ o → Stays IsLaterBook (Some under.book) o → IsOrderUnder later number order
    by None is h = absurd h
    by (Some b) is h = record {
      least = under.least;
      most = under.most;
      book = b;
      there = is;
      codes = under.codes;
      accepted = ap (λ r. accepts r.book order.day order.codes) h.released ∙ under.accepted;
    }

pub placed_stays : (books later : List KeptBook) (caller : List ℕ) (number : ℕ) (order : OrderWords)
    → ((book : ℕ) → Stays IsLaterBook (book_at books book) (book_at later book)) → IsPlaced books caller number order
    → IsPlaced later caller number order
placed_stays books later caller number order so placed = record {
  caller_name = placed.caller_name;
  under = under_stays books later number order (so order.book) placed.under;
}

pub fits_last : (t u : Tables) (e : Event) → Grows t u → Fits t e → Fits u e
fits_last t u (event.PutDraft caller draft text) grows fits = fits
fits_last t u (event.GiveDraft caller draft to) grows fits = fits
fits_last t u (event.Commit caller draft revision released) grows fits =
    release_stays t.drafts u.drafts draft revision released (grows.drafts draft) fits
fits_last t u (event.Withdraw caller book) grows fits = fits
fits_last t u (event.Place caller number order) grows fits = placed_stays t.books u.books caller number order grows.books fits
fits_last t u (event.Read asked) grows fits = fits
