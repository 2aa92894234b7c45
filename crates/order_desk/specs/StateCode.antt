-- How states are told apart: by the tuple of what they have.
use Rattle.std.specs.Prelude.{ℕ, Bool, List, Option, refl}
use Rattle.std.specs.Coded.{Coded, code_by, coded×, coded_list, coded_option, coded_bool, coded_ℕ}
use Rattle.pb_outside.specs.Faults.{Faults}
use Rattle.release.specs.Release.{Release}
use Rattle.release.specs.ReleaseCode.{release_code}
use Rattle.desk_words.specs.declared.order_words.OrderWords.{OrderWords}
use Rattle.order_desk.specs.declared.draft.Draft.{Draft}
use Rattle.order_desk.specs.declared.kept_book.KeptBook.{KeptBook}
use Rattle.order_desk.specs.declared.order_key.OrderKey.{OrderKey}
use Rattle.order_desk.specs.Tables.{Tables, State}

abbrev text_code : Coded (List ℕ)
text_code = coded_list coded_ℕ

abbrev pub draft_code : Coded Draft
draft_code =
    code_by (List ℕ × (ℕ × List ℕ)) (coded× text_code (coded× coded_ℕ text_code))
    (λ d. (d.owner, (d.revision, d.text))) (λ t. record { owner = t.0; revision = t.1.0; text = t.1.1 }) (λ _. refl)

abbrev pub book_code : Coded KeptBook
book_code =
    code_by (List ℕ × (ℕ × (Release × Bool))) (coded× text_code (coded× coded_ℕ (coded× release_code coded_bool)))
    (λ b. (b.draft, (b.revision, (b.released, b.withdrawn))))
    (λ t. record { draft = t.0; revision = t.1.0; released = t.1.1.0; withdrawn = t.1.1.1 }) (λ _. refl)

abbrev pub key_code : Coded OrderKey
key_code =
    code_by (List ℕ × ℕ) (coded× text_code coded_ℕ) (λ k. (k.caller, k.number)) (λ t. record { caller = t.0; number = t.1 }) (λ _. refl)

abbrev pub order_code : Coded OrderWords
order_code =
    code_by (ℕ × (ℕ × List (List ℕ))) (coded× coded_ℕ (coded× coded_ℕ (coded_list text_code)))
    (λ o. (o.book, (o.day, o.codes))) (λ t. record { book = t.0; day = t.1.0; codes = t.1.1 }) (λ _. refl)

abbrev pub tables_code : Coded Tables
tables_code =
    code_by (List (List ℕ × Draft) × (List KeptBook × List (OrderKey × OrderWords)))
    (coded× (coded_list (coded× text_code draft_code)) (coded× (coded_list book_code) (coded_list (coded× key_code order_code))))
    (λ t. (t.drafts, (t.books, t.orders))) (λ t. record { drafts = t.0; books = t.1.0; orders = t.1.1 }) (λ _. refl)

abbrev pub faults_code : Coded Faults
faults_code =
    code_by (ℕ × Bool) (coded× coded_ℕ coded_bool) (λ f. (f.count, f.faultless)) (λ t. record { count = t.0; faultless = t.1 }) (λ _. refl)

abbrev pub state_code : Coded State
state_code =
    code_by (Tables × (Faults × Option ℕ)) (coded× tables_code (coded× faults_code (coded_option coded_ℕ)))
    (λ s. (s.tables, (s.faults, s.calls))) (λ t. record { tables = t.0; faults = t.1.0; calls = t.1.1 }) (λ _. refl)
