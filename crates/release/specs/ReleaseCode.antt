-- How released books are told apart: by the tuple of what they have.
use Rattle.std.specs.Prelude.{ℕ, List, refl}
use Rattle.std.specs.Coded.{Coded, code_by, coded×, coded_list, coded_ℕ}
use Rattle.book_model.specs.Contents.{Contents}
use Rattle.book_model.specs.ContentsCode.{contents_code}
use Rattle.release.specs.Release.{Release}

abbrev pub text_code : Coded (List ℕ)
text_code = coded_list coded_ℕ

abbrev pub release_code : Coded Release
release_code =
    code_by (List ℕ × (Contents × List ℕ)) (coded× text_code (coded× contents_code text_code))
    (λ r. (r.text, (r.book, r.cert)))
    (λ t. record { text = t.0; book = t.1.0; cert = t.1.1 })
    (λ _. refl)
