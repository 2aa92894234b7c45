-- Each line that is written reads back as the line, and a text of lines as the lines.
use Rattle.std.proofs.Common.{◌≡◌, ℕ, ◌<◌, true, List, [], ◌∷◌, ◌++◌, None, Some, length, map, refl, ap, ◌∙◌, arith}
use Rattle.std.specs.List.{list_all, AllByRecursion}
use Rattle.std.specs.Option.{option_map, option_zip}
use Rattle.std.specs.Fmt.{decimal}
use Rattle.std.proofs.lemmas.Bool.{and_from, cond-true}
use Rattle.pb_base.specs.Names.{is_name, is_code_name}
use Rattle.clause_pool.specs.declared.chain.Pair.{Pair}
use Rattle.derivation.specs.CertLine.{CertLine, head_line, book_line, slice_line, set_line, step_line, close_line, end_line, pairs_from, step_with, line_from, cert_line}
use Rattle.derivation.specs.Pieces.{pieces}
use Rattle.derivation.specs.Words.{cert_number, cert_literal}
use Rattle.derivation.specs.Written.{spaced, pair_words, keyword_of, words_of, written, LineFits}
use Rattle.derivation.proofs.LineLaws.{words_back, line_cut}
use Rattle.derivation.proofs.MemberLaws.{plain_name, plain_codes}
use Rattle.derivation.proofs.PairLaws.{pairs_back, plain_pairs}
use Rattle.derivation.proofs.WordLaws.{is_plain, number_back, plain_number}

abbrev pub line_text : CertLine → List ℕ
line_text line = keyword_of line ++ spaced (words_of line)

plain_keyword : (line : CertLine) → is_plain (keyword_of line) ≡ true
plain_keyword head_line = refl
plain_keyword (book_line name count) = refl
plain_keyword (slice_line number) = refl
plain_keyword (set_line names) = refl
plain_keyword (step_line start pairs) = refl
plain_keyword (close_line question clause) = refl
plain_keyword end_line = refl

both_plain : (word : List ℕ) (words : List (List ℕ)) → is_plain word ≡ true → list_all is_plain words ≡ true → list_all is_plain (word ∷ words) ≡ true
both_plain word words p q = and_from (is_plain word) (list_all is_plain words) p q

plain_words : (line : CertLine) → LineFits line → list_all is_plain (words_of line) ≡ true
plain_words head_line fit = refl
plain_words (book_line name count) fit = both_plain name (decimal count ∷ []) (plain_name name fit.0) (both_plain (decimal count) [] (plain_number count fit.1) refl)
plain_words (slice_line number) fit = both_plain (decimal number) [] (plain_number number fit) refl
plain_words (set_line names) fit = plain_codes names fit
plain_words (step_line start pairs) fit = both_plain (decimal start) (pair_words pairs) (plain_number start fit.0) (plain_pairs pairs fit.1)
plain_words (close_line question clause) fit =
    both_plain (decimal question) (decimal clause ∷ []) (plain_number question fit.0) (both_plain (decimal clause) [] (plain_number clause fit.1) refl)
plain_words end_line fit = refl

step_back : (start : ℕ) (pairs : List Pair) → 0 < length pairs → step_with (Some start) (Some pairs) ≡ Some (step_line start pairs)
step_back start [] some = absurd (omega arith)
step_back start (p ∷ pairs) some = refl

from_words : (line : CertLine) → LineFits line → line_from cert_number cert_literal (keyword_of line ∷ words_of line) ≡ Some line
from_words head_line fit = refl
from_words (book_line name count) fit =
    cond-true (is_name name) (option_map (book_line name) (cert_number (decimal count))) None fit.0 ∙ ap (option_map (book_line name)) (number_back count fit.1)
from_words (slice_line number) fit = ap (option_map slice_line) (number_back number fit)
from_words (set_line names) fit = cond-true (list_all is_code_name names) (Some (set_line names)) None fit
from_words (step_line start pairs) fit =
    ap (λ o. step_with o (pairs_from cert_number cert_literal (pair_words pairs))) (number_back start fit.0)
    ∙ ap (step_with (Some start)) (pairs_back pairs fit.1) ∙ step_back start pairs fit.2
from_words (close_line question clause) fit =
    ap (λ o. option_map (λ z. close_line z.0 z.1) (option_zip o (cert_number (decimal clause)))) (number_back question fit.0)
    ∙ ap (λ o. option_map (λ z. close_line z.0 z.1) (option_zip (Some question) o)) (number_back clause fit.1)
from_words end_line fit = refl

pub line_back : (line : CertLine) → LineFits line → cert_line (line_text line) ≡ Some line
line_back line fit =
    ap (line_from cert_number cert_literal) (words_back (keyword_of line) (words_of line) (plain_keyword line) (plain_words line fit)) ∙ from_words line fit

pub texts_back : (lines : List CertLine) → AllByRecursion LineFits lines → pieces 10 (written lines) ≡ map line_text lines ++ [] ∷ []
texts_back [] fit = refl
texts_back (line ∷ lines) fit =
    line_cut (keyword_of line) (words_of line) (written lines) (plain_keyword line) (plain_words line fit.0) ∙ ap (λ ts. line_text line ∷ ts) (texts_back lines fit.1)
