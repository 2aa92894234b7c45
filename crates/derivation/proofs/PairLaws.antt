-- The pairs of a step read back as they were written.
use Rattle.std.proofs.Common.{◌≡◌, ℕ, ◌+◌, ◌<◌, true, List, [], ◌∷◌, ◌++◌, Some, length, get_or, drop, refl, sym, ap, ◌∙◌}
use Rattle.std.specs.List.{list_all, All, AllByRecursion}
use Rattle.std.specs.Option.{option_and_then, option_map, option_zip}
use Rattle.std.specs.Fmt.{decimal}
use Rattle.std.proofs.lemmas.Bool.{and_from}
use Rattle.std.proofs.lemmas.List.{drop_more}
use Rattle.std.proofs.lemmas.List.Elements.{recursion_from_All}
use Rattle.clause_pool.specs.declared.chain.Pair.{Pair}
use Rattle.derivation.specs.CertLine.{pair_from, pairs_from}
use Rattle.derivation.specs.Words.{cert_number, cert_literal}
use Rattle.derivation.specs.Written.{PairFits, literal_word, pair_words, spaced}
use Rattle.derivation.proofs.LineLaws.{more_words, with_words}
use Rattle.derivation.proofs.WordLaws.{is_plain, number_back, literal_back, plain_number, plain_literal}

abbrev pair_with : ℕ × ℕ → Pair
pair_with z = record { lit = z.0; with = z.1 }

pub with_pair : (whole t t₁ t₂ : List ℕ) (pairs : List Pair) (i : ℕ) (p : Pair) → i < length pairs → p ≡ get_or pairs i p
    → t₁ ≡ t ++ spaced (literal_word p.lit ∷ []) → t₂ ≡ t₁ ++ spaced (decimal p.with ∷ [])
    → t ++ spaced (pair_words (drop i pairs)) ≡ whole → t₂ ++ spaced (pair_words (drop (i + 1) pairs)) ≡ whole
with_pair whole t t₁ t₂ pairs i p below is lit other h =
    let first : drop i pairs ≡ p ∷ drop (i + 1) pairs = drop_more pairs i p below ∙ ap (λ q. q ∷ drop (i + 1) pairs) (sym is) in
    with_words whole t t₂ (literal_word p.lit ∷ decimal p.with ∷ []) (pair_words (drop (i + 1) pairs))
    (more_words t t₁ t₂ (literal_word p.lit ∷ []) (decimal p.with ∷ []) lit other) (ap (λ ps. t ++ spaced (pair_words ps)) (sym first) ∙ h)

pair_back : (p : Pair) → PairFits p → pair_from cert_number cert_literal (literal_word p.lit) (decimal p.with) ≡ Some p
pair_back p fits =
    ap (λ o. option_map pair_with (option_zip o (cert_number (decimal p.with)))) (literal_back p.lit fits.lit)
    ∙ ap (λ o. option_map pair_with (option_zip (Some p.lit) o)) (number_back p.with fits.other)

pairs_from_back : (pairs : List Pair) → AllByRecursion PairFits pairs → pairs_from cert_number cert_literal (pair_words pairs) ≡ Some pairs
pairs_from_back [] fit = refl
pairs_from_back (p ∷ pairs) fit =
    ap (option_and_then (λ q. option_map (λ ps. q ∷ ps) (pairs_from cert_number cert_literal (pair_words pairs)))) (pair_back p fit.0)
    ∙ ap (option_map (λ ps. p ∷ ps)) (pairs_from_back pairs fit.1)

pub pairs_back : (pairs : List Pair) → All PairFits pairs → pairs_from cert_number cert_literal (pair_words pairs) ≡ Some pairs
pairs_back pairs fit = pairs_from_back pairs (recursion_from_All PairFits pairs fit)

plain_from : (pairs : List Pair) → AllByRecursion PairFits pairs → list_all is_plain (pair_words pairs) ≡ true
plain_from [] fit = refl
plain_from (p ∷ pairs) fit =
    and_from (is_plain (literal_word p.lit)) (list_all is_plain (decimal p.with ∷ pair_words pairs)) (plain_literal p.lit fit.0.lit)
    (and_from (is_plain (decimal p.with)) (list_all is_plain (pair_words pairs)) (plain_number p.with fit.0.other) (plain_from pairs fit.1))

pub plain_pairs : (pairs : List Pair) → All PairFits pairs → list_all is_plain (pair_words pairs) ≡ true
plain_pairs pairs fit = plain_from pairs (recursion_from_All PairFits pairs fit)
