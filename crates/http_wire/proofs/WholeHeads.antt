-- A head of the grammar is its block: it goes through the first empty line, and has a line for each field.
use Rattle.std.proofs.Common.{◌≡◌, ◌<◌, ◌≤◌, ◌+◌, ◌∙◌, ◌&&◌, ◌||◌, zero, get_or, ℕ, suc, Bool, true, false, cond, eqb, List, [], ◌∷◌, ◌++◌, length, refl, sym, ap, arith, append-nil, append_assoc, length-append}
use Rattle.std.specs.Prelude.{Option, Some, None, All, IsTrue}
use Rattle.std.specs.Option.{option_or, option_map}
use Rattle.std.specs.List.{flat_map}
use Rattle.std.proofs.lemmas.Bool.{eqb-true}
use Rattle.std.proofs.lemmas.List.Elements.{All-head, All-tail}
use Rattle.httparse.specs.Grammar.{is_token_byte, is_uri_byte, is_value_byte, AllPass, LineEnd, crlf, lf, print_end, print_blank, print_version, Field, IsField, print_field, print_section, RequestHead, IsRequestHead, print_request, ReadsRequest}
use Rattle.httparse.proofs.GrammarLemmas.{print_request-append, cons-append}
use Rattle.httparse.proofs.PieceLemmas.{token_is_no_newline}
use Rattle.http_wire.specs.Front.{is_line_feed, skipped_bytes, empty_line, block_length}
use Rattle.http_wire.specs.Reading.{field_lines}
use Rattle.http_wire.proofs.BlockEnds.{further, further-zero, further-suc}
use Rattle.http_wire.proofs.LineCounts.{feeds, feeds-append, feeds-cons}

-- what a line feed is behind has so many bytes up to the end of the block
abbrev behind : List ℕ → Option ℕ
behind s = option_or (empty_line s) (block_length s)

no_feed : (b : ℕ) (s : List ℕ) → feeds (b ∷ s) ≡ 0 → (is_line_feed b ≡ false) × (feeds s ≡ 0)
no_feed b s none = by_test (is_line_feed b) (sym (feeds-cons b s) ∙ none) where
  by_test : (t : Bool) → cond t 1 0 + feeds s ≡ 0 → (t ≡ false) × (feeds s ≡ 0)
  by_test true e = absurd (omega arith)
  by_test false e = (refl, omega (arith, e))

-- the block goes on behind a line
line_on : (line s : List ℕ) → feeds line ≡ 0 → block_length (line ++ 10 ∷ s) ≡ further (length line + 1) (behind s)
line_on [] s none = ap (λ (p : Option ℕ). option_map suc p) (sym (further-zero (behind s))) ∙ sym (further-suc 0 (behind s))
line_on (b ∷ line) s none =
    let both = no_feed b line none in
    ap (λ (t : Bool). option_map suc (option_or (cond t (empty_line (line ++ 10 ∷ s)) None) (block_length (line ++ 10 ∷ s)))) both.0
    ∙ ap (λ (p : Option ℕ). option_map suc p) (line_on line s both.1) ∙ sym (further-suc (length line + 1) (behind s))
    ∙ ap (λ (n : ℕ). further n (behind s)) (let more : suc (length line + 1) ≡ suc (length line) + 1 = omega arith in more)

-- bytes of a class without the line feed
quiet : (test : ℕ → Bool) → test 10 ≡ false → (s : List ℕ) → AllPass test s → feeds s ≡ 0
unfolding feeds
quiet test none [] all = refl
quiet test none (b ∷ s) all =
    let rest : feeds s ≡ 0 = quiet test none s (All-tail (λ (c : ℕ). IsTrue (test c)) b s all) in
    let here : is_line_feed b ≡ false = other (is_line_feed b) refl in
    feeds-cons b s ∙ ap (λ (t : Bool). cond t 1 0 + feeds s) here ∙ omega (arith, rest)
  where
    other : (t : Bool) → is_line_feed b ≡ t → t ≡ false
    other false e = refl
    other true e =
        let at : b ≡ 10 = eqb-true b 10 e in
        let passes : test b ≡ true = All-head (λ (c : ℕ). IsTrue (test c)) b s all in
        sym passes ∙ ap test at ∙ none

token_quiet : is_token_byte 10 ≡ false
unfolding is_token_byte
token_quiet = refl

-- the CR that may stand before a line feed
abbrev cr : LineEnd → List ℕ
cr crlf = 13 ∷ []
cr lf = []

end_parts : (end : LineEnd) → print_end end ≡ cr end ++ 10 ∷ []
end_parts crlf = refl
end_parts lf = refl

cr_quiet : (end : LineEnd) → feeds (cr end) ≡ 0
unfolding feeds
cr_quiet crlf = refl
cr_quiet lf = refl

last_line : (end : LineEnd) (rest : List ℕ) → behind (print_end end ++ rest) ≡ Some (length (print_end end))
last_line crlf rest = refl
last_line lf rest = refl

-- a field line without its end
abbrev text_of : Field → List ℕ
text_of f = (f.name ++ 58 ∷ f.raw) ++ cr f.end

text_quiet : (f : Field) → IsField f → feeds (text_of f) ≡ 0
text_quiet f is_field =
    let name = quiet is_token_byte token_quiet f.name is_field.name.1 in
    let raw = quiet is_value_byte refl f.raw is_field.raw in
    let ended = feeds-append (f.name ++ 58 ∷ f.raw) (cr f.end) in
    let parted = feeds-append f.name (58 ∷ f.raw) in
    let colon = feeds-cons 58 f.raw in
    let end = cr_quiet f.end in
    omega (arith, name, raw, ended, parted, colon, end)

-- a field line is no empty line
text_begins : (f : Field) (s : List ℕ) → IsField f → empty_line (text_of f ++ s) ≡ None
text_begins f s is_field = begins f.name is_field.name.0 is_field.name.1 where
  begins : (name : List ℕ) → 0 < length name → AllPass is_token_byte name → empty_line (((name ++ 58 ∷ f.raw) ++ cr f.end) ++ s) ≡ None
  begins [] some all = absurd (omega arith)
  begins (b ∷ name) some all = neither (eqb b 13) (eqb b 10) (token_is_no_newline b (All-head (λ (c : ℕ). IsTrue (is_token_byte c)) b name all)) where
    neither : (is_cr is_lf : Bool) → (is_cr || is_lf) ≡ false
        → cond {A = Option ℕ} is_lf (Some 1) (cond (is_cr && eqb (get_or (((name ++ 58 ∷ f.raw) ++ cr f.end) ++ s) 0 0) 10) (Some 2) None) ≡ None
    neither true is_lf e = absurd (cc)
    neither false true e = absurd (cc)
    neither false false e = refl

field_parts : (f : Field) → print_field f ≡ text_of f ++ 10 ∷ []
field_parts f =
    ap (λ (end : List ℕ). (f.name ++ 58 ∷ f.raw) ++ end) (end_parts f.end)
    ∙ sym (append_assoc (f.name ++ 58 ∷ f.raw) (cr f.end) (10 ∷ []))

-- the lines of a section
section_parts : (f : Field) (fields : List Field) (last : LineEnd) (rest : List ℕ)
    → print_section (f ∷ fields) last ++ rest ≡ text_of f ++ 10 ∷ (print_section fields last ++ rest)
section_parts f fields last rest =
    ap (λ (line : List ℕ). ((line ++ flat_map print_field fields) ++ print_end last) ++ rest) (field_parts f)
    ∙ regroup (text_of f) (flat_map print_field fields) (print_end last)
  where
    regroup : (line more end : List ℕ) → (((line ++ 10 ∷ []) ++ more) ++ end) ++ rest ≡ line ++ 10 ∷ ((more ++ end) ++ rest)
    regroup line more end = simp (append_assoc, cons-append)

section_length : (f : Field) (fields : List Field) (last : LineEnd) → length (print_section (f ∷ fields) last) ≡ length (text_of f) + 1 + length (print_section fields last)
section_length f fields last =
    let whole = ap length (section_parts f fields last []) in
    let before = length-append (print_section (f ∷ fields) last) [] in
    let after = length-append (text_of f) (10 ∷ (print_section fields last ++ [])) in
    let rest = length-append (print_section fields last) [] in
    omega (arith, whole, before, after, rest)

-- a block ends with its section
section_end : (fields : List Field) (last : LineEnd) (rest : List ℕ) → All IsField fields → behind (print_section fields last ++ rest) ≡ Some (length (print_section fields last))
section_end [] last rest all = last_line last rest
section_end (f ∷ fields) last rest all =
    let is_field : IsField f = All-head IsField f fields all in
    let more : List ℕ = print_section fields last ++ rest in
    ap behind (section_parts f fields last rest)
    ∙ ap (λ (here : Option ℕ). option_or here (block_length (text_of f ++ 10 ∷ more))) (text_begins f (10 ∷ more) is_field)
    ∙ line_on (text_of f) more (text_quiet f is_field)
    ∙ ap (λ (p : Option ℕ). further (length (text_of f) + 1) p) (section_end fields last rest (All-tail IsField f fields all))
    ∙ ap (λ (n : ℕ). Some n) (sym (section_length f fields last))

version_quiet : (minor : ℕ) → minor ≤ 1 → feeds (print_version minor) ≡ 0
unfolding feeds
version_quiet zero small = refl
version_quiet (suc zero) small = refl
version_quiet (suc (suc n)) small = absurd (omega arith)

-- the request line without its end
abbrev opening : RequestHead → List ℕ
opening h = (h.method ++ 32 ∷ h.target ++ 32 ∷ print_version h.minor) ++ cr h.line_end

opening_quiet : (h : RequestHead) → IsRequestHead h → feeds (opening h) ≡ 0
opening_quiet h is_head =
    let method = quiet is_token_byte token_quiet h.method is_head.method.1 in
    let target = quiet is_uri_byte refl h.target is_head.target.1 in
    let version = version_quiet h.minor is_head.minor in
    let ended = feeds-append (h.method ++ 32 ∷ h.target ++ 32 ∷ print_version h.minor) (cr h.line_end) in
    let parted = feeds-append (h.method ++ 32 ∷ h.target) (32 ∷ print_version h.minor) in
    let first = feeds-append h.method (32 ∷ h.target) in
    let blank = feeds-cons 32 h.target in
    let blank_too = feeds-cons 32 (print_version h.minor) in
    let end = cr_quiet h.line_end in
    omega (arith, method, target, version, ended, parted, first, blank, blank_too, end)

-- no line end stands in front of a head whose first byte is none
no_blank : (s : List ℕ) (h : RequestHead) (rest : List ℕ) → ReadsRequest s h rest → skipped_bytes s ≡ 0 → h.blank ≡ []
no_blank s h rest reads none = by_blank h.blank refl where
  by_blank : (blank : List LineEnd) → h.blank ≡ blank → h.blank ≡ []
  by_blank [] e = e
  by_blank (end ∷ blank) e =
      let starts = reads.1 ∙ print_request-append h rest ∙ ap (λ (ends : List LineEnd). print_blank ends ++ (h.method ++ 32 ∷ (h.target ++ 32 ∷ (print_version h.minor ++ (print_end h.line_end ++ (print_section h.fields h.last ++ rest)))))) e in
      absurd (skips end blank _ (ap skipped_bytes (sym starts) ∙ none))
    where
      skips : (end : LineEnd) (blank : List LineEnd) (more : List ℕ) → skipped_bytes (print_blank (end ∷ blank) ++ more) ≡ 0 → ⊥
      skips crlf blank more e = omega arith
      skips lf blank more e = omega arith

head_parts : (h : RequestHead) (rest : List ℕ) → h.blank ≡ [] → print_request h ++ rest ≡ opening h ++ 10 ∷ (print_section h.fields h.last ++ rest)
head_parts h rest none =
    print_request-append h rest
    ∙ ap (λ (ends : List LineEnd). print_blank ends ++ (h.method ++ 32 ∷ (h.target ++ 32 ∷ (print_version h.minor ++ (print_end h.line_end ++ (print_section h.fields h.last ++ rest)))))) none
    ∙ ap (λ (end : List ℕ). h.method ++ 32 ∷ (h.target ++ 32 ∷ (print_version h.minor ++ (end ++ (print_section h.fields h.last ++ rest))))) (end_parts h.line_end)
    ∙ regroup h.method h.target (print_version h.minor) (cr h.line_end) (print_section h.fields h.last)
  where
    regroup : (a b c d e : List ℕ) → a ++ 32 ∷ (b ++ 32 ∷ (c ++ ((d ++ 10 ∷ []) ++ (e ++ rest)))) ≡ ((a ++ 32 ∷ b ++ 32 ∷ c) ++ d) ++ 10 ∷ (e ++ rest)
    regroup a b c d e = simp (append_assoc, cons-append)

head_length : (h : RequestHead) → h.blank ≡ [] → length (print_request h) ≡ length (opening h) + 1 + length (print_section h.fields h.last)
head_length h none =
    let whole = ap length (head_parts h [] none) in
    let before = length-append (print_request h) [] in
    let after = length-append (opening h) (10 ∷ (print_section h.fields h.last ++ [])) in
    let rest = length-append (print_section h.fields h.last) [] in
    omega (arith, whole, before, after, rest)

-- a head is just the block in front
pub head_block : (s : List ℕ) (h : RequestHead) (rest : List ℕ) → ReadsRequest s h rest → skipped_bytes s ≡ 0 → block_length s ≡ Some (length (print_request h))
head_block s h rest reads none =
    let first : h.blank ≡ [] = no_blank s h rest reads none in
    ap block_length (reads.1 ∙ head_parts h rest first)
    ∙ line_on (opening h) (print_section h.fields h.last ++ rest) (opening_quiet h reads.0)
    ∙ ap (λ (p : Option ℕ). further (length (opening h) + 1) p) (section_end h.fields h.last rest reads.0.fields)
    ∙ ap (λ (n : ℕ). Some n) (sym (head_length h first))

section_lines : (fields : List Field) (last : LineEnd) → All IsField fields → feeds (print_section fields last) ≡ length fields + 1
unfolding feeds
section_lines [] crlf all = refl
section_lines [] lf all = refl
section_lines (f ∷ fields) last all =
    let later = section_lines fields last (All-tail IsField f fields all) in
    let parts = ap feeds (sym (append-nil (print_section (f ∷ fields) last)) ∙ section_parts f fields last []) in
    let parted = feeds-append (text_of f) (10 ∷ (print_section fields last ++ [])) in
    let whole = feeds-append (print_section fields last) [] in
    let feed = feeds-cons 10 (print_section fields last ++ []) in
    let none = text_quiet f (All-head IsField f fields all) in
    omega (arith, later, parts, parted, feed, whole, none)

-- and has as many lines as fields
pub head_lines : (s : List ℕ) (h : RequestHead) (rest : List ℕ) → ReadsRequest s h rest → skipped_bytes s ≡ 0 → field_lines (print_request h) ≡ length h.fields
unfolding feeds
head_lines s h rest reads none =
    let first : h.blank ≡ [] = no_blank s h rest reads none in
    let parts = ap feeds (sym (append-nil (print_request h)) ∙ head_parts h [] first) in
    let parted = feeds-append (opening h) (10 ∷ (print_section h.fields h.last ++ [])) in
    let whole = feeds-append (print_section h.fields h.last) [] in
    let feed = feeds-cons 10 (print_section h.fields h.last ++ []) in
    let start = opening_quiet h reads.0 in
    let lines = section_lines h.fields h.last reads.0.fields in
    omega (arith, parts, parted, feed, whole, start, lines)
