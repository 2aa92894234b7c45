-- The notes on packs of positions, one pack behind the other.
use Rattle.std.proofs.Common.{◌≡◌, ℕ, ◌+◌, ◌-◌, ◌<◌, ◌≤◌, List, [], ◌∷◌, ◌++◌, length, take, drop, take-add, get_or, refl, sym, ap, subst, ◌∙◌, arith, append_assoc, append-nil}
use Rattle.std.specs.List.{AllZip, flat_map}
use Rattle.std.proofs.lemmas.List.{take_more}
use Rattle.shared_work.proofs.JoinLaws.{zip-append}
use Rattle.pb_base.specs.InParts.{InParts}
use Rattle.inquiry.proofs.PartLaws.{parts-append}
use Rattle.book_compare.specs.Packs.{notes_in, places_in}
use Rattle.book_compare.specs.declared.note.CompareNote.{CompareNote}
use Rattle.book_compare.specs.declared.place.Place.{Place}

-- a pack behind others
packs_more : (packs : List (List Place)) (pack : List Place) → flat_map places_in (packs ++ pack ∷ []) ≡ flat_map places_in packs ++ pack
packs_more [] pack = append-nil pack
packs_more (p ∷ packs) pack = ap (λ (ps : List Place). p ++ ps) (packs_more packs pack) ∙ sym (append_assoc p (flat_map places_in packs) pack)

pub packs_further : (places : List Place) (at end : ℕ) (packs more : List (List Place)) → at ≤ end → flat_map places_in packs ≡ take at places
    → more ≡ packs ++ take (end - at) (drop at places) ∷ [] → flat_map places_in more ≡ take end places
packs_further places at end packs more order so_far put =
    let whole : at + (end - at) ≡ end = omega arith in
    ap (flat_map places_in) put ∙ packs_more packs (take (end - at) (drop at places)) ∙ ap (λ (ps : List Place). ps ++ take (end - at) (drop at places)) so_far
    ∙ sym (take-add at (end - at) places) ∙ ap (λ (n : ℕ). take n places) whole

module _ (P : Place → List CompareNote → Type 0) where
  -- the notes on one pack more
  pub zip_next : (packs : List (List Place)) (k : ℕ) (pack : List Place) (each more : List (List CompareNote)) (own : List CompareNote) → k < length packs → pack ≡ get_or packs k pack
      → AllZip (InParts P) (take k packs) each → InParts P pack own → more ≡ each ++ own ∷ [] → AllZip (InParts P) (take (k + 1) packs) more
  zip_next packs k pack each more own below read so_far is put =
      let taken : take (k + 1) packs ≡ take k packs ++ pack ∷ [] = take_more packs k pack below ∙ ap (λ (p : List Place). take k packs ++ p ∷ []) (sym read) in
      subst (AllZip (InParts P) (take (k + 1) packs)) (sym put)
      (subst (λ (zs : List (List Place)). AllZip (InParts P) zs (each ++ own ∷ [])) (sym taken) (zip-append (InParts P) (take k packs) (pack ∷ []) each (own ∷ []) so_far (is, tt)))

  -- the notes on each are those on all positions
  pub whole_of_each : (packs : List (List Place)) (each : List (List CompareNote)) → AllZip (InParts P) packs each → InParts P (flat_map places_in packs) (flat_map notes_in each)
  whole_of_each [] [] h = refl
  whole_of_each [] (own ∷ each) h = absurd h
  whole_of_each (pack ∷ packs) [] h = absurd h
  whole_of_each (pack ∷ packs) (own ∷ each) h =
      parts-append P pack (flat_map places_in packs) own (flat_map notes_in each) h.0 (whole_of_each packs each h.1)
