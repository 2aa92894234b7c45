-- Pieces that a writer took one behind the other.
use Rattle.std.proofs.Common.{◌≡◌, ℕ, List, [], ◌++◌, length, take, drop, refl, sym, ap, ◌∙◌, subst, append_assoc, append-nil}
use Rattle.std.specs.Prelude.{Option, Some, None}
use Rattle.std.specs.Io.KnownBytes.{Keeps, Appends}
use Rattle.std.proofs.lemmas.List.{take-append-drop, take_at}
use Rattle.pb_outside.specs.Sink.{TakesPiece, TakesFront}
use Rattle.pb_outside.proofs.Written.{HasWritten, TakesFront-written, Appends-kept}

-- this front of the piece was taken
front_taken : (piece front rest bytes : List ℕ) (last : Option (List ℕ)) → piece ≡ front ++ rest → last ≡ Some (bytes ++ front) → TakesFront piece (Some bytes) last
front_taken piece front rest bytes last joined taken = (
  length front,
  taken ∙ ap (λ (f : List ℕ). Some (bytes ++ f)) (sym (take_at front rest (length front) refl) ∙ ap (λ (p : List ℕ). take (length front) p) (sym joined)),
)

pub both_taken : (piece next : List ℕ) (first middle last : Option (List ℕ)) → TakesPiece piece first middle → TakesPiece next middle last → TakesPiece (piece ++ next) first last
both_taken piece next None middle last h k = tt
both_taken piece next (Some bytes) middle last h k =
    subst (λ (b : Option (List ℕ)). TakesPiece next b last) h k ∙ ap (λ (b : List ℕ). Some b) (append_assoc bytes piece next)

-- a front of the second piece, behind the whole first
pub second_cut : (piece next : List ℕ) (first middle last : Option (List ℕ)) → TakesPiece piece first middle → TakesFront next middle last → TakesFront (piece ++ next) first last
second_cut piece next None middle last h k = tt
second_cut piece next (Some bytes) middle last h k =
    let cut : TakesFront next (Some (bytes ++ piece)) last = subst (λ (b : Option (List ℕ)). TakesFront next b last) h k in
    front_taken (piece ++ next) (piece ++ take cut.0 next) (drop cut.0 next) bytes last
    (ap (λ (r : List ℕ). piece ++ r) (sym (take-append-drop cut.0 next)) ∙ sym (append_assoc piece (take cut.0 next) (drop cut.0 next)))
    (cut.1 ∙ ap (λ (b : List ℕ). Some b) (append_assoc bytes piece (take cut.0 next)))

-- a front of the first piece
pub first_cut : (piece next : List ℕ) (first last : Option (List ℕ)) → TakesFront piece first last → TakesFront (piece ++ next) first last
first_cut piece next None last h = tt
first_cut piece next (Some bytes) last h =
    front_taken (piece ++ next) (take h.0 piece) (drop h.0 piece ++ next) bytes last
    (ap (λ (r : List ℕ). r ++ next) (sym (take-append-drop h.0 piece)) ∙ append_assoc (take h.0 piece) (drop h.0 piece) next)
    h.1

-- nothing is left of a piece
pub all_taken : (piece rest : List ℕ) (first now : Option (List ℕ)) → HasWritten piece rest first now → rest ≡ [] → TakesPiece piece first now
all_taken piece rest None now h none = tt
all_taken piece rest (Some bytes) now h none =
    h.taken ∙ ap (λ (f : List ℕ). Some (bytes ++ f)) (sym (h.joined ∙ ap (λ (r : List ℕ). h.front ++ r) none ∙ append-nil h.front))

-- a part of the rest was written
pub rest_taken : (piece rest part further : List ℕ) (first before after : Option (List ℕ)) → rest ≡ part ++ further → HasWritten piece rest first before
    → TakesPiece part before after → HasWritten piece further first after
rest_taken piece rest part further None before after is h k = tt
rest_taken piece rest part further (Some bytes) before after is h k = record {
  front = h.front ++ part;
  joined = h.joined ∙ ap (λ (r : List ℕ). h.front ++ r) is ∙ sym (append_assoc h.front part further);
  taken =
      subst (λ (b : Option (List ℕ)). TakesPiece part b after) h.taken k
      ∙ ap (λ (b : List ℕ). Some b) (append_assoc bytes h.front part);
}

-- a front of the rest was written
pub rest_cut : (piece rest : List ℕ) (first before after : Option (List ℕ)) → HasWritten piece rest first before → TakesFront rest before after → TakesFront piece first after
rest_cut piece rest None before after h k = tt
rest_cut piece rest (Some bytes) before after h k =
    let cut : TakesFront rest (Some (bytes ++ h.front)) after = subst (λ (b : Option (List ℕ)). TakesFront rest b after) h.taken k in
    front_taken piece (h.front ++ take cut.0 rest) (drop cut.0 rest) bytes after
    (h.joined ∙ ap (λ (r : List ℕ). h.front ++ r) (sym (take-append-drop cut.0 rest)) ∙ sym (append_assoc h.front (take cut.0 rest) (drop cut.0 rest)))
    (cut.1 ∙ ap (λ (b : List ℕ). Some b) (append_assoc bytes h.front (take cut.0 rest)))

-- nothing of the rest was written
pub none_cut : (piece rest : List ℕ) (first now : Option (List ℕ)) → HasWritten piece rest first now → TakesFront piece first now
none_cut piece rest None now h = tt
none_cut piece rest (Some bytes) now h = front_taken piece h.front rest bytes now h.joined h.taken

-- a second piece in two parts
pub parts_taken : (piece second front rest : List ℕ) (first middle last : Option (List ℕ)) → second ≡ front ++ rest → TakesPiece (piece ++ front) first middle
    → TakesPiece rest middle last → TakesPiece (piece ++ second) first last
parts_taken piece second front rest first middle last is h k =
    subst (λ (p : List ℕ). TakesPiece p first last) (append_assoc piece front rest ∙ ap (λ (s : List ℕ). piece ++ s) (sym is))
    (both_taken (piece ++ front) rest first middle last h k)

-- the first part was cut
pub front_cut : (piece second front rest : List ℕ) (first last : Option (List ℕ)) → second ≡ front ++ rest → TakesFront (piece ++ front) first last
    → TakesFront (piece ++ second) first last
front_cut piece second front rest first last is h =
    subst (λ (p : List ℕ). TakesFront p first last) (append_assoc piece front rest ∙ ap (λ (s : List ℕ). piece ++ s) (sym is))
    (first_cut (piece ++ front) rest first last h)

-- the second part was cut
pub behind_cut : (piece second front rest : List ℕ) (first middle last : Option (List ℕ)) → second ≡ front ++ rest → TakesPiece (piece ++ front) first middle
    → TakesFront rest middle last → TakesFront (piece ++ second) first last
behind_cut piece second front rest first middle last is h k =
    subst (λ (p : List ℕ). TakesFront p first last) (append_assoc piece front rest ∙ ap (λ (s : List ℕ). piece ++ s) (sym is))
    (second_cut (piece ++ front) rest first middle last h k)

-- the writer took none of the rest
pub stopped : (piece rest : List ℕ) (first before after : Option (List ℕ)) → HasWritten piece rest first before → Appends before after [] → TakesFront piece first after
stopped = TakesFront-written

pub failed : (piece rest : List ℕ) (first before after : Option (List ℕ)) → HasWritten piece rest first before → Keeps before after → TakesFront piece first after
failed piece rest first before after h k = TakesFront-written piece rest first before after h (Appends-kept before after k)

-- of the next part of the rest a front was written
pub part_cut : (piece rest part further : List ℕ) (first before after : Option (List ℕ)) → rest ≡ part ++ further → HasWritten piece rest first before
    → TakesFront part before after → TakesFront piece first after
part_cut piece rest part further first before after is h k =
    rest_cut piece rest first before after h (subst (λ (r : List ℕ). TakesFront r before after) (sym is) (first_cut part further before after k))
