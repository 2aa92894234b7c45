-- A writer that takes a piece in several writes.
use Rattle.std.proofs.Common.{◌≡◌, ◌≤◌, ℕ, List, [], ◌++◌, length, take, drop, refl, sym, ap, ◌∙◌, subst, append_assoc, append-nil}
use Rattle.std.specs.Prelude.{Option, Some, None, IfSome}
use Rattle.std.specs.Io.KnownBytes.{Keeps, Appends}
use Rattle.std.proofs.lemmas.List.{take-append-drop, take_at}
use Rattle.pb_outside.specs.Faults.{Rose}
use Rattle.pb_outside.specs.Sink.{TakesPiece, TakesFront, Refuses}

-- so far a front of the piece was written, and this rest of it is left
pub record IsParted (piece rest bytes : List ℕ) (now : Option (List ℕ)) : Type 0 where
  pub front : List ℕ
  pub joined : piece ≡ front ++ rest
  pub taken : now ≡ Some (bytes ++ front)

abbrev pub HasWritten : List ℕ → List ℕ → Option (List ℕ) → Option (List ℕ) → Type 0
HasWritten piece rest first now = IfSome first (λ bytes. IsParted piece rest bytes now)

pub HasWritten-nothing : (piece : List ℕ) (first : Option (List ℕ)) → HasWritten piece piece first first
HasWritten-nothing piece None = tt
HasWritten-nothing piece (Some bytes) = record { front = []; joined = refl; taken = ap (λ (b : List ℕ). Some b) (sym (append-nil bytes)) }

-- known bytes that grew
appended : (bytes piece : List ℕ) (after : Option (List ℕ)) → Appends (Some bytes) after piece → after ≡ Some (bytes ++ piece)
appended bytes piece None h = absurd h
appended bytes piece (Some bytes') h = ap (λ (b : List ℕ). Some b) h

pub Appends-kept : (before after : Option (List ℕ)) → Keeps before after → Appends before after []
Appends-kept None after h = tt
Appends-kept (Some bytes) None h = absurd h
Appends-kept (Some bytes) (Some bytes') h = h ∙ sym (append-nil bytes)

-- a front of the rest was written
pub HasWritten-step : (piece rest : List ℕ) (first before after : Option (List ℕ)) (count : ℕ) → HasWritten piece rest first before
    → Appends before after (take count rest) → HasWritten piece (drop count rest) first after
HasWritten-step piece rest None before after count h w = tt
HasWritten-step piece rest (Some bytes) before after count h w = record {
  front = h.front ++ take count rest;
  joined = h.joined ∙ ap (λ (r : List ℕ). h.front ++ r) (sym (take-append-drop count rest)) ∙ sym (append_assoc h.front (take count rest) (drop count rest));
  taken =
      appended (bytes ++ h.front) (take count rest) after (subst (λ (b : Option (List ℕ)). Appends b after (take count rest)) h.taken w)
      ∙ ap (λ (b : List ℕ). Some b) (append_assoc bytes h.front (take count rest));
}

-- it ends here, before the whole was taken
pub TakesFront-written : (piece rest : List ℕ) (first before after : Option (List ℕ)) → HasWritten piece rest first before
    → Appends before after [] → TakesFront piece first after
TakesFront-written piece rest None before after h w = tt
TakesFront-written piece rest (Some bytes) before after h w = (
  length h.front,
  appended (bytes ++ h.front) [] after (subst (λ (b : Option (List ℕ)). Appends b after []) h.taken w)
      ∙ ap (λ (b : List ℕ). Some b) (append-nil (bytes ++ h.front) ∙ ap (λ (f : List ℕ). bytes ++ f) (sym (take_at h.front rest (length h.front) refl) ∙ ap (λ (p : List ℕ). take (length h.front) p) (sym h.joined))),
)

-- and that is told as a fault
pub Refuses-written : (piece rest : List ℕ) (first before after : Option (List ℕ)) (faults faults' : ℕ) → HasWritten piece rest first before
    → Appends before after [] → Rose faults faults' → faults ≤ faults'
    → Refuses piece (record { taken = first; room = None; faults = faults }) (record { taken = after; room = None; faults = faults' })
Refuses-written piece rest first before after faults faults' h w rose le = record {
  rose = rose;
  front = TakesFront-written piece rest first before after h w;
  no_room = tt;
  never_falls = le;
}

-- nothing is left of the piece
pub TakesPiece-written : (piece : List ℕ) (first before after : Option (List ℕ)) → HasWritten piece [] first before
    → Keeps before after → TakesPiece piece first after
TakesPiece-written piece None before after h k = tt
TakesPiece-written piece (Some bytes) before after h k =
    appended (bytes ++ h.front) [] after (subst (λ (b : Option (List ℕ)). Appends b after []) h.taken (Appends-kept before after k))
    ∙ ap (λ (b : List ℕ). Some b) (append-nil (bytes ++ h.front) ∙ ap (λ (f : List ℕ). bytes ++ f) (sym (append-nil h.front) ∙ sym h.joined))
