-- What a write to a gate, or behind it, makes of a file.
use Rattle.std.proofs.Common.{◌≡◌, ℕ, ◌+◌, List, [], ◌∷◌, ◌++◌, length, take, drop, get_or, sym, ap, ◌∙◌, append_assoc, arith, length-append}
use Rattle.std.proofs.lemmas.List.{take_at, drop_at, drop_more, drop-drop, take-append-drop}
use Rattle.disk.specs.Disk.{overwritten, Torn}

module _ (front : List ℕ) (gate : ℕ) (rest file : List ℕ) (at : ℕ) (place : at ≡ length front) (file_is : file ≡ front ++ gate ∷ rest) where
  split : file ≡ (front ++ gate ∷ []) ++ rest
  split = file_is ∙ sym (append_assoc front (gate ∷ []) rest)

  to_gate : length (front ++ gate ∷ []) ≡ at + 1
  to_gate = omega (arith, length-append front (gate ∷ []), place)

  pub long : length file ≡ at + 1 + length rest
  long = omega (arith, ap length file_is, length-append front (gate ∷ rest), place)

  head : take at file ≡ front
  head = ap (take at) file_is ∙ take_at front (gate ∷ rest) at (sym place)

  head_gate : take (at + 1) file ≡ front ++ gate ∷ []
  head_gate = ap (take (at + 1)) split ∙ take_at (front ++ gate ∷ []) rest (at + 1) to_gate

  tail : drop (at + 1) file ≡ rest
  tail = ap (drop (at + 1)) split ∙ drop_at (front ++ gate ∷ []) rest (at + 1) to_gate

  -- the gate holds any byte, and all else is as it was
  pub torn_gate : (image : List ℕ) → Torn at 1 file image → (g : ℕ) × (image ≡ front ++ g ∷ rest)
  torn_gate image torn =
      let here : drop at image ≡ get_or image at 0 ∷ drop (at + 1) image = drop_more image at 0 (omega (arith, torn.no_shorter, long)) in (
        get_or image at 0,
        sym (take-append-drop at image) ∙ ap (λ l. l ++ drop at image) (torn.before ∙ head)
            ∙ ap (λ l. front ++ l) (here ∙ ap (λ l. get_or image at 0 ∷ l) (torn.after ∙ tail)),
      )

  -- the gate and all before it are as they were
  pub torn_tail : (n : ℕ) (image : List ℕ) → Torn (at + 1) n file image → (later : List ℕ) × (image ≡ front ++ gate ∷ later)
  torn_tail n image torn = (
    drop (at + 1) image,
    sym (take-append-drop (at + 1) image) ∙ ap (λ l. l ++ drop (at + 1) image) (torn.before ∙ head_gate) ∙ append_assoc front (gate ∷ []) (drop (at + 1) image),
  )

  pub written_gate : (g : ℕ) → overwritten at (g ∷ []) file ≡ front ++ g ∷ rest
  written_gate g =
      ap (λ l. l ++ (g ∷ []) ++ drop (at + 1) file) head ∙ ap (λ l. front ++ (g ∷ []) ++ l) tail ∙ append_assoc front (g ∷ []) rest

  pub written_tail : (bytes : List ℕ) → overwritten (at + 1) bytes file ≡ front ++ gate ∷ (bytes ++ drop (length bytes) rest)
  written_tail bytes =
      ap (λ l. l ++ bytes ++ drop (at + 1 + length bytes) file) head_gate
      ∙ ap (λ l. (front ++ gate ∷ []) ++ bytes ++ l) (sym (drop-drop (length bytes) (at + 1) file) ∙ ap (drop (length bytes)) tail)
      ∙ append_assoc (front ++ gate ∷ []) bytes (drop (length bytes) rest)
      ∙ append_assoc front (gate ∷ []) (bytes ++ drop (length bytes) rest)
