-- What comes of a `close` line, where the questions that are left are those behind a place of a list.
use Rattle.std.proofs.Common.{◌≡◌, ℕ, ◌+◌, ◌<◌, ◌≤◌, true, false, List, [], ◌∷◌, None, Some, Ok, Err, length, get_or, drop, refl, sym, ap, ◌∙◌, eq-eqb}
use Rattle.std.proofs.lemmas.List.{drop_more, drop_all}
use Rattle.std.proofs.lemmas.Option.{slice_get_past, slice_get-get_or}
use Rattle.derivation.specs.declared.fault.CertKind.TheVariants.{NoSuchStep, NotClosed}
use Rattle.derivation.specs.declared.closing.ToClose.{ToClose}
use Rattle.derivation.specs.Stage.{SliceSoFar, within}
use Rattle.derivation.specs.After.{close_next, closes, first_left}

next_at : (w : SliceSoFar) (ws : List ToClose) (i : ℕ) (next : ToClose) (question clause : ℕ) → i < length ws → next ≡ get_or ws i next
    → close_next w (drop i ws) question clause ≡ close_next w (next ∷ drop (i + 1) ws) question clause
next_at w ws i next question clause below is =
    ap (λ l. close_next w l question clause) (drop_more ws i next below) ∙ ap (λ x. close_next w (x ∷ drop (i + 1) ws) question clause) (sym is)

pub close_no_clause : (w : SliceSoFar) (ws : List ToClose) (i : ℕ) (next : ToClose) (question clause : ℕ) → i < length ws → next ≡ get_or ws i next
    → question ≡ next.question → length w.clauses ≤ clause → close_next w (drop i ws) question clause ≡ Err NoSuchStep
close_no_clause w ws i next question clause below is same past =
    next_at w ws i next question clause below is ∙ rw (eq-eqb question next.question same, slice_get_past w.clauses clause past) refl

pub close_not_closed : (w : SliceSoFar) (ws : List ToClose) (i : ℕ) (next : ToClose) (question clause : ℕ) (lits : List ℕ) → i < length ws → next ≡ get_or ws i next
    → question ≡ next.question → clause < length w.clauses → lits ≡ get_or w.clauses clause [] → closes next.goal lits ≡ false
    → close_next w (drop i ws) question clause ≡ Err (NotClosed next.question)
close_not_closed w ws i next question clause lits below is same there at fails =
    next_at w ws i next question clause below is ∙ rw (eq-eqb question next.question same, slice_get-get_or w.clauses clause [] there, ← at, fails) refl

pub close_closed : (w : SliceSoFar) (ws : List ToClose) (i : ℕ) (next : ToClose) (question clause : ℕ) (lits : List ℕ) → i < length ws → next ≡ get_or ws i next
    → question ≡ next.question → clause < length w.clauses → lits ≡ get_or w.clauses clause [] → closes next.goal lits ≡ true
    → close_next w (drop i ws) question clause ≡ Ok (within (record w { left = drop (i + 1) ws }))
close_closed w ws i next question clause lits below is same there at fits =
    next_at w ws i next question clause below is ∙ rw (eq-eqb question next.question same, slice_get-get_or w.clauses clause [] there, ← at, fits) refl

pub some_left : (ws : List ToClose) (i : ℕ) (next : ToClose) → i < length ws → next ≡ get_or ws i next → first_left (drop i ws) ≡ Some (NotClosed next.question)
some_left ws i next below is = ap first_left (drop_more ws i next below) ∙ ap (λ w. Some (NotClosed w.question)) (sym is)

pub none_left : (ws : List ToClose) (i : ℕ) → length ws ≤ i → first_left (drop i ws) ≡ None
none_left ws i past = ap first_left (drop_all i ws past)
