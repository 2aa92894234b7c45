-- Work that goes on behind a link that was served, and work that stops.
use Rattle.std.proofs.Common.{◌≡◌, ◌∙◌, ℕ, ◌≤◌, ◌<◌, false, List, [], ◌∷◌, ◌++◌, refl, sym, ap, subst, inl, inr, append_assoc, append-nil, length-append, arith}
use Rattle.std.specs.Prelude.{Bool}
use Rattle.pb_outside.specs.Faults.{Rose}
use Rattle.pb_door.specs.LinkTold.{LinkTold}
use Rattle.pb_door.specs.PortTold.{PortTold, ends, gives}
use Rattle.answering.specs.Hand.{Hand}
use Rattle.session.specs.Dealing.{HasDealt}
use Rattle.session.specs.Session.{told}
use Rattle.session.specs.declared.end.SessionEnd.{SessionEnd}
use Rattle.serve_run.specs.Work.{EndsWork, KeepsEnd, Notes, Works, WorksOn}
use Rattle.serve_run.specs.declared.work_end.WorkEnd.{WorkEnd}
use Rattle.serve_run.specs.declared.work_end.WorkEnd.TheVariants.{Over, Fault, Memory}

-- what is kept behind one end more
record IsKept (end : SessionEnd) (later : List SessionEnd) (log more : List SessionEnd) : Type 0 where
  kept : List SessionEnd
  logged : more ≡ log ++ kept
  notes : Notes (end ∷ later) kept

kept_on : (end : SessionEnd) (later log log' more kept : List SessionEnd) → KeepsEnd end log log' → more ≡ log' ++ kept → Notes later kept → IsKept end later log more
kept_on end later log log' more kept (inl same) is notes = record {
  kept = kept;
  logged = is ∙ ap (λ (l : List SessionEnd). l ++ kept) same;
  notes = inl notes;
}
kept_on end later log log' more kept (inr added) is notes = record {
  kept = end ∷ kept;
  logged = is ∙ (ap (λ (l : List SessionEnd). l ++ kept) added.1 ∙ append_assoc log (end ∷ []) kept);
  notes = inr (kept, added.0, refl, notes);
}

-- where the count of faults is the same, what an end says is the same
cause_on : (end : WorkEnd) (p q last : PortTold) → q.faults ≡ p.faults → EndsWork end q last → EndsWork end p last
cause_on Over p q last same is = is
cause_on Fault p q last same is = subst (λ (n : ℕ). Rose n last.faults) same is
cause_on Memory p q last same is = tt

-- a link was given, served and handed back
pub goes_on : (end : SessionEnd) (h mid : Hand) (link link' : LinkTold) (p : PortTold) (log log' : List SessionEnd) → 0 < p.left
    → HasDealt end h (told link.input link.output) (told link'.input link'.output) mid → KeepsEnd end log log'
    → WorksOn h p log mid (ends link' (gives link p)) log'
goes_on end h mid link link' p log log' some_left dealt keeps = λ last_end last more new w.
    let k = kept_on end w.ends log log' more w.kept keeps w.logged w.notes in
    record {
      ends = end ∷ w.ends;
      given = link ∷ w.given;
      ended = link' ∷ w.ended;
      gave = w.gave ∙ append_assoc p.given (link ∷ []) w.given;
      took = w.took ∙ append_assoc p.ended (link' ∷ []) w.ended;
      serves = (mid, dealt, w.serves);
      kept = k.kept;
      logged = k.logged;
      notes = k.notes;
      share = (let s = w.share in omega (arith, length-append p.given (link ∷ [])));
      number = w.number;
      none_out = w.none_out;
      never_falls = w.never_falls;
      cause = cause_on last_end p (ends link' (gives link p)) last refl w.cause;
    }

-- nothing more was given
pub stops : (end : WorkEnd) (h : Hand) (p : PortTold) (over : Bool) (faults : ℕ) (log : List SessionEnd) → p.out ≡ false → p.faults ≤ faults
    → EndsWork end p (record { number = p.number; left = p.left; given = p.given; ended = p.ended; out = p.out; over = over; faults = faults })
    → Works end h p (record { number = p.number; left = p.left; given = p.given; ended = p.ended; out = p.out; over = over; faults = faults }) log log h
stops end h p over faults log none_out never_falls cause = record {
  ends = [];
  given = [];
  ended = [];
  gave = sym (append-nil p.given);
  took = sym (append-nil p.ended);
  serves = refl;
  kept = [];
  logged = sym (append-nil log);
  notes = refl;
  share = refl;
  number = refl;
  none_out = none_out;
  never_falls = never_falls;
  cause = cause;
}

pub on_and_on : (h i j : Hand) (p q r : PortTold) (log log' log'' : List SessionEnd) → WorksOn h p log i q log' → WorksOn i q log' j r log'' → WorksOn h p log j r log''
on_and_on h i j p q r log log' log'' first second = λ end last more new w. first end last more new (second end last more new w)
