-- Workers that stayed the same, place by place.
use Rattle.std.proofs.Common.{◌≡◌, ◌∙◌, ℕ, zero, suc, ◌<◌, true, List, [], ◌∷◌, length, refl, sym, ap, ap₂, subst, arith}
use Rattle.std.specs.Prelude.{Bool, All, map, slice_index_or}
use Rattle.std.proofs.lemmas.List.Elements.{All-nil, All-cons, All-head, All-tail, All-map}
use Rattle.pb_door.specs.PortTold.{PortTold}
use Rattle.serve_run.specs.Work.{links_of}
use Rattle.serve_run.specs.Workers.{IsSameWorker, IsUnfailing, WorkerTold}
use Rattle.serve_run.proofs.Fresh.{All-mapped}

-- at each place stands the same worker
abbrev pub AtEach : List WorkerTold → List WorkerTold → Type 0
AtEach before after = (i : ℕ) (d : WorkerTold) → i < length before → IsSameWorker (slice_index_or before i d) (slice_index_or after i d)

same_rest : (w v : WorkerTold) (before after : List WorkerTold) → AtEach (w ∷ before) (v ∷ after) → AtEach before after
same_rest w v before after same i d inside = same (suc i) d (omega arith)

abbrev number_of : WorkerTold → ℕ
number_of w = w.port.number

same_numbers : (before after : List WorkerTold) → length after ≡ length before → AtEach before after → map number_of after ≡ map number_of before
same_numbers [] [] long same = refl
same_numbers [] (v ∷ after) long same = absurd (omega arith)
same_numbers (w ∷ before) [] long same = absurd (omega arith)
same_numbers (w ∷ before) (v ∷ after) long same =
    let first = same 0 w (omega arith) in
    ap₂ (λ (n : ℕ) (ns : List ℕ). n ∷ ns) first.number (same_numbers before after (omega arith) (same_rest w v before after same))

numbers_of_ports : (workers : List WorkerTold) → map (λ p. p.number) (map (λ w. w.port) workers) ≡ map number_of workers
numbers_of_ports [] = refl
numbers_of_ports (w ∷ workers) = ap (λ (ns : List ℕ). w.port.number ∷ ns) (numbers_of_ports workers)

-- the ports keep their numbers
pub kept_numbers : (before after : List WorkerTold) (old new : List PortTold) → length after ≡ length before → AtEach before after
    → map (λ w. w.port) before ≡ old → new ≡ map (λ w. w.port) after → map (λ p. p.number) new ≡ map (λ p. p.number) old
kept_numbers before after old new long same old_is new_is =
    ap (λ (ps : List PortTold). map (λ p. p.number) ps) new_is
    ∙ (numbers_of_ports after
    ∙ (same_numbers before after long same
    ∙ (sym (numbers_of_ports before) ∙ ap (λ (ps : List PortTold). map (λ p. p.number) ps) old_is)))

-- and the links that they have given and may still give
abbrev share_at : WorkerTold → ℕ
share_at w = links_of w.port

same_shares : (before after : List WorkerTold) → length after ≡ length before → AtEach before after → map share_at after ≡ map share_at before
same_shares [] [] long same = refl
same_shares [] (v ∷ after) long same = absurd (omega arith)
same_shares (w ∷ before) [] long same = absurd (omega arith)
same_shares (w ∷ before) (v ∷ after) long same =
    let first = same 0 w (omega arith) in
    ap₂ (λ (n : ℕ) (ns : List ℕ). n ∷ ns) first.share (same_shares before after (omega arith) (same_rest w v before after same))

shares_of_ports : (workers : List WorkerTold) → map links_of (map (λ w. w.port) workers) ≡ map share_at workers
shares_of_ports [] = refl
shares_of_ports (w ∷ workers) = ap (λ (ns : List ℕ). links_of w.port ∷ ns) (shares_of_ports workers)

pub kept_shares : (before after : List WorkerTold) (old new : List PortTold) → length after ≡ length before → AtEach before after
    → map (λ w. w.port) before ≡ old → new ≡ map (λ w. w.port) after → map links_of new ≡ map links_of old
kept_shares before after old new long same old_is new_is =
    ap (λ (ps : List PortTold). map links_of ps) new_is
    ∙ (shares_of_ports after
    ∙ (same_shares before after long same
    ∙ (sym (shares_of_ports before) ∙ ap (λ (ps : List PortTold). map links_of ps) old_is)))

abbrev IsSure : WorkerTold → Type 0
IsSure w = w.faultless ≡ true

abbrev IsQuietWorker : WorkerTold → Type 0
IsQuietWorker w = IsUnfailing w.end

unfailing : (before after : List WorkerTold) → length after ≡ length before → AtEach before after → All IsSure before → All IsQuietWorker after
unfailing [] [] long same sure = All-nil IsQuietWorker
unfailing [] (v ∷ after) long same sure = absurd (omega arith)
unfailing (w ∷ before) [] long same sure = absurd (omega arith)
unfailing (w ∷ before) (v ∷ after) long same sure =
    let first = same 0 w (omega arith) in
    All-cons IsQuietWorker v after (first.unfailing (All-head IsSure w before sure))
    (unfailing before after (omega arith) (same_rest w v before after same) (All-tail IsSure w before sure))

-- where no port fails, no worker does
pub all_unfailing : {Q : Type 0} (faultless : Q → Bool) (ports : List Q) (before after : List WorkerTold) → length after ≡ length before → AtEach before after
    → map (λ w. w.faultless) before ≡ map faultless ports → All (λ p. faultless p ≡ true) ports → All (λ w. IsUnfailing w.end) after
all_unfailing faultless ports before after long same is sure =
    let told : All (λ b. b ≡ true) (map faultless ports) = All-map (λ b. b ≡ true) faultless ports sure in
    unfailing before after long same (All-mapped (λ b. b ≡ true) (λ (w : WorkerTold). w.faultless) before (subst (All (λ b. b ≡ true)) (sym is) told))
