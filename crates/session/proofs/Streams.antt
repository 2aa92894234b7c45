-- Streams, where they are told.
use Rattle.std.proofs.Common.{◌≡◌, ◌∙◌, ℕ, Bool, true, false, List, [], ◌∷◌, ◌++◌, take, drop, refl, sym, ap, subst, inl, inr}
use Rattle.std.specs.Prelude.{Option, Some, None, IfSome, MatchBool, nat_lt, Result, Ok, Err, codes, if◌then◌else◌}
use Rattle.http_wire.specs.Fields.{body_length, values_of}
use Rattle.http_wire.specs.Front.{front}
use Rattle.http_wire.specs.Items.{ReadsFront, ReadsHead, ReadsBody, Items, Last, ended, refused, closed}
use Rattle.http_wire.specs.Parts.{HeadParts, parts_of}
use Rattle.http_wire.specs.Reading.{field_lines, judge, with_length, lacks_host, is_coded, ReadsLines, ReadsBlock}
use Rattle.http_wire.specs.Stream.{StreamStep}
use Rattle.http_wire.specs.declared.front.Front.{Front}
use Rattle.http_wire.specs.declared.front.Front.TheVariants.{End as NoMore, Bad as NoHead, Block}
use Rattle.http_wire.specs.declared.head.Head.{Head as Kept}
use Rattle.http_wire.specs.declared.head.HeadStep.TheVariants.{Head, End, Bad}
use Rattle.http_wire.specs.declared.refusal.Refusal.{Refusal}
use Rattle.http_wire.specs.declared.refusal.Refusal.TheVariants.{Malformed, LongHead, Coded}
use Rattle.http_wire.specs.declared.message.Message.{Message as Whole}
use Rattle.http_wire.specs.declared.message.BodyStep.TheVariants.{Message}
use Rattle.session.specs.Reading.{Stop, whole, unread, wanting, ReadsMessage, Reads}
use Rattle.session.specs.Steps.{stream_of, ReadsOn}

-- ---- what is held and what is left

pub stream_of-nothing : (left : Option (List ℕ)) → stream_of [] left ≡ left
stream_of-nothing None = refl
stream_of-nothing (Some bytes) = refl

pub reads_on : (R : List ℕ → List ℕ → Type 0) (held held' : List ℕ) (left left' : Option (List ℕ)) → StreamStep R held left held' left'
    → ReadsOn R (stream_of held left) (stream_of held' left')
reads_on R held held' None left' step = tt
reads_on R held held' (Some bytes) None step = absurd step
reads_on R held held' (Some bytes) (Some rest) step = step

-- one read after another
pub reads_on-then : (R Q P : List ℕ → List ℕ → Type 0) → ((s t u : List ℕ) → R s t → Q t u → P s u) → (x y z : Option (List ℕ))
    → ReadsOn R x y → ReadsOn Q y z → ReadsOn P x z
reads_on-then R Q P both None y z first second = tt
reads_on-then R Q P both (Some s) None z first second = absurd first
reads_on-then R Q P both (Some s) (Some t) None first second = absurd second
reads_on-then R Q P both (Some s) (Some t) (Some u) first second = both s t u first second

-- what is true of what is behind
pub told_behind : (R : List ℕ → List ℕ → Type 0) (P Q : List ℕ → Type 0) → ((s t : List ℕ) → R s t → P t → Q s) → (x y : Option (List ℕ))
    → ReadsOn R x y → IfSome y P → IfSome x Q
told_behind R P Q so None y first here = tt
told_behind R P Q so (Some s) None first here = absurd first
told_behind R P Q so (Some s) (Some t) first here = so s t first here

pub told_first : (R : List ℕ → List ℕ → Type 0) (Q : List ℕ → Type 0) → ((s t : List ℕ) → R s t → Q s) → (x y : Option (List ℕ)) → ReadsOn R x y → IfSome x Q
told_first R Q so None y first = tt
told_first R Q so (Some s) None first = absurd first
told_first R Q so (Some s) (Some t) first = so s t first

-- ---- the end of a stream

-- a head's block comes to a head or a refusal
not_judged : (p : HeadParts) → judge p ≡ End → ⊥
not_judged p is = at (lacks_host p) (is_coded p) (body_length (values_of (codes "Content-Length") p.fields)) is
  where
    at : (hostless coded : Bool) (body : Result ℕ Refusal) → (if hostless then Bad Malformed else (if coded then Bad Coded else with_length p body)) ≡ End → ⊥
    at true coded body h = cc
    at false true body h = cc
    at false false (Ok len) h = cc
    at false false (Err refusal) h = cc

no_block_ends : (block : List ℕ) → ReadsBlock block End → ⊥
no_block_ends block reads = at (nat_lt 64 (field_lines block)) reads
  where
    at : (many : Bool) → MatchBool many (End ≡ Bad LongHead) (ReadsLines block End) → ⊥
    at true h = cc
    at false (inl (h, read, is)) = not_judged (parts_of h) (sym is)
    at false (inr (none, is)) = cc

pub nothing_behind : (s rest : List ℕ) → ReadsHead End s rest → rest ≡ []
nothing_behind s rest reads = at (front s) reads
  where
    at : (found : Front) → ReadsFront found End s rest → rest ≡ []
    at NoMore h = h.1
    at (NoHead refusal) h = let is : End ≡ Bad refusal = h.0 in absurd (cc)
    at (Block skipped n) h = absurd (no_block_ends (take n (drop skipped s)) h.0)

pub stops_ended : (s rest : List ℕ) → ReadsHead End s rest → Items s [] ended
stops_ended s rest reads = subst (λ (r : List ℕ). ReadsHead End s r) (nothing_behind s rest reads) reads

-- what is refused stays
pub stays_refused : (refusal : Refusal) (s rest : List ℕ) → ReadsHead (Bad refusal) s rest → rest ≡ s
stays_refused refusal s rest reads = at (front s) reads
  where
    at : (found : Front) → ReadsFront found (Bad refusal) s rest → rest ≡ s
    at NoMore h = let is : Bad refusal ≡ End = h.0 in absurd (cc)
    at (NoHead other) h = h.1
    at (Block skipped n) h = h.1

pub stops_refused : (refusal : Refusal) (s rest : List ℕ) → ReadsHead (Bad refusal) s rest → Items s [] (refused refusal)
stops_refused refusal s rest reads = subst (λ (r : List ℕ). ReadsHead (Bad refusal) s r) (stays_refused refusal s rest reads) reads

-- at an end nothing is left, behind what is held
pub nothing_left : (held rest : List ℕ) → held ++ rest ≡ [] → rest ≡ []
nothing_left [] rest is = is
nothing_left (b ∷ held) rest is = absurd (cc)

-- ---- messages

pub reads_message : (head : Kept) (m : Whole) (s t u : List ℕ) → ReadsHead (Head head) s t → ReadsBody head (Message m) t u → ReadsMessage m s u
reads_message head m s t u reads body = record {
  behind = t;
  head = subst (λ (h : Kept). ReadsHead (Head h) s t) (sym body.0) reads;
  body = body.1;
  next = body.2 ∙ ap (λ (h : Kept). drop h.length t) (sym body.0);
}

items_open : (close : Bool) (messages : List Whole) (last : Last) (rest : List ℕ) → close ≡ false → Items rest messages last
    → MatchBool close ((messages ≡ []) × (last ≡ closed)) (Items rest messages last)
items_open false messages last rest stays items = items
items_open true messages last rest stays items = absurd (cc)

items_closed : (close : Bool) (messages : List Whole) (last : Last) (rest : List ℕ) → close ≡ true → messages ≡ [] → last ≡ closed
    → MatchBool close ((messages ≡ []) × (last ≡ closed)) (Items rest messages last)
items_closed true messages last rest closes none is = (none, is)
items_closed false messages last rest closes none is = absurd (cc)

-- a message in front
pub reads-cons : (stop : Stop) (m : Whole) (messages : List Whole) (s rest : List ℕ) → ReadsMessage m s rest → m.head.close ≡ false → Reads stop rest messages
    → Reads stop s (m ∷ messages)
reads-cons (whole last) m messages s rest reads stays more = (
  reads.behind,
  reads.head,
  reads.body,
  items_open m.head.close messages last (drop m.head.length reads.behind) stays (subst (λ (r : List ℕ). Items r messages last) reads.next more),
)
reads-cons (unread head) m messages s rest reads stays more = (rest, reads, stays, more)
reads-cons (wanting head) m messages s rest reads stays more = (rest, reads, stays, more)

-- a message that closes
pub reads_closed : (m : Whole) (s rest : List ℕ) → ReadsMessage m s rest → m.head.close ≡ true → Reads (whole closed) s (m ∷ [])
reads_closed m s rest reads closes =
    (reads.behind, reads.head, reads.body, items_closed m.head.close [] closed (drop m.head.length reads.behind) closes refl refl)

-- one message, and nothing is known of what is behind it
pub reads_one : (m : Whole) (s rest : List ℕ) → ReadsMessage m s rest → m.head.close ≡ false → Reads (unread None) s (m ∷ [])
reads_one m s rest reads stays = (rest, reads, stays, tt)
