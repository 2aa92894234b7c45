-- A stream has one reading.
use Rattle.std.proofs.Common.{◌≡◌, ◌+◌, ◌∙◌, ℕ, Bool, true, false, List, [], ◌∷◌, length, take, drop, refl, sym, ap, subst, arith, inl, inr}
use Rattle.std.specs.Prelude.{MatchBool, nat_lt}
use Rattle.httparse.specs.Grammar.{RequestHead}
use Rattle.httparse.proofs.GrammarLemmas.{request_unique}
use Rattle.http_wire.specs.declared.front.Front.{Front}
use Rattle.http_wire.specs.declared.front.Front.TheVariants.{End as NoMore, Bad as NoHead, Block}
use Rattle.http_wire.specs.declared.head.Head.{Head as Kept}
use Rattle.http_wire.specs.declared.head.HeadStep.{HeadStep}
use Rattle.http_wire.specs.declared.head.HeadStep.TheVariants.{Head, End, Bad}
use Rattle.http_wire.specs.declared.refusal.Refusal.TheVariants.{LongHead}
use Rattle.http_wire.specs.declared.message.Message.{Message}
use Rattle.http_wire.specs.Front.{front}
use Rattle.http_wire.specs.Parts.{parts_of}
use Rattle.http_wire.specs.Reading.{field_lines, judge, ReadsLines, ReadsBlock}
use Rattle.http_wire.specs.Items.{behind, ReadsFront, ReadsHead, HasBody, Last, ended, refused, cut, closed, Stops, Items}

lines_once : (block : List ℕ) (a b : HeadStep) → ReadsLines block a → ReadsLines block b → a ≡ b
lines_once block a b (inl (h, reads, is_a)) (inl (k, other, is_b)) =
    let same = request_unique block h k [] [] reads other in
    is_a ∙ ap (λ (head : RequestHead). judge (parts_of head)) same.0 ∙ sym is_b
lines_once block a b (inl (h, reads, is_a)) (inr (none, is_b)) = absurd (none h reads)
lines_once block a b (inr (none, is_a)) (inl (k, other, is_b)) = absurd (none k other)
lines_once block a b (inr (none, is_a)) (inr (never, is_b)) = is_a ∙ sym is_b

block_once : (block : List ℕ) (a b : HeadStep) → ReadsBlock block a → ReadsBlock block b → a ≡ b
block_once block a b reads other = by_test (nat_lt 64 (field_lines block)) reads other where
  by_test : (many : Bool) → MatchBool many (a ≡ Bad LongHead) (ReadsLines block a) → MatchBool many (b ≡ Bad LongHead) (ReadsLines block b) → a ≡ b
  by_test true reads other = reads ∙ sym other
  by_test false reads other = lines_once block a b reads other

head_once : (s : List ℕ) (a b : HeadStep) (r q : List ℕ) → ReadsHead a s r → ReadsHead b s q → (a ≡ b) × (r ≡ q)
head_once s a b r q reads other = at (front s) reads other where
  at : (found : Front) → ReadsFront found a s r → ReadsFront found b s q → (a ≡ b) × (r ≡ q)
  at NoMore reads other = (reads.0 ∙ sym other.0, reads.1 ∙ sym other.1)
  at (NoHead status) reads other = (reads.0 ∙ sym other.0, reads.1 ∙ sym other.1)
  at (Block skipped n) reads other =
      let same = block_once (take n (drop skipped s)) a b reads.0 other.0 in
      (same, reads.1 ∙ ap (λ (step : HeadStep). behind step (skipped + n) s) same ∙ sym other.1)

stop_once : (s : List ℕ) (l k : Last) → Stops s l → Stops s k → l ≡ k
stop_once s ended ended a b = refl
stop_once s ended (refused t) a b = let e = head_once s End (Bad t) [] s a b in let f = e.0 in absurd (cc)
stop_once s ended (cut h) a b = let e = head_once s End (Head h) [] b.0 a b.1 in let f = e.0 in absurd (cc)
stop_once s ended closed a b = absurd b
stop_once s (refused t) ended a b = let e = head_once s (Bad t) End s [] a b in let f = e.0 in absurd (cc)
stop_once s (refused t) (refused u) a b = let e = head_once s (Bad t) (Bad u) s s a b in let f : Bad t ≡ Bad u = e.0 in ap refused (cc)
stop_once s (refused t) (cut h) a b = let e = head_once s (Bad t) (Head h) s b.0 a b.1 in let f = e.0 in absurd (cc)
stop_once s (refused t) closed a b = absurd b
stop_once s (cut h) ended a b = let e = head_once s (Head h) End a.0 [] a.1 b in let f = e.0 in absurd (cc)
stop_once s (cut h) (refused t) a b = let e = head_once s (Head h) (Bad t) a.0 s a.1 b in let f = e.0 in absurd (cc)
stop_once s (cut h) (cut g) a b = let e = head_once s (Head h) (Head g) a.0 b.0 a.1 b.1 in let f : Head h ≡ Head g = e.0 in ap cut (cc)
stop_once s (cut h) closed a b = absurd b
stop_once s closed k a b = absurd a

-- a stream that stops has no message
stops_here : (s : List ℕ) (l : Last) (m : Message) (rest : List ℕ) → Stops s l → ReadsHead (Head m.head) s rest → HasBody m rest → ⊥
stops_here s ended m rest a b has = let e = head_once s End (Head m.head) [] rest a b in let f = e.0 in cc
stops_here s (refused t) m rest a b has = let e = head_once s (Bad t) (Head m.head) s rest a b in let f = e.0 in cc
stops_here s (cut h) m rest a b has =
    let e = head_once s (Head h) (Head m.head) a.0 rest a.1 b in
    let f : Head h ≡ Head m.head = e.0 in
    let same : h ≡ m.head = cc in
    let len : h.length ≡ m.head.length = ap (λ (head : Kept). head.length) same in
    let left : length a.0 ≡ length rest = ap length e.1 in
    omega (arith, len, left, a.2, has.0)
stops_here s closed m rest a b has = a

tail_once : (is_close : Bool) (ms ns : List Message) (l k : Last) (rest : List ℕ) → (Items rest ms l → Items rest ns k → (ms ≡ ns) × (l ≡ k))
    → MatchBool is_close ((ms ≡ []) × (l ≡ closed)) (Items rest ms l) → MatchBool is_close ((ns ≡ []) × (k ≡ closed)) (Items rest ns k) → (ms ≡ ns) × (l ≡ k)
tail_once true ms ns l k rest later a b = (a.0 ∙ sym b.0, a.1 ∙ sym b.1)
tail_once false ms ns l k rest later a b = later a b

pub reads_once : (s : List ℕ) (ms ns : List Message) (l k : Last) → Items s ms l → Items s ns k → (ms ≡ ns) × (l ≡ k)
reads_once s [] [] l k a b = (refl, stop_once s l k a b)
reads_once s [] (n ∷ ns) l k a b = absurd (stops_here s l n b.0 a b.1 b.2)
reads_once s (m ∷ ms) [] l k a b = absurd (stops_here s k m a.0 b a.1 a.2)
reads_once s (m ∷ ms) (n ∷ ns) l k a b =
    let e = head_once s (Head m.head) (Head n.head) a.0 b.0 a.1 b.1 in
    let f : Head m.head ≡ Head n.head = e.0 in
    let head : m.head ≡ n.head = cc in
    let body : m.body ≡ n.body = a.2.1 ∙ ap (λ (h : Kept). take h.length a.0) head ∙ ap (λ (r : List ℕ). take n.head.length r) e.1 ∙ sym b.2.1 in
    let here : m ≡ n = λ i. record { head = head i; body = body i } in
    let by_head : MatchBool m.head.close ((ns ≡ []) × (k ≡ closed)) (Items (drop m.head.length b.0) ns k) =
    subst (λ (h : Kept). MatchBool h.close ((ns ≡ []) × (k ≡ closed)) (Items (drop h.length b.0) ns k)) (sym head) b.3 in
    let by_rest : MatchBool m.head.close ((ns ≡ []) × (k ≡ closed)) (Items (drop m.head.length a.0) ns k) =
    subst (λ (r : List ℕ). MatchBool m.head.close ((ns ≡ []) × (k ≡ closed)) (Items (drop m.head.length r) ns k)) (sym e.1) by_head in
    let tail = tail_once m.head.close ms ns l k (drop m.head.length a.0) (λ x y. reads_once (drop m.head.length a.0) ms ns l k x y) a.3 by_rest in
    (λ i. here i ∷ tail.0 i, tail.1)
