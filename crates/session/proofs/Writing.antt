-- What several writes come to.
use Rattle.std.proofs.Common.{◌≡◌, ◌≤◌, ◌<◌, ◌+◌, ◌-◌, ◌∙◌, ℕ, List, [], ◌++◌, length, take, refl, sym, ap, subst, arith, length-append, append_assoc}
use Rattle.std.specs.Prelude.{Option, Some, None, IfSome}
use Rattle.std.proofs.lemmas.List.{append-nil}
use Rattle.std.proofs.Math.Seq.{take-append-add}
use Rattle.pb_outside.specs.Faults.{Rose}
use Rattle.pb_outside.specs.Sink.{SinkTold, TakesPiece, TakesFront, Takes, Refuses}
use Rattle.session.specs.Session.{WriteFails}
use Rattle.session.specs.declared.end.WriteFault.{WriteFault}

-- ---- nothing is written

no_piece : (taken : Option (List ℕ)) → TakesPiece [] taken taken
no_piece None = tt
no_piece (Some bytes) = ap (λ (b : List ℕ). Some b) (sym (append-nil bytes))

abbrev RoomAfter : ℕ → Option ℕ → Option ℕ → Type 0
RoomAfter used room room' = IfSome room (λ bytes. room' ≡ Some (bytes - used))

no_room_used : (room : Option ℕ) → RoomAfter 0 room room
no_room_used None = tt
no_room_used (Some bytes) = let same : bytes ≡ bytes - 0 = omega arith in ap (λ (n : ℕ). Some n) same

pub takes_nothing : (s : SinkTold) → Takes [] s s
takes_nothing s = record { text = no_piece s.taken; room = no_room_used s.room; count = refl }

-- ---- two pieces

two_pieces : (a b : List ℕ) (x y z : Option (List ℕ)) → TakesPiece a x y → TakesPiece b y z → TakesPiece (a ++ b) x z
two_pieces a b None y z first second = tt
two_pieces a b (Some bytes) y z first second =
    let last : z ≡ Some ((bytes ++ a) ++ b) = subst (λ (o : Option (List ℕ)). TakesPiece b o z) first second in
    last ∙ ap (λ (t : List ℕ). Some t) (append_assoc bytes a b)

room_twice : (a b : ℕ) (x y z : Option ℕ) → RoomAfter a x y → RoomAfter b y z → RoomAfter (a + b) x z
room_twice a b None y z first second = tt
room_twice a b (Some bytes) y z first second =
    let last : z ≡ Some (bytes - a - b) = subst (λ (o : Option ℕ). RoomAfter b o z) first second in
    let same : bytes - a - b ≡ bytes - (a + b) = omega arith in
    last ∙ ap (λ (n : ℕ). Some n) same

pub takes_both : (a b : List ℕ) (x y z : SinkTold) → Takes a x y → Takes b y z → Takes (a ++ b) x z
takes_both a b x y z first second = record {
  text = two_pieces a b x.taken y.taken z.taken first.text second.text;
  room = subst (λ (n : ℕ). RoomAfter n x.room z.room) (sym (length-append a b)) (room_twice (length a) (length b) x.room y.room z.room first.room second.room);
  count = second.count ∙ first.count;
}

-- ---- the second of two pieces was refused

front_of_two : (a b : List ℕ) (x y z : Option (List ℕ)) → TakesPiece a x y → TakesFront b y z → TakesFront (a ++ b) x z
front_of_two a b None y z first second = tt
front_of_two a b (Some bytes) y z first second =
    let last : TakesFront b (Some (bytes ++ a)) z = subst (λ (o : Option (List ℕ)). TakesFront b o z) first second in (
      length a + last.0,
      last.1 ∙ ap (λ (t : List ℕ). Some t) (append_assoc bytes a (take last.0 b) ∙ ap (λ (t : List ℕ). bytes ++ t) (sym (take-append-add a b last.0))),
    )

abbrev NoRoom : ℕ → Option ℕ → Type 0
NoRoom used room = IfSome room (λ bytes. bytes < used)

no_room_for_two : (a b : ℕ) (x y : Option ℕ) → RoomAfter a x y → NoRoom b y → NoRoom (a + b) x
no_room_for_two a b None y first second = tt
no_room_for_two a b (Some bytes) y first second =
    let last : bytes - a < b = subst (λ (o : Option ℕ). NoRoom b o) first second in omega arith

refuses_two : (a b : List ℕ) (x y z : SinkTold) → Takes a x y → Refuses b y z → Refuses (a ++ b) x z
refuses_two a b x y z first second = record {
  rose = subst (λ (n : ℕ). Rose n z.faults) first.count second.rose;
  front = front_of_two a b x.taken y.taken z.taken first.text second.front;
  no_room = subst (λ (n : ℕ). NoRoom n x.room) (sym (length-append a b)) (no_room_for_two (length a) (length b) x.room y.room first.room second.no_room);
  never_falls = subst (λ (n : ℕ). n ≤ z.faults) first.count second.never_falls;
}

pub fails_behind : (a b : List ℕ) (x y z : SinkTold) (fault : WriteFault) → Takes a x y → WriteFails b y z fault → WriteFails (a ++ b) x z fault
fails_behind a b x y z fault first second = record {
  count_before = second.count_before ∙ first.count;
  count_after = second.count_after;
  refused = refuses_two a b x y z first second.refused;
}
