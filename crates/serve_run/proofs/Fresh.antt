-- Workers and passes that have done nothing yet.
use Rattle.std.proofs.Common.{◌≡◌, ◌∙◌, ℕ, zero, suc, ◌+◌, List, [], ◌∷◌, ◌++◌, length, true, false, refl, sym, ap, append_assoc, length-append, arith}
use Rattle.std.specs.Prelude.{All, map}
use Rattle.std.proofs.lemmas.List.{map-append}
use Rattle.std.proofs.lemmas.List.Elements.{All-nil, All-push, All-head, All-tail, All-cons}
use Rattle.pb_door.specs.PortTold.{PortTold, new_port, new_ports, numbers_below, ports_below, share_of}
use Rattle.turn_book.specs.Standing.{Opened}
use Rattle.order_desk.specs.Tables.{State}
use Rattle.serve_run.specs.Work.{links_of}
use Rattle.serve_run.specs.Workers.{IsFresh, IsUnused, Passed}

-- what is left of a pass when some of its calls were cut off
pub fresh_kept : (book : Opened State) (pass kept : Passed) → kept.table ≡ pass.table → kept.seen ≡ pass.seen → kept.own ≡ pass.own
    → IsFresh book pass.left pass → IsFresh book kept.left kept
fresh_kept book pass kept table seen own fresh = record {
  table = table ∙ fresh.table;
  seen = seen ∙ fresh.seen;
  own = own ∙ fresh.own;
  left = refl;
}

-- what was cut off
pub fresh_cut : (book : Opened State) (share : ℕ) (pass cut : Passed) → cut.table ≡ pass.table → cut.seen ≡ pass.seen → cut.own ≡ [] → cut.left ≡ share
    → IsFresh book pass.left pass → IsFresh book share cut
fresh_cut book share pass cut table seen own left fresh = record {
  table = table ∙ fresh.table;
  seen = seen ∙ fresh.seen;
  own = own;
  left = left;
}

-- what is said of those done and those to come, as one more is done
pub moved : {X Y Z : Type 0} (f : X → Z) (g : Y → Z) (xs : List X) (x : X) (y : Y) (ys : List Y) (all : List Z) → map f xs ++ map g (y ∷ ys) ≡ all
    → f x ≡ g y → map f (xs ++ x ∷ []) ++ map g ys ≡ all
moved f g xs x y ys all h is =
    ap (λ (l : List _). l ++ map g ys) (map-append f xs (x ∷ []))
    ∙ (append_assoc (map f xs) (f x ∷ []) (map g ys) ∙ (ap (λ z. map f xs ++ z ∷ map g ys) is ∙ h))

-- the same, where what is done is known as a list of its own
pub moved_on : {Z : Type 0} (done more zs all : List Z) (z : Z) → done ++ z ∷ zs ≡ all → more ≡ done ++ z ∷ [] → more ++ zs ≡ all
moved_on done more zs all z h is = ap (λ (l : List _). l ++ zs) is ∙ (append_assoc done (z ∷ []) zs ∙ h)

pub map_push : {X Y : Type 0} (xs all : List X) (f : X → Y) (x : X) (y : Y) → all ≡ xs ++ x ∷ [] → f x ≡ y → map f all ≡ map f xs ++ y ∷ []
map_push xs all f x y is at = ap (λ (l : List _). map f l) is ∙ (map-append f xs (x ∷ []) ∙ ap (λ z. map f xs ++ z ∷ []) at)

pub map_none : {X Y : Type 0} (xs : List X) (f : X → Y) → xs ≡ [] → map f xs ≡ []
map_none xs f none = ap (λ (l : List _). map f l) none

-- ---- new ports

unused_port : (number left : ℕ) → IsUnused (new_port number left)
unused_port number left = record { given = refl; ended = refl; none_out = refl; no_faults = refl }

unused_ports : (links workers n : ℕ) → All IsUnused (ports_below links workers n)
unused_ports links workers zero = All-nil IsUnused
unused_ports links workers (suc n) =
    All-push IsUnused (ports_below links workers n) (new_port n (share_of links workers n)) (unused_ports links workers n) (unused_port n (share_of links workers n))

pub length_ports : (links workers n : ℕ) → length (ports_below links workers n) ≡ n
length_ports links workers zero = refl
length_ports links workers (suc n) = omega (arith, length-append (ports_below links workers n) (new_port n (share_of links workers n) ∷ []), length_ports links workers n)

pub numbers_ports : (links workers n : ℕ) → map (λ p. p.number) (ports_below links workers n) ≡ numbers_below n
numbers_ports links workers zero = refl
numbers_ports links workers (suc n) =
    map-append (λ (p : PortTold). p.number) (ports_below links workers n) (new_port n (share_of links workers n) ∷ []) ∙ ap (λ (l : List ℕ). l ++ n ∷ []) (numbers_ports links workers n)

pub shares_ports : (links workers n : ℕ) → map links_of (ports_below links workers n) ≡ map (share_of links workers) (numbers_below n)
shares_ports links workers zero = refl
shares_ports links workers (suc n) =
    let one : share_of links workers n + 0 ≡ share_of links workers n = omega arith in
    map-append links_of (ports_below links workers n) (new_port n (share_of links workers n) ∷ [])
    ∙ (ap (λ (l : List ℕ). l ++ (share_of links workers n + 0) ∷ []) (shares_ports links workers n)
    ∙ (ap (λ (k : ℕ). map (share_of links workers) (numbers_below n) ++ k ∷ []) one
    ∙ sym (map-append (share_of links workers) (numbers_below n) (n ∷ []))))

pub All-mapped : {X Y : Type 0} (P : Y → Type 0) (f : X → Y) (xs : List X) → All P (map f xs) → All (λ x. P (f x)) xs
All-mapped P f [] h = All-nil (λ x. P (f x))
All-mapped P f (x ∷ xs) h = All-cons (λ y. P (f y)) x xs (All-head P (f x) (map f xs) h) (All-mapped P f xs (All-tail P (f x) (map f xs) h))

pub new_are_unused : {Q : Type 0} (told : Q → PortTold) (links workers : ℕ) (ports : List Q) → map told ports ≡ new_ports links workers → All (λ p. IsUnused (told p)) ports
new_are_unused told links workers ports is = All-mapped IsUnused told ports (rw is (unused_ports links workers workers))
