-- Ports that are opened one after the other.
use Rattle.std.proofs.Common.{◌≡◌, ℕ, ◌+◌, List, [], ◌∷◌, ◌++◌, ap, sym, ◌∙◌, subst, add-one}
use Rattle.std.specs.Prelude.{All, map}
use Rattle.std.specs.List.{list_any}
use Rattle.std.proofs.lemmas.List.{map-append}
use Rattle.pb_door.specs.DoorTold.{has_failed}
use Rattle.pb_door.specs.MemoryDoor.{first_of, lists_below, plan_of, rest_after, rest_of}
use Rattle.pb_door.specs.MemoryPort.{PortState, told_by}
use Rattle.pb_door.specs.PortTold.{new_port, ports_below, share_of}
use Rattle.pb_door.proofs.Lists.{All-rest_after, list_any-map}

ports_below-next : (links workers n : ℕ) → ports_below links workers (n + 1) ≡ ports_below links workers n ++ new_port n (share_of links workers n) ∷ []
ports_below-next links workers n = ap (λ (k : ℕ). ports_below links workers k) (add-one n)

lists_below-next : {X : Type 0} (n : ℕ) (lists : List (List X)) → lists_below (n + 1) lists ≡ lists_below n lists ++ first_of (rest_after n lists) ∷ []
lists_below-next n lists = ap (λ (k : ℕ). lists_below k lists) (add-one n)

-- what is said of each of the items goes on with one more
map-more : {X Y : Type 0} (f : X → Y) (xs : List X) (x : X) (ys more : List Y) (y : Y) → map f xs ≡ ys → f x ≡ y → more ≡ ys ++ y ∷ [] → map f (xs ++ x ∷ []) ≡ more
map-more f xs x ys more y so is next = map-append f xs (x ∷ []) ∙ (ap (λ l. l ++ f x ∷ []) so ∙ (ap (λ z. ys ++ z ∷ []) is ∙ sym next))

pub told_next : (ports : List PortState) (p : PortState) (links workers n : ℕ) → map told_by ports ≡ ports_below links workers n
    → told_by p ≡ new_port n (share_of links workers n) → map told_by (ports ++ p ∷ []) ≡ ports_below links workers (n + 1)
told_next ports p links workers n so is = map-more told_by ports p _ _ _ so is (ports_below-next links workers n)

pub lists_next : {X Y : Type 0} (f : Y → List X) (ys : List Y) (y : Y) (n : ℕ) (lists : List (List X)) → map f ys ≡ lists_below n lists
    → f y ≡ first_of (rest_after n lists) → map f (ys ++ y ∷ []) ≡ lists_below (n + 1) lists
lists_next f ys y n lists so is = map-more f ys y _ _ _ so is (lists_below-next n lists)

pub plans_next : (ports : List PortState) (p : PortState) (n : ℕ) (lists : List (List ℕ)) → map (λ p. p.plan) ports ≡ map plan_of (lists_below n lists)
    → p.plan ≡ plan_of (first_of (rest_after n lists)) → map (λ p. p.plan) (ports ++ p ∷ []) ≡ map plan_of (lists_below (n + 1) lists)
plans_next ports p n lists so is =
    map-more (λ (q : PortState). q.plan) ports p _ _ _ so is
    (ap (λ (ls : List (List ℕ)). map plan_of ls) (lists_below-next n lists) ∙ map-append plan_of (lists_below n lists) (first_of (rest_after n lists) ∷ []))

-- the lists that are left after one more was taken
pub rest_next : {X : Type 0} (n : ℕ) (lists now next : List (List X)) → now ≡ rest_after n lists → next ≡ rest_of now → next ≡ rest_after (n + 1) lists
rest_next n lists now next so is = is ∙ (ap rest_of so ∙ sym (ap (λ (k : ℕ). rest_after k lists) (add-one n)))

pub All-next : {X : Type 0} (Q : List X → Type 0) (n : ℕ) (lists now : List (List X)) → now ≡ rest_after n lists → All Q lists → All Q now
All-next Q n lists now so h = subst (λ (ls : List (List _)). All Q ls) (sym so) (All-rest_after Q n lists h)

pub have_failed_told : (ports : List PortState) → list_any has_failed (map told_by ports) ≡ list_any (λ p. has_failed (told_by p)) ports
have_failed_told ports = list_any-map has_failed told_by ports
