-- Entries among others: what is to blame by them, and which cars there are.
use Rattle.std.proofs.Common.{◌≡◌, ℕ, Bool, true, List, Option, None, Some, IfSome, sym, subst, arith, All}
use Rattle.std.proofs.lemmas.List.Elements.{recursion_from_All, All-from_recursion}
use Rattle.pb_base.specs.Rule.{Rule}
use Rattle.book_model.specs.Contents.{Contents}
use Rattle.clausify.proofs.ItemLaws.{length_from_good}
use Rattle.blame.specs.Blame.{AreBlamed, AreFew, IsNone, IsMetBy, IsBlame, IsCar, IsNoCar}
use Rattle.blame.specs.Entries.{meets_entry, meets_all, all_entries, Among, EntryFits}
use Rattle.blame.specs.declared.entries.Entry.{Entry}
use Rattle.blame.specs.declared.blamed.Blamed.{Blamed}
use Rattle.blame.proofs.EntryLaws.{good_from_all, chosen_from_all, all_from_good}
use Rattle.blame.proofs.ListLaws.{among_among, length-among, all_among, list_all-among}

pub fit_among : (b : Contents) (day : ℕ) (all m : List Entry) → All (EntryFits b day) all → Among all m → All (EntryFits b day) m
fit_among b day all m fit among =
    All-from_recursion (EntryFits b day) m (all_among (EntryFits b day) all m (recursion_from_All (EntryFits b day) all fit) among)

pub few_among : (all m : List Entry) → AreFew all → Among all m → AreFew m
few_among all m few among = omega (arith, few, length-among all m among)

-- a set that meets all entries is a car
pub car_by : (b : Contents) (day : ℕ) (f : Rule) (chosen : List ℕ) (all : List Entry) (x : List Bool) → all ≡ all_entries b day chosen → IsMetBy b day f all x → IsCar b day chosen f x
car_by b day f chosen all x is h =
    let met : meets_all b day x (all_entries b day chosen) ≡ true = subst (λ (m : List Entry). meets_all b day x m ≡ true) is h.meets in
    record { good = good_from_all b day chosen x h.counted met; has_chosen = chosen_from_all b day chosen x met; holds_there = h.holds_there }

pub moved_among : (all slice m seen : List Entry) → slice ≡ all → seen ≡ m → Among slice m → Among all seen
moved_among all slice m seen same also among = subst (Among all) (sym also) (subst (λ (es : List Entry). Among es m) same among)

-- where no set meets all entries and the rule, no car with the codes meets it
pub no_car_by : (b : Contents) (day : ℕ) (f : Rule) (chosen : List ℕ) (all : List Entry) → all ≡ all_entries b day chosen → IsNone b day f all → IsNoCar b day chosen f
no_car_by b day f chosen all is none x good there =
    none x (length_from_good b day x good) (subst (λ (m : List Entry). meets_all b day x m ≡ true) (sym is) (all_from_good b day chosen x good there))

-- where none meets some of them
none_among : (b : Contents) (day : ℕ) (f : Rule) (all m : List Entry) → Among all m → IsNone b day f m → IsNone b day f all
none_among b day f all m among none x counted met = none x counted (list_all-among (meets_entry b day x) all m among met)

pub blamed_by : (b : Contents) (day : ℕ) (f : Rule) (budget : ℕ) (chosen : List ℕ) (all first : List Entry) (m : Blamed) → all ≡ all_entries b day chosen → Among all first
    → Among first m.entries.items → IsBlame b day f budget m.entries.items m.needed.items → AreBlamed b day chosen f budget m
blamed_by b day f budget chosen all first m is among among_first blame =
    let some : Among all m.entries.items = among_among all first m.entries.items among among_first in
    record {
      no_car = no_car_by b day f chosen all is (none_among b day f all m.entries.items some blame.none);
      among = subst (λ (es : List Entry). Among es m.entries.items) is some;
      blame = blame;
    }

pub hinted_by : (b : Contents) (day : ℕ) (f : Rule) (budget : ℕ) (chosen : List ℕ) (all first : List Entry) (found : Option Blamed) → all ≡ all_entries b day chosen → Among all first
    → IfSome found (λ m. Among first m.entries.items) → IfSome found (λ m. IsBlame b day f budget m.entries.items m.needed.items) → IfSome found (AreBlamed b day chosen f budget)
hinted_by b day f budget chosen all first None is among among_first blame = tt
hinted_by b day f budget chosen all first (Some m) is among among_first blame = blamed_by b day f budget chosen all first m is among among_first blame
