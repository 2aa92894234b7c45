-- The names that the first pass gives without a fault are distinct and within their limits.
use Rattle.std.proofs.Common.{◌≡◌, ◌≤◌, ◌<◌, ◌+◌, ℕ, Bool, true, false, List, [], ◌∷◌, ◌++◌, length, Result, Ok, Err, refl, sym, subst, arith, append_assoc, if◌then◌else◌}
use Rattle.std.specs.Prelude.{is_some, nat_le}
use Rattle.std.specs.List.{IsDistinct}
use Rattle.std.proofs.lemmas.List.{length_push}
use Rattle.pb_base.specs.Names.{same_name, place_in}
use Rattle.pb_base.specs.declared.limits.TheConstants.{MOST_CODES, MOST_SUPPLEMENTS, MOST_CONSTRUCTS, MOST_GROUPS, MOST_MODULES, MOST_POSITIONS, MOST_VARIANTS}
use Rattle.book_text.specs.Rows.{Row}
use Rattle.book_text.specs.Entry.{entry_of}
use Rattle.book_text.specs.ConstructIds.{ConstructNames}
use Rattle.book_text.specs.Names.{no_names, added, added_where, added_rule, added_group, beside, entered}
use Rattle.book_text.specs.FirstPass.{entered_row, first_pass}
use Rattle.book_text.specs.declared.entry.Heading.{Heading}
use Rattle.book_text.specs.declared.names.Names.{Names}
use Rattle.book_text.specs.declared.entry.Entry.{Entry}
use Rattle.book_text.specs.declared.entry.Entry.TheVariants as e
use Rattle.book_text.specs.declared.fault.BookKind.{BookKind}
use Rattle.book_text.specs.declared.fault.BookKind.TheVariants.{Duplicate, Limit}
use Rattle.book_text.specs.declared.fault.Which.{Which}
use Rattle.book_text.specs.declared.fault.Which.TheVariants.{Codes, Supplements, Constructs, Groups, Modules, Positions, Variants}
use Rattle.book_text.proofs.DistinctLemmas.{IsAbsent, absent-from_place, absent-flipped, distinct-push, distinct-insert, absent-append}
use Rattle.book_text.proofs.Faultless.{and_then-Ok, pass-keeps}

-- what a name that was added shows
pub record IsAdded (full : Bool) (names : List (List ℕ)) (name : List ℕ) (new : List (List ℕ)) : Type 0 where
  pub absent : IsAbsent name names
  pub room : full ≡ false
  pub is : new ≡ names ++ name ∷ []

added-by : (found full : Bool) (which : Which) (names new : List (List ℕ)) → (if found then Err Duplicate else (if full then Err (Limit which) else Ok names)) ≡ Ok new
    → (found ≡ false) × (full ≡ false) × (new ≡ names)
added-by true full which names new h = cc
added-by false true which names new h = cc
added-by false false which names new h = (refl, refl, cc)

pub added_where-Ok : (full : Bool) (which : Which) (names : List (List ℕ)) (name : List ℕ) (new : List (List ℕ)) → added_where full which names name ≡ Ok new → IsAdded full names name new
added_where-Ok full which names name new h =
    let (found, room, is) = added-by (is_some (place_in names name)) full which (names ++ name ∷ []) new h in
    record { absent = absent-from_place names name found; room = room; is = is }

pub added-Ok : (limit : ℕ) (which : Which) (names : List (List ℕ)) (name : List ℕ) (new : List (List ℕ)) → added limit which names name ≡ Ok new → IsAdded (nat_le limit (length names)) names name new
added-Ok limit which names name new h = added_where-Ok (nat_le limit (length names)) which names name new h

beside-by : {A : Type 0} (found : Bool) (answer : Result A BookKind) (new : A) → (if found then Err Duplicate else answer) ≡ Ok new → (found ≡ false) × (answer ≡ Ok new)
beside-by true answer new h = cc
beside-by false answer new h = (refl, h)

pub beside-Ok : {A : Type 0} (others : List (List ℕ)) (name : List ℕ) (answer : Result A BookKind) (new : A) → beside others name answer ≡ Ok new → IsAbsent name others × (answer ≡ Ok new)
beside-Ok others name answer new h =
    let (found, rest) = beside-by (is_some (place_in others name)) answer new h in (absent-from_place others name found, rest)

-- a constructibility rule or a group more
pub record IsConstructAdded (c : ConstructNames) (id : List ℕ) (new : ConstructNames) (rules groups : ℕ) : Type 0 where
  pub absent : IsAbsent id c.ids
  pub is : new.ids ≡ c.ids ++ id ∷ []
  pub rules_are : new.rules ≡ c.rules + rules
  pub groups_are : new.groups ≡ c.groups + groups

pub added_rule-Ok : (c : ConstructNames) (id : List ℕ) (new : ConstructNames) → added_rule c id ≡ Ok new → (c.rules < MOST_CONSTRUCTS) × IsConstructAdded c id new 1 0
added_rule-Ok c id new h =
    let (ids, added, whole) = and_then-Ok (added_where (nat_le MOST_CONSTRUCTS c.rules) Constructs c.ids id) (λ ids. Ok (record c { ids = ids; rules = c.rules + 1 })) new h in
    let more = added_where-Ok (nat_le MOST_CONSTRUCTS c.rules) Constructs c.ids id ids added in
    let same : record c { ids = ids; rules = c.rules + 1 } ≡ new = cc in
    (grind (arith, more.room), subst (λ (n : ConstructNames). IsConstructAdded c id n 1 0) same (record { absent = more.absent; is = more.is; rules_are = refl; groups_are = omega arith }))

pub added_group-Ok : (c : ConstructNames) (id : List ℕ) (new : ConstructNames) → added_group c id ≡ Ok new → (c.groups < MOST_GROUPS) × IsConstructAdded c id new 0 1
added_group-Ok c id new h =
    let (ids, added, whole) = and_then-Ok (added_where (nat_le MOST_GROUPS c.groups) Groups c.ids id) (λ ids. Ok (record c { ids = ids; groups = c.groups + 1 })) new h in
    let more = added_where-Ok (nat_le MOST_GROUPS c.groups) Groups c.ids id ids added in
    let same : record c { ids = ids; groups = c.groups + 1 } ≡ new = cc in
    (grind (arith, more.room), subst (λ (n : ConstructNames). IsConstructAdded c id n 0 1) same (record { absent = more.absent; is = more.is; rules_are = omega arith; groups_are = refl }))

pub record ListFits (limit : ℕ) (names : List (List ℕ)) : Type 0 where
  pub within : length names ≤ limit
  pub distinct : IsDistinct same_name names

pub record RulesFit (supplements : List (List ℕ)) (constructs : ConstructNames) : Type 0 where
  pub supplements_within : length supplements ≤ MOST_SUPPLEMENTS
  pub rules_within : constructs.rules ≤ MOST_CONSTRUCTS
  pub groups_within : constructs.groups ≤ MOST_GROUPS
  pub distinct : IsDistinct same_name (supplements ++ constructs.ids)

pub record NamesFit (n : Names) : Type 0 where
  pub codes : ListFits MOST_CODES n.codes
  pub rules : RulesFit n.supplements n.constructs
  pub modules : ListFits MOST_MODULES n.modules
  pub positions : ListFits MOST_POSITIONS n.positions
  pub variants : ListFits MOST_VARIANTS n.variants

ListFits-added : (limit : ℕ) (which : Which) (names : List (List ℕ)) (name : List ℕ) (new : List (List ℕ)) → ListFits limit names → added limit which names name ≡ Ok new → ListFits limit new
ListFits-added limit which names name new fits h =
    let more = added-Ok limit which names name new h in
    let room : length names < limit = grind (arith, more.room) in
    subst (ListFits limit) (sym more.is) (record { within = omega (arith, length_push names name, room); distinct = distinct-push names name fits.distinct more.absent })

RulesFit-supplement : (supplements : List (List ℕ)) (constructs : ConstructNames) (id : List ℕ) (new : List (List ℕ)) → RulesFit supplements constructs
    → beside constructs.ids id (added MOST_SUPPLEMENTS Supplements supplements id) ≡ Ok new → RulesFit new constructs
RulesFit-supplement supplements constructs id new fits h =
    let (apart, adding) = beside-Ok constructs.ids id (added MOST_SUPPLEMENTS Supplements supplements id) new h in
    let more = added-Ok MOST_SUPPLEMENTS Supplements supplements id new adding in
    let room : length supplements < MOST_SUPPLEMENTS = grind (arith, more.room) in
    subst (λ (l : List (List ℕ)). RulesFit l constructs) (sym more.is) (record {
      supplements_within = omega (arith, length_push supplements id, room);
      rules_within = fits.rules_within;
      groups_within = fits.groups_within;
      distinct = distinct-insert supplements constructs.ids id fits.distinct (absent-flipped supplements id more.absent) apart;
    })

distinct-construct : (supplements : List (List ℕ)) (c new : ConstructNames) (id : List ℕ) (rules groups : ℕ) → IsDistinct same_name (supplements ++ c.ids)
    → IsAbsent id supplements → IsConstructAdded c id new rules groups → IsDistinct same_name (supplements ++ new.ids)
distinct-construct supplements c new id rules groups distinct apart more =
    subst (λ (l : List (List ℕ)). IsDistinct same_name (supplements ++ l)) (sym more.is)
    (subst (IsDistinct same_name) (append_assoc supplements c.ids (id ∷ [])) (distinct-push (supplements ++ c.ids) id distinct (absent-append supplements c.ids id apart more.absent)))

RulesFit-rule : (supplements : List (List ℕ)) (c : ConstructNames) (id : List ℕ) (new : ConstructNames) → RulesFit supplements c
    → beside supplements id (added_rule c id) ≡ Ok new → RulesFit supplements new
RulesFit-rule supplements c id new fits h =
    let (apart, adding) = beside-Ok supplements id (added_rule c id) new h in
    let (room, more) = added_rule-Ok c id new adding in
    record {
      supplements_within = fits.supplements_within;
      rules_within = omega (arith, more.rules_are, room);
      groups_within = omega (arith, more.groups_are, fits.groups_within);
      distinct = distinct-construct supplements c new id 1 0 fits.distinct apart more;
    }

RulesFit-group : (supplements : List (List ℕ)) (c : ConstructNames) (id : List ℕ) (new : ConstructNames) → RulesFit supplements c
    → beside supplements id (added_group c id) ≡ Ok new → RulesFit supplements new
RulesFit-group supplements c id new fits h =
    let (apart, adding) = beside-Ok supplements id (added_group c id) new h in
    let (room, more) = added_group-Ok c id new adding in
    record {
      supplements_within = fits.supplements_within;
      rules_within = omega (arith, more.rules_are, fits.rules_within);
      groups_within = omega (arith, more.groups_are, room);
      distinct = distinct-construct supplements c new id 0 1 fits.distinct apart more;
    }

NamesFit-entered : (n new : Names) (entry : Entry) → NamesFit n → entered n entry ≡ Ok new → NamesFit new
NamesFit-entered n new (e.Code name) fits h =
    let (l, is, whole) = and_then-Ok (added MOST_CODES Codes n.codes name) (λ l. Ok (record n { codes = l })) new h in
    let same : record n { codes = l } ≡ new = cc in
    subst NamesFit same (record { codes = ListFits-added MOST_CODES Codes n.codes name l fits.codes is; rules = fits.rules; modules = fits.modules; positions = fits.positions; variants = fits.variants })
NamesFit-entered n new (e.Supplement id rank code days) fits h =
    let (l, is, whole) = and_then-Ok (beside n.constructs.ids id (added MOST_SUPPLEMENTS Supplements n.supplements id)) (λ l. Ok (record n { supplements = l })) new h in
    let same : record n { supplements = l } ≡ new = cc in
    subst NamesFit same (record { codes = fits.codes; rules = RulesFit-supplement n.supplements n.constructs id l fits.rules is; modules = fits.modules; positions = fits.positions; variants = fits.variants })
NamesFit-entered n new (e.Construct id on days) fits h =
    let (l, is, whole) = and_then-Ok (beside n.supplements id (added_rule n.constructs id)) (λ l. Ok (record n { constructs = l })) new h in
    let same : record n { constructs = l } ≡ new = cc in
    subst NamesFit same (record { codes = fits.codes; rules = RulesFit-rule n.supplements n.constructs id l fits.rules is; modules = fits.modules; positions = fits.positions; variants = fits.variants })
NamesFit-entered n new (e.Group id kind days) fits h =
    let (l, is, whole) = and_then-Ok (beside n.supplements id (added_group n.constructs id)) (λ l. Ok (record n { constructs = l })) new h in
    let same : record n { constructs = l } ≡ new = cc in
    subst NamesFit same (record { codes = fits.codes; rules = RulesFit-group n.supplements n.constructs id l fits.rules is; modules = fits.modules; positions = fits.positions; variants = fits.variants })
NamesFit-entered n new (e.Module id) fits h =
    let (l, is, whole) = and_then-Ok (added MOST_MODULES Modules n.modules id) (λ l. Ok (record n { modules = l })) new h in
    let same : record n { modules = l } ≡ new = cc in
    subst NamesFit same (record { codes = fits.codes; rules = fits.rules; modules = ListFits-added MOST_MODULES Modules n.modules id l fits.modules is; positions = fits.positions; variants = fits.variants })
NamesFit-entered n new (e.Position id group mandatory days) fits h =
    let (l, is, whole) = and_then-Ok (added MOST_POSITIONS Positions n.positions id) (λ l. Ok (record n { positions = l })) new h in
    let same : record n { positions = l } ≡ new = cc in
    subst NamesFit same (record { codes = fits.codes; rules = fits.rules; modules = fits.modules; positions = ListFits-added MOST_POSITIONS Positions n.positions id l fits.positions is; variants = fits.variants })
NamesFit-entered n new (e.Variant id position part quantity days) fits h =
    let (l, is, whole) = and_then-Ok (added MOST_VARIANTS Variants n.variants id) (λ l. Ok (record n { variants = l })) new h in
    let same : record n { variants = l } ≡ new = cc in
    subst NamesFit same (record { codes = fits.codes; rules = fits.rules; modules = fits.modules; positions = fits.positions; variants = ListFits-added MOST_VARIANTS Variants n.variants id l fits.variants is })

no_names-fit : NamesFit no_names
unfolding IsDistinct
no_names-fit =
    let none : (limit : ℕ) → ListFits limit [] = λ limit. record { within = omega arith; distinct = tt } in
    record { codes = none MOST_CODES; rules = record { supplements_within = omega arith; rules_within = omega arith; groups_within = omega arith; distinct = tt }; modules = none MOST_MODULES; positions = none MOST_POSITIONS; variants = none MOST_VARIANTS }

pub first_pass-fits : (heading : Heading) (rows : List Row) (names : Names) → first_pass heading rows ≡ Ok names → NamesFit names
first_pass-fits heading rows names h =
    pass-keeps (entered_row heading) NamesFit
    (λ n new row fits is. let (entry, read, entering) = and_then-Ok (entry_of heading row) (λ entry. entered n entry) new is in NamesFit-entered n new entry fits entering)
    2 no_names names rows no_names-fit h
