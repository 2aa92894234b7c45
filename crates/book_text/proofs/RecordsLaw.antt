-- The records that the second pass gives without a fault refer to records of the book, and carry the ids of the first pass.
use Rattle.std.proofs.Common.{◌≡◌, ◌≤◌, ◌<◌, ◌+◌, ℕ, Bool, true, false, List, [], ◌∷◌, ◌++◌, length, map, Option, Result, Ok, Err, refl, sym, ap, ◌∙◌, subst, arith, if◌then◌else◌}
use Rattle.std.specs.Prelude.{nat_le, nat_eq, All, not, filter}
use Rattle.std.proofs.lemmas.List.{map_push, length-append}
use Rattle.std.proofs.lemmas.List.Elements.{All-push, All-nil, filter-append}
use Rattle.pb_base.specs.Rule.{Rule}
use Rattle.rule_text.specs.Reading.{rule_of}
use Rattle.rule_text.specs.declared.fault.RuleFault.{RuleFault}
use Rattle.rule_text.proofs.Counts.{rule_of-codes, rule_of-nodes}
use Rattle.book_model.specs.Book.{RuleFits, SupplementFits, ConstructFits, GroupFits, DemandFits, PositionFits, VariantFits, demands_group, groups_in, rules_in}
use Rattle.book_model.specs.Parts.{variants_of}
use Rattle.book_model.specs.declared.demand.Demand.TheVariants as demand
use Rattle.book_model.specs.declared.record.Supplement.{Supplement}
use Rattle.book_model.specs.declared.record.Construct.{Construct}
use Rattle.book_model.specs.declared.record.Module.{Module}
use Rattle.book_model.specs.declared.record.Position.{Position}
use Rattle.book_model.specs.declared.record.Variant.{Variant}
use Rattle.book_text.specs.Rows.{Row}
use Rattle.pb_base.specs.Results.{and_then}
use Rattle.pb_base.specs.declared.limits.TheConstants.{MOST_CODES, MOST_SUPPLEMENTS, MOST_MODULES, MOST_POSITIONS, MOST_VARIANTS, MOST_CHOICES}
use Rattle.book_text.specs.Entry.{entry_of, text_of}
use Rattle.book_text.specs.Fields.{field}
use Rattle.book_text.specs.Group.{names_in, is_group}
use Rattle.book_text.specs.ConstructIds.{ConstructNames}
use Rattle.book_text.specs.Names.{no_names, added, added_rule, added_group, beside, entered}
use Rattle.book_text.specs.FirstPass.{entered_row, first_pass}
use Rattle.book_text.specs.Records.{Records, no_records}
use Rattle.book_text.specs.SecondPass.{place_of, places_of, place_if_named, as_rule, rule_in, supplement_of, construct_of, demand_of, group_of, position_of, variant_of, with_variant, resolved, resolved_row, second_pass}
use Rattle.book_text.specs.declared.fields.Days.{Days}
use Rattle.book_text.specs.declared.fields.GroupKind.{GroupKind}
use Rattle.book_text.specs.declared.fields.GroupKind.TheVariants as group
use Rattle.book_text.specs.declared.entry.Heading.{Heading}
use Rattle.book_text.specs.declared.names.Names.{Names}
use Rattle.book_text.specs.declared.entry.Entry.{Entry}
use Rattle.book_text.specs.declared.entry.Entry.TheVariants as e
use Rattle.book_text.specs.declared.fault.BookKind.{BookKind}
use Rattle.book_text.specs.declared.fault.BookKind.TheVariants.{Limit}
use Rattle.book_text.specs.declared.fault.Which.TheVariants.{Codes, Supplements, Modules, Positions, Variants, Choices}
use Rattle.book_text.proofs.ChoiceLemmas.{length-variants_from-push}
use Rattle.book_text.proofs.Faultless.{and_then-Ok, pass-keeps, passes-keep}
use Rattle.book_text.proofs.PlaceLemmas.{place_of-below, place_if_named-below}
use Rattle.book_text.proofs.GroupLaw.{IsBeside, entry_of-beside, places_of-fits}
use Rattle.book_text.proofs.NamesLaw.{IsConstructAdded, added-Ok, added_rule-Ok, added_group-Ok, beside-Ok}

-- ---- rules

as_rule-Ok : (r : Result Rule RuleFault) (rule : Rule) → as_rule r ≡ Ok rule → r ≡ Ok rule
as_rule-Ok (Ok f) rule h = let same : f ≡ rule = cc in ap (λ g. Ok g) same
as_rule-Ok (Err fault) rule h = cc

rule_in-fits : (codes : List (List ℕ)) (text : List ℕ) (rule : Rule) → rule_in codes text ≡ Ok rule → RuleFits (length codes) rule
rule_in-fits codes text rule h =
    let is_read = as_rule-Ok (rule_of codes text) rule h in
    record { in_range = rule_of-codes codes text rule is_read; size = rule_of-nodes codes text rule is_read }

-- ---- one record of each kind

supplement_of-Ok : (codes : List (List ℕ)) (id : List ℕ) (rank : ℕ) (code : List ℕ) (days : Days) (text : List ℕ) (s : Supplement)
    → supplement_of codes id rank code days text ≡ Ok s → (s.id ≡ id) × SupplementFits (length codes) s
supplement_of-Ok codes id rank code days text s h =
    let (place, found, rest) = and_then-Ok (place_of codes code) (λ place. and_then (rule_in codes text) (λ rule. Ok (record { id = id; rank = rank; code = place; rule = rule; from = days.from; until = days.until }))) s h in
    let (rule, read, whole) = and_then-Ok (rule_in codes text) (λ rule. Ok (record { id = id; rank = rank; code = place; rule = rule; from = days.from; until = days.until })) s rest in
    let made : Supplement = record { id = id; rank = rank; code = place; rule = rule; from = days.from; until = days.until } in
    let same : made ≡ s = cc in
    subst (λ (t : Supplement). (t.id ≡ id) × SupplementFits (length codes) t) same (refl, record { code = place_of-below codes code place found; rule = rule_in-fits codes text rule read })

construct_of-Ok : (codes : List (List ℕ)) (id : List ℕ) (on : Option (List ℕ)) (days : Days) (text : List ℕ) (c : Construct)
    → construct_of codes id on days text ≡ Ok c → (c.id ≡ id) × ConstructFits (length codes) c × (demands_group c.demand ≡ false)
construct_of-Ok codes id on days text c h =
    let (place, found, rest) = and_then-Ok (place_if_named codes on) (λ place. and_then (rule_in codes text) (λ rule. Ok (record { id = id; demand = demand.Rule place rule; from = days.from; until = days.until }))) c h in
    let (rule, read, whole) = and_then-Ok (rule_in codes text) (λ rule. Ok (record { id = id; demand = demand.Rule place rule; from = days.from; until = days.until })) c rest in
    let made : Construct = record { id = id; demand = demand.Rule place rule; from = days.from; until = days.until } in
    let same : made ≡ c = cc in
    subst (λ (t : Construct). (t.id ≡ id) × ConstructFits (length codes) t × (demands_group t.demand ≡ false)) same
    (refl, record { demand = record { on = place_if_named-below codes on place found; rule = rule_in-fits codes text rule read } }, refl)

demand_of-fits : (codes : ℕ) (kind : GroupKind) (places : List ℕ) → GroupFits codes places → DemandFits codes (demand_of kind places) × (demands_group (demand_of kind places) ≡ true)
demand_of-fits codes group.One places fits = (fits, refl)
demand_of-fits codes group.Most places fits = (fits, refl)

group_of-Ok : (codes : List (List ℕ)) (id : List ℕ) (kind : GroupKind) (days : Days) (text : List ℕ) (c : Construct) → is_group text ≡ true
    → group_of codes id kind days text ≡ Ok c → (c.id ≡ id) × ConstructFits (length codes) c × (demands_group c.demand ≡ true)
group_of-Ok codes id kind days text c is h =
    let (places, found, whole) = and_then-Ok (places_of codes (names_in text)) (λ places. Ok (record { id = id; demand = demand_of kind places; from = days.from; until = days.until })) c h in
    let made : Construct = record { id = id; demand = demand_of kind places; from = days.from; until = days.until } in
    let same : made ≡ c = cc in
    let (fits, group) = demand_of-fits (length codes) kind places (places_of-fits codes text places is found) in
    subst (λ (t : Construct). (t.id ≡ id) × ConstructFits (length codes) t × (demands_group t.demand ≡ true)) same (refl, record { demand = fits }, group)

position_of-Ok : (modules : List (List ℕ)) (id : List ℕ) (group : Option (List ℕ)) (mandatory : Bool) (days : Days) (p : Position)
    → position_of modules id group mandatory days ≡ Ok p → (p.id ≡ id) × PositionFits (length modules) p
position_of-Ok modules id group mandatory days p h =
    let (place, found, whole) = and_then-Ok (place_if_named modules group) (λ place. Ok (record { id = id; «module» = place; mandatory = mandatory; from = days.from; until = days.until })) p h in
    let made : Position = record { id = id; «module» = place; mandatory = mandatory; from = days.from; until = days.until } in
    let same : made ≡ p = cc in
    subst (λ (t : Position). (t.id ≡ id) × PositionFits (length modules) t) same (refl, record { module_ = place_if_named-below modules group place found })

variant_of-Ok : (names : Names) (id position part : List ℕ) (quantity : ℕ) (days : Days) (text : List ℕ) (v : Variant)
    → variant_of names id position part quantity days text ≡ Ok v → (v.id ≡ id) × VariantFits (length names.codes) (length names.positions) v
variant_of-Ok names id position part quantity days text v h =
    let (place, found, rest) = and_then-Ok (place_of names.positions position) (λ place. and_then (rule_in names.codes text) (λ rule. Ok (record { id = id; position = place; part = part; quantity = quantity; rule = rule; from = days.from; until = days.until }))) v h in
    let (rule, read, whole) = and_then-Ok (rule_in names.codes text) (λ rule. Ok (record { id = id; position = place; part = part; quantity = quantity; rule = rule; from = days.from; until = days.until })) v rest in
    let made : Variant = record { id = id; position = place; part = part; quantity = quantity; rule = rule; from = days.from; until = days.until } in
    let same : made ≡ v = cc in
    subst (λ (t : Variant). (t.id ≡ id) × VariantFits (length names.codes) (length names.positions) t) same
    (refl, record { position = place_of-below names.positions position place found; rule = rule_in-fits names.codes text rule read })

full-by : (full : Bool) (variants new : List Variant) → (if full then Err (Limit Choices) else Ok variants) ≡ Ok new → (full ≡ false) × (new ≡ variants)
full-by true variants new h = cc
full-by false variants new h = (refl, cc)

with_variant-Ok : (variants : List Variant) (v : Variant) (new : List Variant) → with_variant variants v ≡ Ok new
    → (length (variants_of v.position variants) < MOST_CHOICES) × (new ≡ variants ++ v ∷ [])
with_variant-Ok variants v new h =
    let (full, is) = full-by (nat_le MOST_CHOICES (length (variants_of v.position variants))) (variants ++ v ∷ []) new h in (grind (arith, full), is)

abbrev pub HasFewChoices : List Variant → Type 0
HasFewChoices variants = (place : ℕ) → length (variants_of place variants) ≤ MOST_CHOICES

few-at : (same : Bool) (position place n m : ℕ) → nat_eq position place ≡ same → (position ≡ place → n < MOST_CHOICES) → n ≤ MOST_CHOICES → m ≡ n + (if same then 1 else 0) → m ≤ MOST_CHOICES
few-at true position place n m e here all is = let at : position ≡ place = grind (arith, e) in omega (arith, here at)
few-at false position place n m e here all is = omega arith

HasFewChoices-push : (variants : List Variant) (v : Variant) → length (variants_of v.position variants) < MOST_CHOICES → HasFewChoices variants → HasFewChoices (variants ++ v ∷ [])
HasFewChoices-push variants v room few place =
    few-at (nat_eq v.position place) v.position place (length (variants_of place variants)) (length (variants_of place (variants ++ v ∷ []))) refl
    (λ at. subst (λ (p : ℕ). length (variants_of p variants) < MOST_CHOICES) at room) (few place) (length-variants_from-push 0 place variants v)

-- ---- the second pass

-- each record fits among the names
pub record RecordsFit (all : Names) (r : Records) : Type 0 where
  pub supplements : All (SupplementFits (length all.codes)) r.supplements
  pub constructs : All (ConstructFits (length all.codes)) r.constructs
  pub positions : All (PositionFits (length all.modules)) r.positions
  pub variants : All (VariantFits (length all.codes) (length all.positions)) r.variants
  pub choices : HasFewChoices r.variants

RecordsFit-construct : (all : Names) (r new : Records) (answer : Result Construct BookKind) → RecordsFit all r → ((c : Construct) → answer ≡ Ok c → ConstructFits (length all.codes) c)
    → and_then answer (λ c. Ok (record r { constructs = r.constructs ++ c ∷ [] })) ≡ Ok new → RecordsFit all new
RecordsFit-construct all r new answer fits fit h =
    let (c, is, whole) = and_then-Ok answer (λ c. Ok (record r { constructs = r.constructs ++ c ∷ [] })) new h in
    let same : record r { constructs = r.constructs ++ c ∷ [] } ≡ new = cc in
    subst (RecordsFit all) same (record { supplements = fits.supplements; constructs = All-push (ConstructFits (length all.codes)) r.constructs c fits.constructs (fit c is); positions = fits.positions; variants = fits.variants; choices = fits.choices })

RecordsFit-resolved : (all : Names) (r new : Records) (entry : Entry) (row : Row) → RecordsFit all r → IsBeside row entry → resolved all r entry (text_of entry row) ≡ Ok new → RecordsFit all new
RecordsFit-resolved all r new (e.Code name) row fits beside_it h = let same : r ≡ new = cc in subst (RecordsFit all) same fits
RecordsFit-resolved all r new (e.Supplement id rank code days) row fits beside_it h =
    let (s, is, whole) = and_then-Ok (supplement_of all.codes id rank code days (field row 4)) (λ s. Ok (record r { supplements = r.supplements ++ s ∷ [] })) new h in
    let same : record r { supplements = r.supplements ++ s ∷ [] } ≡ new = cc in
    let fit = supplement_of-Ok all.codes id rank code days (field row 4) s is in
    subst (RecordsFit all) same (record { supplements = All-push (SupplementFits (length all.codes)) r.supplements s fits.supplements fit.1; constructs = fits.constructs; positions = fits.positions; variants = fits.variants; choices = fits.choices })
RecordsFit-resolved all r new (e.Construct id on days) row fits beside_it h =
    RecordsFit-construct all r new (construct_of all.codes id on days (field row 3)) fits (λ c is. (construct_of-Ok all.codes id on days (field row 3) c is).1) h
RecordsFit-resolved all r new (e.Group id kind days) row fits beside_it h =
    RecordsFit-construct all r new (group_of all.codes id kind days (field row 3)) fits (λ c is. (group_of-Ok all.codes id kind days (field row 3) c beside_it is).1) h
RecordsFit-resolved all r new (e.Module id) row fits beside_it h =
    let same : record r { modules = r.modules ++ record { id = id } ∷ [] } ≡ new = cc in
    subst (RecordsFit all) same (record { supplements = fits.supplements; constructs = fits.constructs; positions = fits.positions; variants = fits.variants; choices = fits.choices })
RecordsFit-resolved all r new (e.Position id group mandatory days) row fits beside_it h =
    let (p, is, whole) = and_then-Ok (position_of all.modules id group mandatory days) (λ p. Ok (record r { positions = r.positions ++ p ∷ [] })) new h in
    let same : record r { positions = r.positions ++ p ∷ [] } ≡ new = cc in
    let fit = position_of-Ok all.modules id group mandatory days p is in
    subst (RecordsFit all) same (record { supplements = fits.supplements; constructs = fits.constructs; positions = All-push (PositionFits (length all.modules)) r.positions p fits.positions fit.1; variants = fits.variants; choices = fits.choices })
RecordsFit-resolved all r new (e.Variant id position part quantity days) row fits beside_it h =
    let (v, is, rest) = and_then-Ok (variant_of all id position part quantity days (field row 5)) (λ v. and_then (with_variant r.variants v) (λ variants. Ok (record r { variants = variants }))) new h in
    let (variants, joined, whole) = and_then-Ok (with_variant r.variants v) (λ variants. Ok (record r { variants = variants })) new rest in
    let same : record r { variants = variants } ≡ new = cc in
    let fit = variant_of-Ok all id position part quantity days (field row 5) v is in
    let (room, more) = with_variant-Ok r.variants v variants joined in
    subst (RecordsFit all) same (record {
      supplements = fits.supplements;
      constructs = fits.constructs;
      positions = fits.positions;
      variants = subst (All (VariantFits (length all.codes) (length all.positions))) (sym more) (All-push (VariantFits (length all.codes) (length all.positions)) r.variants v fits.variants fit.1);
      choices = subst HasFewChoices (sym more) (HasFewChoices-push r.variants v room fits.choices);
    })

no_records-fit : (all : Names) → RecordsFit all no_records
no_records-fit all = record {
  supplements = All-nil (SupplementFits (length all.codes));
  constructs = All-nil (ConstructFits (length all.codes));
  positions = All-nil (PositionFits (length all.modules));
  variants = All-nil (VariantFits (length all.codes) (length all.positions));
  choices = λ place. omega arith;
}

pub second_pass-fits : (heading : Heading) (names : Names) (rows : List Row) (records : Records) → second_pass heading names rows ≡ Ok records → RecordsFit names records
second_pass-fits heading names rows records h =
    pass-keeps (resolved_row heading names) (RecordsFit names)
    (λ r new row fits is. let (entry, read, resolving) = and_then-Ok (entry_of heading row) (λ entry. resolved names r entry (text_of entry row)) new is in RecordsFit-resolved names r new entry row fits (entry_of-beside heading row entry read) resolving)
    2 no_records records rows (no_records-fit names) h

-- ---- both passes

-- constructibility rules have these ids, and so many of them are groups and so many are not
pub record AreConstructsNamed (n : ConstructNames) (constructs : List Construct) : Type 0 where
  pub ids : map (λ c. c.id) constructs ≡ n.ids
  pub rules : length (rules_in constructs) ≡ n.rules
  pub groups : length (groups_in constructs) ≡ n.groups

-- the records have the ids that the names are
pub record AreNamed (n : Names) (r : Records) : Type 0 where
  pub supplements : map (λ s. s.id) r.supplements ≡ n.supplements
  pub constructs : AreConstructsNamed n.constructs r.constructs
  pub modules : map (λ m. m.id) r.modules ≡ n.modules
  pub positions : map (λ p. p.id) r.positions ≡ n.positions
  pub variants : map (λ v. v.id) r.variants ≡ n.variants

named-push : {X : Type 0} (id_of : X → List ℕ) (records : List X) (x : X) (names new : List (List ℕ)) (id : List ℕ)
    → map id_of records ≡ names → id_of x ≡ id → new ≡ names ++ id ∷ [] → map id_of (records ++ x ∷ []) ≡ new
named-push id_of records x names new id same at is =
    map_push id_of records x ∙ ap (λ (l : List (List ℕ)). l ++ id_of x ∷ []) same ∙ ap (λ (i : List ℕ). names ++ i ∷ []) at ∙ sym is

counted-by : (b : Bool) (c : Construct) → length (if b then c ∷ [] else []) ≡ (if b then 1 else 0)
counted-by true c = refl
counted-by false c = refl

-- so many more of them pass a test
counted-push : (test : Construct → Bool) (is : Bool) (constructs : List Construct) (c : Construct) → test c ≡ is
    → length (filter test (constructs ++ c ∷ [])) ≡ length (filter test constructs) + (if is then 1 else 0)
counted-push test is constructs c e =
    ap length (filter-append test constructs (c ∷ [])) ∙ length-append (filter test constructs) (filter test (c ∷ []))
    ∙ ap (λ n. length (filter test constructs) + n) (counted-by (test c) c ∙ ap (λ (b : Bool). if b then 1 else 0) e)

turned : (is : Bool) → ◌≡◌ {A = ℕ} (if is then 0 else 1) (if not is then 1 else 0)
turned true = refl
turned false = refl

constructs-named : (is : Bool) (n new : ConstructNames) (constructs : List Construct) (c : Construct) (id : List ℕ) → AreConstructsNamed n constructs → c.id ≡ id → demands_group c.demand ≡ is
    → IsConstructAdded n id new (if is then 0 else 1) (if is then 1 else 0) → AreConstructsNamed new (constructs ++ c ∷ [])
constructs-named is n new constructs c id named at group more =
    let no : not (demands_group c.demand) ≡ not is = ap not group in
    let rules = counted-push (λ k. not (demands_group k.demand)) (not is) constructs c no in
    record {
      ids = named-push (λ k. k.id) constructs c n.ids new.ids id named.ids at more.is;
      rules = rules ∙ ap (λ m. m + (if not is then 1 else 0)) named.rules ∙ sym (more.rules_are ∙ ap (λ m. n.rules + m) (turned is));
      groups = counted-push (λ k. demands_group k.demand) is constructs c group ∙ ap (λ m. m + (if is then 1 else 0)) named.groups ∙ sym more.groups_are;
    }

AreNamed-construct : (is : Bool) (all n n' : Names) (r r' : Records) (id : List ℕ) (l : ConstructNames) (c : Construct) → AreNamed n r → c.id ≡ id → demands_group c.demand ≡ is
    → IsConstructAdded n.constructs id l (if is then 0 else 1) (if is then 1 else 0) → record n { constructs = l } ≡ n' → record r { constructs = r.constructs ++ c ∷ [] } ≡ r' → AreNamed n' r'
AreNamed-construct is all n n' r r' id l c named at group more one other =
    let start : AreNamed (record n { constructs = l }) (record r { constructs = r.constructs ++ c ∷ [] }) = record {
      supplements = named.supplements;
      constructs = constructs-named is n.constructs l r.constructs c id named.constructs at group more;
      modules = named.modules;
      positions = named.positions;
      variants = named.variants;
    } in
    subst (AreNamed n') other (subst (λ (m : Names). AreNamed m (record r { constructs = r.constructs ++ c ∷ [] })) one start)

AreNamed-row : (all n n' : Names) (r r' : Records) (entry : Entry) (row : Row) → IsBeside row entry → AreNamed n r → entered n entry ≡ Ok n' → resolved all r entry (text_of entry row) ≡ Ok r' → AreNamed n' r'
AreNamed-row all n n' r r' (e.Code name) row beside_it named h g =
    let (l, is, whole) = and_then-Ok (added MOST_CODES Codes n.codes name) (λ l. Ok (record n { codes = l })) n' h in
    let one : record n { codes = l } ≡ n' = cc in
    let other : r ≡ r' = cc in
    let start : AreNamed (record n { codes = l }) r = record { supplements = named.supplements; constructs = named.constructs; modules = named.modules; positions = named.positions; variants = named.variants } in
    subst (AreNamed n') other (subst (λ (m : Names). AreNamed m r) one start)
AreNamed-row all n n' r r' (e.Supplement id rank code days) row beside_it named h g =
    let (l, is, whole) = and_then-Ok (beside n.constructs.ids id (added MOST_SUPPLEMENTS Supplements n.supplements id)) (λ l. Ok (record n { supplements = l })) n' h in
    let (s, made, rest) = and_then-Ok (supplement_of all.codes id rank code days (field row 4)) (λ s. Ok (record r { supplements = r.supplements ++ s ∷ [] })) r' g in
    let one : record n { supplements = l } ≡ n' = cc in
    let other : record r { supplements = r.supplements ++ s ∷ [] } ≡ r' = cc in
    let (_, adding) = beside-Ok n.constructs.ids id (added MOST_SUPPLEMENTS Supplements n.supplements id) l is in
    let more = added-Ok MOST_SUPPLEMENTS Supplements n.supplements id l adding in
    let id_of : Supplement → List ℕ = λ s. s.id in
    let start : AreNamed (record n { supplements = l }) (record r { supplements = r.supplements ++ s ∷ [] }) = record {
      supplements = named-push id_of r.supplements s n.supplements l id named.supplements (supplement_of-Ok all.codes id rank code days (field row 4) s made).0 more.is;
      constructs = named.constructs;
      modules = named.modules;
      positions = named.positions;
      variants = named.variants;
    } in
    subst (AreNamed n') other (subst (λ (m : Names). AreNamed m (record r { supplements = r.supplements ++ s ∷ [] })) one start)
AreNamed-row all n n' r r' (e.Construct id on days) row beside_it named h g =
    let (l, is, whole) = and_then-Ok (beside n.supplements id (added_rule n.constructs id)) (λ l. Ok (record n { constructs = l })) n' h in
    let (c, made, rest) = and_then-Ok (construct_of all.codes id on days (field row 3)) (λ c. Ok (record r { constructs = r.constructs ++ c ∷ [] })) r' g in
    let (_, adding) = beside-Ok n.supplements id (added_rule n.constructs id) l is in
    let (at, _, no_group) = construct_of-Ok all.codes id on days (field row 3) c made in
    let one : record n { constructs = l } ≡ n' = cc in
    let other : record r { constructs = r.constructs ++ c ∷ [] } ≡ r' = cc in
    AreNamed-construct false all n n' r r' id l c named at no_group (added_rule-Ok n.constructs id l adding).1 one other
AreNamed-row all n n' r r' (e.Group id kind days) row beside_it named h g =
    let (l, is, whole) = and_then-Ok (beside n.supplements id (added_group n.constructs id)) (λ l. Ok (record n { constructs = l })) n' h in
    let (c, made, rest) = and_then-Ok (group_of all.codes id kind days (field row 3)) (λ c. Ok (record r { constructs = r.constructs ++ c ∷ [] })) r' g in
    let (_, adding) = beside-Ok n.supplements id (added_group n.constructs id) l is in
    let (at, _, is_one) = group_of-Ok all.codes id kind days (field row 3) c beside_it made in
    let one : record n { constructs = l } ≡ n' = cc in
    let other : record r { constructs = r.constructs ++ c ∷ [] } ≡ r' = cc in
    AreNamed-construct true all n n' r r' id l c named at is_one (added_group-Ok n.constructs id l adding).1 one other
AreNamed-row all n n' r r' (e.Module id) row beside_it named h g =
    let (l, is, whole) = and_then-Ok (added MOST_MODULES Modules n.modules id) (λ l. Ok (record n { modules = l })) n' h in
    let one : record n { modules = l } ≡ n' = cc in
    let m : Module = record { id = id } in
    let other : record r { modules = r.modules ++ m ∷ [] } ≡ r' = cc in
    let id_of : Module → List ℕ = λ m. m.id in
    let start : AreNamed (record n { modules = l }) (record r { modules = r.modules ++ m ∷ [] }) = record {
      supplements = named.supplements;
      constructs = named.constructs;
      modules = named-push id_of r.modules m n.modules l id named.modules refl (added-Ok MOST_MODULES Modules n.modules id l is).is;
      positions = named.positions;
      variants = named.variants;
    } in
    subst (AreNamed n') other (subst (λ (k : Names). AreNamed k (record r { modules = r.modules ++ m ∷ [] })) one start)
AreNamed-row all n n' r r' (e.Position id group mandatory days) row beside_it named h g =
    let (l, is, whole) = and_then-Ok (added MOST_POSITIONS Positions n.positions id) (λ l. Ok (record n { positions = l })) n' h in
    let (p, made, rest) = and_then-Ok (position_of all.modules id group mandatory days) (λ p. Ok (record r { positions = r.positions ++ p ∷ [] })) r' g in
    let one : record n { positions = l } ≡ n' = cc in
    let other : record r { positions = r.positions ++ p ∷ [] } ≡ r' = cc in
    let id_of : Position → List ℕ = λ p. p.id in
    let start : AreNamed (record n { positions = l }) (record r { positions = r.positions ++ p ∷ [] }) = record {
      supplements = named.supplements;
      constructs = named.constructs;
      modules = named.modules;
      positions = named-push id_of r.positions p n.positions l id named.positions (position_of-Ok all.modules id group mandatory days p made).0 (added-Ok MOST_POSITIONS Positions n.positions id l is).is;
      variants = named.variants;
    } in
    subst (AreNamed n') other (subst (λ (m : Names). AreNamed m (record r { positions = r.positions ++ p ∷ [] })) one start)
AreNamed-row all n n' r r' (e.Variant id position part quantity days) row beside_it named h g =
    let (l, is, whole) = and_then-Ok (added MOST_VARIANTS Variants n.variants id) (λ l. Ok (record n { variants = l })) n' h in
    let (v, made, rest) = and_then-Ok (variant_of all id position part quantity days (field row 5)) (λ v. and_then (with_variant r.variants v) (λ variants. Ok (record r { variants = variants }))) r' g in
    let (variants, joined, last) = and_then-Ok (with_variant r.variants v) (λ variants. Ok (record r { variants = variants })) r' rest in
    let one : record n { variants = l } ≡ n' = cc in
    let other : record r { variants = variants } ≡ r' = cc in
    let id_of : Variant → List ℕ = λ v. v.id in
    let pushed = named-push id_of r.variants v n.variants l id named.variants (variant_of-Ok all id position part quantity days (field row 5) v made).0 (added-Ok MOST_VARIANTS Variants n.variants id l is).is in
    let start : AreNamed (record n { variants = l }) (record r { variants = variants }) = record {
      supplements = named.supplements;
      constructs = named.constructs;
      modules = named.modules;
      positions = named.positions;
      variants = subst (λ (vs : List Variant). map id_of vs ≡ l) (sym (with_variant-Ok r.variants v variants joined).1) pushed;
    } in
    subst (AreNamed n') other (subst (λ (m : Names). AreNamed m (record r { variants = variants })) one start)

same-entry : (a b : Entry) (r : Result Entry BookKind) → r ≡ Ok a → r ≡ Ok b → a ≡ b
same-entry a b r h g = cc

pub passes-named : (heading : Heading) (names : Names) (rows : List Row) (records : Records) → first_pass heading rows ≡ Ok names → second_pass heading names rows ≡ Ok records → AreNamed names records
passes-named heading names rows records h g =
    passes-keep (entered_row heading) (resolved_row heading names) AreNamed
    (λ n n' r r' row named entering resolving.
    let (entry, read, here) = and_then-Ok (entry_of heading row) (λ entry. entered n entry) n' entering in
    let (again, read_again, there) = and_then-Ok (entry_of heading row) (λ entry. resolved names r entry (text_of entry row)) r' resolving in
    let same = same-entry again entry (entry_of heading row) read_again read in
    AreNamed-row names n n' r r' entry row (entry_of-beside heading row entry read) named here (subst (λ (x : Entry). resolved names r x (text_of x row) ≡ Ok r') same there))
    2 no_names names no_records records rows
    (record { supplements = refl; constructs = record { ids = refl; rules = refl; groups = refl }; modules = refl; positions = refl; variants = refl }) h g
