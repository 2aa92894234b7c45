-- How the contents of a book are told apart: each record by the tuple of its fields.
use Rattle.std.specs.Prelude.{◌≡◌, ◌⊎◌, ℕ, Bool, List, Option, refl}
use Rattle.std.proofs.Common.{inl, inr}
use Rattle.std.specs.Coded.{Coded, code_by, coded×, coded⊎, coded_list, coded_option, coded_bool, coded_ℕ}
use Rattle.pb_base.specs.Rule.{Rule, rule_code}
use Rattle.book_model.specs.Contents.{Contents}
use Rattle.book_model.specs.declared.demand.Demand.{Demand}
use Rattle.book_model.specs.declared.demand.Demand.TheVariants as demand
use Rattle.book_model.specs.declared.record.Supplement.{Supplement}
use Rattle.book_model.specs.declared.record.Construct.{Construct}
use Rattle.book_model.specs.declared.record.Module.{Module}
use Rattle.book_model.specs.declared.record.Position.{Position}
use Rattle.book_model.specs.declared.record.Variant.{Variant}

abbrev pub name_code : Coded (List ℕ)
name_code = coded_list coded_ℕ

-- a formula and its days
abbrev pub ruled_code : Coded (Rule × (ℕ × ℕ))
ruled_code = coded× rule_code (coded× coded_ℕ coded_ℕ)

abbrev pub supplement_code : Coded Supplement
supplement_code =
    code_by (List ℕ × (ℕ × (ℕ × (Rule × (ℕ × ℕ))))) (coded× name_code (coded× coded_ℕ (coded× coded_ℕ ruled_code)))
    (λ s. (s.id, (s.rank, (s.code, (s.rule, (s.from, s.until))))))
    (λ t. record { id = t.0; rank = t.1.0; code = t.1.1.0; rule = t.1.1.1.0; from = t.1.1.1.1.0; until = t.1.1.1.1.1 })
    (λ _. refl)

-- a rule with its code, or else the codes of one of the two kinds of groups
abbrev DemandParts : Type 0
DemandParts = (Option ℕ × Rule) ⊎ (List ℕ ⊎ List ℕ)

abbrev parts_of : Demand → DemandParts
parts_of (demand.Rule on f) = inl (on, f)
parts_of (demand.One group) = inr (inl group)
parts_of (demand.Most group) = inr (inr group)

abbrev demand_of : DemandParts → Demand
demand_of (inl r) = demand.Rule r.0 r.1
demand_of (inr (inl group)) = demand.One group
demand_of (inr (inr group)) = demand.Most group

pub demand_of-parts_of : (d : Demand) → demand_of (parts_of d) ≡ d
demand_of-parts_of (demand.Rule on f) = refl
demand_of-parts_of (demand.One group) = refl
demand_of-parts_of (demand.Most group) = refl

abbrev pub demand_code : Coded Demand
demand_code =
    code_by DemandParts (coded⊎ (coded× (coded_option coded_ℕ) rule_code) (coded⊎ (coded_list coded_ℕ) (coded_list coded_ℕ)))
    parts_of demand_of demand_of-parts_of

abbrev pub construct_code : Coded Construct
construct_code =
    code_by (List ℕ × (Demand × (ℕ × ℕ))) (coded× name_code (coded× demand_code (coded× coded_ℕ coded_ℕ)))
    (λ c. (c.id, (c.demand, (c.from, c.until))))
    (λ t. record { id = t.0; demand = t.1.0; from = t.1.1.0; until = t.1.1.1 })
    (λ _. refl)

abbrev pub module_code : Coded Module
module_code = code_by (List ℕ) name_code (λ m. m.id) (λ id. record { id = id }) (λ _. refl)

abbrev pub position_code : Coded Position
position_code =
    code_by (List ℕ × (Option ℕ × (Bool × (ℕ × ℕ)))) (coded× name_code (coded× (coded_option coded_ℕ) (coded× coded_bool (coded× coded_ℕ coded_ℕ))))
    (λ p. (p.id, (p.«module», (p.mandatory, (p.from, p.until)))))
    (λ t. record { id = t.0; «module» = t.1.0; mandatory = t.1.1.0; from = t.1.1.1.0; until = t.1.1.1.1 })
    (λ _. refl)

abbrev pub variant_code : Coded Variant
variant_code =
    code_by (List ℕ × (ℕ × (List ℕ × (ℕ × (Rule × (ℕ × ℕ)))))) (coded× name_code (coded× coded_ℕ (coded× name_code (coded× coded_ℕ ruled_code))))
    (λ v. (v.id, (v.position, (v.part, (v.quantity, (v.rule, (v.from, v.until)))))))
    (λ t. record { id = t.0; position = t.1.0; part = t.1.1.0; quantity = t.1.1.1.0; rule = t.1.1.1.1.0; from = t.1.1.1.1.1.0; until = t.1.1.1.1.1.1 })
    (λ _. refl)

abbrev pub contents_code : Coded Contents
contents_code =
    code_by
    ((List ℕ × (ℕ × ℕ)) × (List (List ℕ) × (List Supplement × (List Construct × (List Module × (List Position × List Variant))))))
    (coded× (coded× name_code (coded× coded_ℕ coded_ℕ))
    (coded× (coded_list name_code) (coded× (coded_list supplement_code) (coded× (coded_list construct_code) (coded× (coded_list module_code) (coded× (coded_list position_code) (coded_list variant_code)))))))
    (λ b. ((b.name, (b.first, b.last)), (b.codes, (b.supplements, (b.constructs, (b.modules, (b.positions, b.variants)))))))
    (λ t. record {
      name = t.0.0;
      first = t.0.1.0;
      last = t.0.1.1;
      codes = t.1.0;
      supplements = t.1.1.0;
      constructs = t.1.1.1.0;
      modules = t.1.1.1.1.0;
      positions = t.1.1.1.1.1.0;
      variants = t.1.1.1.1.1.1;
    })
    (λ _. refl)
