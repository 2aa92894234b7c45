-- The names that the rows give. Distinct are codes, ids of supplementing rules, constructibility rules and groups together, and
-- the ids of modules, of positions and of variants; and each kind has a limit.
use Rattle.std.specs.Prelude.{ℕ, ◌+◌, Bool, List, [], ◌∷◌, ◌++◌, length, Result, Ok, Err, nat_le, is_some, if◌then◌else◌}
use Rattle.pb_base.specs.Names.{place_in}
use Rattle.pb_base.specs.Results.{and_then}
use Rattle.pb_base.specs.declared.limits.TheConstants.{MOST_CODES, MOST_SUPPLEMENTS, MOST_CONSTRUCTS, MOST_GROUPS, MOST_MODULES, MOST_POSITIONS, MOST_VARIANTS}
use Rattle.book_text.specs.ConstructIds.{ConstructNames, no_constructs}
use Rattle.book_text.specs.declared.names.Names.{Names}
use Rattle.book_text.specs.declared.entry.Entry.{Entry}
use Rattle.book_text.specs.declared.entry.Entry.TheVariants.{Code, Supplement, Construct, Group, Module, Position, Variant}
use Rattle.book_text.specs.declared.fault.BookKind.{BookKind}
use Rattle.book_text.specs.declared.fault.BookKind.TheVariants.{Duplicate, Limit}
use Rattle.book_text.specs.declared.fault.Which.{Which}
use Rattle.book_text.specs.declared.fault.Which.TheVariants.{Codes, Supplements, Constructs, Groups, Modules, Positions, Variants}

abbrev pub no_names : Names
no_names = record { codes = []; supplements = []; constructs = no_constructs; modules = []; positions = []; variants = [] }

-- the names with one more, which is new, where there is room
abbrev pub added_where : Bool → Which → List (List ℕ) → List ℕ → Result (List (List ℕ)) BookKind
added_where full which names name =
    if is_some (place_in names name) then Err Duplicate
    else if full then Err (Limit which)
    else Ok (names ++ name ∷ [])

-- the names with one more, which is new and within the limit
abbrev pub added : ℕ → Which → List (List ℕ) → List ℕ → Result (List (List ℕ)) BookKind
added limit which names name = added_where (nat_le limit (length names)) which names name

-- the same of a constructibility rule that is no group, and of a group
abbrev pub added_rule : ConstructNames → List ℕ → Result ConstructNames BookKind
added_rule c id = and_then (added_where (nat_le MOST_CONSTRUCTS c.rules) Constructs c.ids id) (λ ids. Ok (record c { ids = ids; rules = c.rules + 1 }))

abbrev pub added_group : ConstructNames → List ℕ → Result ConstructNames BookKind
added_group c id = and_then (added_where (nat_le MOST_GROUPS c.groups) Groups c.ids id) (λ ids. Ok (record c { ids = ids; groups = c.groups + 1 }))

-- what is answered of a name that others may not have
abbrev pub beside : {A : Type 0} → List (List ℕ) → List ℕ → Result A BookKind → Result A BookKind
beside others name answer = if is_some (place_in others name) then Err Duplicate else answer

-- the names with that of a record
abbrev pub entered : Names → Entry → Result Names BookKind
entered n (Code name) = and_then (added MOST_CODES Codes n.codes name) (λ new. Ok (record n { codes = new }))
entered n (Supplement id rank code days) = and_then (beside n.constructs.ids id (added MOST_SUPPLEMENTS Supplements n.supplements id)) (λ new. Ok (record n { supplements = new }))
entered n (Construct id on days) = and_then (beside n.supplements id (added_rule n.constructs id)) (λ new. Ok (record n { constructs = new }))
entered n (Group id kind days) = and_then (beside n.supplements id (added_group n.constructs id)) (λ new. Ok (record n { constructs = new }))
entered n (Module id) = and_then (added MOST_MODULES Modules n.modules id) (λ new. Ok (record n { modules = new }))
entered n (Position id group mandatory days) = and_then (added MOST_POSITIONS Positions n.positions id) (λ new. Ok (record n { positions = new }))
entered n (Variant id position part quantity days) = and_then (added MOST_VARIANTS Variants n.variants id) (λ new. Ok (record n { variants = new }))
