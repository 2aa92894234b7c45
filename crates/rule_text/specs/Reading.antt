-- What a text reads as: its first fault, or else its rule.
--     rule_of names text
-- The rule is put together from the left. It is the one that the grammar gives: the contract of read_rule says so.
use Rattle.std.specs.Prelude.{ℕ, List, [], ◌∷◌, Option, Some, None, unwrap_or, Result, Ok}
use Rattle.pb_base.specs.Rule.{Rule, negation, both, either, never}
use Rattle.pb_base.specs.Results.{unless}
use Rattle.rule_text.specs.Token.{Token, Placed, word, slash, opening, closing, tokens}
use Rattle.rule_text.specs.Grammar.{word_rule}
use Rattle.rule_text.specs.FirstFault.{pending_behind, first_fault}
use Rattle.rule_text.specs.declared.standing.Pending.{Pending}
use Rattle.rule_text.specs.declared.standing.Pending.TheVariants.{Bracket, Sign}
use Rattle.rule_text.specs.declared.fault.RuleFault.{RuleFault}

-- an expression as far as it was read: the terms before the last slash, and the factors of the last term
pub record Open : Type 0 where
  pub left : Option Rule
  pub product : Option Rule

-- the innermost expression, and those outside the open brackets, the innermost first
pub record Read : Type 0 where
  pub innermost : Open
  pub outer : List Open

abbrev pub nothing : Open
nothing = record { left = None; product = None }

abbrev pub joined : (Rule → Rule → Rule) → Option Rule → Rule → Rule
joined connective None right = right
joined connective (Some left) right = connective left right

-- the rule of an expression that ends here
abbrev pub whole : Open → Rule
whole e = joined either e.left (unwrap_or e.product never)

-- a factor under the minus signs that are pending
abbrev pub under_signs : List Pending → Rule → Rule
under_signs (Sign ∷ pending) factor = under_signs pending (negation factor)
under_signs pending factor = factor

abbrev pub with_factor : Open → Rule → Open
with_factor e factor = record { left = e.left; product = Some (joined both e.product factor) }

abbrev pub with_slash : Open → Open
with_slash e = record { left = Some (whole e); product = None }

-- the expression outside the innermost open bracket, and those outside that
abbrev pub outside : List Open → Read
outside [] = record { innermost = nothing; outer = [] }
outside (e ∷ outer) = record { innermost = e; outer = outer }

abbrev pub factor_read : List Pending → Read → Rule → Read
factor_read pending r factor = record { innermost = with_factor r.innermost (under_signs pending factor); outer = r.outer }

-- what was pending outside the innermost open bracket
abbrev pub outside_bracket : List Pending → List Pending
outside_bracket (Bracket ∷ pending) = pending
outside_bracket pending = pending

-- what was read with a token more, where this was pending before it
abbrev pub token_read : List (List ℕ) → List Pending → Read → Token → Read
token_read names pending r (word w) = factor_read pending r (unwrap_or (word_rule names w) never)
token_read names pending r opening = record { innermost = nothing; outer = r.innermost ∷ r.outer }
token_read names pending r closing = factor_read (outside_bracket pending) (outside r.outer) (whole r.innermost)
token_read names pending r slash = record { innermost = with_slash r.innermost; outer = r.outer }
token_read names pending r t = r

abbrev pub rule_from : List (List ℕ) → List Pending → Read → List Placed → Rule
rule_from names pending r [] = whole r.innermost
rule_from names pending r (t ∷ ts) = rule_from names (pending_behind pending t.1) (token_read names pending r t.1) ts

unfoldable pub rule_of : List (List ℕ) → List ℕ → Result Rule RuleFault
rule_of names text = unless (first_fault names text) (Ok (rule_from names [] (outside []) (tokens text)))
