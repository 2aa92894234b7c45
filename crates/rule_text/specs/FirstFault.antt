-- The first fault of a rule's text. The tokens are tested from the left. What a test says hangs on three things alone: what may
-- come by the token before, what is pending, and how many nodes there were.
--     first_fault names text
use Rattle.std.specs.Prelude.{ℕ, ◌+◌, Bool, true, false, not, ◌&&◌, List, [], ◌∷◌, length, Option, Some, None, is_none, nat_le, if◌then◌else◌}
use Rattle.std.specs.List.{list_all}
use Rattle.std.specs.Option.{option_or}
use Rattle.rule_text.specs.Token.{Token, Placed, word, plus, slash, minus, opening, closing, semicolon, other, is_blank, tokens}
use Rattle.rule_text.specs.Grammar.{word_rule}
use Rattle.pb_base.specs.declared.limits.TheConstants.{MOST_NESTING, MOST_NODES}
use Rattle.rule_text.specs.declared.standing.Stage.{Stage}
use Rattle.rule_text.specs.declared.standing.Stage.TheVariants.{Awaiting, Complete, Ended}
use Rattle.rule_text.specs.declared.standing.Pending.{Pending}
use Rattle.rule_text.specs.declared.standing.Pending.TheVariants.{Bracket, Sign}
use Rattle.rule_text.specs.declared.fault.RuleFault.{RuleFault}
use Rattle.rule_text.specs.declared.fault.RuleFault.TheVariants.{Empty, BadByte, UnknownCode, Expected, TooDeep, TooLong}

-- what may come by the token before; the brackets and minus signs that are pending, the innermost first; the nodes so far
pub record Standing : Type 0 where
  pub stage : Stage
  pub pending : List Pending
  pub count : ℕ

-- at the start a factor is awaited
abbrev pub start : Standing
start = record { stage = Awaiting; pending = []; count = 0 }

-- Where a factor is awaited, a word, a minus or an opening bracket may stand. Behind one a plus or a slash may, a closing bracket
-- if one is open, and a semicolon if none is. Behind a semicolon nothing may.
abbrev pub may_stand : Stage → List Pending → Token → Bool
may_stand Awaiting pending (word w) = true
may_stand Awaiting pending minus = true
may_stand Awaiting pending opening = true
may_stand Complete pending plus = true
may_stand Complete pending slash = true
may_stand Complete (Bracket ∷ pending) closing = true
may_stand Complete [] semicolon = true
may_stand stage pending t = false

-- the text may end behind a factor outside all brackets, and behind a semicolon
abbrev pub may_end : Stage → List Pending → Bool
may_end Complete [] = true
may_end Ended pending = true
may_end stage pending = false

abbrev pub is_bad : Token → Bool
is_bad other = true
is_bad t = false

-- a bracket and a minus sign nest what follows
abbrev pub nests : Token → Bool
nests minus = true
nests opening = true
nests t = false

-- a node is a word, a minus, a plus or a slash
abbrev pub is_node : Token → Bool
is_node (word w) = true
is_node minus = true
is_node plus = true
is_node slash = true
is_node t = false

abbrev pub is_unknown : List (List ℕ) → Token → Bool
is_unknown names (word w) = is_none (word_rule names w)
is_unknown names t = false

-- the first of its tests that a token fails
abbrev pub token_fault : List (List ℕ) → Standing → Placed → Option RuleFault
token_fault names s t =
    if is_bad t.1 then Some (BadByte t.0)
    else (if not (may_stand s.stage s.pending t.1) then Some (Expected t.0)
    else (if nests t.1 && nat_le MOST_NESTING (length s.pending) then Some (TooDeep t.0)
    else (if is_unknown names t.1 then Some (UnknownCode t.0)
    else (if is_node t.1 && nat_le MOST_NODES s.count then Some (TooLong t.0)
    else None))))

abbrev pub stage_behind : Token → Stage
stage_behind (word w) = Complete
stage_behind closing = Complete
stage_behind semicolon = Ended
stage_behind t = Awaiting

-- behind a whole factor its minus signs are pending no longer
abbrev pub without_signs : List Pending → List Pending
without_signs (Sign ∷ pending) = without_signs pending
without_signs pending = pending

abbrev pub pending_behind : List Pending → Token → List Pending
pending_behind pending (word w) = without_signs pending
pending_behind pending minus = Sign ∷ pending
pending_behind pending opening = Bracket ∷ pending
pending_behind (Bracket ∷ pending) closing = without_signs pending
pending_behind pending t = pending

abbrev pub behind : Standing → Token → Standing
behind s t = record { stage = stage_behind t; pending = pending_behind s.pending t; count = if is_node t then s.count + 1 else s.count }

-- the first fault of these tokens, or of the text's end
abbrev pub fault_from : List (List ℕ) → ℕ → Standing → List Placed → Option RuleFault
fault_from names end s [] = if may_end s.stage s.pending then None else Some (Expected end)
fault_from names end s (t ∷ ts) = option_or (token_fault names s t) (fault_from names end (behind s t.1) ts)

abbrev pub first_fault : List (List ℕ) → List ℕ → Option RuleFault
first_fault names text = if list_all is_blank text then Some Empty else fault_from names (length text) start (tokens text)
