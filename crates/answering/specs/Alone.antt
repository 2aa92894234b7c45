-- A holder of the desk who is alone.
--     Holding         the state of the desk, and how many steps are left
--     hand_alone h    what such a holder knows and may do
use Rattle.std.specs.Prelude.{ℕ, None, [], refl}
use Rattle.std.specs.Coded.{Coded, code_by, coded×, coded_ℕ}
use Rattle.order_desk.specs.StateCode.{state_code}
use Rattle.order_desk.specs.Tables.{State}
use Rattle.answering.specs.Hand.{Hand}

pub record Holding : Type 0 where
  pub state : State
  pub left : ℕ

abbrev pub holding_code : Coded Holding
holding_code = code_by (State × ℕ) (coded× state_code coded_ℕ) (λ h. (h.state, h.left)) (λ t. record { state = t.0; left = t.1 }) (λ _. refl)

abbrev pub hand_alone : Holding → Hand
hand_alone h = record { book = None; state = h.state; left = h.left; made = [] }
