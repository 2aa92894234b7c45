-- What one seat's change does to what is known of all seats.
use Rattle.std.proofs.Common.{◌≡◌, ◌≢◌, ℕ, ◌+◌, ◌<◌, ◌≤◌, List, set, sym, ap, ◌∙◌, subst, ⊎_elim, arith}
use mathlib.Core.Option.{some, some-injective}
use mathlib.Core.Logic.{dite}
use native.Mathlib.Decide.{ℕ_discrete}
use lib.ListN.{get_elem?}
use Rattle.atomic_table.proofs.Lists.{at_set, set_else}
use Rattle.turn_book.specs.History.{StartsWith}
use Rattle.turn_book.specs.Turning.{HasTicket, InTurn, AtStage, Knows}
use Rattle.turn_book.specs.declared.entry.Entry.{Entry}
use Rattle.turn_book.specs.declared.view.View.{View}
use Rattle.turn_book.specs.declared.view.Stage.{Stage}
use Rattle.turn_book.specs.declared.view.Stage.TheVariants.{Idle, Waits, Turn, Counted}
use Rattle.turn_book.proofs.Histories.{starts_further}

pub turn_has : (st : Stage) → InTurn st → HasTicket st
turn_has Idle t = absurd t
turn_has Waits t = tt
turn_has Turn t = tt
turn_has Counted t = tt

module _ {M C R : Type 0} where
  -- a seat changes its view: what holds of each view
  pub each_set : (P : View M C R → Type 0) (vs : List (View M C R)) (id : ℕ) (w : View M C R) → P w
      → ((j : ℕ) (d : View M C R) → j ≢ id → get_elem? vs j ≡ some d → P d) → (j : ℕ) (d : View M C R) → get_elem? (set vs id w) j ≡ some d → P d
  each_set P vs id w mine others j d e =
      ⊎_elim (λ (t : (j ≡ id) × (w ≡ d)). subst P t.1 mine) (λ (t : (j ≢ id) × (get_elem? vs j ≡ some d)). others j d t.0 t.1) (at_set vs id j w d e)

  abbrev pub Apart : List (View M C R) → Type 0
  Apart vs = (i j : ℕ) (v w : View M C R) → get_elem? vs i ≡ some v → get_elem? vs j ≡ some w → HasTicket v.stage → HasTicket w.stage → v.ticket ≡ w.ticket → i ≡ j

  -- no other seat has this seat's ticket
  abbrev pub OwnTicket : List (View M C R) → ℕ → View M C R → Type 0
  OwnTicket vs id w = (j : ℕ) (d : View M C R) → j ≢ id → get_elem? vs j ≡ some d → HasTicket d.stage → HasTicket w.stage → d.ticket ≡ w.ticket → ⊥

  pub apart_set : (vs : List (View M C R)) (id : ℕ) (w : View M C R) → Apart vs → OwnTicket vs id w → Apart (set vs id w)
  apart_set vs id w apart mine i j u v p q a b t =
      ⊎_elim
      (λ (x : (i ≡ id) × (w ≡ u)). ⊎_elim
      (λ (y : (j ≡ id) × (w ≡ v)). x.0 ∙ sym y.0)
      (λ (y : (j ≢ id) × (get_elem? vs j ≡ some v)). absurd (mine j v y.0 y.1 b (subst (λ z. HasTicket z.stage) (sym x.1) a) (sym t ∙ ap (λ (z : View M C R). z.ticket) (sym x.1))))
      (at_set vs id j w v q))
      (λ (x : (i ≢ id) × (get_elem? vs i ≡ some u)). ⊎_elim
      (λ (y : (j ≡ id) × (w ≡ v)). absurd (mine i u x.0 x.1 a (subst (λ z. HasTicket z.stage) (sym y.1) b) (t ∙ ap (λ (z : View M C R). z.ticket) (sym y.1))))
      (λ (y : (j ≢ id) × (get_elem? vs j ≡ some v)). apart i j u v x.1 y.1 a b t)
      (at_set vs id j w v q))
      (at_set vs id i w u p)

  -- a seat that keeps its ticket
  pub same_ticket : (vs : List (View M C R)) (id : ℕ) (v w : View M C R) → Apart vs → get_elem? vs id ≡ some v → HasTicket v.stage → w.ticket ≡ v.ticket → OwnTicket vs id w
  same_ticket vs id v w apart at has same j d other e a b t = other (apart j id d v e at a has (t ∙ same))

  pub no_ticket : (vs : List (View M C R)) (id : ℕ) (w : View M C R) → w.stage ≡ Idle → OwnTicket vs id w
  no_ticket vs id w idle j d other e a b t = subst HasTicket idle b

  -- nobody is in turn before, where nobody is in turn after and this seat wasn't
  pub calm_before : (vs : List (View M C R)) (id : ℕ) (v w : View M C R) → get_elem? vs id ≡ some v → (InTurn v.stage → ⊥)
      → ((j : ℕ) (d : View M C R) → get_elem? (set vs id w) j ≡ some d → InTurn d.stage → ⊥) → (j : ℕ) (d : View M C R) → get_elem? vs j ≡ some d → InTurn d.stage → ⊥
  calm_before vs id v w at calm none_in j d e t =
      dite (ℕ_discrete j id)
      (λ same. let is : d ≡ v = some-injective d v (sym e ∙ (ap (get_elem? vs) same ∙ at)) in calm (subst (λ (z : View M C R). InTurn z.stage) is t))
      (λ other. none_in j d (set_else vs id j w other ∙ e) t)

  module _ (drawn serving : ℕ) (log : List (Entry M C R)) (v : View M C R) where
    pub stage_draws : (now : ℕ) → drawn ≤ now → (st : Stage) → AtStage drawn serving log v st → AtStage now serving log v st
    stage_draws now le Idle a = tt
    stage_draws now le Waits a = (a.0, omega (arith, a.1))
    stage_draws now le Turn a = (a.0, omega (arith, a.1), a.2)
    stage_draws now le Counted a = (a.0, omega (arith, a.1), a.2, a.3)

    pub stage_passes : (st : Stage) → (HasTicket st → v.ticket ≢ serving) → AtStage drawn serving log v st → AtStage drawn (serving + 1) log v st
    stage_passes Idle other a = tt
    stage_passes Waits other a = let n = other tt in let le : serving ≤ v.ticket = a.0 in (omega arith, a.1)
    stage_passes Turn other a = absurd (other tt a.0)
    stage_passes Counted other a = absurd (other tt a.0)

    pub stage_counts : (now : List (Entry M C R)) (st : Stage) → (HasTicket st → v.ticket ≢ serving) → AtStage drawn serving log v st → AtStage drawn serving now v st
    stage_counts now Idle other a = tt
    stage_counts now Waits other a = a
    stage_counts now Turn other a = absurd (other tt a.0)
    stage_counts now Counted other a = absurd (other tt a.0)

    -- a seat that is in turn has the ticket that is served
    pub turn_ticket : (st : Stage) → InTurn st → AtStage drawn serving log v st → v.ticket ≡ serving
    turn_ticket Idle t a = absurd t
    turn_ticket Waits t a = absurd t
    turn_ticket Turn t a = a.0
    turn_ticket Counted t a = a.0

    pub ticket_below : (st : Stage) → HasTicket st → AtStage drawn serving log v st → v.ticket < drawn
    ticket_below Idle t a = absurd t
    ticket_below Waits t a = a.1
    ticket_below Turn t a = a.1
    ticket_below Counted t a = a.1

  -- what a seat knows goes on with the history
  pub knows_on : (a b a' b' : ℕ) (log log' : List (Entry M C R)) (v : View M C R) → StartsWith log' log → Knows a b log v → AtStage a' b' log' v v.stage → Knows a' b' log' v
  knows_on a b a' b' log log' v more k stage = record {
    saw = starts_further log' log v.seen more k.saw;
    heard = starts_further log' log v.told more k.heard;
    no_longer = k.no_longer;
    inside = k.inside;
    at_stage = stage;
  }
