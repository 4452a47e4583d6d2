-- What a core is asked in a row, and what it answers. All of this is this project's own.
use Rattle.std.specs.Prelude.{◌≡◌, List, [], ◌∷◌, Some, None}
use Rattle.tablet_model.specs.History.{RowChange}
use Rattle.tablet_model.specs.Rules.{Rules}
use Rattle.tablet_model.specs.Store.{Store}
use Rattle.tablet_model.specs.Steps.{Event, StepAnswer, answer_to_step, log_after, store_after}
use Rattle.iter_config.specs.RulesOf.{rules_of}
use Rattle.tablet_core.specs.State.{Answers, CoreState, state_of}

-- a core is asked for a step: it answers, or memory is wanting
pub data Turn : Type 0 where
  told : Event → StepAnswer → Turn
  without_memory : Event → Turn

-- a core took these turns, one behind the other, on its way from k to l
abbrev pub HasTaken : List Turn → CoreState → CoreState → Type 0
HasTaken [] k l = l ≡ k
HasTaken (told e a ∷ ts) k l = (m : CoreState) × Answers e k m (Some a) × HasTaken ts m l
HasTaken (without_memory e ∷ ts) k l = (m : CoreState) × Answers e k m None × HasTaken ts m l

-- the events of some turns, but for those without memory
unfoldable pub events_told : List Turn → List Event
events_told [] = []
events_told (told e a ∷ ts) = e ∷ events_told ts
events_told (without_memory e ∷ ts) = events_told ts

-- and the answers to them
unfoldable pub answers_told : List Turn → List StepAnswer
answers_told [] = []
answers_told (told e a ∷ ts) = a ∷ answers_told ts
answers_told (without_memory e ∷ ts) = answers_told ts

-- the store behind some events
unfoldable pub store_behind : Rules → Store → List Event → Store
store_behind c s [] = s
store_behind c s (e ∷ es) = store_behind c (store_after c s e) es

-- the log behind them
unfoldable pub log_behind : Rules → Store → List RowChange → List Event → List RowChange
log_behind c s h [] = h
log_behind c s h (e ∷ es) = log_behind c (store_after c s e) (log_after c s h e) es

-- the answers of a store of lists to some events
unfoldable pub answers_to : Rules → Store → List Event → List StepAnswer
answers_to c s [] = []
answers_to c s (e ∷ es) = answer_to_step c s e ∷ answers_to c (store_after c s e) es

-- after any turns, those without memory left out, a core is the store of lists behind their events, and its answers are that store's
pub record FollowsStore (ts : List Turn) (k l : CoreState) : Type 0 where
  pub store : state_of l ≡ store_behind (rules_of k.view.config) (state_of k) (events_told ts)
  pub log : l.view.log ≡ log_behind (rules_of k.view.config) (state_of k) k.view.log (events_told ts)
  pub answers : answers_told ts ≡ answers_to (rules_of k.view.config) (state_of k) (events_told ts)
  pub config : l.view.config ≡ k.view.config

abbrev pub CoresFollowStores : Type 0
CoresFollowStores = (ts : List Turn) (k l : CoreState) → HasTaken ts k l → FollowsStore ts k l
