-- Contents: what a flight file says, which contents are lawful, and their bytes.
use Rattle.std.specs.Prelude.{ℕ, ◌^◌, ◌<◌, ◌≤◌, List, [], ◌∷◌, ◌++◌, map, length, Option}
use Rattle.std.specs.Coded.{×_prop, Unit-prop, le_prop}
use Rattle.std.specs.List.{flat_map, AllByRecursion, AllByRecursion-prop}
use Rattle.std.specs.Option.{option_to_list}
use Rattle.model.specs.Requests.{Askable}
use Rattle.model.specs.declared.row.Times.{Times}
use Rattle.model.specs.Rows.{InLimits}
use Rattle.flightfile.specs.declared.record.Record.{Record}
use Rattle.model.specs.declared.request.Request.{Request}
use Rattle.flightfile.specs.Records.{encode}

-- What a file says, or a front of it: its rows, its requests and, if the stop record is there, the stop.
pub record Content : Type 0 where
  pub rows : List Times
  pub requests : List Request
  pub stop : Option ℕ

-- The content of these parts.
abbrev pub content : List Times → List Request → Option ℕ → Content
content rs qs s = record { rows = rs; requests = qs; stop = s }

-- Its records in file order: the rows, the requests, the stop.
abbrev pub records : Content → List Record
records c = map Record.Row c.rows ++ (map Record.Request c.requests ++ map Record.Stop (option_to_list c.stop))

-- The bytes of the file: those of its records in turn.
abbrev pub bytes : Content → List ℕ
bytes c = flat_map encode (records c)

-- 1 to 60,000 ticks.
abbrev pub TicksInLimits : Request → Type 0
TicksInLimits q = Askable q.ticks

-- A request of a file: its ticks within the limits, its arrival of 32 bits and its number of 16.
pub record RequestLawful (q : Request) : Type 0 where
  pub ticks : TicksInLimits q
  pub arrival : q.arrival < 2 ^ 32
  pub number : q.number < 2 ^ 16

-- Each arrival is at least the one before it, and the first at least a.
abbrev pub NotFalling : ℕ → List Request → Type 0
NotFalling a [] = Unit {0}
NotFalling a (q ∷ qs) = (a ≤ q.arrival) × NotFalling q.arrival qs

-- A stop is a tick count from 1 to 2,000,000,000.
abbrev pub StopInRange : ℕ → Type 0
StopInRange n = (1 ≤ n) × (n ≤ 2000000000)

-- A content that a file may have, whole or a front of it.
pub record Lawful (c : Content) : Type 0 where
  pub few : length c.rows ≤ 16
  pub rows : AllByRecursion InLimits c.rows
  pub requests : AllByRecursion RequestLawful c.requests
  pub order : NotFalling 0 c.requests
  pub stop : AllByRecursion StopInRange (option_to_list c.stop)

-- A content is lawful in one way: what a ghost field asks of a fact.
InLimits-prop : (t : Times) → IsProp (InLimits t)
InLimits-prop t x y = λ i. record { some = le_prop x.some y.some i; fits = le_prop x.fits y.fits i; within = le_prop x.within y.within i; limit = le_prop x.limit y.limit i }

RequestLawful-prop : (q : Request) → IsProp (RequestLawful q)
RequestLawful-prop q x y = λ i. record { ticks = ×_prop le_prop le_prop x.ticks y.ticks i; arrival = le_prop x.arrival y.arrival i; number = le_prop x.number y.number i }

NotFalling-prop : (a : ℕ) (qs : List Request) → IsProp (NotFalling a qs)
NotFalling-prop a [] = Unit-prop
NotFalling-prop a (q ∷ qs) = ×_prop le_prop (NotFalling-prop q.arrival qs)

pub Lawful-prop : (c : Content) → IsProp (Lawful c)
Lawful-prop c x y = λ i. record {
  few = le_prop x.few y.few i;
  rows = AllByRecursion-prop InLimits InLimits-prop c.rows x.rows y.rows i;
  requests = AllByRecursion-prop RequestLawful RequestLawful-prop c.requests x.requests y.requests i;
  order = NotFalling-prop 0 c.requests x.order y.order i;
  stop = AllByRecursion-prop StopInRange (λ _. ×_prop le_prop le_prop) (option_to_list c.stop) x.stop y.stop i;
}
