-- Phases: the part of a file that a reader has reached.
use Rattle.std.specs.Prelude.{◌≡◌, ℕ, ◌<◌, List, length, Some, None, Option}
use Rattle.std.proofs.Math.Nat.{ℕ_set}
use Rattle.std.specs.Coded.{×_prop, Unit-prop, le_prop}
use Rattle.model.specs.declared.request.Request.{Request}
use Rattle.flightfile.specs.declared.reader.Phase.{Phase}
use Rattle.flightfile.specs.Answers.{last_arrival}

-- The stop that has been read, if it has.
abbrev pub stop_of : Phase → Option ℕ
stop_of Phase.Rows = None
stop_of (Phase.Requests last) = None
stop_of (Phase.Stopped ticks) = Some ticks

-- The phase is the part of the file that these requests have reached.
abbrev pub Reached : Phase → List Request → Type 0
Reached Phase.Rows qs = length qs ≡ 0
Reached (Phase.Requests last) qs = (0 < length qs) × (last ≡ last_arrival 0 qs)
Reached (Phase.Stopped ticks) qs = Unit {0}

-- In one way: what a ghost field asks of a fact.
pub Reached-prop : (phase : Phase) (qs : List Request) → IsProp (Reached phase qs)
Reached-prop Phase.Rows qs = ℕ_set _ _
Reached-prop (Phase.Requests last) qs = ×_prop le_prop (ℕ_set _ _)
Reached-prop (Phase.Stopped ticks) qs = Unit-prop
