-- Requests: as they are put, after a tick given to them, and as they are handed back.
use Rattle.std.specs.Prelude.{ℕ, ◌-◌, ◌≤◌, Some, None}
use Rattle.std.specs.Option.{unwrap_or}
use Rattle.model.specs.declared.request.Request.{Request}
use Rattle.waiting.specs.declared.request.FinishedRequest.{FinishedRequest}
use Rattle.waiting.specs.declared.request.WaitingRequest.{WaitingRequest}

-- What a slot holds that was never used, and what stands behind the end of a list.
abbrev pub unused : WaitingRequest
unused = record { number = 0; arrival = 0; started = None; left = 0 }

-- A request as it is put: it asks for its ticks and has had none.
abbrev pub fresh : Request → WaitingRequest
fresh q = record { number = q.number; arrival = q.arrival; started = None; left = q.ticks }

-- The first tick at which the request was served, if it is served at this one.
abbrev pub started_by : ℕ → WaitingRequest → ℕ
started_by tick q = unwrap_or q.started tick

-- The request after it was given this tick: one tick less, and a first served tick is noted.
abbrev pub given : ℕ → WaitingRequest → WaitingRequest
given tick q =
    record { number = q.number; arrival = q.arrival; started = Some (started_by tick q); left = q.left - 1 }

-- What is handed back of the request if this tick was its last.
abbrev pub finished_by : ℕ → WaitingRequest → FinishedRequest
finished_by tick q = record { number = q.number; arrival = q.arrival; started = started_by tick q }

-- The request still asks for a tick.
abbrev pub Unfinished : WaitingRequest → Type 0
Unfinished q = 1 ≤ q.left
