-- The line: what putting, picking and serving do to the list of those who wait.
use Rattle.std.specs.Prelude.{◌≡◌, ℕ, ◌<◌, ◌≤◌, ◌⊎◌, List, [], ◌∷◌, ◌++◌, length, Some, None, Ok, Err, Option, Result, slice_index_or, slice_set}
use Rattle.std.specs.List.{remove}
use Rattle.model.specs.declared.refusal.Refusal.{Refusal}
use Rattle.model.specs.declared.refusal.Refusal.TheVariants.{RequestOutsideLimits, LineFull}
use Rattle.model.specs.Requests.{Askable}
use Rattle.model.specs.Slots.{items_of}
use Rattle.waiting.specs.declared.line.Line.{Line}
use Rattle.waiting.specs.declared.request.FinishedRequest.{FinishedRequest}
use Rattle.waiting.specs.declared.request.WaitingRequest.{WaitingRequest}
use Rattle.waiting.specs.Requests.{unused, given, finished_by}

-- The requests in a line, the earliest put first.
abbrev pub requests_of : Line → List WaitingRequest
requests_of l = items_of l.requests

-- Why a request of so many ticks cannot be put: the ticks are outside the limits, or else sixty-four wait.
abbrev pub Unputtable : List WaitingRequest → ℕ → Refusal → Type 0
Unputtable line ticks e =
    ((Askable ticks → ⊥) × (e ≡ RequestOutsideLimits)) ⊎ (Askable ticks × (64 ≤ length line) × (e ≡ LineFull))

-- Where `old` waited, putting q leaves `new`: q stands behind the others, or is refused and nothing changes.
abbrev pub Put : List WaitingRequest → WaitingRequest → Result (Unit {0}) Refusal → List WaitingRequest → Type 0
Put old q (Ok _) new = Askable q.left × (length old < 64) × (new ≡ old ++ q ∷ [])
Put old q (Err e) new = Unputtable old q.left e × (new ≡ old)

-- A place is picked exactly if somebody waits, and somebody waits there.
abbrev pub PickedFrom : List WaitingRequest → Option ℕ → Type 0
PickedFrom line None = line ≡ []
PickedFrom line (Some place) = place < length line

-- Where `old` waited, giving the tick to the picked place leaves `new`. The request there has one tick less and no
-- other changes; if that was its last, it leaves the line and is handed back.
abbrev pub Served : List WaitingRequest → Option ℕ → ℕ → Option FinishedRequest → List WaitingRequest → Type 0
Served old None tick back new = (back ≡ None) × (new ≡ old)
Served old (Some place) tick None new =
    let q = slice_index_or old place unused in
    (1 < q.left) × (new ≡ slice_set old place (given tick q))
Served old (Some place) tick (Some done) new =
    let q = slice_index_or old place unused in
    (q.left ≡ 1) × (done ≡ finished_by tick q) × (new ≡ remove old place)
