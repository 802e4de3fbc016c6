-- Answers: the one answer that the bytes of a file get, its content or a refusal with a place.
use Rattle.std.specs.Prelude.{◌≡◌, ℕ, ◌<◌, ◌≤◌, ◌⊎◌, List, [], ◌∷◌, ◌++◌, length, Some, None}
use Rattle.model.specs.declared.refusal.Refusal.{Refusal}
use Rattle.model.specs.declared.refusal.Refusal.TheVariants.{TicksOutsideRange, RequestOutsideLimits, FileTooLong, RecordOutOfPlace, NoStopRecord}
use Rattle.model.specs.Drafts.{Unaddable}
use Rattle.flightfile.specs.declared.record.Record.{Record}
use Rattle.model.specs.declared.request.Request.{Request}
use Rattle.flightfile.specs.Contents.{Content, bytes, TicksInLimits, StopInRange, Lawful}
use Rattle.flightfile.specs.Records.{Bytes, Unreadable, Begins}

-- The arrival of the last request, or a if there is none.
abbrev pub last_arrival : ℕ → List Request → ℕ
last_arrival a [] = a
last_arrival a (q ∷ qs) = last_arrival q.arrival qs

-- The record may stand after these: a row after no request, a request with no earlier arrival than
-- the one before it, and nothing after the stop.
abbrev pub InPlace : Content → Record → Type 0
InPlace c (Record.Row _) = (c.requests ≡ []) × (c.stop ≡ None)
InPlace c (Record.Request q) = (last_arrival 0 c.requests ≤ q.arrival) × (c.stop ≡ None)
InPlace c (Record.Stop _) = c.stop ≡ None

-- What a record in its place is refused with for its own sake.
abbrev pub Unfit : Content → Record → Refusal → Type 0
Unfit c (Record.Row t) e = Unaddable c.rows t e
Unfit c (Record.Request q) e = (TicksInLimits q → ⊥) × (e ≡ RequestOutsideLimits)
Unfit c (Record.Stop n) e = (StopInRange n → ⊥) × (e ≡ TicksOutsideRange)

-- The record after these is refused: out of place, or else unfit.
abbrev pub Unlawful : Content → Record → Refusal → Type 0
Unlawful c x e = ((InPlace c x → ⊥) × (e ≡ RecordOutOfPlace)) ⊎ (InPlace c x × Unfit c x e)

-- The bytes after these records begin with no record, or with one that is refused.
abbrev pub Wrong : Content → List ℕ → Refusal → Type 0
Wrong c bs e = Unreadable bs e ⊎ ((x : Record) × (rest : List ℕ) × Begins bs x rest × Unlawful c x e)

-- After these records the file ends without a stop.
abbrev pub Unstopped : Content → List ℕ → Refusal → Type 0
Unstopped c bs e = (bs ≡ []) × (c.stop ≡ None) × (e ≡ NoStopRecord)

-- A lawful run of records at the front of the bytes, which ends at `place`, and what follows it.
pub record Front (bs : List ℕ) (run : Content) (place : ℕ) (rest : List ℕ) : Type 0 where
  pub lawful : Lawful run
  pub split : bs ≡ bytes run ++ rest
  pub ends : place ≡ length (bytes run)

-- What reading comes to.
pub data Answer : Type 0 where
  says : Content → Answer
  refused : Refusal → ℕ → Answer

-- The content of a whole file: lawful, with a stop, and its bytes are the file.
abbrev pub Says : List ℕ → Content → Type 0
Says bs c = (length bs ≤ 65536) × Lawful c × ((n : ℕ) × (c.stop ≡ Some n)) × (bs ≡ bytes c)

-- Why a file is refused, and where: too long, at 0; or after a lawful run of records what follows is
-- wrong, or nothing follows and there was no stop.
abbrev pub Refuses : List ℕ → Refusal → ℕ → Type 0
Refuses bs e place =
    ((65536 < length bs) × (e ≡ FileTooLong) × (place ≡ 0))
    ⊎ ((length bs ≤ 65536) × ((run : Content) × (rest : List ℕ) × Front bs run place rest × (Wrong run rest e ⊎ Unstopped run rest e)))

-- The bytes have this answer.
abbrev pub Answers : List ℕ → Answer → Type 0
Answers bs (says c) = Says bs c
Answers bs (refused e place) = Refuses bs e place

-- Every byte string has an answer, and no other.
unfoldable pub OneAnswer : Type 0
OneAnswer = (bs : List ℕ) → Bytes bs → (a : Answer) × Answers bs a × ((b : Answer) → Answers bs b → b ≡ a)

-- The place of a refusal is where the longest lawful run of records ends, unless the file is too long.
unfoldable pub LongestRun : Type 0
LongestRun = (bs : List ℕ) (e : Refusal) (place : ℕ) → length bs ≤ 65536 → Refuses bs e place → (run : Content) (rest : List ℕ) → Lawful run → bs ≡ bytes run ++ rest → length (bytes run) ≤ place
