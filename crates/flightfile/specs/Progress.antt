-- Progress: what the reader has seen between two records, and what one record more does to that. Only
-- the contracts of functions that nobody outside can call cite this.
use Rattle.std.specs.Prelude.{◌≡◌, ℕ, ◌<◌, ◌≤◌, [], ◌∷◌, ◌++◌, length, Some, None, Ok, Err, vec_items, vec_capacity, Result}
use Rattle.model.specs.declared.refusal.Refusal.{Refusal}
use Rattle.model.specs.declared.refusal.Refusal.TheVariants.{NoStopRecord}
use Rattle.model.specs.Drafts.{rows_of}
use Rattle.model.specs.Rows.{InLimits}
use Rattle.flightfile.specs.declared.file.FlightFile.{FlightFile}
use Rattle.flightfile.specs.declared.reading.ReadError.{ReadError}
use Rattle.flightfile.specs.declared.reader.Reader.{Reader}
use Rattle.flightfile.specs.declared.record.Record.{Record}
use Rattle.flightfile.specs.Answers.{InPlace, Unlawful}
use Rattle.flightfile.specs.Contents.{Content, content, TicksInLimits, StopInRange}
use Rattle.flightfile.specs.Phases.{stop_of}
use Rattle.flightfile.specs.Reading.{content_of}

-- A record in its place is within its own limits: a row that a draft of the rows so far takes, a
-- request of 1 to 60,000 ticks, a stop in its range.
abbrev pub Fit : Content → Record → Type 0
Fit c (Record.Row t) = (length c.rows < 16) × InLimits t
Fit c (Record.Request q) = TicksInLimits q
Fit c (Record.Stop n) = StopInRange n

-- The record may follow these.
pub record Allowed (c : Content) (x : Record) : Type 0 where
  pub placed : InPlace c x
  pub fit : Fit c x

-- These records and then that one.
abbrev pub extend : Content → Record → Content
extend c (Record.Row t) = content (c.rows ++ t ∷ []) c.requests c.stop
extend c (Record.Request q) = content c.rows (c.requests ++ q ∷ []) c.stop
extend c (Record.Stop n) = content c.rows c.requests (Some n)

-- The records that the reader has taken in.
abbrev pub seen : Reader → Content
seen r = content (rows_of r.rows) (vec_items r.requests) (stop_of r.phase)

-- The record was allowed and has been taken in.
pub record Taken (old : Reader) (x : Record) (new : Reader) : Type 0 where
  pub allowed : Allowed (seen old) x
  pub seen_more : seen new ≡ extend (seen old) x
  pub room : vec_capacity old.requests ≤ vec_capacity new.requests

-- The reader takes a record in, or refuses it at its place.
abbrev pub Admitted : Reader → Record → ℕ → Result (Unit {0}) ReadError → Reader → Type 0
Admitted old x place (Ok _) new = Taken old x new
Admitted old x place (Err (ReadError.Refused p)) new = Unlawful (seen old) x p.refusal × (p.place ≡ place)
Admitted old x place (Err ReadError.NoMemory) new = Allowed (seen old) x × (vec_capacity old.requests < length (extend (seen old) x).requests)

-- The records are a whole content, or the stop has not come.
abbrev pub Finished : Content → Result FlightFile Refusal → Type 0
Finished run (Ok f) = content_of f ≡ run
Finished run (Err e) = (run.stop ≡ None) × (e ≡ NoStopRecord)
