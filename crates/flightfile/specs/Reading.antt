-- Reading: what `read` answers.
use Rattle.std.specs.Prelude.{ℕ, ◌<◌, ◌≤◌, List, length, Some, Ok, Err, vec_items, Result, ◌≢◌}
use Rattle.model.specs.Drafts.{rows_of}
use Rattle.flightfile.specs.declared.file.FlightFile.{FlightFile}
use Rattle.flightfile.specs.declared.reading.ReadError.{ReadError}
use Rattle.flightfile.specs.Answers.{Front, Says, Refuses}
use Rattle.flightfile.specs.Contents.{Content, content}

-- What a flight file of the program says.
abbrev pub content_of : FlightFile → Content
content_of f = content (rows_of f.rows) (vec_items f.requests) (Some f.stop)

-- The file asks for memory for more than `room` requests: a lawful run of its records has so many.
abbrev pub WantsMemory : ℕ → List ℕ → Type 0
WantsMemory room bs = (length bs ≤ 65536) × ((run : Content) × (place : ℕ) × (rest : List ℕ) × Front bs run place rest × (room < length run.requests))

-- What is answered to the bytes of a file with memory for `room` requests at hand: their one answer, or
-- want of memory if they ask for more.
abbrev pub Reads : ℕ → List ℕ → Result FlightFile ReadError → Type 0
Reads room bs (Ok f) = Says bs (content_of f)
Reads room bs (Err (ReadError.Refused p)) = Refuses bs p.refusal p.place
Reads room bs (Err ReadError.NoMemory) = WantsMemory room bs

-- Memory for 7,281 requests is enough for every file.
abbrev pub Enough : ℕ → Result FlightFile ReadError → Type 0
Enough room r = 7281 ≤ room → r ≢ Err ReadError.NoMemory
