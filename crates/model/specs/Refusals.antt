-- The numbers of the refusals, and what is printed of a refusal in a file.
use Rattle.std.specs.Prelude.{ℕ, List, ◌++◌, codes, decimal}
use Rattle.model.specs.declared.refusal.PlacedRefusal.{PlacedRefusal}
use Rattle.model.specs.declared.refusal.Refusal.{Refusal}
use Rattle.model.specs.declared.refusal.Refusal.TheVariants.{RowOutsideLimits, SeventeenthRow, NoRows, HyperperiodTooLong, TooManyJobs, DeadlineMissed, EntriesUnfit, TicksOutsideRange, ToldOutOfTurn, RequestOutsideLimits, LineFull, FileTooLong, EndInsideRecord, UnknownKind, RecordOutOfPlace, NoStopRecord, OutputTooShort}

abbrev pub number_of : Refusal → ℕ
number_of RowOutsideLimits = 1
number_of SeventeenthRow = 2
number_of NoRows = 3
number_of HyperperiodTooLong = 4
number_of TooManyJobs = 5
number_of (DeadlineMissed row lacking) = 6
number_of EntriesUnfit = 7
number_of TicksOutsideRange = 8
number_of ToldOutOfTurn = 9
number_of RequestOutsideLimits = 10
number_of LineFull = 11
number_of FileTooLong = 12
number_of EndInsideRecord = 13
number_of UnknownKind = 14
number_of RecordOutOfPlace = 15
number_of NoStopRecord = 16
number_of OutputTooShort = 17

-- A refusal with its place.
abbrev pub refusal_at : Refusal → ℕ → PlacedRefusal
refusal_at e place = record { refusal = e; place = place }

-- The word refused, the refusal's number and its place, with commas between them.
abbrev pub refused_text : Refusal → ℕ → List ℕ
refused_text e place = codes "refused," ++ (decimal (number_of e) ++ (codes "," ++ decimal place))
