-- Texts: what is printed of a record.
use Rattle.std.specs.Prelude.{ℕ, List, ◌++◌, codes, decimal}
use Rattle.flightfile.specs.declared.record.Record.{Record}

-- The word of its kind and its numbers, with commas between them.
abbrev pub record_text : Record → List ℕ
record_text (Record.Row t) = codes "row," ++ (decimal t.cost ++ (codes "," ++ (decimal t.deadline ++ (codes "," ++ decimal t.period))))
record_text (Record.Request q) = codes "request," ++ (decimal q.arrival ++ (codes "," ++ (decimal q.number ++ (codes "," ++ decimal q.ticks))))
record_text (Record.Stop ticks) = codes "stop," ++ decimal ticks
