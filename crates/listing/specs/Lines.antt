-- Lines: the text that a flight file is listed as.
use Rattle.std.specs.Prelude.{◌≡◌, ℕ, Bool, if◌then◌else◌, List, [], ◌∷◌, ◌++◌, length, codes, decimal}
use Rattle.std.specs.List.{flat_map}
use Rattle.model.specs.declared.refusal.Refusal.{Refusal}
use Rattle.model.specs.Refusals.{refused_text}
use Rattle.flightfile.specs.declared.record.Record.{Record}
use Rattle.flightfile.specs.Answers.{Answer, says, refused, Answers}
use Rattle.flightfile.specs.Contents.{Content, records}
use Rattle.flightfile.specs.Texts.{record_text}

-- The byte that ends a line.
abbrev pub newline : List ℕ
newline = 10 ∷ []

abbrev pub record_line : Record → List ℕ
record_line x = record_text x ++ newline

-- The line of each record in file order.
abbrev pub record_lines : Content → List ℕ
record_lines c = flat_map record_line (records c)

-- What the last line of a listing says: the file's bytes, rows and requests, and how it was found when
-- written back.
abbrev pub summary_text : ℕ → ℕ → ℕ → List ℕ → List ℕ
summary_text size rows requests found = codes "read," ++ (decimal size ++ (codes "," ++ (decimal rows ++ (codes "," ++ (decimal requests ++ (codes "," ++ found))))))

abbrev pub found_word : Bool → List ℕ
found_word same = if same then codes "same" else codes "differs"

abbrev pub summary_line : ℕ → ℕ → ℕ → List ℕ → List ℕ
summary_line size rows requests found = summary_text size rows requests found ++ newline

-- The one line of a refused file.
abbrev pub refused_line : Refusal → ℕ → List ℕ
refused_line e place = refused_text e place ++ newline

-- What is printed of a file: the lines of its records and the last, in which it is always the same; or
-- its refusal.
abbrev pub printed : List ℕ → Answer → List ℕ
printed file (says c) = record_lines c ++ summary_line (length file) (length c.rows) (length c.requests) (codes "same")
printed file (refused e place) = refused_line e place

-- The text is what is printed of the answer to the file.
abbrev pub Reported : List ℕ → List ℕ → Type 0
Reported file text = (a : Answer) × Answers file a × (text ≡ printed file a)
