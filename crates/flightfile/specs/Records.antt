-- Records: which bytes a record is, and which bytes begin with no record.
use Rattle.std.specs.Prelude.{◌≡◌, ℕ, zero, suc, ◌/◌, ◌%◌, ◌^◌, ◌<◌, cond, ◌⊎◌, List, [], ◌∷◌, ◌++◌, length, Some, None, Ok, Err, Option, Result, ◌==◌, slice_index}
use Rattle.std.specs.Borrow.{Bor}
use Rattle.model.specs.declared.refusal.Refusal.{Refusal}
use Rattle.model.specs.declared.refusal.Refusal.TheVariants.{EndInsideRecord, UnknownKind}
use Rattle.flightfile.specs.declared.record.Kind.{Kind}
use Rattle.flightfile.specs.declared.record.Record.{Record}

-- Each number is a byte.
abbrev pub Bytes : List ℕ → Type 0
Bytes bs = (i : ℕ) → slice_index bs i < 256

-- n in k bytes, the least significant first.
abbrev pub little_endian : ℕ → ℕ → List ℕ
little_endian zero n = []
little_endian (suc k) n = n % 256 ∷ little_endian k (n / 256)

-- The bytes of a record: its kind (R, Q or S) and its numbers.
abbrev pub encode : Record → List ℕ
encode (Record.Row t) = 0x52 ∷ (little_endian 2 t.cost ++ (little_endian 2 t.deadline ++ little_endian 2 t.period))
encode (Record.Request q) = 0x51 ∷ (little_endian 4 q.arrival ++ (little_endian 2 q.number ++ little_endian 2 q.ticks))
encode (Record.Stop n) = 0x53 ∷ little_endian 4 n

-- The record's numbers have a place in its bytes.
abbrev pub Encodable : Record → Type 0
Encodable (Record.Row t) = (t.cost < 2 ^ 16) × (t.deadline < 2 ^ 16) × (t.period < 2 ^ 16)
Encodable (Record.Request q) = (q.arrival < 2 ^ 32) × (q.number < 2 ^ 16) × (q.ticks < 2 ^ 16)
Encodable (Record.Stop n) = n < 2 ^ 32

-- How many bytes follow a kind byte; none if no record has that kind.
abbrev pub body_length : ℕ → Option ℕ
body_length k = cond (k == 0x52) (Some 6) (cond (k == 0x51) (Some 8) (cond (k == 0x53) (Some 4) None))

-- The byte of a kind.
abbrev pub kind_byte : Kind → ℕ
kind_byte Kind.Row = 0x52
kind_byte Kind.Request = 0x51
kind_byte Kind.Stop = 0x53

-- The byte is this kind's, or no kind's.
abbrev pub KindRead : ℕ → Result Kind Refusal → Type 0
KindRead byte (Ok kind) = byte ≡ kind_byte kind
KindRead byte (Err e) = (body_length byte ≡ None) × (e ≡ UnknownKind)

-- The first byte is no kind.
abbrev pub Unknown : List ℕ → Type 0
Unknown [] = ⊥
Unknown (k ∷ body) = body_length k ≡ None

-- The bytes end inside their first record.
abbrev pub Cut : List ℕ → Type 0
Cut [] = ⊥
Cut (k ∷ body) = (n : ℕ) × (body_length k ≡ Some n) × (length body < n)

-- Why the bytes do not begin with a whole record.
abbrev pub Unreadable : List ℕ → Refusal → Type 0
Unreadable bs e = (Unknown bs × (e ≡ UnknownKind)) ⊎ (Cut bs × (e ≡ EndInsideRecord))

-- The bytes begin with the record x, and `rest` follows.
pub record Begins (bs : List ℕ) (x : Record) (rest : List ℕ) : Type 0 where
  pub encodable : Encodable x
  pub split : bs ≡ encode x ++ rest

-- The first record and the rest, or why there is none.
abbrev pub Split : List ℕ → Result (Record × Bor (List ℕ)) Refusal → Type 0
Split bs (Ok p) = Begins bs p.0 p.1.now
Split bs (Err e) = Unreadable bs e
