-- Drafts: the list of rows that a draft holds, and what adding one does to it.
use Rattle.std.specs.Prelude.{◌≡◌, ◌<◌, ◌≤◌, ◌⊎◌, List, [], ◌∷◌, ◌++◌, map, length, Ok, Err, Result}
use Rattle.model.specs.declared.draft.Draft.{Draft}
use Rattle.model.specs.declared.refusal.Refusal.{Refusal}
use Rattle.model.specs.declared.refusal.Refusal.TheVariants.{RowOutsideLimits, SeventeenthRow}
use Rattle.model.specs.declared.row.Times.{Times}
use Rattle.model.specs.Rows.{times_of, InLimits}
use Rattle.model.specs.Slots.{items_of}

-- The rows of a draft, row 1 first.
abbrev pub rows_of : Draft → List Times
rows_of d = map times_of (items_of d.rows)

-- Why these numbers cannot be added to these rows: sixteen are there, or else they break the limits.
abbrev pub Unaddable : List Times → Times → Refusal → Type 0
Unaddable rows t e = ((16 ≤ length rows) × (e ≡ SeventeenthRow)) ⊎ ((length rows < 16) × (InLimits t → ⊥) × (e ≡ RowOutsideLimits))

-- From the rows `old`, adding the numbers t leaves the rows `new`.
abbrev pub Added : List Times → Times → Result (Unit {0}) Refusal → List Times → Type 0
Added old t (Ok _) new = (length old < 16) × InLimits t × (new ≡ old ++ t ∷ [])
Added old t (Err e) new = Unaddable old t e × (new ≡ old)
