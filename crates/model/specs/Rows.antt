-- Rows: the three numbers of a row, and which numbers a row may have.
use Rattle.std.specs.Prelude.{◌≡◌, ℕ, ◌≤◌, Ok, Err, Result}
use Rattle.model.specs.declared.refusal.Refusal.{Refusal}
use Rattle.model.specs.declared.refusal.Refusal.TheVariants.{RowOutsideLimits}
use Rattle.model.specs.declared.row.Row.{Row}
use Rattle.model.specs.declared.row.Times.{Times}

-- The numbers of these three.
abbrev pub times : ℕ → ℕ → ℕ → Times
times c d t = record { cost = c; deadline = d; period = t }

-- What a row of the program means.
abbrev pub times_of : Row → Times
times_of r = times r.cost r.deadline r.period

-- 1 ≤ cost ≤ deadline ≤ period ≤ 60,000.
pub record InLimits (t : Times) : Type 0 where
  pub some : 1 ≤ t.cost
  pub fits : t.cost ≤ t.deadline
  pub within : t.deadline ≤ t.period
  pub limit : t.period ≤ 60000

-- A row is made of these numbers exactly if they are within the limits, and refused otherwise.
abbrev pub Made : Times → Result Row Refusal → Type 0
Made t (Ok r) = InLimits t × (times_of r ≡ t)
Made t (Err e) = (InLimits t → ⊥) × (e ≡ RowOutsideLimits)
