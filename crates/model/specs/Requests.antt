-- Requests: how many ticks one may ask for.
use Rattle.std.specs.Prelude.{◌≡◌, ℕ, ◌≤◌, Ok, Err, Result}
use Rattle.model.specs.declared.refusal.Refusal.{Refusal}
use Rattle.model.specs.declared.refusal.Refusal.TheVariants.{RequestOutsideLimits}
use Rattle.model.specs.declared.request.Request.{Request}

-- As many ticks as a request may ask for: 1 to 60,000.
abbrev pub Askable : ℕ → Type 0
Askable ticks = (1 ≤ ticks) × (ticks ≤ 60000)

-- The request asks for so many, or it is refused.
abbrev pub Checked : Request → Result (Unit {0}) Refusal → Type 0
Checked q (Ok _) = Askable q.ticks
Checked q (Err e) = (Askable q.ticks → ⊥) × (e ≡ RequestOutsideLimits)
