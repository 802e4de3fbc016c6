-- Slots: the list that they hold, and what adding to it does.
use Rattle.std.specs.Prelude.{◌≡◌, ℕ, ◌<◌, List, [], ◌∷◌, ◌++◌, length, take, Ok, Err, Result}
use Rattle.std.proofs.Common.{arith}
use Rattle.std.proofs.lemmas.List.{length-take-le}
use Rattle.model.specs.declared.slots.Slots.{Slots}

-- The values in order.
abbrev pub items_of : {T : Type 0} {N : ℕ} → Slots T N → List T
items_of s = take s.len s.slots

pub length-items_of : {T : Type 0} {N : ℕ} (s : Slots T N) → length (items_of s) ≡ s.len
length-items_of s = length-take-le s.len s.slots (omega (arith, s.full, s.few))

-- In n slots, adding x behind the values `old` leaves `new`; or all slots are used, and x is handed back.
abbrev pub Pushed : {T : Type 0} → ℕ → List T → T → Result (Unit {0}) T → List T → Type 0
Pushed n old x (Ok _) new = (length old < n) × (new ≡ old ++ x ∷ [])
Pushed n old x (Err y) new = (length old ≡ n) × (y ≡ x) × (new ≡ old)
