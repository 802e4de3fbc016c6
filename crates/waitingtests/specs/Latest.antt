-- The rule of the tests' own order: who was put last is served first.
use Rattle.std.specs.Prelude.{ℕ, List, [], ◌∷◌, length, Some, None, Option, refl}
use Rattle.std.proofs.Common.{arith}
use Rattle.waiting.specs.declared.request.WaitingRequest.{WaitingRequest}
use Rattle.waiting.specs.Lines.{PickedFrom}

-- The last place, if anybody waits.
abbrev pub latest : List WaitingRequest → Option ℕ
latest [] = None
latest (q ∷ line) = Some (length line)

pub latest_within : (line : List WaitingRequest) → PickedFrom line (latest line)
latest_within [] = refl
latest_within (q ∷ line) = omega arith
