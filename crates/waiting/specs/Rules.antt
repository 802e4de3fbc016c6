-- Which place each rule picks, first in the subject's words and then as a function of the line.
use Rattle.std.specs.Prelude.{◌≡◌, ℕ, suc, ◌<◌, ◌≤◌, cond, List, [], ◌∷◌, length, Some, None, Option, MatchOption, nat_lt, slice_index_or}
use Rattle.waiting.specs.declared.request.WaitingRequest.{WaitingRequest}
use Rattle.waiting.specs.Requests.{unused}

-- The ticks left at a place of the line.
abbrev pub left_at : List WaitingRequest → ℕ → ℕ
left_at line place = (slice_index_or line place unused).left

-- The ticks left at this place are the least, and less than at every earlier place.
pub record Least (line : List WaitingRequest) (place : ℕ) : Type 0 where
  pub within : place < length line
  pub least : (other : ℕ) → other < length line → left_at line place ≤ left_at line other
  pub first : (earlier : ℕ) → earlier < place → left_at line place < left_at line earlier

-- Arrival order picks the first place, if anybody waits.
abbrev pub Front : List WaitingRequest → Option ℕ → Type 0
Front line place = MatchOption place (line ≡ []) (λ i. (i ≡ 0) × (i < length line))

-- Shortest-left order picks the place with the fewest ticks left, ties to the earliest, if anybody waits.
abbrev pub Shortest : List WaitingRequest → Option ℕ → Type 0
Shortest line place = MatchOption place (line ≡ []) (Least line)

abbrev pub front : List WaitingRequest → Option ℕ
front [] = None
front (q ∷ line) = Some 0

-- q stands before a line in which this place is picked: which of the two is picked.
abbrev pub shorter : WaitingRequest → List WaitingRequest → Option ℕ → Option ℕ
shorter q line None = Some 0
shorter q line (Some place) = cond (nat_lt (left_at line place) q.left) (Some (suc place)) (Some 0)

abbrev pub shortest : List WaitingRequest → Option ℕ
shortest [] = None
shortest (q ∷ line) = shorter q line (shortest line)
