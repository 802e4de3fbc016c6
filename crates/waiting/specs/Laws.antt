-- That the line and the two rules keep what the traits ask of every value. These proofs stand here since the
-- impls cite them, but for `all_below`, which stands as it did and is cited by nothing; nothing is defined here.
use Rattle.std.specs.Prelude.{◌≡◌, ℕ, suc, ◌<◌, ◌≤◌, List, [], ◌∷◌, length, take, Some, None, Option, nat_lt, slice_index_or, refl, All}
use Rattle.std.specs.List.{AllByRecursion}
use Rattle.std.proofs.Common.{arith}
use Rattle.std.proofs.lemmas.Bool.{cond_both}
use Rattle.std.proofs.lemmas.List.{length-take-le, get_or-take}
use Rattle.std.proofs.lemmas.List.Elements.{All-from_get_or, recursion_from_All}
use Rattle.model.specs.Slots.{length-items_of}
use Rattle.waiting.specs.declared.line.Line.{Line}
use Rattle.waiting.specs.declared.request.WaitingRequest.{WaitingRequest}
use Rattle.waiting.specs.Lines.{requests_of, PickedFrom}
use Rattle.waiting.specs.Requests.{unused, Unfinished}
use Rattle.waiting.specs.Rules.{left_at, front, shorter, shortest}

pub length-requests_of : (l : Line) → length (requests_of l) ≡ l.requests.len
length-requests_of l = length-items_of l.requests

pub few_wait : (l : Line) → length (requests_of l) ≤ 64
few_wait l = omega (arith, length-requests_of l, l.requests.few)

-- Of any slots: the first n ask for a tick if each of them does.
all_below : (slots : List WaitingRequest) (n : ℕ) → n ≤ length slots → ((k : ℕ) → k < n → Unfinished (slice_index_or slots k unused)) → AllByRecursion Unfinished (take n slots)
all_below slots n h front =
    recursion_from_All Unfinished (take n slots)
    (All-from_get_or Unfinished (take n slots) unused (λ k inside. rw (get_or-take n slots k unused (omega (arith, length-take-le n slots h))) (front k (omega (arith, length-take-le n slots h)))))

pub all_unfinished : (l : Line) → All Unfinished (requests_of l)
all_unfinished l = l.unfinished

pub front_within : (line : List WaitingRequest) → PickedFrom line (front line)
front_within [] = refl
front_within (q ∷ line) = omega arith

shorter_within : (q : WaitingRequest) (line : List WaitingRequest) (place : Option ℕ) → PickedFrom line place → PickedFrom (q ∷ line) (shorter q line place)
shorter_within q line None h = omega arith
shorter_within q line (Some place) h =
    cond_both (nat_lt (left_at line place) q.left) (Some (suc place)) (Some 0) (PickedFrom (q ∷ line)) (λ _. omega arith) (λ _. omega arith)

pub shortest_within : (line : List WaitingRequest) → PickedFrom line (shortest line)
shortest_within [] = refl
shortest_within (q ∷ line) = shorter_within q line (shortest line) (shortest_within line)
