-- Transcripts: calls to a waiting order with their answers, and what is kept over any of them.
use Rattle.std.specs.Prelude.{◌≡◌, ℕ, ◌+◌, Bool, List, [], ◌∷◌, Some, None, Ok, Err, sum_by, count_by}
use Rattle.std.specs.List.{flat_map}
use Rattle.std.specs.Option.{option_to_list}
use Rattle.waiting.specs.declared.calls.Answer.{Answer}
use Rattle.waiting.specs.declared.calls.Call.{Call}
use Rattle.waiting.specs.declared.calls.Exchange.{Exchange}
use Rattle.waiting.specs.declared.request.FinishedRequest.{FinishedRequest}
use Rattle.waiting.specs.declared.request.WaitingRequest.{WaitingRequest}
use Rattle.waiting.specs.Lines.{PickedFrom, Put, Served}
use Rattle.waiting.specs.Requests.{fresh}

abbrev pub call_of : Exchange → Call
call_of x = x.call

-- The call was answered as it is defined, and turned the line `old` into `new`.
abbrev pub Answered : List WaitingRequest → Call → Answer → List WaitingRequest → Type 0
Answered old (Call.Put q) (Answer.Put taken) new = Put old (fresh q) taken new
Answered old (Call.Put q) (Answer.Serve place finished) new = ⊥
Answered old (Call.Serve tick) (Answer.Put taken) new = ⊥
Answered old (Call.Serve tick) (Answer.Serve place finished) new = PickedFrom old place × Served old place tick finished new

-- The calls were made one after the other, and turned the line `old` into `new`.
abbrev pub Transcript : List WaitingRequest → List Exchange → List WaitingRequest → Type 0
Transcript old [] new = new ≡ old
Transcript old (x ∷ xs) new = (next : List WaitingRequest) × Answered old x.call x.answer next × Transcript next xs new

-- The request that a call put into the line, as it was put; none if the call was another or was refused.
abbrev pub taken : Call → Answer → List WaitingRequest
taken (Call.Put q) (Answer.Put (Ok _)) = fresh q ∷ []
taken (Call.Put q) (Answer.Put (Err _)) = []
taken (Call.Put q) (Answer.Serve place finished) = []
taken (Call.Serve tick) answer = []

-- The ticks given to requests: one if a serve found somebody waiting.
abbrev pub ticks_given : Answer → ℕ
ticks_given (Answer.Put _) = 0
ticks_given (Answer.Serve None finished) = 0
ticks_given (Answer.Serve (Some place) finished) = 1

-- The request that was handed back.
abbrev pub handed_back : Answer → List FinishedRequest
handed_back (Answer.Put _) = []
handed_back (Answer.Serve place finished) = option_to_list finished

-- The same over a whole transcript.
abbrev pub all_taken : List Exchange → List WaitingRequest
all_taken xs = flat_map (λ x. taken x.call x.answer) xs

abbrev pub all_given : List Exchange → ℕ
all_given xs = sum_by (λ x. ticks_given x.answer) xs

abbrev pub all_back : List Exchange → List FinishedRequest
all_back xs = flat_map (λ x. handed_back x.answer) xs

-- All ticks that the line still asks for.
abbrev pub ticks_left : List WaitingRequest → ℕ
ticks_left line = sum_by (λ q. q.left) line

-- The ticks left in the line and the ticks given are the ticks that were there before and those of the requests taken.
abbrev pub TicksKept : List WaitingRequest → List Exchange → List WaitingRequest → Type 0
TicksKept old xs new = ticks_left new + all_given xs ≡ ticks_left old + ticks_left (all_taken xs)

-- How many have a number and an arrival that pass this test.
abbrev pub waiting_with : (ℕ → ℕ → Bool) → List WaitingRequest → ℕ
waiting_with test line = count_by (λ q. test q.number q.arrival) line

abbrev pub finished_with : (ℕ → ℕ → Bool) → List FinishedRequest → ℕ
finished_with test done = count_by (λ f. test f.number f.arrival) done

-- The requests handed back are exactly those that waited before or were taken and wait no longer: by whichever numbers
-- and arrivals they are counted, as many were handed back.
abbrev pub RequestsKept : List WaitingRequest → List Exchange → List WaitingRequest → Type 0
RequestsKept old xs new =
    (test : ℕ → ℕ → Bool) → finished_with test (all_back xs) + waiting_with test new ≡ waiting_with test old + waiting_with test (all_taken xs)
