-- What is kept over a list of calls: one law for whatever is weighed of a request, used for its ticks and for itself.
use Rattle.std.proofs.Common.{◌≡◌, ℕ, ◌+◌, ◌<◌, cond, List, [], ◌∷◌, Some, None, Ok, Err, sum_by, Result, sym, refl, arith}
use Rattle.std.specs.List.{flat_map}
use Rattle.std.proofs.lemmas.Grind.{common_steps}
use Rattle.std.proofs.lemmas.List.Sums.{sum_by-append}
use Rattle.model.specs.declared.refusal.Refusal.{Refusal}
use Rattle.waiting.specs.declared.calls.Answer.{Answer}
use Rattle.waiting.specs.declared.calls.Call.{Call}
use Rattle.waiting.specs.declared.calls.Exchange.{Exchange}
use Rattle.waiting.specs.declared.request.WaitingRequest.{WaitingRequest}
use Rattle.waiting.specs.Requests.{given, finished_by}
use Rattle.waiting.specs.Transcripts.{Answered, Transcript, taken, ticks_given, handed_back, all_taken, TicksKept, finished_with, RequestsKept}

sum_by-flat_map : {X Y : Type 0} (f : Y → ℕ) (g : X → List Y) (xs : List X) → sum_by f (flat_map g xs) ≡ sum_by (λ x. sum_by f (g x)) xs
sum_by-flat_map f g [] = refl
sum_by-flat_map f g (x ∷ xs) = grind (arith, common_steps, sum_by-append, sum_by-flat_map f g xs)

-- What is weighed of a request goes out of the line while the request is served, and at no other time.
record Balanced (weight : WaitingRequest → ℕ) (out : Answer → ℕ) : Type 0 where
  put : (r : Result (Unit {0}) Refusal) → out (Answer.Put r) ≡ 0
  nobody : out (Answer.Serve None None) ≡ 0
  stays : (tick place : ℕ) (q : WaitingRequest) → 1 < q.left → weight (given tick q) + out (Answer.Serve (Some place) None) ≡ weight q
  leaves : (tick place : ℕ) (q : WaitingRequest) → q.left ≡ 1 → out (Answer.Serve (Some place) (Some (finished_by tick q))) ≡ weight q

module _ (weight : WaitingRequest → ℕ) (out : Answer → ℕ) (b : Balanced weight out) where
  call_kept : (old new : List WaitingRequest) (call : Call) (answer : Answer) → Answered old call answer new → sum_by weight new + out answer ≡ sum_by weight old + sum_by weight (taken call answer)
  call_kept old new (Call.Put q) (Answer.Put (Ok r)) (fits, room, is) = grind (arith, common_steps, is, b.put (Ok r))
  call_kept old new (Call.Put q) (Answer.Put (Err e)) (why, is) = grind (arith, is, b.put (Err e))
  call_kept old new (Call.Put q) (Answer.Serve place back) bad = absurd bad
  call_kept old new (Call.Serve tick) (Answer.Put r) bad = absurd bad
  call_kept old new (Call.Serve tick) (Answer.Serve None back) (within, (none, same)) = grind (arith, none, same, b.nobody)
  call_kept old new (Call.Serve tick) (Answer.Serve (Some place) None) (within, (more, is)) =
      grind (arith, common_steps, within, is, more, b.stays)
  call_kept old new (Call.Serve tick) (Answer.Serve (Some place) (Some done)) (within, (last, which, is)) =
      grind (arith, common_steps, within, is, which, last, b.leaves)

  calls_kept : (old new : List WaitingRequest) (xs : List Exchange) → Transcript old xs new → sum_by weight new + sum_by (λ x. out x.answer) xs ≡ sum_by weight old + sum_by weight (all_taken xs)
  calls_kept old new [] same = grind (arith, same)
  calls_kept old new (x ∷ xs) (next, first, rest) =
      grind (arith, common_steps, call_kept old next x.call x.answer first, calls_kept next new xs rest, sum_by-append)

pub ticks_kept : (old new : List WaitingRequest) (xs : List Exchange) → Transcript old xs new → TicksKept old xs new
ticks_kept old new xs calls = calls_kept (λ q. q.left) ticks_given balanced old new xs calls where
  balanced : Balanced (λ q. q.left) ticks_given
  balanced = record { put = λ r. refl; nobody = refl; stays = λ tick place q more. omega arith; leaves = λ tick place q last. sym last }

pub requests_kept : (old new : List WaitingRequest) (xs : List Exchange) → Transcript old xs new → RequestsKept old xs new
requests_kept old new xs calls test =
    omega (arith, calls_kept weight (λ a. finished_with test (handed_back a)) balanced old new xs calls, sum_by-flat_map (λ f. cond (test f.number f.arrival) 1 0) (λ x. handed_back x.answer) xs) where
      weight : WaitingRequest → ℕ
      weight q = cond (test q.number q.arrival) 1 0

      balanced : Balanced weight (λ a. finished_with test (handed_back a))
      balanced = record { put = λ r. refl; nobody = refl; stays = λ tick place q more. omega arith; leaves = λ tick place q last. omega arith }
