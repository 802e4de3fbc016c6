-- A transcript, longer by one exchange whose answer has been filled in.
use Rattle.std.proofs.Common.{ℕ, ◌+◌, ◌<◌, ◌≤◌, List, [], ◌∷◌, ◌++◌, length, take, set, sym, refl, subst}
use Rattle.std.proofs.lemmas.List.{take_all, take_more_set}
use Rattle.waiting.specs.declared.calls.Exchange.{Exchange}
use Rattle.waiting.specs.declared.request.WaitingRequest.{WaitingRequest}
use Rattle.waiting.specs.Transcripts.{Answered, Transcript}

transcript_push : (old mid new : List WaitingRequest) (xs : List Exchange) (x : Exchange) → Transcript old xs mid → Answered mid x.call x.answer new → Transcript old (xs ++ x ∷ []) new
transcript_push old mid new [] x same last = subst (λ l. Transcript l (x ∷ []) new) same (new, last, refl)
transcript_push old mid new (y ∷ xs) x (next, first, rest) last = (next, first, transcript_push next mid new xs x rest last)

pub transcript_more : (old mid new : List WaitingRequest) (xs : List Exchange) (i : ℕ) (x : Exchange) → i < length xs → Transcript old (take i xs) mid → Answered mid x.call x.answer new → Transcript old (take (i + 1) (set xs i x)) new
transcript_more old mid new xs i x h before last =
    subst (λ l. Transcript old l new) (sym (take_more_set xs i x h)) (transcript_push old mid new (take i xs) x before last)

pub transcript_all : (old new : List WaitingRequest) (xs : List Exchange) (n : ℕ) → length xs ≤ n → Transcript old (take n xs) new → Transcript old xs new
transcript_all old new xs n h whole = subst (λ l. Transcript old l new) (take_all n xs h) whole
