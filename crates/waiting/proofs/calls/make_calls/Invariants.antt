use Rattle.std.proofs.Common.{◌≡◌, map, take}
use Rattle.waiting.specs.Transcripts.{call_of, Transcript}
use Rattle.waiting.proofs.calls.make_calls.Given as goal

abbrev pub invariant-loop-exchange : goal.invariant-loop-exchange
invariant-loop-exchange g l =
    let waits = g.W.WaitingOrder.waiting in
    (map call_of l.transcript ≡ map call_of l.initial.transcript) × Transcript (waits l.initial.order) (take l.exchange-index l.transcript) (waits l.order)
