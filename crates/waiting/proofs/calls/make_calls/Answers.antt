use Rattle.std.proofs.Common.{rules, arith}
use Rattle.std.proofs.Math.Seq.{map-set_same}
use Rattle.waiting.proofs.KeptByCalls.{ticks_kept, requests_kept}
use Rattle.waiting.proofs.OneMoreExchange.{transcript_more, transcript_all}
use Rattle.waiting.proofs.calls.make_calls.Goals as goal

pub loop-exchange-preserved : goal.loop-exchange-preserved
loop-exchange-preserved g c = search (rules, map-set_same, transcript_more)

pub returns-clause-answered : goal.returns-clause-answered
returns-clause-answered g c = transcript_all _ _ _ _ (omega arith) c.loop-exchange.invariant.1

pub returns-clause-ticks : goal.returns-clause-ticks
returns-clause-ticks g c = ticks_kept _ _ _ (returns-clause-answered g c)

pub returns-clause-requests : goal.returns-clause-requests
returns-clause-requests g c = requests_kept _ _ _ (returns-clause-answered g c)
