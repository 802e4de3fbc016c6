use Rattle.std.proofs.Common.{rules, tests}
use Rattle.std.proofs.lemmas.Iterator.{YieldsList-from_slice}
use Rattle.std.proofs.lemmas.Iterator.Consumers.{YieldsList-from_enumerate}
use Rattle.waiting.proofs.Picks.{shortest_from, picks_shortest}
use Rattle.waiting.proofs.rule.ShortestLeftPickRule.pick.Goals as goal

pub returns-clause-least : goal.returns-clause-least
returns-clause-least c =
    picks_shortest c.args.line.now c.min_by_key.result c.map.result (search (rules, tests)) c.min_by_key.ensures.ran (YieldsList-from_enumerate (YieldsList-from_slice _ cc) cc) (λ x n q k. search (rules, tests)) (λ x y n m q r below k l. search (rules, tests))

pub returns-clause-place : goal.returns-clause-place
returns-clause-place c = search (rules, shortest_from, returns-clause-least c)
