use Rattle.std.proofs.Common.{rules}
use Rattle.std.proofs.Math.Seq.{take-set-lt}
use Rattle.model.proofs.slots.Slots.replace.Goals as goal

pub returns-clause-new : goal.returns-clause-new
returns-clause-new g c = search (rules, take-set-lt)
