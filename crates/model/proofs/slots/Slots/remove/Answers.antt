use Rattle.std.proofs.Common.{rules}
use Rattle.model.proofs.SlotsLemmas.{take-copy_within}
use Rattle.model.proofs.slots.Slots.remove.Goals as goal

pub returns-clause-new : goal.returns-clause-new
returns-clause-new g c = search (rules, take-copy_within)
