use Rattle.std.proofs.Common.{take}
use Rattle.std.specs.List.{flat_map}
use Rattle.flightfile.specs.Records.{encode}
use Rattle.flightfile.specs.Writing.{Puts}
use Rattle.flightfile.proofs.writing.Output.put_all.Given as goal

abbrev pub invariant-loop-item : goal.invariant-loop-item
invariant-loop-item g l = Puts l.initial.self (flat_map (λ item. encode (g.T.ToRecord.meaning item)) (take l.item-index l.items)) l.self
