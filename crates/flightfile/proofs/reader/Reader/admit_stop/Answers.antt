use Rattle.std.proofs.Common.{arith, rules}
use Rattle.flightfile.specs.declared.record.Record.{Record}
use Rattle.flightfile.specs.Progress.{seen}
use Rattle.flightfile.proofs.OneMore.{lawful_extend}
use Rattle.flightfile.proofs.reader.Reader.admit_stop.Goals as goal

pub invariant_of-self : goal.invariant_of-self
invariant_of-self c =
    let old = c.args.self.now in
    record { lawful = lawful_extend (seen old) (Record.Stop c.args.ticks) old.lawful (omega arith) (record { placed = c.requires; fit = search rules }); reached = tt }
