use Rattle.std.proofs.Common.{◌≡◌, ◌≤◌, ◌++◌, length, vec_capacity}
use Rattle.flightfile.specs.Contents.{bytes}
use Rattle.flightfile.specs.Progress.{seen}
use Rattle.flightfile.proofs.file.FlightFile.read.Given as goal

abbrev pub invariant-loop-rest : goal.invariant-loop-rest
invariant-loop-rest l = (l.input ≡ bytes (seen l.reader) ++ l.rest) × (vec_capacity l.initial.reader.requests ≤ vec_capacity l.reader.requests)

abbrev pub decreases-loop-rest : goal.decreases-loop-rest
decreases-loop-rest l = length l.rest
