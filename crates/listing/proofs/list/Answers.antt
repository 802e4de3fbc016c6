use Rattle.std.proofs.Common.{rules, append_assoc}
use Rattle.flightfile.proofs.AllRecords.{file_parts}
use Rattle.listing.specs.Lines.{record_line}
use Rattle.listing.proofs.list.Goals as goal

pub returns : goal.returns
returns c =
    let parts = file_parts record_line c.args.file.now c.rows.result.now c.as_slice.result.now c.rows.ensures c.as_slice.ensures.value in
    search (rules, append_assoc, parts, c.in_ok-writeln.ensures.bytes)
