use Rattle.std.proofs.Common.{Ok, vec_items, refl, rules, arith}
use Rattle.flightfile.specs.Reading.{content_of}
use Rattle.flightfile.specs.Records.{encode}
use Rattle.flightfile.proofs.AllRecords.{file_parts, parts_long, file_says, written_back}
use Rattle.flightfile.proofs.Outputs.{puts_more, written_by}
use Rattle.flightfile.proofs.file.FlightFile.write.Goals as goal

pub put_all-requires : goal.put_all-requires
put_all-requires c = omega (arith, parts_long c.args.self.now c.rows.result.now (vec_items c.args.self.now.requests) c.rows.ensures refl)

pub put_all-requires-2 : goal.put_all-requires-2
put_all-requires-2 c = omega (arith, parts_long c.args.self.now c.rows.result.now c.as_slice.result.now c.rows.ensures c.as_slice.ensures.value)

pub put-requires : goal.put-requires
put-requires c = omega (arith, parts_long c.args.self.now c.rows.result.now c.as_slice.result.now c.rows.ensures c.as_slice.ensures.value)

pub returns : goal.returns
returns c =
    let f = c.args.self.now in
    let parts = file_parts encode f c.rows.result.now c.as_slice.result.now c.rows.ensures c.as_slice.ensures.value in
    let puts = puts_more _ _ _ _ _ c.put_all.ensures (puts_more _ _ _ _ _ c.put_all-2.ensures c.put.ensures) in
    let wrote = written_by _ _ _ _ _ puts parts (search rules) refl (omega arith) in
    record { wrote = wrote; back = written_back (content_of f) c.args.out.now (Ok c.put.new.self.at) _ wrote; readable = file_says f }
