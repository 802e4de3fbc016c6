use Rattle.std.proofs.Common.{length, ap, arith}
use Rattle.std.proofs.lemmas.List.Folds.{length-flat_map-take}
use Rattle.flightfile.specs.Records.{encode}
use Rattle.flightfile.proofs.Outputs.{puts_next}
use Rattle.flightfile.proofs.writing.Output.put_all.Goals as goal

pub put-requires : goal.put-requires
put-requires g c =
    let f = λ (x : g.row.T.Denot). encode (g.T.ToRecord.meaning x) in
    let x = c.item-item.result in
    omega (arith, length-flat_map-take f c.args.items.now c.loop-item.item-index x c.loop-item-test.true, ap (λ y. length (f y)) c.item-item.is, ap (λ r. length (encode r)) c.to_record.ensures)

pub loop-item-preserved : goal.loop-item-preserved
loop-item-preserved g c =
    puts_next _ c.args.self.now c.loop-item.self _ c.args.items.now c.loop-item.item-index c.item-item.result _ c.loop-item-test.true c.item-item.is (ap encode c.to_record.ensures) c.loop-item.invariant c.put.ensures
