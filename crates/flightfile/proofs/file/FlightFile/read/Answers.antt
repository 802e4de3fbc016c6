use Rattle.std.proofs.Common.{Err, vec_capacity, refl, arith, rules}
use Rattle.std.proofs.lemmas.Result.{err_from_is_err_and}
use Rattle.flightfile.proofs.Steps.{not_split, taken, not_admitted, less_room, enough}
use Rattle.flightfile.proofs.file.FlightFile.read.Goals as goal
use Rattle.flightfile.proofs.file.FlightFile.read.Goals.{In_err-admit}

pub returns-in_err-record-clause-answer : goal.returns-in_err-record-clause-answer
returns-in_err-record-clause-answer c =
    let p = err_from_is_err_and c.from_residual.result c.from_residual.ensures.1 in
    rw (p.1, p.2) (not_split c.args.input.now (omega arith) c.loop-rest.reader c.loop-rest.rest.now c.loop-rest.invariant.0 _ refl (vec_capacity c.args.room) c.split.result c.map_err.result _ c.in_err-record.was c.map_err.ensures.cases (λ e q h. search rules) c.split.ensures)

-- What is wrong with a record is the answer to the whole input.
pub returns-in_err-admit-clause-answer : goal.returns-in_err-admit-clause-answer
returns-in_err-admit-clause-answer c =
    let e = c.in_err-admit.field-0.0 in
    let told = not_admitted c.args.input.now (omega arith) c.loop-rest.reader c.loop-rest.rest.now c.loop-rest.invariant.0 _ refl c.in_ok-record.record c.in_ok-record.after.now (search rules) c.admit.new.self e (search rules) in
    search (rules, less_room (vec_capacity c.args.room) _ _ (Err e) (omega (arith, c.new-reader.ensures.room, c.loop-rest.invariant.1)) told)

pub returns-in_err-admit-clause-enough : goal.returns-in_err-admit-clause-enough
returns-in_err-admit-clause-enough c = enough (vec_capacity c.args.room) c.args.input.now _ (returns-in_err-admit-clause-answer c)

pub loop-rest-preserved : goal.loop-rest-preserved
loop-rest-preserved c =
    let inv = c.loop-rest.invariant in
    let t = c.in_ok-admit.ensures in
    (taken c.args.input.now (omega arith) c.loop-rest.reader c.loop-rest.rest.now inv.0 _ refl c.in_ok-record.record c.in_ok-record.after.now (search rules) c.admit.new.self t, omega (arith, inv.1, t.room))
