-- Waiting orders by a rule: who waits in them.
use Rattle.std.specs.Prelude.{List}
use Rattle.waiting.specs.declared.order_by.OrderBy.{OrderBy}
use Rattle.waiting.specs.declared.request.WaitingRequest.{WaitingRequest}
use Rattle.waiting.specs.Lines.{requests_of}

abbrev pub waits : {R : Type 0} → OrderBy R → List WaitingRequest
waits order = requests_of order.line
