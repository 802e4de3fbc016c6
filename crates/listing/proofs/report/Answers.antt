use Rattle.std.proofs.Common.{length, sym, ap, ◌∙◌, rules}
use Rattle.std.proofs.lemmas.List.{length-map}
use Rattle.model.specs.Rows.{times_of}
use Rattle.flightfile.specs.Answers.{says, refused}
use Rattle.flightfile.specs.Reading.{content_of}
use Rattle.listing.proofs.report.Goals as goal

pub returns-in-Err-Refused : goal.returns-in-Err-Refused
returns-in-Err-Refused c =
    let p = c.in-Err-Refused.refused in
    (refused p.refusal p.place, search rules, search rules)

pub returns : goal.returns
returns c =
    let file = c.in-Ok.file in
    let said = c.in-Ok.ensures.answer in
    let rows = sym (length-map c.rows.result.now times_of) ∙ ap length c.rows.ensures in
    let same = c.in_ok-is_written_as.ensures.1 (sym said.3) in
    (says (content_of file), said, search (rules, rows, same, c.in_ok-writeln.ensures.bytes, c.in_ok-text.ensures))
