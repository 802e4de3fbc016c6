use Rattle.std.proofs.Common.{[], ◌∷◌, length, vec_items, sym, refl, ap, ◌∙◌, subst, arith, rules}
use Rattle.std.proofs.lemmas.List.{length_push}
use Rattle.std.proofs.lemmas.Slice.{pushed}
use Rattle.model.specs.Drafts.{rows_of}
use Rattle.flightfile.specs.declared.record.Record.{Record}
use Rattle.flightfile.specs.Answers.{last_arrival}
use Rattle.flightfile.specs.Contents.{content, Lawful}
use Rattle.flightfile.specs.Progress.{seen}
use Rattle.flightfile.proofs.OneMore.{last_push, lawful_extend}
use Rattle.flightfile.proofs.reader.Reader.admit_request.Goals as goal

pub invariant_of-self-2 : goal.invariant_of-self-2
invariant_of-self-2 c =
    let old = c.args.self.now in
    let q = c.args.request in
    let items = pushed (q ∷ []) refl c.in_ok-push.was c.push.ensures.items in
    let longer = lawful_extend (seen old) (Record.Request q) old.lawful (omega arith, omega arith, omega arith) (record { placed = (omega arith, c.requires.running); fit = search rules }) in
    record {
      lawful = subst Lawful (λ i. content (rows_of old.rows) (sym items i) (c.requires.running i)) longer;
      reached = (omega (arith, ap length items ∙ length_push (vec_items old.requests) q), omega (arith, last_push 0 (vec_items old.requests) q, ap (last_arrival 0) items));
    }
