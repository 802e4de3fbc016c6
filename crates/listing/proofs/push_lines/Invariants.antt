use Rattle.std.proofs.Common.{◌≡◌, ◌++◌, take, string_bytes}
use Rattle.std.specs.List.{flat_map}
use Rattle.listing.specs.Lines.{record_line}
use Rattle.listing.proofs.push_lines.Given as goal

abbrev pub invariant-loop-item : goal.invariant-loop-item
invariant-loop-item g l = string_bytes l.text ≡ string_bytes l.initial.text ++ flat_map (λ item. record_line (g.T.ToRecord.meaning item)) (take l.item-index l.items)
