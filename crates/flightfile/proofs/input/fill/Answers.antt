use Rattle.std.proofs.Common.{◌≡◌, ℕ, ◌+◌, ◌≤◌, List, ◌++◌, rules, length, take, sym, ap, ◌∙◌, subst, length-take-le}
use Rattle.std.proofs.KnownBytes.{Consumes-trans}
use Rattle.std.proofs.lemmas.List.{take-append-le}
use Rattle.std.proofs.Math.Seq.{take-append-add}
use Rattle.std.specs.Io.KnownBytes.{Consumes}
use borrow.Rule.Slice.PartMut.{put_mid, post_of}
use Rattle.flightfile.proofs.input.fill.Goals as goal

-- The front of a buffer that got n bytes at `a`.
take-put_mid_within : (a k n : ℕ) (xs ys : List ℕ) → a ≤ length xs → n ≤ length ys → take (a + n) (put_mid a k xs ys) ≡ take a xs ++ take n ys
take-put_mid_within a k n xs ys within fits =
    ap (λ m. take (m + n) (put_mid a k xs ys)) (sym (length-take-le a xs within)) ∙ take-append-add (take a xs) (ys ++ post_of a k xs) n ∙ ap (λ l. take a xs ++ l) (take-append-le n ys (post_of a k xs) fits)

pub loop-size-preserved : goal.loop-size-preserved
loop-size-preserved g c = record {
  within = search rules;
  bytes = subst (Consumes _ _) (sym (take-put_mid_within _ _ _ _ _ c.loop-size.invariant.within c.in_ok-more.ensures.bound.0)) (Consumes-trans _ _ _ _ _ c.loop-size.invariant.bytes c.in_ok-more.ensures.bytes.0);
}
