-- Bytes put into an output: some and then more.
use Rattle.std.proofs.Common.{◌≡◌, ℕ, ◌+◌, ◌<◌, ◌≤◌, List, [], ◌++◌, length, get_or, take, drop, Ok, sym, ap, ◌∙◌, append_assoc, arith, length-append, take-append-drop}
use Rattle.std.proofs.lemmas.List.{drop-drop, take_more, flat_map_more}
use Rattle.std.specs.List.{flat_map}
use Rattle.flightfile.specs.declared.writing.Output.{Output}
use Rattle.flightfile.specs.Writing.{Puts, Written}

further : (b c k : ℕ) (xs ys : List ℕ) → c ≡ b + k → drop b xs ≡ drop b ys → drop c xs ≡ drop c ys
further b c k xs ys e h = ap (λ n. drop n xs) e ∙ sym (drop-drop k b xs) ∙ ap (drop k) h ∙ drop-drop k b ys ∙ ap (λ n. drop n ys) (sym e)

-- Bytes put behind others.
pub puts_more : (a b c : Output) (xs ys : List ℕ) → Puts a xs b → Puts b ys c → Puts a (xs ++ ys) c
puts_more a b c xs ys p q = record {
  same_buffer = q.same_buffer ∙ p.same_buffer;
  long = q.long ∙ p.long;
  end = omega (arith, length-append xs ys);
  wrote = q.wrote ∙ ap (λ l. l ++ ys) p.wrote ∙ append_assoc (take a.at a.buffer.now) xs ys;
  rest = q.rest ∙ further b.at c.at (length ys) b.buffer.now a.buffer.now q.end p.rest;
}

-- The step of a loop over xs that has come to x, whose bytes are bs.
pub puts_next : {X : Type 0} (f : X → List ℕ) (a b c : Output) (xs : List X) (i : ℕ) (x : X) (bs : List ℕ) → i < length xs → x ≡ get_or xs i x → bs ≡ f x → Puts a (flat_map f (take i xs)) b → Puts b bs c → Puts a (flat_map f (take (i + 1) xs)) c
puts_next f a b c xs i x bs h is e p q =
    let more : flat_map f (take (i + 1) xs) ≡ flat_map f (take i xs) ++ bs =
    ap (flat_map f) (take_more xs i x h) ∙ sym (flat_map_more f [] (take i xs) (get_or xs i x)) ∙ ap (λ l. flat_map f (take i xs) ++ l) (ap f (sym is) ∙ sym e) in
    rw more (puts_more a b c (flat_map f (take i xs)) bs p q)

-- All the bytes put into a whole buffer, which then holds `out`.
pub written_by : (old new : Output) (bs all out : List ℕ) → Puts old bs new → all ≡ bs → out ≡ new.buffer.now → old.at ≡ 0 → length all ≤ length old.buffer.now → Written all old.buffer.now (Ok new.at) out
written_by old new bs all out p e o z h =
    let end : new.at ≡ length all = omega (arith, ap length e) in
    let front : take new.at new.buffer.now ≡ all = p.wrote ∙ ap (λ n. take n old.buffer.now ++ bs) z ∙ sym e in
    (h, end, o ∙ sym (take-append-drop new.at new.buffer.now) ∙ ap (λ l. l ++ drop new.at new.buffer.now) front ∙ ap (λ l. all ++ l) p.rest ∙ ap (λ n. all ++ drop n old.buffer.now) end)
