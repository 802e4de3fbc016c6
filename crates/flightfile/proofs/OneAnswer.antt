-- Every byte string has one answer: reading goes on in one way, record by record, until it halts.
use Rattle.std.proofs.Common.{◌≡◌, ℕ, zero, suc, ◌+◌, ◌<◌, ◌≤◌, ◌⊎◌, List, [], ◌∷◌, ◌++◌, map, length, Some, None, Option, sym, refl, ap, ◌∙◌, subst, inl, inr, append_assoc, append-nil, arith, length-append}
use Rattle.std.proofs.lemmas.List.{length_push}
use Rattle.std.proofs.lemmas.Bool.{cases_lt}
use Rattle.std.specs.List.{flat_map, AllByRecursion}
use Rattle.std.specs.Option.{option_to_list}
use Rattle.model.specs.declared.refusal.Refusal.{Refusal}
use Rattle.model.specs.declared.refusal.Refusal.TheVariants.{FileTooLong, NoStopRecord}
use Rattle.model.specs.declared.row.Times.{Times}
use Rattle.model.specs.Rows.{InLimits}
use Rattle.flightfile.specs.declared.record.Record.{Record}
use Rattle.model.specs.declared.request.Request.{Request}
use Rattle.flightfile.specs.Answers.{last_arrival, Unlawful, Wrong, Unstopped, Front, Answer, says, refused, Answers, OneAnswer, LongestRun}
use Rattle.flightfile.specs.Contents.{Content, content, records, bytes, RequestLawful, NotFalling, StopInRange, Lawful}
use Rattle.flightfile.specs.Records.{Bytes, encode, Encodable, Unreadable, Begins}
use Rattle.flightfile.specs.Progress.{Allowed, extend}
use Rattle.flightfile.proofs.FirstRecord.{begins_same, begins_readable, begins_or_not}
use Rattle.flightfile.proofs.OneMore.{bytes-extend, last_push, lawful_extend, allowed_or_not, allowed_not_unlawful, unlawful_same}

-- From c, each of the records is allowed in its turn, and they lead to d.
abbrev Goes : Content → List Record → Content → Type 0
Goes c [] d = c ≡ d
Goes c (x ∷ xs) d = Encodable x × Allowed c x × Goes (extend c x) xs d

goes_append : (c d e : Content) (xs ys : List Record) → Goes c xs d → Goes d ys e → Goes c (xs ++ ys) e
goes_append c d e [] ys g h = subst (λ z. Goes z ys e) (sym g) h
goes_append c d e (x ∷ xs) ys g h = (g.0, g.1, goes_append (extend c x) d e xs ys g.2 h)

rows_go : (before ts : List Times) → length before + length ts ≤ 16 → AllByRecursion InLimits ts → Goes (content before [] None) (map Record.Row ts) (content (before ++ ts) [] None)
rows_go before [] few h = ap (λ l. content l [] None) (sym (append-nil before))
rows_go before (t ∷ ts) few h =
    let l = h.0 in (
      (omega arith, omega arith, omega arith),
      record { placed = (refl, refl); fit = (omega arith, l) },
      subst (λ l. Goes (content (before ++ t ∷ []) [] None) (map Record.Row ts) (content l [] None)) (append_assoc before (t ∷ []) ts) (rows_go (before ++ t ∷ []) ts (omega (arith, length_push before t)) h.1),
    )

requests_go : (rows : List Times) (before qs : List Request) → AllByRecursion RequestLawful qs → NotFalling (last_arrival 0 before) qs → Goes (content rows before None) (map Record.Request qs) (content rows (before ++ qs) None)
requests_go rows before [] h o = ap (λ l. content rows l None) (sym (append-nil before))
requests_go rows before (q ∷ qs) h o =
    let l = h.0 in (
      (l.arrival, l.number, omega (arith, l.ticks.1)),
      record { placed = (o.0, refl); fit = l.ticks },
      subst (λ l. Goes (content rows (before ++ q ∷ []) None) (map Record.Request qs) (content rows l None)) (append_assoc before (q ∷ []) qs) (requests_go rows (before ++ q ∷ []) qs h.1 (subst (λ a. NotFalling a qs) (sym (last_push 0 before q)) o.1)),
    )

stop_goes : (rows : List Times) (qs : List Request) (o : Option ℕ) → AllByRecursion StopInRange (option_to_list o) → Goes (content rows qs None) (map Record.Stop (option_to_list o)) (content rows qs o)
stop_goes rows qs None h = refl
stop_goes rows qs (Some n) h = let l = h.0 in (omega arith, record { placed = refl; fit = l }, refl)

-- A lawful content is reached by its records.
lawful_goes : (c : Content) → Lawful c → Goes (content [] [] None) (records c) c
lawful_goes c h =
    goes_append _ (content c.rows [] None) c (map Record.Row c.rows) _ (rows_go [] c.rows (omega (arith, h.few)) h.rows)
    (goes_append _ (content c.rows c.requests None) c (map Record.Request c.requests) _ (requests_go c.rows [] c.requests h.requests h.order) (stop_goes c.rows c.requests c.stop h.stop))

-- No allowed record begins these bytes.
abbrev Halted : Content → List ℕ → Type 0
Halted c bs = (x : Record) (rest : List ℕ) → Begins bs x rest → Allowed c x → ⊥

begins_more : (x : Record) (xs : List Record) (r : List ℕ) → Encodable x → Begins (flat_map encode (x ∷ xs) ++ r) x (flat_map encode xs ++ r)
begins_more x xs r e = record { encodable = e; split = append_assoc (encode x) (flat_map encode xs) r }

-- Two ways through the same bytes, each until it halts, are one.
one_way : (xs ys : List Record) (c d e : Content) (r s : List ℕ) → Goes c xs d → Goes c ys e → flat_map encode xs ++ r ≡ flat_map encode ys ++ s → Halted d r → Halted e s → (d ≡ e) × (r ≡ s)
one_way [] [] c d e r s g h same p q = (sym g ∙ h, same)
one_way [] (y ∷ ys) c d e r s g h same p q =
    absurd (p y (flat_map encode ys ++ s) (subst (λ l. Begins l y (flat_map encode ys ++ s)) (sym same) (begins_more y ys s h.0)) (subst (λ z. Allowed z y) g h.1))
one_way (x ∷ xs) [] c d e r s g h same p q =
    absurd (q x (flat_map encode xs ++ r) (subst (λ l. Begins l x (flat_map encode xs ++ r)) same (begins_more x xs r g.0)) (subst (λ z. Allowed z x) h g.1))
one_way (x ∷ xs) (y ∷ ys) c d e r s g h same p q =
    let first = begins_same _ x y _ _ (begins_more x xs r g.0) (subst (λ l. Begins l y (flat_map encode ys ++ s)) (sym same) (begins_more y ys s h.0)) in
    one_way xs ys (extend c x) d e r s g.2 (subst (λ z. Goes (extend c z) ys e) (sym first.0) h.2) first.1 p q

-- Where one way halts, no other has gone farther.
no_farther : (xs ys : List Record) (c d e : Content) (r s : List ℕ) → Goes c xs d → Goes c ys e → flat_map encode xs ++ r ≡ flat_map encode ys ++ s → Halted e s → length (flat_map encode xs) ≤ length (flat_map encode ys)
no_farther [] ys c d e r s g h same q = omega arith
no_farther (x ∷ xs) [] c d e r s g h same q =
    absurd (q x (flat_map encode xs ++ r) (subst (λ l. Begins l x (flat_map encode xs ++ r)) same (begins_more x xs r g.0)) (subst (λ z. Allowed z x) h g.1))
no_farther (x ∷ xs) (y ∷ ys) c d e r s g h same q =
    let first = begins_same _ x y _ _ (begins_more x xs r g.0) (subst (λ l. Begins l y (flat_map encode ys ++ s)) (sym same) (begins_more y ys s h.0)) in
    let tail = no_farther xs ys (extend c x) d e r s g.2 (subst (λ z. Goes (extend c z) ys e) (sym first.0) h.2) first.1 q in
    omega (arith, tail, ap (λ z. length (encode z)) first.0, length-append (encode x) (flat_map encode xs), length-append (encode y) (flat_map encode ys))

one_run : (bs : List ℕ) (c d : Content) (r s : List ℕ) → Lawful c → Lawful d → bs ≡ bytes c ++ r → bs ≡ bytes d ++ s → Halted c r → Halted d s → (c ≡ d) × (r ≡ s)
one_run bs c d r s h k p q = one_way (records c) (records d) (content [] [] None) c d r s (lawful_goes c h) (lawful_goes d k) (sym p ∙ q)

nothing_begins : (x : Record) (rest : List ℕ) → Begins [] x rest → ⊥
nothing_begins (Record.Row _) rest b = let z : ◌≡◌ {A = ℕ} 0 1 = cc in omega arith
nothing_begins (Record.Request _) rest b = let z : ◌≡◌ {A = ℕ} 0 1 = cc in omega arith
nothing_begins (Record.Stop _) rest b = let z : ◌≡◌ {A = ℕ} 0 1 = cc in omega arith

nothing_wrong : (c : Content) (e : Refusal) → Wrong c [] e → ⊥
nothing_wrong c e (inl (inl u)) = u.0
nothing_wrong c e (inl (inr u)) = u.0
nothing_wrong c e (inr w) = nothing_begins w.0 w.1 w.2

unreadable_same : (bs : List ℕ) (e f : Refusal) → Unreadable bs e → Unreadable bs f → e ≡ f
unreadable_same bs e f (inl u) (inl v) = u.1 ∙ sym v.1
unreadable_same [] e f (inl u) (inr v) = absurd u.0
unreadable_same (k ∷ bs) e f (inl u) (inr v) =
    let none = u.0 in
    let some = v.0.1 in
    let z : ◌≡◌ {A = ℕ} 0 1 = cc in
    absurd (omega arith)
unreadable_same [] e f (inr u) (inl v) = absurd v.0
unreadable_same (k ∷ bs) e f (inr u) (inl v) =
    let none = v.0 in
    let some = u.0.1 in
    let z : ◌≡◌ {A = ℕ} 0 1 = cc in
    absurd (omega arith)
unreadable_same bs e f (inr u) (inr v) = u.1 ∙ sym v.1

wrong_same : (c : Content) (bs : List ℕ) (e f : Refusal) → Wrong c bs e → Wrong c bs f → e ≡ f
wrong_same c bs e f (inl u) (inl v) = unreadable_same bs e f u v
wrong_same c bs e f (inl u) (inr v) = absurd (begins_readable bs v.0 v.1 e v.2 u)
wrong_same c bs e f (inr u) (inl v) = absurd (begins_readable bs u.0 u.1 f u.2 v)
wrong_same c bs e f (inr u) (inr v) = unlawful_same c v.0 e f (subst (λ x. Unlawful c x e) (begins_same bs u.0 v.0 u.1 v.1 u.2 v.2).0 u.3) v.3

abbrev Ends : Content → List ℕ → Refusal → Type 0
Ends c bs e = Wrong c bs e ⊎ Unstopped c bs e

ends_same : (c : Content) (bs : List ℕ) (e f : Refusal) → Ends c bs e → Ends c bs f → e ≡ f
ends_same c bs e f (inl w) (inl v) = wrong_same c bs e f w v
ends_same c bs e f (inl w) (inr v) = absurd (nothing_wrong c e (subst (λ l. Wrong c l e) v.0 w))
ends_same c bs e f (inr w) (inl v) = absurd (nothing_wrong c f (subst (λ l. Wrong c l f) w.0 v))
ends_same c bs e f (inr w) (inr v) = w.2 ∙ sym v.2

ends_halted : (c : Content) (bs : List ℕ) (e : Refusal) → Ends c bs e → Halted c bs
ends_halted c bs e (inl (inl u)) x rest b a = begins_readable bs x rest e b u
ends_halted c bs e (inl (inr w)) x rest b a =
    allowed_not_unlawful c x e a (subst (λ y. Unlawful c y e) (begins_same bs w.0 x w.1 rest w.2 b).0 w.3)
ends_halted c bs e (inr w) x rest b a = nothing_begins x rest (subst (λ l. Begins l x rest) w.0 b)

says_not_refused : (bs : List ℕ) (c : Content) (e : Refusal) (p : ℕ) → Answers bs (says c) → Answers bs (refused e p) → ⊥
says_not_refused bs c e p a (inl long) = omega (arith, a.0, long.0)
says_not_refused bs c e p a (inr r) = go r.1.3
  where
    run : Content
    run = r.1.0

    front : Front bs run p r.1.1
    front = r.1.2

    same : (c ≡ run) × ([] ≡ r.1.1)
    same = one_run bs c run [] r.1.1 a.1 front.lawful (a.3 ∙ sym (append-nil (bytes c))) front.split (λ x rest b _. nothing_begins x rest b) (ends_halted run r.1.1 e r.1.3)

    go : Ends run r.1.1 e → ⊥
    go (inl w) = nothing_wrong run e (subst (λ l. Wrong run l e) (sym same.1) w)
    go (inr u) =
        let stopped = sym a.2.1 ∙ ap (λ (z : Content). z.stop) same.0 ∙ u.1 in
        let z : ◌≡◌ {A = ℕ} 0 1 = cc in
        omega arith

refused_same : (bs : List ℕ) (e f : Refusal) (p q : ℕ) → Answers bs (refused e p) → Answers bs (refused f q) → refused e p ≡ refused f q
refused_same bs e f p q (inl a) (inl b) = let x = a.1 ∙ sym b.1 in let y = a.2 ∙ sym b.2 in cc
refused_same bs e f p q (inl a) (inr b) = absurd (omega (arith, a.0, b.0))
refused_same bs e f p q (inr a) (inl b) = absurd (omega (arith, a.0, b.0))
refused_same bs e f p q (inr a) (inr b) =
    let u = a.1.2 in
    let v = b.1.2 in
    let same = one_run bs a.1.0 b.1.0 a.1.1 b.1.1 u.lawful v.lawful u.split v.split (ends_halted _ _ e a.1.3) (ends_halted _ _ f b.1.3) in
    let x : e ≡ f = ends_same b.1.0 b.1.1 e f (subst (λ l. Ends b.1.0 l e) same.1 (subst (λ c. Ends c a.1.1 e) same.0 a.1.3)) b.1.3 in
    let y : p ≡ q = u.ends ∙ ap (λ c. length (bytes c)) same.0 ∙ sym v.ends in
    cc

one : (bs : List ℕ) (a b : Answer) → Answers bs a → Answers bs b → b ≡ a
one bs (says c) (says d) p q =
    let same = one_run bs c d [] [] p.1 q.1 (p.3 ∙ sym (append-nil (bytes c))) (q.3 ∙ sym (append-nil (bytes d))) (λ x rest b _. nothing_begins x rest b) (λ x rest b _. nothing_begins x rest b) in
    ap says (sym same.0)
one bs (says c) (refused e n) p q = absurd (says_not_refused bs c e n p q)
one bs (refused e n) (says c) p q = absurd (says_not_refused bs c e n q p)
one bs (refused e n) (refused f m) p q = refused_same bs f e m n q p

bytes_after : (xs ys : List ℕ) → Bytes (xs ++ ys) → Bytes ys
bytes_after [] ys h = h
bytes_after (x ∷ xs) ys h = bytes_after xs ys (λ i. h (suc i))

pub record_long : (x : Record) (rest : List ℕ) → length rest < length (encode x ++ rest)
record_long (Record.Row _) rest = omega arith
record_long (Record.Request _) rest = omega arith
record_long (Record.Stop _) rest = omega arith

module _ (bs : List ℕ) (short : length bs ≤ 65536) where
  abbrev SomeAnswer : Type 0
  SomeAnswer = (a : Answer) × Answers bs a

  refuse : (run : Content) (rest : List ℕ) (e : Refusal) → Lawful run → bs ≡ bytes run ++ rest → Ends run rest e → SomeAnswer
  refuse run rest e h s w = (refused e (length (bytes run)), inr (short, (run, rest, record { lawful = h; split = s; ends = refl }, w)))

  at_end : (run : Content) (o : Option ℕ) → run.stop ≡ o → Lawful run → bs ≡ bytes run ++ [] → SomeAnswer
  at_end run None e h s = refuse run [] NoStopRecord h s (inr (refl, e, refl))
  at_end run (Some n) e h s = (says run, (short, h, (n, e), s ∙ append-nil (bytes run)))

  -- The answer from a lawful run with at most so many bytes left.
  abbrev From : ℕ → Type 0
  From fuel = (run : Content) (rest : List ℕ) → length rest ≤ fuel → Bytes rest → Lawful run → bs ≡ bytes run ++ rest → SomeAnswer

  module _ (fuel : ℕ) (on : From fuel) (run : Content) (rest : List ℕ) (l : length rest ≤ suc fuel) (t : Bytes rest) (h : Lawful run) (s : bs ≡ bytes run ++ rest) where
    next : (x : Record) (r : List ℕ) → Begins rest x r → Allowed run x ⊎ ((e : Refusal) × Unlawful run x e) → SomeAnswer
    next x r b (inl a) =
        on (extend run x) r (omega (arith, ap length b.split, record_long x r)) (bytes_after (encode x) r (subst Bytes b.split t)) (lawful_extend run x h b.encodable a)
        (s ∙ ap (λ l. bytes run ++ l) b.split ∙ sym (append_assoc (bytes run) (encode x) r) ∙ ap (λ l. l ++ r) (sym (bytes-extend run x a.placed)))
    next x r b (inr u) = refuse run rest u.0 h s (inl (inr (x, r, b, u.1)))

    step : ((x : Record) × (r : List ℕ) × Begins rest x r) ⊎ ((e : Refusal) × Unreadable rest e) → SomeAnswer
    step (inl b) = next b.0 b.1 b.2 (allowed_or_not run b.0)
    step (inr u) = refuse run rest u.0 h s (inl (inl u.1))

  go_on : (fuel : ℕ) → From fuel
  go_on fuel run [] l t h s = at_end run run.stop refl h s
  go_on zero run (k ∷ rest) l t h s = absurd (omega arith)
  go_on (suc fuel) run (k ∷ rest) l t h s = step fuel (go_on fuel) run (k ∷ rest) l t h s (begins_or_not (k ∷ rest) (omega arith) t)

pub one_answer : OneAnswer
unfolding OneAnswer
one_answer bs t = go (cases_lt 65536 (length bs))
  where
    with_one : (a : Answer) × Answers bs a → (a : Answer) × Answers bs a × ((b : Answer) → Answers bs b → b ≡ a)
    with_one p = (p.0, p.1, λ b q. one bs p.0 b p.1 q)

    go : (65536 < length bs) ⊎ (length bs ≤ 65536) → (a : Answer) × Answers bs a × ((b : Answer) → Answers bs b → b ≡ a)
    go (inl long) = with_one (refused FileTooLong 0, inl (long, refl, refl))
    go (inr short) = with_one (go_on bs short (length bs) (content [] [] None) bs (omega arith) t (record { few = omega arith; rows = tt; requests = tt; order = tt; stop = tt }) refl)

pub longest_run : LongestRun
unfolding LongestRun
longest_run bs e place short (inl w) run rest h t = absurd (omega (arith, w.0))
longest_run bs e place short (inr w) run rest h t =
    let front = w.1.2 in
    let most = no_farther (records run) (records w.1.0) (content [] [] None) run w.1.0 rest w.1.1 (lawful_goes run h) (lawful_goes w.1.0 front.lawful) (sym t ∙ front.split) (ends_halted w.1.0 w.1.1 e w.1.3) in
    omega (arith, most, front.ends)
