-- One record more: a record that is allowed after a lawful run makes a longer one, and each record is allowed or refused.
use Rattle.std.proofs.Common.{◌≡◌, ℕ, ◌<◌, ◌≤◌, ◌⊎◌, List, [], ◌∷◌, ◌++◌, map, length, Some, None, Option, sym, refl, ap, ◌∙◌, inl, inr, append_assoc, append-nil, arith}
use Rattle.std.proofs.ByRecursion.{All-push}
use Rattle.std.proofs.Math.Decide.{dec_le, map_dec}
use Rattle.std.proofs.lemmas.List.{length_push, map_push, flat_map_more}
use Rattle.std.proofs.lemmas.Bool.{cases_lt}
use Rattle.std.specs.List.{flat_map}
use Rattle.std.specs.Option.{option_to_list}
use Rattle.model.specs.declared.refusal.Refusal.{Refusal}
use Rattle.model.specs.declared.refusal.Refusal.TheVariants.{RowOutsideLimits, SeventeenthRow, TicksOutsideRange, RequestOutsideLimits, RecordOutOfPlace}
use Rattle.model.specs.declared.row.Times.{Times}
use Rattle.model.specs.Rows.{InLimits}
use Rattle.flightfile.specs.declared.record.Record.{Record}
use Rattle.model.specs.declared.request.Request.{Request}
use Rattle.flightfile.specs.Answers.{last_arrival, InPlace, Unfit, Unlawful}
use Rattle.flightfile.specs.Contents.{Content, records, bytes, TicksInLimits, RequestLawful, NotFalling, StopInRange, Lawful}
use Rattle.flightfile.specs.Records.{encode, Encodable}
use Rattle.flightfile.specs.Progress.{Fit, Allowed, extend}

records-extend : (c : Content) (x : Record) → InPlace c x → records (extend c x) ≡ records c ++ x ∷ []
records-extend c (Record.Row t) p =
    let rows : List Record = map Record.Row c.rows in
    let none : map Record.Request c.requests ++ map Record.Stop (option_to_list c.stop) ≡ [] = rw (p.0, p.1) refl in
    let r : Record = Record.Row t in
    ap (λ l. map Record.Row (c.rows ++ t ∷ []) ++ l) none
    ∙ append-nil _
    ∙ map_push Record.Row c.rows t
    ∙ ap (λ l. l ++ r ∷ []) (sym (append-nil rows) ∙ ap (λ l. rows ++ l) (sym none))
records-extend c (Record.Request q) p =
    let rows : List Record = map Record.Row c.rows in
    let asked : List Record = map Record.Request c.requests in
    let none : map Record.Stop (option_to_list c.stop) ≡ [] = rw p.1 refl in
    ap (λ l. rows ++ (map Record.Request (c.requests ++ q ∷ []) ++ l)) none
    ∙ ap (λ l. rows ++ l) (append-nil _ ∙ map_push Record.Request c.requests q ∙ ap (λ l. l ++ Record.Request q ∷ []) (sym (append-nil asked) ∙ ap (λ l. asked ++ l) (sym none)))
    ∙ sym (append_assoc rows (asked ++ map Record.Stop (option_to_list c.stop)) (Record.Request q ∷ []))
records-extend c (Record.Stop n) p =
    let rows : List Record = map Record.Row c.rows in
    let asked : List Record = map Record.Request c.requests in
    let none : map Record.Stop (option_to_list c.stop) ≡ [] = rw p refl in
    ap (λ l. rows ++ (l ++ Record.Stop n ∷ [])) (sym (append-nil asked) ∙ ap (λ l. asked ++ l) (sym none))
    ∙ sym (append_assoc rows (asked ++ map Record.Stop (option_to_list c.stop)) (Record.Stop n ∷ []))

pub bytes-extend : (c : Content) (x : Record) → InPlace c x → bytes (extend c x) ≡ bytes c ++ encode x
bytes-extend c x p = ap (flat_map encode) (records-extend c x p) ∙ sym (flat_map_more encode [] (records c) x)

not_falling_push : (a : ℕ) (qs : List Request) (q : Request) → NotFalling a qs → last_arrival a qs ≤ q.arrival → NotFalling a (qs ++ q ∷ [])
not_falling_push a [] q h l = (l, tt)
not_falling_push a (p ∷ qs) q h l = (h.0, not_falling_push p.arrival qs q h.1 l)

pub last_push : (a : ℕ) (qs : List Request) (q : Request) → last_arrival a (qs ++ q ∷ []) ≡ q.arrival
last_push a [] q = refl
last_push a (p ∷ qs) q = last_push p.arrival qs q

-- A lawful run goes on with an allowed record.
pub lawful_extend : (c : Content) (x : Record) → Lawful c → Encodable x → Allowed c x → Lawful (extend c x)
lawful_extend c (Record.Row t) h e a = record {
  few = omega (arith, length_push c.rows t, a.fit.0);
  rows = All-push InLimits c.rows _ h.rows a.fit.1;
  requests = h.requests;
  order = h.order;
  stop = h.stop;
}
lawful_extend c (Record.Request q) h e a = record {
  few = h.few;
  rows = h.rows;
  requests = All-push RequestLawful c.requests q h.requests (record { ticks = a.fit; arrival = e.0; number = e.1 });
  order = not_falling_push 0 c.requests q h.order a.placed.0;
  stop = h.stop;
}
lawful_extend c (Record.Stop n) h e a = record { few = h.few; rows = h.rows; requests = h.requests; order = h.order; stop = (a.fit, tt) }

both : {P Q : Type 0} → Dec P → Dec Q → Dec (P × Q)
both (yes p) (yes q) = yes (p, q)
both (yes p) (no n) = no (λ h. n h.1)
both (no n) d = no (λ h. n h.0)

empty? : (qs : List Request) → Dec (qs ≡ [])
empty? [] = yes refl
empty? (q ∷ qs) = no (λ e. let z : ◌≡◌ {A = ℕ} 0 1 = cc in omega arith)

none? : (o : Option ℕ) → Dec (o ≡ None)
none? None = yes refl
none? (Some n) = no (λ e. let z : ◌≡◌ {A = ℕ} 0 1 = cc in omega arith)

limits? : (t : Times) → Dec (InLimits t)
limits? t =
    map_dec (λ p. record { some = p.0.0; fits = p.0.1; within = p.1.0; limit = p.1.1 }) (λ h. ((h.some, h.fits), (h.within, h.limit)))
    (both (both (dec_le 1 t.cost) (dec_le t.cost t.deadline)) (both (dec_le t.deadline t.period) (dec_le t.period 60000)))

placed? : (c : Content) (x : Record) → Dec (InPlace c x)
placed? c (Record.Row _) = both (empty? c.requests) (none? c.stop)
placed? c (Record.Request q) = both (dec_le (last_arrival 0 c.requests) q.arrival) (none? c.stop)
placed? c (Record.Stop _) = none? c.stop

fit? : (c : Content) (x : Record) → Fit c x ⊎ ((e : Refusal) × Unfit c x e)
fit? c (Record.Row t) = go (cases_lt (length c.rows) 16) (limits? t)
  where
    go : (length c.rows < 16) ⊎ (16 ≤ length c.rows) → Dec (InLimits t) → Fit c (Record.Row t) ⊎ ((e : Refusal) × Unfit c (Record.Row t) e)
    go (inl few) (yes h) = inl (few, h)
    go (inl few) (no n) = inr (RowOutsideLimits, inr (few, n, refl))
    go (inr full) d = inr (SeventeenthRow, inl (full, refl))
fit? c (Record.Request q) = go (both (dec_le 1 q.ticks) (dec_le q.ticks 60000))
  where
    go : Dec (TicksInLimits q) → TicksInLimits q ⊎ ((e : Refusal) × Unfit c (Record.Request q) e)
    go (yes h) = inl h
    go (no n) = inr (RequestOutsideLimits, (n, refl))
fit? c (Record.Stop n) = go (both (dec_le 1 n) (dec_le n 2000000000))
  where
    go : Dec (StopInRange n) → StopInRange n ⊎ ((e : Refusal) × Unfit c (Record.Stop n) e)
    go (yes h) = inl h
    go (no k) = inr (TicksOutsideRange, (k, refl))

-- A record is allowed after a run, or refused.
pub allowed_or_not : (c : Content) (x : Record) → Allowed c x ⊎ ((e : Refusal) × Unlawful c x e)
allowed_or_not c x = go (placed? c x) (fit? c x)
  where
    go : Dec (InPlace c x) → Fit c x ⊎ ((e : Refusal) × Unfit c x e) → Allowed c x ⊎ ((e : Refusal) × Unlawful c x e)
    go (yes p) (inl f) = inl (record { placed = p; fit = f })
    go (yes p) (inr u) = inr (u.0, inr (p, u.1))
    go (no n) d = inr (RecordOutOfPlace, inl (n, refl))

unfit_not_fit : (c : Content) (x : Record) (e : Refusal) → Fit c x → Unfit c x e → ⊥
unfit_not_fit c (Record.Row t) e f (inl u) = omega (arith, f.0, u.0)
unfit_not_fit c (Record.Row t) e f (inr u) = u.1 f.1
unfit_not_fit c (Record.Request q) e f u = u.0 f
unfit_not_fit c (Record.Stop n) e f u = u.0 f

-- An allowed record is not refused.
pub allowed_not_unlawful : (c : Content) (x : Record) (e : Refusal) → Allowed c x → Unlawful c x e → ⊥
allowed_not_unlawful c x e a (inl u) = u.0 a.placed
allowed_not_unlawful c x e a (inr u) = unfit_not_fit c x e a.fit u.1

unfit_same : (c : Content) (x : Record) (e f : Refusal) → Unfit c x e → Unfit c x f → e ≡ f
unfit_same c (Record.Row t) e f (inl u) (inl v) = u.1 ∙ sym v.1
unfit_same c (Record.Row t) e f (inl u) (inr v) = absurd (omega (arith, u.0, v.0))
unfit_same c (Record.Row t) e f (inr u) (inl v) = absurd (omega (arith, u.0, v.0))
unfit_same c (Record.Row t) e f (inr u) (inr v) = u.2 ∙ sym v.2
unfit_same c (Record.Request q) e f u v = u.1 ∙ sym v.1
unfit_same c (Record.Stop n) e f u v = u.1 ∙ sym v.1

-- A record is refused in one way.
pub unlawful_same : (c : Content) (x : Record) (e f : Refusal) → Unlawful c x e → Unlawful c x f → e ≡ f
unlawful_same c x e f (inl u) (inl v) = u.1 ∙ sym v.1
unlawful_same c x e f (inl u) (inr v) = absurd (u.0 v.0)
unlawful_same c x e f (inr u) (inl v) = absurd (v.0 u.0)
unlawful_same c x e f (inr u) (inr v) = unfit_same c x e f u.1 v.1
