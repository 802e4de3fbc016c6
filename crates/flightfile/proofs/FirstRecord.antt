-- The first record of some bytes: it is there or the bytes are unreadable, never both, and there is only one.
use Rattle.std.proofs.Common.{◌≡◌, ℕ, zero, suc, ◌+◌, ◌*◌, ◌/◌, ◌%◌, ◌^◌, ◌<◌, ◌≤◌, Bool, false, cond, ◌⊎◌, List, [], ◌∷◌, ◌++◌, length, get_or, drop, Some, None, Option, sym, refl, ap, ◌∙◌, inl, inr, add-zero, arith, drop-cons}
use lib.Arith.{digits_div, digits_mod}
use Rattle.std.proofs.lemmas.Bool.{cases_eq, cases_lt, ne_eqb}
use Rattle.model.specs.declared.refusal.Refusal.{Refusal}
use Rattle.model.specs.declared.refusal.Refusal.TheVariants.{EndInsideRecord, UnknownKind}
use Rattle.flightfile.specs.declared.record.Record.{Record}
use Rattle.model.specs.declared.request.Request.{Request}
use Rattle.model.specs.declared.row.Times.{Times}
use Rattle.flightfile.specs.Records.{Bytes, little_endian, body_length, Unreadable, Begins}

-- The k bytes from place i on.
abbrev reads : List ℕ → ℕ → ℕ → List ℕ
reads bs i zero = []
reads bs i (suc k) = get_or bs i 0 ∷ reads bs (suc i) k

reads-drop : (bs : List ℕ) (i k : ℕ) → i + k ≤ length bs → drop i bs ≡ reads bs i k ++ drop (i + k) bs
reads-drop bs i zero h = ap (λ n. drop n bs) (sym (add-zero i))
reads-drop bs i (suc k) h =
    let e : suc i + k ≡ i + suc k = omega arith in
    drop-cons bs i 0 (omega arith) ∙ ap (λ l. get_or bs i 0 ∷ l) (reads-drop bs (suc i) k (omega arith) ∙ ap (λ n. reads bs (suc i) k ++ drop n bs) e)

-- The number that bytes write, the least significant first.
abbrev number : List ℕ → ℕ
number [] = 0
number (b ∷ bs) = number bs * 256 + b

same_fields : (k : ℕ) (u v w u' v' w' : List ℕ) → u ≡ u' → v ≡ v' → w ≡ w' → k ∷ (u ++ (v ++ w)) ≡ k ∷ (u' ++ (v' ++ w'))
same_fields k u v w u' v' w' p q r = cc

module _ (bs : List ℕ) (byte : Bytes bs) where
  field : (i k : ℕ) → little_endian k (number (reads bs i k)) ≡ reads bs i k
  field i zero = refl
  field i (suc k) =
      let q : ℕ = number (reads bs (suc i) k) in
      let low : (q * 256 + get_or bs i 0) % 256 ≡ get_or bs i 0 = digits_mod q (byte i) in
      let high : (q * 256 + get_or bs i 0) / 256 ≡ q = digits_div q (byte i) in
      let rest : little_endian k q ≡ reads bs (suc i) k = field (suc i) k in
      cc

  two : (i n : ℕ) → n ≡ get_or bs i 0 + get_or bs (suc i) 0 * 256 → little_endian 2 n ≡ reads bs i 2
  two i n e = let f : n ≡ number (reads bs i 2) = omega arith in ap (little_endian 2) f ∙ field i 2

  four : (i n : ℕ) → n ≡ get_or bs i 0 + get_or bs (suc i) 0 * 256 + get_or bs (suc (suc i)) 0 * 65536 + get_or bs (suc (suc (suc i))) 0 * 16777216 → little_endian 4 n ≡ reads bs i 4
  four i n e = let f : n ≡ number (reads bs i 4) = omega arith in ap (little_endian 4) f ∙ field i 4

  pub begins_row : (t : Times) → 7 ≤ length bs → get_or bs 0 0 ≡ 0x52 → t.cost ≡ get_or bs 1 0 + get_or bs 2 0 * 256 → t.deadline ≡ get_or bs 3 0 + get_or bs 4 0 * 256 → t.period ≡ get_or bs 5 0 + get_or bs 6 0 * 256 → Begins bs (Record.Row t) (drop 7 bs)
  begins_row t long kind ec ed et = record {
    encodable = (omega (arith, byte 1, byte 2), omega (arith, byte 3, byte 4), omega (arith, byte 5, byte 6));
    split =
        reads-drop bs 0 7 long
        ∙ ap (λ k. k ∷ reads bs 1 6 ++ drop 7 bs) kind
        ∙ ap (λ l. l ++ drop 7 bs) (sym (same_fields 0x52 _ _ _ _ _ _ (two 1 t.cost ec) (two 3 t.deadline ed) (two 5 t.period et)));
  }

  pub begins_request : (q : Request) → 9 ≤ length bs → get_or bs 0 0 ≡ 0x51 → q.arrival ≡ get_or bs 1 0 + get_or bs 2 0 * 256 + get_or bs 3 0 * 65536 + get_or bs 4 0 * 16777216 → q.number ≡ get_or bs 5 0 + get_or bs 6 0 * 256 → q.ticks ≡ get_or bs 7 0 + get_or bs 8 0 * 256 → Begins bs (Record.Request q) (drop 9 bs)
  begins_request q long kind ea en et = record {
    encodable = (omega (arith, byte 1, byte 2, byte 3, byte 4), omega (arith, byte 5, byte 6), omega (arith, byte 7, byte 8));
    split =
        reads-drop bs 0 9 long
        ∙ ap (λ k. k ∷ reads bs 1 8 ++ drop 9 bs) kind
        ∙ ap (λ l. l ++ drop 9 bs) (sym (same_fields 0x51 _ _ _ _ _ _ (four 1 q.arrival ea) (two 5 q.number en) (two 7 q.ticks et)));
  }

  pub begins_stop : (n : ℕ) → 5 ≤ length bs → get_or bs 0 0 ≡ 0x53 → n ≡ get_or bs 1 0 + get_or bs 2 0 * 256 + get_or bs 3 0 * 65536 + get_or bs 4 0 * 16777216 → Begins bs (Record.Stop n) (drop 5 bs)
  begins_stop n long kind en = record {
    encodable = omega (arith, byte 1, byte 2, byte 3, byte 4);
    split =
        reads-drop bs 0 5 long
        ∙ ap (λ k. k ∷ reads bs 1 4 ++ drop 5 bs) kind
        ∙ ap (λ l. 0x53 ∷ l ++ drop 5 bs) (sym (four 1 n en));
  }

two_same : (m n : ℕ) → m < 2 ^ 16 → n < 2 ^ 16 → little_endian 2 m ≡ little_endian 2 n → m ≡ n
two_same m n h k e =
    let first : m % 256 ≡ n % 256 = cc in
    let second : m / 256 % 256 ≡ n / 256 % 256 = cc in
    omega arith

four_same : (m n : ℕ) → m < 2 ^ 32 → n < 2 ^ 32 → little_endian 4 m ≡ little_endian 4 n → m ≡ n
four_same m n h k e =
    let first : m % 256 ≡ n % 256 = cc in
    let second : m / 256 % 256 ≡ n / 256 % 256 = cc in
    let third : m / 256 / 256 % 256 ≡ n / 256 / 256 % 256 = cc in
    let fourth : m / 256 / 256 / 256 % 256 ≡ n / 256 / 256 / 256 % 256 = cc in
    omega arith

-- Bytes begin with one record at most.
pub begins_same : (bs : List ℕ) (x y : Record) (r s : List ℕ) → Begins bs x r → Begins bs y s → (x ≡ y) × (r ≡ s)
begins_same bs (Record.Row t) (Record.Row t') r s p q =
    let ec : t.cost ≡ t'.cost = two_same t.cost t'.cost p.encodable.0 q.encodable.0 (cc) in
    let ed : t.deadline ≡ t'.deadline = two_same t.deadline t'.deadline p.encodable.1 q.encodable.1 (cc) in
    let et : t.period ≡ t'.period = two_same t.period t'.period p.encodable.2 q.encodable.2 (cc) in
    (λ i. Record.Row (record { cost = ec i; deadline = ed i; period = et i }), cc)
begins_same bs (Record.Row t) (Record.Request v) r s p q = let z : ◌≡◌ {A = ℕ} 0x52 0x51 = cc in absurd (omega arith)
begins_same bs (Record.Row t) (Record.Stop m) r s p q = let z : ◌≡◌ {A = ℕ} 0x52 0x53 = cc in absurd (omega arith)
begins_same bs (Record.Request u) (Record.Row t) r s p q = let z : ◌≡◌ {A = ℕ} 0x51 0x52 = cc in absurd (omega arith)
begins_same bs (Record.Request u) (Record.Request v) r s p q =
    let ea : u.arrival ≡ v.arrival = four_same u.arrival v.arrival p.encodable.0 q.encodable.0 (cc) in
    let en : u.number ≡ v.number = two_same u.number v.number p.encodable.1 q.encodable.1 (cc) in
    let et : u.ticks ≡ v.ticks = two_same u.ticks v.ticks p.encodable.2 q.encodable.2 (cc) in
    (λ i. Record.Request (record { arrival = ea i; number = en i; ticks = et i }), cc)
begins_same bs (Record.Request u) (Record.Stop m) r s p q = let z : ◌≡◌ {A = ℕ} 0x51 0x53 = cc in absurd (omega arith)
begins_same bs (Record.Stop n) (Record.Row t) r s p q = let z : ◌≡◌ {A = ℕ} 0x53 0x52 = cc in absurd (omega arith)
begins_same bs (Record.Stop n) (Record.Request v) r s p q = let z : ◌≡◌ {A = ℕ} 0x53 0x51 = cc in absurd (omega arith)
begins_same bs (Record.Stop n) (Record.Stop m) r s p q =
    let en : n ≡ m = four_same n m p.encodable q.encodable (cc) in
    (cc, cc)

-- What follows the kind byte of a record, by its length.
body_of : (x : Record) (k : ℕ) (body r : List ℕ) → Begins (k ∷ body) x r → (n : ℕ) × (body_length k ≡ Some n) × (n ≤ length body)
body_of (Record.Row t) k body r p = let kind : k ≡ 0x52 = cc in (6, ap body_length kind, omega (arith, ap length p.split))
body_of (Record.Request q) k body r p = let kind : k ≡ 0x51 = cc in (8, ap body_length kind, omega (arith, ap length p.split))
body_of (Record.Stop n) k body r p = let kind : k ≡ 0x53 = cc in (4, ap body_length kind, omega (arith, ap length p.split))

-- Bytes that begin with a record are not unreadable.
pub begins_readable : (bs : List ℕ) (x : Record) (r : List ℕ) (e : Refusal) → Begins bs x r → Unreadable bs e → ⊥
begins_readable [] x r e p (inl u) = u.0
begins_readable [] x r e p (inr u) = u.0
begins_readable (k ∷ body) x r e p (inl u) =
    let b = body_of x k body r p in
    let known = b.1 in
    let unknown = u.0 in
    let z : ◌≡◌ {A = ℕ} 0 1 = cc in
    omega arith
begins_readable (k ∷ body) x r e p (inr u) =
    let b = body_of x k body r p in
    let known = b.1 in
    let cut = u.0.1 in
    let same : b.0 ≡ u.0.0 = cc in
    omega (arith, b.2, u.0.2)

kindless : (a b c : Bool) → a ≡ false → b ≡ false → c ≡ false → cond {A = Option ℕ} a (Some 6) (cond b (Some 8) (cond c (Some 4) None)) ≡ None
kindless a b c p q r = cc

-- Bytes begin with a record, or are unreadable in one of the two ways.
pub begins_or_not : (bs : List ℕ) → 0 < length bs → Bytes bs → ((x : Record) × (r : List ℕ) × Begins bs x r) ⊎ ((e : Refusal) × Unreadable bs e)
begins_or_not [] some byte = absurd (omega arith)
begins_or_not (k ∷ body) some byte = by_kind (cases_eq k 0x52) (cases_eq k 0x51) (cases_eq k 0x53)
  where
    Told : Type 0
    Told = ((x : Record) × (r : List ℕ) × Begins (k ∷ body) x r) ⊎ ((e : Refusal) × Unreadable (k ∷ body) e)

    short : (n : ℕ) → body_length k ≡ Some n → length body < n → Told
    short n e h = inr (EndInsideRecord, inr ((n, e, h), refl))

    row : k ≡ 0x52 → (length body < 6) ⊎ (6 ≤ length body) → Told
    row e (inl h) = short 6 (ap body_length e) h
    row e (inr h) = inl (_, _, begins_row (k ∷ body) byte (record { cost = _; deadline = _; period = _ }) (omega arith) e refl refl refl)

    request : k ≡ 0x51 → (length body < 8) ⊎ (8 ≤ length body) → Told
    request e (inl h) = short 8 (ap body_length e) h
    request e (inr h) = inl (_, _, begins_request (k ∷ body) byte (record { arrival = _; number = _; ticks = _ }) (omega arith) e refl refl refl)

    stop : k ≡ 0x53 → (length body < 4) ⊎ (4 ≤ length body) → Told
    stop e (inl h) = short 4 (ap body_length e) h
    stop e (inr h) = inl (_, _, begins_stop (k ∷ body) byte _ (omega arith) e refl)

    by_kind : (k ≡ 0x52) ⊎ (k ≡ 0x52 → ⊥) → (k ≡ 0x51) ⊎ (k ≡ 0x51 → ⊥) → (k ≡ 0x53) ⊎ (k ≡ 0x53 → ⊥) → Told
    by_kind (inl e) b c = row e (cases_lt (length body) 6)
    by_kind (inr p) (inl e) c = request e (cases_lt (length body) 8)
    by_kind (inr p) (inr q) (inl e) = stop e (cases_lt (length body) 4)
    by_kind (inr p) (inr q) (inr r) = inr (UnknownKind, inl (kindless _ _ _ (ne_eqb k 0x52 p) (ne_eqb k 0x51 q) (ne_eqb k 0x53 r), refl))
