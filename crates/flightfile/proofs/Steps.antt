-- One step of the reader: a record taken in makes the run seen longer, and what is wrong with one is the answer.
use Rattle.std.proofs.Common.{◌≡◌, ℕ, ◌-◌, ◌≤◌, List, ◌++◌, length, Ok, Err, vec_capacity, Result, MatchResult, IsErrAnd, Bor, sym, refl, ap, ◌∙◌, subst, inl, inr, append_assoc, arith, length-append}
use Rattle.model.specs.declared.refusal.Refusal.{Refusal}
use Rattle.model.specs.Refusals.{refusal_at}
use Rattle.flightfile.specs.declared.file.FlightFile.{FlightFile}
use Rattle.flightfile.specs.declared.reading.ReadError.{ReadError}
use Rattle.flightfile.specs.declared.reader.Reader.{Reader}
use Rattle.flightfile.specs.declared.record.Record.{Record}
use Rattle.flightfile.specs.Answers.{Front, Refuses}
use Rattle.flightfile.specs.Contents.{bytes}
use Rattle.flightfile.specs.Reading.{Reads, Enough}
use Rattle.flightfile.specs.Records.{encode, Begins, Split}
use Rattle.flightfile.specs.Progress.{Allowed, extend, seen, Taken, Admitted}
use Rattle.flightfile.proofs.AllRecords.{requests_fit}
use Rattle.flightfile.proofs.OneMore.{bytes-extend, lawful_extend}

-- Between two records: those seen are the bytes before `rest`.
module _ (bs : List ℕ) (short : length bs ≤ 65536) (old : Reader) (rest : List ℕ) (split : bs ≡ bytes (seen old) ++ rest) (place : ℕ) (at : place ≡ length bs - length rest) where
  front : Front bs (seen old) place rest
  front = record { lawful = old.lawful; split = split; ends = omega (arith, ap length split, length-append (bytes (seen old)) rest) }

  -- No record was split off; what came of that, with its place, is the answer to the whole input.
  pub not_split : (room : ℕ) (r : Result (Record × Bor (List ℕ)) Refusal) (placed : Result (Record × Bor (List ℕ)) ReadError) (p : ReadError) {gives : Refusal → ReadError → Type 0} → placed ≡ Err p → MatchResult r (λ x. placed ≡ Ok x) (λ e. IsErrAnd placed (gives e)) → ((e : Refusal) (q : ReadError) → gives e q → q ≡ ReadError.Refused (refusal_at e place)) → Split rest r → Reads room bs (Err p)
  not_split room (Ok x) placed p was m is s = let z : ◌≡◌ {A = ℕ} 0 1 = cc in absurd (omega arith)
  not_split room (Err e) placed p {gives} was m is s =
      let same = is e p (subst (λ (r : Result (Record × Bor (List ℕ)) ReadError). IsErrAnd r (gives e)) was m) in
      subst (λ (q : ReadError). Reads room bs (Err q)) (sym same) (inr (short, (seen old, rest, front, inl (inl s))))

  module _ (x : Record) (after : List ℕ) (b : Begins rest x after) where
    longer : Allowed (seen old) x → bs ≡ bytes (extend (seen old) x) ++ after
    longer a =
        split
        ∙ ap (λ l. bytes (seen old) ++ l) b.split
        ∙ sym (append_assoc (bytes (seen old)) (encode x) after)
        ∙ ap (λ l. l ++ after) (sym (bytes-extend (seen old) x a.placed))

    pub taken : (new : Reader) → Taken old x new → bs ≡ bytes (seen new) ++ after
    taken new t = longer t.allowed ∙ ap (λ c. bytes c ++ after) (sym t.seen_more)

    pub not_admitted : (new : Reader) (e : ReadError) → Admitted old x place (Err e) new → Reads (vec_capacity old.requests) bs (Err e)
    not_admitted new (ReadError.Refused p) u =
        subst (λ n. Refuses bs p.refusal n) (sym u.1) (inr (short, (seen old, rest, front, inl (inr (x, after, b, u.0)))))
    not_admitted new ReadError.NoMemory u =
        (short, (extend (seen old) x, length (bytes (extend (seen old) x)), after, record { lawful = lawful_extend (seen old) x old.lawful b.encodable u.0; split = longer u.0; ends = refl }, u.1))

-- What is answered with more room is right with less.
pub less_room : (room more : ℕ) (bs : List ℕ) (r : Result FlightFile ReadError) → room ≤ more → Reads more bs r → Reads room bs r
less_room room more bs (Ok f) l a = a
less_room room more bs (Err (ReadError.Refused p)) l a = a
less_room room more bs (Err ReadError.NoMemory) l a = let run = a.1 in (a.0, (run.0, run.1, run.2, run.3, omega (arith, run.4)))

-- A file has no more than 7,281 requests.
pub enough : (room : ℕ) (bs : List ℕ) (r : Result FlightFile ReadError) → Reads room bs r → Enough room r
enough room bs (Ok f) a most e = let z : ◌≡◌ {A = ℕ} 0 1 = cc in omega arith
enough room bs (Err (ReadError.Refused p)) a most e = let z : ◌≡◌ {A = ℕ} 0 1 = cc in omega arith
enough room bs (Err ReadError.NoMemory) a most e =
    let run = a.1.0 in
    let rest = a.1.2 in
    omega (arith, a.0, a.1.4, requests_fit run, ap length a.1.3.split ∙ length-append (bytes run) rest)
