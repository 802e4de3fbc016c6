-- The bytes of many records in turn: their parts and how many there are.
use Rattle.std.proofs.Common.{append-nil, ◌≡◌, ℕ, ◌+◌, ◌*◌, ◌≤◌, List, [], ◌∷◌, ◌++◌, length, take, Ok, Err, vec_items, Result, vec_len, map, sym, refl, ap, ◌∙◌, arith, length-append}
use Rattle.std.proofs.lemmas.List.{length-map, take_at}
use Rattle.std.proofs.lemmas.List.Concat.{flat_map-append}
use Rattle.std.proofs.lemmas.List.Folds.{flat_map-map}
use Rattle.std.specs.List.{flat_map}
use Rattle.std.specs.Option.{option_to_list}
use Rattle.model.specs.Drafts.{rows_of}
use Rattle.model.specs.declared.refusal.Refusal.{Refusal}
use Rattle.model.specs.declared.request.Request.{Request}
use Rattle.model.specs.declared.row.Row.{Row}
use Rattle.model.specs.Rows.{times_of}
use Rattle.flightfile.specs.declared.file.FlightFile.{FlightFile}
use Rattle.flightfile.specs.declared.record.Record.{Record}
use Rattle.flightfile.specs.Answers.{Says}
use Rattle.flightfile.specs.Contents.{Content, records, bytes}
use Rattle.flightfile.specs.Reading.{content_of}
use Rattle.flightfile.specs.Records.{encode}
use Rattle.flightfile.specs.Writing.{Written, WrittenBack}

-- What a function gives of all the records of a content, by the rows, the requests and the stop.
module _ (g : Record → List ℕ) where
  parts : (c : Content) → flat_map g (records c) ≡ flat_map (λ t. g (Record.Row t)) c.rows ++ (flat_map (λ q. g (Record.Request q)) c.requests ++ flat_map (λ n. g (Record.Stop n)) (option_to_list c.stop))
  parts c = simp (flat_map-append, flat_map-map)

  pub file_parts : (f : FlightFile) (rs : List Row) (qs : List Request) → map times_of rs ≡ rows_of f.rows → qs ≡ vec_items f.requests → flat_map g (records (content_of f)) ≡ flat_map (λ r. g (Record.Row (times_of r))) rs ++ (flat_map (λ q. g (Record.Request q)) qs ++ g (Record.Stop f.stop))
  file_parts f rs qs same asked = rw (← same, asked) (simp (flat_map-append, flat_map-map, append-nil))

-- Values of k bytes each.
even : {X : Type 0} (f : X → List ℕ) (k : ℕ) → ((x : X) → length (f x) ≡ k) → (xs : List X) → length (flat_map f xs) ≡ k * length xs
even f k h [] = omega arith
even f k h (x ∷ xs) = grind (arith, h x, length-append (f x) (flat_map f xs), even f k h xs)

bytes_long : (c : Content) → length (bytes c) ≡ 7 * length c.rows + (9 * length c.requests + 5 * length (option_to_list c.stop))
bytes_long c =
    omega (arith, ap length (parts encode c), length-append {A = ℕ}, even (λ t. encode (Record.Row t)) 7 (λ t. refl) c.rows, even (λ q. encode (Record.Request q)) 9 (λ q. refl) c.requests, even (λ n. encode (Record.Stop n)) 5 (λ n. refl) (option_to_list c.stop))

-- The requests of a content are a part of its bytes.
pub requests_fit : (c : Content) → 9 * length c.requests ≤ length (bytes c)
requests_fit c = omega (arith, bytes_long c)

-- A flight file whose rows are rs has as many bytes as these, which is no more than a file may have.
pub file_long : (f : FlightFile) (rs : List Row) (n : ℕ) → map times_of rs ≡ rows_of f.rows → n ≡ vec_len f.requests → (length (bytes (content_of f)) ≡ 7 * length rs + 9 * n + 5) × (7 * length rs + 9 * n + 5 ≤ 65536)
file_long f rs n same many =
    let long : length (bytes (content_of f)) ≡ 7 * length rs + 9 * n + 5 =
    omega (arith, bytes_long (content_of f), f.requests.ok.0, many, length-map rs times_of, ap length same) in
    (long, omega (arith, long, f.short))

-- Its rows, its requests and its stop have as many bytes as all of it.
pub parts_long : (f : FlightFile) (rs : List Row) (qs : List Request) → map times_of rs ≡ rows_of f.rows → qs ≡ vec_items f.requests → length (flat_map (λ r. encode (Record.Row (times_of r))) rs) + length (flat_map (λ q. encode (Record.Request q)) qs) + 5 ≡ length (bytes (content_of f))
parts_long f rs qs same asked = omega (arith, ap length (file_parts encode f rs qs same asked), length-append {A = ℕ})

-- What was written of the content of a file is that file.
pub written_back : (c : Content) (old : List ℕ) (r : Result ℕ Refusal) (new : List ℕ) → Written (bytes c) old r new → WrittenBack c r new
written_back c old (Ok n) new w file s = (w.1 ∙ ap length (sym s.3), ap (take n) w.2 ∙ take_at (bytes c) _ n (sym w.1) ∙ sym s.3)
written_back c old (Err e) new w file s = tt

pub file_says : (f : FlightFile) → Says (bytes (content_of f)) (content_of f)
file_says f = (f.short, f.lawful, (f.stop, refl), refl)
