-- Writing: what a buffer holds after bytes were written into it.
use Rattle.std.specs.Prelude.{◌≡◌, ℕ, ◌+◌, ◌<◌, ◌≤◌, List, ◌++◌, length, take, drop, IfOk, Ok, Err, Result}
use Rattle.model.specs.declared.refusal.Refusal.{Refusal}
use Rattle.model.specs.declared.refusal.Refusal.TheVariants.{OutputTooShort}
use Rattle.flightfile.specs.declared.writing.Output.{Output}
use Rattle.flightfile.specs.Answers.{Says}
use Rattle.flightfile.specs.Contents.{Content}

-- There is room for these bytes behind those that have been written.
abbrev pub Fits : Output → List ℕ → Type 0
Fits output bs = output.at + length bs ≤ length output.buffer.now

-- The bytes were written behind those before them, and what lies behind stayed as it was.
pub record Puts (old : Output) (bs : List ℕ) (new : Output) : Type 0 where
  pub same_buffer : new.buffer.ghost_name ≡ old.buffer.ghost_name
  pub long : length new.buffer.now ≡ length old.buffer.now
  pub end : new.at ≡ old.at + length bs
  pub wrote : take new.at new.buffer.now ≡ take old.at old.buffer.now ++ bs
  pub rest : drop new.at new.buffer.now ≡ drop new.at old.buffer.now

-- The bytes stand at the buffer's front, and their number is answered; or the buffer is too short for
-- them and stays as it was.
abbrev pub Written : List ℕ → List ℕ → Result ℕ Refusal → List ℕ → Type 0
Written bs old (Ok n) new = (length bs ≤ length old) × (n ≡ length bs) × (new ≡ bs ++ drop (length bs) old)
Written bs old (Err e) new = (length old < length bs) × (e ≡ OutputTooShort) × (new ≡ old)

-- A file that says this is written back as itself.
abbrev pub WrittenBack : Content → Result ℕ Refusal → List ℕ → Type 0
WrittenBack c r new = (file : List ℕ) → Says file c → IfOk r (λ n. (n ≡ length file) × (take n new ≡ file))
