-- What reading the input comes to. Assumes nothing.
use Rattle.std.specs.Prelude.{ℕ, ◌<◌, ◌≤◌, ◌≡◌, List, Option, Result, IfOk, length, take}
use Rattle.std.specs.Io.KnownBytes.{Consumes, IsAtEnd}

-- so many octets stand in the front of the buffer; nothing is said where a read failed
abbrev pub Fits : {E : Type 0} → Result ℕ E → List ℕ → Type 0
Fits input buffer = IfOk input (λ n. (n ≤ length buffer) × (n ≡ length (take n buffer)))

-- they are the next of what the reader had, and all of it where the buffer has room left
abbrev pub Reads : {E : Type 0} → Option (List ℕ) → Option (List ℕ) → Result ℕ E → List ℕ → Type 0
Reads had left input buffer = IfOk input (λ n. Consumes had left (take n buffer) × (n < length buffer → IsAtEnd left))
