-- What becomes of one run of a pattern, raw. Assumes nothing.
use Rattle.std.specs.Prelude.{ℕ, Bool, List, Option, Some, None, length, leb, if◌then◌else◌}
use Rattle.protocol.specs.Normal.{normal}
use Rattle.protocol.specs.Answers.{at_front}

-- one run's normalised octets, where "*" is a star, and where it is none
abbrev pub normal_run : Bool → List ℕ → List ℕ
normal_run stars run = normal stars 0 run

-- how many they are, where they fit
unfoldable pub run_of : Bool → List ℕ → List ℕ → Option ℕ
run_of stars run scratch =
    if leb (length (normal_run stars run)) (length scratch) then Some (length (normal_run stars run)) else None

-- the scratch afterwards: untouched where they don't fit
unfoldable pub run_scratch : Bool → List ℕ → List ℕ → List ℕ
run_scratch stars run scratch =
    if leb (length (normal_run stars run)) (length scratch) then at_front (normal_run stars run) scratch else scratch
