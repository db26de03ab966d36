-- Two texts compared octet for octet, ASCII case ignored. Assumes nothing.
use Prim.Native.Nat.{ℕ, ◌≤◌, ◌<◌}
use mathlib.Core.Path.{◌≡◌, refl, ap}
use mathlib.Core.Bool.{Bool, false, ◌&&◌}
use mathlib.Core.List.{List, [], ◌∷◌}
use native.Mathlib.Omega.{arith}
use lib.Dec.{eqb}
use lib.ListN.{length, take, length-take}
use Rattle.std.specs.List.{list_all, zip}
use Rattle.lists.specs.Lists.{same}
use Rattle.protocol.specs.Octets.{lower_case}
use Rattle.protocol.specs.Text.{same_ignoring_case}
use Rattle.protocol.proofs.Texts.{case_length}

pub case_short : (s w : List ℕ) → length s < length w → false ≡ same_ignoring_case (take (length w) s) w
case_short s w h = case_length (take (length w) s) w (λ e. omega (arith, e, length-take (length w) s))

-- the pairs of octets of the front and of w
pub case_pairs : (s w : List ℕ) → length w ≤ length s
    → list_all (λ p. eqb (lower_case p.0) (lower_case p.1)) (zip (take (length w) s) w) ≡ same_ignoring_case (take (length w) s) w
unfolding same_ignoring_case same
case_pairs [] [] h = refl
case_pairs [] (y ∷ w) h = absurd (omega arith)
case_pairs (x ∷ s) [] h = refl
case_pairs (x ∷ s) (y ∷ w) h = ap (λ (b : Bool). eqb (lower_case x) (lower_case y) && b) (case_pairs s w (omega arith))
