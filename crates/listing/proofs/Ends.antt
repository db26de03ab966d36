-- The ends of a list of paths: those that are left tell of the whole, and they lie in the joined paths where they are good. Assumes nothing.
use Prim.Native.Nat.{ℕ, zero, suc, ◌+◌, ◌≤◌, ◌<◌}
use mathlib.Core.Path.{◌≡◌}
use mathlib.Core.Bool.{true, false}
use mathlib.Core.List.{List, [], ◌∷◌}
use native.Mathlib.Omega.{arith}
use lib.ListN.{length, drop, get_or, drop_of_length-le}
use borrow.Author.Tests.{lt-ltb, le-ltb}
use Rattle.lists.proofs.Scans.{drop_one}
use Rattle.protocol.specs.Refusals.{decrease, last_end}
use Rattle.protocol.proofs.BatchAnswer.{rising, last_most}
use Rattle.listing.specs.Listing.{GoodEnds, start_at}

-- the ends from the index i on, behind the end `last`
module _ (ends : List ℕ) (i last : ℕ) where
  pub decrease_here : i < length ends → get_or ends i 0 < last → decrease last (drop i ends) ≡ true
  unfolding decrease
  decrease_here h l = rw (drop_one ends i 0 h, lt-ltb (get_or ends i 0) last l)

  pub decrease_on : i < length ends → last ≤ get_or ends i 0 → decrease last (drop i ends) ≡ decrease (get_or ends i 0) (drop (i + 1) ends)
  unfolding decrease
  decrease_on h l = rw (drop_one ends i 0 h, le-ltb (get_or ends i 0) last l)

  pub decrease_end : length ends ≤ i → decrease last (drop i ends) ≡ false
  unfolding decrease
  decrease_end h = rw (drop_of_length-le ends h)

  pub last_on : i < length ends → last_end last (drop i ends) ≡ last_end (get_or ends i 0) (drop (i + 1) ends)
  unfolding last_end
  last_on h = rw (drop_one ends i 0 h)

  pub last_end_lem : length ends ≤ i → last_end last (drop i ends) ≡ last
  unfolding last_end
  last_end_lem h = rw (drop_of_length-le ends h)

-- behind the end e
inside_from : (e : ℕ) (ends : List ℕ) → decrease e ends ≡ false → (j : ℕ) → j < length ends
    → (get_or (e ∷ ends) j 0 ≤ get_or ends j 0) × (get_or ends j 0 ≤ last_end e ends)
unfolding last_end
inside_from e [] h j l = absurd (omega arith)
inside_from e (f ∷ ends) h zero l = let (m, r) = rising e f ends h in (m, last_most f ends r)
inside_from e (f ∷ ends) h (suc j) l = inside_from f ends (rising e f ends h).1 j (omega arith)

-- each path stands in the joined ones
module _ (paths ends : List ℕ) (g : GoodEnds paths ends) (j : ℕ) (h : j < length ends) where
  pub path_begins : start_at ends j ≤ get_or ends j 0
  path_begins = (inside_from 0 ends g.0 j h).0

  pub path_stops : get_or ends j 0 ≤ length paths
  path_stops = omega (arith, (inside_from 0 ends g.0 j h).1, g.1)
