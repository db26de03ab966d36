-- Why a path is refused, row by row. Assumes nothing.
use Rattle.std.specs.Prelude.{if◌then◌else◌}
use Prim.Native.Nat.{ℕ, ◌≤◌, ◌<◌}
use mathlib.Core.Path.{◌≡◌, refl, ◌∙◌}
use mathlib.Core.Bool.{Bool, true, not}
use mathlib.Core.List.{List, [], ◌∷◌}
use native.Mathlib.Omega.{arith}
use lib.Dec.{leb, eqb}
use lib.ListN.{length, get_or, drop}
use borrow.Author.Tests.{eqb-true, eq-eqb, ne_eqb, lt-ltb, le-ltb, le-leb, leb-true, leb-false}
use Rattle.lists.specs.Lists.{any, up_to}
use Rattle.lists.proofs.Cuts.{any_behind}
use Rattle.lists.proofs.Bools.{split}
use Rattle.protocol.specs.Text.{begins}
use Rattle.protocol.specs.Normal.{normal_path}
use Rattle.protocol.specs.Refusals.{outside_path, no_room, path_rows, refusal, normalise_refusal}
use Rattle.protocol.proofs.Refused.{path_numbered, refused_first, refused_later, none_refused}
use Rattle.words.specs.Words.{among}

-- a path's rows
pub path_empty : (path : List ℕ) → length path ≡ 0 → refusal (path_rows path) ≡ 3
unfolding refusal
path_empty [] h = refl
path_empty (x ∷ l) h = absurd (omega arith)

pub path_long : (path : List ℕ) → 2_048 < length path → refusal (path_rows path) ≡ 3
unfolding refusal
path_long [] h = absurd (omega arith)
path_long (x ∷ l) h = rw (lt-ltb 2_048 (length (x ∷ l)) h)

path_else : (path : List ℕ) → 0 < length path → length path ≤ 2_048
    → refusal (path_rows path) ≡ (if not (eqb (get_or path 0 0) 47) then 4 else if any outside_path path then 5 else 0)
unfolding refusal begins
path_else [] h k = absurd (omega arith)
path_else (x ∷ l) h k = rw (le-ltb 2_048 (length (x ∷ l)) k)

module _ (path : List ℕ) (h : 0 < length path) (k : length path ≤ 2_048) where
  pub path_start : (get_or path 0 0 ≡ 47 → ⊥) → refusal (path_rows path) ≡ 4
  path_start e = path_else path h k ∙ rw (ne_eqb (get_or path 0 0) 47 e)

  pub path_octets : (b : Bool) → get_or path 0 0 ≡ 47 → b ≡ any outside_path path → refusal (path_rows path) ≡ (if b then 5 else 0)
  path_octets b e f = path_else path h k ∙ rw (eq-eqb (get_or path 0 0) 47 e, f)

-- the octets that refuse a path are among those up to "#"
pub low_outside : (x : ℕ) → outside_path x ≡ true → among 0 35 true x ≡ true
unfolding outside_path
low_outside x h =
    let low : x ≤ 35 =
    split (leb x 0x20) (λ e. omega (arith, leb-true x 0x20 e)) (λ e. omega (arith, eqb-true x 35 (rw e at h)))
    in rw (le-leb 0 x (omega arith), le-leb x 35 low)

-- where octets up to "#" are looked for in front, those behind tell
pub front_passed : (path : List ℕ) (n : ℕ) → n ≤ length (up_to (among 0 35 true) path) → any outside_path (drop n path) ≡ any outside_path path
front_passed path n h = any_behind outside_path (among 0 35 true) low_outside n path h

-- a path that no row of its own refuses is refused for want of room
module _ (room : ℕ) (path : List ℕ) where
  pub room_else : (refusal (path_rows path) ≡ 0 → ⊥) → normalise_refusal room path ≡ refusal (path_rows path)
  unfolding normalise_refusal
  room_else h = refused_first (path_rows path) (no_room room path ∷ []) h

  pub room_fits : refusal (path_rows path) ≡ 0 → length (normal_path path) ≤ room → normalise_refusal room path ≡ 0
  unfolding normalise_refusal refusal
  room_fits h k =
      refused_later (path_rows path) (no_room room path ∷ []) (path_numbered path) h ∙ rw (le-ltb room (length (normal_path path)) k)

  pub room_short : refusal (path_rows path) ≡ 0 → room < length (normal_path path) → normalise_refusal room path ≡ 6
  unfolding normalise_refusal refusal
  room_short h k =
      refused_later (path_rows path) (no_room room path ∷ []) (path_numbered path) h ∙ rw (lt-ltb room (length (normal_path path)) k)

  pub room_known : normalise_refusal room path ≡ 0 → length (normal_path path) ≤ room
  unfolding normalise_refusal
  room_known h =
      let n = none_refused (path_rows path) (no_room room path ∷ []) h in
      split (leb (length (normal_path path)) room) (λ f. leb-true (length (normal_path path)) room f)
      (λ f. absurd (omega (arith, h, room_short n (leb-false (length (normal_path path)) room f))))
