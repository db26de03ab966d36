-- What the answers to a list of paths say (M-101), and what the memory lent for them then holds. Assumes nothing.
use Prim.Native.Nat.{ℕ, zero, suc, ◌+◌, ◌-◌, ◌≤◌, ◌<◌}
use mathlib.Core.Path.{◌≡◌, refl, sym, ap, ◌∙◌}
use mathlib.Core.Bool.{false, ◌||◌, not}
use mathlib.Core.List.{List, [], ◌∷◌, ◌++◌, map, flatten, append_assoc}
use native.Mathlib.Omega.{arith}
use lib.Dec.{ltb, eqb}
use lib.ListN.{length, get_or, take, drop, length-append, length-drop, length-map, take-append-drop, drop_of_length-le, get_or-append}
use lib.Seq.{length-take-le, take-append_seam, drop-append_seam, drop_at, drop-drop}
use borrow.Author.Tests.{eq-eqb, ne_eqb, le-ltb, lt-ltb, ltb-false, eqb-true, not-false}
use Rattle.lists.proofs.Bools.{or_left, or_right}
use Rattle.lists.proofs.Scans.{map_at}
use Rattle.protocol.specs.Forms.{Decision}
use Rattle.protocol.specs.declared.Dialect.{Dialect}
use Rattle.protocol.specs.Lines.{place_at}
use Rattle.protocol.specs.Text.{octets_at}
use Rattle.protocol.specs.Refusals.{over, dialect_number, unknown_dialect, too_long, bad_name, bad_ends, short_answers, decrease, last_end, refusal, path_rows, question_rows, decide_refusal}
use Rattle.protocol.specs.Answers.{decide, side_number, at_front}
use Rattle.protocol.specs.Batch.{Batch, batch_rows, batch_refusal, paths_from, paths_of, decisions, column, refusals_after, sides_after, lines_after}
use Rattle.protocol.specs.Meaning.{ByTable}
use Rattle.protocol.proofs.Refused.{unless_either, unless_answered, unless_refused_lem, refusal_here, refusal_on, refusal_by_table}
use Rattle.protocol.proofs.Demands.{decide_refusal_lem}

-- the path of number j, which counts from 0: the octets from the end in front of it up to its own
abbrev pub path_of : Batch → ℕ → List ℕ
path_of b j = octets_at b.paths (place_at (get_or (0 ∷ b.ends) j 0)) (get_or b.ends j 0 - get_or (0 ∷ b.ends) j 0)

-- what a single question about that path gives
abbrev pub single : Batch → ℕ → Decision
single b j = decide b.dialect b.file b.name (path_of b j)

-- as many paths as ends
pub length_paths : (e : ℕ) (paths ends : List ℕ) → length (paths_from e paths ends) ≡ length ends
unfolding paths_from
length_paths e paths [] = refl
length_paths e paths (f ∷ ends) = ap suc (length_paths f paths ends)

-- the path at a place
pub path_at_lem : (e : ℕ) (paths ends : List ℕ) (j : ℕ) → j < length ends
    → get_or (paths_from e paths ends) j [] ≡ octets_at paths (place_at (get_or (e ∷ ends) j 0)) (get_or ends j 0 - get_or (e ∷ ends) j 0)
unfolding paths_from
path_at_lem e paths [] j h = absurd (omega arith)
path_at_lem e paths (f ∷ ends) zero h = refl
path_at_lem e paths (f ∷ ends) (suc j) h = path_at_lem f paths ends j (omega arith)

module _ (b : Batch) where
  -- "Refusals: 1 and 2, then 12 [..], then 13", and M-113's 20 "first of all": in these cases, in this order, and in no others.
  pub batch_by_table : ByTable (batch_rows b) (batch_refusal b)
  unfolding batch_refusal
  batch_by_table = refusal_by_table (batch_rows b) (omega arith)

  -- An unknown dialect is refused with 20, whatever else is given.
  pub batch_unknown : (b.dialect ≡ 0 → ⊥) → (b.dialect ≡ 1 → ⊥) → batch_refusal b ≡ 20
  unfolding batch_refusal
  batch_unknown h k =
      refusal_here (unknown_dialect b.dialect) _ (rw (ne_eqb b.dialect 0 h, ne_eqb b.dialect 1 k))

  -- In a known one a file that is too long is refused with 1, whatever else is given.
  pub batch_too_long : (d : Dialect) → b.dialect ≡ dialect_number d → 512_000 < length b.file → batch_refusal b ≡ 1
  unfolding batch_refusal
  batch_too_long d e h =
      refusal_on (unknown_dialect b.dialect) _ (rw e (known d))
      ∙ refusal_here (too_long b.file) _ (lt-ltb 512_000 (length b.file) h)
    where
      known : (d : Dialect) → (unknown_dialect (dialect_number d)).given ≡ false
      known Dialect.Rfc9309 = refl
      known Dialect.Draft1996 = refl

  length_decisions : length (decisions b) ≡ length b.ends
  unfolding decisions
  length_decisions = length-map (paths_of b) _ ∙ length_paths 0 b.paths b.ends

  decision_at : (d : Decision) (j : ℕ) → j < length b.ends → get_or (decisions b) j d ≡ single b j
  unfolding decisions
  decision_at d j h =
      map_at _ (paths_of b) j [] d (omega (arith, length_paths 0 b.paths b.ends))
      ∙ ap (decide b.dialect b.file b.name) (path_at_lem 0 b.paths b.ends j h)

  -- In a call that isn't refused no condition of the call holds,
  pub batch_call : batch_refusal b ≡ 0
      → ((unknown_dialect b.dialect).given ≡ false)
      × ((too_long b.file).given ≡ false)
      × ((bad_name b.name).given ≡ false)
      × ((bad_ends b.paths b.ends).given ≡ false)
      × ((short_answers b.ends b.refusals b.sides b.lines).given ≡ false)
  batch_call z = let (d, (f, (n, (e, (s, u))))) = batch_by_table.answered.0 z in (d, f, n, e, s)

  -- each slice has a place for each path,
  pub batch_room : batch_refusal b ≡ 0
      → (length b.ends ≤ length b.refusals) × (length b.ends ≤ length b.sides) × (length b.ends ≤ length b.lines)
  batch_room z =
      let (d, f, n, e, s) = batch_call z in
      let more = or_left (over (length b.refusals) b.ends || over (length b.sides) b.ends) (over (length b.lines) b.ends) s in
      let l = or_right (over (length b.refusals) b.ends || over (length b.sides) b.ends) (over (length b.lines) b.ends) s in
      let r = or_left (over (length b.refusals) b.ends) (over (length b.sides) b.ends) more in
      let k = or_right (over (length b.refusals) b.ends) (over (length b.sides) b.ends) more in
      (ltb-false _ _ r, ltb-false _ _ k, ltb-false _ _ l)

  -- and a path's refusal is its own: 3, 4 or 5.
  pub own_refusal : batch_refusal b ≡ 0 → (path : List ℕ) → (decide b.dialect b.file b.name path).refusal ≡ refusal (path_rows path)
  unfolding decide_refusal
  own_refusal z path =
      let (d, f, n, e, s) = batch_call z in
      decide_refusal_lem b.dialect b.file b.name path
      ∙ refusal_on (unknown_dialect b.dialect) (question_rows b.file b.name path) d
      ∙ refusal_on (too_long b.file) (bad_name b.name ∷ path_rows path) f
      ∙ refusal_on (bad_name b.name) (path_rows path) n

  -- one of the three slices: a number of each decision goes into the memory lent for it
  module _ (number : Decision → ℕ) (memory : List ℕ) where
    abbrev told : List ℕ
    told = map number (decisions b)

    length_told : length told ≡ length b.ends
    length_told = length-map (decisions b) number ∙ length_decisions

    column_keeps : (batch_refusal b ≡ 0 → ⊥) → at_front (column number b) memory ≡ memory
    unfolding column
    column_keeps h = ap (λ (out : List ℕ). at_front out memory) (unless_refused_lem (batch_refusal b) _ _ h)

    column_place : batch_refusal b ≡ 0 → (j : ℕ) → j < length b.ends → get_or (at_front (column number b) memory) j 0 ≡ number (single b j)
    unfolding column
    column_place z j h =
        ap (λ (out : List ℕ). get_or (at_front out memory) j 0) (unless_answered (batch_refusal b) _ _ z)
        ∙ get_or-append told (drop (length told) memory) 0 j (omega (arith, length_told))
        ∙ map_at number (decisions b) j (single b j) 0 (omega (arith, length_decisions))
        ∙ ap number (decision_at (single b j) j h)

    column_stays : drop (length b.ends) (at_front (column number b) memory) ≡ drop (length b.ends) memory
    unfolding column
    column_stays =
        unless_either (batch_refusal b) _ told (λ (out : List ℕ). drop (length b.ends) (at_front out memory) ≡ drop (length b.ends) memory)
        (λ z. drop_at told (drop (length told) memory) (length b.ends) length_told ∙ ap (λ (n : ℕ). drop n memory) length_told)
        (λ h. refl)

    column_length : (batch_refusal b ≡ 0 → length b.ends ≤ length memory) → length (at_front (column number b) memory) ≡ length memory
    unfolding column
    column_length f =
        unless_either (batch_refusal b) _ told (λ (out : List ℕ). length (at_front out memory) ≡ length memory)
        (λ z. omega (arith, f z, length_told, length-append told (drop (length told) memory), length-drop (length told) memory))
        (λ h. refl)

  -- Refused, "nothing is written": the lent slices are as they were.
  pub batch_refused : (batch_refusal b ≡ 0 → ⊥)
      → (refusals_after b ≡ b.refusals) × (sides_after b ≡ b.sides) × (lines_after b ≡ b.lines)
  unfolding refusals_after sides_after lines_after
  batch_refused h = (column_keeps _ b.refusals h, column_keeps _ b.sides h, column_keeps _ b.lines h)

  -- "Numbers, decisions and lines go into lent slices, one place a path, each what a single question gives"
  pub batch_place : batch_refusal b ≡ 0 → (j : ℕ) → j < length b.ends
      → (get_or (refusals_after b) j 0 ≡ (single b j).refusal)
      × (get_or (sides_after b) j 0 ≡ side_number (single b j).side)
      × (get_or (lines_after b) j 0 ≡ (single b j).line.number)
  unfolding refusals_after sides_after lines_after
  batch_place z j h = (column_place _ b.refusals z j h, column_place _ b.sides z j h, column_place _ b.lines z j h)

  -- "Places beyond the last path stay", whatever the call gives,
  pub batch_stays : (drop (length b.ends) (refusals_after b) ≡ drop (length b.ends) b.refusals)
      × (drop (length b.ends) (sides_after b) ≡ drop (length b.ends) b.sides)
      × (drop (length b.ends) (lines_after b) ≡ drop (length b.ends) b.lines)
  unfolding refusals_after sides_after lines_after
  batch_stays = (column_stays _ b.refusals, column_stays _ b.sides, column_stays _ b.lines)

  -- and so does the number of places.
  pub batch_lengths : (length (refusals_after b) ≡ length b.refusals)
      × (length (sides_after b) ≡ length b.sides)
      × (length (lines_after b) ≡ length b.lines)
  unfolding refusals_after sides_after lines_after
  batch_lengths =
      (column_length _ b.refusals (λ z. (batch_room z).0), column_length _ b.sides (λ z. (batch_room z).1), column_length _ b.lines (λ z. (batch_room z).2))

-- the ends of paths that are joined, the first of which begins at e
unfoldable pub ends_from : ℕ → List (List ℕ) → List ℕ
ends_from e [] = []
ends_from e (p ∷ ps) = (e + length p) ∷ ends_from (e + length p) ps

-- paths that are joined behind other octets
paths_behind : (front : List ℕ) (ps : List (List ℕ)) → paths_from (length front) (front ++ flatten ps) (ends_from (length front) ps) ≡ ps
unfolding flatten paths_from ends_from octets_at
paths_behind front [] = refl
paths_behind front (p ∷ ps) =
    let l : length (front ++ p) ≡ length front + length p = length-append front p in
    let n : length front + length p - length front ≡ length p = omega arith in
    rw (n, drop-append_seam front (p ++ flatten ps), take-append_seam p (flatten ps))
    (ap (λ (qs : List (List ℕ)). p ∷ qs) (rw (l, append_assoc front p (flatten ps)) at (paths_behind (front ++ p) ps)))

joined_increase : (e : ℕ) (ps : List (List ℕ)) → decrease e (ends_from e ps) ≡ false
unfolding decrease ends_from
joined_increase e [] = refl
joined_increase e (p ∷ ps) = rw (le-ltb (e + length p) e (omega arith)) (joined_increase (e + length p) ps)

joined_last : (e : ℕ) (ps : List (List ℕ)) → last_end e (ends_from e ps) ≡ e + length (flatten ps)
unfolding last_end ends_from flatten
joined_last e [] = omega arith
joined_last e (p ∷ ps) = omega (arith, joined_last (e + length p) ps, length-append p (flatten ps))

module _ (ps : List (List ℕ)) where
  -- Who joins paths and gives their ends is answered about these paths,
  pub paths_joined : paths_from 0 (flatten ps) (ends_from 0 ps) ≡ ps
  paths_joined = paths_behind [] ps

  -- and isn't refused for the ends.
  pub joined_good : (bad_ends (flatten ps) (ends_from 0 ps)).given ≡ false
  joined_good = rw (joined_increase 0 ps, eq-eqb (last_end 0 (ends_from 0 ps)) (length (flatten ps)) (omega (arith, joined_last 0 ps)))

-- ends that never decrease, behind the end e
pub rising : (e f : ℕ) (ends : List ℕ) → decrease e (f ∷ ends) ≡ false → (e ≤ f) × (decrease f ends ≡ false)
unfolding decrease
rising e f ends h = (ltb-false f e (or_left (ltb f e) (decrease f ends) h), or_right (ltb f e) (decrease f ends) h)

pub last_most : (e : ℕ) (ends : List ℕ) → decrease e ends ≡ false → e ≤ last_end e ends
unfolding last_end
last_most e [] h = omega arith
last_most e (f ∷ ends) h = let (l, r) = rising e f ends h in omega (arith, l, last_most f ends r)

-- and the last of which is the joined length
module _ (paths : List ℕ) where
  good_paths : (e : ℕ) (ends : List ℕ) → decrease e ends ≡ false → last_end e ends ≡ length paths → flatten (paths_from e paths ends) ≡ drop e paths
  unfolding last_end paths_from flatten octets_at
  good_paths e [] h l = sym (drop_of_length-le paths {i = e} (omega arith))
  good_paths e (f ∷ ends) h l =
      let (up, more) = rising e f ends h in
      let n : e + (f - e) ≡ f = omega (arith, up) in
      let rest : drop (f - e) (drop e paths) ≡ drop f paths = drop-drop (f - e) e paths ∙ ap (λ (i : ℕ). drop i paths) n in
      rw (good_paths f ends more l, sym rest) (take-append-drop (f - e) (drop e paths))

  good_ends : (e : ℕ) (ends : List ℕ) → decrease e ends ≡ false → last_end e ends ≡ length paths → ends_from e (paths_from e paths ends) ≡ ends
  unfolding last_end paths_from ends_from octets_at
  good_ends e [] h l = refl
  good_ends e (f ∷ ends) h l =
      let (up, more) = rising e f ends h in
      let m : length (take (f - e) (drop e paths)) ≡ f - e = length-take-le (f - e) (drop e paths) (omega (arith, length-drop e paths, last_most f ends more)) in
      let n : e + (f - e) ≡ f = omega (arith, up) in
      rw (m, n) (ap (λ (l : List ℕ). f ∷ l) (good_ends f ends more l))

  -- And ends that aren't refused are those of the paths that are asked about, which are joined as they are given: no octet is in two of them, and
  -- none is in none.
  pub good_joined : (ends : List ℕ) → (bad_ends paths ends).given ≡ false → (flatten (paths_from 0 paths ends) ≡ paths) × (ends_from 0 (paths_from 0 paths ends) ≡ ends)
  good_joined ends h =
      let k = or_left (decrease 0 ends) (not (eqb (last_end 0 ends) (length paths))) h in
      let more = or_right (decrease 0 ends) (not (eqb (last_end 0 ends) (length paths))) h in
      let l = eqb-true (last_end 0 ends) (length paths) (not-false _ more) in
      (good_paths 0 ends k l, good_ends 0 ends k l)
