-- The kind of a line, read from the rest of its file: what stands before the first colon and behind it. Assumes nothing.
use Rattle.std.specs.Prelude.{if◌then◌else◌}
use Prim.Native.Nat.{ℕ, ◌+◌, ◌≤◌, ◌<◌}
use mathlib.Core.Path.{◌≡◌, refl, ap, ◌∙◌}
use mathlib.Core.Bool.{true, false, false≢true}
use mathlib.Core.List.{List, [], ◌∷◌, tail}
use native.Mathlib.Omega.{arith}
use lib.ListN.{length, drop, length-append, length-drop}
use lib.Seq.{drop-drop}
use borrow.Author.Tests.{ltb-true}
use Rattle.lists.specs.Lists.{empty, any, up_to, from}
use Rattle.lists.proofs.Bools.{split}
use Rattle.lists.proofs.Parts.{up_to_from}
use Rattle.lists.proofs.Scans.{drop_up_to, drop_past, up_to_fits, any_found}
use Rattle.lists.proofs.Places.{occurs_fits, occurs_past}
use Rattle.protocol.specs.declared.Place.{Place}
use Rattle.protocol.specs.declared.Kind.{Kind}
use Rattle.protocol.specs.Octets.{is, line_end}
use Rattle.protocol.specs.Text.{solid, lead, trim_end, trim}
use Rattle.protocol.specs.Lines.{place_at, place_after, line_text}
use Rattle.protocol.specs.Kinds.{agent_at, pattern_at, field_kind, record_kind, rest_kind, uncommented, kind_of}
use Rattle.protocol.specs.Classes.{stop}
use Rattle.text.proofs.Trims.{trim_fits}
use Rattle.fields.specs.Fields.{value_start, value_at}
use Rattle.lists.proofs.Cuts.{from_none, up_to_either, up_to_before, past_before, any_before, up_to_first, up_to_past, from_past, any_past}
use Rattle.fields.proofs.Ends.{any_end, up_to_end, past_end, trim_end_lem, trim_from}
use Rattle.fields.proofs.Sorts.{stop_solid, colon_solid}

-- where the value is empty its place doesn't matter
place_free : (field : List ℕ) (p q : Place) → field_kind field p [] ≡ field_kind field q []
unfolding field_kind agent_at pattern_at
place_free field p q = refl

record_rest : (l : List ℕ) (p : Place) → any (is ":") l ≡ true → rest_kind p l ≡ record_kind p l
unfolding rest_kind any
record_rest [] p h = absurd (false≢true h)
record_rest (c ∷ l) p h = rw h

idle_rest : (l : List ℕ) (p : Place) → any (is ":") l ≡ false → rest_kind p l ≡ (if empty l then Kind.Blank else Kind.Noise)
unfolding rest_kind
idle_rest l p h = rw h

colon_trim : (l : List ℕ) → any (is ":") (trim l) ≡ any (is ":") l
unfolding trim
colon_trim l = any_end (is ":") colon_solid (from solid l) ∙ any_past (is ":") solid colon_solid l

module _ (r : List ℕ) where
  -- what is examined of the line
  rest_told : kind_of (line_text r) ≡ rest_kind (place_at (lead (up_to stop r))) (trim (up_to stop r))
  unfolding kind_of uncommented stop
  rest_told = rw (up_to_either (is "#") line_end r)

  pub kind_idle : any (is ":") (up_to stop r) ≡ false → kind_of (line_text r) ≡ (if empty (trim (up_to stop r)) then Kind.Blank else Kind.Noise)
  kind_idle h = rest_told ∙ idle_rest (trim (up_to stop r)) (place_at (lead (up_to stop r))) (colon_trim (up_to stop r) ∙ h)

  -- the octets behind the first colon
  abbrev behind : List ℕ
  behind = tail (from (is ":") r)

  start_told : (value_start r).offset ≡ length (up_to (is ":") r) + 1 + lead behind
  unfolding value_start
  start_told = rw (drop_past (is ":") r)

  value_told_lem : value_at (value_start r) r ≡ trim (up_to stop behind)
  unfolding value_at value_start trim lead
  value_told_lem =
      rw (
        ← drop-drop (length (up_to solid (drop (length (up_to (is ":") r) + 1) r))) (length (up_to (is ":") r) + 1) r,
        drop_past (is ":") r,
        drop_up_to solid behind,
        up_to_past stop solid stop_solid behind,
      )

  module _ (h : any (is ":") (up_to stop r) ≡ true) where
    field_part : up_to (is ":") (trim (up_to stop r)) ≡ from solid (up_to (is ":") r)
    unfolding trim
    field_part =
        up_to_end (is ":") colon_solid (from solid (up_to stop r)) (any_past (is ":") solid colon_solid (up_to stop r) ∙ h)
        ∙ up_to_past (is ":") solid colon_solid (up_to stop r)
        ∙ ap (from solid) (up_to_before (is ":") stop r h)

    value_part : tail (from (is ":") (trim (up_to stop r))) ≡ trim_end (up_to stop behind)
    unfolding trim
    value_part =
        past_end (is ":") colon_solid (from solid (up_to stop r)) (any_past (is ":") solid colon_solid (up_to stop r) ∙ h)
        ∙ ap (λ (l : List ℕ). trim_end (tail l)) (from_past (is ":") solid colon_solid (up_to stop r))
        ∙ ap trim_end (past_before (is ":") stop r h)

    field_size : lead (up_to stop r) + length (from solid (up_to (is ":") r)) ≡ length (up_to (is ":") r)
    unfolding lead
    field_size =
        let e : List ℕ = up_to (is ":") r in
        omega (
          arith,
          ap length (up_to_first stop solid stop_solid r),
          ap length (up_to_first (is ":") solid colon_solid r),
          ap length (up_to_from solid e),
          length-append (up_to solid e) (from solid e),
        )

    -- where the definition finds it
    abbrev place : Place
    place = place_after (place_at (lead (up_to stop r))) (length (from solid (up_to (is ":") r)) + 1 + lead (trim_end (up_to stop behind)))

    value_place_lem : any solid (up_to stop behind) ≡ true → place ≡ value_start r
    unfolding lead
    value_place_lem k =
        ap place_at
        (omega (arith, field_size, start_told, ap length (up_to_end solid (λ x s. s) (up_to stop behind) k), ap length (up_to_first stop solid stop_solid behind)))

    -- The kind of a line with a colon.
    pub kind_colon : kind_of (line_text r) ≡ field_kind (trim (up_to (is ":") r)) (value_start r) (value_at (value_start r) r)
    unfolding record_kind trim trim_end
    kind_colon =
        let field : List ℕ = trim (up_to (is ":") r) in
        let value : List ℕ = up_to stop behind in
        let same-value : field_kind field place (trim value) ≡ field_kind field (value_start r) (trim value)
        = split (any solid value) (λ k. ap (λ (p : Place). field_kind field p (trim value)) (value_place_lem k))
        (λ k. rw (from_none solid value k) (place_free field place (value_start r))) in
        rest_told
        ∙ record_rest (trim (up_to stop r)) (place_at (lead (up_to stop r))) (colon_trim (up_to stop r) ∙ h)
        ∙ rw (field_part, value_part, trim_from (up_to (is ":") r), trim_end_lem value, value_told_lem) same-value

    -- Its value begins inside the file.
    pub start_inside : (value_start r).offset ≤ length r
    unfolding lead
    start_inside =
        omega (
          arith,
          start_told,
          up_to_fits solid behind,
          occurs_fits r behind (length (up_to (is ":") r) + 1) (occurs_past (is ":") r (any_before (is ":") stop r h)),
        )

    -- What is examined of it ends inside of what stands in front of the first stop.
    pub value_within : (value_start r).offset + length (value_at (value_start r) r) ≤ length (up_to stop r)
    unfolding lead
    value_within =
        let seen : List ℕ = up_to stop r in
        let colon : ℕ = length (up_to (is ":") r) in
        let here : length (up_to (is ":") seen) ≡ colon = ap length (up_to_before (is ":") stop r h) in
        let inside : length (up_to (is ":") seen) < length seen
        = ltb-true (length (up_to (is ":") seen)) (length seen) (any_found (is ":") seen ∙ h) in
        let rest : drop (length (up_to (is ":") seen) + 1) seen ≡ up_to stop behind = drop_past (is ":") seen ∙ past_before (is ":") stop r h in
        omega (
          arith,
          start_told,
          ap length value_told_lem,
          here,
          inside,
          ap length rest,
          length-drop (length (up_to (is ":") seen) + 1) seen,
          trim_fits (up_to stop behind),
          ap length (up_to_first stop solid stop_solid behind),
        )
