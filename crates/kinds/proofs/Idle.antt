-- The kind of a line without a field that is known, by its first colon or stop. Assumes nothing.
use Rattle.std.specs.Prelude.{None, if◌then◌else◌}
use Prim.Native.Nat.{ℕ, ◌-◌}
use mathlib.Core.Path.{◌≡◌, refl, sym, ap, ◌∙◌}
use mathlib.Core.Bool.{true, false}
use mathlib.Core.List.{List, [], ◌∷◌}
use lib.ListN.{length, take, drop}
use Rattle.lists.specs.Lists.{empty, any, up_to, from}
use Rattle.lists.proofs.Bools.{split}
use Rattle.lists.proofs.Scans.{drop_up_to}
use Rattle.lists.proofs.Tests.{empty_none, empty_some}
use Rattle.protocol.specs.declared.Kind.{Kind}
use Rattle.protocol.specs.Octets.{is}
use Rattle.protocol.specs.Text.{begins, solid, lead, trim_end, trim}
use Rattle.protocol.specs.Lines.{line_text}
use Rattle.protocol.specs.Kinds.{kind_of}
use Rattle.protocol.specs.Classes.{stop, delimiter}
use Rattle.fields.specs.Fields.{field_of, ended}
use Rattle.lists.proofs.Cuts.{up_to_none, up_to_either, up_to_past, any_past}
use Rattle.fields.proofs.Ends.{end_empty}
use Rattle.fields.proofs.Reading.{kind_idle}
use Rattle.fields.proofs.Heads.{past_start, kind_other}
use Rattle.fields.proofs.Sorts.{stop_solid, colon_solid, colon_on}

-- a colon is examined exactly where the first colon or stop is one
colon_first : (t : List ℕ) → any (is ":") (up_to stop t) ≡ begins ":" (from delimiter t)
unfolding any up_to from begins delimiter
colon_first [] = refl
colon_first (x ∷ t) =
    split (is ":" x) (λ e. rw (colon_on x e, e, e))
    (λ e. split (stop x) (λ s. rw (e, s, e)) (λ s. rw (s, e) (colon_first t)))

module _ (r : List ℕ) (start n : ℕ) (s : start ≡ lead r) (k : n ≡ length (up_to delimiter (take (length r - start) (drop start r)))) where
  abbrev pub rest : List ℕ
  rest = take (length r - start) (drop start r)

  delimiter_told : n ≡ length (up_to delimiter (from solid r))
  delimiter_told = k ∙ ap (λ (l : List ℕ). length (up_to delimiter l)) (past_start r start s)

  colon_told : any (is ":") (up_to stop r) ≡ begins ":" (drop n rest)
  colon_told =
      let t : List ℕ = from solid r in
      sym (ap (any (is ":")) (up_to_past stop solid stop_solid r) ∙ any_past (is ":") solid colon_solid (up_to stop r))
      ∙ colon_first t
      ∙ ap (begins ":") (sym (ap (λ (i : ℕ). drop i t) delimiter_told ∙ drop_up_to delimiter t) ∙ ap (drop n) (sym (past_start r start s)))

  pub idle_other : begins ":" (drop n rest) ≡ true → field_of (kind_of (line_text r)) ≡ None → Kind.Other ≡ kind_of (line_text r)
  idle_other e o = kind_other r (colon_told ∙ e) o

  module _ (e : begins ":" (drop n rest) ≡ false) where
    left_told : empty (trim (up_to stop r)) ≡ empty (up_to delimiter (from solid r))
    unfolding trim delimiter
    left_told =
        let t : List ℕ = from solid r in
        let none : any (is ":") (up_to stop t) ≡ false
        = ap (any (is ":")) (up_to_past stop solid stop_solid r) ∙ any_past (is ":") solid colon_solid (up_to stop r) ∙ colon_told ∙ e in
        ap (λ (l : List ℕ). empty (trim_end l)) (sym (up_to_past stop solid stop_solid r))
        ∙ end_empty stop r
        ∙ ap empty (sym (up_to_none (is ":") (up_to stop t) none) ∙ up_to_either (is ":") stop t)

    idle_told : kind_of (line_text r) ≡ (if empty (up_to delimiter (from solid r)) then Kind.Blank else Kind.Noise)
    idle_told = kind_idle r (colon_told ∙ e) ∙ rw left_told

    pub idle_blank : n ≡ 0 → Kind.Blank ≡ kind_of (line_text r)
    idle_blank z = sym (idle_told ∙ rw (empty_none (up_to delimiter (from solid r)) (sym delimiter_told ∙ z)))

    pub idle_noise : (n ≡ 0 → ⊥) → Kind.Noise ≡ kind_of (line_text r)
    idle_noise z = sym (idle_told ∙ rw (empty_some (up_to delimiter (from solid r)) (λ d. z (delimiter_told ∙ d))))

-- A line that begins with what ends it is blank.
none_examined : (r : List ℕ) → ended r ≡ true → up_to stop r ≡ []
unfolding up_to
none_examined [] e = refl
none_examined (x ∷ l) e = rw e

pub ended_blank : (r : List ℕ) → ended r ≡ true → Kind.Blank ≡ kind_of (line_text r)
unfolding any trim trim_end from
ended_blank r e = let none : up_to stop r ≡ [] = none_examined r e in sym (kind_idle r (rw none) ∙ rw none)
