-- One rule of a table, and who leads after it; and the rules behind it. Assumes nothing.
use Rattle.std.proofs.Common.{ℕ, ◌≡◌, ◌+◌, ◌≤◌, true, false, List, [], ◌∷◌, drop, length, length-drop, refl, arith, ◌<◌, sym}
use Rattle.std.proofs.Math.Seq.{length-take-le}
use Rattle.std.proofs.Math.ListN.{get_or, drop_of_length-le}
use Rattle.std.proofs.lemmas.List.{at_drop_more}
use Rattle.protocol.specs.declared.Dialect.{Dialect}
use Rattle.protocol.specs.declared.Rule.{Rule}
use Rattle.protocol.specs.Text.{octets_at}
use Rattle.protocol.specs.Decision.{pattern_of}
use Rattle.protocol.specs.Answers.{side_number}
use Rattle.walk.specs.Weights.{weighed}
use Rattle.tables.specs.declared.Kept.{Kept}
use Rattle.tables.specs.Tables.{rules_of}
use Rattle.leading.specs.declared.Leader.{Leader}
use Rattle.leading.specs.Leading.{outdoes, settled, led, led_all}

-- a pattern is no longer than the file that it stands in
pub pattern_few : (file : List ℕ) (r : Rule) → r.place.offset + r.length ≤ length file → length (pattern_of file r) ≤ length file
unfolding octets_at
pattern_few file r inside =
    omega (arith, length-drop r.place.offset file, length-take-le r.length (drop r.place.offset file) (omega (arith, length-drop r.place.offset file, inside)), inside)

-- who leads after a rule that is walked
module _ (d : Dialect) (file path : List ℕ) (l : Leader) (r : Rule) (w : ℕ) (h : w ≡ (weighed d (pattern_of file r) path).weight) (e : settled d l ≡ false) where
  pub led_taken : outdoes w (side_number r.side) l ≡ true → record { weight = w; side = side_number r.side; line = r.line } ≡ led d file path l r
  unfolding led
  led_taken t = rw (e, ← h, t)

  pub led_passed : outdoes w (side_number r.side) l ≡ false → l ≡ led d file path l r
  unfolding led
  led_passed t = rw (e, ← h, t)

-- the rules of a table from place i on
module _ (d : Dialect) (file path : List ℕ) (l : Leader) (t : List Kept) (i : ℕ) where
  pub led_next : (k : Kept) → i < length t → led_all d file path (led d file path l (get_or t i k).rule) (rules_of (drop (i + 1) t)) ≡ led_all d file path l (rules_of (drop i t))
  unfolding led_all
  led_next k h = sym (at_drop_more (λ (u : List Kept). led_all d file path l (rules_of u)) t i k h)

  pub led_end : length t ≤ i → led_all d file path l (rules_of (drop i t)) ≡ l
  unfolding led_all
  led_end h = rw (drop_of_length-le t {i = i} h)

-- where no further rule is walked, the leader stays
pub led_settled : (d : Dialect) (file path : List ℕ) (l : Leader) (rs : List Rule) → settled d l ≡ true → led_all d file path l rs ≡ l
unfolding led_all led
led_settled d file path l [] e = refl
led_settled d file path l (r ∷ rs) e = rw e (led_settled d file path l rs e)
