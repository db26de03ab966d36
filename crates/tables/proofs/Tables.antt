-- What stands in a table once a rule is kept: those in front of it, and it. Assumes nothing.
use Rattle.std.proofs.Common.{ℕ, ◌≡◌, ◌+◌, ◌≤◌, ◌<◌, List, [], ◌∷◌, ◌++◌, take, length, ap, ◌∙◌, subst, sym, arith}
use Prim.Native.Nat.{suc}
use lib.Seq.{sets}
use Rattle.std.specs.List.{All}
use Rattle.std.proofs.Math.ListN.{set, length-set}
use Rattle.std.proofs.lemmas.List.{take_more_set, map-append}
use Rattle.std.proofs.lemmas.List.Elements.{All-append, All-cons, All-nil}
use Rattle.protocol.specs.declared.Rule.{Rule}
use Rattle.protocol.specs.Decision.{pattern_of}
use Rattle.tables.specs.declared.Kept.{Kept}
use Rattle.tables.specs.Tables.{front_of, kept_of, rules_of, rules_from, SoundKept, Sound}

-- a rule that is kept behind n rules
module _ (t : List Kept) (n : ℕ) (r : Rule) (pattern : List ℕ) (room : n < length t) where
  abbrev after : List Kept
  after = set t n (kept_of r pattern)

  -- Behind those that were there stands the rule that is kept.
  pub kept_more : rules_from 0 (n + 1) after ≡ rules_from 0 n t ++ (r ∷ [])
  kept_more = ap rules_of (take_more_set t n (kept_of r pattern) room) ∙ map-append _ (take n t) (kept_of r pattern ∷ [])

  -- The rules of the table are still kept as those of the file are.
  module _ (file : List ℕ) (inside : r.place.offset + r.length ≤ length file) (known : pattern ≡ pattern_of file r) where
    pub kept_sound : Sound file n t → Sound file (n + 1) after
    kept_sound (few, all) = (
      omega (arith, room, length-set t n (kept_of r pattern)),
      subst (All (SoundKept file)) (sym (take_more_set t n (kept_of r pattern) room))
          (All-append (SoundKept file) (take n t) (kept_of r pattern ∷ []) all (All-cons (SoundKept file) _ [] (record { inside = inside; front = ap front_of known }) (All-nil (SoundKept file)))),
    )

-- five stores, one behind the other
pub stored : (t : List ℕ) (k a b c d e : ℕ)
    → set (set (set (set (set t k a) (k + 1) b) (k + 2) c) (k + 3) d) (k + 4) e ≡ sets t k (a ∷ b ∷ c ∷ d ∷ e ∷ [])
stored t k a b c d e =
    let one : k + 1 ≡ suc k = omega arith in
    let two : k + 2 ≡ suc (suc k) = omega arith in
    let three : k + 3 ≡ suc (suc (suc k)) = omega arith in
    let four : k + 4 ≡ suc (suc (suc (suc k))) = omega arith in
    rw (one, two, three, four)
