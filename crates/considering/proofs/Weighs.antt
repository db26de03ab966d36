-- A pattern that isn't empty weighs at least 1, and so does a readable one. Assumes nothing.
use Rattle.std.specs.Prelude.{if◌then◌else◌}
use Prim.Native.Nat.{ℕ, ◌≤◌}
use mathlib.Core.Path.{◌≡◌, refl, sym, ◌∙◌}
use mathlib.Core.Bool.{Bool, true, false, false≢true}
use mathlib.Core.List.{List, [], ◌∷◌}
use native.Mathlib.Omega.{arith}
use lib.ListN.{length, length-append}
use Rattle.lists.specs.Lists.{kept}
use Rattle.lists.specs.Each.{Each}
use Rattle.lists.proofs.Bools.{split}
use Rattle.protocol.specs.declared.Dialect.{Dialect}
use Rattle.protocol.specs.Octets.{unreserved}
use Rattle.protocol.specs.Text.{begins, ends}
use Rattle.protocol.specs.Readable.{pattern_start, readable_pattern}
use Rattle.protocol.specs.Normal.{encoded, meant, escape, is_escape, escape_at, is_encoded, plain, replacement, normal, normal_path}
use Rattle.protocol.specs.Pattern.{raw_text, shape_of, shape_in, weight}
use Rattle.protocol.specs.declared.Rule.{Rule}
use Rattle.protocol.specs.Decision.{pattern_of, readable_rules, weight_in}

escape_some : (c : ℕ) (l : List ℕ) → is_escape c l ≡ true → 1 ≤ length (escape_at l)
unfolding is_escape escape_at escape
escape_some c [] h = absurd (false≢true h)
escape_some c (d ∷ []) h = absurd (false≢true h)
escape_some c (d ∷ e ∷ l) h = split (unreserved (meant d e)) (λ u. rw u (omega arith)) (λ u. rw u (omega arith))

plain_some : (stars : Bool) (c : ℕ) → 1 ≤ length (plain stars c)
unfolding plain encoded
plain_some stars c = split (is_encoded stars c) (λ e. rw e (omega arith)) (λ e. rw e (omega arith))

replacement_some : (stars : Bool) (c : ℕ) (l : List ℕ) → 1 ≤ length (replacement stars c l)
unfolding replacement
replacement_some stars c l = split (is_escape c l) (λ e. rw e (escape_some c l e)) (λ e. rw e (plain_some stars c))

normal_some : (stars : Bool) (c : ℕ) (l : List ℕ) → 1 ≤ length (normal stars 0 (c ∷ l))
unfolding normal
normal_some stars c l =
    let rest = normal stars (if is_escape c l then 2 else 0) l in
    omega (arith, length-append (replacement stars c l) rest, replacement_some stars c l)

-- Whatever a pattern begins with, it weighs something, in both dialects.
pub some_weight : (d : Dialect) (c : ℕ) (l : List ℕ) → 1 ≤ weight (shape_in d (c ∷ l))
unfolding weight shape_in shape_of raw_text normal_path
some_weight Dialect.Rfc9309 c l =
    split (ends "$" (c ∷ l)) (λ e. rw e (omega arith)) (λ e. rw e (omega (arith, normal_some true c l)))
some_weight Dialect.Draft1996 c l = omega (arith, normal_some false c l)

-- an empty pattern isn't readable
pub empty_unreadable : readable_pattern [] ≡ false
unfolding readable_pattern pattern_start begins
empty_unreadable = refl

readable_weight : (d : Dialect) (p : List ℕ) → readable_pattern p ≡ true → 1 ≤ weight (shape_in d p)
readable_weight d [] h = absurd (false≢true (sym empty_unreadable ∙ h))
readable_weight d (c ∷ l) h = some_weight d c l

abbrev pub Weighs : Dialect → List ℕ → Rule → Type 0
Weighs d file r = 1 ≤ weight_in d file r

-- Readable rules weigh at least 1.
pub rules_weigh : (d : Dialect) (file : List ℕ) (rs : List Rule) → Each (Weighs d file) (readable_rules file rs)
unfolding readable_rules kept weight_in
rules_weigh d file [] = tt
rules_weigh d file (r ∷ rs) =
    split (readable_pattern (pattern_of file r)) (λ e. rw e (readable_weight d (pattern_of file r) e, rules_weigh d file rs))
    (λ e. rw e (rules_weigh d file rs))
