-- The octets that tell a line's parts apart: colons, stops, spaces and tabs, and the others, of which names are made. Assumes nothing.
use Prim.Native.Nat.{ℕ, ◌+◌, ◌<◌}
use mathlib.Core.Path.{◌≡◌, refl, sym, ap, ◌∙◌}
use mathlib.Core.Bool.{Bool, true, false, ◌||◌, not, false≢true}
use native.Mathlib.Omega.{arith}
use lib.Dec.{eqb}
use borrow.Author.Tests.{eqb-true, ne_eqb}
use Rattle.lists.proofs.Bools.{split}
use Rattle.protocol.specs.Octets.{is, blank, line_end, lower_case}
use Rattle.protocol.specs.Text.{solid}
use Rattle.protocol.proofs.Texts.{either_case}
use Rattle.protocol.specs.Classes.{stop}

pub stop_solid : (x : ℕ) → stop x ≡ true → solid x ≡ true
unfolding stop line_end blank
stop_solid x h =
    split (is "#" x) (λ e. rw (eqb-true x 35 e))
    (λ e.
    split (is "\r" x) (λ d. rw (eqb-true x 13 d))
    (λ d. let n : is "\n" x ≡ true = rw (e, d) at h in rw (eqb-true x 10 n)))

pub colon_solid : (x : ℕ) → is ":" x ≡ true → solid x ≡ true
unfolding blank
colon_solid x h = rw (eqb-true x 58 h)

pub colon_on : (x : ℕ) → is ":" x ≡ true → stop x ≡ false
unfolding stop line_end
colon_on x h = rw (eqb-true x 58 h)

-- an octet past all of them
pub past_stop : (x : ℕ) → 35 < x → stop x ≡ false
unfolding stop line_end
past_stop x h = rw (ne_eqb x 35 (λ e. omega arith), ne_eqb x 13 (λ e. omega arith), ne_eqb x 10 (λ e. omega arith))

pub past_blank : (x : ℕ) → 32 < x → blank x ≡ false
unfolding blank
past_blank x h = rw (ne_eqb x 32 (λ e. omega arith), ne_eqb x 9 (λ e. omega arith))

-- an octet of a field's name
abbrev pub plain : ℕ → Bool
plain x = not (is ":" x || (stop x || blank x))

past_plain : (x : ℕ) → 58 < x → plain x ≡ true
past_plain x h = rw (ne_eqb x 58 (λ e. omega arith), past_stop x (omega arith), past_blank x (omega arith))

-- in either case
plain_case : (x : ℕ) → plain (lower_case x) ≡ plain x
plain_case = either_case plain (λ x l h. past_plain (x + 32) (omega arith) ∙ sym (past_plain x (omega arith)))

-- it is none of the others
pub record Plain (x : ℕ) : Type 0 where
  pub colon : is ":" x ≡ false
  pub stops : stop x ≡ false
  pub blanks : blank x ≡ false

plain_known : (x : ℕ) → plain x ≡ true → Plain x
plain_known x h = go (is ":" x) (stop x) (blank x) refl refl refl h
  where
    go : (a b c : Bool) → is ":" x ≡ a → stop x ≡ b → blank x ≡ c → not (a || (b || c)) ≡ true → Plain x
    go true b c p q s k = absurd (false≢true k)
    go false true c p q s k = absurd (false≢true k)
    go false false true p q s k = absurd (false≢true k)
    go false false false p q s k = record { colon = p; stops = q; blanks = s }

pub plain_same : (x y : ℕ) → eqb (lower_case x) (lower_case y) ≡ true → plain y ≡ true → Plain x
plain_same x y e h =
    plain_known x (sym (plain_case x) ∙ ap plain (eqb-true (lower_case x) (lower_case y) e) ∙ plain_case y ∙ h)
