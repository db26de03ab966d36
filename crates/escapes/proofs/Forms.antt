-- Which form a replacement takes: kept, encoded or an escape. Assumes nothing.
use Rattle.std.specs.Prelude.{if◌then◌else◌}
use Prim.Native.Nat.{ℕ}
use Prim.Native.Char.{code}
use mathlib.Core.Path.{◌≡◌, refl, sym, ◌∙◌}
use mathlib.Core.Bool.{Bool, true, false, true≢false}
use mathlib.Core.List.{List, [], ◌∷◌}
use native.Mathlib.Omega.{arith}
use lib.Dec.{leb}
use lib.ListN.{length, drop, get_or}
use borrow.Author.Tests.{not-true, not-false, le-leb}
use Rattle.std.proofs.Common.{Some, None}
use Rattle.lists.proofs.Bools.{split}
use Rattle.protocol.specs.Octets.{unreserved, hex}
use Rattle.protocol.specs.Normal.{encoded, meant, escape, is_escape, escape_at, is_encoded, plain, replacement}
use Rattle.protocol.proofs.Sizes.{no_percent}
use Rattle.protocol.proofs.Plain.{escape_hex}
use Rattle.escapes.specs.Escapes.{kept, changed, meant_by}
use Rattle.escapes.proofs.Sorts.{escape_encoded}

percent_not_kept : (stars : Bool) (x : ℕ) → x ≡ code "%" → kept stars x ≡ false
percent_not_kept stars x h = rw h

-- an octet that stays begins no escape
pub kept_alone : (stars : Bool) (x : ℕ) (l : List ℕ) → kept stars x ≡ true → is_escape x l ≡ false
kept_alone stars x l h = no_percent x l (λ e. true≢false (sym h ∙ percent_not_kept stars x e))

pub replacement_kept : (stars : Bool) (x : ℕ) (l : List ℕ) → kept stars x ≡ true → replacement stars x l ≡ x ∷ []
unfolding replacement plain
replacement_kept stars x l h = rw (kept_alone stars x l h, not-true (is_encoded stars x) h)

-- the octet meant, where the octets are told apart
three : (c d e : ℕ) (l : List ℕ) → meant_by (c ∷ d ∷ e ∷ l) ≡ (if is_escape c (d ∷ e ∷ l) then Some (meant d e) else None)
unfolding is_escape
three c d e l = let h : leb 3 (length (c ∷ d ∷ e ∷ l)) ≡ true = le-leb 3 (length (c ∷ d ∷ e ∷ l)) (omega arith) in rw h

-- an escape begins the text where an octet is meant
pub means_escape : (s : List ℕ) (y : ℕ) → meant_by s ≡ Some y → is_escape (get_or s 0 0) (drop 1 s) ≡ true
means_escape [] y h = cc
means_escape (c ∷ []) y h = cc
means_escape (c ∷ d ∷ []) y h = cc
means_escape (c ∷ d ∷ e ∷ l) y h = split (is_escape c (d ∷ e ∷ l)) (λ k. k) (λ k. cc (rw k at (three c d e l)))

-- and none where none is
pub means_none : (s : List ℕ) → meant_by s ≡ None → is_escape (get_or s 0 0) (drop 1 s) ≡ false
unfolding is_escape
means_none [] h = refl
means_none (c ∷ []) h = refl
means_none (c ∷ d ∷ []) h = refl
means_none (c ∷ d ∷ e ∷ l) h = split (is_escape c (d ∷ e ∷ l)) (λ k. cc (rw k at (three c d e l))) (λ k. k)

-- an escape is the octet meant, encoded where it isn't unreserved
escape_meant : (d e : ℕ) → hex d ≡ true → hex e ≡ true → escape d e ≡ (if unreserved (meant d e) then meant d e ∷ [] else encoded (meant d e))
unfolding escape
escape_meant d e h k = split (unreserved (meant d e)) (λ u. rw u) (λ u. rw u (rw u at (escape_encoded d e h k u)))

changed_meant : (s : List ℕ) (y : ℕ) → meant_by s ≡ Some y → changed (get_or s 0 0) (drop 1 s) ≡ (if unreserved y then y ∷ [] else encoded y)
unfolding escape_at
changed_meant [] y h = cc
changed_meant (c ∷ []) y h = cc
changed_meant (c ∷ d ∷ []) y h = cc
changed_meant (c ∷ d ∷ e ∷ l) y h =
    let k : is_escape c (d ∷ e ∷ l) ≡ true = means_escape (c ∷ d ∷ e ∷ l) y h in
    let x = escape_hex c d e l k in
    let m : meant d e ≡ y = cc (rw k at (three c d e l)) in
    rw (k, ← m) (escape_meant d e x.0 x.1)

pub changed_decoded : (s : List ℕ) (y : ℕ) → meant_by s ≡ Some y → unreserved y ≡ true → changed (get_or s 0 0) (drop 1 s) ≡ y ∷ []
changed_decoded s y h u = rw u at (changed_meant s y h)

pub changed_again : (s : List ℕ) (y : ℕ) → meant_by s ≡ Some y → unreserved y ≡ false → changed (get_or s 0 0) (drop 1 s) ≡ encoded y
changed_again s y h u = rw u at (changed_meant s y h)

pub changed_alone : (s : List ℕ) → meant_by s ≡ None → changed (get_or s 0 0) (drop 1 s) ≡ encoded (get_or s 0 0)
changed_alone s h = rw (means_none s h)

-- where the octet doesn't stay as it is, that is its replacement
pub changed_is : (stars : Bool) (x : ℕ) (l : List ℕ) → kept stars x ≡ false → changed x l ≡ replacement stars x l
unfolding replacement plain
changed_is stars x l k = rw (not-false (is_encoded stars x) k)
