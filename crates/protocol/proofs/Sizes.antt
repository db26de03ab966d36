-- How long a normalised path and a pattern's weight can be. Assumes nothing.
use Rattle.std.specs.Prelude.{if◌then◌else◌}
use Prim.Native.Nat.{ℕ, zero, suc, ◌+◌, ◌*◌, ◌≤◌}
use Prim.Native.Char.{code}
use mathlib.Core.Path.{◌≡◌, refl}
use mathlib.Core.Bool.{Bool, true, false, false≢true}
use mathlib.Core.List.{List, [], ◌∷◌, drop_last}
use native.Mathlib.Omega.{arith}
use lib.ListN.{length, length-append}
use borrow.Author.Tests.{eqb-true, eqb-false, ne_eqb}
use Rattle.lists.proofs.Bools.{split}
use Rattle.protocol.specs.declared.Dialect.{Dialect}
use Rattle.protocol.specs.Octets.{unreserved}
use Rattle.protocol.specs.Text.{begins, ends}
use Rattle.protocol.specs.Normal.{encoded, meant, escape, is_escape, escape_at, special, is_encoded, plain, replacement, normal, normal_path}
use Rattle.protocol.specs.Pattern.{raw_text, shape_of, shape_in, weight}

escape_size : (l : List ℕ) → length (escape_at l) ≤ 3
unfolding escape_at escape
escape_size [] = omega arith
escape_size (d ∷ []) = omega arith
escape_size (d ∷ e ∷ l) = split (unreserved (meant d e)) (λ h. rw h (omega arith)) (λ h. rw h (omega arith))

plain_size : (stars : Bool) (c : ℕ) → length (plain stars c) ≤ 3
unfolding plain encoded
plain_size stars c =
    split (is_encoded stars c) (λ h. rw h (omega arith)) (λ h. rw h (omega arith))

replacement_size : (stars : Bool) (c : ℕ) (l : List ℕ) → length (replacement stars c l) ≤ 3
unfolding replacement
replacement_size stars c l = split (is_escape c l) (λ h. rw h (escape_size l)) (λ h. rw h (plain_size stars c))

-- three octets for each
pub normal_size : (stars : Bool) (n : ℕ) (l : List ℕ) → length (normal stars n l) ≤ 3 * length l
unfolding normal
normal_size stars n [] = omega arith
normal_size stars zero (c ∷ l) =
    let n : ℕ = if is_escape c l then 2 else 0 in
    omega (arith, length-append (replacement stars c l) (normal stars n l), replacement_size stars c l, normal_size stars n l)
normal_size stars (suc n) (c ∷ l) = omega (arith, normal_size stars n l)

-- only "%" begins an escape
pub no_percent : (x : ℕ) (l : List ℕ) → (x ≡ code "%" → ⊥) → is_escape x l ≡ false
unfolding is_escape
no_percent x [] h = refl
no_percent x (d ∷ []) h = refl
no_percent x (d ∷ e ∷ l) h = rw (ne_eqb x (code "%") h)

-- A path that begins with "/" has at most three times its octets, less two: the "/" is one octet.
pub path_size : (path : List ℕ) → begins "/" path ≡ true → length (normal_path path) + 2 ≤ 3 * length path
unfolding begins normal_path normal replacement plain special
path_size [] h = absurd (false≢true h)
path_size (c ∷ l) h = rw (eqb-true c (code "/") h, no_percent (code "/") l (eqb-false (code "/") (code "%") refl)) (omega (arith, normal_size false 0 l))

-- "a 2,048-octet path (at most 6,142 normalised)"
pub path_limit : (path : List ℕ) → begins "/" path ≡ true → length path ≤ 2_048 → length (normal_path path) ≤ 6_142
path_limit path h k = omega (arith, path_size path h)

last_gone : (l : List ℕ) → ends "$" l ≡ true → length (drop_last l) + 1 ≡ length l
unfolding ends
last_gone [] h = absurd (false≢true h)
last_gone (c ∷ []) h = omega arith
last_gone (c ∷ d ∷ l) h = omega (arith, last_gone (d ∷ l) h)

-- an end mark is one octet
pub end_mark_length : (raw : List ℕ) → length (raw_text raw) + (if ends "$" raw then 1 else 0) ≡ length raw
unfolding raw_text
end_mark_length raw = split (ends "$" raw) (λ h. rw h (last_gone raw h)) (λ h. rw h (omega arith))

-- A pattern weighs at most three times its raw octets,
pub weight_size : (raw : List ℕ) → weight (shape_of raw) ≤ 3 * length raw
unfolding weight shape_of
weight_size raw = omega (arith, normal_size true 0 (raw_text raw), end_mark_length raw)

-- in both dialects.
pub weight_in_size : (d : Dialect) (raw : List ℕ) → weight (shape_in d raw) ≤ 3 * length raw
unfolding weight shape_in normal_path
weight_in_size Dialect.Rfc9309 raw = weight_size raw
weight_in_size Dialect.Draft1996 raw = omega (arith, normal_size false 0 raw)
