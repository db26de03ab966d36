-- The value of a line stands in the line where its kind says, and is readable exactly where its kind says so. Assumes nothing.
use Prim.Native.Nat.{ℕ, ◌+◌, ◌≤◌, ◌<◌}
use mathlib.Core.Path.{◌≡◌, refl, ap, ◌∙◌}
use mathlib.Core.Bool.{Bool, true, false}
use mathlib.Core.List.{List, [], ◌∷◌, ◌++◌, tail}
use native.Mathlib.Omega.{arith}
use lib.ListN.{length}
use Rattle.lists.specs.Lists.{empty, any, up_to, from, same}
use Rattle.lists.specs.Occurs.{Occurs}
use Rattle.lists.proofs.Bools.{split}
use Rattle.lists.proofs.Places.{occurs_read, occurs_fits, occurs_in, occurs_in_front, occurs_front_in, occurs_front, occurs_up_to, occurs_from, occurs_past}
use Rattle.protocol.specs.declared.Place.{Place}
use Rattle.protocol.specs.declared.Side.{Side}
use Rattle.protocol.specs.declared.Agent.{Agent}
use Rattle.protocol.specs.declared.Pattern.{Pattern}
use Rattle.protocol.specs.declared.Kind.{Kind}
use Rattle.protocol.specs.Octets.{is, blank}
use Rattle.protocol.specs.Text.{octets, solid, lead, unless_at_end, trim_end, trim, octets_at}
use Rattle.protocol.specs.Lines.{place_at, place_after}
use Rattle.protocol.specs.Readable.{name_front, agent_name, readable_agent, readable_pattern}
use Rattle.protocol.specs.Kinds.{agent_at, pattern_at, is_field, field_kind, record_kind, rest_kind, uncommented, kind_of, place_of, length_of}

-- the n octets at place p lie inside the line, and pass the test f or not
pub record Read (f : List ℕ → Bool) (line : List ℕ) (p : Place) (n : ℕ) (b : Bool) : Type 0 where
  pub fits : p.offset + n ≤ length line
  pub told : f (octets_at line p n) ≡ b

-- what a kind says of its value
abbrev pub Says : List ℕ → Kind → Type 0
Says line Kind.Blank = Unit {0}
Says line Kind.Noise = Unit {0}
Says line Kind.Other = Unit {0}
Says line (Kind.Agent (Agent.Readable p n)) = Read readable_agent line p n true
Says line (Kind.Agent (Agent.Unreadable p n)) = Read readable_agent line p n false
Says line (Kind.Rule side Pattern.Empty) = Unit {0}
Says line (Kind.Rule side (Pattern.Readable p n)) = Read readable_pattern line p n true
Says line (Kind.Rule side (Pattern.Unreadable p n)) = Read readable_pattern line p n false × (0 < n)

-- without spaces and tabs at the end, a text is a front of itself
end_gone : (l : List ℕ) → (b : List ℕ) × (l ≡ trim_end l ++ b)
unfolding trim_end unless_at_end
end_gone [] = ([], refl)
end_gone (x ∷ l) = go (trim_end l) (end_gone l)
  where
    go : (t : List ℕ) → (b : List ℕ) × (l ≡ t ++ b) → (b : List ℕ) × (x ∷ l ≡ unless_at_end x t ++ b)
    go [] k = split (blank x) (λ e. rw e (x ∷ l, refl)) (λ e. rw e (l, refl))
    go (y ∷ t) k = (k.0, ap (λ (m : List ℕ). x ∷ m) k.1)

pub trimmed : (l : List ℕ) → Occurs l (lead l) (trim l)
unfolding trim lead
trimmed l =
    let s : List ℕ = from solid l in
    let front : Occurs s 0 (trim_end s) = rw (← (end_gone s).1) at (occurs_front (trim_end s) (end_gone s).0) in
    occurs_front_in l s (trim_end s) (length (up_to solid l)) (occurs_from solid l) front

-- the value v stands in the line at p
module _ (line v : List ℕ) (p : Place) (o : Occurs line p.offset v) where
  read : (f : List ℕ → Bool) (b : Bool) → f v ≡ b → Read f line p (length v) b
  unfolding octets_at
  read f b e = record { fits = occurs_fits line v p.offset o; told = ap f (occurs_read line v p.offset o) ∙ e }

says_agent : (line v : List ℕ) (p : Place) → Occurs line p.offset v → Says line (Kind.Agent (agent_at p v))
unfolding agent_at octets_at readable_agent agent_name name_front same octets up_to
says_agent line [] p o = record { fits = omega arith; told = refl }
says_agent line (c ∷ v) p o =
    split (readable_agent (c ∷ v)) (λ e. rw e (read line (c ∷ v) p o readable_agent true e))
    (λ e. rw e (read line (c ∷ v) p o readable_agent false e))

says_rule : (line v : List ℕ) (p : Place) (side : Side) → Occurs line p.offset v → Says line (Kind.Rule side (pattern_at p v))
unfolding pattern_at
says_rule line [] p side o = tt
says_rule line (c ∷ v) p side o =
    split (readable_pattern (c ∷ v)) (λ e. rw e (read line (c ∷ v) p o readable_pattern true e))
    (λ e. rw e (read line (c ∷ v) p o readable_pattern false e, omega arith))

says_field : (line field v : List ℕ) (p : Place) → Occurs line p.offset v → Says line (field_kind field p v)
unfolding field_kind
says_field line field v p o =
    split (is_field "user-agent" field) (λ a. rw a (says_agent line v p o))
    (λ a. split (is_field "allow" field) (λ b. rw (a, b) (says_rule line v p Side.Allow o))
    (λ b. split (is_field "disallow" field) (λ c. rw (a, b, c) (says_rule line v p Side.Disallow o)) (λ c. rw (a, b, c) tt)))

-- behind the colon
says_record : (line l : List ℕ) (p : Place) → Occurs line p.offset l → any (is ":") l ≡ true → Says line (record_kind p l)
unfolding record_kind
says_record line l p o h =
    let field : List ℕ = up_to (is ":") l in
    let value : List ℕ = tail (from (is ":") l) in
    let at : ℕ = length field + 1 in
    let k : p.offset + at + lead value ≡ p.offset + (at + lead value) = omega arith in
    let behind : Occurs line (p.offset + at) value = occurs_in line l value p.offset at o (occurs_past (is ":") l h) in
    let there : Occurs line (p.offset + (at + lead value)) (trim value)
    = rw k at (occurs_in line value (trim value) (p.offset + at) (lead value) behind (trimmed value)) in
    says_field line (trim field) (trim value) (place_after p (at + lead value)) there

says_rest : (line l : List ℕ) (p : Place) → Occurs line p.offset l → Says line (rest_kind p l)
unfolding rest_kind
says_rest line l p o =
    split (empty l) (λ a. rw a tt)
    (λ a. split (any (is ":") l) (λ b. rw (a, b) (says_record line l p o b)) (λ b. rw (a, b) tt))

-- The kind of a line says of its value what is so.
pub kind_says : (line : List ℕ) → Says line (kind_of line)
unfolding kind_of uncommented
kind_says line =
    let l : List ℕ = up_to (is "#") line in
    says_rest line (trim l) (place_at (lead l)) (occurs_in_front line l (trim l) (lead l) (occurs_up_to (is "#") line) (trimmed l))

-- The value of a line lies inside the line.
pub value_inside : (line : List ℕ) → (place_of (kind_of line)).offset + length_of (kind_of line) ≤ length line
value_inside line = go (kind_of line) (kind_says line)
  where
    go : (k : Kind) → Says line k → (place_of k).offset + length_of k ≤ length line
    go Kind.Blank h = omega arith
    go Kind.Noise h = omega arith
    go Kind.Other h = omega arith
    go (Kind.Agent (Agent.Readable p n)) h = h.fits
    go (Kind.Agent (Agent.Unreadable p n)) h = h.fits
    go (Kind.Rule side Pattern.Empty) h = omega arith
    go (Kind.Rule side (Pattern.Readable p n)) h = h.fits
    go (Kind.Rule side (Pattern.Unreadable p n)) h = h.0.fits
