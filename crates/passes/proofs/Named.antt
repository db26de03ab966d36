-- Whom the value that a text begins with names, told from the text. Assumes nothing.
use Prim.Native.Nat.{ℕ, ◌+◌, ◌≤◌, ◌<◌}
use mathlib.Core.Path.{◌≡◌, refl, sym, ap, ◌∙◌}
use mathlib.Core.Bool.{true, false, true≢false}
use mathlib.Core.List.{List, [], ◌∷◌}
use native.Mathlib.Omega.{arith}
use lib.Dec.{eqb, leb}
use lib.ListN.{length, take, drop, get_or}
use borrow.Author.Tests.{eqb-true, leb-true, ne_eqb}
use Rattle.lists.specs.Lists.{empty, all, up_to, from, same}
use Rattle.lists.proofs.Bools.{split, and_left}
use Rattle.lists.proofs.Tests.{same_equal}
use Rattle.protocol.specs.Octets.{within, upper, lower, token, blank, line_end}
use Rattle.protocol.specs.declared.Kind.{Kind}
use Rattle.protocol.specs.declared.Place.{Place}
use Rattle.protocol.specs.Text.{octets, octets_at, solid, unless_at_end, trim_end}
use Rattle.protocol.specs.Classes.{stop}
use Rattle.protocol.specs.Kinds.{agent_at}
use Rattle.protocol.specs.Entries.{place_in_file}
use Rattle.protocol.specs.Readable.{everyone, name_front, agent_name, readable_agent, names}
use Rattle.fields.specs.Fields.{ended}
use Rattle.readable.proofs.Naming.{names_named}
use Rattle.fields.proofs.Ends.{solid_stays}
use Rattle.fields.proofs.Sorts.{past_stop, past_blank}
use Rattle.kinds.specs.Entries.{value_front}
use Rattle.kinds.proofs.Fronts.{value_read}
use Rattle.kinds.proofs.Values.{value_empty}
use Rattle.passes.specs.Entries.{line_value}

-- "*" with spaces and tabs up to the end behind it
star_first : (l : List ℕ) → same (value_front (42 ∷ l)) everyone ≡ ended (from solid l)
unfolding up_to trim_end stop line_end blank octets same
star_first l = rw (solid_stays 42 (trim_end (up_to stop l)) refl) (alone (trim_end (up_to stop l)) ∙ value_empty l)
  where
    alone : (t : List ℕ) → same (42 ∷ t) everyone ≡ empty t
    alone [] = refl
    alone (x ∷ t) = refl

-- a value that begins with another octet, or is empty
other_first : (x : ℕ) (t : List ℕ) → (x ≡ 42 → ⊥) → same (unless_at_end x t) everyone ≡ false
unfolding unless_at_end octets same
other_first x [] d = split (blank x) (λ b. rw b) (λ b. rw (b, ne_eqb x 42 d))
other_first x (y ∷ t) d = rw (ne_eqb x 42 d)

star_not : (x : ℕ) (l : List ℕ) → (x ≡ 42 → ⊥) → same (value_front (x ∷ l)) everyone ≡ false
unfolding up_to trim_end octets same
star_not x l d = split (stop x) (λ s. rw s) (λ s. rw s (other_first x (trim_end (up_to stop l)) d))

-- an octet of a name is neither a stop nor a space or tab
token_high : (x : ℕ) → token x ≡ true → 45 ≤ x
unfolding token upper lower
token_high x h =
    split (within 65 90 x) (λ e. omega (arith, leb-true 65 x (and_left (leb 65 x) (leb x 90) e)))
    (λ e.
    split (within 97 122 x) (λ f. omega (arith, leb-true 97 x (and_left (leb 97 x) (leb x 122) f)))
    (λ f.
    split (eqb x 45) (λ g. omega (arith, eqb-true x 45 g))
    (λ g. omega (arith, eqb-true x 95 (rw (e, f, g) at h)))))

other_front : (x : ℕ) (t : List ℕ) → token x ≡ false → name_front (unless_at_end x t) ≡ []
unfolding name_front up_to unless_at_end
other_front x [] e = split (blank x) (λ b. rw b) (λ b. rw (b, e))
other_front x (y ∷ t) e = rw e

-- the longest beginning of a name's octets is that of the text
front_value : (l : List ℕ) → name_front (value_front l) ≡ name_front l
unfolding name_front up_to trim_end
front_value [] = refl
front_value (x ∷ l) =
    split (token x)
    (λ e.
    let high = token_high x e in
    rw (past_stop x (omega (arith, high)), solid_stays x (trim_end (up_to stop l)) (past_blank x (omega (arith, high))), e)
    (ap (λ (m : List ℕ). x ∷ m) (front_value l)))
    (λ e. rw e (split (stop x) (λ s. rw s) (λ s. rw s (other_front x (trim_end (up_to stop l)) e))))

-- a text that is "*" alone has that value
star_alone : (l : List ℕ) → same (value_front l) everyone ≡ false → same l everyone ≡ false
unfolding octets up_to trim_end unless_at_end stop line_end blank same
star_alone l h =
    split (same l everyone) (λ e. absurd (true≢false (ap (λ (m : List ℕ). same (value_front m) everyone) (sym ((same_equal l everyone).0 e)) ∙ h))) (λ e. e)

-- A value that isn't "*" names whom the text names; "*" only "*".
module _ (l : List ℕ) (h : same (value_front l) everyone ≡ false) where
  pub text_names : (who : List ℕ) → names l who ≡ names (value_front l) who
  unfolding names readable_agent agent_name
  text_names who = rw (h, star_alone l h, front_value l)

  pub not_everyone : names (value_front l) everyone ≡ false
  unfolding octets all token upper lower
  not_everyone = sym (names_named (value_front l) h everyone refl)

-- by the text's first octet
pub star_none : (s : List ℕ) → length s ≡ 0 → same (value_front s) everyone ≡ false
unfolding octets up_to trim_end same
star_none [] h = refl
star_none (x ∷ s) h = absurd (omega arith)

pub star_other : (s : List ℕ) → 0 < length s → (get_or s 0 0 ≡ 42 → ⊥) → same (value_front s) everyone ≡ false
star_other [] h d = absurd (omega arith)
star_other (x ∷ s) h d = star_not x s d

pub star_here : (s : List ℕ) → 0 < length s → get_or s 0 0 ≡ 42 → same (value_front s) everyone ≡ ended (from solid (drop 1 s))
star_here [] h e = absurd (omega arith)
star_here (x ∷ s) h e = ap (λ (y : ℕ). same (value_front (y ∷ s)) everyone) e ∙ star_first s

-- the value of an agent line at p, which begins q octets on
pub agent_value : (file : List ℕ) (p q : Place)
    → line_value file p (Kind.Agent (agent_at q (value_front (drop (p.offset + q.offset) file)))) ≡ value_front (drop (p.offset + q.offset) file)
unfolding agent_at octets_at place_in_file
agent_value file p q = go (value_front rest) (value_read rest)
  where
    rest : List ℕ
    rest = drop (p.offset + q.offset) file

    go : (v : List ℕ) → take (length v) rest ≡ v → line_value file p (Kind.Agent (agent_at q v)) ≡ v
    go [] e = refl
    go (c ∷ v) e =
        let some = ne_eqb (length (c ∷ v)) 0 (λ z. omega (arith, z)) in
        split (readable_agent (c ∷ v)) (λ r. rw (r, some) e) (λ r. rw (r, some) e)
