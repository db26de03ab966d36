-- Whom an agent's value names, and when it is unread: the definitions say what M-105 says. Assumes nothing.
use Prim.Native.Nat.{ℕ, ◌+◌, ◌≤◌, ◌<◌}
use Prim.Native.Char.{code}
use mathlib.Core.Path.{◌≡◌, refl, sym, ap, ◌∙◌}
use mathlib.Core.Bool.{Bool, true, false, ◌&&◌, ◌||◌, not, and-false, false≢true, true≢false}
use mathlib.Core.Logic.{◌↔◌}
use mathlib.Core.List.{List, [], ◌∷◌, ◌++◌, append-nil}
use native.Mathlib.Omega.{arith}
use lib.Dec.{eqb}
use lib.ListN.{length, take, length-append}
use lib.Seq.{take_all}
use borrow.Author.Tests.{ltb-false, eqb-true, eq-eqb, ne_eqb, not-false}
use Rattle.lists.specs.Lists.{empty, all, up_to, from, same}
use Rattle.lists.proofs.Bools.{split, and_left, and_right}
use Rattle.lists.proofs.Parts.{up_to_from}
use Rattle.lists.proofs.Fronts.{front_passes, front_append}
use Rattle.lists.proofs.Scans.{take_up_to}
use Rattle.lists.proofs.Tests.{empty_some, empty_known, same_equal}
use Rattle.protocol.specs.Octets.{is, upper, lower, token, lower_case}
use Rattle.protocol.specs.Text.{octets, same_ignoring_case}
use Rattle.protocol.specs.Readable.{everyone, name_front, agent_name, readable_agent, names}
use Rattle.protocol.specs.Refusals.{over, bad_name}
use Rattle.protocol.specs.Meaning.{LongestBeginning, UnreadAgent, Names, by_star, by_name}
use Rattle.protocol.proofs.Texts.{case_length, either_case}

-- "its longest beginning of A-Z a-z - _": there is one,
pub front_longest : (v : List ℕ) → LongestBeginning v (name_front v)
unfolding name_front
front_longest v =
    record {
      rest = from (λ x. not (token x)) v;
      whole = sym (up_to_from (λ x. not (token x)) v);
      octets = front_passes token v;
      longest = λ m back e t. rw (e, front_append token m back t) (omega (arith, length-append m (name_front back)));
    }

-- and no other
pub longest_front : (v n : List ℕ) → LongestBeginning v n → name_front v ≡ n
unfolding name_front
longest_front v n b =
    let parts : name_front v ≡ n ++ name_front b.rest = rw b.whole (front_append token n b.rest b.octets) in
    let own = front_longest v in
    parts ∙ nothing_more (name_front b.rest) (rw parts at (b.longest (name_front v) own.rest own.whole own.octets))
  where
    nothing_more : (m : List ℕ) → length (n ++ m) ≤ length n → n ++ m ≡ n
    nothing_more [] h = append-nil n
    nothing_more (x ∷ m) h = absurd (omega (arith, h, length-append n (x ∷ m)))

-- "*" is in no name
star_front : name_front everyone ≡ []
unfolding name_front up_to octets token upper lower
star_front = refl

some_front : (n : List ℕ) → (n ≡ [] → ⊥) → empty n ≡ false
some_front [] h = absurd (h refl)
some_front (x ∷ n) h = refl

-- and has no other case
star_only : (who : List ℕ) → same_ignoring_case everyone who ≡ true → who ≡ everyone
unfolding same_ignoring_case same octets lower_case upper
star_only [] h = absurd (false≢true h)
star_only (x ∷ y ∷ l) h = absurd (false≢true (and_right (eqb (code "*") (lower_case x)) false h))
star_only (x ∷ []) h = ap (λ (y : ℕ). y ∷ []) (alone (eqb-true (code "*") (lower_case x) (and_left (eqb (code "*") (lower_case x)) true h)))
  where
    other : (y : ℕ) → code "A" ≤ y → is "*" y ≡ false
    other y l = ne_eqb y (code "*") (λ e. omega arith)

    alone : code "*" ≡ lower_case x → x ≡ code "*"
    alone e =
        eqb-true x (code "*")
        (sym (either_case (is "*") (λ y l h. other (y + 32) (omega arith) ∙ sym (other y l)) x) ∙ eq-eqb (lower_case x) (code "*") (sym e))

star_itself : same_ignoring_case everyone everyone ≡ true
unfolding same_ignoring_case same octets lower_case upper
star_itself = refl

module _ (v : List ℕ) where
  -- a value that is exactly "*", or isn't
  star_known : same v everyone ≡ true → v ≡ everyone
  star_known = (same_equal v everyone).0

  star_other : same v everyone ≡ false → v ≡ everyone → ⊥
  star_other e p = true≢false (sym ((same_equal v everyone).1 p) ∙ e)

  star_nameless : (n : List ℕ) → same v everyone ≡ true → LongestBeginning v n → n ≡ []
  star_nameless n e b = sym (longest_front v n b) ∙ ap name_front (star_known e) ∙ star_front

  -- "It is unread exactly if that beginning is empty and the value isn't exactly "*""
  pub unread_exactly : (readable_agent v ≡ false) ↔ UnreadAgent v
  unfolding readable_agent agent_name octets
  unread_exactly =
      split (same v everyone) (λ e. rw e (λ h. absurd (true≢false h), λ u. absurd (u.other (star_known e))))
      (λ e.
      rw e (
        λ h.
            let none : name_front v ≡ [] = empty_known (name_front v) (not-false (empty (name_front v)) h) in
            record { beginning = rw none at (front_longest v); other = star_other e },
        λ u. rw (longest_front v [] u.beginning),
      ))

  -- A value names who exactly when M-105's words say so.
  pub names_exactly : (who : List ℕ) → (names v who ≡ true) ↔ Names v who
  unfolding names readable_agent agent_name octets
  names_exactly who =
      split (same v everyone) (λ e. rw e (λ h. by_star (star_known e) (star_only who h), star_back e)) (λ e. rw e (name_there, name_back e))
    where
      star_back : same v everyone ≡ true → Names v who → same_ignoring_case everyone who ≡ true
      star_back e (by_star p w) = rw w star_itself
      star_back e (by_name n b some s) = absurd (some (star_nameless n e b))

      name_there : (not (empty (name_front v)) && same_ignoring_case (name_front v) who) ≡ true → Names v who
      name_there h =
          let some : not (empty (name_front v)) ≡ true = and_left (not (empty (name_front v))) (same_ignoring_case (name_front v) who) h in
          by_name (name_front v) (front_longest v) (λ z. true≢false (sym some ∙ rw z))
          (and_right (not (empty (name_front v))) (same_ignoring_case (name_front v) who) h)

      name_back : same v everyone ≡ false → Names v who → (not (empty (name_front v)) && same_ignoring_case (name_front v) who) ≡ true
      name_back e (by_star p w) = absurd (star_other e p)
      name_back e (by_name n b some s) = rw (longest_front v n b, some_front n some) s

-- a value that is exactly "*" names who exactly where who is
pub star_names : (v who : List ℕ) → same v everyone ≡ true → same who everyone ≡ names v who
unfolding names readable_agent agent_name octets
star_names v who e =
    rw e (split (same who everyone) (λ s. rw (s, star_known who s) (sym star_itself)) (λ s. rw s (sym (other s))))
  where
    other : same who everyone ≡ false → same_ignoring_case everyone who ≡ false
    other s = split (same_ignoring_case everyone who) (λ h. absurd (star_other who s (star_only who h))) (λ h. h)

-- a value begins with its name
pub agent_begins : (v : List ℕ) → take (length (agent_name v)) v ≡ agent_name v
unfolding agent_name name_front
agent_begins v =
    split (same v everyone) (λ e. rw (e, star_known v e) (take_all (length everyone) everyone (omega arith)))
    (λ e. rw e (take_up_to (λ x. not (token x)) v))

-- "the rest is ignored": a value that begins with a name n
module _ (n : List ℕ) (some : n ≡ [] → ⊥) (tokens : all token n ≡ true) where
  name_ended : (rest : List ℕ) → name_front rest ≡ [] → agent_name (n ++ rest) ≡ n
  unfolding agent_name name_front
  name_ended rest e =
      let begun : name_front (n ++ rest) ≡ n = front_append token n rest tokens ∙ ap (λ (m : List ℕ). n ++ m) e ∙ append-nil n in
      split (same (n ++ rest) everyone) (λ s. absurd (some (sym begun ∙ ap name_front (star_known (n ++ rest) s) ∙ star_front)))
      (λ s. rw s begun)

  name_alone : agent_name n ≡ n
  unfolding name_front up_to
  name_alone = rw (append-nil n) at (name_ended [] refl)

  name_stopped : (x : ℕ) (rest : List ℕ) → token x ≡ false → agent_name (n ++ (x ∷ rest)) ≡ n
  unfolding name_front up_to
  name_stopped x rest e = name_ended (x ∷ rest) (rw e)

  -- whatever octet follows that no name has, and whatever stands behind it
  pub rest_ignored : (x : ℕ) (rest who : List ℕ) → token x ≡ false → names (n ++ (x ∷ rest)) who ≡ names n who
  unfolding names readable_agent
  rest_ignored x rest who e = rw (name_stopped x rest e, name_alone)

-- "Names are still compared whole": one of another length is another name
pub whole_compared : (v who : List ℕ) → (length (agent_name v) ≡ length who → ⊥) → names v who ≡ false
unfolding names
whole_compared v who h = rw (← case_length (agent_name v) who h) (and-false (readable_agent v))

-- a name of more than 64 octets is readable, and names no crawler whose name isn't refused
pub long_name : (v who : List ℕ) → 64 < length (agent_name v) → (bad_name who).given ≡ false → (readable_agent v ≡ true) × (names v who ≡ false)
unfolding readable_agent
long_name v who h g =
    (rw (empty_some (agent_name v) (λ e. omega (arith, h, e))), whole_compared v who (λ e. omega (arith, h, e, fits)))
  where
    long : (a b c : Bool) → (a || b || c) ≡ false → b ≡ false
    long true b c e = absurd (true≢false e)
    long false true c e = e
    long false false c e = refl

    fits : length who ≤ 64
    fits = ltb-false 64 (length who) (long (empty who) (over 64 who) (not (all token who)) g)
