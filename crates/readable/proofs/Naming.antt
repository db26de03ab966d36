-- Whether an agent's value is readable, and whom it names, as the code asks it. Assumes nothing.
use Prim.Native.Nat.{ℕ, ◌≤◌, ◌<◌}
use mathlib.Core.Path.{◌≡◌, sym, ap, ◌∙◌}
use mathlib.Core.Bool.{Bool, true, false, ◌&&◌, not, and-false, true≢false}
use mathlib.Core.List.{List, ◌++◌, append-nil}
use native.Mathlib.Omega.{arith}
use lib.Dec.{eqb}
use lib.ListN.{length, take, drop, get_or, drop_of_length-le, length-append, take-append-drop}
use borrow.Author.Tests.{eqb-true, eqb-false, not-true}
use Rattle.lists.specs.Lists.{empty, all, up_to, same}
use Rattle.lists.proofs.Bools.{split, and_left, and_right}
use Rattle.lists.proofs.Scans.{drop_one}
use Rattle.lists.proofs.Tests.{empty_none, empty_some, empty_known}
use Rattle.lists.proofs.Fronts.{front_passes, front_append}
use Rattle.protocol.specs.Octets.{token}
use Rattle.protocol.specs.Text.{same_ignoring_case}
use Rattle.protocol.specs.Readable.{everyone, name_front, agent_name, readable_agent, names}
use Rattle.protocol.proofs.Texts.{case_lengths, case_tokens}
use Rattle.protocol.proofs.Agents.{agent_begins, whole_compared}

-- an octet tells whether a name ends in front of it
module _ (v : List ℕ) (i : ℕ) where
  pub ends_none : length v ≤ i → empty (name_front (drop i v)) ≡ true
  unfolding name_front up_to
  ends_none h = rw (drop_of_length-le v h)

  pub ends_here : i < length v → empty (name_front (drop i v)) ≡ not (token (get_or v i 0))
  unfolding name_front up_to
  ends_here h = rw (drop_one v i 0 h) (split (token (get_or v i 0)) (λ t. rw t) (λ t. rw t))

-- the value begins with who
abbrev pub begun : List ℕ → List ℕ → Bool
begun v who = same_ignoring_case (take (length who) v) who

-- one or more octets of a name
abbrev pub is_name : List ℕ → Bool
is_name who = not (empty who) && all token who

-- a value that isn't exactly "*"
module _ (v : List ℕ) (e : same v everyone ≡ false) where
  other_name : agent_name v ≡ name_front v
  unfolding agent_name
  other_name = rw e

  module _ (who : List ℕ) where
    -- it names only whom it begins with
    pub names_begun : begun v who ≡ false → false ≡ names v who
    unfolding names
    names_begun b =
        split (eqb (length (agent_name v)) (length who))
        (λ k.
        let front : agent_name v ≡ take (length who) v = rw (eqb-true (length (agent_name v)) (length who) k) at (sym (agent_begins v)) in
        sym (ap (λ (l : List ℕ). readable_agent v && same_ignoring_case l who) front ∙ ap (λ (t : Bool). readable_agent v && t) b ∙ and-false (readable_agent v)))
        (λ k. sym (whole_compared v who (eqb-false (length (agent_name v)) (length who) k)))

    named_known : names v who ≡ true → is_name who ≡ true
    unfolding names readable_agent name_front
    named_known t =
        let met : same_ignoring_case (agent_name v) who ≡ true = and_right (readable_agent v) (same_ignoring_case (agent_name v) who) t in
        let some : not (empty (agent_name v)) ≡ true = and_left (readable_agent v) (same_ignoring_case (agent_name v) who) t in
        let tokens : all token who ≡ true = sym (case_tokens (agent_name v) who met) ∙ ap (all token) other_name ∙ front_passes token v in
        rw (empty_some who (λ k. true≢false (sym (empty_none (agent_name v) (case_lengths (agent_name v) who met ∙ k)) ∙ not-true (empty (agent_name v)) some)), tokens)

    -- and only a name
    pub names_named : is_name who ≡ false → false ≡ names v who
    names_named n = split (names v who) (λ t. absurd (true≢false (sym (named_known t) ∙ n))) (λ t. sym t)

    -- where both hold, the octet behind tells
    module _ (b : begun v who ≡ true) (n : is_name who ≡ true) where
      abbrev front : List ℕ
      front = take (length who) v

      abbrev back : List ℕ
      back = drop (length who) v

      parts : agent_name v ≡ front ++ name_front back
      unfolding name_front
      parts =
          other_name
          ∙ ap name_front (sym (take-append-drop (length who) v))
          ∙ front_append token front back (case_tokens front who b ∙ and_right (not (empty who)) (all token who) n)

      some : empty front ≡ false
      some =
          empty_some front (λ k. true≢false (sym (empty_none who (sym (case_lengths front who b) ∙ k)) ∙ not-true (empty who) (and_left (not (empty who)) (all token who) n)))

      ended : empty (name_front back) ≡ true → names v who ≡ true
      unfolding names readable_agent
      ended z =
          let whole : agent_name v ≡ front = parts ∙ ap (λ (l : List ℕ). front ++ l) (empty_known (name_front back) z) ∙ append-nil front in
          rw (whole, some) b

      longer : empty (name_front back) ≡ false → names v who ≡ false
      longer z =
          whole_compared v who
          (λ k.
          true≢false (sym (empty_none (name_front back) (omega (arith, k, ap length parts, length-append front (name_front back), case_lengths front who b))) ∙ z))

      pub names_ended : empty (name_front back) ≡ names v who
      names_ended = split (empty (name_front back)) (λ z. rw z (sym (ended z))) (λ z. rw z (sym (longer z)))
