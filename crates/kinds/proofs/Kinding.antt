-- An agent's value and a rule's pattern, by what each test of them finds, and what is told of a line by its head. Assumes nothing.
use Rattle.std.specs.Prelude.{Some, None}
use Prim.Native.Nat.{ℕ, ◌<◌}
use mathlib.Core.Path.{◌≡◌, refl, ap, ap₂, ◌∙◌}
use mathlib.Core.Bool.{true, false}
use mathlib.Core.List.{List, [], ◌∷◌}
use native.Mathlib.Omega.{arith}
use lib.ListN.{length}
use Rattle.protocol.specs.declared.Place.{Place}
use Rattle.protocol.specs.declared.Kind.{Kind}
use Rattle.protocol.specs.declared.Agent.{Agent}
use Rattle.protocol.specs.declared.Pattern.{Pattern}
use Rattle.protocol.specs.Lines.{place_at, place_after, line_text}
use Rattle.protocol.specs.Readable.{readable_agent, readable_pattern}
use Rattle.protocol.specs.Kinds.{agent_at, pattern_at, kind_of}
use Rattle.fields.specs.declared.Field.{Field}
use Rattle.fields.specs.declared.Head.{Head}
use Rattle.fields.specs.Fields.{field_of, head_of, value_at}
use Rattle.fields.proofs.Heads.{no_field, head_field}
use Rattle.kinds.specs.declared.entry.Entry.{Entry}
use Rattle.kinds.specs.Entries.{entry_kind, entry_told}

-- an agent's value, at the place p of its line
pub agent_none : (v : List ℕ) (p : Place) → length v ≡ 0 → Agent.Unreadable (place_at 0) 0 ≡ agent_at p v
unfolding agent_at
agent_none [] p h = refl
agent_none (c ∷ v) p h = absurd (omega arith)

pub agent_readable : (v : List ℕ) (p : Place) → 0 < length v → readable_agent v ≡ true → Agent.Readable p (length v) ≡ agent_at p v
unfolding agent_at
agent_readable [] p h e = absurd (omega arith)
agent_readable (c ∷ v) p h e = rw e

pub agent_unreadable : (v : List ℕ) (p : Place) → 0 < length v → readable_agent v ≡ false → Agent.Unreadable p (length v) ≡ agent_at p v
unfolding agent_at
agent_unreadable [] p h e = absurd (omega arith)
agent_unreadable (c ∷ v) p h e = rw e

-- a rule's pattern, likewise
pub pattern_none : (v : List ℕ) (p : Place) → length v ≡ 0 → Pattern.Empty ≡ pattern_at p v
unfolding pattern_at
pattern_none [] p h = refl
pattern_none (c ∷ v) p h = absurd (omega arith)

pub pattern_readable : (v : List ℕ) (p : Place) → 0 < length v → readable_pattern v ≡ true → Pattern.Readable p (length v) ≡ pattern_at p v
unfolding pattern_at
pattern_readable [] p h e = absurd (omega arith)
pattern_readable (c ∷ v) p h e = rw e

pub pattern_unreadable : (v : List ℕ) (p : Place) → 0 < length v → readable_pattern v ≡ false
    → Pattern.Unreadable p (length v) ≡ pattern_at p v
unfolding pattern_at
pattern_unreadable [] p h e = absurd (omega arith)
pattern_unreadable (c ∷ v) p h e = rw e

-- a line for a pass: one without a head is no entry
no_entry : (k : Kind) → field_of k ≡ None → Kind.Other ≡ entry_kind k
no_entry Kind.Blank e = refl
no_entry Kind.Noise e = refl
no_entry Kind.Other e = refl
no_entry (Kind.Agent a) e = absurd (cc)
no_entry (Kind.Rule side p) e = absurd (cc)

known_entry : (k : Kind) (f : Field) → field_of k ≡ Some f → k ≡ entry_kind k
known_entry Kind.Blank f e = absurd (cc)
known_entry Kind.Noise f e = absurd (cc)
known_entry Kind.Other f e = absurd (cc)
known_entry (Kind.Agent a) f e = refl
known_entry (Kind.Rule side p) f e = refl

module _ (l : List ℕ) where
  pub none_told : None ≡ head_of l → record { kind = Kind.Other; end = place_at 0 } ≡ entry_told l
  none_told e = rw (← e) (ap (λ (k : Kind). record { kind = k; end = place_at 0 }) (no_entry (kind_of (line_text l)) (no_field l e)))

  pub some_told : (h : Head) (x : Entry) → Some h ≡ head_of l → x.kind ≡ kind_of (line_text l) → x.end ≡ place_after h.value (length (value_at h.value l)) → x ≡ entry_told l
  some_told h x e p q =
      rw (← e) (ap₂ (λ (k : Kind) (n : Place). record { kind = k; end = n }) (p ∙ known_entry (kind_of (line_text l)) h.field (head_field l h e)) q)
