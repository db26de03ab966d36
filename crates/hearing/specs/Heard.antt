-- What an agent line or a rule line changes of whose group this is, and of the unread count. Assumes nothing.
use Rattle.std.specs.Prelude.{ℕ, ◌+◌, Bool, true, false, ◌&&◌, ◌||◌, List, [], if◌then◌else◌}
use Rattle.lists.specs.Choice.{one_if}
use Rattle.protocol.specs.declared.Audience.{Audience}
use Rattle.protocol.specs.Readable.{everyone, names}
use Rattle.hearing.specs.declared.Hearing.{Hearing}

-- the name that an audience's groups have; no value names nobody, who has none (proofs/Naming)
abbrev pub whom : Audience → List ℕ → List ℕ
whom Audience.Crawler crawler = crawler
whom Audience.Everyone crawler = everyone
whom Audience.Nobody crawler = []

-- of a crawler's name and of "*", the first that is named
abbrev pub first_of : Bool → Bool → Audience
first_of crawler everyone = if crawler then Audience.Crawler else if everyone then Audience.Everyone else Audience.Nobody

-- whom an agent's value names
abbrev pub addressed : List ℕ → List ℕ → Audience
addressed crawler v = first_of (names v crawler) (names v everyone)

-- before the first line no group is above
abbrev pub nothing_heard : Hearing
nothing_heard = record { applies = false; joins = false; unread = 0 }

-- after an agent line with value v, where the groups of `who` apply: it starts a group or joins the one above
abbrev pub after_agent : List ℕ → List ℕ → Bool → Hearing → Hearing
after_agent who v unreadable h =
    record { applies = (h.joins && h.applies) || names v who; joins = true; unread = h.unread + one_if unreadable }

-- after a rule line: "a rule line of any readability stands between it and the agent line before"
abbrev pub after_rule : Bool → Hearing → Hearing
after_rule unreadable h = record { applies = h.applies; joins = false; unread = h.unread + one_if unreadable }
