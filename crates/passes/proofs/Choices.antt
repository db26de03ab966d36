-- The first pass: whose groups apply, by the agent lines, and which of them is the first. Assumes nothing.
use Prim.Native.Nat.{ℕ, ◌+◌, ◌≤◌, ◌<◌}
use mathlib.Core.Path.{◌≡◌, refl, sym, ap, subst, ◌∙◌}
use mathlib.Core.Bool.{Bool, true, false, not, ◌||◌, or-true, false≢true, true≢false}
use mathlib.Core.List.{List, [], ◌∷◌}
use mathlib.Core.Option.{Option, none, some}
use native.Mathlib.Omega.{arith}
use lib.Dec.{ltb}
use lib.ListN.{length}
use borrow.Author.Tests.{ltb-true, ltb-false}
use Rattle.lists.specs.Lists.{any, from}
use Rattle.lists.proofs.Bools.{split}
use Rattle.lists.proofs.Cuts.{from_none}
use Rattle.lists.proofs.Parts.{from_stop, from_on}
use Rattle.protocol.specs.declared.LineNumber.{LineNumber}
use Rattle.protocol.specs.declared.Place.{Place}
use Rattle.protocol.specs.declared.Position.{Position}
use Rattle.protocol.specs.declared.Audience.{Audience}
use Rattle.protocol.specs.Lines.{Line, line, line_number, place_at, has_leading_mark, skipped, line_text, lines_of}
use Rattle.protocol.specs.Readable.{everyone}
use Rattle.protocol.specs.Kinds.{kind_of}
use Rattle.protocol.specs.Entries.{Role, agent, rule, role_of, entries}
use Rattle.protocol.specs.Rules.{audience}
use Rattle.protocol.proofs.FrontToBack.{lines_next, lines_end, lines_all}
use Rattle.lines.specs.Spans.{text_at}
use Rattle.lines.specs.Skips.{agent_octet, endings, between, next_agent}
use Rattle.lines.proofs.Passing.{Unasked, agents_on, agents_further}
use Rattle.lines.proofs.Skips.{endings_between}
use Rattle.fields.specs.Fields.{field_of}
use Rattle.hearing.specs.Heard.{whom, first_of, addressed}
use Rattle.hearing.proofs.Naming.{names_nobody}
use Rattle.passes.specs.declared.audience.Chosen.{Chosen}
use Rattle.passes.specs.Entries.{line_value, role_names, line_names, line_audience}
use Rattle.passes.specs.Steps.{first_line, lines_on, lines_past}
use Rattle.passes.specs.Choosing.{line_at, after_line, known_alone, ChosenOf}
use Rattle.passes.proofs.Groups.{some_line_names}
use Rattle.passes.proofs.Heads.{is_agent, no_agent_named, first_no_agent}
use Rattle.passes.proofs.Turns.{first_at, names_here}

-- whom a line names, or else whom those in front of it do
abbrev unless_nobody : Audience → Audience → Audience
unless_nobody Audience.Crawler before = Audience.Crawler
unless_nobody Audience.Everyone before = Audience.Everyone
unless_nobody Audience.Nobody before = before

-- whom a line names: an agent line,
pub agent_audience : (file crawler : List ℕ) (p : Place) → role_of (kind_of (text_at file p)) ≡ some agent
    → addressed crawler (line_value file p (kind_of (text_at file p))) ≡ line_audience file crawler p
agent_audience file crawler p e = rw e

-- and any other
pub other_audience : (file crawler : List ℕ) (p : Place) → is_agent (field_of (kind_of (text_at file p))) ≡ false → Audience.Nobody ≡ line_audience file crawler p
other_audience file crawler p e =
    let k = kind_of (text_at file p) in
    let v = line_value file p k in
    rw (no_agent_named crawler v k e, no_agent_named everyone v k e)

-- whose groups apply, by the lines from a position on, where those in front don't name the crawler
abbrev pub audience_left : List ℕ → List ℕ → Audience → Position → Audience
audience_left file crawler before p =
    unless_nobody (first_of (any (line_names file crawler) (lines_on file p)) (any (line_names file everyone) (lines_on file p))) before

pub audience_all : (file crawler : List ℕ)
    → audience_left file crawler Audience.Nobody (first_line file) ≡ audience file (entries file) crawler
unfolding audience
audience_all file crawler =
    let ls = lines_on file (first_line file) in
    rw (some_line_names file crawler, some_line_names file everyone, lines_all file)
    (alone (first_of (any (line_names file crawler) ls) (any (line_names file everyone) ls)))
  where
    alone : (a : Audience) → unless_nobody a Audience.Nobody ≡ a
    alone Audience.Crawler = refl
    alone Audience.Everyone = refl
    alone Audience.Nobody = refl

abbrev is_crawler : Audience → Bool
is_crawler Audience.Crawler = true
is_crawler Audience.Everyone = false
is_crawler Audience.Nobody = false

abbrev is_everyone : Audience → Bool
is_everyone Audience.Crawler = false
is_everyone Audience.Everyone = true
is_everyone Audience.Nobody = false

first_crawler : (x y : Bool) → first_of x y ≡ Audience.Crawler → x ≡ true
first_crawler true y e = refl
first_crawler false true e = absurd (false≢true (ap is_crawler e))
first_crawler false false e = absurd (false≢true (ap is_crawler e))

first_other : (x y : Bool) → (first_of x y ≡ Audience.Crawler → ⊥) → x ≡ false
first_other true y o = absurd (o refl)
first_other false y o = refl

-- a line that names "*" or doesn't, lines in front of it, and lines behind it that name the crawler, or "*"
first_on : (before : Audience) (y a b : Bool) → unless_nobody (first_of a b) (unless_nobody (first_of false y) before) ≡ unless_nobody (first_of a (y || b)) before
first_on before y true b = refl
first_on before true false true = refl
first_on before true false false = refl
first_on before false false b = refl

first_everyone : (x y : Bool) → Audience.Everyone ≡ first_of x y → y ≡ true
first_everyone true y e = absurd (true≢false (ap is_crawler (sym e)))
first_everyone false true e = refl
first_everyone false false e = absurd (true≢false (ap is_everyone e))

first_nobody : (x y : Bool) → Audience.Nobody ≡ first_of x y → y ≡ false
first_nobody true y e = absurd (true≢false (ap is_crawler (sym e)))
first_nobody false true e = absurd (true≢false (ap is_everyone (sym e)))
first_nobody false false e = refl

-- whom the lines up to this one name, where it doesn't name the crawler
after_audience : (a here : Audience) (p : Place) (c : Chosen) → c.audience ≡ a → (here ≡ Audience.Crawler → ⊥)
    → (after_line a here p c).audience ≡ unless_nobody here a
after_audience a Audience.Crawler p c e o = absurd (o refl)
after_audience Audience.Crawler Audience.Everyone p c e o = refl
after_audience Audience.Everyone Audience.Everyone p c e o = refl
after_audience Audience.Nobody Audience.Everyone p c e o = refl
after_audience a Audience.Nobody p c e o = e

-- the lines behind the one at p are asked as those from the next one on that may be an agent line
module _ {X : Type 0} (ask : List Line → X) (same : Unasked agent_octet ask) (file : List ℕ) (p : Place) (f : skipped file ≤ p.offset) (h : p.offset < length file) where
  pub agents_at : ask (lines_past file (line_at file p)) ≡ ask (lines_on file (line_at file (next_agent file p)))
  agents_at =
      let start = (first_line file).place in
      let q = next_agent file p in
      let a = endings (between file start p) in
      let b = endings (between file p q) in
      let sum : endings (between file start q) ≡ a + b = endings_between file start p q f (omega (arith, agents_further file p)) in
      let number : 1 + a + b ≡ 1 + endings (between file start q) = omega (arith, sum) in
      agents_on ask same file (line_at file p).number p h
      ∙ ap (λ (n : ℕ). ask (lines_on file (record { number = line_number n; place = q }))) number

-- lines that begin with no space, tab or "u" name nobody
module _ (file who : List ℕ) where
  other_unnamed : (n : LineNumber) (q : Place) (c : ℕ) (l : List ℕ) → agent_octet c ≡ false → line_names file who (line n q (line_text (c ∷ l))) ≡ false
  other_unnamed n q c l g = let k = kind_of (line_text (c ∷ l)) in no_agent_named who (line_value file q k) k (first_no_agent c l g)

  any_unasked : Unasked agent_octet (any (line_names file who))
  unfolding any
  any_unasked n q c l ls g = rw (other_unnamed n q c l g)

  from_unasked : Unasked agent_octet (from (line_names file who))
  from_unasked n q c l ls g = from_on (line_names file who) (line n q (line_text (c ∷ l))) ls (other_unnamed n q c l g)

-- no line names nobody
unnamed_nobody : (file : List ℕ) (l : Line) → line_names file [] l ≡ false
unnamed_nobody file l = go (role_of (kind_of l.text))
  where
    go : (ro : Option Role) → role_names [] (line_value file l.place (kind_of l.text)) ro ≡ false
    go none = refl
    go (some agent) = names_nobody (line_value file l.place (kind_of l.text))
    go (some (rule side)) = refl

nobody_named : (file : List ℕ) (ls : List Line) → any (line_names file []) ls ≡ false
unfolding any
nobody_named file [] = refl
nobody_named file (l ∷ ls) = rw (unnamed_nobody file l) (nobody_named file ls)

-- who isn't named in front of the line at p
abbrev Unmet : List ℕ → List ℕ → Place → Type 0
Unmet file who p = from (line_names file who) (lines_of file) ≡ from (line_names file who) (lines_on file (line_at file p))

-- the line at p is the first that names who; at the file's end, none does
abbrev FirstNamed : List ℕ → List ℕ → Place → Type 0
FirstNamed file who p = from (line_names file who) (lines_of file) ≡ lines_on file (line_at file p)

-- what is known of "*" at p: it isn't named yet; or its first line is known, and whether a line between that and p names it too
abbrev Stars : List ℕ → Audience → Place → Bool → Place → Type 0
Stars file Audience.Crawler first only p = ⊥
Stars file Audience.Everyone first only p =
    (skipped file ≤ first.offset) × (first.offset ≤ length file) × FirstNamed file everyone first
    × (any (line_names file everyone) (lines_past file (line_at file first)) ≡ not only || any (line_names file everyone) (lines_on file (line_at file p)))
Stars file Audience.Nobody first only p = (first ≡ place_at (length file)) × (only ≡ true) × Unmet file everyone p

-- what holds where the pass has come to the line at p
pub record Looked (file crawler : List ℕ) (c : Chosen) (p : Place) : Type 0 where
  pub further : skipped file ≤ p.offset
  pub left : audience_left file crawler c.audience (line_at file p) ≡ audience file (entries file) crawler
  pub unmet : Unmet file crawler p
  pub stars : Stars file c.audience c.first c.only p

-- the leading mark is inside of the file
pub mark_inside : (file : List ℕ) → skipped file ≤ length file
unfolding has_leading_mark
mark_inside [] = omega arith
mark_inside (a ∷ []) = omega arith
mark_inside (a ∷ b ∷ []) = omega arith
mark_inside (a ∷ b ∷ c ∷ l) = split (has_leading_mark (a ∷ b ∷ c ∷ l)) (λ e. rw e (omega arith)) (λ e. rw e (omega arith))

-- at the first line nothing is known
pub looked_first : (file crawler : List ℕ) (p : Place) → p ≡ (first_line file).place
    → Looked file crawler (record { audience = Audience.Nobody; first = place_at (length file); only = true }) p
looked_first file crawler p e =
    rw e
    (record {
      further = omega arith;
      left = ap (audience_left file crawler Audience.Nobody) (first_at file) ∙ audience_all file crawler;
      unmet = start crawler;
      stars = (refl, refl, start everyone);
    })
  where
    start : (who : List ℕ) → Unmet file who (first_line file).place
    start who = ap (from (line_names file who)) (lines_all file ∙ ap (lines_on file) (sym (first_at file)))

-- what is chosen, by what is known of it
chosen_as : (file crawler : List ℕ) (c : Chosen) (a x : Audience) → c.audience ≡ x → x ≡ a → skipped file ≤ c.first.offset → c.first.offset ≤ length file
    → FirstNamed file (whom x crawler) c.first
    → c.only ≡ known_alone x (any (line_names file (whom x crawler)) (lines_past file (line_at file c.first))) → ChosenOf file crawler a c
chosen_as file crawler c a x e t f i n o = rw (← t) (record { audience = e; further = f; inside = i; first = n; only = o })

-- nobody
pub chosen_nobody : (file crawler : List ℕ) (c : Chosen) (a : Audience) → c.audience ≡ Audience.Nobody → Audience.Nobody ≡ a → c.first ≡ place_at (length file)
    → c.only ≡ true → ChosenOf file crawler a c
chosen_nobody file crawler c a e t p o =
    let at : c.first.offset ≡ length file = ap (λ (x : Place). x.offset) p in
    let none : from (line_names file []) (lines_of file) ≡ [] = from_none (line_names file []) (lines_of file) (nobody_named file (lines_of file)) in
    chosen_as file crawler c a Audience.Nobody e t (omega (arith, at, mark_inside file)) (omega (arith, at))
    (none ∙ sym (lines_end file (line_at file c.first).number c.first (omega (arith, at))))
    (o ∙ ap not (sym (nobody_named file (lines_past file (line_at file c.first)))))

-- the one that is chosen is the chosen one's own
pub chosen_own : (file crawler : List ℕ) (c : Chosen) (a : Audience) → ChosenOf file crawler a c → ChosenOf file crawler c.audience c
chosen_own file crawler c a of = subst (λ (x : Audience). ChosenOf file crawler x c) (sym of.audience) of

-- the line at p
module _ (file crawler : List ℕ) (p : Place) (f : skipped file ≤ p.offset) (h : p.offset < length file) where
  abbrev names : List ℕ → Bool
  names who = let k = kind_of (text_at file p) in role_names who (line_value file p k) (role_of k)

  abbrev next : Place
  next = next_agent file p

  -- the first that names who
  first_here : (who : List ℕ) → names who ≡ true → Unmet file who p → FirstNamed file who p
  first_here who n u =
      let lines = lines_next file (line_at file p).number p h in
      u ∙ ap (from (line_names file who)) lines ∙ from_stop (line_names file who) _ (lines_past file (line_at file p)) n ∙ sym lines

  -- names the crawler,
  pub looked_crawler : (c : Chosen) → Looked file crawler c p → (here : Audience) → here ≡ line_audience file crawler p → here ≡ Audience.Crawler
      → ChosenOf file crawler (audience file (entries file) crawler) (record { audience = here; first = p; only = false })
  looked_crawler c now here e t =
      let named : names crawler ≡ true = first_crawler (names crawler) (names everyone) (sym e ∙ t) in
      let found : Audience.Crawler ≡ audience_left file crawler c.audience (line_at file p) = rw (names_here file (line_at file p) h crawler, named) in
      chosen_as file crawler _ _ Audience.Crawler t (found ∙ now.left) f (omega (arith, h)) (first_here crawler named now.unmet) refl

  -- or doesn't
  any_next : (who : List ℕ) → any (line_names file who) (lines_past file (line_at file p)) ≡ any (line_names file who) (lines_on file (line_at file next))
  any_next who = agents_at (any (line_names file who)) (any_unasked file who) file p f h

  any_on : (who : List ℕ) → names who ≡ false → any (line_names file who) (lines_on file (line_at file p)) ≡ any (line_names file who) (lines_on file (line_at file next))
  any_on who n = names_here file (line_at file p) h who ∙ rw n (any_next who)

  unmet_on : (who : List ℕ) → names who ≡ false → Unmet file who p → Unmet file who next
  unmet_on who n u =
      u
      ∙ ap (from (line_names file who)) (lines_next file (line_at file p).number p h)
      ∙ from_on (line_names file who) _ (lines_past file (line_at file p)) n
      ∙ agents_at (from (line_names file who)) (from_unasked file who) file p f h

  module _ (here : Audience) (e : here ≡ line_audience file crawler p) (o : here ≡ Audience.Crawler → ⊥) where
    other : names crawler ≡ false
    other = first_other (names crawler) (names everyone) (rw e at o)

    left_on : (before : Audience) → audience_left file crawler (unless_nobody here before) (line_at file next) ≡ audience_left file crawler before (line_at file p)
    left_on before =
        let a = any (line_names file crawler) (lines_past file (line_at file p)) in
        let b = any (line_names file everyone) (lines_past file (line_at file p)) in
        let on : unless_nobody (first_of a b) (unless_nobody here before) ≡ unless_nobody (first_of a (names everyone || b)) before
        = rw (e, other) (first_on before (names everyone) a b) in
        rw (← any_next crawler, ← any_next everyone, names_here file (line_at file p) h crawler, names_here file (line_at file p) h everyone, other) on

    stars_on : (a : Audience) (first : Place) (only : Bool) → Stars file a first only p
        → let d = after_line a here p (record { audience = a; first = first; only = only }) in Stars file d.audience d.first d.only next
    stars_on a first only s =
        go here o (λ t. first_everyone (names crawler) (names everyone) (sym t ∙ e)) (λ t. first_nobody (names crawler) (names everyone) (sym t ∙ e)) a s
      where
        go : (x : Audience) → (x ≡ Audience.Crawler → ⊥) → (x ≡ Audience.Everyone → names everyone ≡ true)
            → (x ≡ Audience.Nobody → names everyone ≡ false) → (a : Audience) → Stars file a first only p
            → let d = after_line a x p (record { audience = a; first = first; only = only }) in Stars file d.audience d.first d.only next
        go Audience.Crawler z y n a s = absurd (z refl)
        go Audience.Everyone z y n Audience.Crawler s = absurd s
        go Audience.Everyone z y n Audience.Everyone s =
            let named : any (line_names file everyone) (lines_on file (line_at file p)) ≡ true = names_here file (line_at file p) h everyone ∙ rw (y refl) in
            (s.0, s.1, s.2, s.3 ∙ rw (named, or-true (not only)))
        go Audience.Everyone z y n Audience.Nobody s = (f, omega (arith, h), first_here everyone (y refl) s.2, any_next everyone)
        go Audience.Nobody z y n Audience.Crawler s = absurd s
        go Audience.Nobody z y n Audience.Everyone s = (s.0, s.1, s.2, s.3 ∙ ap (λ (b : Bool). not only || b) (any_on everyone (n refl)))
        go Audience.Nobody z y n Audience.Nobody s = (s.0, s.1, unmet_on everyone (n refl) s.2)

    pub looked_on : (c : Chosen) → Looked file crawler c p → (d : Chosen) → d ≡ after_line c.audience here p c → (q : Place) → q ≡ next → Looked file crawler d q
    looked_on c now d t q u =
        rw (t, u)
        (record {
          further = omega (arith, f, agents_further file p);
          left = ap (λ (x : Audience). audience_left file crawler x (line_at file next)) (after_audience c.audience here p c refl o) ∙ left_on c.audience ∙ now.left;
          unmet = unmet_on crawler other now.unmet;
          stars = stars_on c.audience c.first c.only now.stars;
        })

-- at the file's end it is known who is chosen
pub looked_end : (file crawler : List ℕ) (c : Chosen) (p : Place) → Looked file crawler c p → length file ≤ p.offset
    → ChosenOf file crawler (audience file (entries file) crawler) c
unfolding any
looked_end file crawler c p now h = go c.audience refl now.stars
  where
    ends : lines_on file (line_at file p) ≡ []
    ends = lines_end file (line_at file p).number p h

    chosen : c.audience ≡ audience file (entries file) crawler
    chosen = rw ends at now.left

    told : (only others : Bool) → others ≡ not only || false → only ≡ not others
    told true others h = ap not (sym h)
    told false others h = ap not (sym h)

    goal : Audience
    goal = audience file (entries file) crawler

    go : (x : Audience) → c.audience ≡ x → Stars file x c.first c.only p → ChosenOf file crawler goal c
    go Audience.Crawler e s = absurd s
    go Audience.Everyone e s =
        chosen_as file crawler c goal Audience.Everyone e (sym e ∙ chosen) s.0 s.1 s.2 (told c.only _ (s.3 ∙ rw ends))
    go Audience.Nobody e s = chosen_nobody file crawler c goal e (sym e ∙ chosen) s.0 s.1

-- the place of the first of some lines, or else p
abbrev place_or : Place → List Line → Place
place_or p [] = p
place_or p (l ∷ ls) = l.place

place_told : (file : List ℕ) (p : Place) → p.offset ≤ length file → place_or (place_at (length file)) (lines_on file (line_at file p)) ≡ p
place_told file p h =
    split (ltb p.offset (length file))
    (λ e. ap (place_or (place_at (length file))) (lines_next file (line_at file p).number p (ltb-true p.offset (length file) e)))
    (λ e.
    let ends = ltb-false p.offset (length file) e in
    let same : length file ≡ p.offset = omega (arith, ends, h) in
    ap (place_or (place_at (length file))) (lines_end file (line_at file p).number p ends) ∙ ap place_at same)

same_choice : (c d : Chosen) → c.audience ≡ d.audience → c.first ≡ d.first → c.only ≡ d.only → c ≡ d
same_choice c d e p o = rw (e, p, o)

-- One choice is right.
pub chosen_one : (file crawler : List ℕ) (a : Audience) (c d : Chosen) → ChosenOf file crawler a c → ChosenOf file crawler a d → c ≡ d
chosen_one file crawler a c d of od =
    let who = whom a crawler in
    let first : c.first ≡ d.first
    = sym (place_told file c.first of.inside)
    ∙ ap (place_or (place_at (length file))) (sym of.first ∙ od.first)
    ∙ place_told file d.first od.inside in
    same_choice c d (of.audience ∙ sym od.audience) first
    (of.only ∙ ap (λ (p : Place). known_alone a (any (line_names file who) (lines_past file (line_at file p)))) first ∙ sym od.only)
