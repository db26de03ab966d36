-- What the agent and rule lines of a text say, their role and their value, whatever their numbers and places: a file's entries say it, and of
-- two texts put together it is what both say. Assumes nothing.
use Prim.Native.Nat.{ℕ, zero, suc, ◌-◌}
use mathlib.Core.Path.{◌≡◌, refl, sym, ap, ◌∙◌}
use mathlib.Core.Bool.{Bool, true, false}
use mathlib.Core.List.{List, [], ◌∷◌, ◌++◌, map, map-append, append_assoc}
use mathlib.Core.Option.{Option, none, some}
use lib.ListN.{length, drop}
use Rattle.lists.specs.Choice.{one_if}
use Rattle.lists.specs.Each.{Each}
use Rattle.lists.proofs.Bools.{split}
use Rattle.protocol.specs.declared.LineNumber.{LineNumber}
use Rattle.protocol.specs.declared.Place.{Place}
use Rattle.protocol.specs.declared.Kind.{Kind}
use Rattle.lists.specs.Lists.{up_to, from}
use Rattle.protocol.specs.Text.{trim_end, trim, octets_at}
use Rattle.protocol.specs.Lines.{Line, line_number, place_at, number_after, place_after, line_text, line_length, lines_from, skipped, lines_of, ended}
use Rattle.protocol.specs.Kinds.{rest_kind, uncommented, kind_of, place_of, length_of}
use Rattle.protocol.specs.Entries.{Role, Entry, role_of, group_at, ruled_after, entry_of, entries_from, entries}
use Rattle.protocol.specs.Rules.{value_of}
use Rattle.protocol.proofs.FrontToBack.{lines_all}
use Rattle.protocol.proofs.Inside.{InFile, lines_inside, value_in_file}
use Rattle.protocol.proofs.Appended.{joined, back_lines, lines_append, lines_joined}

-- an agent line or a rule line, by its role and its value
pub record Said : Type 0 where
  pub role : Role
  pub value : List ℕ

abbrev pub entry_says : List ℕ → Entry → Said
entry_says file e = record { role = e.role; value = value_of file e }

-- what a line of that role and value says
unfoldable pub said_as : Option Role → List ℕ → List Said
said_as none v = []
said_as (some ro) v = record { role = ro; value = v } ∷ []

unfoldable pub said_of : List ℕ → List Said
said_of t = let k = kind_of t in said_as (role_of k) (octets_at t (place_of k) (length_of k))

unfoldable pub said_in : List Line → List Said
said_in [] = []
said_in (l ∷ ls) = said_of l.text ++ said_in ls

-- what a text says
abbrev pub said : List ℕ → List Said
said text = said_in (lines_from (line_number 1) (place_at 0) 0 text)

entry_says_lem : (file : List ℕ) (g : ℕ) (l : Line) → InFile file l → (ro : Option Role)
    → map (entry_says file) (entry_of g l (kind_of l.text) ro) ≡ said_as ro (octets_at l.text (place_of (kind_of l.text)) (length_of (kind_of l.text)))
unfolding entry_of said_as
entry_says_lem file g l h none = refl
entry_says_lem file g l h (some ro) = rw (value_in_file file l h)

-- the entries of lines of a file say what the lines say
pub entries_say : (file : List ℕ) (above : ℕ) (ruled : Bool) (ls : List Line) → Each (InFile file) ls
    → map (entry_says file) (entries_from above ruled ls) ≡ said_in ls
unfolding entries_from said_in said_of
entries_say file above ruled [] h = refl
entries_say file above ruled (l ∷ ls) h =
    let k = kind_of l.text in
    let ro = role_of k in
    let group = group_at above ruled ro in
    map-append (entry_says file) (entry_of group l k ro) (entries_from group (ruled_after ruled ro) ls)
    ∙ rw (entry_says_lem file group l h.0 ro, entries_say file group (ruled_after ruled ro) ls h.1)

said_append_lines : (ls ms : List Line) → said_in (ls ++ ms) ≡ said_in ls ++ said_in ms
unfolding said_in
said_append_lines [] ms = refl
said_append_lines (l ∷ ls) ms = rw (said_append_lines ls ms) (sym (append_assoc (said_of l.text) (said_in ls) (said_in ms)))

-- numbers and places say nothing
pub said_anywhere : (n m : LineNumber) (p q : Place) (k : ℕ) (l : List ℕ) → said_in (lines_from n p k l) ≡ said_in (lines_from m q k l)
unfolding lines_from said_in
said_anywhere n m p q k [] = refl
said_anywhere n m p q zero (c ∷ l) =
    ap (λ (ss : List Said). said_of (line_text (c ∷ l)) ++ ss)
    (said_anywhere (number_after n 1) (number_after m 1) (place_after p 1) (place_after q 1) (line_length (c ∷ l) - 1) l)
said_anywhere n m p q (suc k) (c ∷ l) = said_anywhere n m (place_after p 1) (place_after q 1) k l

-- a line of no octets is blank
pub blank_line : kind_of [] ≡ Kind.Blank
unfolding kind_of uncommented rest_kind trim trim_end from up_to
blank_line = refl

-- it says nothing
blank_says : said_of [] ≡ []
unfolding said_of said_as role_of
blank_says = rw blank_line

-- nor does the one that is lost between CR and LF
said_joined : (n : LineNumber) (p : Place) (front back : List ℕ)
    → said_in (lines_from n p (one_if (joined front back)) back) ≡ said_in (lines_from n p 0 back)
unfolding said_in
said_joined n p front back =
    split (joined front back)
    (λ j. rw (j, lines_joined n p front back j, blank_says) (said_anywhere n (number_after n 1) p p 1 back))
    (λ j. rw j)

-- What front ++ back says: what front says, and then what back says.
pub said_append : (front back : List ℕ) → ended front ≡ true → said (front ++ back) ≡ said front ++ said back
said_append front back h =
    let n = line_number 1 in
    let p = place_at 0 in
    let ls = lines_from n p 0 front in
    let m = number_after n (length ls) in
    let q = place_after p (length front) in
    rw (lines_append n p front back h)
    (said_append_lines ls (back_lines n p front ls back)
    ∙ ap (λ (ss : List Said). said_in ls ++ ss) (said_joined m q front back ∙ said_anywhere m n q p 0 back))

-- The entries of a file say what it says behind its leading mark.
pub file_says : (file : List ℕ) → map (entry_says file) (entries file) ≡ said (drop (skipped file) file)
unfolding entries
file_says file =
    entries_say file 0 false (lines_of file) (lines_inside file)
    ∙ rw (lines_all file) (said_anywhere (line_number 1) (line_number 1) (place_at (skipped file)) (place_at 0) 0 (drop (skipped file) file))
