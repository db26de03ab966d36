-- Worked examples of ours: what document 01 rules out by name and its table lets pass, and what its table doesn't touch.
-- proofs/Examples.antt computes them. Assumes nothing.
use Rattle.std.specs.Prelude.{ℕ, Bool, true, false, not, List, [], ◌∷◌, ◌++◌, map, eqb, replicate}
use Prim.Native.Char.{code}
use Prim.Native.String.{String}
use Rattle.lists.specs.Lists.{kept, numbers_from}
use Rattle.protocol.specs.declared.Side.{Side}
use Rattle.protocol.specs.Forms.{Matched}
use Rattle.protocol.specs.declared.Walked.{Walked}
use Rattle.protocol.specs.Octets.{token, unreserved, hex, blank, line_end, lower_case, upper_case, hex_value, hex_digit}
use Rattle.protocol.specs.Text.{octets}
use Rattle.protocol.specs.Lines.{line_number, place_at}
use Rattle.protocol.specs.Readable.{readable_agent, names, pattern_start}
use Rattle.protocol.specs.Entries.{Role, agent, rule, Entry}
use Rattle.protocol.specs.Rules.{applying}
use Rattle.protocol.specs.Pattern.{shape_of}
use Rattle.protocol.specs.Matching.{filled}
use Rattle.protocol.specs.Walk.{walk}
use Rattle.protocol.specs.Starts.{starts}
use Rattle.protocol.specs.Answers.{decide, match_of, normalise_of, normalise_buffer, line_answer, refusal_of, kind_number_of, value_place, value_length}
use Rattle.protocol.specs.Batch.{Batch, batch_refusal, refusals_after, sides_after, lines_after}
use Rattle.protocol.specs.Program.{output}
use Rattle.protocol.specs.Examples.{allow, disallow, refused, Row, lines, row_in, row}

-- "EF BB BF"
abbrev pub leading_mark : List ℕ
leading_mark = 0xEF ∷ 0xBB ∷ 0xBF ∷ []

-- RFC 9309, section 5.1, as source document 002 has it
unfoldable pub simple_example : List ℕ
simple_example =
    lines "User-Agent: *|Disallow: *.gif$|Disallow: /example/|Allow: /publications/||"
    ++ lines "User-Agent: foobot|Disallow:/|Allow:/example/page.html|Allow:/example/allowed.gif||"
    ++ lines "User-Agent: barbot|User-Agent: bazbot|Disallow: /example/page.html||"
    ++ lines "User-Agent: quxbot||EOF|"

-- Deciding
unfoldable pub our_table : List Row
our_table =
    -- the heaviest match decides, wherever it stands, and not the first
    row "user-agent: *|allow: /p|disallow: /page" "a" "/page" (disallow 3 0 7)
    ∷ row "user-agent: *|disallow: /page|allow: /p" "a" "/page" (disallow 2 0 7)
    -- at equal weight allow, and then the earliest line
    ∷ row "user-agent: *|allow: /a|disallow: /a" "a" "/a" (allow 2 0 4)
    ∷ row "user-agent: *|disallow: /a|disallow: /a" "a" "/a" (disallow 2 0 4)
    -- weight is of the normalised pattern
    ∷ row "user-agent: *|allow: /%41%41|disallow: /AAA" "a" "/AAAx" (disallow 3 0 7)
    -- a star weighs one, and so does the end mark
    ∷ row "user-agent: *|disallow: /ab|allow: /a*" "a" "/ab" (allow 3 0 5)
    ∷ row "user-agent: *|allow: /ab|disallow: /a*" "a" "/ab" (allow 2 0 5)
    ∷ row "user-agent: *|allow: /ab|disallow: /ab$" "a" "/ab" (disallow 3 0 6)
    ∷ row "user-agent: *|allow: /a*b|disallow: /ab$" "a" "/ab" (allow 2 0 6)
    -- %2F and %2A aren't decoded
    ∷ row "user-agent: *|disallow: /a%2fb" "a" "/a/bxx" (allow 0 0 3)
    ∷ row "user-agent: *|disallow: /a%2ab" "a" "/a*b" (disallow 2 0 6)
    ∷ row "user-agent: *|disallow: /a%2ab" "a" "/axxxb" (allow 0 0 3)
    -- an unreadable or empty rule line divides groups; so does no other line
    ∷ row "user-agent: a|allow: x|user-agent: b|disallow: /" "a" "/" (allow 0 1 0)
    ∷ row "user-agent: a|disallow:|user-agent: b|disallow: /" "a" "/" (allow 0 0 0)
    ∷ row "user-agent: a||# x|x|:|user-agent: b|disallow: /" "a" "/" (disallow 7 0 1)
    -- an agent line with nothing behind its colon is unreadable, and joins or starts a group all the same
    ∷ row "user-agent:|disallow: /" "a" "/" (allow 0 1 0)
    ∷ row "user-agent: a|user-agent: 1|disallow: /" "a" "/" (disallow 3 1 1)
    -- an agent's name is the value's longest beginning of a name's octets, and the rest is ignored
    ∷ row "user-agent: DrydockBot/2.1|disallow: /" "DrydockBot" "/" (disallow 2 0 1)
    ∷ row "user-agent: Bot 2.1|disallow: /" "Bot" "/" (disallow 2 0 1)
    ∷ row "user-agent: Googlebot*|disallow: /" "Googlebot" "/" (disallow 2 0 1)
    ∷ row "user-agent: dryDOCK-bot_x/A|disallow: /" "DRYdock-BOT_X" "/" (disallow 2 0 1)
    -- names are compared whole: none meets a shorter or a longer one
    ∷ row "user-agent: Drydock|disallow: /" "DrydockBot" "/" (allow 0 0 0)
    ∷ row "user-agent: DrydockBot|disallow: /" "Drydock" "/" (allow 0 0 0)
    ∷ row "user-agent: Drydock/Bot|disallow: /" "DrydockBot" "/" (allow 0 0 0)
    ∷ row "user-agent: DrydockBot/2.1|disallow: /" "Drydock" "/" (allow 0 0 0)
    -- "*" is exactly "*"
    ∷ row "user-agent: */2|disallow: /" "a" "/" (allow 0 1 0)
    ∷ row "user-agent: **|disallow: /" "a" "/" (allow 0 1 0)
    ∷ row "user-agent: *bot|disallow: /" "bot" "/" (allow 0 1 0)
    ∷ row "user-agent: bot*|disallow: /" "a" "/" (allow 0 0 0)
    -- a value that begins with another octet has no name
    ∷ row "user-agent: 2bot|disallow: /" "bot" "/" (allow 0 1 0)
    -- a name of more than 64 octets is readable, isn't cut, and so meets nobody
    ∷ row "user-agent: xxxxxxxxxxxxxxxxxxxxxxxxxxxxxxxxxxxxxxxxxxxxxxxxxxxxxxxxxxxxxxxx/2|disallow: /" "xxxxxxxxxxxxxxxxxxxxxxxxxxxxxxxxxxxxxxxxxxxxxxxxxxxxxxxxxxxxxxxx" "/" (disallow 2 0 1)
    ∷ row "user-agent: xxxxxxxxxxxxxxxxxxxxxxxxxxxxxxxxxxxxxxxxxxxxxxxxxxxxxxxxxxxxxxxxx|disallow: /" "xxxxxxxxxxxxxxxxxxxxxxxxxxxxxxxxxxxxxxxxxxxxxxxxxxxxxxxxxxxxxxxx" "/" (allow 0 0 0)
    -- two agent lines of a group, one with a version; and a group that such a line chooses, so that the rules for "*" don't apply
    ∷ row "user-agent: a|user-agent: b/1|disallow: /" "b" "/" (disallow 3 0 1)
    ∷ row "user-agent: b/1|user-agent: a|disallow: /" "a" "/" (disallow 3 0 1)
    ∷ row "user-agent: a|user-agent: a/1|disallow: /" "a" "/" (disallow 3 0 1)
    ∷ row "user-agent: */2|user-agent: b/1|disallow: /" "b" "/" (disallow 3 1 1)
    ∷ row "user-agent: *|disallow: /|user-agent: b/1|allow: /x" "b" "/y" (allow 0 0 2)
    -- the "*" groups' rules aren't added to a named group's, be that group without rules
    ∷ row "user-agent: a|disallow: /x|user-agent: *|disallow: /" "a" "/y" (allow 0 0 2)
    ∷ row "user-agent: *|disallow: /|user-agent: a" "a" "/y" (allow 0 0 0)
    -- all groups that name the crawler, each once
    ∷ row "user-agent: a|disallow: /x|user-agent: b|disallow: /|user-agent: A|disallow: /y" "a" "/y" (disallow 6 0 4)
    ∷ row "user-agent: a|user-agent: A|disallow: /" "a" "/" (disallow 3 0 1)
    -- a rule before the first agent line is in no group
    ∷ row "disallow: /|user-agent: *|allow: /x" "a" "/y" (allow 0 0 2)
    -- a "$" that isn't last is no end mark, and "%24" is none; of "$$" the last is
    ∷ row "user-agent: *|disallow: /a$b" "a" "/a$bc" (disallow 2 0 6)
    ∷ row "user-agent: *|disallow: /a%24" "a" "/a$b" (disallow 2 0 5)
    ∷ row "user-agent: *|disallow: /a$$" "a" "/a$" (disallow 2 0 5)
    ∷ row "user-agent: *|disallow: /a$$" "a" "/a$b" (allow 0 0 0)
    -- the end mark is taken off before normalising
    ∷ row "user-agent: *|disallow: /a%2$" "a" "/a%2" (disallow 2 0 6)
    -- one run with an end mark fails at no cost unless its length is the path's
    ∷ row "user-agent: *|disallow: /a$" "a" "/ab" (allow 0 0 0)
    ∷ row "user-agent: *|disallow: /ab$" "a" "/a" (allow 0 0 0)
    -- a star may stop inside a %XX, and may stand for nothing
    ∷ row "user-agent: *|disallow: /*4$" "a" "/$" (disallow 2 0 2)
    ∷ row "user-agent: *|disallow: /a**b*" "a" "/ab" (disallow 2 0 3)
    -- a star that begins a pattern weighs one too; alone it matches everything, and nothing is compared
    ∷ row "user-agent: *|disallow: *" "a" "/" (disallow 2 0 0)
    ∷ row "user-agent: *|allow: *|disallow: /" "a" "/x" (allow 2 0 1)
    ∷ row "user-agent: *|disallow: *|allow: /" "a" "/x" (allow 3 0 1)
    ∷ row "user-agent: *|allow: *|disallow: **" "a" "/x" (disallow 3 0 0)
    ∷ row "user-agent: *|allow: *|disallow: *$" "a" "/x" (disallow 3 0 0)
    ∷ row "user-agent: *|disallow: **|allow: *$" "a" "/x" (allow 3 0 0)
    -- the run behind it is put at the first place where it stands
    ∷ row "user-agent: *|disallow: *x" "a" "/axx" (disallow 2 0 3)
    -- "$" begins no pattern; and what begins well isn't readable for that
    ∷ row "user-agent: *|disallow: $|disallow: $*" "a" "/$" (allow 0 2 0)
    ∷ row_in (lines "user-agent: *|disallow: *" ++ (0x80 ∷ [])) "a" "/x" (allow 0 1 0)
    -- the groups of RFC 9309's simple example
    ∷ row_in simple_example "a" "/image.gif" (disallow 2 0 6)
    ∷ row_in simple_example "a" "/example/page.html" (disallow 3 0 12)
    ∷ row_in simple_example "a" "/publications/x.gif" (allow 4 0 20)
    ∷ row_in simple_example "foobot" "/image.gif" (disallow 7 0 1)
    ∷ row_in simple_example "foobot" "/example/page.html" (allow 8 0 19)
    ∷ row_in simple_example "foobot" "/example/allowed.gif" (allow 9 0 31)
    ∷ row_in simple_example "barbot" "/example/page.html" (disallow 13 0 18)
    ∷ row_in simple_example "bazbot" "/image.gif" (allow 0 0 0)
    ∷ row_in simple_example "quxbot" "/image.gif" (allow 0 0 0)
    -- CR LF is one ending, LF CR is two, and CR alone is one
    ∷ row "user-agent: a\r|disallow: /" "a" "/" (disallow 2 0 1)
    ∷ row "user-agent: a|\rdisallow: /" "a" "/" (disallow 3 0 1)
    ∷ row "user-agent: a\rdisallow: /" "a" "/" (disallow 2 0 1)
    -- a leading mark is skipped, once
    ∷ row_in (leading_mark ++ lines "user-agent: a|disallow: /") "a" "/" (disallow 2 0 1)
    ∷ row_in (leading_mark ++ leading_mark ++ lines "user-agent: a|disallow: /") "a" "/" (allow 0 0 0)
    ∷ row_in leading_mark "a" "/" (allow 0 0 0)
    ∷ row_in ((0xEF ∷ 0x20 ∷ 0x20 ∷ []) ++ lines "user-agent: a|disallow: /") "a" "/" (allow 0 0 0)
    ∷ row_in ((0x20 ∷ 0x20 ∷ 0xBF ∷ []) ++ lines "user-agent: a|disallow: /") "a" "/" (allow 0 0 0)
    -- comments, spaces and tabs
    ∷ row "\tUser-Agent : a # b|disallow:/ # c" "a" "/" (disallow 2 0 1)
    -- NUL is an octet like any other
    ∷ row "user-agent: a|allow\0: /|disallow: /" "a" "/" (disallow 3 0 1)
    -- /robots.txt is allowed with the whole file's unread count, and nothing is compared; with a query it is another path
    ∷ row "user-agent: *|disallow: x|disallow: /" "a" "/robots.txt" (allow 0 1 0)
    ∷ row "user-agent: *|disallow: *" "a" "/robots.txt" (allow 0 0 0)
    ∷ row "user-agent: *|disallow: /" "a" "/robots.txt?x" (disallow 2 0 1)
    -- refusals, the smallest number first
    ∷ row "user-agent: *|allow: /" "" "" (refused 2)
    ∷ row "user-agent: *|allow: /" "a1" "/" (refused 2)
    ∷ row "user-agent: a/1|allow: /" "a/1" "/" (refused 2)
    ∷ row "user-agent: *|allow: /" "a" "" (refused 3)
    ∷ row "user-agent: *|allow: /" "a" "a b" (refused 4)
    ∷ row "user-agent: *|allow: /" "a" "/a b" (refused 5)
    ∷ row "user-agent: *|allow: /" "a" "/a#b" (refused 5)
    ∷ row "user-agent: *|disallow: /!" "a" "/!" (disallow 2 0 2)
    ∷ []

-- Just inside a limit, and one octet more: so many octets of "x" as name, and behind a "/" as path
pub record Sizes : Type 0 where
  pub name : ℕ
  pub path : ℕ
  pub refusal : ℕ

abbrev pub sizes : ℕ → ℕ → ℕ → Sizes
sizes n p r = record { name = n; path = p; refusal = r }

abbrev pub many : ℕ → List ℕ
many n = replicate n (code "x")

abbrev pub refused_at : Sizes → ℕ
refused_at s = (decide 0 [] (many s.name) (code "/" ∷ many s.path)).refusal

abbrev pub refusal_at : Sizes → ℕ
refusal_at s = s.refusal

unfoldable pub our_sizes : List Sizes
our_sizes =
    sizes 64 0 0
    ∷ sizes 65 0 2
    ∷ sizes 1 2_047 0
    ∷ sizes 1 2_048 3
    ∷ []

-- The program's input and output
pub record Run : Type 0 where
  pub input : List ℕ
  pub output : List ℕ

abbrev pub run : List ℕ → String → Run
run i o = record { input = i; output = octets o }

abbrev pub output_asked : Run → List ℕ
output_asked r = output r.input

abbrev pub output_of : Run → List ℕ
output_of r = r.output

unfoldable pub our_runs : List Run
our_runs =
    run [] "refused 2\n"
    ∷ run (octets "a") "refused 3\n"
    ∷ run (octets "a\n/") "allow line 0 unread 0 compared 0\n"
    ∷ run (octets "a\n/\n") "allow line 0 unread 0 compared 0\n"
    ∷ run (octets "a\n/\r\nuser-agent: a") "refused 5\n"
    ∷ run (octets "a\n/x\n\nuser-agent: a\ndisallow: x\ndisallow: /x") "disallow line 4 unread 1 compared 2\n"
    ∷ []

-- Numbers in decimal
unfoldable pub our_numbers : List ℕ
our_numbers = 0 ∷ 1 ∷ 8 ∷ 9 ∷ 10 ∷ 11 ∷ 19 ∷ 90 ∷ 99 ∷ 100 ∷ 101 ∷ 987 ∷ 1_000 ∷ 9_434_112_000 ∷ 18_446_744_073_709_551_615 ∷ 98_765_432_109_876_543_210 ∷ []

unfoldable pub our_decimals : List String
our_decimals =
    "0" ∷ "1" ∷ "8" ∷ "9" ∷ "10" ∷ "11" ∷ "19" ∷ "90" ∷ "99" ∷ "100" ∷ "101" ∷ "987" ∷ "1000" ∷ "9434112000" ∷ "18446744073709551615" ∷ "98765432109876543210" ∷ []

-- Entries as numbers: line, group, role (0 agent, 1 allow, 2 disallow), place, length
abbrev pub role_number : Role → ℕ
role_number agent = 0
role_number (rule Side.Allow) = 1
role_number (rule Side.Disallow) = 2

abbrev pub entry_numbers : Entry → List ℕ
entry_numbers e = e.line.number ∷ e.group ∷ role_number e.role ∷ e.place.offset ∷ e.length ∷ []

unfoldable pub entries_file : List ℕ
entries_file =
    leading_mark
    ++ lines "allow: /x|"
    ++ lines "user-agent: a|"
    ++ lines "User-Agent:|"
    ++ lines "disallow: /y|"
    ++ lines "sitemap: z|"
    ++ lines "user-agent: b|"
    ++ lines "allow:|"
    ++ lines "disallow: z|"
    ++ lines "user-agent: *"

unfoldable pub entries_numbers : List (List ℕ)
entries_numbers =
    (1 ∷ 0 ∷ 1 ∷ 10 ∷ 2 ∷ [])
    ∷ (2 ∷ 1 ∷ 0 ∷ 25 ∷ 1 ∷ [])
    ∷ (3 ∷ 1 ∷ 0 ∷ 0 ∷ 0 ∷ [])
    ∷ (4 ∷ 1 ∷ 2 ∷ 49 ∷ 2 ∷ [])
    ∷ (6 ∷ 2 ∷ 0 ∷ 75 ∷ 1 ∷ [])
    ∷ (7 ∷ 2 ∷ 1 ∷ 0 ∷ 0 ∷ [])
    ∷ (8 ∷ 2 ∷ 2 ∷ 94 ∷ 1 ∷ [])
    ∷ (9 ∷ 3 ∷ 0 ∷ 108 ∷ 1 ∷ [])
    ∷ []

-- Entries as given, that no file has: group 0 is none, and a group's agent may stand behind its rule
abbrev pub entry : ℕ → ℕ → Role → ℕ → Entry
entry n g r p = record { line = line_number n; group = g; role = r; place = place_at p; length = 1 }

unfoldable pub given_entries : List Entry
given_entries = entry 9 2 (rule Side.Allow) 1 ∷ entry 8 0 agent 0 ∷ entry 7 0 (rule Side.Disallow) 1 ∷ entry 6 2 agent 0 ∷ []

-- the lines of the rules that apply to the crawler a, where the file is "a/"
abbrev pub applying_lines : List ℕ
applying_lines = map (λ r. r.line.number) (applying (octets "a/") given_entries (octets "a"))

-- Where the deciding rule's pattern stands: its place and length in the file
pub record Located : Type 0 where
  pub file : List ℕ
  pub path : String
  pub place : ℕ
  pub length : ℕ

pub record Span : Type 0 where
  pub place : ℕ
  pub length : ℕ

abbrev pub located : List ℕ → String → ℕ → ℕ → Located
located f p q n = record { file = f; path = p; place = q; length = n }

abbrev pub span_asked : Located → Span
span_asked r =
    let d = decide 0 r.file (octets "a") (octets r.path) in
    record { place = d.place.offset; length = d.length }

abbrev pub span : Located → Span
span r = record { place = r.place; length = r.length }

unfoldable pub our_spans : List Located
our_spans =
    located (lines "user-agent: *|disallow:  /%41$ |") "/A" 25 5
    ∷ located (leading_mark ++ lines "user-agent: *\r|disallow: /a") "/a" 28 2
    ∷ located (lines "user-agent: *|disallow:") "/a" 0 0
    ∷ located (lines "user-agent: *|disallow: /b") "/a" 0 0
    ∷ located (lines "user-agent: *|disallow: /a") "a" 0 0
    ∷ []

-- One line: its refusal, the number of its kind, and its value's place and length
pub record LineRow : Type 0 where
  pub line : List ℕ
  pub refusal : ℕ
  pub kind : ℕ
  pub place : ℕ
  pub length : ℕ

abbrev pub line_row : List ℕ → ℕ → ℕ → ℕ → ℕ → LineRow
line_row l r k p n = record { line = l; refusal = r; kind = k; place = p; length = n }

abbrev pub line_asked : LineRow → LineRow
line_asked r =
    let a = line_answer r.line in
    record {
      line = r.line;
      refusal = refusal_of a;
      kind = kind_number_of a;
      place = (value_place a).offset;
      length = value_length a;
    }

unfoldable pub our_lines : List LineRow
our_lines =
    line_row [] 0 1 0 0
    ∷ line_row (octets " \t# a: b") 0 1 0 0
    ∷ line_row (octets "allow /# :") 0 2 0 0
    ∷ line_row (octets ":") 0 3 0 0
    ∷ line_row (octets "sitemap: /") 0 3 0 0
    ∷ line_row (octets "user-agent: a-B_c") 0 4 12 5
    ∷ line_row (octets "\tUSER-AGENT :* # a") 0 4 13 1
    ∷ line_row (octets "user-agent:") 0 5 0 0
    -- an agent begins with a name, or is "*"; place and length are the whole value's
    ∷ line_row (octets "user-agent: DrydockBot/2.1") 0 4 12 14
    ∷ line_row (octets "user-agent: Bot 2.1 # a") 0 4 12 7
    ∷ line_row (octets "user-agent: Googlebot*") 0 4 12 10
    ∷ line_row (octets "user-agent:a" ++ (0x00 ∷ 0xFF ∷ [])) 0 4 11 3
    ∷ line_row (octets "user-agent: */2") 0 5 12 3
    ∷ line_row (octets "user-agent: **") 0 5 12 2
    ∷ line_row (octets "user-agent: *bot") 0 5 12 4
    ∷ line_row (octets "user-agent: 2bot") 0 5 12 4
    ∷ line_row (octets "user-agent: /bot") 0 5 12 4
    ∷ line_row (octets "allow: # a") 0 6 0 0
    ∷ line_row (octets "Allow:/a:b") 0 7 6 4
    ∷ line_row (octets "allow: a/") 0 8 7 2
    ∷ line_row (octets "disallow:\t") 0 9 0 0
    ∷ line_row (octets "  disallow : /a# b") 0 10 13 2
    ∷ line_row (octets "disallow: /a b") 0 11 10 4
    -- a pattern begins with "/" or "*"
    ∷ line_row (octets "allow: *") 0 7 7 1
    ∷ line_row (octets "disallow:*.gif$ # a") 0 10 9 6
    ∷ line_row (octets "disallow: **") 0 10 10 2
    ∷ line_row (octets "allow: *$") 0 7 7 2
    ∷ line_row (octets "allow: $") 0 8 7 1
    ∷ line_row (octets "disallow: $*") 0 11 10 2
    ∷ line_row (octets "disallow: %2A") 0 11 10 3
    ∷ line_row (octets "allow: * /") 0 8 7 3
    ∷ line_row (octets "allow:*" ++ (0x80 ∷ [])) 0 8 6 2
    ∷ line_row (octets "allow:*" ++ (0xC2 ∷ 0x80 ∷ [])) 0 7 6 3
    -- well-formed: the first and the last character of each form
    ∷ line_row (octets "allow:/" ++ (0x21 ∷ 0x22 ∷ 0x24 ∷ 0x7F ∷ 0xC2 ∷ 0x80 ∷ 0xDF ∷ 0xBF ∷ [])) 0 7 6 9
    ∷ line_row (octets "allow:/" ++ (0xE0 ∷ 0xA0 ∷ 0x80 ∷ 0xED ∷ 0x9F ∷ 0xBF ∷ 0xEE ∷ 0x80 ∷ 0x80 ∷ 0xEE ∷ 0xBF ∷ 0xBF ∷ 0xEF ∷ 0xBF ∷ 0xBF ∷ [])) 0 7 6 16
    ∷ line_row (octets "allow:/" ++ (0xE0 ∷ 0xBF ∷ 0xBF ∷ 0xE1 ∷ 0x80 ∷ 0x80 ∷ 0xEC ∷ 0xBF ∷ 0xBF ∷ 0xED ∷ 0x80 ∷ 0x80 ∷ [])) 0 7 6 13
    ∷ line_row (octets "allow:/" ++ (0xF0 ∷ 0x90 ∷ 0x80 ∷ 0x80 ∷ 0xF4 ∷ 0x8F ∷ 0xBF ∷ 0xBF ∷ [])) 0 7 6 9
    ∷ line_row (octets "allow:/" ++ (0xF0 ∷ 0xBF ∷ 0xBF ∷ 0xBF ∷ 0xF1 ∷ 0x80 ∷ 0x80 ∷ 0x80 ∷ [])) 0 7 6 9
    ∷ line_row (octets "allow:/" ++ (0xF3 ∷ 0xBF ∷ 0xBF ∷ 0xBF ∷ 0xF4 ∷ 0x80 ∷ 0x80 ∷ 0x80 ∷ [])) 0 7 6 9
    -- a control octet, a lone tail, a character cut short, overlong forms, a surrogate, and what is past U+10FFFF
    ∷ line_row (octets "allow:/" ++ (0x1F ∷ [])) 0 8 6 2
    ∷ line_row (octets "allow:/" ++ (0x80 ∷ [])) 0 8 6 2
    ∷ line_row (octets "allow:/" ++ (0x80 ∷ 0x00 ∷ [])) 0 8 6 3
    ∷ line_row (octets "allow:/" ++ (0x80 ∷ 0x01 ∷ [])) 0 8 6 3
    ∷ line_row (octets "allow:/" ++ (0xC2 ∷ 0x7F ∷ [])) 0 8 6 3
    ∷ line_row (octets "allow:/" ++ (0xC2 ∷ 0xC0 ∷ [])) 0 8 6 3
    ∷ line_row (octets "allow:/" ++ (0xE1 ∷ 0x80 ∷ [])) 0 8 6 3
    ∷ line_row (octets "allow:/" ++ (0xC1 ∷ 0xBF ∷ [])) 0 8 6 3
    ∷ line_row (octets "allow:/" ++ (0xE0 ∷ 0x9F ∷ 0xBF ∷ [])) 0 8 6 4
    ∷ line_row (octets "allow:/" ++ (0xF0 ∷ 0x8F ∷ 0xBF ∷ 0xBF ∷ [])) 0 8 6 5
    ∷ line_row (octets "allow:/" ++ (0xED ∷ 0xA0 ∷ 0x80 ∷ [])) 0 8 6 4
    ∷ line_row (octets "allow:/" ++ (0xF4 ∷ 0x90 ∷ 0x80 ∷ 0x80 ∷ [])) 0 8 6 5
    ∷ line_row (octets "allow:/" ++ (0xF5 ∷ 0x80 ∷ 0x80 ∷ 0x80 ∷ [])) 0 8 6 5
    -- a second octet that is no tail
    ∷ line_row (octets "allow:/" ++ (0xE0 ∷ 0xC0 ∷ 0x80 ∷ [])) 0 8 6 4
    ∷ line_row (octets "allow:/" ++ (0xED ∷ 0x7F ∷ 0x80 ∷ [])) 0 8 6 4
    ∷ line_row (octets "allow:/" ++ (0xF0 ∷ 0xC0 ∷ 0x80 ∷ 0x80 ∷ [])) 0 8 6 5
    ∷ line_row (octets "allow:/" ++ (0xF4 ∷ 0x7F ∷ 0x80 ∷ 0x80 ∷ [])) 0 8 6 5
    -- no leading mark is skipped, and padding is no part of a field name
    ∷ line_row (leading_mark ++ octets "allow: /") 0 3 0 0
    ∷ line_row (octets "allow\0\0\0\0\0: /") 0 3 0 0
    ∷ line_row (octets "allow: /\n") 9 0 0 0
    ∷ line_row (octets "# \r") 9 0 0 0
    ∷ []

-- One pattern and one path: refusal, yes or no, count
pub record MatchRow : Type 0 where
  pub pattern : String
  pub path : String
  pub answer : Matched

abbrev pub match_row : String → String → ℕ → Bool → ℕ → MatchRow
match_row q p r b n = record { pattern = q; path = p; answer = record { refusal = r; found = b; compared = n } }

abbrev pub match_asked : MatchRow → Matched
match_asked r = match_of (octets r.pattern) (octets r.path)

abbrev pub match_answer : MatchRow → Matched
match_answer r = r.answer

unfoldable pub our_matches : List MatchRow
our_matches =
    -- a run that is placed is never moved: "b" stands at 2, and "bc" is sought behind it
    match_row "/*b*bc" "/abxbc" 0 true 6
    -- the last run of an end-marked pattern has one start
    ∷ match_row "/*b$" "/abab" 0 true 2
    ∷ match_row "/*ab*b$" "/ab" 0 false 3
    ∷ match_row "/a*$" "/a" 0 true 2
    -- a try that would pass the end fails at no cost
    ∷ match_row "/aaa" "/a" 0 false 0
    ∷ match_row "/*aab" "/aaac" 0 false 7
    -- the first run is tried at 0 only
    ∷ match_row "/b" "/a/b" 0 false 2
    -- after a failed run nothing more is tried
    ∷ match_row "/b*a" "/a" 0 false 2
    -- /robots.txt is a path like any other
    ∷ match_row "/" "/robots.txt" 0 true 1
    -- an empty first run stands at 0, at no cost
    ∷ match_row "*" "/a" 0 true 0
    ∷ match_row "**" "/a" 0 true 0
    ∷ match_row "*$" "/a" 0 true 0
    ∷ match_row "*.gif$" "/x.gif" 0 true 4
    ∷ match_row "*.gif$" "/x.gif5" 0 false 1
    ∷ match_row "*a" "/ba" 0 true 3
    ∷ match_row "*/a" "/b/a" 0 true 5
    ∷ match_row "*abc" "/a" 0 false 0
    ∷ match_row "/" "" 3 false 0
    ∷ match_row "" "a" 4 false 0
    ∷ match_row "" "/ " 5 false 0
    ∷ match_row "" "/" 8 false 0
    ∷ match_row "a" "/" 8 false 0
    ∷ match_row "$" "/" 8 false 0
    ∷ match_row "$*" "/" 8 false 0
    ∷ match_row "*#" "/" 8 false 0
    ∷ match_row "/a#" "/" 8 false 0
    ∷ []

-- A pattern's octets and stars, what fills the stars, and what that gives. With too few fillings the last stars stand for nothing.
pub record Filling : Type 0 where
  pub text : String
  pub fillings : List String
  pub gives : String

abbrev pub filling : String → List String → String → Filling
filling t f g = record { text = t; fillings = f; gives = g }

abbrev pub filling_asked : Filling → List ℕ
filling_asked r = filled (octets r.text) (map octets r.fillings)

abbrev pub filling_gives : Filling → List ℕ
filling_gives r = octets r.gives

unfoldable pub our_fillings : List Filling
our_fillings =
    filling "/a" [] "/a"
    ∷ filling "/*b" ("xy" ∷ []) "/xyb"
    ∷ filling "/*b*" ("x" ∷ "yz" ∷ []) "/xbyz"
    ∷ filling "**" ("a" ∷ "b" ∷ []) "ab"
    ∷ filling "/*b*" ("x" ∷ []) "/xb"
    ∷ filling "/a" ("x" ∷ []) "/a"
    ∷ []

-- The whole of a walk: does it find a match, where does its last run end, and how many pairs are compared
pub record WalkRow : Type 0 where
  pub pattern : String
  pub path : String
  pub walked : Walked

abbrev pub walk_row : String → String → Bool → ℕ → ℕ → WalkRow
walk_row q p b k n = record { pattern = q; path = p; walked = record { stood = b; past = k; count = n } }

abbrev pub walk_asked : WalkRow → Walked
walk_asked r = walk (shape_of (octets r.pattern)) (octets r.path)

abbrev pub walk_answer : WalkRow → Walked
walk_answer r = r.walked

unfoldable pub our_walks : List WalkRow
our_walks =
    walk_row "/a$" "/a" true 2 2
    ∷ walk_row "/a" "/ab" true 2 2
    ∷ walk_row "/*b" "/abc" true 3 3
    ∷ walk_row "/*c$" "/abc" true 4 2
    ∷ walk_row "*c" "/abc" true 4 4
    ∷ walk_row "*$" "/abc" true 4 0
    ∷ walk_row "/b" "/a" false 0 2
    ∷ walk_row "/a$" "/ab" false 0 0
    ∷ []

-- Where a walk that finds a match puts the runs: the place of each
pub record StartsRow : Type 0 where
  pub pattern : String
  pub path : String
  pub places : List ℕ

abbrev pub starts_row : String → String → List ℕ → StartsRow
starts_row q p l = record { pattern = q; path = p; places = l }

abbrev pub starts_asked : StartsRow → List ℕ
starts_asked r = starts (shape_of (octets r.pattern)) (octets r.path)

abbrev pub starts_answer : StartsRow → List ℕ
starts_answer r = r.places

unfoldable pub our_starts : List StartsRow
our_starts =
    starts_row "/*.htm" "/page.htm" (0 ∷ 5 ∷ [])
    -- "b" stands at 2, 3 and 5, and is put at the first of them; "c" stands at 4 and 6, and has to end the path
    ∷ starts_row "/a*b*c$" "/abbcbc" (0 ∷ 2 ∷ 6 ∷ [])
    -- an empty run is put at the end of the run ahead
    ∷ starts_row "/a**b*" "/ab" (0 ∷ 2 ∷ 2 ∷ 3 ∷ [])
    ∷ starts_row "*.gif$" "/x.gif" (0 ∷ 2 ∷ [])
    ∷ []

-- One path and a lent buffer: refusal, octets written, and what the buffer holds then
pub record NormalRow : Type 0 where
  pub path : List ℕ
  pub buffer : List ℕ
  pub refusal : ℕ
  pub written : ℕ
  pub left : List ℕ

abbrev pub normal_row : List ℕ → String → ℕ → ℕ → String → NormalRow
normal_row p b r n l = record { path = p; buffer = octets b; refusal = r; written = n; left = octets l }

abbrev pub normal_asked : NormalRow → NormalRow
normal_asked r =
    let a = normalise_of r.path r.buffer in
    record {
      path = r.path;
      buffer = r.buffer;
      refusal = a.refusal;
      written = a.written;
      left = normalise_buffer r.path r.buffer;
    }

unfoldable pub our_normals : List NormalRow
our_normals =
    -- RFC 9309, Figure 4: the first, third, fourth and fifth rows
    normal_row (octets "/foo/bar?baz=quz") "................" 0 16 "/foo/bar?baz=quz"
    ∷ normal_row (octets "/foo/bar/" ++ (0xE3 ∷ 0x83 ∷ 0x84 ∷ [])) ".................." 0 18 "/foo/bar/%E3%83%84"
    ∷ normal_row (octets "/foo/bar/%E3%83%84") ".................." 0 18 "/foo/bar/%E3%83%84"
    ∷ normal_row (octets "/foo/bar/%62%61%7A") "............" 0 12 "/foo/bar/baz"
    -- the rest of the buffer stays; one octet less of it is refused, and nothing is written
    ∷ normal_row (octets "/%7e*$%2f%") "................" 0 14 "/~%2A%24%2F%25.."
    ∷ normal_row (octets "/%7e*$%2f%") ".............." 0 14 "/~%2A%24%2F%25"
    ∷ normal_row (octets "/%7e*$%2f%") "............." 6 0 "............."
    -- an escape begins at its "%" and takes two digits
    ∷ normal_row (octets "/%%41%4%4g") "................" 0 14 "/%25A%254%254g.."
    ∷ normal_row (octets "/" ++ (0x7F ∷ [])) "...." 0 4 "/%7F"
    ∷ normal_row [] "." 3 0 "."
    ∷ normal_row (octets "a") "" 4 0 ""
    ∷ normal_row (octets "/ ") "" 5 0 ""
    ∷ []

-- Many paths in one call (M-101): the slices lent for the numbers, the decisions and the lines
pub record Lent : Type 0 where
  pub refusals : List ℕ
  pub sides : List ℕ
  pub lines : List ℕ

abbrev pub lent : List ℕ → List ℕ → List ℕ → Lent
lent r s l = record { refusals = r; sides = s; lines = l }

-- the call, its refusal, and what the slices hold then
pub record BatchRow : Type 0 where
  pub batch : Batch
  pub refusal : ℕ
  pub after : Lent

abbrev pub batch_of : ℕ → String → String → String → List ℕ → Lent → Batch
batch_of d f n p e m =
    record {
      dialect = d;
      file = lines f;
      name = octets n;
      paths = octets p;
      ends = e;
      refusals = m.refusals;
      sides = m.sides;
      lines = m.lines;
    }

abbrev pub answered_list : ℕ → String → String → String → List ℕ → Lent → Lent → BatchRow
answered_list d f n p e m a = record { batch = batch_of d f n p e m; refusal = 0; after = a }

-- "nothing is written"
abbrev pub refused_list : ℕ → ℕ → String → String → List ℕ → Lent → BatchRow
refused_list r d n p e m = record { batch = batch_of d "user-agent: *|disallow: /a|allow: /" n p e m; refusal = r; after = m }

abbrev pub batch_asked : BatchRow → BatchRow
batch_asked r =
    let b = r.batch in
    record { batch = b; refusal = batch_refusal b; after = lent (refusals_after b) (sides_after b) (lines_after b) }

-- room for one path, for two, and for none
abbrev pub for_one : Lent
for_one = lent (50 ∷ []) (60 ∷ []) (70 ∷ [])

abbrev pub for_two : Lent
for_two = lent (50 ∷ 51 ∷ []) (60 ∷ 61 ∷ []) (70 ∷ 71 ∷ [])

abbrev pub for_none : Lent
for_none = lent [] [] []

-- nine paths: /a, an empty one, /a/b, a, "/a b", /robots.txt, /%4, 1, /x
abbrev pub nine_paths : String
nine_paths = "/a/a/ba/a b/robots.txt/%41/x"

abbrev pub nine_ends : List ℕ
nine_ends = 2 ∷ 2 ∷ 6 ∷ 7 ∷ 11 ∷ 22 ∷ 25 ∷ 26 ∷ 28 ∷ []

-- more places for numbers and lines, and just enough for decisions
abbrev pub for_nine : Lent
for_nine =
    lent (50 ∷ 50 ∷ 50 ∷ 50 ∷ 50 ∷ 50 ∷ 50 ∷ 50 ∷ 50 ∷ 51 ∷ [])
    (60 ∷ 60 ∷ 60 ∷ 60 ∷ 60 ∷ 60 ∷ 60 ∷ 60 ∷ 60 ∷ [])
    (70 ∷ 70 ∷ 70 ∷ 70 ∷ 70 ∷ 70 ∷ 70 ∷ 70 ∷ 70 ∷ 71 ∷ 72 ∷ [])

abbrev pub nine_file : String
nine_file = "user-agent: *|allow: /a|allow: /A|disallow: /a/b|disallow: /"

unfoldable pub batch_table : List BatchRow
batch_table =
    -- "20 for an unknown dialect, first of all"
    refused_list 20 2 "a" "/a" (2 ∷ []) for_one
    ∷ refused_list 20 2 "" "/a" (3 ∷ 1 ∷ []) for_none
    -- 2 ahead of 12 and 13; for no path too
    ∷ refused_list 2 0 "" "/a" (2 ∷ []) for_one
    ∷ refused_list 2 1 "a1" "/a" (3 ∷ 1 ∷ []) for_none
    ∷ refused_list 2 0 "" "" [] for_none
    -- "12 if the ends ever decrease": inside, and at the last, which is the joined length
    ∷ refused_list 12 0 "a" "/a/b" (2 ∷ 1 ∷ 4 ∷ []) (lent (50 ∷ 51 ∷ 52 ∷ []) (60 ∷ 61 ∷ 62 ∷ []) (70 ∷ 71 ∷ 72 ∷ []))
    ∷ refused_list 12 0 "a" "/a/b" (5 ∷ 4 ∷ []) for_two
    -- "or the last isn't the joined length": it is less, or more
    ∷ refused_list 12 0 "a" "/a/b" (2 ∷ 3 ∷ []) for_two
    ∷ refused_list 12 1 "a" "/a/b" (2 ∷ 5 ∷ []) for_two
    -- "(an empty list needs length 0)"
    ∷ refused_list 12 0 "a" "/" [] for_one
    -- ahead of 13
    ∷ refused_list 12 0 "a" "/a/b" (5 ∷ 4 ∷ []) for_none
    -- "13 if an answer slice is shorter than the list": each of them
    ∷ refused_list 13 0 "a" "/a/b" (2 ∷ 4 ∷ []) (lent (50 ∷ []) (60 ∷ 61 ∷ []) (70 ∷ 71 ∷ []))
    ∷ refused_list 13 0 "a" "/a/b" (2 ∷ 4 ∷ []) (lent (50 ∷ 51 ∷ []) (60 ∷ []) (70 ∷ 71 ∷ []))
    ∷ refused_list 13 1 "a" "/a/b" (2 ∷ 4 ∷ []) (lent (50 ∷ 51 ∷ []) (60 ∷ 61 ∷ []) (70 ∷ []))
    -- no path: no place is written
    ∷ answered_list 0 "user-agent: *|disallow: /" "a" "" [] for_none for_none
    ∷ answered_list 1 "user-agent: *|disallow: /" "a" "" [] (lent (50 ∷ []) (60 ∷ 61 ∷ []) (70 ∷ [])) (lent (50 ∷ []) (60 ∷ 61 ∷ []) (70 ∷ []))
    -- one path, and a name that has a group
    ∷ answered_list 0 "user-agent: *|allow: /|user-agent: b|disallow: /a" "b" "/a" (2 ∷ []) for_one (lent (0 ∷ []) (1 ∷ []) (4 ∷ []))
    ∷ answered_list 0 "user-agent: *|allow: /|user-agent: b|disallow: /a" "a" "/a" (2 ∷ []) for_one (lent (0 ∷ []) (0 ∷ []) (2 ∷ []))
    -- an empty path in front and one behind
    ∷ answered_list 0 "user-agent: *|disallow: /a" "a" "/a" (0 ∷ 2 ∷ 2 ∷ [])
    (lent (50 ∷ 51 ∷ 52 ∷ []) (60 ∷ 61 ∷ 62 ∷ 63 ∷ []) (70 ∷ 71 ∷ 72 ∷ []))
    (lent (3 ∷ 0 ∷ 3 ∷ []) (1 ∷ 1 ∷ 1 ∷ 63 ∷ []) (0 ∷ 2 ∷ 0 ∷ []))
    -- each path's own refusal, /robots.txt, and an escape that the next path's octet doesn't complete; "places beyond the last path stay"
    ∷ answered_list 0 nine_file "a" nine_paths nine_ends for_nine
    (lent (0 ∷ 3 ∷ 0 ∷ 4 ∷ 5 ∷ 0 ∷ 0 ∷ 4 ∷ 0 ∷ 51 ∷ [])
    (0 ∷ 1 ∷ 1 ∷ 1 ∷ 1 ∷ 0 ∷ 1 ∷ 1 ∷ 1 ∷ [])
    (2 ∷ 0 ∷ 4 ∷ 0 ∷ 0 ∷ 0 ∷ 5 ∷ 0 ∷ 5 ∷ 71 ∷ 72 ∷ []))
    -- in the draft's dialect the first match decides about /a/b
    ∷ answered_list 1 nine_file "a" nine_paths nine_ends for_nine
    (lent (0 ∷ 3 ∷ 0 ∷ 4 ∷ 5 ∷ 0 ∷ 0 ∷ 4 ∷ 0 ∷ 51 ∷ [])
    (0 ∷ 1 ∷ 0 ∷ 1 ∷ 1 ∷ 0 ∷ 1 ∷ 1 ∷ 1 ∷ [])
    (2 ∷ 0 ∷ 2 ∷ 0 ∷ 0 ∷ 0 ∷ 5 ∷ 0 ∷ 5 ∷ 71 ∷ 72 ∷ []))
    ∷ []

-- The sorts of octets: of all 256, those that pass a test
pub record Sort : Type 0 where
  pub test : ℕ → Bool
  pub members : List ℕ

infix 20 ◌holds◌
abbrev pub ◌holds◌ : (ℕ → Bool) → String → Sort
f holds s = record { test = f; members = octets s }

abbrev pub every_octet : List ℕ
every_octet = numbers_from 0 256

abbrev pub sorted : Sort → List ℕ
sorted s = kept s.test every_octet

abbrev pub members : Sort → List ℕ
members s = s.members

abbrev pub changed_by : (ℕ → ℕ) → ℕ → Bool
changed_by f x = not (eqb (f x) x)

unfoldable pub our_sorts : List Sort
our_sorts =
    (token holds "-ABCDEFGHIJKLMNOPQRSTUVWXYZ_abcdefghijklmnopqrstuvwxyz")
    ∷ (unreserved holds "-.0123456789ABCDEFGHIJKLMNOPQRSTUVWXYZ_abcdefghijklmnopqrstuvwxyz~")
    ∷ (hex holds "0123456789ABCDEFabcdef")
    ∷ (blank holds "\t ")
    ∷ (line_end holds "\n\r")
    ∷ (changed_by lower_case holds "ABCDEFGHIJKLMNOPQRSTUVWXYZ")
    ∷ (changed_by upper_case holds "abcdefghijklmnopqrstuvwxyz")
    -- what an agent may begin with, and what makes a name another one
    ∷ ((λ x. readable_agent (x ∷ octets "/")) holds "-ABCDEFGHIJKLMNOPQRSTUVWXYZ_abcdefghijklmnopqrstuvwxyz")
    ∷ ((λ x. not (names (octets "a" ++ (x ∷ [])) (octets "a"))) holds "-ABCDEFGHIJKLMNOPQRSTUVWXYZ_abcdefghijklmnopqrstuvwxyz")
    -- what a pattern may begin with
    ∷ ((λ x. pattern_start (x ∷ [])) holds "*/")
    ∷ []

-- Octets in another case, hex digits and their values: a text, and what each of its octets becomes
pub record Change : Type 0 where
  pub change : ℕ → ℕ
  pub before : List ℕ
  pub after : List ℕ

abbrev pub becomes : (ℕ → ℕ) → List ℕ → List ℕ → Change
becomes f a b = record { change = f; before = a; after = b }

abbrev pub changed : Change → List ℕ
changed c = map c.change c.before

abbrev pub afterwards : Change → List ℕ
afterwards c = c.after

unfoldable pub our_changes : List Change
our_changes =
    becomes lower_case (octets "ABCDEFGHIJKLMNOPQRSTUVWXYZ") (octets "abcdefghijklmnopqrstuvwxyz")
    ∷ becomes upper_case (octets "abcdefghijklmnopqrstuvwxyz") (octets "ABCDEFGHIJKLMNOPQRSTUVWXYZ")
    ∷ becomes hex_value (octets "0123456789ABCDEF") (numbers_from 0 16)
    ∷ becomes hex_value (octets "0123456789abcdef") (numbers_from 0 16)
    ∷ becomes hex_digit (numbers_from 0 16) (octets "0123456789ABCDEF")
    ∷ []
