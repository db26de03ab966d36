-- M-113: worked examples of the draft of 1996, source document 004, and of ours beside what the RFC's dialect answers.
-- proofs/Examples.antt computes them. Assumes nothing.
use Prim.Native.String.{String}
use Rattle.std.specs.Prelude.{Bool, true, false, not, List, [], ◌∷◌, ◌++◌}
use Rattle.protocol.specs.Text.{octets}
use Rattle.protocol.specs.Decision.{allows}
use Rattle.protocol.specs.Answers.{decide}
use Rattle.protocol.specs.Examples.{Answer, allow, disallow, refused, Row, row_by}

-- "Record Path", "URL path", "Matches"
pub record PathRow : Type 0 where
  pub record_path : String
  pub url_path : String
  pub matches : Bool

abbrev pub path_row : String → String → Bool → PathRow
path_row r u m = record { record_path = r; url_path = u; matches = m }

-- a record path matches where a disallow line of it closes the URL path
abbrev pub path_asked : PathRow → Bool
path_asked r =
    not (allows (decide 1 (octets "user-agent: *\ndisallow: " ++ octets r.record_path) (octets "a") (octets r.url_path)).side)

abbrev pub path_matches : PathRow → Bool
path_matches r = r.matches

-- 004, section 3.2.2: "This table illustrates some examples"
unfoldable pub draft_paths : List PathRow
draft_paths =
    path_row "/tmp" "/tmp" true
    ∷ path_row "/tmp" "/tmp.html" true
    ∷ path_row "/tmp" "/tmp/a.html" true
    ∷ path_row "/tmp/" "/tmp" false
    ∷ path_row "/tmp/" "/tmp/" true
    ∷ path_row "/tmp/" "/tmp/a.html" true
    ∷ path_row "/a%3cd.html" "/a%3cd.html" true
    ∷ path_row "/a%3Cd.html" "/a%3cd.html" true
    ∷ path_row "/a%3cd.html" "/a%3Cd.html" true
    ∷ path_row "/a%3cd.html" "/a%3cd.html" true
    ∷ path_row "/a%2fb.html" "/a%2fb.html" true
    ∷ path_row "/a%2fb.html" "/a%2Fb.html" true
    ∷ path_row "/a%2fb.html" "/a/b.html" false
    ∷ path_row "/%7ejoe/index.html" "/~joe/index.html" true
    ∷ path_row "/~joe/index.html" "/%7Ejoe/index.html" true
    -- of ours: what the draft would unencode and document 01's normalising keeps
    ∷ path_row "/a%3cd.html" "/a<d.html" false
    ∷ []

-- 004, section 3.2: the record of webcrawler and infoseek
abbrev pub draft_record : String
draft_record = "User-agent: webcrawler|User-agent: infoseek|Allow: /tmp/ok.html|Disallow: /tmp|Disallow: /user/foo"

abbrev pub draft_row : String → String → String → Answer → Row
draft_row f n p a = row_by 1 f n p a

-- Deciding in the draft's dialect
unfoldable pub draft_table : List Row
draft_table =
    draft_row draft_record "webcrawler" "/tmp/ok.html" (allow 3 0 12)
    ∷ draft_row draft_record "infoseek" "/tmp" (disallow 4 0 4)
    ∷ draft_row draft_record "webcrawler" "/tmp/other.html" (disallow 4 0 11)
    ∷ draft_row draft_record "infoseek" "/user/foo/x" (disallow 5 0 11)
    ∷ draft_row draft_record "webcrawler" "/index.html" (allow 0 0 4)
    ∷ draft_row draft_record "excite" "/tmp" (allow 0 0 0)
    -- /robots.txt stays allowed
    ∷ draft_row "user-agent: *|disallow: /" "a" "/%72obots.txt" (allow 0 0 0)
    -- empty and unreadable patterns never match; the unread count is the whole file's, whatever decides
    ∷ draft_row "user-agent: *|allow:|disallow: /" "a" "/x" (disallow 3 0 1)
    ∷ draft_row "user-agent: *|allow: x|disallow: /" "a" "/x" (disallow 3 1 1)
    ∷ draft_row "user-agent: *|disallow: /|allow: x|user-agent: ?" "a" "/x" (disallow 2 2 1)
    -- file order is over all groups that apply
    ∷ draft_row "user-agent: a|disallow: /b|user-agent: b|disallow: /|user-agent: a|allow: /x|disallow: /x" "a" "/x" (allow 6 0 4)
    -- "star and dollar in a pattern are plain octets, normalised as in a path"
    ∷ draft_row "user-agent: *|disallow: /a%2ab" "a" "/a*b" (disallow 2 0 6)
    ∷ draft_row "user-agent: *|disallow: /a$b" "a" "/a%24bc" (disallow 2 0 6)
    ∷ draft_row "user-agent: *|disallow: *x" "a" "/abc" (allow 0 0 1)
    ∷ draft_row "user-agent: *|disallow: *x" "a" "/ab" (allow 0 0 0)
    -- the rows of document 01's table refuse here too
    ∷ draft_row "user-agent: *|disallow: /" "" "" (refused 2)
    ∷ draft_row "user-agent: *|disallow: /" "a" "x" (refused 4)
    -- "20 for an unknown dialect, first of all"
    ∷ row_by 2 "user-agent: *|disallow: /" "a" "/x" (refused 20)
    ∷ row_by 2 "user-agent: *|allow: /" "" "" (refused 20)
    ∷ row_by 256 "user-agent: *|allow: /" "a" "/x" (refused 20)
    ∷ row_by 4_294_967_296 "user-agent: *|allow: /" "a" "/x" (refused 20)
    ∷ row_by 4_294_967_297 "user-agent: *|allow: /" "a" "/x" (refused 20)
    ∷ []

-- Where the dialects differ: the RFC's answer, and behind it the draft's
unfoldable pub both_table : List Row
both_table =
    -- a broad allow ahead of a narrow disallow
    row_by 0 "user-agent: *|allow: /|disallow: /draft" "a" "/draft/9" (disallow 3 0 7)
    ∷ row_by 1 "user-agent: *|allow: /|disallow: /draft" "a" "/draft/9" (allow 2 0 1)
    -- and a broad disallow ahead of a narrow allow
    ∷ row_by 0 "user-agent: *|disallow: /|allow: /x" "a" "/x" (allow 3 0 3)
    ∷ row_by 1 "user-agent: *|disallow: /|allow: /x" "a" "/x" (disallow 2 0 1)
    -- a star
    ∷ row_by 0 "user-agent: *|disallow: /*" "a" "/xyzw" (disallow 2 0 1)
    ∷ row_by 1 "user-agent: *|disallow: /*" "a" "/xyzw" (allow 0 0 2)
    ∷ row_by 0 "user-agent: *|disallow: /*" "a" "/*" (disallow 2 0 1)
    ∷ row_by 1 "user-agent: *|disallow: /*" "a" "/*" (disallow 2 0 4)
    ∷ row_by 0 "user-agent: *|disallow: *x" "a" "/yx" (disallow 2 0 3)
    ∷ row_by 1 "user-agent: *|disallow: *x" "a" "/yx" (allow 0 0 0)
    -- a final dollar
    ∷ row_by 0 "user-agent: *|disallow: /a$" "a" "/a" (disallow 2 0 2)
    ∷ row_by 1 "user-agent: *|disallow: /a$" "a" "/a" (allow 0 0 0)
    ∷ row_by 0 "user-agent: *|disallow: /a$" "a" "/a$" (allow 0 0 0)
    ∷ row_by 1 "user-agent: *|disallow: /a$" "a" "/a$" (disallow 2 0 5)
    ∷ []
