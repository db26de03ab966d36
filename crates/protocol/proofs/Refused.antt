-- Each question refuses exactly in the table's cases, the smallest number first; and what a refusal makes of an answer. Assumes nothing.
use Prim.Native.Nat.{ℕ, zero, suc, ◌≤◌, ◌<◌}
use mathlib.Core.Path.{◌≡◌, refl, sym, ◌∙◌, ap, ap₂, subst}
use mathlib.Core.Bool.{Bool, true, false, true≢false}
use mathlib.Core.List.{List, [], ◌∷◌, ◌++◌, map}
use native.Mathlib.Omega.{arith}
use lib.Dec.{ltb, eqb}
use borrow.Author.Tests.{eq-eqb, ne_eqb, eqb-false, ltb-true, ltb-false}
use Rattle.lists.specs.Ascending.{Ascending}
use Rattle.lists.specs.Each.{Each}
use Rattle.lists.specs.Lists.{any}
use Rattle.lists.proofs.Bools.{split}
use Rattle.protocol.specs.declared.Dialect.{Dialect}
use Rattle.protocol.specs.Refusals.{Row, ◌when◌, dialect_number, dialect_of, unknown_dialect, refusal, path_rows, question_rows, decide_rows, match_rows, normalise_rows, line_rows, decide_refusal, match_refusal, normalise_refusal, line_refusal, unless_refused}
use Rattle.protocol.specs.Meaning.{NoneGiven, FirstGiven, ByTable, is_given, SmallestGiven, SmallestFirst}

-- whatever is answered, or refused with n: by cases, and in each of them
pub unless_either : {A : Type 0} (n : ℕ) (refused : ℕ → A) (answer : A) (P : A → Type 0) → (n ≡ 0 → P answer) → ((n ≡ 0 → ⊥) → P (refused n))
    → P (unless_refused n refused answer)
unfolding unless_refused
unless_either zero refused answer P f g = f refl
unless_either (suc n) refused answer P f g = g (λ e. omega arith)

module _ {A : Type 0} (n : ℕ) (refused : ℕ → A) (answer : A) where
  pub unless_answered : n ≡ 0 → unless_refused n refused answer ≡ answer
  unless_answered e = unless_either n refused answer (λ a. a ≡ answer) (λ z. refl) (λ h. absurd (h e))

  pub unless_refused_lem : (n ≡ 0 → ⊥) → unless_refused n refused answer ≡ refused n
  unless_refused_lem h = unless_either n refused answer (λ a. a ≡ refused n) (λ z. absurd (h z)) (λ h. refl)

-- no number of a row is that of an answer
abbrev pub Numbered : List Row → Type 0
Numbered rows = Each (λ r. 0 < r.number) rows

pub path_numbered : (path : List ℕ) → Numbered (path_rows path)
path_numbered path = omega arith

module _ (r : Row) (rows : List Row) where
  pub refusal_here : r.given ≡ true → refusal (r ∷ rows) ≡ r.number
  unfolding refusal
  refusal_here e = rw e

  pub refusal_on : r.given ≡ false → refusal (r ∷ rows) ≡ refusal rows
  unfolding refusal
  refusal_on e = rw e

-- rows that aren't given leave the refusal to those behind them
refusal_behind : (rows more : List Row) → NoneGiven rows → refusal (rows ++ more) ≡ refusal more
refusal_behind [] more h = refl
refusal_behind (r ∷ rows) more h = refusal_on r (rows ++ more) h.0 ∙ refusal_behind rows more h.1

none_refuses : (rows : List Row) → NoneGiven rows → refusal rows ≡ 0
unfolding refusal
none_refuses [] h = refl
none_refuses (r ∷ rows) h = refusal_on r rows h.0 ∙ none_refuses rows h.1

none_given : (rows : List Row) → Numbered rows → refusal rows ≡ 0 → NoneGiven rows
none_given [] n h = tt
none_given (r ∷ rows) n h =
    split r.given (λ e. absurd (omega (arith, n.0, refusal_here r rows e, h)))
    (λ e. (e, none_given rows n.1 (sym (refusal_on r rows e) ∙ h)))

first_given : (rows : List Row) → (refusal rows ≡ 0 → ⊥) → FirstGiven (refusal rows) rows
unfolding refusal
first_given [] h = absurd (h refl)
first_given (r ∷ rows) h =
    split r.given
    (λ e. record { front = []; back = rows; whole = ap₂ (λ (n : ℕ) (b : Bool). (n when b) ∷ rows) (sym (refusal_here r rows e)) e; ahead = tt })
    (λ e.
    let f = first_given rows (λ z. h (refusal_on r rows e ∙ z)) in
    rw (refusal_on r rows e)
    (record { front = r ∷ f.front; back = f.back; whole = ap (λ (l : List Row). r ∷ l) f.whole; ahead = (e, f.ahead) }))

first_refuses : (rows : List Row) (k : ℕ) → FirstGiven k rows → refusal rows ≡ k
unfolding refusal
first_refuses rows k f = ap refusal f.whole ∙ refusal_behind f.front ((k when true) ∷ f.back) f.ahead

-- Rows refuse as the table says: each number exactly when a row of it is given and none in front of that, and none exactly when no row is
-- given.
pub refusal_by_table : (rows : List Row) → Numbered rows → ByTable rows (refusal rows)
refusal_by_table rows n =
    record {
      refused = λ k h. (λ e. rw e at (first_given rows (λ z. h (sym e ∙ z))), first_refuses rows k);
      answered = (none_given rows n, none_refuses rows);
    }

-- what is refused by the first rows is refused so by all
pub refused_first : (rows more : List Row) → (refusal rows ≡ 0 → ⊥) → refusal (rows ++ more) ≡ refusal rows
unfolding refusal
refused_first [] more h = absurd (h refl)
refused_first (r ∷ rows) more h =
    split r.given (λ e. rw e) (λ e. rw e (refused_first rows more (rw e at h)))

-- what isn't refused by the first rows is up to the others
pub refused_later : (rows more : List Row) → Numbered rows → refusal rows ≡ 0 → refusal (rows ++ more) ≡ refusal more
refused_later rows more n h = refusal_behind rows more (none_given rows n h)

-- where none of the rows refuses, none of the first ones does
pub none_refused : (rows more : List Row) → refusal (rows ++ more) ≡ 0 → refusal rows ≡ 0
unfolding refusal
none_refused [] more h = refl
none_refused (r ∷ rows) more h = split r.given (λ e. rw e (rw e at h)) (λ e. rw e (none_refused rows more (rw e at h)))

-- the numbers of rows
abbrev pub numbers : List Row → List ℕ
numbers rows = map (λ r. r.number) rows

-- rows of greater numbers say nothing of j
later_rows : (rows : List Row) (j k : ℕ) → j ≤ k → Ascending k (numbers rows) → is_given j rows ≡ false
unfolding is_given any
later_rows [] j k h a = refl
later_rows (r ∷ rows) j k h a =
    split r.given
    (λ e. rw (e, ne_eqb r.number j (λ p. omega arith)) (later_rows rows j r.number (omega arith) a.1))
    (λ e. rw e (later_rows rows j r.number (omega arith) a.1))

-- a row that is given, in front of rows of greater numbers
module _ (r : Row) (rows : List Row) (e : r.given ≡ true) (a : Ascending r.number (numbers rows)) where
  smallest_here : is_given r.number (r ∷ rows) ≡ true
  unfolding is_given any
  smallest_here = rw (e, eq-eqb r.number r.number refl)

  none_smaller : (j : ℕ) → j < r.number → is_given j (r ∷ rows) ≡ false
  unfolding is_given any
  none_smaller j h = rw (e, ne_eqb r.number j (λ p. omega arith)) (later_rows rows j r.number (omega arith) a)

  smallest : SmallestFirst (r ∷ rows) r.number
  smallest k h = (
    λ p. subst (λ (n : ℕ). SmallestGiven n (r ∷ rows)) p (smallest_here, none_smaller),
    λ (g, f).
        split (ltb k r.number) (λ l. absurd (true≢false (sym g ∙ none_smaller k (ltb-true k r.number l))))
        (λ l.
        split (ltb r.number k) (λ m. absurd (true≢false (sym smallest_here ∙ f r.number (ltb-true r.number k m))))
        (λ m. omega (arith, ltb-false k r.number l, ltb-false r.number k m))),
  )

-- Rows whose numbers ascend: "the smallest number first"
pub smallest_first : (rows : List Row) (b : ℕ) → Ascending b (numbers rows) → SmallestFirst rows (refusal rows)
unfolding refusal is_given any
smallest_first [] b a = λ k h. (λ e. absurd (h (sym e)), λ f. absurd (true≢false (sym f.0)))
smallest_first (r ∷ rows) b a =
    split r.given (λ e. rw (refusal_here r rows e) (smallest r rows e a.1))
    (λ e. rw e (smallest_first rows r.number a.1))

-- the two dialects have a number each, which is theirs alone
pub dialect_numbered : (d : Dialect) → dialect_of (dialect_number d) ≡ d
unfolding dialect_of
dialect_numbered Dialect.Rfc9309 = refl
dialect_numbered Dialect.Draft1996 = refl

-- the four questions
-- "20 for an unknown dialect, first of all", whatever rows are behind
module _ (n : ℕ) (rows : List Row) where
  pub unknown_dialect_lem : (n ≡ 0 → ⊥) → (n ≡ 1 → ⊥) → refusal (unknown_dialect n ∷ rows) ≡ 20
  unknown_dialect_lem h k = refusal_here (unknown_dialect n) rows (rw (ne_eqb n 0 h, ne_eqb n 1 k))

  pub known_dialect : n ≤ 1 → refusal (unknown_dialect n ∷ rows) ≡ refusal rows
  known_dialect h =
      refusal_on (unknown_dialect n) rows
      (split (eqb n 0) (λ e. rw e) (λ e. let one : n ≡ 1 = omega (arith, eqb-false n 0 e) in rw (e, eq-eqb n 1 one)))

module _ (file name path : List ℕ) where
  pub decide_refusal_by_table : (dialect : ℕ) → ByTable (decide_rows dialect file name path) (decide_refusal dialect file name path)
  unfolding decide_refusal
  decide_refusal_by_table dialect = refusal_by_table (decide_rows dialect file name path) (omega arith)

  pub unknown_refused : (n : ℕ) → (n ≡ 0 → ⊥) → (n ≡ 1 → ⊥) → decide_refusal n file name path ≡ 20
  unfolding decide_refusal
  unknown_refused n h k = unknown_dialect_lem n (question_rows file name path) h k

  -- and otherwise what document 01's rows give, the same in both dialects
  pub known_refusal : (d : Dialect) → decide_refusal (dialect_number d) file name path ≡ refusal (question_rows file name path)
  unfolding decide_refusal
  known_refusal Dialect.Rfc9309 = refusal_on (unknown_dialect 0) (question_rows file name path) refl
  known_refusal Dialect.Draft1996 = refusal_on (unknown_dialect 1) (question_rows file name path) refl

  pub decide_smallest_first : (d : Dialect) → SmallestFirst (question_rows file name path) (decide_refusal (dialect_number d) file name path)
  decide_smallest_first d = rw (known_refusal d) (smallest_first (question_rows file name path) 0 (omega arith))

module _ (pattern path : List ℕ) where
  pub match_refusal_by_table : ByTable (match_rows pattern path) (match_refusal pattern path)
  unfolding match_refusal
  match_refusal_by_table = refusal_by_table (match_rows pattern path) (omega arith)

  pub match_smallest_first : SmallestFirst (match_rows pattern path) (match_refusal pattern path)
  unfolding match_refusal
  match_smallest_first = smallest_first (match_rows pattern path) 0 (omega arith)

module _ (room : ℕ) (path : List ℕ) where
  pub normalise_refusal_by_table : ByTable (normalise_rows room path) (normalise_refusal room path)
  unfolding normalise_refusal
  normalise_refusal_by_table = refusal_by_table (normalise_rows room path) (omega arith)

  pub normalise_smallest_first : SmallestFirst (normalise_rows room path) (normalise_refusal room path)
  unfolding normalise_refusal
  normalise_smallest_first = smallest_first (normalise_rows room path) 0 (omega arith)

module _ (line : List ℕ) where
  pub line_refusal_by_table : ByTable (line_rows line) (line_refusal line)
  unfolding line_refusal
  line_refusal_by_table = refusal_by_table (line_rows line) (omega arith)

  pub line_smallest_first : SmallestFirst (line_rows line) (line_refusal line)
  unfolding line_refusal
  line_smallest_first = smallest_first (line_rows line) 0 (omega arith)
