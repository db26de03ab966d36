-- The literal octets in front of a pattern: it matches where they begin the path and the rest of it matches what is behind them there. Assumes nothing.
use Rattle.std.specs.Prelude.{if◌then◌else◌}
use Prim.Native.Nat.{ℕ, ◌+◌, ◌*◌, ◌≤◌, ◌<◌}
use mathlib.Core.Path.{◌≡◌, refl, sym, ap, subst, ◌∙◌}
use mathlib.Core.Bool.{Bool, true, false, false≢true}
use mathlib.Core.Logic.{◌↔◌}
use mathlib.Core.List.{List, [], ◌∷◌, ◌++◌, drop_last, append_assoc}
use native.Mathlib.Omega.{arith}
use lib.ListN.{length, take, drop, length-append, length-drop, take-append-drop, drop_of_length-le}
use lib.Seq.{length-take-le, drop-append_seam}
use borrow.Author.Tests.{ne_eqb}
use Rattle.lists.specs.Lists.{empty, all}
use Rattle.lists.proofs.Bools.{split, and_left, and_right}
use Rattle.lists.proofs.Tests.{empty_known}
use Rattle.protocol.specs.declared.Dialect.{Dialect}
use Rattle.protocol.specs.declared.Walked.{Walked}
use Rattle.protocol.specs.Text.{ends}
use Rattle.protocol.specs.Normal.{normal, normal_path}
use Rattle.protocol.specs.Pattern.{Shape, raw_text, shape_of, plain_shape, shape_in, weight}
use Rattle.protocol.specs.Matching.{filled, Matches}
use Rattle.protocol.specs.Walk.{first, walk}
use Rattle.protocol.proofs.Sizes.{weight_in_size}
use Rattle.protocol.proofs.Found.{walk_finds}
use Rattle.protocol.proofs.Plain.{plain_walk, plain_begins}
use Rattle.normal.specs.Literal.{literal}
use Rattle.normal.proofs.Steps.{normal_kept}
use Rattle.normal.proofs.Literal.{literal_not, literal_kept, literal_normal, front_known}
use Rattle.walk.specs.Weights.{weighed}
use Rattle.considering.proofs.Weighs.{some_weight}
use Rattle.tables.specs.Tables.{front_of}
use Rattle.leading.specs.Leading.{whole_weight}

-- a shape with octets in front
abbrev behind : List ℕ → Shape → Shape
behind f s = record { text = f ++ s.text; end_mark = s.end_mark }

-- two tests of which each passes where the other does
same_test : (a b : Bool) → (a ≡ true) ↔ (b ≡ true) → a ≡ b
same_test true b (there, back) = sym (there refl)
same_test false b (there, back) = split b (λ e. back e ∙ sym e) (λ e. sym e)

-- literal octets are left as they are, and end nothing
front_normal : (stars : Bool) (f l : List ℕ) → all literal f ≡ true → normal stars 0 (f ++ l) ≡ f ++ normal stars 0 l
unfolding all
front_normal stars [] l h = refl
front_normal stars (x ∷ f) l h =
    normal_kept stars x (f ++ l) (literal_kept x (and_left (literal x) (all literal f) h) stars)
    ∙ ap (λ (m : List ℕ). x ∷ m) (front_normal stars f l (and_right (literal x) (all literal f) h))

front_ends : (f l : List ℕ) → all literal f ≡ true → ends "$" (f ++ l) ≡ ends "$" l
unfolding all ends
front_ends [] l h = refl
front_ends (x ∷ f) l h =
    let on = front_ends f l (and_right (literal x) (all literal f) h) in
    split (empty (f ++ l))
    (λ e.
    rw e (literal_not x (and_left (literal x) (all literal f) h) "$" (omega arith) ∙ ap (ends "$") (sym (empty_known (f ++ l) e)) ∙ on))
    (λ e. rw e on)

front_last : (f : List ℕ) (x : ℕ) (l : List ℕ) → drop_last (f ++ (x ∷ l)) ≡ f ++ drop_last (x ∷ l)
front_last [] x l = refl
front_last (y ∷ []) x l = refl
front_last (y ∷ z ∷ f) x l = ap (λ (m : List ℕ). y ∷ m) (front_last (z ∷ f) x l)

front_text : (f l : List ℕ) → all literal f ≡ true → raw_text (f ++ l) ≡ f ++ raw_text l
unfolding raw_text ends
front_text f [] h = rw (front_ends f [] h)
front_text f (x ∷ l) h = split (ends "$" (x ∷ l)) (λ e. rw (front_ends f (x ∷ l) h, e) (front_last f x l)) (λ e. rw (front_ends f (x ∷ l) h, e))

front_shape : (d : Dialect) (f l : List ℕ) → all literal f ≡ true → shape_in d (f ++ l) ≡ behind f (shape_in d l)
unfolding shape_in shape_of normal_path
front_shape Dialect.Rfc9309 f l h = rw (front_text f l h, front_normal true f (raw_text l) h, front_ends f l h)
front_shape Dialect.Draft1996 f l h = rw (front_normal false f l h)

front_weight : (f : List ℕ) (s : Shape) → weight (behind f s) ≡ length f + weight s
unfolding weight
front_weight f s = omega (arith, length-append f s.text)

-- none of them is a star
front_filled : (f t : List ℕ) (fillings : List (List ℕ)) → all literal f ≡ true → filled (f ++ t) fillings ≡ f ++ filled t fillings
unfolding all filled
front_filled [] t fillings h = refl
front_filled (x ∷ f) t fillings h =
    rw (literal_not x (and_left (literal x) (all literal f) h) "*" (omega arith))
    (ap (λ (m : List ℕ). x ∷ m) (front_filled f t fillings (and_right (literal x) (all literal f) h)))

module _ (f : List ℕ) (h : all literal f ≡ true) where
  front_path : normal_path f ≡ f
  unfolding normal_path
  front_path = literal_normal false f h

  -- as a run by themselves they stand where they begin the path
  run_begins : (path : List ℕ) → ((first false f path).stood ≡ true) ↔ ((back : List ℕ) × (f ++ back ≡ path))
  run_begins path =
      let one : (walk (plain_shape f) path).stood ≡ (first false f path).stood =
      ap (λ (w : Walked). w.stood) (plain_walk f path) ∙ ap (λ (m : List ℕ). (first false m path).stood) front_path in
      let (there, back) = plain_begins f path in (
        λ e. let (b, g) = there (one ∙ e) in (b, ap (λ (m : List ℕ). m ++ b) (sym front_path) ∙ g),
        λ (b, g). sym one ∙ back (b, ap (λ (m : List ℕ). m ++ b) front_path ∙ g),
      )

  module _ (s : Shape) where
    -- what a pattern with them in front matches begins with them, and the rest of the pattern matches what is behind them
    matches_begins : (path : List ℕ) → Matches (behind f s) path → (back : List ℕ) × (f ++ back ≡ path) × Matches s back
    matches_begins path m =
        let back = filled s.text m.fillings ++ m.rest in (
          back,
          sym (append_assoc f (filled s.text m.fillings) m.rest)
              ∙ ap (λ (l : List ℕ). l ++ m.rest) (sym (front_filled f s.text m.fillings h))
              ∙ m.gives,
          record { fillings = m.fillings; rest = m.rest; gives = refl; whole = m.whole },
        )

    matches_behind : (back : List ℕ) → Matches s back → Matches (behind f s) (f ++ back)
    matches_behind back m =
        record {
          fillings = m.fillings;
          rest = m.rest;
          gives =
              ap (λ (l : List ℕ). l ++ m.rest) (front_filled f s.text m.fillings h)
              ∙ append_assoc f (filled s.text m.fillings) m.rest
              ∙ ap (λ (l : List ℕ). f ++ l) m.gives;
          whole = m.whole;
        }

    -- so the whole pattern's walk stands where that of its rest does, behind them, and nowhere else
    walk_behind : (back : List ℕ) → (walk (behind f s) (f ++ back)).stood ≡ (walk s back).stood
    walk_behind back =
        let (there, return) = walk_finds (behind f s) (f ++ back) in
        let (on, off) = walk_finds s back in
        same_test _ _ (
          λ e.
              let (b, g, m) = matches_begins (f ++ back) (there e) in
              let same : b ≡ back = sym (drop-append_seam f b) ∙ ap (drop (length f)) g ∙ drop-append_seam f back in
              off (subst (Matches s) same m),
          λ e. return (matches_behind back (on e)),
        )

    walk_other : (path : List ℕ) → (first false f path).stood ≡ false → (walk (behind f s) path).stood ≡ false
    walk_other path e =
        split (walk (behind f s) path).stood
        (λ t.
        let (b, g, m) = matches_begins path ((walk_finds (behind f s) path).0 t) in
        absurd (false≢true (sym e ∙ (run_begins path).1 (b, g))))
        (λ t. t)

-- the same of a pattern's weight, where it matches
module _ (d : Dialect) (f l : List ℕ) (h : all literal f ≡ true) where
  weighed_behind : (back : List ℕ) → (weighed d (f ++ l) (f ++ back)).weight ≡ (if (walk (shape_in d l) back).stood then length f + weight (shape_in d l) else 0)
  unfolding weighed
  weighed_behind back = rw (front_shape d f l h, walk_behind f h (shape_in d l) back, front_weight f (shape_in d l))

  weighed_unmatched : (path : List ℕ) → (first false f path).stood ≡ false → (weighed d (f ++ l) path).weight ≡ 0
  unfolding weighed
  weighed_unmatched path e = rw (front_shape d f l h, walk_other f h (shape_in d l) path e)

-- an empty pattern matches everything and weighs nothing
empty_matches : (d : Dialect) (path : List ℕ) → Matches (shape_in d []) path
unfolding shape_in shape_of raw_text ends normal_path normal filled
empty_matches Dialect.Rfc9309 path = record { fillings = []; rest = path; gives = refl; whole = λ z. absurd (false≢true z) }
empty_matches Dialect.Draft1996 path = record { fillings = []; rest = path; gives = refl; whole = λ z. absurd (false≢true z) }

empty_weight : (d : Dialect) → weight (shape_in d []) ≡ 0
unfolding weight shape_in shape_of raw_text ends normal_path normal
empty_weight Dialect.Rfc9309 = refl
empty_weight Dialect.Draft1996 = refl

rest_weight : (d : Dialect) (l : List ℕ) → 0 < length l → 1 ≤ weight (shape_in d l)
rest_weight d [] h = absurd (omega (arith, h))
rest_weight d (x ∷ l) h = some_weight d x l

-- what a rest that isn't empty weighs where it matches, and what the whole pattern does
whole_weight_lem : (n w : ℕ) (b : Bool) → 1 ≤ w → (if b then n + w else 0) ≡ whole_weight n (if b then w else 0)
whole_weight_lem n w true h = rw (ne_eqb w 0 (λ e. omega (arith, h, e)))
whole_weight_lem n w false h = refl

-- n literal octets in front of a pattern, as a run by themselves
module _ (d : Dialect) (pattern path : List ℕ) (n : ℕ) (h : n ≡ front_of pattern) where
  abbrev f : List ℕ
  f = take n pattern

  abbrev rest : List ℕ
  rest = drop n pattern

  size : length f ≡ n
  size = length-take-le n pattern (front_known pattern n h).0

  parts : f ++ rest ≡ pattern
  parts = take-append-drop n pattern

  -- that fails
  pub weighed_failed : (first false f path).stood ≡ false → (weighed d pattern path).weight ≡ 0
  weighed_failed e =
      ap (λ (l : List ℕ). (weighed d l path).weight) (sym parts) ∙ weighed_unmatched d f rest (front_known pattern n h).1 path e

  -- that stands
  module _ (e : (first false f path).stood ≡ true) where
    begun : (back : List ℕ) × (f ++ back ≡ path)
    begun = (run_begins f (front_known pattern n h).1 path).0 e

    path_parts : f ++ drop n path ≡ path
    path_parts =
        let (b, g) = begun in
        let same : drop n path ≡ b = ap (λ (k : ℕ). drop k path) (sym size) ∙ ap (drop (length f)) (sym g) ∙ drop-append_seam f b in
        ap (λ (l : List ℕ). f ++ l) same ∙ g

    pub front_inside : n ≤ length path
    front_inside = omega (arith, size, ap length path_parts, length-append f (drop n path))

    weighed_parts : (weighed d pattern path).weight ≡ (if (walk (shape_in d rest) (drop n path)).stood then n + weight (shape_in d rest) else 0)
    weighed_parts =
        ap (λ (l : List ℕ). (weighed d l path).weight) (sym parts)
        ∙ ap (λ (p : List ℕ). (weighed d (f ++ rest) p).weight) (sym path_parts)
        ∙ weighed_behind d f rest (front_known pattern n h).1 (drop n path)
        ∙ ap (λ (k : ℕ). if (walk (shape_in d rest) (drop n path)).stood then k + weight (shape_in d rest) else 0) size

    pub weighed_whole : n ≡ length pattern → (weighed d pattern path).weight ≡ n
    weighed_whole q =
        let none : rest ≡ [] = drop_of_length-le pattern {i = n} (omega (arith, q)) in
        let stands : (walk (shape_in d []) (drop n path)).stood ≡ true = (walk_finds (shape_in d []) (drop n path)).1 (empty_matches d (drop n path)) in
        weighed_parts ∙ rw (none, stands, empty_weight d) (omega arith)

    pub weighed_rest : n < length pattern → (weighed d pattern path).weight ≡ whole_weight n (weighed d rest (drop n path)).weight
    unfolding weighed
    weighed_rest l =
        weighed_parts ∙ whole_weight_lem n (weight (shape_in d rest)) (walk (shape_in d rest) (drop n path)).stood (rest_weight d rest (omega (arith, l, length-drop n pattern)))

-- A weight is at most three times the pattern's octets.
pub weighed_size : (d : Dialect) (pattern path : List ℕ) → (weighed d pattern path).weight ≤ 3 * length pattern
unfolding weighed
weighed_size d pattern path =
    split (walk (shape_in d pattern) path).stood (λ e. rw e (weight_in_size d pattern)) (λ e. rw e (omega arith))
