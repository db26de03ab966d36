-- A pattern of literal octets is one run without an end mark, as it stands; those in front of any pattern are in its first run. Assumes nothing.
use Prim.Native.Nat.{ℕ, ◌≤◌, ◌<◌}
use mathlib.Core.Path.{◌≡◌, refl, sym, ap, ◌∙◌}
use mathlib.Core.Bool.{Bool, true, false, not, true≢false}
use mathlib.Core.List.{List, [], ◌∷◌, drop_last}
use native.Mathlib.Omega.{arith}
use lib.ListN.{length}
use borrow.Author.Tests.{eq-eqb, ne_eqb}
use Rattle.lists.specs.Lists.{empty, all, up_to}
use Rattle.lists.proofs.Bools.{split, and_left, and_right}
use Rattle.lists.proofs.Parts.{up_to_stop, up_to_on}
use Rattle.lists.proofs.Scans.{all_found}
use Rattle.protocol.specs.declared.Dialect.{Dialect}
use Rattle.protocol.specs.Text.{ends}
use Rattle.protocol.specs.Normal.{normal, normal_path}
use Rattle.protocol.specs.Pattern.{Shape, raw_text, shape_of, plain_shape, shape_in, weight, is_star, first_run, later_runs}
use Rattle.protocol.specs.Walk.{failed, first, is_last, later, walk_runs, walk}
use Rattle.protocol.proofs.Steps.{first_short, later_kept}
use Rattle.normal.specs.Literal.{literal, not_literal}
use Rattle.walk.specs.Texts.{walk_scratch, scratch_of}
use Rattle.normal.proofs.Steps.{normal_kept}
use Rattle.normal.proofs.Literal.{literal_not, literal_kept, literal_normal}

-- a pattern of literal octets
record Literal (l : List ℕ) : Type 0 where
  unmarked : ends "$" l ≡ false
  first_whole : first_run l ≡ l
  later_none : later_runs l ≡ []

literal_known : (l : List ℕ) → all literal l ≡ true → Literal l
unfolding all ends first_run later_runs up_to
literal_known [] h = record { unmarked = refl; first_whole = refl; later_none = refl }
literal_known (x ∷ l) h =
    let p : literal x ≡ true = and_left (literal x) (all literal l) h in
    let k : Literal l = literal_known l (and_right (literal x) (all literal l) h) in
    record {
      unmarked = split (empty l) (λ e. rw e (literal_not x p "$" (omega arith))) (λ e. rw e k.unmarked);
      first_whole = rw (literal_not x p "*" (omega arith)) (ap (λ (m : List ℕ). x ∷ m) k.first_whole);
      later_none = rw (literal_not x p "*" (omega arith)) k.later_none;
    }

module _ (l : List ℕ) (h : all literal l ≡ true) where
  -- its shape is the same in both dialects
  literal_shape : (d : Dialect) → shape_in d l ≡ record { text = l; end_mark = false }
  unfolding shape_in shape_of raw_text normal_path
  literal_shape Dialect.Rfc9309 = rw (literal_known l h).unmarked (rw (literal_normal true l h))
  literal_shape Dialect.Draft1996 = rw (literal_normal false l h)

  pub literal_walk : (d : Dialect) (path : List ℕ) → walk (shape_in d l) path ≡ first false l path
  unfolding walk walk_runs later
  literal_walk d path =
      let k : Literal l = literal_known l h in
      rw (literal_shape d) (rw k.later_none (rw k.first_whole))

  pub literal_weight : (d : Dialect) → weight (shape_in d l) ≡ length l
  unfolding weight
  literal_weight d = rw (literal_shape d) (omega arith)

-- the literal octets in front are all there are exactly where all are literal
module _ (l : List ℕ) where
  pub all_literal : length (up_to not_literal l) ≡ length l → all literal l ≡ true
  all_literal h = sym (all_found literal l) ∙ eq-eqb _ _ h

  pub some_other : (length (up_to not_literal l) ≡ length l → ⊥) → all literal l ≡ false
  some_other h = sym (all_found literal l) ∙ ne_eqb _ _ h

  module _ (path : List ℕ) where
    pub literal_walked : length (up_to not_literal l) ≡ length l → first false l path ≡ walk (shape_of l) path
    unfolding shape_in
    literal_walked h = sym (literal_walk l (all_literal h) Dialect.Rfc9309 path)

    pub literal_scratch : (scratch : List ℕ) → length (up_to not_literal l) ≡ length l → scratch ≡ scratch_of l path scratch
    unfolding scratch_of
    literal_scratch scratch h = rw (all_literal h)

    pub other_scratch : (scratch : List ℕ) → (length (up_to not_literal l) ≡ length l → ⊥) → walk_scratch l path scratch ≡ scratch_of l path scratch
    unfolding scratch_of
    other_scratch scratch h = rw (some_other h)

-- the literal octets in front of a pattern are in its first run, and so is what normalising leaves of them
front_of_run : (stars : Bool) (l : List ℕ) → length (up_to not_literal l) ≤ length (first_run (normal stars 0 l))
unfolding first_run normal up_to
front_of_run stars [] = omega arith
front_of_run stars (x ∷ l) =
    split (literal x)
    (λ e.
    rw (up_to_on not_literal x l (ap not e), normal_kept stars x l (literal_kept x e stars), up_to_on is_star x (normal stars 0 l) (literal_not x e "*" (omega arith)))
    (omega (arith, front_of_run stars l)))
    (λ e. rw (up_to_stop not_literal x l (ap not e)) (omega arith))

-- the end mark is none of them
front_of_text : (raw : List ℕ) → ends "$" raw ≡ true → up_to not_literal (drop_last raw) ≡ up_to not_literal raw
unfolding ends up_to
front_of_text [] h = refl
front_of_text (x ∷ []) h = split (literal x) (λ e. absurd (true≢false (sym h ∙ literal_not x e "$" (omega arith)))) (λ e. rw e)
front_of_text (x ∷ y ∷ l) h = split (literal x) (λ e. rw e (ap (λ (m : List ℕ). x ∷ m) (front_of_text (y ∷ l) h))) (λ e. rw e)

front_raw : (raw : List ℕ) → up_to not_literal (raw_text raw) ≡ up_to not_literal raw
unfolding raw_text
front_raw raw = split (ends "$" raw) (λ h. rw h (front_of_text raw h)) (λ h. rw h)

-- where they are more than the path's, the first run fails at no cost
first_fails : (s : Shape) (path : List ℕ) → length path < length (first_run s.text) → walk s path ≡ failed 0
unfolding walk walk_runs
first_fails s path l =
    let rs = later_runs s.text in
    ap (later s.end_mark rs path) (first_short (first_run s.text) path (is_last s.end_mark rs) l) ∙ later_kept s.end_mark rs path (failed 0) refl

pub front_fails : (d : Dialect) (raw path : List ℕ) → length path < length (up_to not_literal raw) → walk (shape_in d raw) path ≡ failed 0
unfolding shape_in shape_of normal_path
front_fails Dialect.Rfc9309 raw path h =
    first_fails (shape_of raw) path (omega (arith, h, ap length (front_raw raw), front_of_run true (raw_text raw)))
front_fails Dialect.Draft1996 raw path h = first_fails (plain_shape raw) path (omega (arith, h, front_of_run false raw))
