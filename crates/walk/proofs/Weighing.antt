-- A walk with the pattern's weight, found or not, and the scratch after it. Assumes nothing.
use Prim.Native.Nat.{ℕ, ◌≤◌, ◌<◌}
use mathlib.Core.Path.{◌≡◌, refl, sym, ap, ◌∙◌}
use mathlib.Core.Bool.{true, false, false≢true}
use mathlib.Core.List.{List}
use native.Mathlib.Omega.{arith}
use lib.ListN.{length}
use lib.Dec.{leb}
use borrow.Author.Tests.{leb-true, leb-false, lt-ltb, le-ltb}
use Rattle.lists.proofs.Bools.{split}
use Rattle.lists.specs.Lists.{all, up_to}
use Rattle.protocol.specs.declared.Dialect.{Dialect}
use Rattle.protocol.specs.declared.Tried.{Tried}
use Rattle.protocol.specs.declared.Walked.{Walked}
use Rattle.protocol.specs.Pattern.{shape_in, weight}
use Rattle.protocol.specs.Walk.{tried, placed, failed, first, walk}
use Rattle.protocol.specs.Normal.{normal_path}
use Rattle.protocol.proofs.Steps.{first_short, first_in}
use Rattle.protocol.proofs.Plain.{plain_walk, plain_weight}
use Rattle.normal.specs.Literal.{literal, not_literal}
use Rattle.normal.specs.Runs.{run_scratch}
use Rattle.walk.specs.Texts.{walk_scratch, scratch_in, weigh_scratch}
use Rattle.walk.specs.Weights.{weighed_walk, weighed}
use Rattle.walk.proofs.Literal.{all_literal, some_other, literal_walk, literal_weight, front_fails}

module _ (d : Dialect) (pattern path : List ℕ) where
  module _ (w : Walked) (h : w ≡ walk (shape_in d pattern) path) where
    pub weighed_not_found : w.stood ≡ false → weighed_walk w 0 ≡ weighed d pattern path
    unfolding weighed
    weighed_not_found e = rw (← h, e)

    pub weighed_found : (n : ℕ) → n ≡ weight (shape_in d pattern) → weighed_walk w n ≡ weighed d pattern path
    unfolding weighed
    weighed_found n q = rw (h, q)

  pub weighed_whole : length (up_to not_literal pattern) ≡ length pattern → weighed_walk (first false pattern path) (length pattern) ≡ weighed d pattern path
  unfolding weighed
  weighed_whole h =
      let l : all literal pattern ≡ true = all_literal pattern h in rw (literal_walk pattern l d path, literal_weight pattern l d)

  pub weighed_front : length path < length (up_to not_literal pattern) → weighed_walk (failed 0) 0 ≡ weighed d pattern path
  weighed_front h = weighed_not_found (failed 0) (sym (front_fails d pattern path h)) refl

  -- the scratch, by what is known of the literal octets in front
  module _ (scratch : List ℕ) where
    pub scratch_front : length path < length (up_to not_literal pattern) → scratch ≡ weigh_scratch d pattern path scratch
    unfolding weigh_scratch
    scratch_front h = rw (lt-ltb (length path) (length (up_to not_literal pattern)) h)

    module _ (h : length (up_to not_literal pattern) ≤ length path) where
      pub scratch_whole : length (up_to not_literal pattern) ≡ length pattern → scratch ≡ weigh_scratch d pattern path scratch
      unfolding weigh_scratch
      scratch_whole e = rw (le-ltb (length path) (length (up_to not_literal pattern)) h, all_literal pattern e)

      pub scratch_walked : all literal pattern ≡ false → scratch_in d pattern path scratch ≡ weigh_scratch d pattern path scratch
      unfolding weigh_scratch
      scratch_walked e = rw (le-ltb (length path) (length (up_to not_literal pattern)) h, e)

      pub scratch_starred : (length (up_to not_literal pattern) ≡ length pattern → ⊥) → d ≡ Dialect.Rfc9309
          → walk_scratch pattern path scratch ≡ weigh_scratch d pattern path scratch
      unfolding scratch_in
      scratch_starred e f = ap (λ (x : Dialect). scratch_in x pattern path scratch) (sym f) ∙ scratch_walked (some_other pattern e)

      pub scratch_plain : (length (up_to not_literal pattern) ≡ length pattern → ⊥) → d ≡ Dialect.Draft1996
          → run_scratch false pattern scratch ≡ weigh_scratch d pattern path scratch
      unfolding scratch_in
      scratch_plain e f = ap (λ (x : Dialect). scratch_in x pattern path scratch) (sym f) ∙ scratch_walked (some_other pattern e)

-- one run: where it stands, it covers as much of the path as it weighs
placed_covers : (n : ℕ) (x : Tried) → (placed n 0 x).stood ≡ true → (placed n 0 x).past ≡ n
placed_covers n x h =
    split x.stood (λ e. rw e (omega arith)) (λ e. let z : false ≡ true = rw e at h in absurd (false≢true z))

first_covers : (run path : List ℕ) → (first false run path).stood ≡ true → (first false run path).past ≡ length run
first_covers run path h =
    split (leb (length run) (length path))
    (λ l.
    let e = first_in run path false (leb-true _ _ l) (λ z. absurd (false≢true z)) in
    rw e (placed_covers (length run) (tried run path 0) (rw e at h)))
    (λ l. absurd (false≢true (ap (λ (v : Walked). v.stood) (sym (first_short run path false (leb-false _ _ l))) ∙ h)))

pub weighed_plain : (pattern path : List ℕ) (w : Walked) → w ≡ first false (normal_path pattern) path
    → weighed_walk w w.past ≡ weighed Dialect.Draft1996 pattern path
unfolding weighed shape_in
weighed_plain pattern path w e =
    rw (e, plain_walk pattern path, plain_weight pattern)
    (split (first false (normal_path pattern) path).stood
    (λ h. rw (h, first_covers (normal_path pattern) path h))
    (λ h. rw h))
