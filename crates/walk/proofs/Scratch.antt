-- What is written to the front of lent memory is read there: one raw run in the scratch, or how long one is that doesn't fit. Assumes nothing.
use Prim.Native.Nat.{ℕ, ◌≤◌, ◌<◌}
use mathlib.Core.Path.{◌≡◌, sym}
use mathlib.Core.Bool.{Bool}
use mathlib.Core.List.{List}
use native.Mathlib.Omega.{arith}
use lib.ListN.{length, take}
use lib.Seq.{take-append_seam, length-take-le}
use lib.Dec.{leb}
use borrow.Author.Tests.{leb-true, leb-false}
use Rattle.lists.proofs.Bools.{split}
use Rattle.protocol.specs.Answers.{at_front}
use Rattle.std.proofs.Common.{Some, None}
use Rattle.normal.specs.Runs.{normal_run, run_of, run_scratch}

-- what is written to the front is read there
pub front_read : (v memory l : List ℕ) (n : ℕ) → n ≡ length v → l ≡ at_front v memory → take n l ≡ v
front_read v memory l n h e = rw (h, e) (take-append_seam v _)

-- a run that fits is read where it was written, and one that doesn't is longer than the scratch
module _ (stars : Bool) (run scratch : List ℕ) where
  pub run_room : (n : ℕ) → run_of stars run scratch ≡ Some n → n ≤ length scratch
  unfolding run_of
  run_room n e =
      split (leb (length (normal_run stars run)) (length scratch))
      (λ f. let q : n ≡ length (normal_run stars run) = cc (rw f at e) in omega (arith, q, leb-true (length (normal_run stars run)) (length scratch) f))
      (λ f. cc (rw f at e))

  pub run_taken : (n : ℕ) (m : List ℕ) → run_of stars run scratch ≡ Some n → length m ≡ length scratch → n ≡ length (take n m)
  run_taken n m e k = sym (length-take-le n m (omega (arith, run_room n e)))

  pub run_read : (n : ℕ) → run_of stars run scratch ≡ Some n → take n (run_scratch stars run scratch) ≡ normal_run stars run
  unfolding run_of run_scratch
  run_read n e =
      split (leb (length (normal_run stars run)) (length scratch))
      (λ f. let q : n ≡ length (normal_run stars run) = cc (rw f at e) in front_read (normal_run stars run) scratch (run_scratch stars run scratch) n q (rw f))
      (λ f. cc (rw f at e))

  pub run_outgrows : run_of stars run scratch ≡ None → length scratch < length (normal_run stars run)
  unfolding run_of
  run_outgrows e =
      split (leb (length (normal_run stars run)) (length scratch)) (λ f. cc (rw f at e)) (λ f. leb-false _ _ f)
