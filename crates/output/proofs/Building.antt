-- A line that is built from its end to its beginning, one text in front of the other. Assumes nothing.
use Prim.Native.Nat.{ℕ, zero, suc, ◌+◌, ◌-◌, ◌≤◌}
use mathlib.Core.Path.{◌≡◌, refl, sym, ap, ◌∙◌}
use mathlib.Core.List.{List, [], ◌∷◌, ◌++◌, append-nil}
use native.Mathlib.Omega.{arith}
use lib.ListN.{length, take, replicate, length-append, take-append-drop}
use lib.Seq.{drop-length}
use Rattle.output.specs.Before.{before}
use Rattle.output.specs.declared.line.Line.TheInside.{Inside}
use Rattle.output.specs.Written.{written, ZerosInFront, Holds}
use Rattle.output.proofs.Fronts.{take_before, drop_before, length_before, before_append}

-- a text of at most n octets stands at the end of memory that held l, from the place `at` on
pub record Built (l : List ℕ) (n : ℕ) (text : List ℕ) (at : ℕ) (memory : List ℕ) : Type 0 where
  pub size : length text ≤ n
  pub place : at ≡ length l - length text
  pub octets : memory ≡ before text (length l) l

pub built_none : (l : List ℕ) → Built l 0 [] (length l) l
unfolding before
built_none l =
    let e : length l - 0 ≡ length l = omega arith in
    record { size = omega arith; place = omega arith; octets = rw e (sym (take-append-drop (length l) l)) }

module _ {l text : List ℕ} {n at : ℕ} {memory : List ℕ} (b : Built l n text at memory) (m : ℕ) (h : m + n ≤ length l) where
  -- there is room for m octets more
  pub built_room : (k : ℕ) → k ≤ m → (k ≤ at) × (at ≤ length memory)
  built_room k i =
      let size = ap length b.octets ∙ length_before text l (length l) (omega arith) (omega arith) in
      (omega (arith, b.place), omega (arith, b.place, size))

  -- and these are put in front
  pub build_on : (a : List ℕ) {at' : ℕ} {memory' : List ℕ} → length a ≤ m → at' ≡ at - length a → memory' ≡ before a at memory
      → Built l (m + n) (a ++ text) at' memory'
  build_on a i p e =
      record {
        size = simp length-append (omega (arith, b.size));
        place = p ∙ simp length-append (omega (arith, b.place));
        octets = e ∙ rw (b.place, b.octets) (before_append a text l (length l) (omega (arith, b.size)) (omega arith));
      }

take_replicate : {A : Type 0} (n m : ℕ) (x : A) → n ≤ m → take n (replicate m x) ≡ replicate n x
take_replicate zero m x h = refl
take_replicate (suc n) zero x h = absurd (omega arith)
take_replicate (suc n) (suc m) x h = ap (λ l. x ∷ l) (take_replicate n m x (omega arith))

-- the memory that a line is built in
unfoldable pub zeros : List ℕ
zeros = replicate 96 0

length_zeros : length zeros ≡ 96
unfolding zeros
length_zeros = refl

take_zeros : (n : ℕ) → n ≤ 96 → take n zeros ≡ replicate n 0
unfolding zeros
take_zeros n h = take_replicate n 96 0 h

-- any line holds what it says, with zeros in front
pub line_holds : (l : Inside) → ZerosInFront l → length l.octets ≡ 96 → Holds (written l) l
line_holds l z e = record { octets = refl; zeros = z.1; inside = z.0; size = e }

-- and so does one that was built text by text
pub built_holds : {n start : ℕ} {text octets : List ℕ} → Built zeros n text start octets → n ≤ 96 → Holds text (record { octets = octets; start = start })
built_holds {n} {start} {text} {octets} b h =
    let room : length zeros ≡ 96 = length_zeros in
    let fits : length text ≤ length zeros = omega (arith, b.size) in
    let all : length zeros ≤ length zeros = omega arith in
    let front : length zeros - length text ≤ 96 = omega arith in
    record {
      octets = rw (b.place, b.octets, drop_before text zeros (length zeros) fits all, drop-length zeros) (append-nil text);
      zeros =
          rw (b.place, b.octets, take_before text zeros (length zeros) fits all (length zeros - length text) (omega arith))
          (take_zeros (length zeros - length text) front);
      inside = omega (arith, b.place);
      size = rw (b.octets, length_before text zeros (length zeros) fits all) room;
    }
