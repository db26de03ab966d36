-- The table of field names holds the protocol's names. Assumes nothing.
use Prim.Native.Nat.{ℕ, ◌-◌, ◌≤◌, ◌<◌}
use Prim.Native.String.{String}
use mathlib.Core.Path.{◌≡◌, refl, ap, ◌∙◌}
use mathlib.Core.List.{List, [], ◌∷◌, ◌++◌, map}
use native.Mathlib.Omega.{arith}
use lib.ListN.{length, get_or, take, replicate}
use Rattle.protocol.specs.declared.Side.{Side}
use Rattle.protocol.specs.Text.{octets, same_ignoring_case}
use Rattle.fields.specs.declared.Field.{Field}
use Rattle.fields.specs.Names.{name_of, name_length, row_of, begins_name}

-- FIELDS of the crate protocol: each name, and zeros behind it
abbrev pub fields : List (List ℕ)
fields = map (λ (name : String). octets name ++ replicate (10 - length (octets name)) 0) ("user-agent" ∷ "allow" ∷ "disallow" ∷ [])

pub row_name : (f : Field) → take (name_length f) (get_or fields (row_of f) []) ≡ octets (name_of f)
unfolding octets
row_name Field.Agent = refl
row_name (Field.Rule Side.Allow) = refl
row_name (Field.Rule Side.Disallow) = refl

pub row_most : (f : Field) → row_of f < 3
row_most Field.Agent = omega arith
row_most (Field.Rule Side.Allow) = omega arith
row_most (Field.Rule Side.Disallow) = omega arith

pub name_most : (f : Field) → name_length f ≤ 10
unfolding octets
name_most Field.Agent = omega arith
name_most (Field.Rule Side.Allow) = omega arith
name_most (Field.Rule Side.Disallow) = omega arith

pub name_in_row : (f : Field) (row size : ℕ) → row ≡ row_of f → size ≡ name_length f → size ≤ length (get_or fields row [])
unfolding octets
name_in_row Field.Agent row size p q = rw p (omega (arith, q))
name_in_row (Field.Rule Side.Allow) row size p q = rw p (omega (arith, q))
name_in_row (Field.Rule Side.Disallow) row size p q = rw p (omega (arith, q))

-- a text begins with the front of a row that is the name
module _ (s : List ℕ) (f : Field) (row size : ℕ) (p : row ≡ row_of f) (q : size ≡ name_length f) where
  name_told : take size (get_or fields row []) ≡ octets (name_of f)
  name_told = ap (λ (n : ℕ). take n (get_or fields row [])) q ∙ ap (λ (i : ℕ). take (name_length f) (get_or fields i [])) p ∙ row_name f

  pub begins_row : same_ignoring_case (take (length (take size (get_or fields row []))) s) (take size (get_or fields row [])) ≡ begins_name f s
  begins_row = ap (λ (w : List ℕ). same_ignoring_case (take (length w) s) w) name_told
